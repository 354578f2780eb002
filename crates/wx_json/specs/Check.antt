-- What a check keeps of the bytes that it was given.
use Rattle.std.specs.Prelude.{◌≡◌, ℕ, suc, List, [], ◌∷◌, Bool, true, false}
use Rattle.wx_json.specs.Machine.{State, dead, at, next}
use Rattle.wx_json.specs.Coding.{code}
use Rattle.wx_json.specs.Mode.{Mode}
use Rattle.wx_json.specs.Mode.{value}
use Rattle.wx_json.specs.Coding.{Coding}
use Rattle.wx_json.specs.Coding.{whole, wants, broken}
use Rattle.wx_json.specs.declared.JsonKind.TheVariants.{Syntax, Utf8, TooDeep}
use Rattle.wx_json.specs.declared.JsonFault.{JsonFault}

-- How far it is: how many bytes it has taken, where both automata stand, how many levels may still be opened, and the
-- open containers, the innermost first; or the fault that it found.
pub data Progress : Type 0 where
  running : ℕ → Coding → Mode → ℕ → List Bool → Progress
  failed : JsonFault → Progress

-- after a byte that leads the grammar's automaton there, and that of UTF-8 to u
abbrev pub moved : ℕ → Coding → State → Progress
moved k u (dead true) = failed (record { place = k; kind = TooDeep })
moved k u (dead false) = failed (record { place = k; kind = Syntax })
moved k u (at m n σ) = running (suc k) u m n σ

-- the same, where the byte may be at fault in UTF-8, which comes first
abbrev pub coded : ℕ → Coding → State → Progress
coded k whole s = moved k whole s
coded k (wants low high n) s = moved k (wants low high n) s
coded k broken s = failed (record { place = k; kind = Utf8 })

-- one more byte, and more bytes
abbrev pub advance : Progress → ℕ → Progress
advance (running k u m n σ) c = coded k (code u c) (next m n σ c)
advance (failed f) c = failed f

abbrev pub advances : Progress → List ℕ → Progress
advances p [] = p
advances p (c ∷ t) = advances (advance p c) t

abbrev pub beginning : Progress
beginning = running 0 whole value 1024 []

-- how many bytes have been taken
abbrev pub taken : Progress → ℕ
taken (running k u m n σ) = k
taken (failed f) = f.place

-- no fault was found
abbrev pub IsRunning : Progress → Type 0
IsRunning (running k u m n σ) = Unit {0}
IsRunning (failed f) = ⊥

-- The check was given these bytes in all.
unfoldable pub Stands : Progress → List ℕ → Type 0
Stands p b = p ≡ advances beginning b
