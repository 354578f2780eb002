-- The test that computes is the grammar's.
use Rattle.std.proofs.Common.{◌≡◌, ℕ, ◌+◌, List, ◌++◌, Bool, true, false, refl, sym, ◌∙◌, subst, take, drop}
use Rattle.std.specs.Prelude.{IsTrue, ◌↔◌}
use Rattle.std.proofs.lemmas.List.{take-append-drop}
use Rattle.wx_json.specs.declared.JsonFault.{JsonFault}
use Rattle.wx_json.specs.declared.JsonKind.{JsonKind}
use Rattle.wx_json.specs.declared.JsonKind.TheVariants.{Syntax, Utf8, TooDeep, Ends}
use Rattle.wx_json.specs.Machine.{accepts_at}
use Rattle.wx_json.specs.Mode.{Mode}
use Rattle.wx_json.specs.Coding.{Coding}
use Rattle.wx_json.specs.Text.{IsJsonText, IsPrefixOfJson, IsFault, IsFaultOrEnd, IsEndFault}
use Rattle.wx_json.specs.Check.{Progress, running, failed, advances, beginning, Stands}
use Rattle.wx_json.specs.Test.{completes, is_json_text}
use Rattle.wx_json.proofs.Laws.{failed-IsEndFault, accepts-IsJsonText, unfinished}

-- bytes with a fault are no JSON text, since a JSON text has each of its fronts as a front
fault_refuses : (t : List ℕ) (f : JsonFault) → IsFault t f → IsJsonText t → ⊥
fault_refuses t f h is =
    h.faulty (drop (f.place + 1) t, subst IsJsonText (sym (take-append-drop (f.place + 1) t)) is)

end_refuses : (t : List ℕ) (f : JsonFault) (k : JsonKind) → IsFaultOrEnd k t f → IsJsonText t → ⊥
end_refuses t f Ends h is = h.faulty is
end_refuses t f Syntax h is = fault_refuses t f h is
end_refuses t f Utf8 h is = fault_refuses t f h is
end_refuses t f TooDeep h is = fault_refuses t f h is

pub IsEndFault-refuses : (t : List ℕ) (f : JsonFault) → IsEndFault t f → IsJsonText t → ⊥
IsEndFault-refuses t f h is = end_refuses t f f.kind h is

by_test : (t : List ℕ) (k n : ℕ) (u : Coding) (m : Mode) (σ : List Bool) → Stands (running k u m n σ) t → (b : Bool) → accepts_at m σ ≡ b → IsTrue b ↔ IsJsonText t
by_test t k n u m σ h true e = (λ _. accepts-IsJsonText t k n u m σ h e, λ _. refl)
by_test t k n u m σ h false e = (λ (wrong : false ≡ true). absurd cc, λ is. absurd ((unfinished t k n u m σ h e).faulty is))

by_progress : (t : List ℕ) (p : Progress) → Stands p t → IsTrue (completes p) ↔ IsJsonText t
by_progress t (failed f) h = (λ (wrong : false ≡ true). absurd cc, λ is. absurd (IsEndFault-refuses t f (failed-IsEndFault t f h) is))
by_progress t (running k u m n σ) h = by_test t k n u m σ h (accepts_at m σ) refl

pub is_json_text-exact : (t : List ℕ) → IsTrue (is_json_text t) ↔ IsJsonText t
unfolding is_json_text Stands
is_json_text-exact t = by_progress t (advances beginning t) refl

-- the same in the two directions in which code meets it
pub is_json_text-true : (t : List ℕ) → IsJsonText t → is_json_text t ≡ true
is_json_text-true t is = (is_json_text-exact t).1 is

pub is_json_text-false : (t : List ℕ) (f : JsonFault) → IsEndFault t f → is_json_text t ≡ true → ⊥
is_json_text-false t f h is = IsEndFault-refuses t f h ((is_json_text-exact t).0 is)

pub ruleset is_json_text_by = (is_json_text-true, is_json_text-false)
