-- What a desk has seen: entries, of which some were made at it. Every history has the newest entry first.
use Rattle.std.specs.Prelude.{◌≡◌, ℕ, Bool, true, false, List, [], ◌∷◌, ◌++◌, All, map, cond, count_by}
use Rattle.wx_machine.specs.declared.entries.Who.{Who}
use Rattle.wx_machine.specs.declared.entries.Call.{Call}
use Rattle.wx_machine.specs.declared.entries.Entry.{Entry}
use Rattle.wx_machine.specs.Words.{is_by, is_by_host}
use Rattle.wx_machine.specs.declared.entries.Who.TheVariants.{Context, Host}

-- an entry, and whether it was made at this desk
pub record Seen : Type 0 where
  pub own : Bool
  pub entry : Entry

-- the entries of a history
abbrev pub entries_in : List Seen → List Entry
entries_in history = map (λ (s : Seen). s.entry) history

-- none was made at this desk
abbrev pub AreOthers : List Seen → Type 0
AreOthers history = All (λ (s : Seen). s.own ≡ false) history

-- how many entries were made at this desk
abbrev pub own_in : List Seen → ℕ
own_in history = count_by (λ (s : Seen). s.own) history

-- the calls that were made at this desk
abbrev pub calls_in : List Seen → List Call
calls_in [] = []
calls_in (s ∷ more) = cond s.own (s.entry.call ∷ []) [] ++ calls_in more

-- each entry that was made at this desk after this past has the property, given the entries before it
abbrev pub EachOwn : (List Entry → Call → Type 0) → List Entry → List Seen → Type 0
EachOwn P past [] = Unit {0}
EachOwn P past (s ∷ more) = EachOwn P past more × (s.own ≡ true → P (entries_in more ++ past) s.entry.call)

-- it is the same context, or the same host
abbrev pub same_who : Who → Who → Bool
same_who who (Context c) = is_by who c
same_who who (Host h) = is_by_host who h

-- the history of one who knows that these entries are its own: those that it made
abbrev pub seen_by : Who → List Entry → List Seen
seen_by who past = map (λ (e : Entry). record { own = same_who e.who who; entry = e }) past
