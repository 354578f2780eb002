-- Who came in and who lives, one entry later, and whom a target reaches.
use Rattle.std.proofs.Common.{◌≡◌, List, ◌∷◌, ◌++◌, refl, ap, sym, ◌∙◌, Bool, true, false, not}
use Rattle.std.specs.Prelude.{filter, ◌&&◌, ◌||◌, ◌==◌}
use Rattle.std.specs.List.{list_all}
use Rattle.std.proofs.lemmas.Bool.{and_parts}
use Rattle.std.proofs.lemmas.List.Elements.{filter-append}
use Rattle.std.proofs.lemmas.Map.Views.{any-filter_same}
use Rattle.wx_id.specs.Contexts.{is_among, is_other, same_context}
use Rattle.wx_id.specs.declared.numbers.ContextNo.{ContextNo}
use Rattle.wx_context.specs.declared.contexts.Target.{Target}
use Rattle.wx_machine.specs.declared.sorts.Sort.{Sort}
use Rattle.wx_machine.specs.declared.entries.Answer.{Answer}
use Rattle.wx_machine.specs.declared.entries.Entry.{Entry}
use Rattle.wx_machine.specs.Words.{context_of, has_left, is_by, if_numbered, is_leave, is_live, is_there, numbers, numbers_of, enters, is_receiver, receivers_of}
use Rattle.wx_machine.specs.declared.entries.Who.TheVariants.{Context as ByContext}
use Rattle.wx_machine.specs.declared.entries.Call.TheVariants.{Leave}
use Rattle.wx_id.proofs.ContextLemmas.{same_context_is}
use Rattle.wx_laws.proofs.Newest.{came_more}
use Rattle.wx_broker.proofs.TestsLater.{same_back, all_weaker, all_filtered}

-- context d came in
abbrev pub came : List Entry → ContextNo → Bool
came past d = is_there (context_of past d)

pub came_stays : (e : Entry) (past : List Entry) (d : ContextNo) → came past d ≡ true → came (e ∷ past) d ≡ true
came_stays e past d h = came_more e past d ∙ ap (λ b. b || is_there (if_numbered d (enters e))) h

pub live_came : (past : List Entry) (d : ContextNo) → is_live past d ≡ true → came past d ≡ true
live_came past d h = (and_parts _ _ h).0

-- who came in lives on, where the entry is no leave
pub live_stays : (e : Entry) (past : List Entry) (d : ContextNo) → is_leave e.call ≡ false → came past d ≡ true → is_live (e ∷ past) d ≡ is_live past d
live_stays e past d stays h =
    ap (λ b. b && not (has_left (e ∷ past) d)) (came_stays e past d h)
    ∙ ap (λ t. not (has_left past d || (t && is_leave e.call && is_by e.who d))) h
    ∙ ap (λ b. not (has_left past d || (b && is_by e.who d))) stays
    ∙ by (has_left past d)
    ∙ ap (λ t. t && not (has_left past d)) (sym h)
  where
    by : (l : Bool) → not (l || false) ≡ not l
    by true = refl
    by false = refl

abbrev pub leave_entry : ContextNo → Answer → Entry
leave_entry c answer = record { who = ByContext c; call = Leave; answer = answer }

-- a leave takes its caller from those who live
pub live_left : (c : ContextNo) (answer : Answer) (past : List Entry) (d : ContextNo) → is_live (leave_entry c answer ∷ past) d ≡ (is_live past d && is_other c d)
live_left c answer past d =
    ap (λ b. b && not (has_left (leave_entry c answer ∷ past) d)) (came_more (leave_entry c answer) past d)
    ∙ ap (λ s. (came past d || false) && not (has_left past d || (came past d && true && s))) (same_back c.0 d.0)
    ∙ by (came past d) (has_left past d) (d.0 == c.0)
  where
    by : (t l s : Bool) → ((t || false) && not (l || (t && true && s))) ≡ (t && not l && not s)
    by true true s = refl
    by true false s = refl
    by false l s = refl

-- whom those that pass are among
pub among_passing : (p : ContextNo → Bool) (xs : List ContextNo) (c : ContextNo) → is_among (filter p xs) c ≡ (p c && is_among xs c)
among_passing p xs c = any-filter_same (λ d. same_context d c) p (p c) (λ d h. ap p (same_context_is d c h)) xs

-- each receiver lives
pub receivers_live : (past : List Entry) (c : ContextNo) (target : Target) (sort : Sort) → list_all (is_live past) (receivers_of past c target sort) ≡ true
receivers_live past c target sort =
    all_weaker (is_receiver past c target sort) (is_live past)
    (λ d h. (and_parts (not (same_context d c)) (is_live past d) (and_parts _ _ h).0).1)
    (receivers_of past c target sort) (all_filtered (is_receiver past c target sort) (numbers past))

-- the receivers among one more entry's contexts
pub receivers_more : (p : ContextNo → Bool) (e : Entry) (past : List Entry) → filter p (numbers (e ∷ past)) ≡ filter p (numbers past) ++ filter p (numbers_of (enters e))
receivers_more p e past = filter-append p (numbers past) (numbers_of (enters e))
