-- The history of a context is the journal itself, with its own entries marked.
use Rattle.std.proofs.Common.{◌≡◌, ◌+◌, cond, true, false, List, [], ◌∷◌, Some, refl, sym, ap, ◌∙◌, subst}
use Rattle.std.specs.Prelude.{slice_get}
use Rattle.wx_id.specs.declared.numbers.ContextNo.{ContextNo}
use Rattle.wx_machine.specs.declared.entries.Entry.{Entry}
use Rattle.wx_machine.specs.Words.{is_by}
use Rattle.wx_machine.specs.declared.entries.Who.TheVariants.{Context as ByContext}
use Rattle.wx_script.specs.declared.script.Command.{Command}
use Rattle.wx_script.specs.Places.{behind_entry, place_of, next_at, next_of}
use Rattle.wx_script.specs.Carries.{MayCome}
use Rattle.wx_script.specs.Ends.{entries_by}
use Rattle.wx_desk.specs.History.{seen_by, own_in}
use Rattle.wx_endpoint.specs.History.{place_in, MayStand, CarriesOn}
use Rattle.wx_desk.proofs.HistoryLemmas.{own_in-cons}
use Rattle.wx_desk.proofs.OverLemmas.{entries_in-seen_by}
use Rattle.wx_run.specs.Round.{Follows}
use Rattle.wx_script.proofs.LeftLemmas.{asked_of}

pub place_in-seen_by : (s : List Command) (c : ContextNo) (past : List Entry) → place_in s (seen_by (ByContext c) past) ≡ place_of s c past
unfolding place_of
place_in-seen_by s c [] = refl
place_in-seen_by s c (e ∷ past) = ap (λ p. behind_entry s c p e) (place_in-seen_by s c past)

pub own_in-seen_by : (c : ContextNo) (past : List Entry) → own_in (seen_by (ByContext c) past) ≡ entries_by c past
own_in-seen_by c [] = refl
own_in-seen_by c (e ∷ past) =
    own_in-cons (record { own = is_by e.who c; entry = e }) (seen_by (ByContext c) past) ∙ ap (λ n. cond (is_by e.who c) 1 0 + n) (own_in-seen_by c past)

pub may_stand : (s : List Command) (c : ContextNo) (past : List Entry) (e : Entry) → MayCome past c (next_of s c past) e → MayStand s c true (seen_by (ByContext c) past) e
may_stand s c past e may =
    subst (λ j. MayCome j c (next_at j (place_in s (seen_by (ByContext c) past))) e) (sym (entries_in-seen_by (ByContext c) past))
    (subst (λ p. MayCome past c (next_at past p) e) (sym (place_in-seen_by s c past)) may)

pub may_come : (s : List Command) (c : ContextNo) (past : List Entry) (e : Entry) → MayStand s c true (seen_by (ByContext c) past) e → MayCome past c (next_of s c past) e
may_come s c past e stands =
    subst (λ p. MayCome past c (next_at past p) e) (place_in-seen_by s c past)
    (subst (λ j. MayCome j c (next_at j (place_in s (seen_by (ByContext c) past))) e) (entries_in-seen_by (ByContext c) past) stands)

-- entries that follow the scripts carry on each of them
pub carries_on : (scripts : List (List Command)) (s : List Command) (c : ContextNo) (past : List Entry) → slice_get scripts c.0 ≡ Some s → Follows scripts past → CarriesOn s c (seen_by (ByContext c) past)
carries_on scripts s c [] is follows = tt
carries_on scripts s c (e ∷ past) is follows = (
  carries_on scripts s c past is follows.0,
  elim (is_by e.who c) as (λ b. is_by e.who c ≡ b → MayStand s c b (seen_by (ByContext c) past) e) [
    | true ↦ λ is_c. may_stand s c past e (asked_of scripts past s c e e.who follows.1 is_c is).1
    | false ↦ λ is_c. tt
  ] refl,
)
