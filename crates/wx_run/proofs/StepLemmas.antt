-- What a turn at a desk does to the one journal.
use Rattle.std.proofs.Common.{◌≡◌, ◌<◌, ◌⊎◌, inl, inr, true, false, List, ◌∷◌, ◌++◌, refl, sym, ap, ◌∙◌, subst}
use Rattle.std.specs.Prelude.{nat_le, ◌&&◌, not}
use Rattle.wx_id.specs.declared.numbers.ContextNo.{ContextNo}
use Rattle.wx_external.specs.World.{WorldLists}
use Rattle.wx_machine.specs.declared.entries.Who.TheVariants.{Context as ByContext}
use Rattle.wx_machine.specs.declared.entries.Call.{Call}
use Rattle.wx_machine.specs.declared.entries.Answer.{Answer}
use Rattle.wx_machine.specs.declared.entries.Entry.{Entry}
use Rattle.wx_machine.specs.Words.{FollowsMachine, contexts, EachAfter, has_pending}
use Rattle.wx_script.specs.Places.{Place, outside, within, left, is_left, waits, ends, next_at, next_of}
use Rattle.wx_script.specs.Ends.{is_idle, entry_limit}
use Rattle.wx_desk.specs.History.{entries_in, seen_by}
use Rattle.wx_endpoint.specs.History.{CarriesOn}
use Rattle.wx_desk.specs.Desks.{ContextDeskState, past_of, IsSound, MakesNone, own_entry, after_own}
use Rattle.wx_endpoint.specs.Turn as turn
use Rattle.wx_endpoint.specs.Turn.{CursorState, StandsBehind}
use Rattle.wx_endpoint.specs.declared.cursor.Turned.{Turned}
use Rattle.wx_endpoint.specs.declared.cursor.Turned.TheVariants.{Waits, Ended, Spent}
use Rattle.wx_run.specs.Cursors.{cursor_of, is_spent_at}
use Rattle.wx_run.specs.Step.{IsReady, Moves, Rests, IsIdleUnlessPending}
use Rattle.wx_desk.proofs.OverLemmas.{entries_in-seen_by}
use Rattle.wx_run.proofs.SeenLemmas.{place_in-seen_by, own_in-seen_by, may_come}
use Rattle.wx_run.proofs.RestLemmas.{waits_on, ended_on}

-- the desk of context c over the one journal
abbrev pub desk_of : ContextNo → WorldLists → List Entry → ContextDeskState
desk_of c world past = record { who = c; world = world; history = seen_by (ByContext c) past; alone = true }

pub ready_sound : (world : WorldLists) (c : ContextNo) (p : CursorState) (past : List Entry) → IsReady world c p past → IsSound (desk_of c world past)
ready_sound world c p past ready = record {
  legal = subst (λ j. EachAfter (FollowsMachine world) j) (sym (entries_in-seen_by (ByContext c) past)) ready.legal;
  known = subst (λ j. c.0 < contexts j) (sym (entries_in-seen_by (ByContext c) past)) ready.given;
}

pub ready_behind : (world : WorldLists) (c : ContextNo) (p : CursorState) (past : List Entry) → IsReady world c p past → StandsBehind p (desk_of c world past)
ready_behind world c p past ready = record {
  place = ap (λ (p : CursorState). p.place) ready.behind ∙ sym (place_in-seen_by p.script c past);
  made = ap (λ (p : CursorState). p.made) ready.behind ∙ sym (own_in-seen_by c past);
  carries = ready.carries;
}

-- a cursor that stands behind the desk's own entries stands behind its context's
cursor_is : (c : ContextNo) (world : WorldLists) (past : List Entry) (q : CursorState) → StandsBehind q (desk_of c world past) → q ≡ cursor_of q.script c past
cursor_is c world past q stands = λ i. record {
  script = q.script;
  place = (stands.place ∙ place_in-seen_by q.script c past) i;
  made = (stands.made ∙ own_in-seen_by c past) i;
}

-- no entry came in
none_came : (c d : ContextNo) (world other : WorldLists) (a b : List Entry) → MakesNone (desk_of c world a) (desk_of d other b) → b ≡ a
none_came c d world other a b none =
    let seen : seen_by (ByContext d) b ≡ seen_by (ByContext c) a = none.seen ∙ ap (λ o. o ++ seen_by (ByContext c) a) (none.none_came refl) in
    sym (entries_in-seen_by (ByContext d) b) ∙ ap entries_in seen ∙ entries_in-seen_by (ByContext c) a

-- the desk after an own entry
abbrev desk_with : ContextNo → WorldLists → List Entry → Call → Answer → ContextDeskState
desk_with c world a call answer = after_own (desk_of c world a) call answer

made_one : (c : ContextNo) (world : WorldLists) (a : List Entry) (between : ContextDeskState) (call : Call) (answer : Answer) → MakesNone (desk_of c world a) between → after_own between call answer ≡ desk_with c world a call answer
made_one c world a between call answer none =
    let seen : between.history ≡ seen_by (ByContext c) a = none.seen ∙ ap (λ o. o ++ seen_by (ByContext c) a) (none.none_came refl) in
    let same : between ≡ desk_of c world a = (λ i. record { who = none.same_who i; world = none.same_world i; history = seen i; alone = none.same_alone i }) in
    ap (λ (desk : ContextDeskState). after_own desk call answer) same

pub moved : (c d : ContextNo) (world other : WorldLists) (a b : List Entry) (p q : CursorState) → IsReady world c p a
    → turn.Moves p q (desk_of c world a) (desk_of d other b) → StandsBehind q (desk_of d other b) → IsSound (desk_of d other b) → q.script ≡ p.script
    → Moves world c p q a b
moved c d world other a b p q ready moves stands sound same_script =
    let one = moves.one in
    let e : Entry = record { who = ByContext c; call = moves.call; answer = moves.answer } in
    let new : desk_of d other b ≡ desk_with c world a moves.call moves.answer = one.made ∙ made_one c world a one.between moves.call moves.answer one.others in
    let made : b ≡ e ∷ a =
    sym (entries_in-seen_by (ByContext d) b) ∙ ap (λ (desk : ContextDeskState). entries_in desk.history) new ∙ ap (λ j. e ∷ j) (entries_in-seen_by (ByContext c) a) in
    let same_context : d ≡ c = ap (λ (desk : ContextDeskState). desk.who) new in
    let stands_on : StandsBehind q (desk_with c world a moves.call moves.answer) = subst (λ desk. StandsBehind q desk) new stands in
    let carries : CarriesOn p.script c (own_entry (desk_of c world a) moves.call moves.answer ∷ seen_by (ByContext c) a) =
    subst (λ s. CarriesOn s c (own_entry (desk_of c world a) moves.call moves.answer ∷ seen_by (ByContext c) a)) same_script stands_on.carries in
    let sound_on : IsSound (desk_with c world a moves.call moves.answer) = subst (λ desk. IsSound desk) new sound in
    let legal : EachAfter (FollowsMachine world) (e ∷ a) = subst (λ j. EachAfter (FollowsMachine world) (e ∷ j)) (entries_in-seen_by (ByContext c) a) sound_on.legal in
    record {
      entry = e;
      own = refl;
      asked = may_come p.script c a e carries.1;
      follows = legal.1;
      made = made;
      behind = cursor_is d other b q stands ∙ ap (λ s. cursor_of s d b) same_script ∙ ap (λ d. cursor_of p.script d b) same_context;
      within_limit = subst (λ n. n < entry_limit) (ap (λ (p : CursorState). p.made) ready.behind) moves.within_limit;
    }

next_is : (world : WorldLists) (c : ContextNo) (p : CursorState) (past : List Entry) → IsReady world c p past → next_at past p.place ≡ next_of p.script c past
next_is world c p past ready = ap (λ (p : CursorState). next_at past p.place) ready.behind

waited : (c d : ContextNo) (world other : WorldLists) (a b : List Entry) (p q : CursorState) → IsReady world c p a
    → turn.Rests p (desk_of c world a) (desk_of d other b) → q ≡ p → Rests c p q a b
waited c d world other a b p q ready rests same_cursor =
    let same : b ≡ a = none_came c d world other a b rests.none_pending.others in
    let here : entries_in (seen_by (ByContext d) b) ≡ a = entries_in-seen_by (ByContext d) b ∙ same in
    let next : next_of p.script c a ≡ waits = sym (next_is world c p a ready) ∙ subst (λ j. next_at j p.place ≡ waits) here rests.waiting in
    let same_c : d ≡ c = rests.none_pending.others.same_who in
    let none : has_pending a c ≡ false = subst (λ x. has_pending a x ≡ false) same_c (subst (λ j. has_pending j d ≡ false) here rests.none_pending.none_pending) in
    record { idle = ap (λ n. is_idle a c n) next ∙ ap not none; same_cursor = same_cursor; same = same }

ended : (c d : ContextNo) (world other : WorldLists) (a b : List Entry) (p q : CursorState) → IsReady world c p a
    → turn.HasEnded p (desk_of c world a) (desk_of d other b) → q ≡ p → Rests c p q a b
ended c d world other a b p q ready is same_cursor =
    let same : b ≡ a = sym (entries_in-seen_by (ByContext d) b) ∙ ap (λ (desk : ContextDeskState). entries_in desk.history) is.same ∙ entries_in-seen_by (ByContext c) a in
    let next : next_of p.script c a ≡ ends = sym (next_is world c p a ready) ∙ ap (λ place. next_at a place) is.ended in
    record { idle = ap (λ n. is_idle a c n) next; same_cursor = same_cursor; same = same }

spent_place : (place : Place) → (place ≡ left → ⊥) → not (is_left place) ≡ true
spent_place outside unended = refl
spent_place (within progress acts variables) unended = refl
spent_place left unended = absurd (unended refl)

-- one that is not spent makes no turn that finds it spent
unspent : (c d : ContextNo) (world other : WorldLists) (a b : List Entry) (p : CursorState) → IsReady world c p a
    → turn.IsSpent p (desk_of c world a) (desk_of d other b) → ⊥
unspent c d world other a b p ready is =
    let spent : is_spent_at p ≡ true =
    ap (λ n. nat_le entry_limit n && not (is_left p.place)) is.limit ∙ spent_place p.place is.unended in
    let never : true ≡ false = sym spent ∙ ready.unspent in
    cc

-- a turn that made no entry, with memory enough
pub rested : (c d : ContextNo) (world other : WorldLists) (a b : List Entry) (p q : CursorState) (t : Turned) → IsReady world c p a
    → (t ≡ Waits) ⊎ ((t ≡ Ended) ⊎ (t ≡ Spent)) → turn.IsTurn p q (desk_of c world a) (desk_of d other b) t
    → Rests c p q a b × (d ≡ c) × (other ≡ world)
rested c d world other a b p q t ready (inl is) came =
    let rests = subst (λ t. turn.IsTurn p q (desk_of c world a) (desk_of d other b) t) is came in
    (waited c d world other a b p q ready rests.0 rests.1, rests.0.none_pending.others.same_who, rests.0.none_pending.others.same_world)
rested c d world other a b p q t ready (inr (inl is)) came =
    let rests = subst (λ t. turn.IsTurn p q (desk_of c world a) (desk_of d other b) t) is came in
    (ended c d world other a b p q ready rests.0 rests.1, ap (λ (desk : ContextDeskState). desk.who) rests.0.same, ap (λ (desk : ContextDeskState). desk.world) rests.0.same)
rested c d world other a b p q t ready (inr (inr is)) came =
    let rests = subst (λ t. turn.IsTurn p q (desk_of c world a) (desk_of d other b) t) is came in
    absurd (unspent c d world other a b p ready rests.0)

-- an endpoint that can do nothing is passed over
pub passed_over : (world : WorldLists) (c : ContextNo) (p : CursorState) (past : List Entry) → IsReady world c p past → is_idle past c (next_at past p.place) ≡ true → Rests c p p past past
passed_over world c p past ready idle = record { idle = subst (λ n. is_idle past c n ≡ true) (next_is world c p past ready) idle; same_cursor = refl; same = refl }

-- a turn that made no entry, with memory enough, leaves an endpoint that rests
pub rests_on : (c d : ContextNo) (world other : WorldLists) (a b : List Entry) (p q : CursorState) (t : Turned) → IsReady world c p a
    → (t ≡ Waits) ⊎ ((t ≡ Ended) ⊎ (t ≡ Spent)) → turn.IsTurn p q (desk_of c world a) (desk_of d other b) t
    → StandsBehind q (desk_of d other b) → IsSound (desk_of d other b) → IsIdleUnlessPending q
rests_on c d world other a b p q t ready (inl is) came stands sound =
    let rests = subst (λ t. turn.IsTurn p q (desk_of c world a) (desk_of d other b) t) is came in
    waits_on q (desk_of d other b) sound stands (subst (λ (p : CursorState). next_at (past_of (desk_of d other b)) p.place ≡ waits) (sym rests.1) rests.0.waiting)
rests_on c d world other a b p q t ready (inr (inl is)) came stands sound =
    let rests = subst (λ t. turn.IsTurn p q (desk_of c world a) (desk_of d other b) t) is came in
    ended_on q (ap (λ (p : CursorState). p.place) rests.1 ∙ rests.0.ended)
rests_on c d world other a b p q t ready (inr (inr is)) came stands sound =
    let rests = subst (λ t. turn.IsTurn p q (desk_of c world a) (desk_of d other b) t) is came in
    absurd (unspent c d world other a b p ready rests.0)
