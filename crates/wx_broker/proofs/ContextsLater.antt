-- The roster tells the journal one entry later, and what is read from it is what the journal says.
use Rattle.std.proofs.Common.{◌≡◌, ℕ, ◌+◌, ◌≤◌, List, [], ◌∷◌, ◌++◌, length, refl, ap, sym, ◌∙◌, Bool, true, false, cond, not, arith, zero-add}
use Rattle.std.specs.Prelude.{Option, Some, None, slice_get, ◌&&◌, ◌||◌, ◌==◌, nat_lt}
use Rattle.std.specs.Option.{option_map, option_or}
use Rattle.std.proofs.lemmas.Bool.{true≢false}
use Rattle.std.proofs.lemmas.Bool.Decides.{nat_tests}
use Rattle.std.proofs.lemmas.List.{length-append}
use Rattle.std.proofs.lemmas.Option.{none-some}
use Rattle.wx_id.specs.declared.numbers.ContextNo.{ContextNo}
use Rattle.wx_id.specs.Contexts.{same_context}
use Rattle.wx_context.specs.declared.contexts.Context.{Context}
use Rattle.wx_context.specs.declared.contexts.Listens.{Listens}
use Rattle.wx_external.specs.World.{WorldLists}
use Rattle.wx_machine.specs.declared.entries.Who.{Who}
use Rattle.wx_machine.specs.declared.entries.Who.TheVariants.{Context as ByContext, Host as ByHost}
use Rattle.wx_machine.specs.declared.entries.Call.{Call}
use Rattle.wx_machine.specs.declared.entries.Call.TheVariants.{Enter, Listen, Leave}
use Rattle.wx_machine.specs.declared.entries.Answer.{Answer}
use Rattle.wx_machine.specs.declared.entries.Answer.TheVariants.{Entered}
use Rattle.wx_machine.specs.declared.entries.Entry.{Entry}
use Rattle.wx_machine.specs.Words.{EachAfter, FollowsMachine, may_make, brought, context_of, contexts, deaf, enters, has_left, if_numbered}
use Rattle.wx_machine.specs.Words.{is_by, is_enter, is_leave, is_live, is_there, listens_of}
use Rattle.wx_machine.specs.Contexts.{listens_after}
use Rattle.wx_machine.proofs.Lists.{get_options}
use Rattle.wx_roster.specs.declared.roster.Member.{Member}
use Rattle.wx_roster.specs.Members.{newcomer, listening, gone, is_live_in, numbered}
use Rattle.wx_roster.proofs.MembersLater.{ChangedAt}
use Rattle.wx_broker.proofs.TestsLater.{same_is}
use Rattle.wx_broker.specs.Told.{HasContexts}

-- a call that tells something new of contexts
abbrev pub is_of_contexts : Call → Bool
is_of_contexts (Enter x) = true
is_of_contexts (Listen l) = true
is_of_contexts Leave = true
is_of_contexts _ = false

brings_none : (who : Who) (call : Call) (answer : Answer) → is_enter call ≡ false → brought who call answer ≡ None
brings_none (ByHost g) call answer h = refl
brings_none (ByContext d) (Enter x) answer h = absurd (true≢false h)
brings_none (ByContext d) call answer h = refl

no_other : {X : Type 0} (o : Option X) → option_or o None ≡ o
no_other None = refl
no_other (Some x) = refl

context_kept : (past : List Entry) (e : Entry) (d : ContextNo) → is_enter e.call ≡ false → context_of (e ∷ past) d ≡ context_of past d
context_kept past e d h = ap (λ b. option_or (context_of past d) (if_numbered d b)) (brings_none e.who e.call e.answer h) ∙ no_other (context_of past d)

live_later : (past : List Entry) (e : Entry) (d : ContextNo) → is_enter e.call ≡ false → is_live (e ∷ past) d ≡ (is_live past d && not (is_leave e.call && is_by e.who d))
live_later past e d h = ap (λ o. is_there o && not (has_left (e ∷ past) d)) (context_kept past e d h) ∙ by (is_there (context_of past d)) (has_left past d) (is_leave e.call) (is_by e.who d)
  where
    by : (t l v m : Bool) → (t && not (l || ((t && v) && m))) ≡ ((t && not l) && not (v && m))
    by true true v m = refl
    by true false v m = refl
    by false l v m = refl

and_true : (b : Bool) → (b && true) ≡ b
and_true true = refl
and_true false = refl

-- an entry that tells nothing of contexts
pub contexts_kept : (past : List Entry) (e : Entry) (members : List Member) → is_of_contexts e.call ≡ false → HasContexts past members → HasContexts (e ∷ past) members
contexts_kept past e members calm told = record {
  came = λ d. told.came d ∙ sym (context_kept past e d (enter e.call calm));
  live = λ d. told.live d ∙ sym (lives d);
  listens = λ d h. told.listens d (sym (lives d) ∙ h) ∙ ap Some (sym (hears e.call (is_by e.who d) (listens_of past d) calm));
}
  where
    enter : (call : Call) → is_of_contexts call ≡ false → is_enter call ≡ false
    enter (Enter x) h = h
    enter call h = refl

    leave : (call : Call) → is_of_contexts call ≡ false → is_leave call ≡ false
    leave Leave h = h
    leave call h = refl

    hears : (call : Call) (b : Bool) (l : Listens) → is_of_contexts call ≡ false → listens_after call b l ≡ l
    hears (Listen m) b l h = absurd (true≢false h)
    hears call b l h = refl

    lives : (d : ContextNo) → is_live (e ∷ past) d ≡ is_live past d
    lives d = live_later past e d (enter e.call calm) ∙ ap (λ b. is_live past d && not (b && is_by e.who d)) (leave e.call calm) ∙ and_true (is_live past d)

-- the count of contexts stays where nobody enters
pub count_kept : (past : List Entry) (e : Entry) (members : List Member) → is_enter e.call ≡ false → length members ≡ contexts past → length members ≡ contexts (e ∷ past)
count_kept past e members h count = count ∙ sym (zero-add (contexts past)) ∙ sym (ap (λ b. cond {A = ℕ} b 1 0 + contexts past) h)

by_same : (who : Who) (c d : ContextNo) → who ≡ ByContext c → is_by who d ≡ same_context c d
by_same who c d w = ap (λ x. is_by x d) w

-- an entry of one who does not live, but for an enter
pub contexts_gone : (past : List Entry) (e : Entry) (c : ContextNo) (members : List Member) → e.who ≡ ByContext c → is_enter e.call ≡ false → is_live past c ≡ false → HasContexts past members → HasContexts (e ∷ past) members
contexts_gone past e c members who enter dead told = record {
  came = λ d. told.came d ∙ sym (context_kept past e d enter);
  live = λ d. told.live d ∙ sym (lives d);
  listens = λ d h. told.listens d (sym (lives d) ∙ h) ∙ ap Some (sym (hears d (same_context c d) refl (sym (lives d) ∙ h)));
}
  where
    dead_too : (d : ContextNo) → same_context c d ≡ true → is_live past d ≡ false
    dead_too d s = sym (ap (λ n. is_live past (numbered n)) (same_is c.0 d.0 s)) ∙ dead

    at : (d : ContextNo) (s : Bool) → same_context c d ≡ s → (is_live past d && not (is_leave e.call && s)) ≡ is_live past d
    at d true s = rw (dead_too d s) refl
    at d false s = none (is_live past d) (is_leave e.call)
      where
        none : (b v : Bool) → (b && not (v && false)) ≡ b
        none true true = refl
        none true false = refl
        none false v = refl

    lives : (d : ContextNo) → is_live (e ∷ past) d ≡ is_live past d
    lives d = live_later past e d enter ∙ ap (λ b. is_live past d && not (is_leave e.call && b)) (by_same e.who c d who) ∙ at d (same_context c d) refl

    unheard : (call : Call) (l : Listens) → listens_after call false l ≡ l
    unheard (Listen m) l = refl
    unheard call l = refl

    hears : (d : ContextNo) (s : Bool) → same_context c d ≡ s → is_live past d ≡ true → listens_of (e ∷ past) d ≡ listens_of past d
    hears d true s h = absurd (true≢false (sym h ∙ dead_too d s))
    hears d false s h = ap (λ b. listens_after e.call b (listens_of past d)) (by_same e.who c d who ∙ s) ∙ unheard e.call (listens_of past d)

-- a context listens otherwise
pub contexts_listened : (past : List Entry) (e : Entry) (c : ContextNo) (l : Listens) (members members' : List Member) → e.who ≡ ByContext c → e.call ≡ Listen l → ChangedAt (listening l) c members members' → HasContexts past members → HasContexts (e ∷ past) members'
contexts_listened past e c l members members' who call changed told = record {
  came = λ d. ap (option_map (λ m. m.context)) (changed d) ∙ same (same_context c d) (slice_get members d.0) ∙ told.came d ∙ sym (context_kept past e d enter);
  live = λ d. ap is_live_in (changed d) ∙ stays (same_context c d) (slice_get members d.0) ∙ told.live d ∙ sym (lives d);
  listens = λ d h.
      ap (option_map (λ m. m.listens)) (changed d)
      ∙ heard d (same_context c d) (slice_get members d.0) (told.listens d (sym (lives d) ∙ h))
      ∙ ap Some (sym (ap (λ b. listens_after e.call b (listens_of past d)) (by_same e.who c d who) ∙ ap (λ k. listens_after k (same_context c d) (listens_of past d)) call));
}
  where
    enter : is_enter e.call ≡ false
    enter = ap is_enter call

    same : (s : Bool) (o : Option Member) → option_map (λ m. m.context) (option_map (λ m. cond s (listening l m) m) o) ≡ option_map (λ m. m.context) o
    same s None = refl
    same true (Some m) = refl
    same false (Some m) = refl

    stays : (s : Bool) (o : Option Member) → is_live_in (option_map (λ m. cond s (listening l m) m) o) ≡ is_live_in o
    stays s None = refl
    stays true (Some m) = refl
    stays false (Some m) = refl

    lives : (d : ContextNo) → is_live (e ∷ past) d ≡ is_live past d
    lives d = live_later past e d enter ∙ ap (λ k. is_live past d && not (is_leave k && is_by e.who d)) call ∙ and_true (is_live past d)

    heard : (d : ContextNo) (s : Bool) (o : Option Member) → option_map (λ m. m.listens) o ≡ Some (listens_of past d) → option_map (λ m. m.listens) (option_map (λ m. cond s (listening l m) m) o) ≡ Some (listens_after (Listen l) s (listens_of past d))
    heard d s None h = absurd (none-some (listens_of past d) h)
    heard d true (Some m) h = refl
    heard d false (Some m) h = h

-- a context left
pub contexts_left : (past : List Entry) (e : Entry) (c : ContextNo) (members members' : List Member) → e.who ≡ ByContext c → e.call ≡ Leave → ChangedAt gone c members members' → HasContexts past members → HasContexts (e ∷ past) members'
contexts_left past e c members members' who call changed told = record {
  came = λ d. ap (option_map (λ m. m.context)) (changed d) ∙ same (same_context c d) (slice_get members d.0) ∙ told.came d ∙ sym (context_kept past e d enter);
  live = λ d. ap is_live_in (changed d) ∙ stays (same_context c d) (slice_get members d.0) ∙ ap (λ b. b && not (same_context c d)) (told.live d) ∙ sym (lives d);
  listens = λ d h.
      ap (option_map (λ m. m.listens)) (changed d)
      ∙ heard (same_context c d) (slice_get members d.0)
      ∙ told.listens d (first (is_live past d) (same_context c d) (sym (lives d) ∙ h))
      ∙ ap Some (sym (ap (λ k. listens_after k (is_by e.who d) (listens_of past d)) call));
}
  where
    enter : is_enter e.call ≡ false
    enter = ap is_enter call

    same : (s : Bool) (o : Option Member) → option_map (λ m. m.context) (option_map (λ m. cond s (gone m) m) o) ≡ option_map (λ m. m.context) o
    same s None = refl
    same true (Some m) = refl
    same false (Some m) = refl

    stays : (s : Bool) (o : Option Member) → is_live_in (option_map (λ m. cond s (gone m) m) o) ≡ (is_live_in o && not s)
    stays s None = refl
    stays true (Some m) = none m.is_live
      where
        none : (b : Bool) → false ≡ (b && false)
        none true = refl
        none false = refl
    stays false (Some m) = sym (and_true m.is_live)

    lives : (d : ContextNo) → is_live (e ∷ past) d ≡ (is_live past d && not (same_context c d))
    lives d = live_later past e d enter ∙ ap (λ k. is_live past d && not (is_leave k && is_by e.who d)) call ∙ ap (λ b. is_live past d && not b) (by_same e.who c d who)

    heard : (s : Bool) (o : Option Member) → option_map (λ m. m.listens) (option_map (λ m. cond s (gone m) m) o) ≡ option_map (λ m. m.listens) o
    heard s None = refl
    heard true (Some m) = refl
    heard false (Some m) = refl

    first : (b s : Bool) → (b && not s) ≡ true → b ≡ true
    first true s h = refl
    first false s h = h

-- a context that did not come in did not leave
strange_stays : (past : List Entry) (d : ContextNo) → context_of past d ≡ None → has_left past d ≡ false
strange_stays [] d none = refl
strange_stays (e ∷ past) d none =
    let before : context_of past d ≡ None = by (context_of past d) none in
    ap (λ b. b || (is_there (context_of past d) && is_leave e.call && is_by e.who d)) (strange_stays past d before)
    ∙ ap (λ o. is_there o && is_leave e.call && is_by e.who d) before
  where
    by : (o : Option Context) → option_or o (if_numbered d (enters e)) ≡ None → o ≡ None
    by None h = refl
    by (Some x) h = absurd (none-some x (sym h))

deaf_after : (past : List Entry) (who : Who) (call : Call) (d : ContextNo) → may_make past who call ≡ true → contexts past ≤ d.0 → listens_after call (is_by who d) deaf ≡ deaf
deaf_after past (ByContext c) (Listen l) d may new = by (same_context c d) refl
  where
    by : (s : Bool) → same_context c d ≡ s → listens_after (Listen l) s deaf ≡ deaf
    by false same = refl
    by true same = let e : c.0 ≡ d.0 = same_is c.0 d.0 same in let low : nat_lt c.0 (contexts past) ≡ true = may in absurd (grind (arith, nat_tests, e, low, new))
deaf_after past (ByHost h) (Listen l) d may new = refl
deaf_after past who call d may new = refl

-- nobody listens whose number was not given
new_is_deaf : (world : WorldLists) (past : List Entry) (d : ContextNo) → EachAfter (FollowsMachine world) past → contexts past ≤ d.0 → listens_of past d ≡ deaf
new_is_deaf world [] d legal new = refl
new_is_deaf world (e ∷ past) d legal new =
    let before : contexts past ≤ d.0 = by (is_enter e.call) new in
    ap (listens_after e.call (is_by e.who d)) (new_is_deaf world past d legal.0 before)
    ∙ deaf_after past e.who e.call d legal.1.may before
  where
    by : (b : Bool) → cond b 1 0 + contexts past ≤ d.0 → contexts past ≤ d.0
    by true h = omega (arith, h)
    by false h = omega (arith, h)

-- the count grows by the context that came in
pub count_entered : (past : List Entry) (e : Entry) (x : Context) (members : List Member) → e.call ≡ Enter x → length members ≡ contexts past → length (members ++ newcomer x ∷ []) ≡ contexts (e ∷ past)
count_entered past e x members call count = length-append members (newcomer x ∷ []) ∙ ap (λ n. n + 1) count ∙ omega arith ∙ sym (ap (λ k. cond {A = ℕ} (is_enter k) 1 0 + contexts past) call)

module _ (past : List Entry) (c d : ContextNo) (x : Context) (e : Entry) (is : e ≡ record { who = ByContext c; call = Enter x; answer = Entered c }) where
  context_more : context_of (e ∷ past) d ≡ option_or (context_of past d) (cond (same_context c d) (Some x) None)
  context_more = ap (λ f. option_or (context_of past d) (if_numbered d (enters f))) is

  left_same : has_left (e ∷ past) d ≡ has_left past d
  left_same = ap (λ f. has_left past d || (is_there (context_of past d) && is_leave f.call && is_by f.who d)) is ∙ by (has_left past d) (is_there (context_of past d))
    where
      by : (l t : Bool) → (l || ((t && false) && same_context c d)) ≡ l
      by true t = refl
      by false true = refl
      by false false = refl

  live_more : is_live (e ∷ past) d ≡ (is_there (option_or (context_of past d) (cond (same_context c d) (Some x) None)) && not (has_left past d))
  live_more = ap (λ o. is_there o && not (has_left (e ∷ past) d)) context_more ∙ ap (λ b. is_there (option_or (context_of past d) (cond (same_context c d) (Some x) None)) && not b) left_same

  listens_same : listens_of (e ∷ past) d ≡ listens_of past d
  listens_same = ap (λ f. listens_after f.call (is_by f.who d) (listens_of past d)) is

-- a context came in
pub contexts_entered : (world : WorldLists) (past : List Entry) (e : Entry) (c : ContextNo) (x : Context) (members : List Member) → e ≡ record { who = ByContext c; call = Enter x; answer = Entered c } → c.0 ≡ contexts past → EachAfter (FollowsMachine world) past → length members ≡ contexts past → HasContexts past members → HasContexts (e ∷ past) (members ++ newcomer x ∷ [])
contexts_entered world past e c x members is number legal count told = record {
  came = λ d. ap (option_map (λ m. m.context)) (row d) ∙ came (slice_get members d.0) (same_context c d) ∙ ap (λ o. option_or o (cond (same_context c d) (Some x) None)) (told.came d) ∙ sym (context_more past c d x e is);
  live = λ d. ap is_live_in (row d) ∙ live (slice_get members d.0) (same_context c d) (context_of past d) (has_left past d) (told.came d) (told.live d) (strange_stays past d) ∙ sym (live_more past c d x e is);
  listens = λ d h. ap (option_map (λ m. m.listens)) (row d) ∙ hears d (slice_get members d.0) (same_context c d) refl (told.came d) (strange_stays past d) (told.listens d) (sym (live_more past c d x e is) ∙ h) ∙ ap Some (sym (listens_same past c d x e is));
}
  where
    new : Member
    new = newcomer x

    row : (d : ContextNo) → slice_get (members ++ new ∷ []) d.0 ≡ option_or (slice_get members d.0) (cond (same_context c d) (Some new) None)
    row d = get_options members (Some new) d.0 ∙ ap (λ n. option_or (slice_get members d.0) (cond (n == d.0) (Some new) None)) (count ∙ sym number)

    came : (o : Option Member) (s : Bool) → option_map (λ m. m.context) (option_or o (cond s (Some new) None)) ≡ option_or (option_map (λ m. m.context) o) (cond s (Some x) None)
    came None true = refl
    came None false = refl
    came (Some m) s = refl

    live : (o : Option Member) (s : Bool) (y : Option Context) (l : Bool) → option_map (λ m. m.context) o ≡ y → is_live_in o ≡ (is_there y && not l) → (y ≡ None → l ≡ false) → is_live_in (option_or o (cond s (Some new) None)) ≡ (is_there (option_or y (cond s (Some x) None)) && not l)
    live None s (Some z) l e lives stays = absurd (none-some z e)
    live (Some m) s None l e lives stays = absurd (none-some m.context (sym e))
    live (Some m) s (Some z) l e lives stays = lives
    live None true None l e lives stays = ap not (sym (stays refl))
    live None false None l e lives stays = refl

    hears : (d : ContextNo) (o : Option Member) (s : Bool) → same_context c d ≡ s → option_map (λ m. m.context) o ≡ context_of past d → (context_of past d ≡ None → has_left past d ≡ false) → (is_live past d ≡ true → option_map (λ m. m.listens) o ≡ Some (listens_of past d)) → (is_there (option_or (context_of past d) (cond s (Some x) None)) && not (has_left past d)) ≡ true → option_map (λ m. m.listens) (option_or o (cond s (Some new) None)) ≡ Some (listens_of past d)
    hears d (Some m) s same e stays heard h = heard (ap (λ y. is_there y && not (has_left past d)) (sym e) ∙ ap (λ y. is_there (option_or y (cond s (Some x) None)) && not (has_left past d)) e ∙ h)
    hears d None true same e stays heard h = let n : c.0 ≡ d.0 = same_is c.0 d.0 same in ap Some (sym (new_is_deaf world past d legal (omega (arith, n, number))))
    hears d None false same e stays heard h = absurd (true≢false (sym h ∙ ap (λ y. is_there (option_or y None) && not (has_left past d)) (sym e)))
