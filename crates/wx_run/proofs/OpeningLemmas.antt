-- One more endpoint of the opening.
use Rattle.std.proofs.Common.{◌≡◌, ◌≢◌, ℕ, ◌+◌, ◌<◌, ◌≤◌, length, take, cond, arith, Bool, true, false, List, [], ◌∷◌, ◌++◌, Some, None, refl, sym, ap, ◌∙◌, subst, append_assoc, append-nil}
use Rattle.std.specs.declared.option.Option.{Option}
use Rattle.std.specs.Prelude.{Result, Ok, Err, IfOk, OnErr, slice_get, reverse, ◌&&◌, ◌||◌, not, nat_le, option_to_list}
use Rattle.std.specs.Option.{option_map, option_or}
use Rattle.std.proofs.lemmas.Bool.{eq-eqb}
use Rattle.std.proofs.lemmas.List.{reverse-append, length-map}
use Rattle.std.proofs.lemmas.Option.{slice_get-map}
use Rattle.std.proofs.Math.Seq.{take-length}
use Rattle.wx_id.specs.declared.numbers.ContextNo.{ContextNo}
use Rattle.wx_id.specs.declared.numbers.EntryNo.{EntryNo}
use Rattle.wx_id.specs.declared.numbers.HostNo.{HostNo}
use Rattle.wx_external.specs.World.{WorldLists}
use Rattle.wx_context.specs.declared.contexts.Context.{Context}
use Rattle.wx_context.specs.declared.contexts.Listens.{Listens}
use Rattle.wx_machine.specs.declared.entries.Who.TheVariants.{Context as ByContext}
use Rattle.wx_machine.specs.declared.entries.Call.TheVariants as call
use Rattle.wx_machine.specs.declared.entries.Answer.TheVariants as answer
use Rattle.wx_machine.specs.declared.entries.Entry.{Entry}
use Rattle.wx_machine.specs.Words.{contexts, is_by, is_there, is_live, has_left, context_of, same_context, is_leave}
use Rattle.wx_machine.specs.Words.{IsLegal, FollowsMachine, answer_after, EachAfter, hosts, is_by_host}
use Rattle.wx_broker.specs.State.{BrokerState}
use Rattle.wx_broker.specs.Steps.{Appends, Stays}
use Rattle.wx_desk.specs.BrokerDesks.{has_lent}
use Rattle.wx_desk.proofs.OverLemmas.{lent_later, lent_same}
use Rattle.wx_laws.proofs.Keeping.{legal_keeps_laws}
use Rattle.wx_host_launch.specs.Records.{Writing}
use Rattle.wx_host_slot.specs.Journals.{entries_of}
use Rattle.wx_host_slot.specs.Slots.{host_limit}
use Rattle.wx_script.specs.declared.script.Act.TheVariants as act
use Rattle.wx_script.specs.declared.script.Command.{Command}
use Rattle.wx_script.specs.declared.script.Command.TheVariants.{Plain, Repeat}
use Rattle.wx_script.specs.declared.scene.SceneEndpoint.{SceneEndpoint}
use Rattle.wx_script.specs.SceneValue.{SceneValue, scripts_of}
use Rattle.wx_script.specs.Places.{outside, place_of, place_behind, at_start, is_left, next_at, next_of, asks}
use Rattle.wx_script.specs.Carries.{MayCome}
use Rattle.wx_script.specs.Ends.{numbered, entries_by, entry_limit, is_idle}
use Rattle.wx_script.proofs.ByLemmas.{is_by-own, is_by-other}
use Rattle.wx_desk.specs.History.{seen_by}
use Rattle.wx_endpoint.specs.History.{MayStand, CarriesOn}
use Rattle.wx_endpoint.specs.Turn.{CursorState}
use Rattle.wx_run.specs.declared.outcome.RunEnd.{RunEnd}
use Rattle.wx_run.specs.Opening.{entered, listened, first_listen, first_entries, opening_from, opening}
use Rattle.wx_run.specs.Opened.{scripts_at, AreBelow, AreIn, OpenedSoFar, IsOpenedBy, IsOpened}
use Rattle.wx_run.specs.Cursors.{cursor_of, cursor_at_start, cursors_from, AreBehind, scripts_in, is_spent_at}
use Rattle.wx_run.specs.Round.{AllStand, Follows, IsWithinLimit}
use Rattle.wx_run.specs.Running.{AreReady, AreRounds}
use Rattle.wx_run.specs.Run.{IsRunOf}
use Rattle.wx_run.specs.Hosts.{AreHostsWithin}
use Rattle.wx_run.specs.Slots.{HostsStand}
use Rattle.wx_run.specs.Step.{IsReady, Moves, IsStep}
use Rattle.wx_run.proofs.ListLemmas.{take-snoc, length-take-at}
use Rattle.wx_run.proofs.CursorLemmas.{place_of-own, place_of-other, entries_by-own, entries_by-other, cursors_from-later, cursors_from-append, scripts_in-cursors_from}
use Rattle.wx_run.proofs.SeenLemmas.{may_stand}
use Rattle.wx_run.proofs.FirstLemmas.{none-append}
use Rattle.wx_run.proofs.RoundLemmas.{follows_script, within_more}
use Rattle.wx_run.proofs.RunLemmas.{begins_with}

-- ---- what stood before an endpoint came in

outside_of : (s : List Command) (c : ContextNo) (past : List Entry) → AreBelow c.0 past → place_of s c past ≡ outside
unfolding place_of
outside_of s c [] below = refl
outside_of s c (e ∷ past) below =
    let apart : below.1.c.0 ≢ c.0 = (let less = below.1.below in omega arith) in
    place_of-other s below.1.c c past e below.1.own apart ∙ outside_of s c past below.0

both_and_false : (a b d : Bool) → d ≡ false → (a && b && d) ≡ false
both_and_false true true d is = is
both_and_false true false d is = refl
both_and_false false b d is = refl

-- and has made nothing
none_by : (c : ContextNo) (past : List Entry) → AreBelow c.0 past → entries_by c past ≡ 0
none_by c [] below = refl
none_by c (e ∷ past) below =
    let apart : below.1.c.0 ≢ c.0 = (let less = below.1.below in omega arith) in
    entries_by-other below.1.c c past e below.1.own apart ∙ none_by c past below.0

-- so none of its entries is to be carried out
carries_none : (s : List Command) (c : ContextNo) (past : List Entry) → AreBelow c.0 past → CarriesOn s c (seen_by (ByContext c) past)
carries_none s c [] below = tt
carries_none s c (e ∷ past) below =
    let apart : below.1.c.0 ≢ c.0 = (let less = below.1.below in omega arith) in
    (carries_none s c past below.0, subst (λ b. MayStand s c b (seen_by (ByContext c) past) e) (sym (is_by-other e.who below.1.c c below.1.own apart)) tt)

has_left-below : (past : List Entry) (c : ContextNo) → AreBelow c.0 past → has_left past c ≡ false
has_left-below [] c below = refl
has_left-below (e ∷ past) c below =
    let apart : below.1.c.0 ≢ c.0 = (let less = below.1.below in omega arith) in
    ap (λ b. b || (is_there (context_of past c) && is_leave e.call && is_by e.who c)) (has_left-below past c below.0)
    ∙ both_and_false (is_there (context_of past c)) (is_leave e.call) (is_by e.who c) (is_by-other e.who below.1.c c below.1.own apart)

there_or : (o : Option Context) (x : Context) → is_there (option_or o (Some x)) ≡ true
there_or None x = refl
there_or (Some y) x = refl

and_false_and : (a d : Bool) → (a && false && d) ≡ false
and_false_and true d = refl
and_false_and false d = refl

-- who has just come in lives
is_live-entered : (past : List Entry) (c : ContextNo) (x : Context) → AreBelow c.0 past → is_live (entered c x ∷ past) c ≡ true
is_live-entered past c x below =
    let there : is_there (option_or (context_of past c) (cond (same_context c c) (Some x) None)) ≡ true =
    ap (λ b. is_there (option_or (context_of past c) (cond b (Some x) None))) (eq-eqb c.0 c.0 refl) ∙ there_or (context_of past c) x in
    let stays : has_left (entered c x ∷ past) c ≡ false =
    ap (λ b. b || (is_there (context_of past c) && false && same_context c c)) (has_left-below past c below)
    ∙ and_false_and (is_there (context_of past c)) (same_context c c) in
    ap (λ b. b && not (has_left (entered c x ∷ past) c)) there ∙ ap not stays

below_more : (n : ℕ) (past : List Entry) → AreBelow n past → AreBelow (n + 1) past
below_more n [] below = tt
below_more n (e ∷ past) below =
    let less = below.1.below in
    (below_more n past below.0, record { c = below.1.c; own = below.1.own; below = omega arith })

-- ---- the opening with one more endpoint

opening_from-append : (es : List SceneEndpoint) (e : SceneEndpoint) (n m : ℕ) → m ≡ n + length es → opening_from n (es ++ e ∷ []) ≡ opening_from n es ++ first_entries (numbered m) e
opening_from-append [] e n m at = let here : n ≡ m = omega arith in append-nil (first_entries (numbered n) e) ∙ ap (λ n. first_entries (numbered n) e) here
opening_from-append (x ∷ es) e n m at =
    ap (λ xs. first_entries (numbered n) x ++ xs) (opening_from-append es e (n + 1) m (omega arith))
    ∙ sym (append_assoc (first_entries (numbered n) x) (opening_from (n + 1) es) (first_entries (numbered m) e))

reverse-opening : (es : List SceneEndpoint) (i : ℕ) (e : SceneEndpoint) → slice_get es i ≡ Some e → reverse (opening_from 0 (take (i + 1) es)) ≡ reverse (first_entries (numbered i) e) ++ reverse (opening_from 0 (take i es))
reverse-opening es i e is =
    ap (λ t. reverse (opening_from 0 t)) (take-snoc es i e is)
    ∙ ap reverse (opening_from-append (take i es) e 0 i (length-take-at es i e is))
    ∙ reverse-append (opening_from 0 (take i es)) (first_entries (numbered i) e)

-- ---- an endpoint that has come in

-- the endpoint's cursor behind its `enter`
entered_cursor : (s : List Command) (c : ContextNo) (x : Context) (past : List Entry) → AreBelow c.0 past → cursor_at_start s ≡ cursor_of s c (entered c x ∷ past)
entered_cursor s c x past below =
    let stands : place_of s c (entered c x ∷ past) ≡ at_start s =
    place_of-own s c past (entered c x) refl ∙ ap (λ p. place_behind s p (answer.Entered c)) (outside_of s c past below) in
    let made : 1 ≡ entries_by c (entered c x ∷ past) = (let none = none_by c past below in let own = entries_by-own c past (entered c x) refl in omega arith) in
    λ i. record { script = s; place = (sym stands) i; made = made i }

-- what `enter` answers
enter_follows : (world : WorldLists) (past : List Entry) (c : ContextNo) (x : Context) → answer.Entered c ≡ answer_after world past (ByContext c) (call.Enter x)
    → (c ≡ numbered (contexts past)) × FollowsMachine world past (entered (numbered (contexts past)) x)
enter_follows world past c x answered =
    let same : c ≡ numbered (contexts past) = cc in
    (same, record { may = eq-eqb (contexts past) (contexts past) refl; answered = refl })

-- it may make its first turn
ready_entered : (world : WorldLists) (past : List Entry) (s : List Command) (x : Context) → EachAfter (FollowsMachine world) past → AreBelow (contexts past) past
    → FollowsMachine world past (entered (numbered (contexts past)) x) → IsReady world (numbered (contexts past)) (cursor_at_start s) (entered (numbered (contexts past)) x ∷ past)
ready_entered world past s x legal below follows =
    let c = numbered (contexts past) in
    let own : is_by (ByContext c) c ≡ true = is_by-own (ByContext c) c refl in
    let may : MayCome past c (next_of s c past) (entered c x) = subst (λ p. MayCome past c (next_at past p) (entered c x)) (sym (outside_of s c past below)) refl in
    record {
      legal = (legal, follows);
      given = omega arith;
      behind = entered_cursor s c x past below;
      carries = (carries_none s c past below, subst (λ b. MayStand s c b (seen_by (ByContext c) past) (entered c x)) (sym own) (may_stand s c past (entered c x) may));
      unspent = refl;
    }

-- what the broker's `enter` leaves
pub record EnterLeaves (old new : BrokerState) (c : ContextNo) (x : Context) : Type 0 where
  pub numbered_is : c ≡ numbered (contexts (reverse old.entries))
  pub follows : FollowsMachine old.world (reverse old.entries) (entered (numbered (contexts (reverse old.entries))) x)
  pub made : reverse new.entries ≡ entered (numbered (contexts (reverse old.entries))) x ∷ reverse old.entries

pub enter_leaves : (old new : BrokerState) (c : ContextNo) (x : Context) → Appends old new (ByContext c) (call.Enter x) (answer.Entered c) → EnterLeaves old new c x
enter_leaves old new c x appends =
    let follows = enter_follows old.world (reverse old.entries) c x appends.answered in
    record {
      numbered_is = follows.0;
      follows = follows.1;
      made = ap reverse appends.grown ∙ reverse-append old.entries (entered c x ∷ []) ∙ ap (λ c. entered c x ∷ reverse old.entries) follows.0;
    }

pub ready_opened : (old new : BrokerState) (c : ContextNo) (s : List Command) (x : Context) → IsLegal old.world old.entries → AreBelow (contexts (reverse old.entries)) (reverse old.entries)
    → Appends old new (ByContext c) (call.Enter x) (answer.Entered c) → IsReady new.world c (cursor_at_start s) (reverse new.entries)
ready_opened old new c s x legal below appends =
    let leaves = enter_leaves old new c x appends in
    subst (λ w. IsReady w c (cursor_at_start s) (reverse new.entries)) (sym appends.same_world)
    (subst (λ j. IsReady old.world c (cursor_at_start s) j) (sym leaves.made)
    (subst (λ c. IsReady old.world c (cursor_at_start s) (entered (numbered (contexts (reverse old.entries))) x ∷ reverse old.entries)) (sym leaves.numbered_is)
    (ready_entered old.world (reverse old.entries) s x legal below leaves.follows)))

-- what the desk lends stands on
pub lent_entered : {E : Type 0} (old new : BrokerState) (lent : Option EntryNo) (x : Context) (r : Result ContextNo E) → IfOk r (λ c. Appends old new (ByContext c) (call.Enter x) (answer.Entered c)) → OnErr r (Stays old new) → has_lent old lent ≡ true
    → has_lent new lent ≡ true
lent_entered old new lent x (Ok c) appends stays is = lent_later (ByContext c) old new lent (call.Enter x) (answer.Entered c) appends is
lent_entered old new lent x (Err e) appends stays is = lent_same old new lent stays is

-- ---- one more endpoint

-- the cursors with that of one more endpoint, behind its own entry
behind_more : (scripts : List (List Command)) (i : ℕ) (s : List Command) (ps : List CursorState) (p : CursorState) (past : List Entry) (e : Entry) → slice_get scripts i ≡ Some s
    → ps ≡ cursors_from (take i scripts) 0 past → e.who ≡ ByContext (numbered i) → p ≡ cursor_of s (numbered i) (e ∷ past)
    → ps ++ p ∷ [] ≡ cursors_from (take (i + 1) scripts) 0 (e ∷ past)
behind_more scripts i s ps p past e is behind own stands =
    let front = take i scripts in
    let len : i ≡ 0 + length front = length-take-at scripts i s is in
    ap (λ ps. ps ++ p ∷ []) (behind ∙ sym (cursors_from-later front 0 past e (numbered i) own (omega (arith, len))))
    ∙ ap (λ p. cursors_from front 0 (e ∷ past) ++ p ∷ []) stands
    ∙ sym (cursors_from-append front s 0 i (e ∷ past) len)
    ∙ ap (λ ss. cursors_from ss 0 (e ∷ past)) (sym (take-snoc scripts i s is))

first_next : (past : List Entry) (script : List Command) (l : Listens) → first_listen script ≡ Some l → next_at past (at_start script) ≡ asks (call.Listen l)
first_next past [] l is = absurd cc
first_next past (Plain (act.Listen k) ∷ commands) l is = let same : k ≡ l = cc in ap (λ k. asks (call.Listen k)) same
first_next past (Plain _ ∷ commands) l is = absurd cc
first_next past (Repeat n a ∷ commands) l is = absurd cc

script_at : (endpoints : List SceneEndpoint) (i : ℕ) (e : SceneEndpoint) → slice_get endpoints i ≡ Some e → slice_get (scripts_at endpoints) i ≡ Some e.script
script_at endpoints i e is = slice_get-map (λ (e : SceneEndpoint). e.script) endpoints i ∙ ap (option_map (λ (e : SceneEndpoint). e.script)) is

-- an endpoint has come in, and made nothing else
record HasEntered (world : WorldLists) (endpoints : List SceneEndpoint) (i : ℕ) (s : List Command) (ps : List CursorState) (past : List Entry) : Type 0 where
  legal : EachAfter (FollowsMachine world) past
  front : ps ≡ cursors_from (take i (scripts_at endpoints)) 0 past
  cursor : cursor_at_start s ≡ cursor_of s (numbered i) past
  behind : ps ++ cursor_at_start s ∷ [] ≡ cursors_from (take (i + 1) (scripts_at endpoints)) 0 past
  all_in : AreIn (i + 1) past
  follows : Follows (scripts_at endpoints) past
  within_limit : IsWithinLimit past
  no_hosts : hosts past ≡ []

enter_step : (world : WorldLists) (endpoints : List SceneEndpoint) (i : ℕ) (e : SceneEndpoint) (ps : List CursorState) (past : List Entry) → slice_get endpoints i ≡ Some e
    → OpenedSoFar world endpoints i ps past → FollowsMachine world past (entered (numbered i) e.context) → HasEntered world endpoints i e.script ps (entered (numbered i) e.context ∷ past)
enter_step world endpoints i e ps past is so follows =
    let c = numbered i in
    let s = e.script in
    let scripts = scripts_at endpoints in
    let at : slice_get scripts i ≡ Some s = script_at endpoints i e is in
    let len : i ≡ 0 + length (take i scripts) = length-take-at scripts i s at in
    let nothing : place_of s c past ≡ outside = outside_of s c past so.all_in.below in
    let cursor : cursor_at_start s ≡ cursor_of s c (entered c e.context ∷ past) = entered_cursor s c e.context past so.all_in.below in
    let few : entries_by c past < entry_limit = (let none = none_by c past so.all_in.below in omega arith) in
    record {
      legal = (so.legal, follows);
      front = so.behind ∙ sym (cursors_from-later (take i scripts) 0 past (entered c e.context) c refl (omega (arith, len)));
      cursor = cursor;
      behind = behind_more scripts i s ps (cursor_at_start s) past (entered c e.context) at so.behind refl cursor;
      all_in = record {
        counted = (let counted = so.all_in.counted in omega (arith, counted));
        below = (below_more i past so.all_in.below, record { c = c; own = refl; below = omega arith });
      };
      follows = (so.follows, follows_script scripts past c s (entered c e.context) refl at (subst (λ p. MayCome past c (next_at past p) (entered c e.context)) (sym nothing) refl));
      within_limit = within_more c past (entered c e.context) refl few so.within_limit;
      no_hosts = ap (λ started. started ++ []) so.no_hosts;
    }

-- the answer to a `listen` behind the `enter`
listen_answer : (world : WorldLists) (past : List Entry) (c : ContextNo) (x : Context) (l : Listens) → AreBelow c.0 past → answer_after world (entered c x ∷ past) (ByContext c) (call.Listen l) ≡ answer.Done
listen_answer world past c x l below = ap (λ b. cond b answer.Done answer.Gone) (is_live-entered past c x below)

same_entry : (e : Entry) (c : ContextNo) (l : Listens) → e.who ≡ ByContext c → e.call ≡ call.Listen l → e.answer ≡ answer.Done → e ≡ listened c l
same_entry e c l who call answer = λ i. record { who = who i; call = call i; answer = answer i }

-- what the endpoint's first turn makes is its `listen`
listen_made : (world : WorldLists) (s : List Command) (c : ContextNo) (x : Context) (l : Listens) (p : CursorState) (past after : List Entry) → AreBelow c.0 past → first_listen s ≡ Some l
    → cursor_at_start s ≡ cursor_of s c (entered c x ∷ past) → (moves : Moves world c (cursor_at_start s) p (entered c x ∷ past) after) → moves.entry ≡ listened c l
listen_made world s c x l p past after below first cursor moves =
    let before = entered c x ∷ past in
    let next : next_of s c before ≡ asks (call.Listen l) = sym (ap (λ (p : CursorState). next_at before p.place) cursor) ∙ first_next before s l first in
    let call_is : moves.entry.call ≡ call.Listen l = subst (λ n. MayCome before c n moves.entry) next moves.asked in
    let answer_is : moves.entry.answer ≡ answer.Done =
    moves.follows.answered
    ∙ ap (λ w. answer_after world before w moves.entry.call) moves.own
    ∙ ap (λ x. answer_after world before (ByContext c) x) call_is
    ∙ listen_answer world past c x l below in
    same_entry moves.entry c l moves.own call_is answer_is

-- an endpoint that made two entries is not spent
two_unspent : (world : WorldLists) (s : List Command) (c : ContextNo) (p : CursorState) (before after : List Entry) → cursor_at_start s ≡ cursor_of s c before → Moves world c (cursor_at_start s) p before after → is_spent_at p ≡ false
two_unspent world s c p before after cursor moves =
    let first : 1 ≡ entries_by c before = ap (λ (p : CursorState). p.made) cursor in
    let made : p.made ≡ entries_by c before + 1 = ap (λ (p : CursorState). p.made) moves.behind ∙ ap (entries_by c) moves.made ∙ entries_by-own c before moves.entry moves.own in
    let two : p.made ≡ 2 = omega (arith, first, made) in
    ap (λ n. nat_le entry_limit n && not (is_left p.place)) two

begins_more : (endpoints : List SceneEndpoint) (i : ℕ) (e : SceneEndpoint) (o : Option Listens) (past after : List Entry) → slice_get endpoints i ≡ Some e → first_listen e.script ≡ o
    → past ≡ reverse (opening_from 0 (take i endpoints)) → after ≡ reverse (entered (numbered i) e.context ∷ option_to_list (option_map (listened (numbered i)) o)) ++ past
    → after ≡ reverse (opening_from 0 (take (i + 1) endpoints))
begins_more endpoints i e o past after is first begins made =
    made
    ∙ ap (λ j. reverse (entered (numbered i) e.context ∷ option_to_list (option_map (listened (numbered i)) o)) ++ j) begins
    ∙ sym (ap (λ o. reverse (entered (numbered i) e.context ∷ option_to_list (option_map (listened (numbered i)) o)) ++ reverse (opening_from 0 (take i endpoints))) first)
    ∙ sym (reverse-opening endpoints i e is)

opened_by : (world : WorldLists) (endpoints : List SceneEndpoint) (i : ℕ) (e : SceneEndpoint) (o : Option Listens) (ps : List CursorState) (p : CursorState) (past after : List Entry) → slice_get endpoints i ≡ Some e
    → first_listen e.script ≡ o → OpenedSoFar world endpoints i ps past → HasEntered world endpoints i e.script ps (entered (numbered i) e.context ∷ past)
    → IsOpenedBy world (numbered i) e.script o p (entered (numbered i) e.context ∷ past) after → OpenedSoFar world endpoints (i + 1) (ps ++ p ∷ []) after
opened_by world endpoints i e None ps p past after is first so came opened =
    let before = entered (numbered i) e.context ∷ past in
    let started : is_spent_at (cursor_at_start e.script) ≡ false = refl in
    let here : OpenedSoFar world endpoints (i + 1) (ps ++ p ∷ []) before = record {
      legal = came.legal;
      begins = begins_more endpoints i e None past before is first so.begins refl;
      behind = ap (λ p. ps ++ p ∷ []) opened.0 ∙ came.behind;
      all_in = came.all_in;
      follows = came.follows;
      within_limit = came.within_limit;
      unspent = none-append is_spent_at ps 0 p so.unspent (ap is_spent_at opened.0 ∙ started);
      no_hosts = came.no_hosts;
    } in
    subst (λ j. OpenedSoFar world endpoints (i + 1) (ps ++ p ∷ []) j) (sym opened.1) here
opened_by world endpoints i e (Some l) ps p past after is first so came opened =
    elim opened.0 as (λ m. IsStep world (numbered i) (cursor_at_start e.script) p (entered (numbered i) e.context ∷ past) after m → OpenedSoFar world endpoints (i + 1) (ps ++ p ∷ []) after) [
      | true ↦ λ moves.
          let c = numbered i in
          let s = e.script in
          let before = entered c e.context ∷ past in
          let x = moves.entry in
          let at : slice_get (scripts_at endpoints) i ≡ Some s = script_at endpoints i e is in
          let made = listen_made world s c e.context l p past after so.all_in.below first came.cursor moves in
          let here : OpenedSoFar world endpoints (i + 1) (ps ++ p ∷ []) (x ∷ before) = record {
            legal = (came.legal, moves.follows);
            begins = begins_more endpoints i e (Some l) past (x ∷ before) is first so.begins (ap (λ x. x ∷ before) made);
            behind = behind_more (scripts_at endpoints) i s ps p before x at came.front moves.own (moves.behind ∙ ap (cursor_of s c) moves.made);
            all_in = record {
              counted = (let counted = came.all_in.counted in let listens = ap (λ (e : Entry). contexts (e ∷ before)) made in omega (arith, counted, listens));
              below = (came.all_in.below, record { c = c; own = moves.own; below = omega arith });
            };
            follows = (came.follows, follows_script (scripts_at endpoints) before c s x moves.own at moves.asked);
            within_limit = within_more c before x moves.own moves.within_limit came.within_limit;
            unspent = none-append is_spent_at ps 0 p so.unspent (two_unspent world s c p before after came.cursor moves);
            no_hosts = ap (λ (e : Entry). hosts (e ∷ before)) made ∙ ap (λ started. started ++ []) came.no_hosts;
          } in
          subst (λ j. OpenedSoFar world endpoints (i + 1) (ps ++ p ∷ []) j) (sym moves.made) here
      | false ↦ λ rests.
          let before = entered (numbered i) e.context ∷ past in
          let next : next_of e.script (numbered i) before ≡ asks (call.Listen l) = sym (ap (λ (p : CursorState). next_at before p.place) came.cursor) ∙ first_next before e.script l first in
          let never : true ≡ false = sym rests.idle ∙ ap (is_idle before (numbered i)) next in
          absurd cc
    ] opened.1

pub opened_step : (world : WorldLists) (endpoints : List SceneEndpoint) (i : ℕ) (e : SceneEndpoint) (ps : List CursorState) (p : CursorState) (past after : List Entry) → slice_get endpoints i ≡ Some e
    → OpenedSoFar world endpoints i ps past → IsOpened world e p past after → OpenedSoFar world endpoints (i + 1) (ps ++ p ∷ []) after
opened_step world endpoints i e ps p past after is so opened =
    let follows : FollowsMachine world past (entered (numbered i) e.context) = subst (λ n. FollowsMachine world past (entered (numbered n) e.context)) so.all_in.counted opened.follows in
    opened_by world endpoints i e (first_listen e.script) ps p past after is refl so (enter_step world endpoints i e ps past is so follows)
    (subst (λ n. IsOpenedBy world (numbered n) e.script (first_listen e.script) p (entered (numbered n) e.context ∷ past) after) so.all_in.counted opened.opened)

-- before the first endpoint
pub opened_none : (world : WorldLists) (endpoints : List SceneEndpoint) → OpenedSoFar world endpoints 0 [] []
opened_none world endpoints = record { legal = tt; begins = refl; behind = refl; all_in = record { counted = refl; below = tt }; follows = tt; within_limit = λ c. omega arith; unspent = refl; no_hosts = refl }

-- the cursors with one more
pub opened_push : (world : WorldLists) (endpoints : List SceneEndpoint) (i : ℕ) (ps qs : List CursorState) (p : CursorState) (b : Bool) (past : List Entry) → qs ≡ cond b (ps ++ p ∷ []) ps → b ≡ true
    → OpenedSoFar world endpoints i (ps ++ p ∷ []) past → OpenedSoFar world endpoints i qs past
opened_push world endpoints i ps qs p true past is ok so = subst (λ ps. OpenedSoFar world endpoints i ps past) (sym is) so
opened_push world endpoints i ps qs p false past is ok so = absurd cc

-- ---- behind the whole opening

take_scripts : (endpoints : List SceneEndpoint) → take (length endpoints) (scripts_at endpoints) ≡ scripts_at endpoints
take_scripts endpoints =
    ap (λ n. take n (scripts_at endpoints)) (sym (length-map endpoints (λ (e : SceneEndpoint). e.script)))
    ∙ take-length (scripts_at endpoints)

opened_behind : (world : WorldLists) (endpoints : List SceneEndpoint) (ps : List CursorState) (past : List Entry) → OpenedSoFar world endpoints (length endpoints) ps past → AreBehind (scripts_at endpoints) ps past
opened_behind world endpoints ps past so = so.behind ∙ ap (λ ss. cursors_from ss 0 past) (take_scripts endpoints)

opened_scripts : (world : WorldLists) (endpoints : List SceneEndpoint) (ps : List CursorState) (past : List Entry) → OpenedSoFar world endpoints (length endpoints) ps past → scripts_in ps ≡ scripts_at endpoints
opened_scripts world endpoints ps past so = ap scripts_in (opened_behind world endpoints ps past so) ∙ scripts_in-cursors_from (scripts_at endpoints) 0 past

opened_stand : (world : WorldLists) (endpoints : List SceneEndpoint) (ps : List CursorState) (past : List Entry) → OpenedSoFar world endpoints (length endpoints) ps past → AllStand world (scripts_in ps) ps past
opened_stand world endpoints ps past so =
    let all : length (scripts_at endpoints) ≡ length endpoints = length-map endpoints (λ (e : SceneEndpoint). e.script) in
    subst (λ ss. AllStand world ss ps past) (sym (opened_scripts world endpoints ps past so)) (record {
      legal = so.legal;
      behind = opened_behind world endpoints ps past so;
      follows = so.follows;
      all_in = (let counted = so.all_in.counted in omega (arith, all, counted));
      within_limit = so.within_limit;
    })

none_of_hosts : (n : ℕ) (past : List Entry) (h : HostNo) → AreBelow n past → entries_of h past ≡ 0
none_of_hosts n [] h below = refl
none_of_hosts n (e ∷ past) h below =
    let one = ap (λ w. cond (is_by_host w h) 1 0 + entries_of h past) below.1.own in
    omega (arith, one, none_of_hosts n past h below.0)

-- no host was called yet
opened_hosts : (writing : Option Writing) (world : WorldLists) (endpoints : List SceneEndpoint) (ps : List CursorState) (past : List Entry) → OpenedSoFar world endpoints (length endpoints) ps past → HostsStand writing world past []
opened_hosts writing world endpoints ps past so =
    let none = λ (h : HostNo). none_of_hosts (length endpoints) past h so.all_in.below in
    record {
      stand = tt;
      below = omega arith;
      none_beyond = λ h beyond. none h;
      within_limit = λ h. subst (λ n. n ≤ host_limit + 2) (sym (none h)) (omega arith);
    }

-- the first round may begin
pub opened_ready : (writing : Option Writing) (world : WorldLists) (endpoints : List SceneEndpoint) (ps : List CursorState) (past : List Entry) → OpenedSoFar world endpoints (length endpoints) ps past → AreReady writing world (scripts_in ps) ps [] past
opened_ready writing world endpoints ps past so = record {
  endpoints = opened_stand world endpoints ps past so;
  hosts_stand = opened_hosts writing world endpoints ps past so;
  unspent = so.unspent;
  hosts_unspent = refl;
  all = ap length (sym so.no_hosts);
}

pub opened_rounds : (world : WorldLists) (scene : SceneValue) (ps : List CursorState) (opened after : List Entry) (end : RunEnd) → OpenedSoFar world scene.endpoints (length scene.endpoints) ps opened → AreRounds 0 (scripts_in ps) opened after end
    → AreRounds 0 (scripts_of scene) (reverse (opening scene)) after end
opened_rounds world scene ps opened after end so came =
    let endpoints = scene.endpoints in
    let begins : opened ≡ reverse (opening scene) = so.begins ∙ ap (λ es. reverse (opening_from 0 es)) (take-length endpoints) in
    subst (λ j. AreRounds 0 (scripts_of scene) j after end) begins
    (subst (λ ss. AreRounds 0 ss opened after end) (opened_scripts world endpoints ps opened so) came)

pub run_of : (world : WorldLists) (scene : SceneValue) (journal : List Entry) (end : RunEnd) → IsLegal world journal → AreHostsWithin (reverse journal) → AreRounds 0 (scripts_of scene) (reverse (opening scene)) (reverse journal) end → IsRunOf world scene journal end
run_of world scene journal end legal hosts_within rounds = record {
  legal = legal;
  laws = legal_keeps_laws world journal legal;
  carries_out = rounds.follows;
  begins = begins_with rounds.count 0 (scripts_of scene) (opening scene) journal rounds.rounds;
  within_limit = rounds.within_limit;
  hosts_within_limit = hosts_within;
  ended = rounds.ended;
}
