-- What a call of a broker is at a desk over it.
use Rattle.std.proofs.Common.{◌≡◌, ℕ, ◌<◌, ◌+◌, List, [], ◌∷◌, ◌++◌, length, Bool, true, false, cond, Some, None, Ok, Err, IfOk, OnErr, refl, ap, sym, subst, ◌∙◌, arith, IsTrue}
use Rattle.std.specs.Prelude.{Option, Result, reverse, slice_get, is_some, IsSome, option_to_list}
use Rattle.std.specs.Option.{option_and_then}
use Rattle.std.proofs.lemmas.List.{reverse-append, reverse-reverse, length-append}
use Rattle.std.proofs.lemmas.Bool.{eq-eqb, false≢true}
use Rattle.wx_id.specs.declared.numbers.ContextNo.{ContextNo}
use Rattle.wx_id.specs.declared.numbers.EntryNo.{EntryNo}
use Rattle.wx_id.specs.declared.numbers.HostNo.{HostNo}
use Rattle.wx_external.specs.World.{WorldLists}
use Rattle.wx_machine.specs.declared.entries.Who.{Who}
use Rattle.wx_machine.specs.declared.entries.Call.{Call}
use Rattle.wx_machine.specs.declared.entries.Answer.{Answer}
use Rattle.wx_machine.specs.declared.entries.Entry.{Entry}
use Rattle.wx_machine.specs.Words.{FollowsMachine, may_make, text_in, text_carried, text_of, contexts, is_enter, EachAfter, hosts, starts}
use Rattle.wx_machine.specs.declared.entries.Who.TheVariants.{Context, Host}
use Rattle.wx_broker.specs.State.{BrokerState}
use Rattle.wx_broker.specs.Steps.{Appends, Stays}
use Rattle.wx_desk.specs.History.{Seen, entries_in, same_who, seen_by}
use Rattle.wx_desk.specs.Desks.{DeskState, past_of, IsKnown, IsSound, MakesNone, MakesOne, after_own}
use Rattle.wx_desk.specs.BrokerDesks.{desk_over, has_lent}
use Rattle.wx_desk.proofs.HistoryLemmas.{makes_none, others_none}
use Rattle.wx_desk.proofs.TextLemmas.{text_stays}

-- ---- what it tells

-- the entries that one has seen are the journal
pub entries_in-seen_by : (who : Who) (past : List Entry) → entries_in (seen_by who past) ≡ past
entries_in-seen_by who [] = refl
entries_in-seen_by who (e ∷ past) = ap (λ es. e ∷ es) (entries_in-seen_by who past)

-- each is its own
pub same_who-own : (who : Who) → same_who who who ≡ true
same_who-own (Context c) = eq-eqb c.0 c.0 refl
same_who-own (Host h) = eq-eqb h.0 h.0 refl

-- who is known stays known
pub known_later : (e : Entry) (past : List Entry) (who : Who) → IsKnown past who → IsKnown (e ∷ past) who
known_later e past (Context c) known = more (is_enter e.call) known
  where
    more : (came : Bool) → c.0 < contexts past → c.0 < cond came 1 0 + contexts past
    more true known = omega arith
    more false known = omega arith
known_later e past (Host h) known = omega (arith, known, length-append (hosts past) (option_to_list (starts past e)))

module _ {A : Type 0} (as_who : A → Who) (who : A) where
  -- the journal of the desk is the broker's
  pub past_over : (broker : BrokerState) → past_of (desk_over as_who who broker) ≡ reverse broker.entries
  past_over broker = entries_in-seen_by (as_who who) (reverse broker.entries)

  pub legal_over : (broker : BrokerState) → IsSound (desk_over as_who who broker) → EachAfter (FollowsMachine broker.world) (reverse broker.entries)
  legal_over broker sound = subst (EachAfter (FollowsMachine broker.world)) (past_over broker) sound.legal

  pub known_over : (broker : BrokerState) → IsSound (desk_over as_who who broker) → IsKnown (reverse broker.entries) (as_who who)
  known_over broker sound = subst (λ past. IsKnown past (as_who who)) (past_over broker) sound.known

  pub sound_over : (broker : BrokerState) → EachAfter (FollowsMachine broker.world) (reverse broker.entries) → IsKnown (reverse broker.entries) (as_who who) → IsSound (desk_over as_who who broker)
  sound_over broker legal known = record {
    legal = subst (EachAfter (FollowsMachine broker.world)) (sym (past_over broker)) legal;
    known = subst (λ past. IsKnown past (as_who who)) (sym (past_over broker)) known;
  }

-- ---- one more entry, or none

pub past_after : (who : Who) (old new : BrokerState) (call : Call) (answer : Answer) → Appends old new who call answer
    → reverse new.entries ≡ record { who = who; call = call; answer = answer } ∷ reverse old.entries
past_after who old new call answer appends = ap reverse appends.grown ∙ reverse-append old.entries (_ ∷ [])

module _ {A : Type 0} (as_who : A → Who) (who : A) (old new : BrokerState) where
  pub desk_after : (call : Call) (answer : Answer) → Appends old new (as_who who) call answer
      → desk_over as_who who new ≡ after_own (desk_over as_who who old) call answer
  desk_after call answer appends =
      let e : Entry = record { who = as_who who; call = call; answer = answer } in
      let D : WorldLists → List Seen → DeskState A as_who = λ world history. record { who = who; world = world; history = history; alone = true } in
      let S : Bool → Seen = λ b. record { own = b; entry = e } in
      ap (λ w. D w (seen_by (as_who who) (reverse new.entries))) appends.same_world
      ∙ ap (λ es. D old.world (seen_by (as_who who) es)) (past_after (as_who who) old new call answer appends)
      ∙ ap (λ b. D old.world (S b ∷ seen_by (as_who who) (reverse old.entries))) (same_who-own (as_who who))

  abbrev pub makes_one : (call : Call) (answer : Answer) → Appends old new (as_who who) call answer → MakesOne (desk_over as_who who old) (desk_over as_who who new) call answer
  makes_one call answer appends = record { between = desk_over as_who who old; others = makes_none (desk_over as_who who old); made = desk_after call answer appends }

  pub made_one : {E : Type 0} (call : Call) (r : Result Answer E) → IfOk r (λ answer. Appends old new (as_who who) call answer)
      → IfOk r (λ answer. MakesOne (desk_over as_who who old) (desk_over as_who who new) call answer)
  made_one call (Ok answer) appends = makes_one call answer appends
  made_one call (Err e) appends = tt

  pub made_none : Stays old new → MakesNone (desk_over as_who who old) (desk_over as_who who new)
  made_none stays = record {
    others = [];
    none_own = others_none;
    none_came = λ is. refl;
    seen = ap (λ es. seen_by (as_who who) (reverse es)) stays.same_entries;
    same_who = refl;
    same_world = stays.same_world;
    same_alone = refl;
  }

  -- the desk stays sound after an entry by whoever may make it
  pub sound_grown : (d : Who) (call : Call) (answer : Answer) → IsSound (desk_over as_who who old) → IsTrue (may_make (reverse old.entries) d call) → Appends old new d call answer
      → IsSound (desk_over as_who who new)
  sound_grown d call answer sound may appends =
      let e : Entry = record { who = d; call = call; answer = answer } in
      let past : e ∷ reverse old.entries ≡ reverse new.entries = sym (past_after d old new call answer appends) in
      let follows : FollowsMachine old.world (reverse old.entries) e = record { may = may; answered = appends.answered } in
      let legal : EachAfter (FollowsMachine old.world) (reverse new.entries) = subst (EachAfter (FollowsMachine old.world)) past (legal_over as_who who old sound, follows) in
      sound_over as_who who new
      (subst (λ world. EachAfter (FollowsMachine world) (reverse new.entries)) (sym appends.same_world) legal)
      (subst (λ es. IsKnown es (as_who who)) past (known_later e (reverse old.entries) (as_who who) (known_over as_who who old sound)))

  pub sound_same : IsSound (desk_over as_who who old) → Stays old new → IsSound (desk_over as_who who new)
  sound_same sound stays =
      let legal : EachAfter (FollowsMachine old.world) (reverse new.entries) = subst (λ es. EachAfter (FollowsMachine old.world) (reverse es)) (sym stays.same_entries) (legal_over as_who who old sound) in
      sound_over as_who who new
      (subst (λ world. EachAfter (FollowsMachine world) (reverse new.entries)) (sym stays.same_world) legal)
      (subst (λ es. IsKnown (reverse es) (as_who who)) (sym stays.same_entries) (known_over as_who who old sound))

  pub sound_after : {E : Type 0} (call : Call) (r : Result Answer E) → IsTrue (may_make (reverse old.entries) (as_who who) call) → IsSound (desk_over as_who who old)
      → IfOk r (λ answer. Appends old new (as_who who) call answer) → OnErr r (Stays old new) → IsSound (desk_over as_who who new)
  sound_after call (Ok answer) may sound appends stays = sound_grown (as_who who) call answer sound may appends
  sound_after call (Err e) may sound appends stays = sound_same sound stays

-- ---- texts

carried-then : (o : Option Entry) → text_carried o ≡ option_and_then (λ (entry : Entry). text_in entry.call) o
carried-then None = refl
carried-then (Some entry) = refl

-- a text that is found in the broker's journal
pub text_found : (broker : BrokerState) (n : EntryNo) (entries : List Entry) (found : Option (List ℕ)) → entries ≡ broker.entries
    → found ≡ option_and_then (λ (entry : Entry). text_in entry.call) (slice_get entries n.0) → found ≡ text_of (reverse broker.entries) n
text_found broker n entries found same is =
    is ∙ sym (carried-then (slice_get entries n.0)) ∙ ap (λ es. text_carried (slice_get es n.0)) (same ∙ sym (reverse-reverse broker.entries))

carried_in : (o : Option (List ℕ)) → IsSome o → (text : List ℕ) × (o ≡ Some text)
carried_in (Some text) is = (text, refl)
carried_in None is = absurd (false≢true is)

pub lent_later : (who : Who) (old new : BrokerState) (lent : Option EntryNo) (call : Call) (answer : Answer) → Appends old new who call answer → has_lent old lent ≡ true → has_lent new lent ≡ true
lent_later who old new None call answer appends is = refl
lent_later who old new (Some n) call answer appends is =
    let (text, carried) = carried_in (text_of (reverse old.entries) n) is in
    subst IsSome (sym (ap (λ es. text_of es n) (past_after who old new call answer appends) ∙ text_stays (_ ∷ []) (reverse old.entries) n text carried)) refl

pub lent_same : (old new : BrokerState) (lent : Option EntryNo) → Stays old new → has_lent old lent ≡ true → has_lent new lent ≡ true
lent_same old new None stays is = refl
lent_same old new (Some n) stays is = subst (λ es. IsSome (text_of (reverse es) n)) (sym stays.same_entries) is

-- The text that is lent stands in the journal after every call.
pub lent_after : {E : Type 0} (who : Who) (old new : BrokerState) (lent : Option EntryNo) (call : Call) (r : Result Answer E) → IfOk r (λ answer. Appends old new who call answer) → OnErr r (Stays old new)
    → has_lent old lent ≡ true → has_lent new lent ≡ true
lent_after who old new lent call (Ok answer) appends stays is = lent_later who old new lent call answer appends is
lent_after who old new lent call (Err e) appends stays is = lent_same old new lent stays is
