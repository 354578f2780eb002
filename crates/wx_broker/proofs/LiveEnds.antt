-- Who lives while a channel is open or a request is unsettled.
use Rattle.std.proofs.Common.{◌≡◌, ℕ, List, [], ◌∷◌, length, refl, ap, sym, ◌∙◌, Bool, true, false, cond, not, subst}
use Rattle.std.specs.Prelude.{Option, Some, None, filter, is_some, ◌&&◌, ◌||◌, ◌==◌}
use Rattle.std.specs.Option.{option_or}
use Rattle.std.specs.List.{list_all, list_any}
use Rattle.std.proofs.lemmas.Bool.{and_parts, false≢true, true≢false}
use Rattle.wx_id.specs.Contexts.{is_among, same_context}
use Rattle.wx_id.specs.declared.numbers.ContextNo.{ContextNo}
use Rattle.wx_id.specs.declared.numbers.RequestNo.{RequestNo}
use Rattle.wx_id.specs.declared.events.End.TheVariants.{Neither, Opener, Receiver}
use Rattle.wx_id.proofs.ContextLemmas.{same_context_is}
use Rattle.wx_external.specs.World.{WorldLists}
use Rattle.wx_machine.specs.declared.sorts.Sort.TheVariants.{Connection}
use Rattle.wx_machine.specs.declared.entries.Who.{Who}
use Rattle.wx_machine.specs.declared.entries.Who.TheVariants.{Context as ByContext, Host as ByHost}
use Rattle.wx_machine.specs.declared.entries.Call.{Call}
use Rattle.wx_machine.specs.declared.entries.Call.TheVariants.{Connect, ConnectNative, Leave, Send, SendNative}
use Rattle.wx_machine.specs.declared.entries.Answer.{Answer}
use Rattle.wx_machine.specs.declared.entries.Answer.TheVariants.{Channel as OnChannel, Gone, Request as OnRequest}
use Rattle.wx_machine.specs.declared.entries.Entry.{Entry}
use Rattle.wx_machine.specs.Words.{answer_after, asked_by, asks, channel, channels, Ends, ends_by, ends_channel, ends_request, has_open, is_asked, is_asker}
use Rattle.wx_machine.specs.Words.{is_by, is_closed, is_leave, is_live, is_settled, leaving, opened_by, opens, Parties, receivers_of, request, requests, settles_by}
use Rattle.wx_laws.specs.Legal.{IsLegalPast}
use Rattle.wx_laws.proofs.Closings.{stays_if}
use Rattle.wx_laws.proofs.Places.{channel_later, closed_later, lives_on}
use Rattle.wx_laws.proofs.RequestsLater.{asker_more}
use Rattle.wx_broker.proofs.LivesLater.{among_passing, leave_entry, receivers_live}
use Rattle.wx_broker.proofs.RequestsLater.{settled_more}
use Rattle.wx_broker.proofs.TestsLater.{all_weaker, and_false, any_passes, has_some, not_not}
use Rattle.wx_broker.proofs.LeftLater.{fewer_is}
use Rattle.wx_broker.proofs.OutcomesLater.{none_of}

-- where the channel has receivers, one of them lives
abbrev pub IsHeard : List Entry → Option Ends → Type 0
IsHeard past None = Unit {0}
IsHeard past (Some ends) = has_some ends.receivers ≡ true → list_any (is_live past) ends.receivers ≡ true

any_weaker : (p q : ContextNo → Bool) → ((x : ContextNo) → p x ≡ true → q x ≡ true) → (xs : List ContextNo) → list_any p xs ≡ true → list_any q xs ≡ true
any_weaker p q weaker [] h = absurd (false≢true h)
any_weaker p q weaker (x ∷ xs) h = by (p x) refl (q x) refl (any_weaker p q weaker xs) h
  where
    by : (a : Bool) → p x ≡ a → (b : Bool) → q x ≡ b → (list_any p xs ≡ true → list_any q xs ≡ true) → (a || list_any p xs) ≡ true → (b || list_any q xs) ≡ true
    by a i true j rest h = refl
    by true i false j rest h = absurd (true≢false (sym (weaker x i) ∙ j))
    by false i false j rest h = rest h

all_any : (p : ContextNo → Bool) (xs : List ContextNo) → list_all p xs ≡ true → has_some xs ≡ true → list_any p xs ≡ true
all_any p [] all some = absurd (false≢true some)
all_any p (x ∷ xs) all some = let here : p x ≡ true = (and_parts (p x) (list_all p xs) all).0 in rw here refl

either_fails : (a b : Bool) → (a || b) ≡ false → (a ≡ false) × (b ≡ false)
either_fails true b h = absurd (true≢false h)
either_fails false b h = (refl, h)

-- a channel that an entry opens
heard_new : (past now : List Entry) (who : Who) (call : Call) (answer : Answer) → (is_leave call ≡ false → (d : ContextNo) → is_live past d ≡ true → is_live now d ≡ true) → IsHeard now (opened_by past who call answer)
heard_new past now (ByContext c) (Connect target name) (OnChannel k) stays =
    λ some. all_any (is_live now) (receivers_of past c target Connection) (all_weaker (is_live past) (is_live now) (stays refl) (receivers_of past c target Connection) (receivers_live past c target Connection)) some
heard_new past now (ByContext c) (ConnectNative name) (OnChannel k) stays = λ some. absurd (false≢true some)
heard_new past now who call answer stays = tt

-- a channel that an entry does not end
heard_still : (past : List Entry) (k : ℕ) (who : Who) (call : Call) (answer : Answer) (o : Option Ends) → let e : Entry = record { who = who; call = call; answer = answer } in ends_by past e k o who call ≡ false → IsHeard past o → IsHeard (e ∷ past) o
heard_still past k who call answer None h before = tt
heard_still past k (ByContext c) Leave answer (Some ends) h before = λ some. left (same_context ends.opener c) (is_among ends.receivers c) refl h (before some)
  where
    left : (s a : Bool) → is_among ends.receivers c ≡ a → leaving (cond s Opener (cond a Receiver Neither)) (list_any (is_live (leave_entry c answer ∷ past)) ends.receivers) ≡ false → list_any (is_live past) ends.receivers ≡ true → list_any (is_live (leave_entry c answer ∷ past)) ends.receivers ≡ true
    left true a m h was = absurd (true≢false h)
    left false true m h was = sym (not_not (list_any (is_live (leave_entry c answer ∷ past)) ends.receivers)) ∙ ap not h
    left false false m h was =
        fewer_is past c answer ends.receivers
        ∙ ap has_some (none_of c (filter (is_live past) ends.receivers) (among_passing (is_live past) ends.receivers c ∙ rw m (and_false (is_live past c))))
        ∙ sym (any_passes (is_live past) ends.receivers)
        ∙ was
heard_still past k (ByHost g) Leave answer (Some ends) h before =
    let e : Entry = record { who = ByHost g; call = Leave; answer = answer } in
    λ some. any_weaker (is_live past) (is_live (e ∷ past)) (λ d l. lives_on past e d l refl) ends.receivers (before some)
heard_still past k who call answer (Some ends) h before =
    let e : Entry = record { who = who; call = call; answer = answer } in
    λ some. any_weaker (is_live past) (is_live (e ∷ past)) (λ d l. lives_on past e d l refl) ends.receivers (before some)

-- a channel that is open and has receivers has a live one
pub heard : (past : List Entry) (k : ℕ) → is_closed past k ≡ false → IsHeard past (channel past k)
heard [] k open_still = tt
heard (e ∷ past) k open_still =
    let before : (is_closed past k ≡ false) × (ends_channel past e k ≡ false) = either_fails (is_closed past k) (ends_channel past e k) (sym (closed_later past e k) ∙ open_still) in
    subst (IsHeard (e ∷ past)) (sym (channel_later past e k)) (by (channel past k) before.1 (heard past k before.0))
  where
    new : (b : Bool) → IsHeard (e ∷ past) (cond b (opens past e) None)
    new true = heard_new past (e ∷ past) e.who e.call e.answer (λ stays d l. lives_on past e d l (ap (λ b. b && is_by e.who d) stays))
    new false = tt

    by : (o : Option Ends) → ends_by past e k o e.who e.call ≡ false → IsHeard past o → IsHeard (e ∷ past) (option_or o (cond (length (channels past) == k) (opens past e) None))
    by None h was = new (length (channels past) == k)
    by (Some ends) h was = heard_still past k e.who e.call e.answer (Some ends) h was

request_live : (r : RequestNo) (live : Bool) (a : Answer) → OnRequest r ≡ cond live a Gone → live ≡ true
request_live r true a h = refl
request_live r false a h = absurd (cc)

-- who makes a request lives, and does not leave by that
asker_new : (world : WorldLists) (past : List Entry) (c : ContextNo) (who : Who) (call : Call) (answer : Answer) → answer ≡ answer_after world past who call → is_asker (asked_by past who call answer) c ≡ true → (is_live past c ≡ true) × (is_leave call ≡ false)
asker_new world past c (ByContext o) (Send target text) (OnRequest r) l h =
    (subst (λ (x : ContextNo). is_live past x ≡ true) (same_context_is o c h) (request_live r (is_live past o) _ l), refl)
asker_new world past c (ByContext o) (SendNative name text) (OnRequest r) l h =
    (subst (λ (x : ContextNo). is_live past x ≡ true) (same_context_is o c h) (request_live r (is_live past o) _ l), refl)
asker_new world past c _ _ _ l h = absurd (false≢true h)

-- the leave of its asker settles a request
leave_settles : (past : List Entry) (e : Entry) (r : ℕ) (o : Option Parties) (c : ContextNo) (who : Who) (call : Call) → is_asker o c ≡ true → (is_leave call && is_by who c) ≡ true → settles_by past e r o who call ≡ true
leave_settles past e r o c (ByContext d) Leave asked is =
    subst (λ (x : ContextNo). (is_asker o x || (is_asked o x && not (has_open (e ∷ past) r o))) ≡ true) (sym (same_context_is d c is)) (rw asked refl)
leave_settles past e r o c (ByHost h) Leave asked is = absurd (false≢true is)
leave_settles past e r o c _ _ asked is = absurd (false≢true is)

-- the asker of a request that is not settled lives
pub asker_lives : (world : WorldLists) (past : List Entry) (r : ℕ) (c : ContextNo) → IsLegalPast world past → is_settled past r ≡ false → is_asker (request past r) c ≡ true → is_live past c ≡ true
asker_lives world [] r c legal unsettled asked = absurd (false≢true asked)
asker_lives world (e ∷ past) r c legal unsettled asked =
    let before : (is_settled past r ≡ false) × (ends_request past e r ≡ false) = either_fails (is_settled past r) (ends_request past e r) (sym (settled_more e past r) ∙ unsettled) in
    by ((length (requests past) == r) && is_some (asks past e)) (sym (asker_more e past r c) ∙ asked) before.1 (λ h. asker_lives world past r c legal.0 before.0 h)
  where
    by : (b : Bool) → cond b (is_asker (asks past e) c) (is_asker (request past r) c) ≡ true → ends_request past e r ≡ false → (is_asker (request past r) c ≡ true → is_live past c ≡ true) → is_live (e ∷ past) c ≡ true
    by true h not_ended was =
        let t : (is_live past c ≡ true) × (is_leave e.call ≡ false) = asker_new world past c e.who e.call e.answer legal.1.answered h in
        lives_on past e c t.0 (ap (λ b. b && is_by e.who c) t.1)
    by false h not_ended was =
        lives_on past e c (was h)
        (stays_if (is_leave e.call && is_by e.who c) (ends_request past e r) (λ l. leave_settles past e r (request past r) c e.who e.call h l) not_ended)
