-- What a test takes of the messages, replies and ends that an entry tells.
use Rattle.std.proofs.Common.{◌≡◌, ℕ, ◌<◌, List, [], ◌∷◌, length, refl, ap, ◌∙◌, Bool, true, false, not, sym}
use Rattle.std.specs.Prelude.{Option, Some, None, ◌&&◌, filter, ◌==◌}
use Rattle.wx_id.specs.declared.numbers.ContextNo.{ContextNo}
use Rattle.wx_id.specs.declared.numbers.ChannelNo.{ChannelNo}
use Rattle.wx_id.specs.declared.numbers.RequestNo.{RequestNo}
use Rattle.wx_id.specs.declared.numbers.HostNo.{HostNo}
use Rattle.wx_id.specs.declared.events.EventKind.{EventKind}
use Rattle.wx_id.specs.declared.events.EventKind.TheVariants.{Message, Disconnected, Replied, Closed}
use Rattle.wx_machine.specs.declared.entries.Who.{Who}
use Rattle.wx_machine.specs.declared.entries.Call.{Call}
use Rattle.wx_machine.specs.declared.entries.Answer.{Answer}
use Rattle.wx_machine.specs.declared.entries.Reason.{Reason}
use Rattle.wx_machine.specs.declared.entries.Entry.{Entry}
use Rattle.wx_machine.specs.declared.work.Work.{Work}
use Rattle.wx_machine.specs.Words.{is_by, is_live, channels, channel, end_in, requests, request, is_asker, is_asked, work_of, is_for_channel}
use Rattle.wx_machine.specs.Words.{is_for_request, is_one, is_closed, closes, has_open, is_settled, settles, on, goes_to, work_by, said}
use Rattle.wx_machine.specs.Words.{message, host_disconnected, disconnected, answered, replied, host_unanswered, unanswered}
use Rattle.wx_machine.specs.declared.entries.Who.TheVariants.{Context as ByContext, Host as ByHost}
use Rattle.wx_machine.specs.declared.entries.Call.TheVariants.{Leave, Post, Disconnect, Reply, Decline, HostSaid, HostEnded}
use Rattle.wx_machine.specs.declared.entries.Answer.TheVariants.{Posted, First, Passed}
use Rattle.wx_machine.specs.declared.work.Work.TheVariants.{Channel as ForChannel, Request as ForRequest}
use Rattle.wx_laws.proofs.Numbers.{on_false, at_number, of_number, none_on, none_of}

-- a test that takes no message takes none of those told
no_said : (p : EventKind → Bool) → ((j : ChannelNo) → p (Message j) ≡ false) → (past : List Entry) (who : Who) (work : Option Work) (c : ContextNo) → filter p (said past who work c) ≡ []
no_said p never past who None c = refl
no_said p never past who (Some (ForChannel k)) c = none_on p (goes_to past (channel past k.0) who c) (Message k) (never k)
no_said p never past who (Some (ForRequest r)) c = refl

pub no_messages : (p : EventKind → Bool) → ((j : ChannelNo) → p (Message j) ≡ false) → (past : List Entry) (c : ContextNo) (who : Who) (call : Call) (answer : Answer) → filter p (message past who call answer c) ≡ []
no_messages p never past c who (Post k text) Posted = none_on p (goes_to past (channel past k.0) who c) (Message k) (never k)
no_messages p never past c who (HostSaid text) Passed = no_said p never past who (work_by past who) c
no_messages p never past c _ _ _ = refl

-- a test that takes no reply takes none of those told
no_answered : (p : EventKind → Bool) → ((j : RequestNo) → p (Replied j) ≡ false) → (past : List Entry) (work : Option Work) (c : ContextNo) → filter p (answered past work c) ≡ []
no_answered p never past None c = refl
no_answered p never past (Some (ForChannel k)) c = refl
no_answered p never past (Some (ForRequest r)) c = none_on p (is_asker (request past r.0) c) (Replied r) (never r)

pub no_replies : (p : EventKind → Bool) → ((j : RequestNo) → p (Replied j) ≡ false) → (past : List Entry) (c : ContextNo) (who : Who) (call : Call) (answer : Answer) → filter p (replied past who call answer c) ≡ []
no_replies p never past c who (Reply r text) First = none_on p (is_asker (request past r.0) c) (Replied r) (never r)
no_replies p never past c who (HostSaid text) Passed = no_answered p never past (work_by past who) c
no_replies p never past c _ _ _ = refl

-- a test that takes no end of a channel takes none of those told
no_host_disconnected : (p : EventKind → Bool) → ((j : ChannelNo) → p (Disconnected j) ≡ false) → (past : List Entry) (e : Entry) (work : Option Work) (c : ContextNo) → filter p (host_disconnected past e work c) ≡ []
no_host_disconnected p never past e None c = refl
no_host_disconnected p never past e (Some (ForChannel k)) c = none_on p (closes past e k.0 && goes_to past (channel past k.0) e.who c) (Disconnected k) (never k)
no_host_disconnected p never past e (Some (ForRequest r)) c = refl

pub no_disconnected : (p : EventKind → Bool) → ((j : ChannelNo) → p (Disconnected j) ≡ false) → (past : List Entry) (e : Entry) (call : Call) (c : ContextNo) → filter p (disconnected past e call c) ≡ []
no_disconnected p never past e (Disconnect k) c = none_on p (closes past e k.0 && goes_to past (channel past k.0) e.who c) (Disconnected k) (never k)
no_disconnected p never past e Leave c =
    none_of p (λ n. Disconnected (record { 0 = n })) (λ n. never (record { 0 = n })) (λ k. closes past e k && goes_to past (channel past k) e.who c) 0 (length (channels past))
no_disconnected p never past e (HostEnded reason) c = no_host_disconnected p never past e (work_by past e.who) c
no_disconnected p never past e _ c = refl

-- a test that takes no end of a request takes none of those told
no_host_unanswered : (p : EventKind → Bool) → ((j : RequestNo) → p (Closed j) ≡ false) → (past : List Entry) (e : Entry) (work : Option Work) (c : ContextNo) → filter p (host_unanswered past e work c) ≡ []
no_host_unanswered p never past e None c = refl
no_host_unanswered p never past e (Some (ForChannel k)) c = refl
no_host_unanswered p never past e (Some (ForRequest r)) c = none_on p (settles past e r.0 && is_asker (request past r.0) c && not (is_by e.who c)) (Closed r) (never r)

pub no_unanswered : (p : EventKind → Bool) → ((j : RequestNo) → p (Closed j) ≡ false) → (past : List Entry) (e : Entry) (call : Call) (c : ContextNo) → filter p (unanswered past e call c) ≡ []
no_unanswered p never past e (Decline r) c = none_on p (settles past e r.0 && is_asker (request past r.0) c && not (is_by e.who c)) (Closed r) (never r)
no_unanswered p never past e Leave c =
    none_of p (λ n. Closed (record { 0 = n })) (λ n. never (record { 0 = n })) (λ r. settles past e r && is_asker (request past r) c && not (is_by e.who c)) 0 (length (requests past))
no_unanswered p never past e (HostEnded reason) c = no_host_unanswered p never past e (work_by past e.who) c
no_unanswered p never past e _ c = refl

-- a test that is implied by one beside it
held : (m a x g : Bool) → (x ≡ true → m ≡ true) → (m && ((a && x) && g)) ≡ ((a && x) && g)
held true a x g h = refl
held false a true g h = absurd (let q : false ≡ true = h refl in cc)
held false true false g h = refl
held false false false g h = refl

held_more : (m a x g n : Bool) → (x ≡ true → m ≡ true) → (m && (((a && x) && g) && n)) ≡ (((a && x) && g) && n)
held_more true a x g n h = refl
held_more false a true g n h = absurd (let q : false ≡ true = h refl in cc)
held_more false true false g n h = refl
held_more false false false g n h = refl

first_of : (m y z : Bool) → ((m && y) && z) ≡ true → m ≡ true
first_of true y z h = refl
first_of false y z h = absurd (let q : false ≡ true = h in cc)

first_of_four : (m x y z : Bool) → (m && x && y && z) ≡ true → m ≡ true
first_of_four true x y z h = refl
first_of_four false x y z h = absurd (let q : false ≡ true = h in cc)

dead : (a x g : Bool) → x ≡ false → ((a && x) && g) ≡ false
dead true true g h = absurd (let q : true ≡ false = h in cc)
dead true false g h = refl
dead false x g h = refl

dead_more : (a x g n : Bool) → x ≡ false → (((a && x) && g) && n) ≡ false
dead_more true true g n h = absurd (let q : true ≡ false = h in cc)
dead_more true false g n h = refl
dead_more false x g n h = refl

-- an entry of these parts
abbrev pub entry_of : Who → Call → Answer → Entry
entry_of who call answer = record { who = who; call = call; answer = answer }

-- of the channels whose end an entry tells only that numbered k is taken
module _ (p : EventKind → Bool) (k : ℕ) (takes : (j : ℕ) → p (Disconnected (record { 0 = j })) ≡ (j == k)) where
  host_end : (past : List Entry) (c : ContextNo) (h : HostNo) (reason : Reason) (answer : Answer) (work : Option Work) → work_of past h ≡ work
      → filter p (host_disconnected past (entry_of (ByHost h) (HostEnded reason) answer) work c)
      ≡ on (closes past (entry_of (ByHost h) (HostEnded reason) answer) k && goes_to past (channel past k) (ByHost h) c) (Disconnected (record { 0 = k }))
  host_end past c h reason answer None is =
      sym (on_false ((not (is_closed past k) && is_for_channel k (work_of past h)) && goes_to past (channel past k) (ByHost h) c) (Disconnected (record { 0 = k }))
      (dead (not (is_closed past k)) (is_for_channel k (work_of past h)) (goes_to past (channel past k) (ByHost h) c) (ap (is_for_channel k) is)))
  host_end past c h reason answer (Some (ForRequest r)) is =
      sym (on_false ((not (is_closed past k) && is_for_channel k (work_of past h)) && goes_to past (channel past k) (ByHost h) c) (Disconnected (record { 0 = k }))
      (dead (not (is_closed past k)) (is_for_channel k (work_of past h)) (goes_to past (channel past k) (ByHost h) c) (ap (is_for_channel k) is)))
  host_end past c h reason answer (Some (ForChannel j)) is =
      at_number p (λ n. Disconnected (record { 0 = n })) k takes (λ n. closes past (entry_of (ByHost h) (HostEnded reason) answer) n && goes_to past (channel past n) (ByHost h) c) j.0
      ∙ ap (λ b. on b (Disconnected (record { 0 = k })))
      (held (j.0 == k) (not (is_closed past k)) (is_for_channel k (work_of past h)) (goes_to past (channel past k) (ByHost h) c) (λ t. sym (ap (is_for_channel k) is) ∙ t))

  pub ends_of : (past : List Entry) (c : ContextNo) (who : Who) (call : Call) (answer : Answer)
      → ((closes past (entry_of who call answer) k && goes_to past (channel past k) who c) ≡ true → k < length (channels past))
      → filter p (disconnected past (entry_of who call answer) call c) ≡ on (closes past (entry_of who call answer) k && goes_to past (channel past k) who c) (Disconnected (record { 0 = k }))
  ends_of past c (ByContext d) (Disconnect j) answer within =
      at_number p (λ n. Disconnected (record { 0 = n })) k takes (λ n. closes past (entry_of (ByContext d) (Disconnect j) answer) n && goes_to past (channel past n) (ByContext d) c) j.0
      ∙ ap (λ b. on b (Disconnected (record { 0 = k })))
      (held (j.0 == k) (not (is_closed past k)) ((j.0 == k) && is_one (end_in (channel past k) d) && is_live past d) (goes_to past (channel past k) (ByContext d) c)
      (first_of (j.0 == k) (is_one (end_in (channel past k) d)) (is_live past d)))
  ends_of past c (ByHost h) (Disconnect j) answer within =
      at_number p (λ n. Disconnected (record { 0 = n })) k takes (λ n. closes past (entry_of (ByHost h) (Disconnect j) answer) n && goes_to past (channel past n) (ByHost h) c) j.0
      ∙ ap (λ b. on b (Disconnected (record { 0 = k })))
      (held (j.0 == k) (not (is_closed past k)) false (goes_to past (channel past k) (ByHost h) c) (λ t. absurd (let q : false ≡ true = t in cc)))
  ends_of past c who Leave answer within =
      of_number p (λ n. Disconnected (record { 0 = n })) k takes (λ n. closes past (entry_of who Leave answer) n && goes_to past (channel past n) who c) (length (channels past)) within
  ends_of past c (ByHost h) (HostEnded reason) answer within = host_end past c h reason answer (work_of past h) refl
  ends_of past c (ByContext d) (HostEnded reason) answer within =
      sym (on_false ((not (is_closed past k) && false) && goes_to past (channel past k) (ByContext d) c) (Disconnected (record { 0 = k }))
      (dead (not (is_closed past k)) false (goes_to past (channel past k) (ByContext d) c) refl))
  ends_of past c who _ answer within =
      sym (on_false ((not (is_closed past k) && false) && goes_to past (channel past k) who c) (Disconnected (record { 0 = k }))
      (dead (not (is_closed past k)) false (goes_to past (channel past k) who c) refl))

-- a call that can settle without a reply
abbrev pub is_silent : Call → Bool
is_silent (Decline r) = true
is_silent Leave = true
is_silent (HostEnded reason) = true
is_silent _ = false

-- of the requests whose end an entry tells only that numbered r is taken
module _ (p : EventKind → Bool) (r : ℕ) (takes : (j : ℕ) → p (Closed (record { 0 = j })) ≡ (j == r)) where
  host_close : (past : List Entry) (c : ContextNo) (h : HostNo) (reason : Reason) (answer : Answer) (work : Option Work) → work_of past h ≡ work
      → filter p (host_unanswered past (entry_of (ByHost h) (HostEnded reason) answer) work c)
      ≡ on (settles past (entry_of (ByHost h) (HostEnded reason) answer) r && is_asker (request past r) c && true) (Closed (record { 0 = r }))
  host_close past c h reason answer None is =
      sym (on_false ((not (is_settled past r) && is_for_request r (work_of past h)) && is_asker (request past r) c && true) (Closed (record { 0 = r }))
      (dead_more (not (is_settled past r)) (is_for_request r (work_of past h)) (is_asker (request past r) c) true (ap (is_for_request r) is)))
  host_close past c h reason answer (Some (ForChannel k)) is =
      sym (on_false ((not (is_settled past r) && is_for_request r (work_of past h)) && is_asker (request past r) c && true) (Closed (record { 0 = r }))
      (dead_more (not (is_settled past r)) (is_for_request r (work_of past h)) (is_asker (request past r) c) true (ap (is_for_request r) is)))
  host_close past c h reason answer (Some (ForRequest j)) is =
      at_number p (λ n. Closed (record { 0 = n })) r takes (λ n. settles past (entry_of (ByHost h) (HostEnded reason) answer) n && is_asker (request past n) c && true) j.0
      ∙ ap (λ b. on b (Closed (record { 0 = r })))
      (held_more (j.0 == r) (not (is_settled past r)) (is_for_request r (work_of past h)) (is_asker (request past r) c) true (λ t. sym (ap (is_for_request r) is) ∙ t))

  pub closed_of : (past : List Entry) (c : ContextNo) (who : Who) (call : Call) (answer : Answer)
      → (is_asker (request past r) c ≡ true → r < length (requests past))
      → filter p (unanswered past (entry_of who call answer) call c)
      ≡ on (is_silent call && settles past (entry_of who call answer) r && is_asker (request past r) c && not (is_by who c)) (Closed (record { 0 = r }))
  closed_of past c (ByContext d) (Decline j) answer within =
      at_number p (λ n. Closed (record { 0 = n })) r takes (λ n. settles past (entry_of (ByContext d) (Decline j) answer) n && is_asker (request past n) c && not (is_by (ByContext d) c)) j.0
      ∙ ap (λ b. on b (Closed (record { 0 = r })))
      (held_more (j.0 == r) (not (is_settled past r)) ((j.0 == r) && is_asked (request past r) d && is_live past d && not (has_open (entry_of (ByContext d) (Decline j) answer ∷ past) r (request past r)))
      (is_asker (request past r) c) (not (is_by (ByContext d) c))
      (first_of_four (j.0 == r) (is_asked (request past r) d) (is_live past d) (not (has_open (entry_of (ByContext d) (Decline j) answer ∷ past) r (request past r)))))
  closed_of past c (ByHost h) (Decline j) answer within =
      at_number p (λ n. Closed (record { 0 = n })) r takes (λ n. settles past (entry_of (ByHost h) (Decline j) answer) n && is_asker (request past n) c && true) j.0
      ∙ ap (λ b. on b (Closed (record { 0 = r })))
      (held_more (j.0 == r) (not (is_settled past r)) false (is_asker (request past r) c) true (λ t. absurd (let q : false ≡ true = t in cc)))
  closed_of past c who Leave answer within =
      of_number p (λ n. Closed (record { 0 = n })) r takes (λ n. settles past (entry_of who Leave answer) n && is_asker (request past n) c && not (is_by who c)) (length (requests past))
      (λ t. within (middle (settles past (entry_of who Leave answer) r) (is_asker (request past r) c) (not (is_by who c)) t))
    where
      middle : (a b d : Bool) → (a && b && d) ≡ true → b ≡ true
      middle true true d h = refl
      middle true false d h = absurd (let q : false ≡ true = h in cc)
      middle false b d h = absurd (let q : false ≡ true = h in cc)
  closed_of past c (ByHost h) (HostEnded reason) answer within = host_close past c h reason answer (work_of past h) refl
  closed_of past c (ByContext d) (HostEnded reason) answer within =
      sym (on_false ((not (is_settled past r) && false) && is_asker (request past r) c && not (is_by (ByContext d) c)) (Closed (record { 0 = r }))
      (dead_more (not (is_settled past r)) false (is_asker (request past r) c) (not (is_by (ByContext d) c)) refl))
  closed_of past c who _ answer within = refl
