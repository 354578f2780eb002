-- What a native host works for was opened or made before.
use Rattle.std.proofs.Common.{◌≡◌, ℕ, ◌+◌, ◌≤◌, List, [], ◌∷◌, length, refl, sym, Bool, true, false, cond, arith, subst}
use Rattle.std.specs.Prelude.{Option, Some, None, is_some, ◌&&◌, ◌==◌}
use Rattle.std.proofs.lemmas.Bool.{false_from_ne_true}
use Rattle.wx_id.specs.declared.numbers.HostNo.{HostNo}
use Rattle.wx_machine.specs.declared.work.Work.{Work}
use Rattle.wx_machine.specs.declared.entries.Who.{Who}
use Rattle.wx_machine.specs.declared.entries.Call.{Call}
use Rattle.wx_machine.specs.declared.entries.Answer.{Answer}
use Rattle.wx_machine.specs.declared.entries.Entry.{Entry}
use Rattle.wx_machine.specs.Words.{opens, channels, asks, requests, starts, started_by, hosts, work_in, work_of, is_for_channel, is_for_request}
use Rattle.wx_machine.specs.declared.work.Work.TheVariants.{Channel as ForChannel, Request as ForRequest}
use Rattle.wx_machine.specs.declared.entries.Who.TheVariants.{Context as ByContext}
use Rattle.wx_machine.specs.declared.entries.Call.TheVariants.{ConnectNative, SendNative}
use Rattle.wx_machine.specs.declared.entries.Answer.TheVariants.{Channel as OnChannel, Request as OnRequest}
use Rattle.wx_laws.proofs.ChannelsLater.{channels_more}
use Rattle.wx_laws.proofs.RequestsLater.{requests_more}
use Rattle.wx_laws.proofs.HostsLater.{work_more}
use Rattle.wx_broker.specs.Tables.{IsWithin}
use Rattle.wx_broker.proofs.TestsLater.{same_is, grown_or_same}

within_more : (m n m' n' : ℕ) (work : Option Work) → m ≤ m' → n ≤ n' → IsWithin m n work → IsWithin m' n' work
within_more m n m' n' None a b h = tt
within_more m n m' n' (Some (ForChannel k)) a b h = omega (arith, a, h)
within_more m n m' n' (Some (ForRequest r)) a b h = omega (arith, b, h)

-- what the host that an entry starts works for is there after it
started_within : (past : List Entry) (who : Who) (call : Call) (answer : Answer) → let e : Entry = record { who = who; call = call; answer = answer } in IsWithin (length (channels (e ∷ past))) (length (requests (e ∷ past))) (work_in (started_by past who call answer))
started_within past (ByContext c) (ConnectNative name) (OnChannel k) =
    let e : Entry = record { who = ByContext c; call = ConnectNative name; answer = OnChannel k } in
    let more : length (channels (e ∷ past)) ≡ length (channels past) + 1 = channels_more e past in omega (arith, more)
started_within past (ByContext c) (SendNative name text) (OnRequest r) =
    let e : Entry = record { who = ByContext c; call = SendNative name text; answer = OnRequest r } in
    let more : length (requests (e ∷ past)) ≡ length (requests past) + 1 = requests_more e past in omega (arith, more)
started_within past who call answer = tt

-- what host h works for is a channel that was opened, or a request that was made
pub work_within : (past : List Entry) (h : HostNo) → IsWithin (length (channels past)) (length (requests past)) (work_of past h)
work_within [] h = tt
work_within (e ∷ past) h =
    subst (IsWithin (length (channels (e ∷ past))) (length (requests (e ∷ past)))) (sym (work_more e past h)) (by (work_within past h) ((length (hosts past) == h.0) && is_some (starts past e)))
  where
    by : IsWithin (length (channels past)) (length (requests past)) (work_of past h) → (b : Bool) → IsWithin (length (channels (e ∷ past))) (length (requests (e ∷ past))) (cond b (work_in (starts past e)) (work_of past h))
    by before true = started_within past e.who e.call e.answer
    by before false =
        within_more (length (channels past)) (length (requests past)) (length (channels (e ∷ past))) (length (requests (e ∷ past))) (work_of past h)
        (grown_or_same (is_some (opens past e)) (length (channels past)) (length (channels (e ∷ past))) (channels_more e past))
        (grown_or_same (is_some (asks past e)) (length (requests past)) (length (requests (e ∷ past))) (requests_more e past))
        before

-- no host works for a channel that was not opened, or for a request that was not made
pub other_channel : (past : List Entry) (h : HostNo) (k : ℕ) → length (channels past) ≤ k → is_for_channel k (work_of past h) ≡ false
other_channel past h k before = by (work_of past h) (work_within past h)
  where
    by : (work : Option Work) → IsWithin (length (channels past)) (length (requests past)) work → is_for_channel k work ≡ false
    by None within = refl
    by (Some (ForChannel j)) within = false_from_ne_true _ (λ same. let e : j.0 ≡ k = same_is j.0 k same in absurd (omega (arith, e, within, before)))
    by (Some (ForRequest r)) within = refl

pub other_request : (past : List Entry) (h : HostNo) (r : ℕ) → length (requests past) ≤ r → is_for_request r (work_of past h) ≡ false
other_request past h r before = by (work_of past h) (work_within past h)
  where
    by : (work : Option Work) → IsWithin (length (channels past)) (length (requests past)) work → is_for_request r work ≡ false
    by None within = refl
    by (Some (ForRequest j)) within = false_from_ne_true _ (λ same. let e : j.0 ≡ r = same_is j.0 r same in absurd (omega (arith, e, within, before)))
    by (Some (ForChannel k)) within = refl
