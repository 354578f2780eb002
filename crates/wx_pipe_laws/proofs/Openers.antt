-- A native channel has one host, and its opener is the one that opened it.
use Rattle.std.proofs.Common.{◌≡◌, ℕ, ◌+◌, ◌<◌, ◌≤◌, ◌==◌, Bool, true, false, cond, List, [], ◌∷◌, ◌++◌, length, Option, Some, None, refl, ap, ◌∙◌, sym, subst, arith, inl, inr}
use Rattle.std.specs.Prelude.{reverse, slice_get, option_to_list}
use Rattle.std.specs.Option.{option_or}
use Rattle.std.proofs.lemmas.Bool.{eqb-true, false≢true}
use Rattle.std.proofs.lemmas.List.{length-append}
use Rattle.std.proofs.lemmas.Option.{slice_get_past}
use Rattle.wx_id.specs.declared.numbers.ContextNo.{ContextNo}
use Rattle.wx_id.specs.declared.numbers.ChannelNo.{ChannelNo}
use Rattle.wx_id.specs.declared.numbers.HostNo.{HostNo}
use Rattle.wx_external.specs.World.{WorldLists}
use Rattle.wx_external.specs.declared.native.NativeVerdict.{NativeVerdict}
use Rattle.wx_external.specs.declared.native.NativeVerdict.TheVariants as native
use Rattle.wx_machine.specs.declared.entries.Who.{Who}
use Rattle.wx_machine.specs.declared.entries.Call.{Call}
use Rattle.wx_machine.specs.declared.entries.Answer.{Answer}
use Rattle.wx_machine.specs.declared.entries.Entry.{Entry}
use Rattle.wx_machine.specs.declared.entries.Who.TheVariants.{Context as ByContext}
use Rattle.wx_machine.specs.declared.entries.Call.TheVariants.{ConnectNative, SendNative}
use Rattle.wx_machine.specs.declared.entries.Answer.TheVariants.{Channel as OnChannel, Request as OnRequest, Gone}
use Rattle.wx_machine.specs.Words.{Ends, channel, channels, opens, opened_by, Start, hosts, starts, started_by, work_in, work_of, is_for_channel}
use Rattle.wx_machine.specs.Words.{answer_after, native_gate_for, where_native, context_of, is_live}
use Rattle.wx_machine.proofs.Lists.{get_options}
use Rattle.wx_laws.specs.Legal.{IsLegalPast}
use Rattle.wx_laws.proofs.Numbers.{eqb_refl}
use Rattle.wx_laws.proofs.Places.{channel_later, no_channel_more, host_within}
use Rattle.wx_pipe.specs.Pipe.{opener_in, native_opener}
use Rattle.wx_pipe_laws.proofs.Orders.{opener_later}

-- The opener

-- the number that a native connect was answered with
native_tells : (live : Bool) (verdict : NativeVerdict) (n : ℕ) (j : ChannelNo)
    → OnChannel j ≡ cond live (where_native verdict (OnChannel (record { 0 = n }))) Gone → j.0 ≡ n
native_tells false verdict n j is = absurd cc
native_tells true (native.Open place) n j is = cc
native_tells true native.BadTarget n j is = absurd cc
native_tells true native.NoPermission n j is = absurd cc
native_tells true native.BadHostName n j is = absurd cc
native_tells true native.HostNotFound n j is = absurd cc
native_tells true native.HostForbidden n j is = absurd cc

-- an entry that opens a native channel gives it the next number
opens_next : (world : WorldLists) (past : List Entry) (k : ℕ) (who : Who) (call : Call) (answer : Answer) (c : ContextNo)
    → answer ≡ answer_after world past who call → opener_in k who call answer ≡ Some c
    → (length (channels past) ≡ k) × (opened_by past who call answer ≡ Some (record { opener = c; receivers = [] }))
opens_next world past k (ByContext b) (ConnectNative name) (OnChannel j) c answered is = parts (j.0 == k) refl is
  where
    parts : (m : Bool) → (j.0 == k) ≡ m → cond m (Some b) None ≡ Some c → (length (channels past) ≡ k)
        × (opened_by past (ByContext b) (ConnectNative name) (OnChannel j) ≡ Some (record { opener = c; receivers = [] }))
    parts false at found = absurd cc
    parts true at found =
        let same : b ≡ c = cc in
        let E : ContextNo → Option Ends = λ x. Some (record { opener = x; receivers = [] }) in (
          sym (native_tells (is_live past b) (native_gate_for world (context_of past b) name) (length (channels past)) j answered)
              ∙ eqb-true j.0 k at,
          ap E same,
        )
opens_next world past k _ _ _ c answered is = absurd cc

-- a channel that is not there was opened by nobody
none_opens : (world : WorldLists) (past : List Entry) (k : ℕ) → IsLegalPast world past → length (channels past) ≤ k
    → native_opener k (reverse past) ≡ None
none_opens world [] k legal le = refl
none_opens world (e ∷ past) k legal le =
    let more = no_channel_more past e in
    opener_later k e past
    ∙ ap (λ o. option_or o (opener_in k e.who e.call e.answer)) (none_opens world past k legal.0 (omega arith))
    ∙ parts (opener_in k e.who e.call e.answer) refl
  where
    parts : (o : Option ContextNo) → opener_in k e.who e.call e.answer ≡ o → o ≡ None
    parts None is = refl
    parts (Some c) is =
        let next = opens_next world past k e.who e.call e.answer c legal.1.answered is in
        let one : length (option_to_list (opens past e)) ≡ 1 = ap (λ o. length (option_to_list o)) next.1 in
        absurd (omega (arith, next.0, one, length-append (channels past) (option_to_list (opens past e))))

-- Channel k is native, and this context opened it.
pub record IsOpened (past : List Entry) (k : ℕ) : Type 0 where
  pub opener : ContextNo
  pub ends : channel past k ≡ Some (record { opener = opener; receivers = [] })
  pub first : native_opener k (reverse past) ≡ Some opener

opened_later : (past : List Entry) (e : Entry) (k : ℕ) → IsOpened past k → IsOpened (e ∷ past) k
opened_later past e k o = record {
  opener = o.opener;
  ends = channel_later past e k
      ∙ ap (λ x. option_or x (cond (length (channels past) == k) (opens past e) None)) o.ends;
  first = opener_later k e past ∙ ap (λ x. option_or x (opener_in k e.who e.call e.answer)) o.first;
}

-- a host that is started for a channel is started by the entry that opens it
starts_opened : (world : WorldLists) (past : List Entry) (k : ℕ) (who : Who) (call : Call) (answer : Answer)
    → IsLegalPast world past → answer ≡ answer_after world past who call
    → is_for_channel k (work_in (started_by past who call answer)) ≡ true
    → IsOpened (record { who = who; call = call; answer = answer } ∷ past) k
starts_opened world past k (ByContext c) (ConnectNative name) (OnChannel j) legal answered is =
    subst (IsOpened (e ∷ past)) (eqb-true n k is) (record {
      opener = c;
      ends = channel_later past e n ∙ rw (slice_get_past (channels past) n (omega arith), eqb_refl n) refl;
      first = opener_later n e past ∙ rw (none_opens world past n legal (omega arith)) (at (j.0 == n) refl);
    })
  where
    n : ℕ
    n = length (channels past)

    e : Entry
    e = record { who = ByContext c; call = ConnectNative name; answer = OnChannel j }

    next : j.0 ≡ n
    next = native_tells (is_live past c) (native_gate_for world (context_of past c) name) n j answered

    at : (m : Bool) → (j.0 == n) ≡ m → cond m (Some c) None ≡ Some c
    at true same = refl
    at false same = absurd (let t : (n == n) ≡ false = subst (λ (x : ℕ). (x == n) ≡ false) next same in false≢true (sym t ∙ eqb_refl n))
starts_opened world past k (ByContext c) (SendNative name text) (OnRequest r) legal answered is = absurd (false≢true is)
starts_opened world past k _ _ _ legal answered is = absurd (false≢true is)

-- the channel that a host works for is native
pub opened : (world : WorldLists) (past : List Entry) (h : HostNo) (k : ℕ) → IsLegalPast world past
    → is_for_channel k (work_of past h) ≡ true → IsOpened past k
opened world [] h k legal is = absurd (false≢true is)
opened world (e ∷ past) h k legal is =
    step (slice_get (hosts past) h.0) refl (opened world past h k legal.0)
    (sym (ap (λ o. is_for_channel k (work_in o)) (get_options (hosts past) (starts past e) h.0)) ∙ is)
  where
    new : (b : Bool) → is_for_channel k (work_in (cond b (starts past e) None)) ≡ true → IsOpened (e ∷ past) k
    new true for = starts_opened world past k e.who e.call e.answer legal.0 legal.1.answered for
    new false for = absurd (false≢true for)

    step : (o : Option Start) → slice_get (hosts past) h.0 ≡ o
        → (is_for_channel k (work_of past h) ≡ true → IsOpened past k)
        → is_for_channel k (work_in (option_or o (cond (length (hosts past) == h.0) (starts past e) None))) ≡ true
        → IsOpened (e ∷ past) k
    step (Some start) at before for = opened_later past e k (before (ap (λ o. is_for_channel k (work_in o)) at ∙ for))
    step None at before for = new (length (hosts past) == h.0) for

-- One host

starts_next : (past : List Entry) (k : ℕ) (who : Who) (call : Call) (answer : Answer)
    → is_for_channel k (work_in (started_by past who call answer)) ≡ true → length (channels past) ≡ k
starts_next past k (ByContext c) (ConnectNative name) (OnChannel j) is = eqb-true (length (channels past)) k is
starts_next past k (ByContext c) (SendNative name text) (OnRequest r) is = absurd (false≢true is)
starts_next past k _ _ _ is = absurd (false≢true is)

-- a host works on for its channel
pub work_later : (past : List Entry) (e : Entry) (h : HostNo) (k : ℕ) → is_for_channel k (work_of past h) ≡ true
    → is_for_channel k (work_of (e ∷ past) h) ≡ true
work_later past e h k is =
    ap (λ o. is_for_channel k (work_in o)) (get_options (hosts past) (starts past e) h.0)
    ∙ parts (slice_get (hosts past) h.0) is
  where
    parts : (o : Option Start) → is_for_channel k (work_in o) ≡ true
        → is_for_channel k (work_in (option_or o (cond (length (hosts past) == h.0) (starts past e) None))) ≡ true
    parts (Some start) for = for
    parts None for = absurd (false≢true for)

-- two hosts of one channel are the same
pub one_host : (past : List Entry) (g h : HostNo) (k : ℕ) → is_for_channel k (work_of past g) ≡ true
    → is_for_channel k (work_of past h) ≡ true → g.0 ≡ h.0
one_host [] g h k is at = absurd (false≢true is)
one_host (e ∷ past) g h k is at =
    step (slice_get (hosts past) g.0) (slice_get (hosts past) h.0) refl refl (one_host past g h k)
    (sym (ap (λ o. is_for_channel k (work_in o)) (get_options (hosts past) (starts past e) g.0)) ∙ is)
    (sym (ap (λ o. is_for_channel k (work_in o)) (get_options (hosts past) (starts past e) h.0)) ∙ at)
  where
    m : ℕ
    m = length (hosts past)

    Works : Option Start → ℕ → Type 0
    Works o n = is_for_channel k (work_in (option_or o (cond (m == n) (starts past e) None))) ≡ true

    new : (n : ℕ) (b : Bool) → (m == n) ≡ b → is_for_channel k (work_in (cond b (starts past e) None)) ≡ true
        → (m ≡ n) × (length (channels past) ≡ k)
    new n true same for = (eqb-true m n same, starts_next past k e.who e.call e.answer for)
    new n false same for = absurd (false≢true for)

    old : (f : HostNo) (s : Start) → slice_get (hosts past) f.0 ≡ Some s → is_for_channel k (Some s.work) ≡ true
        → is_for_channel k (work_of past f) ≡ true
    old f s found for = ap (λ o. is_for_channel k (work_in o)) found ∙ for

    step : (o p : Option Start) → slice_get (hosts past) g.0 ≡ o → slice_get (hosts past) h.0 ≡ p
        → (is_for_channel k (work_of past g) ≡ true → is_for_channel k (work_of past h) ≡ true → g.0 ≡ h.0)
        → Works o g.0 → Works p h.0 → g.0 ≡ h.0
    step (Some s) (Some t) a b before for too = before (old g s a for) (old h t b too)
    step None None a b before for too = sym (new g.0 (m == g.0) refl for).0 ∙ (new h.0 (m == h.0) refl too).0
    step (Some s) None a b before for too =
        let within = host_within past g k (old g s a for) in
        let next = (new h.0 (m == h.0) refl too).1 in
        absurd (omega arith)
    step None (Some t) a b before for too =
        let within = host_within past h k (old h t b too) in
        let next = (new g.0 (m == g.0) refl for).1 in
        absurd (omega arith)
