-- A pipe to a host that answers by the echo is good.
use Rattle.std.proofs.Common.{◌≡◌, ℕ, ◌<◌, ◌==◌, Bool, true, false, ◌&&◌, cond, List, [], ◌∷◌, ◌++◌, map, Option, Some, None, refl, ap, ◌∙◌, sym, subst, arith, append_assoc}
use Rattle.std.specs.Prelude.{reverse, slice_get}
use Rattle.std.specs.Option.{option_map, option_and_then}
use Rattle.std.specs.Str.{bytes_eq}
use Rattle.std.proofs.lemmas.List.{append-nil, reverse-reverse}
use Rattle.std.proofs.lemmas.Slice.Eq.{bytes_eq-Decides}
use Rattle.wx_id.specs.declared.numbers.ContextNo.{ContextNo}
use Rattle.wx_id.specs.declared.numbers.ChannelNo.{ChannelNo}
use Rattle.wx_id.specs.declared.numbers.EntryNo.{EntryNo}
use Rattle.wx_id.specs.declared.numbers.HostNo.{HostNo}
use Rattle.wx_id.specs.declared.events.End.TheVariants.{Opener}
use Rattle.wx_external.specs.World.{WorldLists}
use Rattle.wx_machine.specs.declared.entries.Entry.{Entry}
use Rattle.wx_machine.specs.declared.work.Work.{Work}
use Rattle.wx_machine.specs.declared.work.Work.TheVariants.{Channel as ForChannel}
use Rattle.wx_machine.specs.Words.{Ends, channel, end_in, work_of, is_for_channel, taken, text_in, text_of, text_carried, texts_taken}
use Rattle.wx_laws.specs.Legal.{IsLegalPast}
use Rattle.wx_laws.specs.Prefix.{IsPrefix}
use Rattle.wx_laws.specs.PrefixLaw.{messages, texts, posts, for_work, given_texts}
use Rattle.wx_laws.proofs.HostTexts.{hosts_take_texts_in_order_lem}
use Rattle.wx_laws.proofs.Messages.{prefix_of, takes_texts_in_order_lem}
use Rattle.wx_laws.proofs.Numbers.{eqb_refl}
use Rattle.wx_native_frame.specs.Splits.{frames}
use Rattle.wx_host_launch.specs.Records.{Account, HostRecord, Writing}
use Rattle.wx_host_slot.specs.Journals.{taken_by, said_by}
use Rattle.wx_host_slot.specs.Meets.{MeetsAccount, ToldAccount, RecordMeets, was_started, never_started}
use Rattle.wx_host_slot.proofs.JournalLemmas.{none_said}
use Rattle.wx_pipe.specs.Pipe.{text_at, is_text, are_first, messages_taken, posted_texts, native_opener, pipe_check}
use Rattle.wx_pipe_laws.specs.EchoIsGood.{AnswersByEcho, EchoIsGood}
use Rattle.wx_pipe_laws.proofs.Orders.{messages_are}
use Rattle.wx_pipe_laws.proofs.Openers.{IsOpened, opened}
use Rattle.wx_pipe_laws.proofs.Texts.{parts_of, IsNative, posts_are, taken_are, host_of, given_are}
use Rattle.wx_pipe_laws.proofs.Bytes.{sent_first, texts_first, echo_front}

-- Texts that are there

-- The first of texts that are all there are there, and are the first of them.
record AreFirst (os : List (Option (List ℕ))) (ts : List (List ℕ)) : Type 0 where
  found : List (List ℕ)
  are : os ≡ map Some found
  first : IsPrefix found ts

first_there : (os : List (Option (List ℕ))) (ts : List (List ℕ)) → IsPrefix os (map Some ts) → AreFirst os ts
first_there [] ts p = record { found = []; are = refl; first = (ts, refl) }
first_there (o ∷ os) [] p = let e = p.1 in absurd cc
first_there (o ∷ os) (t ∷ ts) p =
    let heads = parts_of (Some t) o (map Some ts) (os ++ p.0) p.1 in
    let more = first_there os ts (p.0, heads.1) in
    record {
      found = t ∷ more.found;
      are = ap (λ x. x ∷ os) (sym heads.0) ∙ ap (λ l. Some t ∷ l) more.are;
      first = (more.first.0, ap (λ l. t ∷ l) more.first.1);
    }

one_list : (ts us : List (List ℕ)) → map Some ts ≡ map Some us → ts ≡ us
one_list [] [] e = refl
one_list [] (u ∷ us) e = absurd cc
one_list (t ∷ ts) [] e = absurd cc
one_list (t ∷ ts) (u ∷ us) e =
    let heads = parts_of (Some t) (Some u) (map Some ts) (map Some us) e in
    let same : t ≡ u = let h = heads.0 in cc in
    ap (λ x. x ∷ ts) same ∙ ap (λ l. u ∷ l) (one_list ts us heads.1)

-- What the check says

is_itself : (o : Option (List ℕ)) (t : List ℕ) → o ≡ Some t → is_text o t ≡ true
is_itself None t e = absurd cc
is_itself (Some s) t e = let same : s ≡ t = cc in (bytes_eq-Decides s t).1 same

checks : (journal : List Entry) (ns : List EntryNo) (ts posted : List (List ℕ)) → map (text_at journal) ns ≡ map Some ts
    → IsPrefix ts posted → are_first journal ns posted ≡ true
checks journal [] ts posted are p = refl
checks journal (n ∷ ns) [] posted are p = absurd cc
checks journal (n ∷ ns) (t ∷ ts) [] are p = let e = p.1 in absurd cc
checks journal (n ∷ ns) (t ∷ ts) (u ∷ posted) are (rest, is) =
    let heads = parts_of (text_at journal n) (Some t) (map (text_at journal) ns) (map Some ts) are in
    let same : u ≡ t = cc in
    let behind : posted ≡ ts ++ rest = cc in
    rw (is_itself (text_at journal n) u (heads.0 ∙ ap Some (sym same))) (checks journal ns ts posted heads.1 (rest, behind))

-- What was said

for_it : (k : ChannelNo) (w : Option Work) → w ≡ Some (ForChannel k) → is_for_channel k.0 w ≡ true
for_it k w is = ap (is_for_channel k.0) is ∙ eqb_refl k.0

-- what the host said is the first of what it took, as what it wrote is a front of what it was sent
said_first : (world : WorldLists) (past : List Entry) (h : HostNo) (r : HostRecord) (writing : Writing) (account : Account)
    → IsLegalPast world past → MeetsAccount world past h r writing account → AnswersByEcho account
    → IsPrefix (said_by h past) (taken_by h past)
said_first world past h r writing account legal meets echo =
    let sent = sent_first (0 < r.failed_writes) (taken_by h past) account.sent meets.sent in
    let front = prefix_of account.read account.sent (frames (taken_by h past))
    (prefix_of account.read echo.read account.sent
    (prefix_of account.read echo.written echo.read echo.read_first (echo_front echo.read echo.written echo.echo))
    echo.sent_first) sent in
    let heard = meets.heard in
    let whole : frames (taken_by h past) ≡ frames heard.texts ++ (heard.rest ++ front.0) = front.1
    ∙ ap (λ x. x ++ front.0) heard.split.stream_is ∙ append_assoc (frames heard.texts) heard.rest front.0 in
    prefix_of (said_by h past) heard.texts (taken_by h past) (meets.unsaid, meets.said_first)
    (texts_first heard.texts (taken_by h past) (heard.rest ++ front.0) heard.split.fit
    (taken_are world past h legal).short whole)

told_first : (world : WorldLists) (past : List Entry) (h : HostNo) (r : HostRecord) (writing : Writing) (account : Account)
    (told : Option Account) → IsLegalPast world past → ToldAccount (MeetsAccount world past h r) (Some writing) told
    → told ≡ Some account → AnswersByEcho account → IsPrefix (said_by h past) (taken_by h past)
told_first world past h r writing account None legal meets is echo = absurd meets
told_first world past h r writing account (Some other) legal meets is echo =
    let same : other ≡ account = cc in
    let M : Account → Type 0 = λ a. MeetsAccount world past h r writing a in
    said_first world past h r writing account legal (subst M same meets) echo

record_first : (world : WorldLists) (past : List Entry) (h : HostNo) (r : HostRecord) (writing : Writing) (account : Account)
    → IsLegalPast world past → RecordMeets (Unit {0}) (Some writing) world past h r → r.account ≡ Some account
    → AnswersByEcho account → IsPrefix (said_by h past) (taken_by h past)
record_first world past h r writing account legal (was_started meets) is echo =
    told_first world past h r writing account r.account legal meets.told is echo
record_first world past h r writing account legal (never_started spent none empty) is echo =
    (taken_by h past, ap (λ l. l ++ taken_by h past) (sym (none_said past h none)))

-- The pipe

-- what the host took is the first of what the opener posted
taken_first : (world : WorldLists) (past : List Entry) (h : HostNo) (k : ChannelNo) (c : ContextNo) → IsLegalPast world past
    → work_of past h ≡ Some (ForChannel k) → IsNative past c k.0
    → IsPrefix (taken_by h past) (posted_texts c k.0 (reverse past))
taken_first world past h k c legal works native =
    let W : Option Work → Type 0 = λ w. IsPrefix (texts past (texts_taken past h)) (texts past (for_work past w)) in
    let P : List (Option (List ℕ)) → Type 0 = IsPrefix (texts past (texts_taken past h)) in
    let first = first_there (texts past (texts_taken past h)) (posted_texts c k.0 (reverse past))
    (subst P (posts_are world past c k.0 legal native) (subst W works (hosts_take_texts_in_order_lem world past h legal))) in
    let same = one_list first.found (taken_by h past) (sym first.are ∙ (taken_are world past h legal).are) in
    let T : List (List ℕ) → Type 0 = λ ts. IsPrefix ts (posted_texts c k.0 (reverse past)) in
    subst T same first.first

opens_channel : (past : List Entry) (c : ContextNo) (k : ℕ) → channel past k ≡ Some (record { opener = c; receivers = [] })
    → end_in (channel past k) c ≡ Opener
opens_channel past c k is = ap (λ o. end_in o c) is ∙ rw (eqb_refl c.0) refl

-- what the opener took is the first of what the host said
messages_first : (world : WorldLists) (past : List Entry) (h : HostNo) (k : ℕ) (o : IsOpened past k) → IsLegalPast world past
    → is_for_channel k (work_of past h) ≡ true → IsNative past o.opener k
    → AreFirst (texts past (messages k (taken past o.opener))) (said_by h past)
messages_first world past h k o legal works native =
    let c = o.opener in
    let G : List (List ℕ) → Type 0 = λ ts. IsPrefix (texts past (messages k (taken past c))) (map Some ts) in
    let at = ap (given_texts past k) (opens_channel past c k o.ends) in
    let first = first_there (texts past (messages k (taken past c))) (given_texts past k Opener)
    (subst G at (takes_texts_in_order_lem world past c k legal)) in
    let given = given_are world past c h k legal native (host_of past h k works) in
    record {
      found = first.found;
      are = first.are;
      first = prefix_of first.found (given_texts past k Opener) (said_by h past) first.first given.first;
    }

is_good : (world : WorldLists) (past : List Entry) (h : HostNo) (k : ChannelNo) (o : IsOpened past k.0)
    → IsLegalPast world past → work_of past h ≡ Some (ForChannel k)
    → IsPrefix (said_by h past) (taken_by h past) → pipe_check k.0 (reverse past) ≡ Some true
is_good world past h k o legal works said =
    let c = o.opener in
    let native : IsNative past c k.0 = λ ends at. let same = sym at ∙ o.ends in cc in
    let first = messages_first world past h k.0 o legal (for_it k (work_of past h) works) native in
    let all = prefix_of first.found (taken_by h past) (posted_texts c k.0 (reverse past))
    (prefix_of first.found (said_by h past) (taken_by h past) first.first said)
    (taken_first world past h k c legal works native) in
    let are : map (text_at (reverse past)) (messages_taken c k.0 (reverse past)) ≡ map Some first.found =
    ap (map (text_at (reverse past))) (messages_are past c k.0) ∙ text_is past (messages k.0 (taken past c)) ∙ first.are in
    let good = checks (reverse past) (messages_taken c k.0 (reverse past)) first.found (posted_texts c k.0 (reverse past)) are all in
    ap (option_map (λ x. are_first (reverse past) (messages_taken x k.0 (reverse past)) (posted_texts x k.0 (reverse past)))) o.first
    ∙ ap Some good
  where
    one_text : (o : Option Entry) → option_and_then (λ (entry : Entry). text_in entry.call) o ≡ text_carried o
    one_text None = refl
    one_text (Some e) = refl

    text_is : (past : List Entry) (ns : List EntryNo) → map (text_at (reverse past)) ns ≡ texts past ns
    text_is past [] = refl
    text_is past (n ∷ ns) = ap (λ o. o ∷ map (text_at (reverse past)) ns) (one_text (slice_get (reverse past) n.0)) ∙ ap (λ l. text_of past n ∷ l) (text_is past ns)

pub echo_is_good : EchoIsGood
echo_is_good writing world journal h k r account legal works meets is echo =
    let past = reverse journal in
    let o = opened world past h k.0 legal (for_it k (work_of past h) works) in
    let said = record_first world past h r writing account legal meets is echo in
    ap (pipe_check k.0) (sym (reverse-reverse journal)) ∙ is_good world past h k o legal works said
