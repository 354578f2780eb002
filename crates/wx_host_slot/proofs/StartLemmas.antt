-- What the start of a host's program comes to. Every list of entries has the newest first.
use Rattle.std.proofs.Common.{◌≡◌, ℕ, ◌+◌, ◌<◌, List, [], ◌∷◌, Bool, true, false, Option, Some, None, refl, ap, ◌∙◌, sym, subst, arith}
use Rattle.std.specs.Prelude.{IsSome, is_some, slice_get, if◌then◌else◌}
use Rattle.std.specs.Option.{option_map}
use Rattle.std.proofs.lemmas.Bool.{false≢true, true≢false}
use Rattle.std.proofs.lemmas.List.{append-nil}
use Rattle.wx_id.specs.declared.numbers.HostNo.{HostNo}
use Rattle.wx_context.specs.declared.contexts.Context.{Context}
use Rattle.wx_context.specs.declared.contexts.Context.TheVariants.{Page, Content, Web}
use Rattle.wx_external.specs.declared.native.NativeVerdict.{NativeVerdict}
use Rattle.wx_external.specs.declared.native.NativeVerdict.TheVariants as native
use Rattle.wx_external.specs.Gate.{native_gate_of, verdict_at, admits_caller}
use Rattle.wx_external.specs.World.{WorldLists, host_place}
use Rattle.wx_host_manifest.specs.HostManifests.{Host, arguments_of}
use Rattle.wx_native_frame.specs.Frames.{Unfinished}
use Rattle.wx_native_frame.proofs.FrameLaws.{short_under_way}
use Rattle.wx_machine.specs.declared.entries.Call.TheVariants.{HostEnded}
use Rattle.wx_machine.specs.declared.entries.Reason.TheVariants.{StartFailed}
use Rattle.wx_machine.specs.declared.entries.Answer.{Answer}
use Rattle.wx_machine.specs.declared.entries.Entry.{Entry}
use Rattle.wx_machine.specs.Words.{context_of, extension_of, Start, hosts}
use Rattle.wx_machine.specs.declared.entries.TheConstants.{LONGEST_SAID}
use Rattle.wx_broker.specs.declared.host_view.HostView.{HostView}
use Rattle.wx_broker.specs.Views.{view_at, view_for, view_of, host_view}
use Rattle.wx_outside.specs.Causes.{Rose}
use Rattle.wx_host_launch.specs.Halves.{Sends, whole}
use Rattle.wx_host_launch.specs.Pipes.{InState, OutState}
use Rattle.wx_host_launch.specs.Reading.{Keeps, all}
use Rattle.wx_host_launch.specs.Records.{Program, Account, HostRecord, Writing, StarterState, plus, empty_account, empty_record, started, starting, AreFresh}
use Rattle.wx_host_slot.specs.Journals.{entries_of, taken_by, said_by, IsInPlace, program_at, program_of}
use Rattle.wx_host_slot.specs.Meets.{IsHeard, MeetsAccount, ToldAccount, MeetsStarted}
use Rattle.wx_host_slot.specs.Slots.{ChildState, SlotState, record_after, PipesTold, IsStartedRecord, Runs, StandsUntold, StandsAs, waiting, untold, running, at_end, Stands, WasStarted, host_limit, left_with, turns_left, IsStarted}
use Rattle.wx_host_slot.specs.Turns.{not_started}
use Rattle.wx_host_slot.proofs.JournalLemmas.{own, turn_map, none_ended, none_taken, none_said, none_each, entries_own, ended_own}
use Rattle.wx_host_slot.proofs.StandsLater.{runs_by}
use Rattle.wx_host_slot.proofs.PipeLemmas.{whole_split}
use Rattle.wx_host_slot.proofs.EndLemmas.{Leaves, account_ended, meets_ended}

-- The program

opened : (b : Bool) (m n : ℕ) → (if b then native.Open m else native.HostForbidden) ≡ native.Open n → (b ≡ true) × (m ≡ n)
opened true m n e = (refl, cc)
opened false m n e = absurd cc

admitted : (o : Option Host) (ext : List ℕ) → admits_caller o ext ≡ true → IsSome o
admitted None ext e = absurd (false≢true e)
admitted (Some host) ext e = refl

open_at : (world : WorldLists) (ext : List ℕ) (o : Option ℕ) (n : ℕ) → verdict_at world ext o ≡ native.Open n → IsSome (slice_get world.hosts n)
open_at world ext None n e = absurd cc
open_at world ext (Some m) n e =
    let (may, same) = opened (admits_caller (slice_get world.hosts m) ext) m n e in
    let P : ℕ → Type 0 = λ k. IsSome (slice_get world.hosts k) in
    subst P same (admitted (slice_get world.hosts m) ext may)

behind_test : (b : Bool) (refusal verdict : NativeVerdict) (n : ℕ) → (refusal ≡ native.Open n → ⊥) → (if b then refusal else verdict) ≡ native.Open n → verdict ≡ native.Open n
behind_test true refusal verdict n never e = absurd (never e)
behind_test false refusal verdict n never e = e

-- the gate opens only to a place at which a manifest stands
gate_opens : (world : WorldLists) (x : Context) (name : List ℕ) (n : ℕ) → native_gate_of world x name ≡ native.Open n → IsSome (slice_get world.hosts n)
unfolding native_gate_of
gate_opens world (Page ext path) name n e =
    open_at world ext (host_place world name) n (behind_test _ native.BadHostName (verdict_at world ext (host_place world name)) n (λ e. cc) (behind_test _ native.NoPermission _ n (λ e. cc) e))
gate_opens world (Content ext tab frame url) name n e = absurd cc
gate_opens world (Web tab frame url) name n e = absurd cc

view_opens : (verdict : NativeVerdict) (ext : Option (List ℕ)) (view : HostView) → view_at verdict ext ≡ Some view → verdict ≡ native.Open view.manifest
view_opens (native.Open place) (Some ext) view e = ap native.Open (ap (λ (o : Option HostView). place_in o place) e)
  where
    place_in : Option HostView → ℕ → ℕ
    place_in None n = n
    place_in (Some v) n = v.manifest
view_opens (native.Open place) None view e = absurd cc
view_opens native.BadTarget ext view e = absurd cc
view_opens native.NoPermission ext view e = absurd cc
view_opens native.BadHostName ext view e = absurd cc
view_opens native.HostNotFound ext view e = absurd cc
view_opens native.HostForbidden ext view e = absurd cc

caller_opens : (world : WorldLists) (o : Option Context) (name : List ℕ) (view : HostView) → view_for world o name ≡ Some view → IsSome (slice_get world.hosts view.manifest)
caller_opens world None name view e = absurd cc
caller_opens world (Some x) name view e = gate_opens world x name view.manifest (view_opens (native_gate_of world x name) (extension_of x) view e)

start_opens : (world : WorldLists) (past : List Entry) (o : Option Start) (view : HostView) → view_of world past o ≡ Some view → IsSome (slice_get world.hosts view.manifest)
start_opens world past None view e = absurd cc
start_opens world past (Some s) view e = caller_opens world (context_of past s.caller) s.name view e

-- a host's manifest is there
pub manifest_there : (world : WorldLists) (past : List Entry) (h : HostNo) (view : HostView) → host_view world past h.0 ≡ Some view → IsSome (slice_get world.hosts view.manifest)
manifest_there world past h view e = start_opens world past (slice_get (hosts past) h.0) view e

pub program_is : (world : WorldLists) (past : List Entry) (h : HostNo) (view : HostView) (m : Host) → host_view world past h.0 ≡ Some view → slice_get world.hosts view.manifest ≡ Some m → program_of world past h ≡ Some (record { path = m.path; arguments = arguments_of view.caller })
program_is world past h view m is at = ap (program_at world) is ∙ ap (option_map (λ (host : Host). record { path = host.path; arguments = arguments_of view.caller })) at

-- Before the start

-- Nothing was started, and the host has made no entry.
pub record Waits (writing : Option Writing) (past : List Entry) (h : HostNo) (slot : SlotState) : Type 0 where
  pub empty : slot.starter.slot ≡ empty_record writing
  pub none_made : slot.made ≡ 0
  pub no_entries : entries_of h past ≡ 0

pub waits_of : (writing : Option Writing) (world : WorldLists) (past : List Entry) (h : HostNo) (slot : SlotState) → Stands writing world past h slot → slot.ended ≡ false → slot.child ≡ None → slot.failed ≡ false → Waits writing past h slot
waits_of writing world past h slot s unended none not_failed = by s.stands
  where
    by : StandsAs writing world past h slot → Waits writing past h slot
    by (waiting un empty is) = record { empty = empty; none_made = ap (λ (x : SlotState). x.made) is; no_entries = sym s.counted ∙ ap (λ (x : SlotState). x.made) is }
    by (untold t) = absurd (true≢false (sym t.failed ∙ not_failed))
    by (running child run) = absurd (true≢false (ap is_some (sym run.has_child ∙ none)))
    by (at_end ended was meets) = absurd (true≢false (sym ended ∙ unended))

waiting_left : (slot : SlotState) → slot.ended ≡ false → slot.child ≡ None → turns_left slot ≡ host_limit + 4
waiting_left slot unended none = ap (λ b. left_with b slot.child slot.made) unended ∙ ap (λ c. left_with false c slot.made) none

-- The child runs

fresh_told : (writing : Option Writing) (p : Program) → PipesTold writing (Some p) [] [] (option_map (λ w. []) writing) (option_map (λ w. record { read = []; coming = w p.path }) writing)
fresh_told None p = tt
fresh_told (Some w) p = (refl, refl, refl)

started_account : (writing : Option Writing) (p : Program) → option_map (started p.path p.arguments) (option_map (λ w. empty_account) writing) ≡ option_map (λ w. record empty_account { program = Some p }) writing
started_account None p = refl
started_account (Some w) p = refl

abbrev pub fresh_child : InState → OutState → Unfinished → ChildState
fresh_child input output reader = record { input = input; output = output; reader = reader }

fresh_runs : (writing : Option Writing) (world : WorldLists) (past : List Entry) (h : HostNo) (p : Program) (input : InState) (output : OutState) (reader : Unfinished) → entries_of h past ≡ 0 → program_of world past h ≡ Some p → AreFresh writing p.path input output → reader.limit ≡ LONGEST_SAID → reader.bytes ≡ []
    → Runs writing world past h (fresh_child input output reader)
fresh_runs writing world past h p input output reader none is fresh limit bytes =
    let I : InState → Type 0 = λ i. PipesTold writing (Some p) [] [] i.sent output.stream in
    let O : OutState → Type 0 = λ o. PipesTold writing (Some p) [] [] (option_map (λ w. []) writing) o.stream in
    let K : List ℕ → Type 0 = Keeps [] in
    runs_by writing world past h (fresh_child input output reader) (Some p) [] [] [] [] is (none_taken past h none) (none_said past h none) limit (whole_split [] tt)
    (subst K (sym bytes) (all (short_under_way [] LONGEST_SAID (omega arith)).no_trouble))
    (subst I (sym fresh.input_is) (subst O (sym fresh.output_is) (fresh_told writing p)))

-- the slot with its child started
abbrev pub with_child : SlotState → Program → ℕ → ChildState → SlotState
with_child slot p n child = record { starter = starting slot.starter p.path p.arguments n; child = Some child; failed = slot.failed; made = slot.made; ended = slot.ended }

pub start_runs : (world : WorldLists) (past : List Entry) (h : HostNo) (slot : SlotState) (p : Program) (n : ℕ) (input : InState) (output : OutState) (reader : Unfinished) → Stands slot.starter.writing world past h slot → slot.ended ≡ false → slot.child ≡ None → slot.failed ≡ false → program_of world past h ≡ Some p → AreFresh slot.starter.writing p.path input output
    → reader.limit ≡ LONGEST_SAID → reader.bytes ≡ [] → IsStarted slot.starter.writing world h past past slot (with_child slot p n (fresh_child input output reader))
start_runs world past h slot p n input output reader s unended none not_failed is fresh limit bytes =
    let writing = slot.starter.writing in
    let w = waits_of writing world past h slot s unended none not_failed in
    let child = fresh_child input output reader in
    let R : Option Program → Type 0 = λ o. IsStartedRecord writing o (starting slot.starter p.path p.arguments n).slot in
    let before = waiting_left slot unended none in
    let made = w.none_made in
    let left : turns_left (with_child slot p n child) ≡ left_with false (Some child) slot.made = ap (λ b. left_with b (Some child) slot.made) unended in
    record {
      stands = record {
        alone = ap (λ (t : StarterState). starting t p.path p.arguments n) s.alone;
        counted = s.counted;
        stands = running child (record {
          has_child = refl;
          unended = unended;
          host_unended = none_ended past h w.no_entries;
          starter_record = subst R (sym is) (record {
            once = ap (λ (r : HostRecord). plus r.starts 1) w.empty;
            account = ap (λ (r : HostRecord). option_map (started p.path p.arguments) r.account) w.empty ∙ started_account writing p;
            no_reads = ap (λ (r : HostRecord). r.failed_reads) w.empty;
            no_writes = ap (λ (r : HostRecord). r.failed_writes) w.empty;
          });
          runs = fresh_runs writing world past h p input output reader w.no_entries is fresh limit bytes;
          in_place = none_each (IsInPlace h) past h w.no_entries;
        });
      };
      started = λ is. refl;
      less = omega (arith, before, made, left);
      turn = λ ended. absurd (true≢false (sym ended ∙ unended));
      no_entry = λ _. (refl, w.none_made);
    }

-- It could not be started

failed_told : (writing : Option Writing) (world : WorldLists) (past : List Entry) (h : HostNo) (r : HostRecord) (p : Program) (a : Answer) → entries_of h past ≡ 0 → program_of world past h ≡ Some p
    → ToldAccount (MeetsAccount world (own h (HostEnded StartFailed) a ∷ past) h r) writing (option_map (λ w. record empty_account { program = Some p }) writing)
failed_told None world past h r p a none is = tt
failed_told (Some w) world past h r p a none is =
    let account : Account = record { program = Some p; read = []; sent = [] } in
    let heard : IsHeard (w p.path) [] = record { unread = w p.path; front = refl; texts = []; rest = []; split = whole_split [] tt } in
    let T : List (List ℕ) → Type 0 = λ ts. Sends (0 < r.failed_writes) ts [] true in
    let leaves : Leaves (0 < r.failed_writes) (w p.path) (taken_by h past) (said_by h past) account StartFailed = record {
      sent = subst T (sym (none_taken past h none)) (whole refl);
      heard = heard;
      unsaid = [];
      said_first = sym (none_said past h none) ∙ sym (append-nil (said_by h past));
      cause = (refl, refl);
    } in
    account_ended world past h r w account StartFailed a p (none_ended past h none) is refl leaves

-- the slot whose program could not be started
abbrev pub failed_slot : SlotState → Program → ℕ → SlotState
failed_slot slot p n = record { starter = starting slot.starter p.path p.arguments n; child = slot.child; failed = true; made = slot.made; ended = slot.ended }

pub start_fails : (world : WorldLists) (past : List Entry) (h : HostNo) (slot : SlotState) (p : Program) (n : ℕ) → Stands slot.starter.writing world past h slot → slot.ended ≡ false → slot.child ≡ None → slot.failed ≡ false → program_of world past h ≡ Some p → Rose slot.starter.slot.failed_starts n
    → Stands slot.starter.writing world past h (failed_slot slot p n)
start_fails world past h slot p n s unended none not_failed is rose =
    let writing = slot.starter.writing in
    let w = waits_of writing world past h slot s unended none not_failed in
    record {
      alone = ap (λ (t : StarterState). starting t p.path p.arguments n) s.alone;
      counted = s.counted;
      stands = untold (record {
        failed = refl;
        no_child = none;
        none_made = w.none_made;
        unended = unended;
        program = p;
        its_own = is;
        starter_record = record {
          once = ap (λ (r : HostRecord). plus r.starts 1) w.empty;
          account = ap (λ (r : HostRecord). option_map (started p.path p.arguments) r.account) w.empty ∙ started_account writing p;
          no_reads = ap (λ (r : HostRecord). r.failed_reads) w.empty;
          no_writes = ap (λ (r : HostRecord). r.failed_writes) w.empty;
        };
        failed_starts = omega (arith, rose);
      });
    }

untold_of : (writing : Option Writing) (world : WorldLists) (past : List Entry) (h : HostNo) (slot : SlotState) → Stands writing world past h slot → slot.ended ≡ false → slot.child ≡ None → slot.failed ≡ true → StandsUntold writing world past h slot
untold_of writing world past h slot s unended none failed = by s.stands
  where
    by : StandsAs writing world past h slot → StandsUntold writing world past h slot
    by (waiting un empty is) = absurd (true≢false (sym failed ∙ ap (λ (x : SlotState). x.failed) is))
    by (untold t) = t
    by (running child run) = absurd (true≢false (ap is_some (sym run.has_child ∙ none)))
    by (at_end ended was meets) = absurd (true≢false (sym ended ∙ unended))

-- the slot whose host told that its program could not be started
abbrev pub told_slot : SlotState → SlotState
told_slot slot = record { starter = slot.starter; child = slot.child; failed = slot.failed; made = 1; ended = true }

pub tells_failed : (writing : Option Writing) (world : WorldLists) (past : List Entry) (h : HostNo) (slot : SlotState) (a : Answer) → Stands writing world past h slot → slot.ended ≡ false → slot.child ≡ None → slot.failed ≡ true
    → IsStarted writing world h past (own h (HostEnded StartFailed) a ∷ past) slot (told_slot slot)
tells_failed writing world past h slot a s unended none failed =
    let t = untold_of writing world past h slot s unended none failed in
    let r = slot.starter.slot in
    let no_entries : entries_of h past ≡ 0 = sym s.counted ∙ t.none_made in
    let un = none_ended past h no_entries in
    let before = waiting_left slot unended none in
    let M : Option Account → Type 0 = ToldAccount (MeetsAccount world (own h (HostEnded StartFailed) a ∷ past) h r) writing in
    let meets = meets_ended writing world past h r StartFailed a un (none_each (IsInPlace h) past h no_entries) tt t.starter_record.once (t.failed_starts, omega (arith, no_entries))
    (subst M (sym t.starter_record.account) (failed_told writing world past h r t.program a no_entries t.its_own)) in
    let C : Option ChildState → Type 0 = λ c. MeetsStarted writing world (own h (HostEnded StartFailed) a ∷ past) h (record_after r c) in
    record {
      stands = record {
        alone = s.alone;
        counted = sym (entries_own h (HostEnded StartFailed) a past ∙ ap (λ n. n + 1) no_entries);
        stands = at_end refl (ended_own h (HostEnded StartFailed) a past un) (subst C (sym none) meets);
      };
      started = λ e. absurd (true≢false e);
      less = omega (arith, before);
      turn = λ _. not_started (λ was. true≢false (sym (subst IsSome none (was unended)))) no_entries (record { answer = a; made = refl });
      no_entry = λ e. absurd (true≢false e);
    }

-- the same, from a slot with the same child in which its host had not ended either
pub started_from : (writing : Option Writing) (world : WorldLists) (h : HostNo) (before after : List Entry) (old mid new : SlotState) → old.child ≡ None → mid.child ≡ None → old.ended ≡ false → mid.ended ≡ false → IsStarted writing world h before after mid new → IsStarted writing world h before after old new
started_from writing world h before after old mid new none mid_none unended mid_unended s =
    let was = waiting_left old unended none in
    let is = waiting_left mid mid_unended mid_none in
    let less = s.less in
    record {
      stands = s.stands;
      started = s.started;
      less = omega (arith, less, was, is);
      turn = λ ended. turn_map (λ un. λ w. un (λ e. absurd (true≢false (sym (subst IsSome none (w unended)))))) h before after (s.turn ended);
      no_entry = s.no_entry;
    }
