-- The pump of a host's output, turn after turn.
use Rattle.std.proofs.Common.{◌≡◌, ℕ, ◌≤◌, List, [], ◌++◌, Bool, true, false, Option, Some, refl, ap, ◌∙◌, sym, subst, append_assoc, arith}
use Rattle.std.proofs.lemmas.List.{append-nil}
use Rattle.wx_id.specs.declared.numbers.HostNo.{HostNo}
use Rattle.wx_native_frame.specs.Frames.{Unfinished}
use Rattle.wx_native_frame.specs.Splits.{IsSplit}
use Rattle.wx_machine.specs.declared.entries.Call.{Call}
use Rattle.wx_machine.specs.declared.entries.Entry.{Entry}
use Rattle.wx_machine.specs.declared.entries.Call.TheVariants.{HostSaid, HostEnded}
use Rattle.wx_machine.specs.declared.entries.TheConstants.{LONGEST_SAID}
use Rattle.wx_desk.specs.History.{Seen, entries_in, EachOwn}
use Rattle.wx_desk.specs.Desks.{HostDeskState, past_of, MakesNone, own_entry}
use Rattle.wx_host_launch.specs.Pipes.{OutState}
use Rattle.wx_host_launch.specs.Reading.{HasNoFrame, Keeps}
use Rattle.wx_host_launch.specs.Halves.{texts_said, EndsFor, IsCause, IsOutHalf}
use Rattle.wx_host_launch.specs.Turns.{IsOutTurn}
use Rattle.wx_host_launch.specs.declared.turns.OutTurn.{OutTurn}
use Rattle.wx_host_launch.specs.declared.turns.OutTurn.TheVariants as out
use Rattle.wx_host_launch.proofs.ReadingLemmas.{gives_nothing}
use Rattle.wx_host_launch.proofs.StepLemmas.{said-none, said-append, each-none, each-append}
use Rattle.wx_host_launch.proofs.TurnLemmas.{split_none}
use Rattle.wx_host_launch.proofs.KeptLemmas.{IsSameDesk, same_out}
use Rattle.wx_pump.specs.Pumps.{is_ended, is_stopped, is_refused, is_over, Paced, IsOutPump}
use Rattle.wx_pump.specs.declared.pumps.PumpEnd.{PumpEnd}
use Rattle.wx_pump.specs.declared.pumps.PumpEnd.TheVariants.{Ended, Stopped, NoMemory}
use Rattle.wx_pump.proofs.PumpLemmas.{past_between, are_quiet, is_one, paced_others, over_others, paced_one, over_one, GoesOn, on_begins, on_others, on_one, on_asked, by_its_host}
use Rattle.wx_pump.proofs.HalfLemmas.{added_out}

-- What the pump did so far: it may go on.
pub record OutSoFar (going : List Entry → Type 0) (left : ℕ) (old now : HostDeskState) (reader after : Unfinished) (before then : OutState) : Type 0 where
  pub half : IsOutHalf old now reader after before then false
  pub on : GoesOn 1 old.who going (past_of old) half.more left
  pub same : IsSameDesk old now
  pub later : before.faults ≤ then.faults

pub out_begins : (going : List Entry → Type 0) (d : HostDeskState) (r : Unfinished) (o : OutState) → HasNoFrame r.bytes → Keeps r.bytes r.bytes → OutSoFar going 0 d d r r o o
out_begins going d r o no_frame keeps =
    let S : List ℕ → Type 0 = λ z. IsSplit LONGEST_SAID z [] r.bytes in
    record {
      half = record {
        more = [];
        seen = refl;
        bytes = [];
        given = gives_nothing o.stream;
        texts = [];
        rest = r.bytes;
        split = subst S (sym (append-nil r.bytes)) (split_none r.bytes no_frame);
        unsaid = [];
        said = refl;
        all = λ e. refl;
        kept = λ e. keeps;
        ends = tt;
      };
      on = on_begins 1 d.who going (past_of d);
      same = (refl, refl);
      later = omega arith;
    }

-- it asked, and is to go on or to stop
pub out_asked : (going : List Entry → Type 0) (n : ℕ) (a b c : HostDeskState) (r s : Unfinished) (x y : OutState) → OutSoFar going n a b r s x y → MakesNone b c → OutSoFar going n a c r s x y
out_asked going n a b c r s x y so none =
    let h = so.half in
    let o = none.others in
    let same : texts_said (o ++ h.more) ≡ texts_said h.more = said-append o h.more ∙ ap (λ w. texts_said h.more ++ w) (said-none o none.none_own) ∙ append-nil (texts_said h.more) in
    let P : List (List ℕ) → Type 0 = λ ts. EachOwn (EndsFor (IsCause (ts ≡ h.texts) h.rest x y) a.who) (past_of a) (o ++ h.more) in
    let Q : List Entry → Call → Type 0 = EndsFor (IsCause (texts_said h.more ≡ h.texts) h.rest x y) a.who in
    record {
      half = record {
        more = o ++ h.more;
        seen = none.seen ∙ ap (λ xs. o ++ xs) h.seen ∙ sym (append_assoc o h.more a.history);
        bytes = h.bytes;
        given = h.given;
        texts = h.texts;
        rest = h.rest;
        split = h.split;
        unsaid = h.unsaid;
        said = h.said ∙ ap (λ w. w ++ h.unsaid) (sym same);
        all = h.all;
        kept = h.kept;
        ends = subst P (sym same) (each-append Q (past_of a) o h.more (each-none Q (entries_in h.more ++ past_of a) o none.none_own) h.ends);
      };
      on = on_others 1 a.who going (past_of a) o h.more n none.none_own so.on;
      same = (none.same_who ∙ so.same.0, none.same_world ∙ so.same.1);
      later = so.later;
    }

pub out_next : (going : HostNo → List Entry → Type 0) (a b c : HostDeskState) (r s : Unfinished) (x y : OutState) → ((n : ℕ) × OutSoFar (going a.who) n a b r s x y) → MakesNone b c → going c.who (past_of c) → OutSoFar (going a.who) 1 a c r s x y
out_next going a b c r s x y (n, so) none known =
    let asked = out_asked (going a.who) n a b c r s x y so none in
    let G : HostNo → Type 0 = λ h. going h (past_of c) in
    record {
      half = asked.half;
      on = on_asked 1 a.who (going a.who) (past_of a) asked.half.more n (subst (going a.who) (past_between a c asked.half.more asked.half.seen) (subst G asked.same.0 known)) asked.on;
      same = asked.same;
      later = asked.later;
    }

-- what it did in one turn more
step_on : (going : List Entry → Type 0) (n m : ℕ) (a b c : HostDeskState) (r s t : Unfinished) (x y z : OutState) → (so : OutSoFar going n a b r s x y) → (k : IsOutHalf b c s t y z false) → GoesOn 1 a.who going (past_of a) (k.more ++ so.half.more) m → IsSameDesk b c → y.faults ≤ z.faults → OutSoFar going m a c r t x z
step_on going n m a b c r s t x y z so k on same later =
    let a_le = so.later in
    let both = added_out a b c r s t x y z false so.half k so.on.none_end so.same.0 so.later in
    let G : List Seen → Type 0 = λ more. GoesOn 1 a.who going (past_of a) more m in
    record {
      half = both.half;
      on = subst G (sym both.more_is) on;
      same = (same.0 ∙ so.same.0, same.1 ∙ so.same.1);
      later = omega (arith, a_le, later);
    }

pub out_turned : (b c : HostDeskState) (s t : Unfinished) (y z : OutState) (v w : OutTurn) → v ≡ w → IsOutTurn b c s t y z v → IsOutTurn b c s t y z w
out_turned b c s t y z v w is turn = subst (IsOutTurn b c s t y z) is turn

pub out_waits : (going : List Entry → Type 0) (a b c : HostDeskState) (r s t : Unfinished) (x y z : OutState) → OutSoFar going 1 a b r s x y → IsOutTurn b c s t y z out.Waits → y.faults ≤ z.faults → OutSoFar going 1 a c r t x z
out_waits going a b c r s t x y z so h later =
    let k = h.half in
    step_on going 1 1 a b c r s t x y z so k (on_others 1 a.who going (past_of a) k.more so.half.more 1 (are_quiet b c k.more h.came.0.others k.seen) so.on) (same_out b c s t y z out.Waits h) later

pub out_moved : (going : List Entry → Type 0) (a b c : HostDeskState) (r s t : Unfinished) (x y z : OutState) → OutSoFar going 1 a b r s x y → IsOutTurn b c s t y z out.Moved → y.faults ≤ z.faults → OutSoFar going 0 a c r t x z
out_moved going a b c r s t x y z so h later =
    let (text, reply, made) = h.came.0 in
    let k = h.half in
    let one = is_one b c (HostSaid text) reply k.more made k.seen in
    step_on going 1 0 a b c r s t x y z so k
    (on_one 1 a.who going (past_of a) k.more so.half.more (own_entry made.between (HostSaid text) reply) 0 one refl (by_its_host a b made.between made.others so.same.0) refl refl so.on)
    (same_out b c s t y z out.Moved h) later

-- Its ends

finish : (going : HostNo → List Entry → Type 0) (m : ℕ) (a b c : HostDeskState) (r s t : Unfinished) (x y z : OutState) (told : Option Bool) (result : PumpEnd) → (so : OutSoFar (going a.who) 1 a b r s x y) → (k : IsOutHalf b c s t y z (is_refused result)) → Paced 1 a.who (going a.who) (past_of a) (k.more ++ so.half.more) m
    → is_over (k.more ++ so.half.more) ≡ is_ended result → told ≡ Some (is_stopped result) → IsSameDesk b c → y.faults ≤ z.faults → IsOutPump going a c r t x z told result
finish going m a b c r s t x y z told result so k paced over is same later =
    let a_le = so.later in
    let both = added_out a b c r s t x y z (is_refused result) so.half k so.on.none_end so.same.0 so.later in
    let P : List Seen → Type 0 = λ more. Paced 1 a.who (going a.who) (past_of a) more m in
    record {
      half = both.half;
      left = m;
      paced = subst P (sym both.more_is) paced;
      over = ap is_over both.more_is ∙ over;
      told_is = is;
      later = omega (arith, a_le, later);
      same_who = same.0 ∙ so.same.0;
      same_world = same.1 ∙ so.same.1;
    }

pub out_stopped : (going : HostNo → List Entry → Type 0) (n : ℕ) (a b : HostDeskState) (r s : Unfinished) (x y : OutState) (told : Option Bool) → OutSoFar (going a.who) n a b r s x y → told ≡ Some true → IsOutPump going a b r s x y told Stopped
out_stopped going n a b r s x y told so is = record {
  half = so.half;
  left = n;
  paced = so.on.paced;
  over = so.on.not_over;
  told_is = is;
  later = so.later;
  same_who = so.same.0;
  same_world = so.same.1;
}

pub out_ended : (going : HostNo → List Entry → Type 0) (a b c : HostDeskState) (r s t : Unfinished) (x y z : OutState) (told : Option Bool) → OutSoFar (going a.who) 1 a b r s x y → IsOutTurn b c s t y z out.Ended → told ≡ Some false → y.faults ≤ z.faults → IsOutPump going a c r t x z told Ended
out_ended going a b c r s t x y z told so h is later =
    let (reason, reply, ends, cause) = h.came in
    let k = h.half in
    let made = ends.one in
    let own = own_entry made.between (HostEnded reason) reply in
    let one = is_one b c (HostEnded reason) reply k.more made k.seen in
    finish going 0 a b c r s t x y z told Ended so k
    (paced_one 1 a.who (going a.who) (past_of a) k.more so.half.more own 0 one refl (by_its_host a b made.between made.others so.same.0) so.on.paced)
    (over_one k.more so.half.more own one refl) is (same_out b c s t y z out.Ended h) later

pub out_refused : (going : HostNo → List Entry → Type 0) (a b c : HostDeskState) (r s t : Unfinished) (x y z : OutState) (told : Option Bool) → OutSoFar (going a.who) 1 a b r s x y → IsOutTurn b c s t y z out.NoMemory → told ≡ Some false → y.faults ≤ z.faults → IsOutPump going a c r t x z told NoMemory
out_refused going a b c r s t x y z told so h is later =
    let k = h.half in
    let q = are_quiet b c k.more h.came k.seen in
    finish going 1 a b c r s t x y z told NoMemory so k (paced_others 1 a.who (going a.who) (past_of a) k.more so.half.more 1 q so.on.paced) (over_others k.more so.half.more q ∙ so.on.not_over) is (same_out b c s t y z out.NoMemory h) later
