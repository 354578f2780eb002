-- The pump of a host's input, turn after turn.
use Rattle.std.proofs.Common.{◌≡◌, ℕ, ◌≤◌, List, [], ◌∷◌, ◌++◌, Bool, true, false, Option, Some, refl, ap, ◌∙◌, sym, subst, append_assoc, arith}
use Rattle.std.proofs.lemmas.List.{append_cancel_right}
use Rattle.wx_id.specs.declared.numbers.EntryNo.{EntryNo}
use Rattle.wx_id.specs.declared.numbers.HostNo.{HostNo}
use Rattle.wx_machine.specs.declared.entries.Entry.{Entry}
use Rattle.wx_machine.specs.declared.entries.Call.TheVariants.{HostTake, HostEnded}
use Rattle.wx_machine.specs.declared.entries.Reason.TheVariants.{WriteFailed}
use Rattle.wx_machine.specs.declared.entries.Answer.TheVariants.{Text as HasText, End as NoMore}
use Rattle.wx_desk.specs.History.{Seen, AreOthers}
use Rattle.wx_desk.specs.Desks.{HostDeskState, IsSound, past_of, MakesNone, MakesOne, own_entry}
use Rattle.wx_host_launch.specs.Pipes.{InState}
use Rattle.wx_host_launch.specs.Halves.{whole, IsInHalf}
use Rattle.wx_host_launch.specs.Turns.{IsInTurn, LacksMemory, at_once, behind_write}
use Rattle.wx_host_launch.specs.declared.turns.InTurn.{InTurn}
use Rattle.wx_host_launch.specs.declared.turns.InTurn.TheVariants as into
use Rattle.wx_host_launch.proofs.TurnLemmas.{added_nothing, nothing_in}
use Rattle.wx_host_launch.proofs.KeptLemmas.{IsSameDesk, same_one, same_in}
use Rattle.wx_pump.specs.Pumps.{is_ended, is_stopped, is_refused, is_over, Paced, IsInPump}
use Rattle.wx_pump.specs.declared.pumps.PumpEnd.{PumpEnd}
use Rattle.wx_pump.specs.declared.pumps.PumpEnd.TheVariants.{Ended, Stopped, NoMemory}
use Rattle.wx_pump.proofs.PumpLemmas.{past_between, are_quiet, IsOne, one_made, is_one, paced_others, over_others, paced_one, over_one, texts_stay, GoesOn, on_begins, on_others, on_one, on_asked, by_its_host}
use Rattle.wx_pump.proofs.HalfLemmas.{added_in}

-- What the pump did so far: it may go on.
pub record InSoFar (going : List Entry → Type 0) (left : ℕ) (old now : HostDeskState) (before then : InState) : Type 0 where
  pub half : IsInHalf old now before then false
  pub on : GoesOn 2 old.who going (past_of old) half.more left
  pub same : IsSameDesk old now
  pub later : before.faults ≤ then.faults

pub in_begins : (going : List Entry → Type 0) (d : HostDeskState) (i : InState) → InSoFar going 0 d d i i
in_begins going d i = record {
  half = record { more = []; seen = refl; bytes = []; sent = added_nothing i.sent; frames = whole refl; ended = tt; ready = tt };
  on = on_begins 2 d.who going (past_of d);
  same = (refl, refl);
  later = omega arith;
}

-- what it did in one turn more
step_on : (going : List Entry → Type 0) (n m : ℕ) (a b c : HostDeskState) (x y z : InState) → (s : InSoFar going n a b x y) → IsSound b → (k : IsInHalf b c y z false) → GoesOn 2 a.who going (past_of a) (k.more ++ s.half.more) m → IsSameDesk b c → y.faults ≤ z.faults → InSoFar going m a c x z
step_on going n m a b c x y z s sound k on same later =
    let a_le = s.later in
    let stays = texts_stay 2 a.who going a b s.half.more n s.half.seen sound.legal s.on.paced in
    let both = added_in a b c x y z false s.half k s.on.none_end stays s.same.0 s.later in
    let G : List Seen → Type 0 = λ more. GoesOn 2 a.who going (past_of a) more m in
    record {
      half = both.half;
      on = subst G (sym both.more_is) on;
      same = (same.0 ∙ s.same.0, same.1 ∙ s.same.1);
      later = omega (arith, a_le, later);
    }

quiet_on : (going : List Entry → Type 0) (n : ℕ) (a b c : HostDeskState) (x y z : InState) → (s : InSoFar going n a b x y) → IsSound b → (k : IsInHalf b c y z false) → AreOthers k.more → IsSameDesk b c → y.faults ≤ z.faults → InSoFar going n a c x z
quiet_on going n a b c x y z s sound k none same later = step_on going n n a b c x y z s sound k (on_others 2 a.who going (past_of a) k.more s.half.more n none s.on) same later

-- it asked, and is to go on or to stop
pub in_asked : (going : List Entry → Type 0) (n : ℕ) (a b c : HostDeskState) (x y : InState) → InSoFar going n a b x y → IsSound b → MakesNone b c → InSoFar going n a c x y
in_asked going n a b c x y s sound none =
    let k : IsInHalf b c y y false = nothing_in b c y y false none refl in
    quiet_on going n a b c x y y s sound k (are_quiet b c k.more none k.seen) (none.same_who, none.same_world) (omega arith)

pub in_next : (going : HostNo → List Entry → Type 0) (a b c : HostDeskState) (x y : InState) → ((n : ℕ) × InSoFar (going a.who) n a b x y) → IsSound b → MakesNone b c → going c.who (past_of c) → InSoFar (going a.who) 2 a c x y
in_next going a b c x y (n, s) sound none known =
    let asked = in_asked (going a.who) n a b c x y s sound none in
    let G : HostNo → Type 0 = λ h. going h (past_of c) in
    record {
      half = asked.half;
      on = on_asked 2 a.who (going a.who) (past_of a) asked.half.more n (subst (going a.who) (past_between a c asked.half.more asked.half.seen) (subst G asked.same.0 known)) asked.on;
      same = asked.same;
      later = asked.later;
    }

pub in_turned : (b c : HostDeskState) (y z : InState) (t u : InTurn) → t ≡ u → IsInTurn b c y z t → IsInTurn b c y z u
in_turned b c y z t u is turn = subst (IsInTurn b c y z) is turn

pub in_waits : (going : List Entry → Type 0) (a b c : HostDeskState) (x y z : InState) → InSoFar going 2 a b x y → IsSound b → IsInTurn b c y z into.Waits → y.faults ≤ z.faults → InSoFar going 2 a c x z
in_waits going a b c x y z s sound t later = quiet_on going 2 a b c x y z s sound t.half (are_quiet b c t.half.more t.came.0.others t.half.seen) (same_in b c y z into.Waits t) later

pub in_moved : (going : List Entry → Type 0) (a b c : HostDeskState) (x y z : InState) → InSoFar going 2 a b x y → IsSound b → IsInTurn b c y z into.Moved → y.faults ≤ z.faults → InSoFar going 1 a c x z
in_moved going a b c x y z s sound t later =
    let n = t.came.0.0 in
    let made = t.came.0.1.one in
    let one = is_one b c HostTake (HasText n) t.half.more made t.half.seen in
    step_on going 2 1 a b c x y z s sound t.half
    (on_one 2 a.who going (past_of a) t.half.more s.half.more (own_entry made.between HostTake (HasText n)) 1 one refl (by_its_host a b made.between made.others s.same.0) refl refl s.on)
    (same_in b c y z into.Moved t) later

-- Its ends

finish : (going : HostNo → List Entry → Type 0) (n m : ℕ) (a b c : HostDeskState) (x y z : InState) (told : Option Bool) (result : PumpEnd) → (s : InSoFar (going a.who) n a b x y) → IsSound b → IsSound c → (k : IsInHalf b c y z (is_refused result)) → Paced 2 a.who (going a.who) (past_of a) (k.more ++ s.half.more) m
    → is_over (k.more ++ s.half.more) ≡ is_ended result → told ≡ Some (is_stopped result) → IsSameDesk b c → y.faults ≤ z.faults → IsInPump going a c x z told result
finish going n m a b c x y z told result s sound grown k paced over is same later =
    let a_le = s.later in
    let stays = texts_stay 2 a.who (going a.who) a b s.half.more n s.half.seen sound.legal s.on.paced in
    let both = added_in a b c x y z (is_refused result) s.half k s.on.none_end stays s.same.0 s.later in
    let P : List Seen → Type 0 = λ more. Paced 2 a.who (going a.who) (past_of a) more m in
    let all = subst P (sym both.more_is) paced in
    record {
      half = both.half;
      stays = texts_stay 2 a.who (going a.who) a c both.half.more m both.half.seen grown.legal all;
      left = m;
      paced = all;
      over = ap is_over both.more_is ∙ over;
      told_is = is;
      later = omega (arith, a_le, later);
      same_who = same.0 ∙ s.same.0;
      same_world = same.1 ∙ s.same.1;
    }

pub in_stopped : (going : HostNo → List Entry → Type 0) (n : ℕ) (a b : HostDeskState) (x y : InState) (told : Option Bool) → InSoFar (going a.who) n a b x y → IsSound b → told ≡ Some true → IsInPump going a b x y told Stopped
in_stopped going n a b x y told s sound is = record {
  half = s.half;
  stays = texts_stay 2 a.who (going a.who) a b s.half.more n s.half.seen sound.legal s.on.paced;
  left = n;
  paced = s.on.paced;
  over = s.on.not_over;
  told_is = is;
  later = s.later;
  same_who = s.same.0;
  same_world = s.same.1;
}

pub in_closed : (going : HostNo → List Entry → Type 0) (a b c : HostDeskState) (x y z : InState) (told : Option Bool) → InSoFar (going a.who) 2 a b x y → IsSound b → IsSound c → IsInTurn b c y z into.Closed → told ≡ Some false → y.faults ≤ z.faults → IsInPump going a c x z told Ended
in_closed going a b c x y z told s sound grown t is later =
    let made = t.came.0.one in
    let own = own_entry made.between HostTake NoMore in
    let one = is_one b c HostTake NoMore t.half.more made t.half.seen in
    finish going 2 1 a b c x y z told Ended s sound grown t.half
    (paced_one 2 a.who (going a.who) (past_of a) t.half.more s.half.more own 1 one refl (by_its_host a b made.between made.others s.same.0) s.on.paced)
    (over_one t.half.more s.half.more own one refl) is (same_in b c y z into.Closed t) later

-- entries that end in others after a take: that take comes first
pub record IsAfterTake (more : List Seen) (s : Seen) (then : List Seen) : Type 0 where
  pub first : List Seen
  pub is : (before : List Seen) → more ++ before ≡ then ++ (first ++ before)
  pub one : IsOne first s

after_take : (b mid c : HostDeskState) (n : EntryNo) (more then : List Seen) (made : MakesOne b mid HostTake (HasText n)) → c.history ≡ then ++ mid.history → c.history ≡ more ++ b.history → IsAfterTake more (own_entry made.between HostTake (HasText n)) then
after_take b mid c n more then made grown seen =
    let own = own_entry made.between HostTake (HasText n) in
    let first : List Seen = own ∷ made.others.others in
    let is : more ≡ then ++ first = append_cancel_right more (then ++ first) b.history (sym seen ∙ grown ∙ ap (λ xs. then ++ xs) (one_made b mid HostTake (HasText n) made) ∙ sym (append_assoc then first b.history)) in
    record {
      first = first;
      is = λ before. ap (λ xs. xs ++ before) is ∙ append_assoc then first before;
      one = record { others = made.others.others; is = refl; none_own = made.others.none_own };
    }

pub in_ended : (going : HostNo → List Entry → Type 0) (a b c : HostDeskState) (x y z : InState) (told : Option Bool) → InSoFar (going a.who) 2 a b x y → IsSound b → IsSound c → IsInTurn b c y z into.Ended → told ≡ Some false → y.faults ≤ z.faults → IsInPump going a c x z told Ended
in_ended going a b c x y z told s sound grown t is later =
    let f = t.came.0 in
    let made = f.taken.one in
    let mid = f.between in
    let (reply, ends) = f.left in
    let own = own_entry made.between HostTake (HasText f.text) in
    let end_ = own_entry ends.between (HostEnded WriteFailed) reply in
    let then : List Seen = end_ ∷ ends.others.others in
    let both = after_take b mid c f.text t.half.more then made (one_made mid c (HostEnded WriteFailed) reply ends) t.half.seen in
    let last : IsOne then end_ = record { others = ends.others.others; is = refl; none_own = ends.others.none_own } in
    let P : List Seen → Type 0 = λ xs. Paced 2 a.who (going a.who) (past_of a) xs 0 in
    let who = (same_one b mid HostTake (HasText f.text) made).0 ∙ s.same.0 in
    let taken = paced_one 2 a.who (going a.who) (past_of a) both.first s.half.more own 1 both.one refl (by_its_host a b made.between made.others s.same.0) s.on.paced in
    finish going 2 0 a b c x y z told Ended s sound grown t.half
    (subst P (sym (both.is s.half.more)) (paced_one 2 a.who (going a.who) (past_of a) then (both.first ++ s.half.more) end_ 0 last refl (by_its_host a mid ends.between ends.others who) taken))
    (ap is_over (both.is s.half.more) ∙ over_one then (both.first ++ s.half.more) end_ last refl) is (same_in b c y z into.Ended t) later

refused_by : (going : HostNo → List Entry → Type 0) (a b c : HostDeskState) (x y z : InState) (told : Option Bool) → InSoFar (going a.who) 2 a b x y → IsSound b → IsSound c → (k : IsInHalf b c y z true) → IsSameDesk b c → LacksMemory b c y z → told ≡ Some false → y.faults ≤ z.faults → IsInPump going a c x z told NoMemory
refused_by going a b c x y z told s sound grown k same (at_once none kept) is later =
    let q = are_quiet b c k.more none k.seen in
    finish going 2 2 a b c x y z told NoMemory s sound grown k (paced_others 2 a.who (going a.who) (past_of a) k.more s.half.more 2 q s.on.paced) (over_others k.more s.half.more q ∙ s.on.not_over) is same later
refused_by going a b c x y z told s sound grown k same (behind_write f) is later =
    let made = f.taken.one in
    let none = f.left in
    let own = own_entry made.between HostTake (HasText f.text) in
    let both = after_take b f.between c f.text k.more none.others made none.seen k.seen in
    let P : List Seen → Type 0 = λ xs. Paced 2 a.who (going a.who) (past_of a) xs 1 in
    let taken = paced_one 2 a.who (going a.who) (past_of a) both.first s.half.more own 1 both.one refl (by_its_host a b made.between made.others s.same.0) s.on.paced in
    finish going 2 1 a b c x y z told NoMemory s sound grown k
    (subst P (sym (both.is s.half.more)) (paced_others 2 a.who (going a.who) (past_of a) none.others (both.first ++ s.half.more) 1 none.none_own taken))
    (ap is_over (both.is s.half.more) ∙ over_others none.others (both.first ++ s.half.more) none.none_own ∙ over_one both.first s.half.more own both.one refl) is same later

pub in_refused : (going : HostNo → List Entry → Type 0) (a b c : HostDeskState) (x y z : InState) (told : Option Bool) → InSoFar (going a.who) 2 a b x y → IsSound b → IsSound c → IsInTurn b c y z into.NoMemory → told ≡ Some false → y.faults ≤ z.faults → IsInPump going a c x z told NoMemory
in_refused going a b c x y z told s sound grown t is later = refused_by going a b c x y z told s sound grown t.half (same_in b c y z into.NoMemory t) t.came is later
