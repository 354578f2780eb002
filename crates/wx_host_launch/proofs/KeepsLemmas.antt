-- A reader in trouble keeps the shortest front of its bytes that has it. What it reads after that comes to the same as if it
-- had kept them all.
use Rattle.std.proofs.Common.{◌≡◌, ℕ, ◌<◌, ◌≤◌, List, [], ◌∷◌, ◌++◌, length, take, refl, ap, ◌∙◌, sym, subst, append_assoc, arith, inl, inr}
use Rattle.std.proofs.lemmas.Bool.{cases_lt}
use Rattle.std.proofs.lemmas.List.{take-append-le, take_all}
use Rattle.wx_json.proofs.OneFault.{one}
use Rattle.wx_native_frame.specs.Frames.{IsTrouble, IsTroubleFirst}
use Rattle.wx_native_frame.specs.Splits.{frames, IsSplit}
use Rattle.wx_native_frame.specs.declared.FrameFault.{FrameFault}
use Rattle.wx_native_frame.specs.declared.FrameFault.TheVariants as fault
use Rattle.wx_native_frame.proofs.FrameLaws.{trouble-append, trouble_no_frame}
use Rattle.wx_native_frame.proofs.SplitLaws.{one_split, one_trouble}
use Rattle.wx_machine.specs.declared.entries.Reason.{Reason}
use Rattle.wx_machine.specs.declared.entries.Reason.TheVariants.{StartFailed, ReadFailed, WriteFailed, TooLong, BadJson, Cut, Exited, Closed}
use Rattle.wx_machine.specs.declared.entries.TheConstants.{LONGEST_SAID}
use Rattle.wx_host_launch.specs.Pipes.{OutState}
use Rattle.wx_host_launch.specs.Reading.{HasNoFrame, IsReadingEnd, Keeps, all, to_trouble}
use Rattle.wx_host_launch.proofs.ReadingLemmas.{trouble_is_long}
use Rattle.wx_host_launch.proofs.TurnLemmas.{split_none}

-- Bytes that a reader in trouble did not keep

-- of two fronts that first have trouble neither is shorter
not_shorter : (l m r : List ℕ) (x y : List ℕ) (f : FrameFault) → r ≡ l ++ x → r ≡ m ++ y → IsTrouble l LONGEST_SAID f → IsTroubleFirst m LONGEST_SAID → ¬ (length l < length m)
not_shorter l m r x y f a b trouble first less =
    let n : ℕ = length l in
    let le : n ≤ length m = omega (arith, less) in
    let same : take n m ≡ l = sym (take-append-le n m y le) ∙ ap (take n) (sym b ∙ a) ∙ take-append-le n l x (omega arith) ∙ take_all n l (omega arith) in
    let P : List ℕ → Type 0 = λ z. IsTrouble z LONGEST_SAID f in
    first n f less (subst P (sym same) trouble)

no_less : (i j : ℕ) → ¬ (i < j) → ¬ (j < i) → i ≡ j
no_less i j p q = elim (cases_lt i j) [ inl lt ↦ absurd (p lt) | inr le ↦ elim (cases_lt j i) [ inl lt ↦ absurd (q lt) | inr more ↦ omega arith ] ]

one_first : (l m r : List ℕ) (x y : List ℕ) (f g : FrameFault) → r ≡ l ++ x → r ≡ m ++ y → IsTrouble l LONGEST_SAID f → IsTrouble m LONGEST_SAID g → IsTroubleFirst l LONGEST_SAID → IsTroubleFirst m LONGEST_SAID → l ≡ m
one_first l m r x y f g a b tl tm fl fm =
    let p = not_shorter l m r x y f a b tl fm in
    let q = not_shorter m l r y x g b a tm fl in
    let e : length l ≡ length m = no_less (length l) (length m) p q in
    let n : ℕ = length l in
    sym (take_all n l (omega arith)) ∙ sym (take-append-le n l x (omega arith)) ∙ ap (take n) (sym a ∙ b) ∙ take-append-le n m y (omega (arith, e)) ∙ take_all n m (omega (arith, e))

-- What a reader reads on, after what it kept of some rest: it is as if it had kept all of the rest.
pub record ReadsOn (r b : List ℕ) (texts : List (List ℕ)) (rest : List ℕ) : Type 0 where
  pub whole : List ℕ
  pub is : r ++ b ≡ frames texts ++ whole
  pub no_frame : HasNoFrame whole
  pub reason : (old new : OutState) (reason : Reason) → IsReadingEnd rest old new reason → IsReadingEnd whole old new reason
  pub keeps : (left : List ℕ) → Keeps rest left → Keeps whole left

trouble_stays : (l w : List ℕ) (f g : FrameFault) (x y : List ℕ) → w ≡ l ++ y → IsTrouble l LONGEST_SAID f → IsTrouble (l ++ x) LONGEST_SAID g → IsTrouble w LONGEST_SAID g
trouble_stays l w f g x y e h k =
    let same : f ≡ g = one_trouble one (l ++ x) LONGEST_SAID f g (trouble-append l x LONGEST_SAID f h) k in
    let P : FrameFault → Type 0 = λ z. IsTrouble w LONGEST_SAID z in
    let W : List ℕ → Type 0 = λ z. IsTrouble z LONGEST_SAID f in
    subst P same (subst W (sym e) (trouble-append l y LONGEST_SAID f h))

reason_stays : (l w x y : List ℕ) (f : FrameFault) → w ≡ l ++ y → IsTrouble l LONGEST_SAID f → (old new : OutState) (reason : Reason) → IsReadingEnd (l ++ x) old new reason → IsReadingEnd w old new reason
reason_stays l w x y f e h old new StartFailed k = absurd k
reason_stays l w x y f e h old new ReadFailed k = absurd (k.1 f (trouble-append l x LONGEST_SAID f h))
reason_stays l w x y f e h old new WriteFailed k = absurd k
reason_stays l w x y f e h old new (TooLong n) k = trouble_stays l w f (fault.TooLong n) x y e h k
reason_stays l w x y f e h old new (BadJson place kind) k = trouble_stays l w f (fault.BadJson (record { place = place; kind = kind })) x y e h k
reason_stays l w x y f e h old new (Cut have) k = absurd (k.1 f (trouble-append l x LONGEST_SAID f h))
reason_stays l w x y f e h old new Exited k =
    let long = trouble_is_long (l ++ x) f (trouble-append l x LONGEST_SAID f h) in
    absurd (omega (arith, long, ap length (k.1)))
reason_stays l w x y f e h old new Closed k = absurd k

keeps_stays : (l w x y left : List ℕ) (f : FrameFault) → w ≡ l ++ y → IsTrouble l LONGEST_SAID f → IsTroubleFirst l LONGEST_SAID → Keeps (l ++ x) left → Keeps w left
keeps_stays l w x y left f e h first (all none) = absurd (none f (trouble-append l x LONGEST_SAID f h))
keeps_stays l w x y left f e h first (to_trouble g more is whole_has has least) =
    let same : l ≡ left = one_first l left (l ++ x) x more f g refl is h has first least in
    let P : List ℕ → Type 0 = λ z. Keeps w z in
    let W : List ℕ → Type 0 = λ z. IsTrouble z LONGEST_SAID f in
    subst P same (to_trouble f y e (subst W (sym e) (trouble-append l y LONGEST_SAID f h)) h first)

pub reads_on : (r left b : List ℕ) (texts : List (List ℕ)) (rest : List ℕ) → Keeps r left → IsSplit LONGEST_SAID (left ++ b) texts rest → ReadsOn r b texts rest
reads_on r left b texts rest (all none) s = record { whole = rest; is = s.stream_is; no_frame = s.no_frame; reason = λ old new reason h. h; keeps = λ l h. h }
reads_on r left b texts rest (to_trouble f more is r_has has first) s =
    let w : List ℕ = r ++ b in
    let w_is : w ≡ left ++ (more ++ b) = ap (λ z. z ++ b) is ∙ append_assoc left more b in
    let none = trouble_no_frame (left ++ b) LONGEST_SAID f (omega arith) (trouble-append left b LONGEST_SAID f has) in
    let same = one_split LONGEST_SAID (left ++ b) texts [] rest (left ++ b) (omega arith) s (split_none (left ++ b) none) in
    let R : List ℕ → Type 0 = λ z. (old new : OutState) (reason : Reason) → IsReadingEnd z old new reason → IsReadingEnd w old new reason in
    let K : List ℕ → Type 0 = λ z. (l : List ℕ) → Keeps z l → Keeps w l in
    record {
      whole = w;
      is = ap (λ ts. frames ts ++ w) (sym same.0);
      no_frame = trouble_no_frame w LONGEST_SAID f (omega arith) (trouble-append r b LONGEST_SAID f r_has);
      reason = subst R (sym same.1) (λ old new reason h. reason_stays left w b (more ++ b) f w_is has old new reason h);
      keeps = subst K (sym same.1) (λ l h. keeps_stays left w b (more ++ b) l f w_is has first h);
    }
