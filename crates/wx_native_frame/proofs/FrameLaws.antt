-- Frames, what is under way, and trouble.
use Rattle.std.proofs.Common.{◌≡◌, ℕ, ◌+◌, ◌<◌, ◌≤◌, ◌^◌, List, [], ◌++◌, length, take, drop, refl, ap, ◌∙◌, sym, subst, arith, inl, inr, append_assoc, length-append, take-append-drop}
use Rattle.std.proofs.lemmas.List.{take-append-le, take-take, take_all, length-take, append-nil}
use Rattle.std.proofs.lemmas.Bool.{cases_lt}
use Rattle.wx_json.specs.Text.{IsJsonText, IsPrefixOfJson, IsOfKind, IsFault, IsUnfinished}
use Rattle.wx_json.specs.declared.JsonFault.{JsonFault}
use Rattle.wx_native_frame.specs.Frames.{IsFrame, length_bytes, told_length, text_in, IsTrouble, IsUnderWay}
use Rattle.wx_native_frame.specs.Frames.{too_long, bad_text, cut_text}
use Rattle.wx_native_frame.specs.declared.FrameFault.{FrameFault}
use Rattle.wx_native_frame.specs.declared.FrameFault.TheVariants.{TooLong, BadJson, NoMemory}
use Rattle.wx_native_frame.proofs.Lengths.{length-length_bytes, told-append, told-length_bytes, drop_seam, take_seam, text_in-append}

-- JSON texts and their faults

-- a front of the start of a JSON text is one too
pub shorter : (a b : List ℕ) → IsPrefixOfJson (a ++ b) → IsPrefixOfJson a
shorter a b (t, j) = (b ++ t, rw append_assoc at j)

pub take_prefix : (u : List ℕ) (i : ℕ) → IsPrefixOfJson u → IsPrefixOfJson (take i u)
take_prefix u i p = shorter (take i u) (drop i u) (let P : List ℕ → Type 0 = IsPrefixOfJson in subst P (sym (take-append-drop i u)) p)

pub whole_prefix : (u : List ℕ) → IsJsonText u → IsPrefixOfJson u
whole_prefix u j = ([], let P : List ℕ → Type 0 = IsJsonText in subst P (sym (append-nil u)) j)

pub no_fault : (u : List ℕ) (f : JsonFault) → IsPrefixOfJson u → ¬ IsFault u f
no_fault u f p h = h.faulty (take_prefix u (f.place + 1) p)

-- a fault is one of all bytes that agree up to it
pub same_fault : (b c : List ℕ) (f : JsonFault) → IsFault b f → f.place < length c → take (f.place + 1) c ≡ take (f.place + 1) b → IsFault c f
same_fault b c f h lt e = record {
  inside = lt;
  before = let P : List ℕ → Type 0 = IsPrefixOfJson in subst P (sym before) h.before;
  faulty = λ p. h.faulty (let P : List ℕ → Type 0 = IsPrefixOfJson in subst P e p);
  kind = let P : List ℕ → Type 0 = λ x. IsOfKind f.kind x in subst P (sym e) h.kind;
}
  where
    before : take f.place c ≡ take f.place b
    before = sym (take-take f.place (f.place + 1) c (omega arith)) ∙ ap (take f.place) e ∙ take-take f.place (f.place + 1) b (omega arith)

pub append_fault : (b t : List ℕ) (f : JsonFault) → IsFault b f → IsFault (b ++ t) f
append_fault b t f h = let i = h.inside in same_fault b (b ++ t) f h (omega (arith, length-append b t)) (take-append-le (f.place + 1) b t (omega arith))

pub cut_fault : (b : List ℕ) (f : JsonFault) → IsFault b f → IsFault (take (f.place + 1) b) f
cut_fault b f h = let i = h.inside in same_fault b (take (f.place + 1) b) f h (omega (arith, length-take (f.place + 1) b)) (take-take (f.place + 1) (f.place + 1) b (omega arith))

-- the fault of a text that was good so far is in its new part
pub fault_behind : (u p : List ℕ) (f : JsonFault) → IsPrefixOfJson u → IsFault (u ++ p) f → length u ≤ f.place
fault_behind u p f good h = elim (cases_lt f.place (length u)) [ inl lt ↦ absurd (no_fault u f good (same_fault (u ++ p) u f h lt (sym (take-append-le (f.place + 1) u p (omega arith))))) | inr le ↦ le ]

-- Frames

pub frame-length : (limit : ℕ) (b t : List ℕ) → IsFrame limit b t → length b ≡ 4 + length t
frame-length limit b t h = ap length h.bytes_are ∙ length-append (length_bytes (length t)) t ∙ ap (λ n. n + length t) (length-length_bytes (length t))

pub frame-told : (limit : ℕ) (b t : List ℕ) → limit < 2 ^ 32 → IsFrame limit b t → told_length b ≡ length t
frame-told limit b t small h = let fits = h.fits in ap told_length h.bytes_are ∙ told-length_bytes (length t) t (omega arith)

pub frame-text : (limit : ℕ) (b t : List ℕ) → IsFrame limit b t → drop 4 b ≡ t
frame-text limit b t h = ap (drop 4) h.bytes_are ∙ drop_seam 4 (length_bytes (length t)) t (length-length_bytes (length t))

-- the text of a frame in front
pub frame-text_in : (limit : ℕ) (b t s : List ℕ) → limit < 2 ^ 32 → IsFrame limit b t → text_in (b ++ s) ≡ t
frame-text_in limit b t s small h =
    let long = frame-length limit b t h in
    let n : told_length (b ++ s) ≡ length t = told-append b s (omega arith) ∙ frame-told limit b t small h in
    let parts : b ++ s ≡ length_bytes (length t) ++ (t ++ s) = ap (λ x. x ++ s) h.bytes_are ∙ append_assoc (length_bytes (length t)) t s in
    ap (λ k. take k (drop 4 (b ++ s))) n ∙ ap (λ x. take (length t) (drop 4 x)) parts ∙ ap (take (length t)) (drop_seam 4 (length_bytes (length t)) (t ++ s) (length-length_bytes (length t))) ∙ take_seam (length t) t s refl

-- No frame begins another.
pub one_length : (limit : ℕ) (a b t u : List ℕ) → limit < 2 ^ 32 → IsFrame limit a t → IsFrame limit (a ++ b) u → length b ≡ 0
one_length limit a b t u small h k =
    let la = frame-length limit a t h in
    let ta = frame-told limit a t small h in
    let lb = frame-length limit (a ++ b) u k in
    let tb = frame-told limit (a ++ b) u small k in
    omega (arith, length-append a b, told-append a b (omega arith))

-- Trouble

pub short_no_trouble : (r : List ℕ) (limit : ℕ) (f : FrameFault) → length r < 4 → ¬ IsTrouble r limit f
short_no_trouble r limit (TooLong n) short (too_long le is more) = omega arith
short_no_trouble r limit (BadJson f) short (bad_text le within h) = omega arith
short_no_trouble r limit (BadJson f) short (cut_text le within all h) = omega arith
short_no_trouble r limit NoMemory short h = elim h [ ]

pub no_memory_no_trouble : (r : List ℕ) (limit : ℕ) → ¬ IsTrouble r limit NoMemory
no_memory_no_trouble r limit h = elim h [ ]

pub text_in-more : (r s : List ℕ) → 4 ≤ length r → text_in (r ++ s) ≡ take (told_length r) (drop 4 r ++ s)
text_in-more r s le =
    let long = length-take 4 r in
    let parts : r ++ s ≡ take 4 r ++ (drop 4 r ++ s) = ap (λ x. x ++ s) (sym (take-append-drop 4 r)) ∙ append_assoc (take 4 r) (drop 4 r) s in
    let front : told_length r ≡ told_length (take 4 r) = ap told_length (sym (take-append-drop 4 r)) ∙ told-append (take 4 r) (drop 4 r) (omega arith) in
    ap text_in parts ∙ text_in-append (take 4 r) (drop 4 r ++ s) (omega arith) ∙ ap (λ n. take n (drop 4 r ++ s)) (sym front)

-- the text so far, and what comes after it
text_in-longer : (r s : List ℕ) → 4 ≤ length r → (x : List ℕ) × (text_in (r ++ s) ≡ text_in r ++ x)
text_in-longer r s le = (drop (length (take (told_length r) (drop 4 r))) (take (told_length r) (drop 4 r ++ s)), text_in-more r s le ∙ sym (take-append-drop (length (take (told_length r) (drop 4 r))) (take (told_length r) (drop 4 r ++ s))) ∙ ap (λ y. y ++ drop (length (take (told_length r) (drop 4 r))) (take (told_length r) (drop 4 r ++ s))) front)
  where
    front : take (length (take (told_length r) (drop 4 r))) (take (told_length r) (drop 4 r ++ s)) ≡ take (told_length r) (drop 4 r)
    front =
        let long = length-take (told_length r) (drop 4 r) in
        let n : length (take (told_length r) (drop 4 r)) ≤ length (drop 4 r) = omega arith in
        take-take (length (take (told_length r) (drop 4 r))) (told_length r) (drop 4 r ++ s) (omega arith) ∙ take-append-le (length (take (told_length r) (drop 4 r))) (drop 4 r) s n ∙ sym (take-take (length (take (told_length r) (drop 4 r))) (told_length r) (drop 4 r) (omega arith)) ∙ take_all (length (take (told_length r) (drop 4 r))) (take (told_length r) (drop 4 r)) (omega arith)

-- Trouble stays, whatever follows.
pub trouble-append : (r s : List ℕ) (limit : ℕ) (f : FrameFault) → IsTrouble r limit f → IsTrouble (r ++ s) limit f
trouble-append r s limit (TooLong n) (too_long le is more) = too_long (omega (arith, length-append r s)) (is ∙ sym (told-append r s le)) more
trouble-append r s limit (BadJson f) (bad_text le within h) =
    let (x, e) = text_in-longer r s le in
    bad_text (omega (arith, length-append r s)) (omega (arith, told-append r s le)) (let P : List ℕ → Type 0 = λ y. IsFault y f in subst P (sym e) (append_fault (text_in r) x f h))
trouble-append r s limit (BadJson f) (cut_text le within all h) =
    let long = length-take (told_length r) (drop 4 r) in
    let same : text_in (r ++ s) ≡ text_in r = text_in-more r s le ∙ take-append-le (told_length r) (drop 4 r) s (omega arith) in
    cut_text (omega (arith, length-append r s)) (omega (arith, told-append r s le)) (ap length same ∙ all ∙ sym (told-append r s le)) (let P : List ℕ → Type 0 = λ y. IsUnfinished y f in subst P (sym same) h)
trouble-append r s limit NoMemory h = elim h [ ]

-- Bytes in trouble begin with no frame.
pub trouble_no_frame : (r : List ℕ) (limit : ℕ) (f : FrameFault) → limit < 2 ^ 32 → IsTrouble r limit f → (i : ℕ) (t : List ℕ) → ¬ IsFrame limit (take i r) t
trouble_no_frame r limit f small h i t fr = no f h
  where
    text : text_in r ≡ t
    text = ap text_in (sym (take-append-drop i r)) ∙ frame-text_in limit (take i r) t (drop i r) small fr

    tells : told_length r ≡ length t
    tells = let long = frame-length limit (take i r) t fr in ap told_length (sym (take-append-drop i r)) ∙ told-append (take i r) (drop i r) (omega arith) ∙ frame-told limit (take i r) t small fr

    no : (g : FrameFault) → ¬ IsTrouble r limit g
    no (TooLong n) (too_long le is more) = let fits = fr.fits in omega (arith, tells)
    no (BadJson g) (bad_text le within k) = let P : List ℕ → Type 0 = λ y. IsFault y g in no_fault t g (whole_prefix t fr.json) (subst P text k)
    no (BadJson g) (cut_text le within all k) = k.faulty (let P : List ℕ → Type 0 = IsJsonText in subst P (sym text) fr.json)
    no NoMemory k = elim k [ ]

-- What is under way

pub short_under_way : (r : List ℕ) (limit : ℕ) → length r < 4 → IsUnderWay r limit
short_under_way r limit short = record {
  no_trouble = λ f. short_no_trouble r limit f short;
  no_frame = λ i t h. omega (arith, frame-length limit (take i r) t h, length-take i r);
}

pub text_under_way : (limit : ℕ) (head u : List ℕ) → limit < 2 ^ 32 → length head ≡ 4 → length u < told_length head → told_length head ≤ limit → IsPrefixOfJson u → IsUnderWay (head ++ u) limit
text_under_way limit head u small e short within p = record { no_trouble = none; no_frame = no_whole }
  where
    here : text_in (head ++ u) ≡ u
    here = text_in-append head u e ∙ take_all (told_length head) u (omega arith)

    tells : told_length (head ++ u) ≡ told_length head
    tells = told-append head u (omega arith)

    none : (f : FrameFault) → ¬ IsTrouble (head ++ u) limit f
    none (TooLong n) (too_long le is more) = omega (arith, tells)
    none (BadJson f) (bad_text le w h) = let P : List ℕ → Type 0 = λ x. IsFault x f in no_fault u f p (subst P here h)
    none (BadJson f) (cut_text le w all h) = omega (arith, tells, ap length here)
    none NoMemory h = elim h [ ]

    no_whole : (i : ℕ) (t : List ℕ) → ¬ IsFrame limit (take i (head ++ u)) t
    no_whole i t fr =
        let long = frame-length limit (take i (head ++ u)) t fr in
        let said : told_length (head ++ u) ≡ length t = ap told_length (sym (take-append-drop i (head ++ u))) ∙ told-append (take i (head ++ u)) (drop i (head ++ u)) (omega arith) ∙ frame-told limit (take i (head ++ u)) t small fr in
        omega (arith, tells, length-take i (head ++ u), length-append head u)
