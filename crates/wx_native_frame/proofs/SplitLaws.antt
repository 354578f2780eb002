-- A stream has one split, and steps make it.
use Rattle.std.proofs.Common.{◌≡◌, ℕ, ◌<◌, ◌≤◌, ◌^◌, List, [], ◌∷◌, ◌++◌, length, take, drop, refl, ap, ◌∙◌, sym, subst, arith, inl, inr, append_assoc}
use Rattle.std.proofs.lemmas.Bool.{cases_lt}
use Rattle.std.proofs.lemmas.List.{append-nil}
use Rattle.wx_json.specs.Text.{IsJsonText, IsFault, IsUnfinished}
use Rattle.wx_json.specs.declared.JsonFault.{JsonFault}
use Rattle.wx_json.specs.declared.JsonKind.{JsonKind}
use Rattle.wx_native_frame.specs.Frames.{frame, IsFrame, text_in, IsTrouble, EndsFrame}
use Rattle.wx_native_frame.specs.Frames.{too_long, bad_text, cut_text}
use Rattle.wx_native_frame.specs.Splits.{frames, AllFit, IsSplit}
use Rattle.wx_native_frame.specs.declared.FrameFault.{FrameFault}
use Rattle.wx_native_frame.specs.declared.FrameFault.TheVariants.{TooLong, BadJson, NoMemory}
use Rattle.wx_native_frame.proofs.Lengths.{drop_seam, take_seam, append_take-drop}
use Rattle.wx_native_frame.proofs.FrameLaws.{no_fault, frame-text, frame-text_in, short_under_way, trouble_no_frame}

-- Steps

frames-append : (ts us : List (List ℕ)) → frames (ts ++ us) ≡ frames ts ++ frames us
frames-append [] us = refl
frames-append (t ∷ ts) us = ap (λ x. frame t ++ x) (frames-append ts us) ∙ sym (append_assoc (frame t) (frames ts) (frames us))

AllFit-append : (limit : ℕ) (ts : List (List ℕ)) (t : List ℕ) → AllFit limit ts → IsJsonText t → length t ≤ limit → AllFit limit (ts ++ t ∷ [])
AllFit-append limit [] t h j le = (j, le, tt)
AllFit-append limit (u ∷ ts) t h j le = (h.0, h.1, AllFit-append limit ts t h.2 j le)

pub split_nothing : (limit : ℕ) → IsSplit limit [] [] []
split_nothing limit = record { fit = tt; stream_is = refl; no_frame = (short_under_way [] limit (omega arith)).no_frame }

pub split_frame : (limit : ℕ) (s : List ℕ) (ts : List (List ℕ)) (r b t : List ℕ) → IsSplit limit s ts r → IsFrame limit (r ++ b) t → IsSplit limit (s ++ b) (ts ++ t ∷ []) []
split_frame limit s ts r b t h fr = record {
  fit = AllFit-append limit ts t h.fit fr.json fr.fits;
  stream_is = ap (λ x. x ++ b) h.stream_is ∙ append_assoc (frames ts) r b ∙ ap (λ x. frames ts ++ x) (fr.bytes_are ∙ sym (append-nil (frame t))) ∙ sym (frames-append ts (t ∷ [])) ∙ sym (append-nil (frames (ts ++ t ∷ [])));
  no_frame = (short_under_way [] limit (omega arith)).no_frame;
}

pub split_rest : (limit : ℕ) (s : List ℕ) (ts : List (List ℕ)) (r b : List ℕ) → IsSplit limit s ts r → ((i : ℕ) (t : List ℕ) → ¬ IsFrame limit (take i (r ++ b)) t) → IsSplit limit (s ++ b) ts (r ++ b)
split_rest limit s ts r b h none = record { fit = h.fit; stream_is = ap (λ x. x ++ b) h.stream_is ∙ append_assoc (frames ts) r b; no_frame = none }

-- One split

frame_front : (limit : ℕ) (r t x : List ℕ) → r ≡ frame t ++ x → IsJsonText t → length t ≤ limit → IsFrame limit (take (length (frame t)) r) t
frame_front limit r t x e j le = record { json = j; fits = le; bytes_are = ap (take (length (frame t))) e ∙ take_seam (length (frame t)) (frame t) x refl }

one_parts : (limit : ℕ) (ts us : List (List ℕ)) (r q : List ℕ) → limit < 2 ^ 32 → AllFit limit ts → AllFit limit us → frames ts ++ r ≡ frames us ++ q → ((i : ℕ) (t : List ℕ) → ¬ IsFrame limit (take i r) t) → ((i : ℕ) (t : List ℕ) → ¬ IsFrame limit (take i q) t) → (ts ≡ us) × (r ≡ q)
one_parts limit [] [] r q small f g e nr nq = (refl, e)
one_parts limit [] (u ∷ us) r q small f g e nr nq = absurd (nr (length (frame u)) u (frame_front limit r u (frames us ++ q) (e ∙ append_assoc (frame u) (frames us) q) g.0 g.1))
one_parts limit (t ∷ ts) [] r q small f g e nr nq = absurd (nq (length (frame t)) t (frame_front limit q t (frames ts ++ r) (sym e ∙ append_assoc (frame t) (frames ts) r) f.0 f.1))
one_parts limit (t ∷ ts) (u ∷ us) r q small f g e nr nq =
    let parts : frame t ++ (frames ts ++ r) ≡ frame u ++ (frames us ++ q) = sym (append_assoc (frame t) (frames ts) r) ∙ e ∙ append_assoc (frame u) (frames us) q in
    let ft : IsFrame limit (frame t) t = record { json = f.0; fits = f.1; bytes_are = refl } in
    let fu : IsFrame limit (frame u) u = record { json = g.0; fits = g.1; bytes_are = refl } in
    let same : t ≡ u = sym (frame-text_in limit (frame t) t (frames ts ++ r) small ft) ∙ ap text_in parts ∙ frame-text_in limit (frame u) u (frames us ++ q) small fu in
    let long : length (frame t) ≡ length (frame u) = ap (λ x. length (frame x)) same in
    let behind : frames ts ++ r ≡ frames us ++ q = sym (drop_seam (length (frame u)) (frame t) (frames ts ++ r) long) ∙ ap (drop (length (frame u))) parts ∙ drop_seam (length (frame u)) (frame u) (frames us ++ q) refl in
    let rest = one_parts limit ts us r q small f.2 g.2 behind nr nq in
    (λ i. same i ∷ rest.0 i, rest.1)

pub one_split : (limit : ℕ) (s : List ℕ) (ts us : List (List ℕ)) (r q : List ℕ) → limit < 2 ^ 32 → IsSplit limit s ts r → IsSplit limit s us q → (ts ≡ us) × (r ≡ q)
one_split limit s ts us r q small h k = one_parts limit ts us r q small h.fit k.fit (sym h.stream_is ∙ k.stream_is) h.no_frame k.no_frame

-- One answer

pub one_end : (limit : ℕ) (b p : List ℕ) (i j : ℕ) (t u : List ℕ) → EndsFrame limit b p i t → EndsFrame limit b p j u → (i ≡ j) × (t ≡ u)
one_end limit b p i j t u h k = (same, sym (frame-text limit (b ++ take i p) t h.frame) ∙ ap (λ n. drop 4 (b ++ take n p)) same ∙ frame-text limit (b ++ take j p) u k.frame)
  where
    same : i ≡ j
    same = elim (cases_lt i j) [ inl lt ↦ absurd (k.least i t lt h.frame) | inr le ↦ elim (cases_lt j i) [ inl lt ↦ absurd (h.least j u lt k.frame) | inr more ↦ omega arith ] ]

pub end_no_trouble : (limit : ℕ) (b p : List ℕ) (i : ℕ) (t : List ℕ) (f : FrameFault) → limit < 2 ^ 32 → EndsFrame limit b p i t → ¬ IsTrouble (b ++ p) limit f
end_no_trouble limit b p i t f small h k =
    let front : take (length (b ++ take i p)) (b ++ p) ≡ b ++ take i p = ap (take (length (b ++ take i p))) (sym (append_take-drop b p i)) ∙ take_seam (length (b ++ take i p)) (b ++ take i p) (drop i p) refl in
    let F : List ℕ → Type 0 = λ x. IsFrame limit x t in
    trouble_no_frame (b ++ p) limit f small k (length (b ++ take i p)) t (subst F (sym front) h.frame)

one_end_fault : (u : List ℕ) (f g : JsonFault) → IsUnfinished u f → IsUnfinished u g → f ≡ g
one_end_fault u f g h k = let make : ℕ → JsonKind → JsonFault = λ p k. record { place = p; kind = k } in ap (λ p. make p f.kind) (h.place ∙ sym k.place) ∙ ap (make g.place) (h.kind ∙ sym k.kind)

pub one_trouble : ((u : List ℕ) (f g : JsonFault) → IsFault u f → IsFault u g → f ≡ g) → (r : List ℕ) (limit : ℕ) (f g : FrameFault) → IsTrouble r limit f → IsTrouble r limit g → f ≡ g
one_trouble one r limit (TooLong n) (TooLong m) (too_long a b c) (too_long d e f) = ap TooLong (b ∙ sym e)
one_trouble one r limit (TooLong n) (BadJson g) (too_long a b c) (bad_text d e f) = absurd (omega arith)
one_trouble one r limit (TooLong n) (BadJson g) (too_long a b c) (cut_text d e f h) = absurd (omega arith)
one_trouble one r limit (BadJson g) (TooLong n) (bad_text d e f) (too_long a b c) = absurd (omega arith)
one_trouble one r limit (BadJson g) (TooLong n) (cut_text d e f h) (too_long a b c) = absurd (omega arith)
one_trouble one r limit (BadJson f) (BadJson g) (bad_text a b h) (bad_text c d k) = ap BadJson (one (text_in r) f g h k)
one_trouble one r limit (BadJson f) (BadJson g) (bad_text a b h) (cut_text c d e k) = absurd (no_fault (text_in r) f k.before h)
one_trouble one r limit (BadJson f) (BadJson g) (cut_text a b e h) (bad_text c d k) = absurd (no_fault (text_in r) g h.before k)
one_trouble one r limit (BadJson f) (BadJson g) (cut_text a b e h) (cut_text c d i k) = ap BadJson (one_end_fault (text_in r) f g h k)
one_trouble one r limit NoMemory g h k = elim h [ ]
one_trouble one r limit f NoMemory h k = elim k [ ]
