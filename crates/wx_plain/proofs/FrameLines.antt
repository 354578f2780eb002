-- The lines of frames, written one behind the other.
use Rattle.std.proofs.Common.{◌≡◌, ◌∙◌, ◌<◌, ◌≤◌, ◌+◌, ◌^◌, ℕ, suc, zero, List, [], ◌∷◌, ◌++◌, length, take, drop, refl, sym, ap, subst, arith, append-nil, append_assoc, length-append, length-drop, lit<}
use Rattle.std.proofs.lemmas.List.{take-append-drop}
use Rattle.std.proofs.Math.Seq.{take-add}
use Rattle.wx_native_frame.proofs.FrameLaws.{frame-length}
use Rattle.wx_native_frame.specs.declared.FrameFault.{FrameFault}
use Rattle.wx_native_frame.specs.declared.FrameFault.TheVariants as fault
use Rattle.wx_native_frame.specs.Frames.{IsFrame, IsTrouble, IsUnderWay}
use Rattle.wx_native_frame.specs.Splits.{IsSplit}
use Rattle.wx_plain.specs.declared.frames.FramesEnd.{FramesEnd}
use Rattle.wx_plain.specs.declared.frames.FramesEnd.TheVariants.{Whole, TooLong, BadJson, Cut}
use Rattle.wx_plain.specs.Framing.{frame_limit, frame_line, frame_lines, EndsBy}
use Rattle.wx_plain.specs.Writing.{IsWritten, AllWritten}

-- what `one_split` ensures of a stream's start, of a frame more, and of a rest
abbrev pub StartLaw : Type 0
StartLaw = (limit : ℕ) → IsSplit limit [] [] []

abbrev pub FrameLaw : Type 0
FrameLaw = (limit : ℕ) (stream : List ℕ) (texts : List (List ℕ)) (rest more t : List ℕ) → IsSplit limit stream texts rest → IsFrame limit (rest ++ more) t → IsSplit limit (stream ++ more) (texts ++ t ∷ []) []

abbrev pub WholeLaw : Type 0
WholeLaw = (limit : ℕ) (stream : List ℕ) (texts : List (List ℕ)) (rest more : List ℕ) → IsSplit limit stream texts rest → IsUnderWay (rest ++ more) limit → IsSplit limit (stream ++ more) texts (rest ++ more)

abbrev pub FaultLaw : Type 0
FaultLaw = (limit : ℕ) (stream : List ℕ) (texts : List (List ℕ)) (rest more : List ℕ) (f : FrameFault) → limit < 2 ^ 32 → IsSplit limit stream texts rest → IsTrouble (rest ++ more) limit f → IsSplit limit (stream ++ more) texts (rest ++ more)

lines_snoc : (k m : ℕ) (texts : List (List ℕ)) (t : List ℕ) → m ≡ k + length texts → frame_lines k (texts ++ t ∷ []) ≡ frame_lines k texts ++ frame_line m t
lines_snoc k m [] t is = let same : m ≡ k = omega arith in rw same (append-nil (frame_line k t))
lines_snoc k m (u ∷ us) t is =
    ap (λ more. frame_line k u ++ more) (lines_snoc (suc k) m us t (omega arith)) ∙ sym (append_assoc (frame_line k u) (frame_lines (suc k) us) (frame_line m t))

pub written_none : StartLaw → (bytes old : List ℕ) → IsWritten bytes 0 0 old old
written_none start bytes old = record { inside = omega arith; texts = []; split = start frame_limit; count_is = refl; few = omega arith; lines = sym (append-nil old) }

-- a frame has a byte
pub frame_bytes : (used : ℕ) (rest t : List ℕ) → IsFrame frame_limit (take used rest) t → 0 < used
frame_bytes zero rest t is =
    let size : 4 + length t ≡ 0 = sym (frame-length frame_limit [] t is) in
    absurd (omega arith)
frame_bytes (suc used) rest t is = omega arith

pub written_more : FrameLaw → (bytes old new newer t : List ℕ) (at n used : ℕ) → IsWritten bytes at n old new → IsFrame frame_limit (take used (drop at bytes)) t → used ≤ length (drop at bytes) → newer ≡ new ++ frame_line n t
    → IsWritten bytes (at + used) (n + 1) old newer
written_more law bytes old new newer t at n used w is inside line =
    let some : 0 < used = frame_bytes used (drop at bytes) t is in
    let size = length-drop at bytes in
    let within : at ≤ length bytes = w.inside in
    let few : n ≤ at = w.few in
    let count : n ≡ length w.texts = w.count_is in
    record {
      inside = omega arith;
      texts = w.texts ++ t ∷ [];
      split = subst (λ (s : List ℕ). IsSplit frame_limit s (w.texts ++ t ∷ []) []) (sym (take-add at used bytes)) (law frame_limit (take at bytes) w.texts [] (take used (drop at bytes)) t w.split is);
      count_is = simp length-append (omega arith);
      few = omega arith;
      lines = line ∙ ap (λ so_far. so_far ++ frame_line n t) w.lines ∙ append_assoc old (frame_lines 0 w.texts) (frame_line n t) ∙ ap (λ more. old ++ more) (sym (lines_snoc 0 n w.texts t (omega arith)));
    }

pub written_all : WholeLaw → FaultLaw → (bytes old new newer : List ℕ) (at n : ℕ) (end : FramesEnd) → IsWritten bytes at n old new → EndsBy (drop at bytes) end → newer ≡ new → AllWritten bytes old newer end
written_all whole trouble bytes old new newer at n end w ends same =
    record { texts = w.texts; rest = drop at bytes; split = split_of end ends; ends = ends; lines = same ∙ w.lines }
  where
    in_all : IsSplit frame_limit (take at bytes ++ drop at bytes) w.texts (drop at bytes) → IsSplit frame_limit bytes w.texts (drop at bytes)
    in_all split = subst (λ (s : List ℕ). IsSplit frame_limit s w.texts (drop at bytes)) (take-append-drop at bytes) split

    split_of : (end : FramesEnd) → EndsBy (drop at bytes) end → IsSplit frame_limit bytes w.texts (drop at bytes)
    split_of Whole e =
        let all : take at bytes ≡ bytes = sym (append-nil (take at bytes)) ∙ ap (λ more. take at bytes ++ more) (sym e) ∙ take-append-drop at bytes in
        subst (λ (s : List ℕ). IsSplit frame_limit s w.texts (drop at bytes)) all (subst (λ (r : List ℕ). IsSplit frame_limit (take at bytes) w.texts r) (sym e) w.split)
    split_of (TooLong len) e = in_all (trouble frame_limit (take at bytes) w.texts [] (drop at bytes) (fault.TooLong len) (lit< tt) w.split e)
    split_of (BadJson found) e = in_all (trouble frame_limit (take at bytes) w.texts [] (drop at bytes) (fault.BadJson found) (lit< tt) w.split e)
    split_of (Cut have) e = in_all (whole frame_limit (take at bytes) w.texts [] (drop at bytes) w.split e.2)

-- the same for a piece that is what stands from there on
pub written_frame : FrameLaw → (bytes piece old new newer t : List ℕ) (at n used : ℕ) → piece ≡ drop at bytes → IsWritten bytes at n old new → IsFrame frame_limit (take used piece) t → used ≤ length piece → newer ≡ new ++ frame_line n t
    → IsWritten bytes (at + used) (n + 1) old newer
written_frame law bytes piece old new newer t at n used piece_is w is inside line =
    written_more law bytes old new newer t at n used w (subst (λ (p : List ℕ). IsFrame frame_limit (take used p) t) piece_is is) (subst (λ (p : List ℕ). used ≤ length p) piece_is inside) line

pub written_end : WholeLaw → FaultLaw → (bytes piece old new newer : List ℕ) (at n : ℕ) (end : FramesEnd) → piece ≡ drop at bytes → IsWritten bytes at n old new → EndsBy piece end → newer ≡ new → AllWritten bytes old newer end
written_end whole trouble bytes piece old new newer at n end piece_is w ends same =
    written_all whole trouble bytes old new newer at n end w (subst (λ (p : List ℕ). EndsBy p end) piece_is ends) same
