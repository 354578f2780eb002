-- The four bytes of a length, and parts of lists.
use Rattle.std.proofs.Common.{◌≡◌, ℕ, ◌+◌, ◌-◌, ◌<◌, ◌≤◌, ◌^◌, List, ◌++◌, length, take, drop, get_or, min, ap, ◌∙◌, sym, arith, append_assoc, take-append-drop}
use Rattle.std.proofs.lemmas.Nat.{le_bytes_4}
use Rattle.std.proofs.lemmas.List.{take-take, take_min, drop-take}
use Rattle.std.proofs.Math.Seq.{take-append_seam, take-append-add, drop-append_seam}
use Rattle.byteorder.specs.Numbers.{little_from-append, little_number-reads_back, length-bytes_low_first}
use Rattle.wx_native_frame.specs.Frames.{length_bytes, told_length, text_in}

pub length-length_bytes : (n : ℕ) → length (length_bytes n) ≡ 4
unfolding length_bytes
length-length_bytes n = length-bytes_low_first 0 4 n

pub told-append : (a b : List ℕ) → 4 ≤ length a → told_length (a ++ b) ≡ told_length a
unfolding told_length
told-append a b le = little_from-append 4 a b le

pub told-length_bytes : (n : ℕ) (rest : List ℕ) → n < 2 ^ 32 → told_length (length_bytes n ++ rest) ≡ n
unfolding told_length length_bytes
told-length_bytes n rest small = little_number-reads_back 4 n rest small

-- Four bytes are those of the number that they tell.
pub length_bytes-told : (bs : List ℕ) → length bs ≡ 4 → ((i : ℕ) → get_or bs i 0 < 256) → length_bytes (told_length bs) ≡ bs
unfolding told_length length_bytes
length_bytes-told bs four small = le_bytes_4 bs (told_length bs) four small (omega arith)

pub drop_seam : (n : ℕ) (a b : List ℕ) → length a ≡ n → drop n (a ++ b) ≡ b
drop_seam n a b e = ap (λ k. drop k (a ++ b)) (sym e) ∙ drop-append_seam a b

pub take_seam : (n : ℕ) (a b : List ℕ) → length a ≡ n → take n (a ++ b) ≡ a
take_seam n a b e = ap (λ k. take k (a ++ b)) (sym e) ∙ take-append_seam a b

pub text_in-append : (head u : List ℕ) → length head ≡ 4 → text_in (head ++ u) ≡ take (told_length head) u
text_in-append head u e = ap (λ n. take n (drop 4 (head ++ u))) (told-append head u (omega arith)) ∙ ap (take (told_length head)) (drop_seam 4 head u e)

-- a part and the next part
pub take-add : (k i : ℕ) (p : List ℕ) → take k p ++ take i (drop k p) ≡ take (k + i) p
take-add k i p =
    let front : take k (take (k + i) p) ≡ take k p = take-take k (k + i) p (omega arith) in
    let back : drop k (take (k + i) p) ≡ take i (drop k p) = drop-take k i p in
    ap (λ a. a ++ take i (drop k p)) (sym front) ∙ ap (λ b. take k (take (k + i) p) ++ b) (sym back) ∙ take-append-drop k (take (k + i) p)

pub append_take-add : (b p : List ℕ) (k i : ℕ) → (b ++ take k p) ++ take i (drop k p) ≡ b ++ take (k + i) p
append_take-add b p k i = append_assoc b (take k p) (take i (drop k p)) ∙ ap (λ x. b ++ x) (take-add k i p)

pub append_take-drop : (b p : List ℕ) (k : ℕ) → (b ++ take k p) ++ drop k p ≡ b ++ p
append_take-drop b p k = append_assoc b (take k p) (drop k p) ∙ ap (λ x. b ++ x) (take-append-drop k p)

-- as many bytes as a text of n bytes still takes
pub take_reach : (n used : ℕ) (u piece : List ℕ) → length u ≤ n → used ≡ min (n - length u) (length piece) → take n (u ++ piece) ≡ u ++ take used piece
take_reach n used u piece le is =
    let whole : n ≡ length u + (n - length u) = omega arith in
    ap (λ k. take k (u ++ piece)) whole ∙ take-append-add u piece (n - length u) ∙ ap (λ x. u ++ x) (sym (take_min (n - length u) piece) ∙ ap (λ k. take k piece) (sym is))
