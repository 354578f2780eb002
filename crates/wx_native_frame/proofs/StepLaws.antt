-- What a step may answer.
use Rattle.std.proofs.Common.{◌≡◌, ℕ, ◌+◌, ◌-◌, ◌<◌, ◌≤◌, ◌^◌, List, ◌++◌, length, take, drop, min, refl, ap, ◌∙◌, sym, subst, arith, inl, inr, append_assoc, length-append, length-drop, take-append-drop}
use Rattle.std.specs.Prelude.{◌⊎◌}
use Rattle.std.proofs.lemmas.List.{take-append-le, take-take, take_all, length-take, append-nil}
use Rattle.std.proofs.Math.Seq.{take-append-add}
use Rattle.std.proofs.lemmas.Bool.{cases_lt}
use Rattle.wx_json.specs.Text.{IsJsonText, IsPrefixOfJson, IsFault, IsUnfinished, IsFaultOrEnd, IsEndFault}
use Rattle.wx_json.specs.declared.JsonFault.{JsonFault}
use Rattle.wx_json.specs.declared.JsonKind.{JsonKind}
use Rattle.wx_json.specs.declared.JsonKind.TheVariants.{Syntax, Utf8, TooDeep, Ends}
use Rattle.wx_native_frame.specs.Frames.{frame, IsFrame, length_bytes, told_length, text_in, IsTrouble, IsTroubleFirst, IsUnderWay, EndsFrame, StopsAt}
use Rattle.wx_native_frame.specs.Frames.{bad_text, cut_text}
use Rattle.wx_native_frame.specs.declared.FrameFault.{FrameFault}
use Rattle.wx_native_frame.specs.declared.FrameFault.TheVariants.{BadJson, NoMemory}
use Rattle.wx_native_frame.proofs.Lengths.{told-append, text_in-append, append_take-add, append_take-drop}
use Rattle.wx_native_frame.proofs.FrameLaws.{take_prefix, cut_fault, fault_behind, one_length, short_no_trouble, no_memory_no_trouble, trouble-append, short_under_way, text_under_way}

-- A frame ends

pub ends_frame : (limit : ℕ) (bytes piece t : List ℕ) (used : ℕ) → limit < 2 ^ 32 → used ≤ length piece → IsFrame limit (bytes ++ take used piece) t → EndsFrame limit bytes piece used t
ends_frame limit bytes piece t used small le fr = record { inside = le; frame = fr; least = none }
  where
    none : (i : ℕ) (u : List ℕ) → i < used → ¬ IsFrame limit (bytes ++ take i piece) u
    none i u lt h =
        let on : i + (used - i) ≡ used = omega arith in
        let whole : (bytes ++ take i piece) ++ take (used - i) (drop i piece) ≡ bytes ++ take used piece = append_take-add bytes piece i (used - i) ∙ ap (λ k. bytes ++ take k piece) on in
        let F : List ℕ → Type 0 = λ b. IsFrame limit b t in
        let k = one_length limit (bytes ++ take i piece) (take (used - i) (drop i piece)) u t small h (subst F (sym whole) fr) in
        omega (arith, k, length-take (used - i) (drop i piece), length-drop i piece)

pub text_ends : (limit : ℕ) (head u piece t : List ℕ) (used : ℕ) → limit < 2 ^ 32 → used ≤ length piece → length_bytes (length t) ≡ head → length t ≤ limit → IsJsonText t → t ≡ u ++ take used piece → EndsFrame limit (head ++ u) piece used t
text_ends limit head u piece t used small le tells fits j is = ends_frame limit (head ++ u) piece t used small le (record { json = j; fits = fits; bytes_are = parts })
  where
    parts : (head ++ u) ++ take used piece ≡ frame t
    parts = append_assoc head u (take used piece) ∙ ap (λ x. head ++ x) (sym is) ∙ ap (λ h. h ++ t) (sym tells)

-- The text goes on

pub record GoesOn (limit : ℕ) (bytes piece : List ℕ) (used : ℕ) (left : List ℕ) : Type 0 where
  pub all : used ≡ length piece
  pub left_is : left ≡ bytes ++ piece
  pub under_way : IsUnderWay left limit

pub text_goes_on : (limit : ℕ) (head u piece : List ℕ) (used : ℕ) → limit < 2 ^ 32 → length head ≡ 4 → told_length head ≤ limit → used ≡ min (told_length head - length u) (length piece) → length (u ++ take used piece) < told_length head → IsPrefixOfJson (u ++ take used piece) → GoesOn limit (head ++ u) piece used (head ++ (u ++ take used piece))
text_goes_on limit head u piece used small four within is short good = record {
  all = all;
  left_is = sym (append_assoc head u (take used piece)) ∙ ap (λ x. (head ++ u) ++ x) (take_all used piece (omega (arith, all)));
  under_way = text_under_way limit head (u ++ take used piece) small four short within good;
}
  where
    all : used ≡ length piece
    all = omega (arith, length-append u (take used piece), length-take used piece)

-- Trouble

pub stops_at : (limit : ℕ) (bytes piece left : List ℕ) (upto : ℕ) (f : FrameFault) → left ≡ bytes ++ take upto piece → IsTrouble left limit f → ((i : ℕ) → i < upto → IsUnderWay (bytes ++ take i piece) limit) → StopsAt limit bytes piece f left
stops_at limit bytes piece left upto f is h before =
    let P : List ℕ → Type 0 = λ x. IsTrouble x limit f in
    record { trouble = subst P (append_take-drop bytes piece upto) (trouble-append (bytes ++ take upto piece) (drop upto piece) limit f (subst P is h)); upto = upto; left_is = is; kept = h; least = λ i g lt k. (before i lt).no_trouble g k }

pub stops_already : (limit : ℕ) (bytes piece : List ℕ) (f : FrameFault) → IsTrouble bytes limit f → StopsAt limit bytes piece f bytes
stops_already limit bytes piece f h = stops_at limit bytes piece bytes 0 f (sym (append-nil bytes)) h (λ i lt. absurd (omega arith))

pub stops_not_for_memory : (limit : ℕ) (bytes piece left : List ℕ) → ¬ StopsAt limit bytes piece NoMemory left
stops_not_for_memory limit bytes piece left h = no_memory_no_trouble left limit h.kept

-- bytes under way have no trouble, nor has any front of them
pub under_way_first : (r : List ℕ) (limit : ℕ) → IsUnderWay r limit → IsTroubleFirst r limit
under_way_first r limit u i f lt h =
    let P : List ℕ → Type 0 = λ x. IsTrouble x limit f in
    u.no_trouble f (subst P (take-append-drop i r) (trouble-append (take i r) (drop i r) limit f h))

-- where no shorter front of the bytes in hand has trouble, none of what is left has
pub stops_first : (limit : ℕ) (bytes piece left : List ℕ) (f : FrameFault) → StopsAt limit bytes piece f left → IsTroubleFirst bytes limit → IsTroubleFirst left limit
stops_first limit bytes piece left f h first i g lt t = elim (cases_lt i (length bytes)) [
  | inl less ↦ first i g less (T (ap (take i) h.left_is ∙ take-append-le i bytes (take h.upto piece) (omega arith)) t)
  | inr le ↦ h.least (i - length bytes) g (omega (arith, long)) (T (behind le) t)
]
  where
    T : {x y : List ℕ} → x ≡ y → IsTrouble x limit g → IsTrouble y limit g
    T e = let P : List ℕ → Type 0 = λ x. IsTrouble x limit g in subst P e

    long : length left ≡ length bytes + min h.upto (length piece)
    long = ap length h.left_is ∙ length-append bytes (take h.upto piece) ∙ ap (λ n. length bytes + n) (length-take h.upto piece)

    behind : length bytes ≤ i → take i left ≡ bytes ++ take (i - length bytes) piece
    behind le =
        let at : i ≡ length bytes + (i - length bytes) = omega arith in
        ap (take i) h.left_is ∙ ap (λ n. take n (bytes ++ take h.upto piece)) at ∙ take-append-add bytes (take h.upto piece) (i - length bytes) ∙ ap (λ x. bytes ++ x) (shorter (omega (arith, long)))
      where
        shorter : i - length bytes ≤ h.upto → take (i - length bytes) (take h.upto piece) ≡ take (i - length bytes) piece
        shorter less = take-take (i - length bytes) h.upto piece less

-- a front of the text so far
front_is : (u piece : List ℕ) (used i : ℕ) → i ≤ used → take (length u + i) (u ++ take used piece) ≡ u ++ take i piece
front_is u piece used i le = take-append-add u (take used piece) i ∙ ap (λ x. u ++ x) (take-take i used piece le)

-- before the place that stops it the text is under way
goes_before : (limit : ℕ) (head u piece : List ℕ) (used i n : ℕ) → limit < 2 ^ 32 → length head ≡ 4 → told_length head ≤ limit → used ≤ length piece → i ≤ used → length u + i < told_length head → length u + i ≤ n → IsPrefixOfJson (take n (u ++ take used piece)) → IsUnderWay ((head ++ u) ++ take i piece) limit
goes_before limit head u piece used i n small four within le lt short before good =
    let x : List ℕ = u ++ take used piece in
    let P : List ℕ → Type 0 = IsPrefixOfJson in
    let W : List ℕ → Type 0 = λ b. IsUnderWay b limit in
    let start : IsPrefixOfJson (u ++ take i piece) = subst P (take-take (length u + i) n x before ∙ front_is u piece used i lt) (take_prefix (take n x) (length u + i) good) in
    subst W (sym (append_assoc head u (take i piece))) (text_under_way limit head (u ++ take i piece) small four (omega (arith, length-append u (take i piece), length-take i piece)) within start)

text_trouble : (limit : ℕ) (head x : List ℕ) (f : JsonFault) → length head ≡ 4 → told_length head ≤ limit → length x ≤ told_length head → IsFault x f → IsTrouble (head ++ x) limit (BadJson f)
text_trouble limit head x f four within le h =
    let here : text_in (head ++ x) ≡ x = text_in-append head x four ∙ take_all (told_length head) x le in
    let P : List ℕ → Type 0 = λ y. IsFault y f in
    bad_text (omega (arith, length-append head x)) (omega (arith, told-append head x (omega arith))) (subst P (sym here) h)

cut_trouble : (limit : ℕ) (head x : List ℕ) (f : JsonFault) → length head ≡ 4 → told_length head ≤ limit → length x ≡ told_length head → IsUnfinished x f → IsTrouble (head ++ x) limit (BadJson f)
cut_trouble limit head x f four within all h =
    let here : text_in (head ++ x) ≡ x = text_in-append head x four ∙ take_all (told_length head) x (omega arith) in
    let P : List ℕ → Type 0 = λ y. IsUnfinished y f in
    cut_text (omega (arith, length-append head x)) (omega (arith, told-append head x (omega arith))) (ap length here ∙ all ∙ sym (told-append head x (omega arith))) (subst P (sym here) h)

pub text_stops : (limit : ℕ) (head u piece : List ℕ) (used : ℕ) (f : JsonFault) → limit < 2 ^ 32 → length head ≡ 4 → told_length head ≤ limit → length u < told_length head → used ≡ min (told_length head - length u) (length piece) → IsPrefixOfJson u → IsFault (u ++ take used piece) f → StopsAt limit (head ++ u) piece (BadJson f) (head ++ take (f.place + 1) (u ++ take used piece))
text_stops limit head u piece used f small four within short is good h =
    stops_at limit (head ++ u) piece (head ++ take (f.place + 1) x) upto (BadJson f) left (text_trouble limit head (take (f.place + 1) x) f four within (omega (arith, inside, length-take (f.place + 1) x)) (cut_fault x f h)) (λ i lt. goes_before limit head u piece used i f.place small four within (omega arith) (omega (arith, inside, on)) (omega (arith, inside, on)) (omega (arith, on)) h.before)
  where
    x : List ℕ
    x = u ++ take used piece

    le : length u ≤ f.place
    le = fault_behind u (take used piece) f good h

    inside : f.place < length u + used
    inside = let i = h.inside in omega (arith, length-append u (take used piece), length-take used piece)

    upto : ℕ
    upto = f.place + 1 - length u

    on : f.place + 1 ≡ length u + upto
    on = omega (arith, le)

    left : head ++ take (f.place + 1) x ≡ (head ++ u) ++ take upto piece
    left = ap (λ n. head ++ take n x) on ∙ ap (λ y. head ++ y) (front_is u piece used upto (omega (arith, inside, on))) ∙ sym (append_assoc head u (take upto piece))

end_fault_cases : (k : JsonKind) (b : List ℕ) (f : JsonFault) → IsFaultOrEnd k b f → IsFault b f ⊎ IsUnfinished b f
end_fault_cases Ends b f h = inr h
end_fault_cases Syntax b f h = inl h
end_fault_cases Utf8 b f h = inl h
end_fault_cases TooDeep b f h = inl h

pub text_cut : (limit : ℕ) (head u piece : List ℕ) (used : ℕ) (f : JsonFault) → limit < 2 ^ 32 → length head ≡ 4 → told_length head ≤ limit → used ≤ length piece → length (u ++ take used piece) ≡ told_length head → IsPrefixOfJson (u ++ take used piece) → IsEndFault (u ++ take used piece) f → StopsAt limit (head ++ u) piece (BadJson f) (head ++ (u ++ take used piece))
text_cut limit head u piece used f small four within le all good h =
    stops_at limit (head ++ u) piece (head ++ x) used (BadJson f) (sym (append_assoc head u (take used piece))) trouble (λ i lt. goes_before limit head u piece used i (length x) small four within le (omega arith) (omega (arith, long)) (omega (arith, long)) (let P : List ℕ → Type 0 = IsPrefixOfJson in subst P (sym (take_all (length x) x (omega arith))) good))
  where
    x : List ℕ
    x = u ++ take used piece

    long : length x ≡ length u + used
    long = omega (arith, length-append u (take used piece), length-take used piece)

    trouble : IsTrouble (head ++ x) limit (BadJson f)
    trouble = elim (end_fault_cases f.kind x f h) [ inl k ↦ text_trouble limit head x f four within (omega arith) k | inr k ↦ cut_trouble limit head x f four within all k ]

-- The bytes of the length

pub head_stops : (limit : ℕ) (bytes piece : List ℕ) (k : ℕ) (f : FrameFault) → k ≤ length piece → length bytes + k ≡ 4 → IsTrouble (bytes ++ take k piece) limit f → StopsAt limit bytes piece f (bytes ++ take k piece)
head_stops limit bytes piece k f le four h = stops_at limit bytes piece (bytes ++ take k piece) k f refl h (λ i lt. short_under_way (bytes ++ take i piece) limit (omega (arith, length-append bytes (take i piece), length-take i piece)))

pub ends_behind : (limit : ℕ) (bytes piece t : List ℕ) (k used : ℕ) → limit < 2 ^ 32 → k ≤ length piece → EndsFrame limit (bytes ++ take k piece) (drop k piece) used t → EndsFrame limit bytes piece (k + used) t
ends_behind limit bytes piece t k used small le h =
    let F : List ℕ → Type 0 = λ b. IsFrame limit b t in
    let i = h.inside in
    ends_frame limit bytes piece t (k + used) small (omega (arith, length-drop k piece)) (subst F (append_take-add bytes piece k used) h.frame)

pub stops_behind : (limit : ℕ) (bytes piece left : List ℕ) (k : ℕ) (f : FrameFault) → k ≤ length piece → length bytes + k ≡ 4 → StopsAt limit (bytes ++ take k piece) (drop k piece) f left → StopsAt limit bytes piece f left
stops_behind limit bytes piece left k f le four h = record {
  trouble = let P : List ℕ → Type 0 = λ x. IsTrouble x limit f in subst P (append_take-drop bytes piece k) h.trouble;
  upto = k + h.upto;
  left_is = h.left_is ∙ append_take-add bytes piece k h.upto;
  kept = h.kept;
  least = least;
}
  where
    least : (i : ℕ) (g : FrameFault) → i < k + h.upto → ¬ IsTrouble (bytes ++ take i piece) limit g
    least i g lt t = elim (cases_lt i k) [
      | inl early ↦ short_no_trouble (bytes ++ take i piece) limit g (omega (arith, length-append bytes (take i piece), length-take i piece)) t
      | inr late ↦
          let on : k + (i - k) ≡ i = omega arith in
          let P : List ℕ → Type 0 = λ x. IsTrouble x limit g in
          h.least (i - k) g (omega arith) (subst P (sym (append_take-add bytes piece k (i - k) ∙ ap (λ n. bytes ++ take n piece) on)) t)
    ]
