-- What a reader's fields say of its bytes.
use Rattle.std.proofs.Common.{◌≡◌, ℕ, ◌+◌, ◌-◌, ◌<◌, ◌≤◌, ◌^◌, List, [], ◌∷◌, ◌++◌, length, take, drop, min, true, false, Option, Some, None, refl, ap, ◌∙◌, sym, subst, arith, inl, inr, length-append}
use Rattle.std.specs.Prelude.{is_some, IfSome}
use Rattle.std.specs.Vec.{vec_capacity}
use Rattle.std.proofs.lemmas.Bool.{cases_lt}
use Rattle.std.proofs.lemmas.List.{append-nil, take_all, take_rest, length-take}
use Rattle.wx_json.specs.Check.{Stands, taken}
use Rattle.wx_json.specs.Text.{IsJsonText, IsPrefixOfJson, IsFault, IsEndFault}
use Rattle.wx_json.specs.declared.JsonFault.{JsonFault}
use Rattle.wx_native_frame.specs.Frames.{Unfinished, length_bytes, told_length, frame, IsTrouble, IsTroubleFirst, IsUnderWay, EndsFrame, StopsAt}
use Rattle.wx_native_frame.specs.Reader.{Reads, IsInside, IsSound, unfinished_of}
use Rattle.wx_native_frame.specs.declared.FrameFault.{FrameFault}
use Rattle.wx_native_frame.specs.declared.FrameFault.TheVariants.{BadJson}
use Rattle.wx_native_frame.specs.declared.frame_reader.FrameReader.TheInside.{Inside}
use Rattle.wx_native_frame.proofs.Empty.{empty_prefix}
use Rattle.wx_native_frame.proofs.Lengths.{told-append}
use Rattle.wx_native_frame.proofs.FrameLaws.{short_under_way, text_under_way}
use Rattle.wx_native_frame.proofs.StepLaws.{GoesOn, under_way_first, stops_first, ends_frame, text_ends, text_goes_on, text_stops, text_cut, head_stops, ends_behind, stops_behind}

some_of : (o : Option FrameFault) (T : FrameFault → Type 0) → ((f : FrameFault) → o ≡ Some f → T f) → is_some o ≡ true → (f : FrameFault) × T f
some_of None T h e = cc
some_of (Some f) T h e = (f, h f refl)

none_of : (o : Option FrameFault) → is_some o ≡ false → o ≡ None
none_of None e = refl
none_of (Some f) e = cc

pub same_trouble : (r : List ℕ) (limit : ℕ) (f g : FrameFault) → Some f ≡ Some g → IsTrouble r limit f → IsTrouble r limit g
same_trouble r limit f g e h = let P : FrameFault → Type 0 = λ x. IsTrouble r limit x in let same : f ≡ g = cc in subst P same h

pub trouble_of : (a : Inside) → IsSound a → is_some a.fault ≡ true → (f : FrameFault) × IsTrouble (a.head ++ a.text.items) a.limit f
trouble_of a s e = some_of a.fault (λ f. IsTrouble (a.head ++ a.text.items) a.limit f) s.broken e

pub under_way_of : (a : Inside) → IsSound a → is_some a.fault ≡ false → IsUnderWay (a.head ++ a.text.items) a.limit
under_way_of a s e = elim (cases_lt (length a.head) 4) [
  | inl lt ↦ let none = (s.early lt).text in short_under_way (a.head ++ a.text.items) a.limit (omega (arith, length-append a.head a.text.items, ap length none))
  | inr le ↦ let most = s.head in let four : length a.head ≡ 4 = omega arith in let i = s.inside four (none_of a.fault e) in text_under_way a.limit a.head a.text.items s.limit four i.short i.within i.reads.start
]

-- no shorter front of a reader's bytes has trouble
pub first_of : (a : Inside) → IsSound a → IsTroubleFirst (a.head ++ a.text.items) a.limit
first_of a s = by_fault a.fault refl
  where
    by_fault : (o : Option FrameFault) → a.fault ≡ o → IsTroubleFirst (a.head ++ a.text.items) a.limit
    by_fault None e = under_way_first (a.head ++ a.text.items) a.limit (under_way_of a s (ap is_some e))
    by_fault (Some f) e = s.first f e

pub wanted_of : (a : Inside) → IsSound a → is_some a.fault ≡ false → 4 ≤ length a.head → (told_length a.head - length a.text.items) + length (a.head ++ a.text.items) ≡ 4 + told_length (a.head ++ a.text.items)
wanted_of a s e le =
    let most = s.head in
    let four : length a.head ≡ 4 = omega arith in
    let short = (s.inside four (none_of a.fault e)).short in
    omega (arith, length-append a.head a.text.items, told-append a.head a.text.items le)

-- Within a text

none_given : (o : Option FrameFault) → ((f : FrameFault) → o ≡ Some f → ⊥) → o ≡ None
none_given None h = refl
none_given (Some f) h = absurd (h f refl)

pub reading : (a : Inside) (v : Unfinished) → IsSound a → unfinished_of a ≡ v → 4 ≤ length v.bytes → ((f : FrameFault) → a.fault ≡ Some f → ⊥) → IsInside a × (length a.head ≡ 4)
reading a v s is le none = (s.inside four (none_given a.fault none), four)
  where
    four : length a.head ≡ 4
    four = elim (cases_lt (length a.head) 4) [
      | inl lt ↦ let empty = (s.early lt).text in absurd (omega (arith, length-append a.head a.text.items, ap length empty, ap (λ u. length u.bytes) is))
      | inr more ↦ let most = s.head in omega arith
    ]

pub read_fault : (a : Inside) (piece x : List ℕ) (used : ℕ) (f : JsonFault) → IsSound a → IsInside a → length a.head ≡ 4 → used ≡ min (told_length a.head - length a.text.items) (length piece) → IsFault (a.text.items ++ take used piece) f → x ≡ take (f.place + 1) (a.text.items ++ take used piece) → StopsAt a.limit (a.head ++ a.text.items) piece (BadJson f) (a.head ++ x)
read_fault a piece x used f s i four is h e =
    let P : List ℕ → Type 0 = λ y. StopsAt a.limit (a.head ++ a.text.items) piece (BadJson f) (a.head ++ y) in
    subst P (sym e) (text_stops a.limit a.head a.text.items piece used f s.limit four i.within i.short is i.reads.start h)

pub reads_on : (a : Inside) (piece x : List ℕ) (used : ℕ) → IsSound a → IsInside a → length a.head ≡ 4 → used ≡ min (told_length a.head - length a.text.items) (length piece) → x ≡ a.text.items ++ take used piece → length x < told_length a.head → IsPrefixOfJson x → GoesOn a.limit (a.head ++ a.text.items) piece used (a.head ++ x)
reads_on a piece x used s i four is e short good =
    let P : List ℕ → Type 0 = IsPrefixOfJson in
    let G : List ℕ → Type 0 = λ y. GoesOn a.limit (a.head ++ a.text.items) piece used (a.head ++ y) in
    subst G (sym e) (text_goes_on a.limit a.head a.text.items piece used s.limit four i.within is (omega (arith, ap length e)) (subst P e good))

-- a text that ends here has as many bytes as its length tells
whole_length : (a : Inside) (piece x : List ℕ) (used : ℕ) → IsInside a → used ≡ min (told_length a.head - length a.text.items) (length piece) → x ≡ a.text.items ++ take used piece → told_length a.head ≤ length x → (length x ≡ told_length a.head) × (used ≤ length piece)
whole_length a piece x used i is e le = let short = i.short in (omega (arith, ap length e, length-append a.text.items (take used piece), length-take used piece), omega arith)

pub reads_whole : (a : Inside) (piece x t : List ℕ) (used : ℕ) → IsSound a → IsInside a → used ≡ min (told_length a.head - length a.text.items) (length piece) → x ≡ a.text.items ++ take used piece → told_length a.head ≤ length x → length_bytes (told_length a.head) ≡ a.head → t ≡ x → IsJsonText x → EndsFrame a.limit (a.head ++ a.text.items) piece used t
reads_whole a piece x t used s i is e le tells same j =
    let w = whole_length a piece x used i is e le in
    let n : length t ≡ told_length a.head = ap length same ∙ w.0 in
    let P : List ℕ → Type 0 = IsJsonText in
    let within = i.within in
    text_ends a.limit a.head a.text.items piece t used s.limit w.1 (ap length_bytes n ∙ tells) (omega (arith, n)) (subst P (sym same) j) (same ∙ e)

pub reads_cut : (a : Inside) (piece x y : List ℕ) (used : ℕ) (f : JsonFault) → IsSound a → IsInside a → length a.head ≡ 4 → used ≡ min (told_length a.head - length a.text.items) (length piece) → x ≡ a.text.items ++ take used piece → told_length a.head ≤ length x → IsPrefixOfJson x → IsEndFault x f → y ≡ x → StopsAt a.limit (a.head ++ a.text.items) piece (BadJson f) (a.head ++ y)
reads_cut a piece x y used f s i four is e le good h same =
    let w = whole_length a piece x used i is e le in
    let P : List ℕ → Type 0 = IsPrefixOfJson in
    let F : List ℕ → Type 0 = λ z. IsEndFault z f in
    let S : List ℕ → Type 0 = λ z. StopsAt a.limit (a.head ++ a.text.items) piece (BadJson f) (a.head ++ z) in
    subst S (sym (same ∙ e)) (text_cut a.limit a.head a.text.items piece used f s.limit four i.within w.1 (sym (ap length e) ∙ w.0) (subst P e good) (subst F e h))

-- a reader that has stopped
pub stopped : (a b : Inside) (piece : List ℕ) (f : FrameFault) → IsSound a → b.limit ≡ a.limit → length b.head ≡ 4 → b.fault ≡ Some f → StopsAt b.limit (a.head ++ a.text.items) piece f (b.head ++ b.text.items) → IsSound b
stopped a b piece f s same four is h = record {
  limit = let small = s.limit in omega arith;
  head = omega arith;
  early = λ lt. absurd (omega arith);
  inside = λ e none. cc;
  broken = λ g e. same_trouble (b.head ++ b.text.items) b.limit f g (sym is ∙ e) h.kept;
  first = λ g e. let L : ℕ → Type 0 = IsTroubleFirst (a.head ++ a.text.items) in stops_first b.limit (a.head ++ a.text.items) piece (b.head ++ b.text.items) f h (subst L (sym same) (first_of a s));
}

-- Within a length

pub early_head : (a : Inside) (v : Unfinished) → unfinished_of a ≡ v → length v.bytes < 4 → length a.head < 4
early_head a v is lt = omega (arith, length-append a.head a.text.items, ap (λ u. length u.bytes) is)

bytes_of_head : (a : Inside) → IsSound a → length a.head < 4 → a.head ++ a.text.items ≡ a.head
bytes_of_head a s lt = ap (λ x. a.head ++ x) (s.early lt).text ∙ append-nil a.head

pub head_goes_on : (a : Inside) (piece head : List ℕ) (used : ℕ) → IsSound a → length a.head < 4 → used ≡ min (4 - length a.head) (length piece) → head ≡ a.head ++ take used piece → length head < 4 → GoesOn a.limit (a.head ++ a.text.items) piece used (head ++ a.text.items)
head_goes_on a piece head used s lt is e short =
    record { all = all; left_is = left; under_way = short_under_way (head ++ a.text.items) a.limit (omega (arith, length-append head a.text.items, ap length (s.early lt).text)) }
  where
    all : used ≡ length piece
    all = omega (arith, ap length e, length-append a.head (take used piece), length-take used piece)

    left : head ++ a.text.items ≡ (a.head ++ a.text.items) ++ piece
    left = ap (λ x. head ++ x) (s.early lt).text ∙ append-nil head ∙ e ∙ ap (λ x. a.head ++ x) (take_all used piece (omega (arith, all))) ∙ ap (λ x. x ++ piece) (sym (bytes_of_head a s lt))

pub head_refuses : (a : Inside) (piece head : List ℕ) (used : ℕ) (f : FrameFault) → IsSound a → length a.head < 4 → used ≡ min (4 - length a.head) (length piece) → head ≡ a.head ++ take used piece → 4 ≤ length head → IsTrouble head a.limit f → StopsAt a.limit (a.head ++ a.text.items) piece f (head ++ a.text.items)
head_refuses a piece head used f s lt is e le h =
    let T : List ℕ → Type 0 = λ x. IsTrouble x a.limit f in
    let stops = head_stops a.limit a.head piece used f (omega arith) (omega (arith, ap length e, length-append a.head (take used piece), length-take used piece)) (subst T e h) in
    let left : head ++ a.text.items ≡ a.head ++ take used piece = ap (λ x. head ++ x) (s.early lt).text ∙ append-nil head ∙ e in
    let L : List ℕ → Type 0 = λ x. StopsAt a.limit (a.head ++ a.text.items) piece f x in
    let B : List ℕ → Type 0 = λ x. StopsAt a.limit x piece f (a.head ++ take used piece) in
    subst L (sym left) (subst B (sym (bytes_of_head a s lt)) stops)

-- a reader at the start of a text
pub fresh : (b : Inside) → b.limit < 2 ^ 32 → length b.head ≡ 4 → b.fault ≡ None → told_length b.head ≤ b.limit → 0 < told_length b.head → b.text.items ≡ [] → told_length b.head ≤ vec_capacity b.text → Stands b.check [] → taken b.check ≡ 0 → IsSound b
fresh b small four none within some empty room stands count = record {
  limit = small;
  head = omega arith;
  early = λ lt. absurd (omega arith);
  inside = λ e n. record {
    within = within;
    short = omega (arith, ap length empty);
    room = room;
    reads = let R : List ℕ → Type 0 = λ x. Reads b.check x in subst R (sym empty) (record { stands = stands; count = omega arith; start = empty_prefix });
  };
  broken = λ f e. cc;
  first = λ f e. cc;
}

-- what a step did after the length is what it did in all
behind : (a : Inside) (piece head text : List ℕ) (used : ℕ) → head ≡ a.head ++ take used piece → text ≡ [] → head ++ text ≡ a.head ++ take used piece
behind a piece head text used e empty = ap (λ x. head ++ x) empty ∙ append-nil head ∙ e

pub head_ends : (a : Inside) (piece head text t : List ℕ) (used more : ℕ) → IsSound a → length a.head < 4 → used ≡ min (4 - length a.head) (length piece) → head ≡ a.head ++ take used piece → text ≡ [] → EndsFrame a.limit (head ++ text) (take (length piece - used) (drop used piece)) more t → EndsFrame a.limit (a.head ++ a.text.items) piece (used + more) t
head_ends a piece head text t used more s lt is e empty h =
    let H : List ℕ → Type 0 = λ x. EndsFrame a.limit x (take (length piece - used) (drop used piece)) more t in
    let R : List ℕ → Type 0 = λ x. EndsFrame a.limit (a.head ++ take used piece) x more t in
    let E : List ℕ → Type 0 = λ x. EndsFrame a.limit x piece (used + more) t in
    subst E (sym (bytes_of_head a s lt)) (ends_behind a.limit a.head piece t used more s.limit (omega arith) (subst R (take_rest piece used) (subst H (behind a piece head text used e empty) h)))

pub head_stops_behind : (a : Inside) (piece head text left : List ℕ) (used : ℕ) (f : FrameFault) → IsSound a → length a.head < 4 → used ≡ min (4 - length a.head) (length piece) → head ≡ a.head ++ take used piece → 4 ≤ length head → text ≡ [] → StopsAt a.limit (head ++ text) (take (length piece - used) (drop used piece)) f left → StopsAt a.limit (a.head ++ a.text.items) piece f left
head_stops_behind a piece head text left used f s lt is e le empty h =
    let R : List ℕ → Type 0 = λ x. StopsAt a.limit (a.head ++ take used piece) x f left in
    let H : List ℕ → Type 0 = λ x. StopsAt a.limit x (take (length piece - used) (drop used piece)) f left in
    let S : List ℕ → Type 0 = λ x. StopsAt a.limit x piece f left in
    subst S (sym (bytes_of_head a s lt)) (stops_behind a.limit a.head piece left used f (omega arith) (omega (arith, ap length e, length-append a.head (take used piece), length-take used piece)) (subst R (take_rest piece used) (subst H (behind a piece head text used e empty) h)))

map_some : (o : Option (List ℕ)) (P Q : List ℕ → Type 0) → ((t : List ℕ) → P t → Q t) → IfSome o P → IfSome o Q
map_some None P Q h p = p
map_some (Some t) P Q h p = h t p

pub hands_on : (a : Inside) (v : Unfinished) (piece head text left : List ℕ) (o : Option (List ℕ)) (used more : ℕ) → IsSound a → unfinished_of a ≡ v → length a.head < 4 → used ≡ min (4 - length a.head) (length piece) → head ≡ a.head ++ take used piece → text ≡ [] → IfSome o (λ t. EndsFrame a.limit (head ++ text) (take (length piece - used) (drop used piece)) more t × (left ≡ [])) → IfSome o (λ t. EndsFrame v.limit v.bytes piece (used + more) t × (left ≡ []))
hands_on a v piece head text left o used more s is lt n e empty h =
    map_some o (λ t. EndsFrame a.limit (head ++ text) (take (length piece - used) (drop used piece)) more t × (left ≡ [])) (λ t. EndsFrame v.limit v.bytes piece (used + more) t × (left ≡ [])) (λ t p.
    let V : Unfinished → Type 0 = λ w. EndsFrame w.limit w.bytes piece (used + more) t in
    (subst V is (head_ends a piece head text t used more s lt n e empty p.0), p.1)) h

-- A whole frame in front

no_bytes : (l : List ℕ) → length l ≡ 0 → l ≡ []
no_bytes [] e = refl
no_bytes (x ∷ l) e = absurd (omega (arith, e))

pub whole_ends : (a : Inside) (v : Unfinished) (piece text : List ℕ) (o : Option (List ℕ)) → IsSound a → unfinished_of a ≡ v → length a.head ≡ 0 → length text ≤ a.limit → 4 + length text ≤ length piece → take (4 + length text) piece ≡ frame text → IfSome o (λ t. (t ≡ text) × IsJsonText text) → IfSome o (λ t. (v.bytes ≡ []) × EndsFrame v.limit [] piece (4 + length t) t)
whole_ends a v piece text o s is none fits within bytes h =
    map_some o (λ t. (t ≡ text) × IsJsonText text) (λ t. (v.bytes ≡ []) × EndsFrame v.limit [] piece (4 + length t) t) (λ t p.
    let E : List ℕ → Type 0 = λ x. EndsFrame a.limit [] piece (4 + length x) x in
    let V : Unfinished → Type 0 = λ w. (w.bytes ≡ []) × EndsFrame w.limit [] piece (4 + length t) t in
    subst V is (bytes_of_head a s (omega (arith, none)) ∙ no_bytes a.head none, subst E (sym p.0) (ends_frame a.limit [] piece text (4 + length text) s.limit within (record { json = p.1; fits = fits; bytes_are = bytes })))) h
