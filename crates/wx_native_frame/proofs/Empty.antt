-- No text is empty.
use Rattle.std.proofs.Common.{◌≡◌, ℕ, ◌≤◌, List, [], ◌∷◌, length, take, drop, refl, ap, ◌∙◌, sym, subst, arith}
use Rattle.wx_json.specs.Json.{White, no_white, Number, positive, Value, is_false, is_null, is_true, number, empty_array, IsJson, json}
use Rattle.wx_json.specs.Utf8.{no_char, utf8_1}
use Rattle.wx_json.specs.Text.{IsJsonText, IsPrefixOfJson, IsUnfinished}
use Rattle.wx_json.specs.declared.JsonFault.{JsonFault}
use Rattle.wx_json.specs.declared.JsonKind.TheVariants.{Ends}
use Rattle.wx_native_frame.specs.Frames.{told_length, text_in, IsTrouble, cut_text}
use Rattle.wx_native_frame.specs.declared.FrameFault.TheVariants.{BadJson}

no_number : {r : List ℕ} → Number [] r → ⊥
no_number (positive u) = elim u [ ]

no_value : {s r : List ℕ} {n : ℕ} → White [] s → Value s n r → ⊥
no_value no_white (is_false w) = elim w [ ]
no_value no_white (is_null w) = elim w [ ]
no_value no_white (is_true w) = elim w [ ]
no_value no_white (number n) = no_number n

no_json : (d : ℕ) → ¬ IsJson [] d
no_json d (json w v x) = no_value w v

empty_array_text : IsJsonText (0x5B ∷ 0x5D ∷ [])
empty_array_text = record { utf8 = utf8_1 refl (utf8_1 refl no_char); depth = 1; json = json no_white (empty_array no_white) no_white; within = omega arith }

pub empty_prefix : IsPrefixOfJson []
empty_prefix = (0x5B ∷ 0x5D ∷ [], empty_array_text)

abbrev pub empty_fault : JsonFault
empty_fault = record { place = 0; kind = Ends }

pub empty_unfinished : IsUnfinished [] empty_fault
empty_unfinished = record { kind = refl; place = refl; before = empty_prefix; faulty = λ j. no_json j.depth j.json }

pub empty_trouble : (r : List ℕ) (limit : ℕ) → 4 ≤ length r → told_length r ≡ 0 → IsTrouble r limit (BadJson empty_fault)
empty_trouble r limit le e =
    let none : text_in r ≡ [] = ap (λ n. take n (drop 4 r)) e in
    let P : List ℕ → Type 0 = λ x. IsUnfinished x empty_fault in
    cut_text le (omega arith) (ap length none ∙ sym e) (subst P (sym none) empty_unfinished)
