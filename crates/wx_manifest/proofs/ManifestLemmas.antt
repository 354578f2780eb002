-- What stands under a key, and lists that are judged member by member.
use Rattle.std.proofs.Common.{◌≡◌, ℕ, suc, ◌+◌, ◌∷◌, ◌++◌, List, [], drop, take, map, refl, true, false, Some, Result, Ok, Err, ap, sym, ◌∙◌, inl, inr, add-one}
use Rattle.std.specs.Prelude.{not, slice_get, ◌⊎◌}
use Rattle.std.specs.List.{position_from}
use Rattle.std.proofs.lemmas.Bool.{not_from_true, not_from_false}
use Rattle.std.proofs.lemmas.List.{append-nil, append_assoc, map-append, take_more}
use Rattle.std.proofs.lemmas.Option.{slice_get_within, get_or_from_slice_get}
use Rattle.serde_json.specs.Data.{Data}
use Rattle.serde_json.specs.Find.{get, as_str}
use Rattle.url.specs.Parts as url
use Rattle.wx_match_pattern.specs.Pattern.{PatternParts}
use Rattle.wx_match_pattern.specs.Meets.{Meets}
use Rattle.wx_match_pattern.specs.Reading.{pattern_of}
use Rattle.wx_manifest_tree.specs.Tree.{required}
use Rattle.wx_manifest_tree.proofs.Places.{drop_at_get, position_here, position_later}
use Rattle.wx_manifest_tree.specs.declared.KeyFault.{KeyFault}
use Rattle.wx_id.specs.Results.{◌>>=◌}
use Rattle.wx_manifest.specs.Keys.{under, key_name}
use Rattle.wx_manifest.specs.ExtensionManifests.{text_of, is_id_entry, judged, patterns_from, SomeMeets}
use Rattle.wx_manifest.specs.IdEntries.{id_text}
use Rattle.wx_manifest.specs.declared.ids.IdEntry.{IdEntry}
use Rattle.wx_manifest.specs.declared.faults.Key.{Key}
use Rattle.wx_manifest.specs.declared.faults.ManifestFault.{ManifestFault}

pub text_of-under : (r : Result (List ℕ) KeyFault) (key : Key) (k : List ℕ) (d : Data) → k ≡ key_name key
    → r ≡ required as_str (get k d) → under key r ≡ text_of key d
unfolding text_of
text_of-under r key k d is found = ap (under key) (found ∙ ap (λ n. required as_str (get n d)) is)

-- ---- `ids`

pub bad_entry : (xs : List (List ℕ)) (i : ℕ) (x : List ℕ) → slice_get xs i ≡ Some x → is_id_entry x ≡ false
    → position_from (λ text. not (is_id_entry text)) i (drop i xs) ≡ Some i
bad_entry xs i x here is = position_here (λ text. not (is_id_entry text)) xs i x here (not_from_false (is_id_entry x) is)

pub good_entry : (xs : List (List ℕ)) (i : ℕ) (x : List ℕ) → slice_get xs i ≡ Some x → is_id_entry x ≡ true
    → position_from (λ text. not (is_id_entry text)) i (drop i xs) ≡ position_from (λ text. not (is_id_entry text)) (i + 1) (drop (i + 1) xs)
good_entry xs i x here is = position_later (λ text. not (is_id_entry text)) xs i x here (not_from_true (is_id_entry x) is)

pub more_entries : (entries : List IdEntry) (entry : IdEntry) (xs : List (List ℕ)) (i : ℕ) (x : List ℕ) → map id_text entries ≡ take i xs
    → slice_get xs i ≡ Some x → id_text entry ≡ x → map id_text (entries ++ entry ∷ []) ≡ take (i + 1) xs
more_entries entries entry xs i x front here is =
    map-append id_text entries (entry ∷ [])
    ∙ ap (λ ys. ys ++ id_text entry ∷ []) front
    ∙ ap (λ y. take i xs ++ y ∷ []) (is ∙ sym (get_or_from_slice_get xs i x x here))
    ∙ sym (take_more xs i x (slice_get_within xs i x here))

-- ---- `matches`

-- with the patterns before it
abbrev pub ahead : List PatternParts → Result (List PatternParts) ManifestFault → Result (List PatternParts) ManifestFault
ahead front (Ok rest) = Ok (front ++ rest)
ahead front (Err fault) = Err fault

pub ahead-nil : (r : Result (List PatternParts) ManifestFault) → r ≡ ahead [] r
ahead-nil (Ok rest) = refl
ahead-nil (Err fault) = refl

ahead-push : (front : List PatternParts) (p : PatternParts) (r : Result (List PatternParts) ManifestFault) → ahead front (ahead (p ∷ []) r) ≡ ahead (front ++ p ∷ []) r
ahead-push front p (Ok rest) = ap Ok (sym (append_assoc front (p ∷ []) rest))
ahead-push front p (Err fault) = refl

put_first : (p : PatternParts) (r : Result (List PatternParts) ManifestFault) → (r >>= (λ patterns. Ok (p ∷ patterns))) ≡ ahead (p ∷ []) r
put_first p (Ok rest) = refl
put_first p (Err fault) = refl

module _ (xs : List (List ℕ)) (i : ℕ) (x : List ℕ) (here : slice_get xs i ≡ Some x) where
  good_first : (p : PatternParts) → judged i (pattern_of x) ≡ Ok p → patterns_from i (drop i xs) ≡ ahead (p ∷ []) (patterns_from (i + 1) (drop (i + 1) xs))
  good_first p is = rw (drop_at_get xs i x here, is, add-one) (put_first p (patterns_from (suc i) (drop (suc i) xs)))

  bad_first : (fault : ManifestFault) → judged i (pattern_of x) ≡ Err fault → patterns_from i (drop i xs) ≡ Err fault
  bad_first fault is = rw (drop_at_get xs i x here, is) refl

  pub patterns_more : (front : List PatternParts) (p : PatternParts) → patterns_from 0 xs ≡ ahead front (patterns_from i (drop i xs))
      → judged i (pattern_of x) ≡ Ok p → patterns_from 0 xs ≡ ahead (front ++ p ∷ []) (patterns_from (i + 1) (drop (i + 1) xs))
  patterns_more front p before is = before ∙ ap (ahead front) (good_first p is) ∙ ahead-push front p (patterns_from (i + 1) (drop (i + 1) xs))

  pub patterns_stop : (front : List PatternParts) (fault : ManifestFault) → patterns_from 0 xs ≡ ahead front (patterns_from i (drop i xs))
      → judged i (pattern_of x) ≡ Err fault → patterns_from 0 xs ≡ Err fault
  patterns_stop front fault before is = before ∙ ap (ahead front) (bad_first fault is)

pub patterns_end : (xs : List (List ℕ)) (front : List PatternParts) (i : ℕ) → patterns_from 0 xs ≡ ahead front (patterns_from i []) → patterns_from 0 xs ≡ Ok front
patterns_end xs front i before = before ∙ ap Ok (append-nil front)

-- ---- which pattern matches

pub meets_here : (patterns : List PatternParts) (i : ℕ) (pattern : PatternParts) (page : url.Parts) → drop i patterns ≡ pattern ∷ drop (i + 1) patterns
    → Meets pattern page → SomeMeets (drop i patterns) page
meets_here patterns i pattern page here is = rw here (inl is)

pub meets_later : (patterns : List PatternParts) (i : ℕ) (pattern : PatternParts) (page : url.Parts) → drop i patterns ≡ pattern ∷ drop (i + 1) patterns
    → (Meets pattern page → ⊥) → SomeMeets (drop i patterns) page → SomeMeets (drop (i + 1) patterns) page
meets_later patterns i pattern page here not_this some =
    let either : Meets pattern page ⊎ SomeMeets (drop (i + 1) patterns) page = rw here at some in
    elim either [ inl this ↦ absurd (not_this this) | inr later ↦ later ]
