-- The first line of a text, and the lines after it.
use Rattle.std.proofs.Common.{◌≡◌, ℕ, ◌+◌, ◌<◌, length, cond, arith, true, false, List, [], ◌∷◌, refl, sym, ap, subst}
use Rattle.std.specs.List.{onto_first}
use Rattle.std.specs.Prelude.{Ok, Err, codes}
use Rattle.std.specs.Str.{bytes_eq}
use Rattle.wx_script.specs.declared.scene.SceneKind.{SceneKind}
use Rattle.wx_script.specs.declared.scene.SceneKind.TheVariants as kind
use Rattle.wx_script.specs.Draft.{Draft, fresh}
use Rattle.wx_script.specs.Scene.{is_line_feed, scene_of, fault_at, lines_of, lines_added, text_added, scene_from}
use Rattle.wx_script.specs.Reading.{first_line, behind_line}

lines_peel : (b : ℕ) (bs : List ℕ) → lines_of (b ∷ bs) ≡ first_line (b ∷ bs) ∷ lines_of (behind_line (b ∷ bs))
lines_peel b [] =
    elim (is_line_feed b) as (λ t. cond t ([] ∷ []) (onto_first b []) ≡ cond t [] (b ∷ []) ∷ lines_of (cond t [] [])) [
      | true ↦ refl
      | false ↦ refl
    ]
lines_peel b (c ∷ bs) =
    elim (is_line_feed b) as (λ t. cond t ([] ∷ lines_of (c ∷ bs)) (onto_first b (lines_of (c ∷ bs))) ≡ cond t [] (b ∷ first_line (c ∷ bs)) ∷ lines_of (cond t (c ∷ bs) (behind_line (c ∷ bs)))) [
      | true ↦ refl
      | false ↦ ap (onto_first b) (lines_peel c bs)
    ]

pub less_behind_line : (text rest : List ℕ) → 0 < length text → rest ≡ behind_line text → length rest < length text
less_behind_line text rest some is = rw is (less text some)
  where
    less : (text : List ℕ) → 0 < length text → length (behind_line text) < length text
    less [] some = absurd (omega (arith, some))
    less (b ∷ []) some =
        elim (is_line_feed b) as (λ t. length {A = ℕ} (cond t [] []) < length (b ∷ [])) [
          | true ↦ omega arith
          | false ↦ omega arith
        ]
    less (b ∷ c ∷ bs) some =
        elim (is_line_feed b) as (λ t. length (cond t (c ∷ bs) (behind_line (c ∷ bs))) < length (b ∷ c ∷ bs)) [
          | true ↦ omega arith
          | false ↦ omega (arith, less (c ∷ bs) (omega arith))
        ]

-- after a line that is taken come the lines after it
pub lines_added-good : (n : ℕ) (d new : Draft) (text line rest : List ℕ) → 0 < length text → line ≡ first_line text → rest ≡ behind_line text → text_added d line ≡ Ok new
    → lines_added n d (lines_of text) ≡ lines_added (n + 1) new (lines_of rest)
lines_added-good n d new [] line rest some is behind made = absurd (omega (arith, some))
lines_added-good n d new (b ∷ bs) line rest some is behind made =
    let taken : text_added d (first_line (b ∷ bs)) ≡ Ok new = rw (sym is) made in
    rw (lines_peel b bs, taken, behind) refl

pub lines_added-bad : (n : ℕ) (d : Draft) (k : SceneKind) (text line : List ℕ) → 0 < length text → line ≡ first_line text → text_added d line ≡ Err k
    → lines_added n d (lines_of text) ≡ Err (fault_at n k)
lines_added-bad n d k [] line some is made = absurd (omega (arith, some))
lines_added-bad n d k (b ∷ bs) line some is made =
    let refused : text_added d (first_line (b ∷ bs)) ≡ Err k = rw (sym is) made in
    rw (lines_peel b bs, refused) refl

pub headed-good : (text head rest : List ℕ) → head ≡ first_line text → rest ≡ behind_line text → bytes_eq head (codes "wx scene 1 chrome") ≡ true
    → scene_of text ≡ scene_from (lines_added 2 fresh (lines_of rest))
headed-good [] head rest is behind same = let wrong : false ≡ true = subst (λ h. bytes_eq h (codes "wx scene 1 chrome") ≡ true) is same in absurd cc
headed-good (b ∷ bs) head rest is behind same =
    let is_head : bytes_eq (first_line (b ∷ bs)) (codes "wx scene 1 chrome") ≡ true = rw (sym is) same in
    rw (lines_peel b bs, is_head, behind) refl

pub headed-bad : (text head : List ℕ) → head ≡ first_line text → bytes_eq head (codes "wx scene 1 chrome") ≡ false → scene_of text ≡ Err (fault_at 1 kind.Head)
headed-bad [] head is other = refl
headed-bad (b ∷ bs) head is other =
    let is_none : bytes_eq (first_line (b ∷ bs)) (codes "wx scene 1 chrome") ≡ false = rw (sym is) other in
    rw (lines_peel b bs, is_none) refl

pub ruleset lines = (less_behind_line, lines_added-good, lines_added-bad, headed-good, headed-bad)
