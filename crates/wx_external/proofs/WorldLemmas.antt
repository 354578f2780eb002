-- An id or a name that is not there may be added.
use Rattle.std.proofs.Common.{◌≡◌, ℕ, List, [], ◌∷◌, ◌++◌, Bool, true, false, refl, sym}
use Rattle.std.specs.Prelude.{not, ◌&&◌, ◌||◌, bytes_eq}
use Rattle.std.specs.Bool.{one_answer}
use Rattle.std.specs.List.{list_any}
use Rattle.std.proofs.lemmas.Bool.{and_parts}
use Rattle.std.proofs.lemmas.List.Folds.{list_any-append}
use Rattle.std.proofs.lemmas.Slice.Eq.{bytes_eq-Decides}
use Rattle.wx_host_manifest.specs.HostManifests.{Host}
use Rattle.wx_external.specs.declared.world.Installed.{Installed}
use Rattle.wx_external.specs.World.{has_id, has_name, are_apart, ids_are_apart, names_are_apart}

bytes_eq-other_way : (xs ys : List ℕ) → bytes_eq xs ys ≡ bytes_eq ys xs
bytes_eq-other_way xs ys =
    let there = bytes_eq-Decides ys xs in
    one_answer (bytes_eq xs ys) (bytes_eq ys xs) (bytes_eq-Decides xs ys) (λ h. sym (there.0 h), λ e. there.1 (sym e))

or_parts : (x y : Bool) → (x || y) ≡ false → (x ≡ false) × (y ≡ false)
or_parts true y h = absurd (cc)
or_parts false y h = (refl, h)

apart_more : {X : Type 0} (key : X → List ℕ) (xs : List X) (x : X) → are_apart key xs ≡ true
    → list_any (λ y. bytes_eq (key y) (key x)) xs ≡ false → are_apart key (xs ++ x ∷ []) ≡ true
apart_more key [] x apart new = refl
apart_more key (y ∷ ys) x apart new =
    let here = or_parts (bytes_eq (key y) (key x)) _ new in
    let old = and_parts (not (list_any (λ z. bytes_eq (key z) (key y)) ys)) (are_apart key ys) apart in
    rw (list_any-append (λ z. bytes_eq (key z) (key y)) ys (x ∷ []), bytes_eq-other_way (key x) (key y), here.0, apart_more key ys x old.1 here.1)
    (alone (list_any (λ z. bytes_eq (key z) (key y)) ys) old.0)
  where
    alone : (b : Bool) → not b ≡ true → (not (b || false) && true) ≡ true
    alone true h = h
    alone false h = refl

pub one_more_id : (extensions : List Installed) (extension : Installed) → ids_are_apart extensions ≡ true
    → list_any (has_id extension.id) extensions ≡ false → ids_are_apart (extensions ++ extension ∷ []) ≡ true
one_more_id extensions extension apart new = apart_more (λ (e : Installed). e.id) extensions extension apart new

pub one_more_name : (hosts : List Host) (host : Host) → names_are_apart hosts ≡ true
    → list_any (has_name host.name) hosts ≡ false → names_are_apart (hosts ++ host ∷ []) ≡ true
one_more_name hosts host apart new = apart_more (λ (h : Host). h.name) hosts host apart new
