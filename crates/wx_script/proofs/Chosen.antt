-- Where a choice gave a value.
use Rattle.std.proofs.Common.{◌≡◌, Bool, true, false, cond, refl, Some, None, ◌⊎◌, inl, inr}
use Rattle.std.specs.declared.option.Option.{Option}

-- a choice that gave z
pub chosen : {A : Type 0} (b : Bool) (x y : A) (z : A) → cond b x y ≡ z → ((b ≡ true) × (x ≡ z)) ⊎ ((b ≡ false) × (y ≡ z))
chosen true x y z e = inl (refl, e)
chosen false x y z e = inr (refl, e)
