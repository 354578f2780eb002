-- Contexts of one number.
use Rattle.std.proofs.Common.{◌≡◌, ℕ, true, ap}
use Rattle.std.proofs.lemmas.Bool.{eqb-true}
use Rattle.wx_id.specs.declared.numbers.ContextNo.{ContextNo}
use Rattle.wx_id.specs.Contexts.{same_context}

-- contexts of one number are one
pub same_context_is : (c d : ContextNo) → same_context c d ≡ true → c ≡ d
same_context_is c d h = let P : ℕ → ContextNo = λ n. record { 0 = n } in ap P (eqb-true c.0 d.0 h)
