-- Whose an entry is.
use Rattle.std.proofs.Common.{◌≡◌, ◌≢◌, Bool, true, false, refl, ap, ◌∙◌, eqb}
use Rattle.std.proofs.lemmas.Bool.{eqb-true, eq-eqb}
use Rattle.wx_id.specs.declared.numbers.ContextNo.{ContextNo}
use Rattle.wx_machine.specs.declared.entries.Who.{Who}
use Rattle.wx_machine.specs.Words.{is_by}
use Rattle.wx_machine.specs.declared.entries.Who.TheVariants.{Context as ByContext}

pub is_by-own : (who : Who) (c : ContextNo) → who ≡ ByContext c → is_by who c ≡ true
is_by-own who c own = ap (λ w. is_by w c) own ∙ eq-eqb c.0 c.0 refl

pub is_by-other : (who : Who) (d c : ContextNo) → who ≡ ByContext d → d.0 ≢ c.0 → is_by who c ≡ false
is_by-other who d c own other =
    ap (λ w. is_by w c) own
    ∙ elim (eqb d.0 c.0) as (λ b. eqb d.0 c.0 ≡ b → b ≡ false) [
      | true ↦ λ is. absurd (other (eqb-true d.0 c.0 is))
      | false ↦ λ is. refl
    ] refl
