-- A step of a check, from its fields to what it stands for.
use Rattle.std.proofs.Common.{◌≡◌, ap, ◌∙◌, sym, subst}
use Rattle.std.specs.Prelude.{Option, Some, None}
use Rattle.wx_json.specs.View.{unless_failed}
use Rattle.wx_json.specs.Check.{Progress, failed, IsRunning}
use Rattle.wx_json.specs.declared.JsonFault.{JsonFault}

-- what stands for p is taken from p to q
pub stepped : (f : Option JsonFault) (step : Progress → Progress) (p q old : Progress) → unless_failed f p ≡ old → IsRunning old → step p ≡ q → unless_failed f q ≡ step old
stepped None step p q old view runs moves = sym moves ∙ ap step view
stepped (Some g) step p q old view runs moves = absurd (subst IsRunning (sym view) runs)

-- what stands for p is taken to a fault
pub stopped : (f : Option JsonFault) (step : Progress → Progress) (p : Progress) (g : JsonFault) (old : Progress) → unless_failed f p ≡ old → IsRunning old → step p ≡ failed g → failed g ≡ step old
stopped None step p g old view runs moves = sym moves ∙ ap step view
stopped (Some h) step p g old view runs moves = absurd (subst IsRunning (sym view) runs)

-- two steps that agree on what stands agree
pub agreed : (f : Option JsonFault) (step other : Progress → Progress) (p old : Progress) → unless_failed f p ≡ old → IsRunning old → step p ≡ other p → step old ≡ other old
agreed None step other p old view runs same = ap step (sym view) ∙ same ∙ ap other view
agreed (Some g) step other p old view runs same = absurd (subst IsRunning (sym view) runs)
