-- What a command prints, and whether that is yes.
use Rattle.std.specs.Prelude.{ℕ, List, Bool, true, false}
use Rattle.wx_status.specs.declared.status.Status.{Status}
use Rattle.wx_status.specs.declared.status.Status.TheVariants.{Done, No}

pub record Output : Type 0 where
  pub yes : Bool
  pub text : List ℕ

-- the status of yes and of no
abbrev pub answer_status : Bool → Status
answer_status true = Done
answer_status false = No
