use Rattle.std.proofs.Common.{◌≡◌, ℕ, Bool, List, vec_len}
use Rattle.std.specs.Prelude.{reverse}
use Rattle.wx_broker.specs.State.{BrokerState}
use Rattle.wx_endpoint.specs.Turn.{CursorState}
use Rattle.wx_run.specs.Cursors.{scripts_in}
use Rattle.wx_run.specs.Round.{RoundSoFar, Lessens}
use Rattle.wx_run.proofs.rounds.round.Given as goal

pub record Invariant (i count last : ℕ) (cursors now : List CursorState) (old new : BrokerState) (moved : Bool) : Type 0 where
  pub same_length : count ≡ last
  pub same_world : new.world ≡ old.world
  pub less : Lessens moved cursors now (reverse old.entries) (reverse new.entries)
  pub so_far : RoundSoFar old.world (scripts_in cursors) i now (reverse old.entries) (reverse new.entries) moved

abbrev pub invariant-loop-i : goal.invariant-loop-i
invariant-loop-i l = Invariant l.i (vec_len l.endpoints) l.i-end l.fn.endpoints.items l.endpoints.items l.fn.desk.broker l.desk.broker l.moved
