use Rattle.std.proofs.Common.{◌≡◌, ℕ, List}
use Rattle.std.specs.Prelude.{reverse}
use Rattle.wx_script.specs.declared.scene.SceneEndpoint.{SceneEndpoint}
use Rattle.wx_broker.specs.State.{BrokerState}
use Rattle.wx_endpoint.specs.Turn.{CursorState}
use Rattle.wx_run.specs.Opened.{OpenedSoFar}
use Rattle.wx_run.proofs.opening.open.Given as goal

pub record Invariant (endpoints : List SceneEndpoint) (i : ℕ) (cursors : List CursorState) (old new : BrokerState) : Type 0 where
  pub same_world : new.world ≡ old.world
  pub so_far : OpenedSoFar old.world endpoints i cursors (reverse new.entries)

abbrev pub invariant-loop-endpoint : goal.invariant-loop-endpoint
invariant-loop-endpoint l = Invariant l.scene.endpoints l.endpoint-index l.endpoints.items l.fn.desk.broker l.desk.broker
