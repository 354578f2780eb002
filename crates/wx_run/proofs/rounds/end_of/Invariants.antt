use Rattle.std.proofs.Common.{◌≡◌, drop}
use Rattle.wx_run.specs.Cursors.{all_left}
use Rattle.wx_run.proofs.rounds.end_of.Given as goal

-- all so far have ended
abbrev pub invariant-loop-endpoint : goal.invariant-loop-endpoint
invariant-loop-endpoint l = all_left (drop l.endpoint-index l.endpoints) ≡ all_left l.endpoints
