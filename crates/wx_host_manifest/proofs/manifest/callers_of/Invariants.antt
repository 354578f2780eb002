use Rattle.std.proofs.Common.{◌≡◌, map, take}
use Rattle.wx_host_manifest.specs.Origins.{origin_of}
use Rattle.wx_host_manifest.proofs.manifest.callers_of.Given as goal

abbrev pub invariant-loop-place : goal.invariant-loop-place
invariant-loop-place l = map origin_of l.callers.items ≡ take l.place l.origins
