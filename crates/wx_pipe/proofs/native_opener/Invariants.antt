use Rattle.std.proofs.Common.{◌≡◌, length}
use Rattle.wx_pipe.specs.Pipe.{native_opener}
use Rattle.wx_pipe.proofs.native_opener.Given as goal

-- no entry before the rest opened it
abbrev pub invariant-loop-e : goal.invariant-loop-e
invariant-loop-e l = native_opener l.k.0 l.entries ≡ native_opener l.k.0 l.rest

abbrev pub decreases-loop-e : goal.decreases-loop-e
decreases-loop-e l = length l.rest
