use Rattle.std.proofs.Common.{drop}
use Rattle.wx_manifest.specs.ExtensionManifests.{SomeMeets}
use Rattle.wx_manifest.proofs.patterns.any_matches.Given as goal

abbrev pub invariant-loop-pattern : goal.invariant-loop-pattern
invariant-loop-pattern l =
    (SomeMeets l.patterns l.url → SomeMeets (drop l.pattern-index l.patterns) l.url)
    × (SomeMeets (drop l.pattern-index l.patterns) l.url → SomeMeets l.patterns l.url)
