use Rattle.std.proofs.Common.{◌≡◌, drop}
use Rattle.wx_manifest.specs.ExtensionManifests.{patterns_from}
use Rattle.wx_manifest.proofs.ManifestLemmas.{ahead}
use Rattle.wx_manifest.proofs.patterns.read_patterns.Given as goal

abbrev pub invariant-loop-place : goal.invariant-loop-place
invariant-loop-place l = patterns_from 0 l.texts ≡ ahead l.patterns.items (patterns_from l.place (drop l.place l.texts))
