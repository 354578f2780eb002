use Rattle.std.proofs.Common.{Err, ap}
use Rattle.wx_host_manifest.proofs.KeyLemmas.{never_faulty}
use Rattle.wx_host_manifest.proofs.manifest.HostManifest.keep.Goals as goal

pub unreachable-requires : goal.unreachable-requires
unreachable-requires c =
    never_faulty _ _ _ c.as_bytes.ensures.value c.parts.invariant.0
    (c.in-Err-BadHostName.ensures.bad _ (ap Err c.in-Err-BadHostName.field-0-is))
