use Rattle.std.proofs.Common.{◌∙◌}
use Rattle.wx_host_manifest.proofs.KeyLemmas.{list_any-origins}
use Rattle.wx_host_manifest.proofs.manifest.HostManifest.admits.Goals as goal

pub returns : goal.returns
returns c = c.contains.ensures.value ∙ rw (c.deref.ensures.value, ← c.self.view_is) (list_any-origins c.self.inside.callers.items c.args.id.now)
