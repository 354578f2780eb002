use Rattle.std.proofs.Common.{◌<◌, length, IfSome, nat_eq, subst, ◌∙◌}
use Rattle.indexmap.specs.IndexMap as map
use Rattle.wx_native_hosts.proofs.FoundLater.{found_within}
use Rattle.wx_native_hosts.proofs.hosts.Hosts.of_channel.Goals as goal

pub returns-clause-there : goal.returns-clause-there
returns-clause-there c =
    subst (λ s. IfSome c.copied.result (λ h. h.0 < length s.hosts)) c.self.view_is
    (found_within c.self.inside.rows.items (map.get nat_eq c.self.inside.by_channel) c.args.k.0 c.copied.result c.self.invariant
    (c.copied.ensures ∙ c.get.ensures.value))
