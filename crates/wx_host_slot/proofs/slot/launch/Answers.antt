use Rattle.std.proofs.Common.{◌≡◌, ◌∙◌, ap, sym, None}
use Rattle.std.specs.Prelude.{is_some, slice_get, reverse}
use Rattle.std.specs.Option.{option_copied}
use Rattle.std.proofs.lemmas.Bool.{true≢false}
use Rattle.wx_external.specs.World.{WorldLists}
use Rattle.wx_host_slot.proofs.StartLemmas.{manifest_there}
use Rattle.wx_host_slot.proofs.slot.launch.Goals as goal

pub unreachable-requires-in_default-host : goal.unreachable-requires-in_default-host
unreachable-requires-in_default-host g c =
    let view = c.in-Some.view in
    let world = c.args.broker.now.world in
    let told : slice_get c.world.result.now.hosts view.manifest ≡ option_copied c.host-2.result = sym c.host-2.ensures in
    let same : c.world.result.now ≡ world = c.world.ensures in
    let there = manifest_there world (reverse c.args.broker.now.entries) c.args.h view (sym c.host.ensures.value ∙ c.in-Some.is) in
    let none : slice_get world.hosts view.manifest ≡ None = ap (λ (w : WorldLists). slice_get w.hosts view.manifest) (sym same) ∙ told ∙ ap option_copied c.in_default-host.is in
    absurd (true≢false (sym there ∙ ap is_some none))
