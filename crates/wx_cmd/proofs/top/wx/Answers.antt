use Rattle.std.proofs.Common.{rules, ◌≡◌, Some, map, sym}
use Rattle.std.specs.Prelude.{string_bytes}
use Rattle.wx_words.specs.Words.{scene_named}
use Rattle.wx_cmd.proofs.CompleteLemmas.{completes, tells_manifest}
use Rattle.wx_cmd.proofs.top.wx.Goals as goal

pub returns-in-Ok-Some-clause-complete : goal.returns-in-Ok-Some-clause-complete
returns-in-Ok-Some-clause-complete g c =
    let named : scene_named (map string_bytes c.args.words.now) ≡ Some c.in-Ok-Some.scene.now = search rules in
    completes c.one_world.ensures.world c.one_world.ensures.refusal _ _ _ _ _ _ (c.run_named.ensures.headline _ named (sym c.how_asked.ensures))

pub returns-in-Ok-Some-clause-complete_refused : goal.returns-in-Ok-Some-clause-complete_refused
returns-in-Ok-Some-clause-complete_refused g c =
    let named : scene_named (map string_bytes c.args.words.now) ≡ Some c.in-Ok-Some.scene.now = search rules in
    tells_manifest c.one_world.ensures.world c.one_world.ensures.refusal _ _ _ _ _ _ (c.run_named.ensures.headline _ named (sym c.how_asked.ensures))
