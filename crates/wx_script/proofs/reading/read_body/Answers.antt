use Rattle.std.proofs.Common.{◌≡◌, ◌∙◌, Ok, ap, sym}
use Rattle.wx_script.specs.Adding.{so_far}
use Rattle.wx_script.specs.Draft.{fresh}
use Rattle.wx_script.specs.Scene.{lines_of, lines_added}
use Rattle.wx_script.proofs.SoundLemmas.{sound_scripts}
use Rattle.wx_script.proofs.reading.read_body.Goals as goal

pub new-requires : goal.new-requires
new-requires c =
    let made : lines_added 2 fresh (lines_of c.args.text.now) ≡ Ok (so_far c.add_lines.new.draft) =
    ap (λ d. lines_added 2 d (lines_of c.args.text.now)) (sym c.new-draft.ensures.fresh) ∙ c.in-Ok.ensures in
    sound_scripts 2 (so_far c.add_lines.new.draft) (lines_of c.args.text.now) made
