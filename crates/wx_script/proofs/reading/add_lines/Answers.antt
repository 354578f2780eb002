use Rattle.std.proofs.Common.{rules, ◌≡◌, ◌<◌, ◌∙◌, Err, sym, subst, length}
use Rattle.wx_script.specs.declared.draft.LineFault.{LineFault}
use Rattle.wx_script.specs.Adding.{so_far, IsFault}
use Rattle.wx_script.specs.Scene.{text_added}
use Rattle.wx_script.proofs.ReadingLemmas.{lines_added-bad}
use Rattle.wx_script.proofs.reading.add_lines.Goals as goal

pub returns-in-Err-Bad : goal.returns-in-Err-Bad
returns-in-Err-Bad c =
    let d = so_far c.loop-left.draft in
    let line = c.split_line.result.0.now in
    let some : 0 < length c.loop-left.left.now = search rules in
    let refused : text_added d line ≡ Err c.in-Err-Bad.kind = subst (λ (e : LineFault). IsFault e (text_added d line)) c.in-Err-Bad.field-0-is c.in-Err-Bad.ensures.made in
    rw (c.bad.ensures, c.in-Err-Bad.field-0-is) (sym c.loop-left.invariant.reads ∙ lines_added-bad c.loop-left.number d c.in-Err-Bad.kind c.loop-left.left.now line some c.split_line.ensures.line refused)
