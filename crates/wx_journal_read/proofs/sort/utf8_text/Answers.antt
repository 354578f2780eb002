use Rattle.std.proofs.Common.{◌∙◌, ap, Some, refl, sym}
use Rattle.wx_journal_read.proofs.Sorts.{is_text, no_text}
use Rattle.wx_journal_read.proofs.sort.utf8_text.Goals as goal

pub returns-in_ok-new-in-Ok : goal.returns-in_ok-new-in-Ok
returns-in_ok-new-in-Ok c =
    let e = c.in_ok-new-in-Ok.ensures ∙ c.in-Ok.ensures.cases.0 in
    is_text c.args.bytes.now c.in-Ok.ensures.cases.1 ∙ ap Some (sym e)

pub returns-in-Err : goal.returns-in-Err
returns-in-Err c = let none = no_text c.args.bytes.now c.in-Err.ensures.cases.0 in rw none refl
