use Rattle.std.proofs.Common.{◌∙◌, ◌++◌, sym, ap, subst, arith}
use Rattle.std.proofs.lemmas.Result.{err_from_is_err_and}
use Rattle.wx_native_frame.specs.Frames.{Unfinished, StopsAt}
use Rattle.wx_native_frame.proofs.ReaderLaws.{early_head, head_goes_on, head_refuses, fresh, head_stops_behind, hands_on}
use Rattle.wx_native_frame.proofs.frame_reader.FrameReader.step_in_head.Goals as goal

pub returns-then-len-lt4-clause-whole : goal.returns-then-len-lt4-clause-whole
returns-then-len-lt4-clause-whole c =
    let early = early_head c.self.inside c.args.self.now c.self.view_is c.requires in
    let g = head_goes_on c.self.inside c.args.piece.now c.with-head.result c.min-used.result c.self.invariant early (omega arith) c.with-head.ensures (omega arith) in
    (g.all, g.left_is ∙ ap (λ (v : Unfinished). v.bytes ++ c.args.piece.now) c.self.view_is, g.under_way)

pub returns-in-Some-clause-fault : goal.returns-in-Some-clause-fault
returns-in-Some-clause-fault c = λ _.
    let early = early_head c.self.inside c.args.self.now c.self.view_is c.requires in
    let P : Unfinished → Type 0 = λ v. StopsAt v.limit v.bytes c.args.piece.now c.in-Some.fault (c.with-head.result ++ c.self.inside.text.items) in
    subst P c.self.view_is (head_refuses c.self.inside c.args.piece.now c.with-head.result c.min-used.result c.in-Some.fault c.self.invariant early (omega arith) c.with-head.ensures (omega arith) (c.in-Some.ensures c.with-head.result (omega arith) (sym c.length-len.ensures.told)))

pub invariant_of-self-2 : goal.invariant_of-self-2
invariant_of-self-2 c =
    let early = early_head c.self.inside c.args.self.now c.self.view_is c.requires in
    fresh _ c.self.invariant.limit (omega arith) (c.self.invariant.early early).fault (omega (arith, c.in_default.ensures)) (omega (arith, c.in_default.ensures)) c.in-Ok.ensures.items (omega (arith, c.in-Ok.ensures.capacity)) c.restart.ensures.stands c.restart.ensures.count

pub returns-in_err-more-clause-fault : goal.returns-in_err-more-clause-fault
returns-in_err-more-clause-fault c =
    let early = early_head c.self.inside c.args.self.now c.self.view_is c.requires in
    let p = err_from_is_err_and c.from_residual.result c.from_residual.ensures.1 in
    let P : Unfinished → Type 0 = λ v. StopsAt v.limit v.bytes c.args.piece.now c.in_err-more.field-0.0 c.step_in_text.new.self.bytes in
    rw (p.1, p.2) (λ _. subst P c.self.view_is (head_stops_behind c.self.inside c.args.piece.now c.with-head.result c.in-Ok.text.items c.step_in_text.new.self.bytes c.min-used.result c.in_err-more.field-0.0 c.self.invariant early (omega arith) c.with-head.ensures (omega arith) c.in-Ok.ensures.items c.in_err-more.ensures.fault))

pub returns-clause-frame : goal.returns-clause-frame
returns-clause-frame c =
    let early = early_head c.self.inside c.args.self.now c.self.view_is c.requires in
    hands_on c.self.inside c.args.self.now c.args.piece.now c.with-head.result c.in-Ok.text.items c.step_in_text.new.self.bytes c.in_ok-more.field-0.frame c.min-used.result c.in_ok-more.field-0.used c.self.invariant c.self.view_is early (omega arith) c.with-head.ensures c.in-Ok.ensures.items c.in_ok-more.ensures.frame
