use Rattle.std.proofs.Common.{◌∙◌, ◌++◌, refl, ap, sym, subst, arith}
use Rattle.wx_native_frame.specs.Frames.{Unfinished, length_bytes, StopsAt, EndsFrame}
use Rattle.wx_native_frame.specs.declared.FrameFault.TheVariants.{BadJson}
use Rattle.wx_native_frame.proofs.StepLaws.{stops_already}
use Rattle.wx_native_frame.proofs.ReaderLaws.{reading, read_fault, reads_on, reads_whole, reads_cut, stopped}
use Rattle.wx_native_frame.proofs.frame_reader.FrameReader.step_in_text.Goals as goal

pub returns-in-Some-clause-fault : goal.returns-in-Some-clause-fault
returns-in-Some-clause-fault c =
    let P : Unfinished → Type 0 = λ v. StopsAt v.limit v.bytes c.args.piece.now c.in-Some.fault v.bytes in
    subst P c.self.view_is (stops_already c.self.inside.limit _ c.args.piece.now c.in-Some.fault (c.self.invariant.broken c.in-Some.fault c.in-Some.is))

pub invariant_of-self : goal.invariant_of-self
invariant_of-self c =
    let a = c.self.inside in
    let r = reading a c.args.self.now c.self.invariant c.self.view_is c.requires c.in_default.not-Some in
    stopped a _ c.args.piece.now (BadJson c.in-Err.found) c.self.invariant refl r.1 refl (read_fault a c.args.piece.now c.read_on.new.text.items c.min-used.result c.in-Err.found c.self.invariant r.0 r.1 (omega arith) c.in-Err.ensures.fault c.in-Err.ensures.left)

pub returns-in-Err-clause-fault : goal.returns-in-Err-clause-fault
returns-in-Err-clause-fault c =
    let a = c.self.inside in
    let r = reading a c.args.self.now c.self.invariant c.self.view_is c.requires c.in_default.not-Some in
    let P : Unfinished → Type 0 = λ v. StopsAt v.limit v.bytes c.args.piece.now (BadJson c.in-Err.found) (c.self.inside.head ++ c.read_on.new.text.items) in
    subst P c.self.view_is (read_fault a c.args.piece.now c.read_on.new.text.items c.min-used.result c.in-Err.found c.self.invariant r.0 r.1 (omega arith) c.in-Err.ensures.fault c.in-Err.ensures.left)

pub returns-then-len-clause-whole : goal.returns-then-len-clause-whole
returns-then-len-clause-whole c =
    let a = c.self.inside in
    let r = reading a c.args.self.now c.self.invariant c.self.view_is c.requires c.in_default.not-Some in
    let k = c.in_default-read_on.ensures in
    let g = reads_on a c.args.piece.now c.read_on.new.text.items c.min-used.result c.self.invariant r.0 r.1 (omega arith) k.text (omega arith) k.reads.start in
    (g.all, g.left_is ∙ ap (λ (v : Unfinished). v.bytes ++ c.args.piece.now) c.self.view_is, g.under_way)

pub invariant_of-self-in-Err-take_whole : goal.invariant_of-self-in-Err-take_whole
invariant_of-self-in-Err-take_whole c =
    let a = c.self.inside in
    let r = reading a c.args.self.now c.self.invariant c.self.view_is c.requires c.in_default.not-Some in
    let k = c.in_default-read_on.ensures in
    stopped a _ c.args.piece.now (BadJson c.in-Err-take_whole.found) c.self.invariant refl r.1 refl (reads_cut a c.args.piece.now c.read_on.new.text.items c.take_whole.new.text.items c.min-used.result c.in-Err-take_whole.found c.self.invariant r.0 r.1 (omega arith) k.text (omega arith) k.reads.start c.in-Err-take_whole.ensures.err c.in-Err-take_whole.ensures.left)

pub returns-in-Ok-clause-frame : goal.returns-in-Ok-clause-frame
returns-in-Ok-clause-frame c =
    let a = c.self.inside in
    let r = reading a c.args.self.now c.self.invariant c.self.view_is c.requires c.in_default.not-Some in
    let k = c.in_default-read_on.ensures in
    let P : Unfinished → Type 0 = λ v. EndsFrame v.limit v.bytes c.args.piece.now c.min-used.result c.in-Ok.text in
    let ends = reads_whole a c.args.piece.now c.read_on.new.text.items c.in-Ok.text c.min-used.result c.self.invariant r.0 (omega arith) k.text (omega arith) (ap length_bytes (sym c.length-len.ensures.told) ∙ c.length-len.ensures.bytes) c.in-Ok.ensures.ok.0 c.in-Ok.ensures.ok.1 in
    (subst P c.self.view_is ends, ap (λ h. h ++ c.take_whole.new.text.items) c.new-self-inside.ensures ∙ c.in-Ok.ensures.taken)

pub returns-in-Err-take_whole-clause-fault : goal.returns-in-Err-take_whole-clause-fault
returns-in-Err-take_whole-clause-fault c =
    let a = c.self.inside in
    let r = reading a c.args.self.now c.self.invariant c.self.view_is c.requires c.in_default.not-Some in
    let k = c.in_default-read_on.ensures in
    let P : Unfinished → Type 0 = λ v. StopsAt v.limit v.bytes c.args.piece.now (BadJson c.in-Err-take_whole.found) (c.self.inside.head ++ c.take_whole.new.text.items) in
    subst P c.self.view_is (reads_cut a c.args.piece.now c.read_on.new.text.items c.take_whole.new.text.items c.min-used.result c.in-Err-take_whole.found c.self.invariant r.0 r.1 (omega arith) k.text (omega arith) k.reads.start c.in-Err-take_whole.ensures.err c.in-Err-take_whole.ensures.left)
