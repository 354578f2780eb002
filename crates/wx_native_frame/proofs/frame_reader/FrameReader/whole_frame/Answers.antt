use Rattle.std.proofs.Common.{arith}
use Rattle.wx_native_frame.proofs.ReaderLaws.{whole_ends}
use Rattle.wx_native_frame.proofs.frame_reader.FrameReader.whole_frame.Goals as goal

pub returns-clause-frame : goal.returns-clause-frame
returns-clause-frame c =
    let e = c.in_ok-text.ensures in
    whole_ends c.self.inside c.args.self.now c.args.piece.now c.in_ok-text.text.now c.text_of.result c.self.invariant c.self.view_is (omega (arith, c.len.ensures.len, c.if-len-gt0.false)) e.0 e.1 e.2 c.text_of.ensures
