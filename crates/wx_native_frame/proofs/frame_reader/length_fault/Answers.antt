use Rattle.std.proofs.Common.{◌∙◌, sym}
use Rattle.wx_native_frame.specs.Frames.{too_long}
use Rattle.wx_native_frame.proofs.Empty.{empty_trouble}
use Rattle.wx_native_frame.proofs.frame_reader.length_fault.Goals as goal

pub returns-then-len-limit : goal.returns-then-len-limit
returns-then-len-limit c = λ b le e. too_long le (sym e) c.if-len-limit.true

pub returns-then-len-eq0 : goal.returns-then-len-eq0
returns-then-len-eq0 c = λ b le e. empty_trouble b c.args.limit le (e ∙ c.if-len-eq0.true)
