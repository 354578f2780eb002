use Rattle.wx_native_frame.proofs.FrameLaws.{trouble_no_frame}
use Rattle.wx_native_frame.proofs.SplitLaws.{one_split, split_nothing, split_frame, split_rest}
use Rattle.wx_native_frame.proofs.laws.one_split.Goals as goal
use Rattle.std.proofs.Common.{◌++◌}

pub returns-clause-one : goal.returns-clause-one
returns-clause-one c = one_split

pub returns-clause-start : goal.returns-clause-start
returns-clause-start c = split_nothing

pub returns-clause-frame : goal.returns-clause-frame
returns-clause-frame c = split_frame

pub returns-clause-whole : goal.returns-clause-whole
returns-clause-whole c = λ limit s ts r b h u. split_rest limit s ts r b h u.no_frame

pub returns-clause-fault : goal.returns-clause-fault
returns-clause-fault c = λ limit s ts r b f small h t. split_rest limit s ts r b h (trouble_no_frame (r ++ b) limit f small t)
