use Rattle.std.proofs.Common.{None}
use Rattle.wx_host_rows.proofs.DeskLemmas.{desk_sound}
use Rattle.wx_host_rows.proofs.pumps.desk_at.Goals as goal

pub returns : goal.returns
returns c = desk_sound c.args.stage None
