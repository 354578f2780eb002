use Rattle.wx_port.specs.Table.{ports_of}
use Rattle.wx_port.proofs.TableLater.{fewer_lem}
use Rattle.wx_port.proofs.table.fewer_row.Goals as goal

pub returns-clause-table : goal.returns-clause-table
returns-clause-table c = (fewer_lem _ c.drop_live.new.slots _ c.args.k c.args.p c.args.c c.requires.table c.requires.place c.drop_live.ensures.updates c.drop_live.ensures.live).0

pub returns-clause-ports : goal.returns-clause-ports
returns-clause-ports c = (fewer_lem _ c.drop_live.new.slots _ c.args.k c.args.p c.args.c c.requires.table c.requires.place c.drop_live.ensures.updates c.drop_live.ensures.live).1
