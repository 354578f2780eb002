use Rattle.wx_port.specs.Port.{opened}
use Rattle.wx_port.specs.Table.{ports_of}
use Rattle.std.proofs.Common.{◌≡◌, ap, sym, ◌∙◌, refl, length, rules}
use Rattle.wx_port.proofs.TableLater.{open_table, open_ports}
use Rattle.wx_port.proofs.table.open_row.Goals as goal

pub returns-clause-table : goal.returns-clause-table
returns-clause-table c = rw c.push_reserved.ensures.items (open_table c.args.slots.now _ c.args.rows.now.items c.insert_reserved-place.result _ _ c.requires.table c.insert_reserved-place.ensures.was_vacant c.insert_reserved-place.ensures.updates (c.len-number.ensures ∙ search rules) refl)

pub returns-clause-ports : goal.returns-clause-ports
returns-clause-ports c = rw c.push_reserved.ensures.items (open_ports c.args.slots.now _ c.args.rows.now.items c.insert_reserved-place.result _ _ c.requires.table c.insert_reserved-place.ensures.was_vacant c.insert_reserved-place.ensures.updates refl c.requires.same)
