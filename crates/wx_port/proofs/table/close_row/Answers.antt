use Rattle.std.proofs.Common.{◌≡◌, ap, sym, ◌∙◌, slice_get, Some}
use Rattle.wx_port.specs.Table.{place_of}
use Rattle.wx_port.proofs.TableLater.{closing_lem}
use Rattle.wx_port.proofs.table.close_row.Goals as goal

pub returns-in-Some-clause-table : goal.returns-in-Some-clause-table
returns-in-Some-clause-table c =
    let at : place_of (slice_get c.args.rows.now.items c.args.k) ≡ Some c.in-Some.p = ap (λ r. place_of (slice_get r c.args.k)) (sym c.deref.ensures.value) ∙ sym c.in-Some.ensures.place in
    (closing_lem _ _ _ c.clear_place.new.rows.items c.args.k c.in-Some.p c.requires.table at c.try_remove.ensures.updates c.clear_place.ensures).0

pub returns-in-Some-clause-ports : goal.returns-in-Some-clause-ports
returns-in-Some-clause-ports c =
    let at : place_of (slice_get c.args.rows.now.items c.args.k) ≡ Some c.in-Some.p = ap (λ r. place_of (slice_get r c.args.k)) (sym c.deref.ensures.value) ∙ sym c.in-Some.ensures.place in
    (closing_lem _ _ _ c.clear_place.new.rows.items c.args.k c.in-Some.p c.requires.table at c.try_remove.ensures.updates c.clear_place.ensures).1
