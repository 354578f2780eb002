use Rattle.std.proofs.Common.{◌∙◌, sym, ◌≤◌}
use Rattle.wx_id.specs.ByContext.{EachHas}
use Rattle.wx_tables.proofs.OpeningLater.{roomier_owed, roomier_queues, ok_holds}
use Rattle.wx_tables.proofs.TellingLater.{all_there, owed_told, queues_told}
use Rattle.wx_tables.proofs.telling.tell_all.Goals as goal

pub make_room-requires : goal.make_room-requires
make_room-requires c = all_there c.args.to.now c.args.boxes.now.items c.requires.there

pub returns-then-is_err-clause-owed : goal.returns-then-is_err-clause-owed
returns-then-is_err-clause-owed c = roomier_owed c.args.ports.now c.args.requests.now c.args.boxes.now.items c.make_room.new.boxes.items c.requires.owed c.make_room.ensures.kept

pub returns-then-is_err-clause-same : goal.returns-then-is_err-clause-same
returns-then-is_err-clause-same c = roomier_queues c.args.boxes.now.items c.make_room.new.boxes.items c.make_room.ensures.kept

pub tell-requires-clause-room : goal.tell-requires-clause-room
tell-requires-clause-room c =
    let room : EachHas (λ b. 1 ≤ b.room) c.args.to.now c.make_room.new.boxes.items = ok_holds c.make_room.result c.make_room.ensures.ok (sym c.is_err.ensures.value ∙ c.if-is_err.false) in
    room

pub returns-clause-owed : goal.returns-clause-owed
returns-clause-owed c = owed_told c.args.ports.now c.args.requests.now c.args.to.now c.args.e c.make_room.new.boxes.items c.tell.new.boxes.items (roomier_owed c.args.ports.now c.args.requests.now c.args.boxes.now.items c.make_room.new.boxes.items c.requires.owed c.make_room.ensures.kept) c.tell.ensures

pub returns-clause-queues : goal.returns-clause-queues
returns-clause-queues c = rw (← roomier_queues c.args.boxes.now.items c.make_room.new.boxes.items c.make_room.ensures.kept) (queues_told c.args.to.now c.args.e c.make_room.new.boxes.items c.tell.new.boxes.items c.tell.ensures)
