use Rattle.std.proofs.Common.{◌∙◌, sym, ◌≤◌}
use Rattle.wx_id.specs.ByContext.{EachHas}
use Rattle.wx_mailbox.proofs.MailboxesLater.{roomier_then, room_stays}
use Rattle.wx_tables.proofs.OpeningLater.{receivers_there, opener_there, ok_holds, on_ok}
use Rattle.wx_tables.proofs.opening.make_room.Goals as goal

pub make_room-requires : goal.make_room-requires
make_room-requires c = receivers_there c.args.opener c.args.receivers.now c.args.boxes.now.items c.requires

pub make_room-requires-2 : goal.make_room-requires-2
make_room-requires-2 c = opener_there c.args.opener c.args.receivers.now c.args.boxes.now.items c.make_room.new.boxes.items c.requires c.make_room.ensures.kept

pub returns-clause-kept : goal.returns-clause-kept
returns-clause-kept c = roomier_then c.args.boxes.now.items c.make_room.new.boxes.items c.make_room-2.new.boxes.items c.make_room.ensures.kept c.make_room-2.ensures.kept

pub returns-clause-receivers : goal.returns-clause-receivers
returns-clause-receivers c =
    let first : EachHas (λ b. c.args.n ≤ b.room) c.args.receivers.now c.make_room.new.boxes.items = ok_holds c.make_room.result c.make_room.ensures.ok (sym c.is_err.ensures.value ∙ c.if-is_err.false) in
    on_ok c.make_room-2.result (λ _. room_stays c.args.n c.args.receivers.now c.make_room.new.boxes.items c.make_room-2.new.boxes.items c.make_room-2.ensures.kept first) c.make_room-2.ensures.ok
