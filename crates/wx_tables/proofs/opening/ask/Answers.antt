use Rattle.std.proofs.Common.{◌∙◌, refl, sym, [], ◌∷◌, ◌<◌}
use Rattle.wx_id.specs.declared.events.EventKind.TheVariants as kind
use Rattle.wx_one_shot.specs.Requests.{asked}
use Rattle.wx_id.specs.ByContext.{EachHas}
use Rattle.wx_mailbox.specs.Mailbox.{told}
use Rattle.wx_tables.specs.State.{in_entry}
use Rattle.wx_tables.proofs.OpeningLater.{roomier_owed, roomier_queues, last_open, owed_asked, queues_begun, ok_holds}
use Rattle.wx_tables.proofs.opening.ask.Goals as goal

pub returns-then-is_err-clause-owed : goal.returns-then-is_err-clause-owed
returns-then-is_err-clause-owed c = roomier_owed c.args.ports.now c.args.requests.now c.args.boxes.now.items c.make_room.new.boxes.items c.requires.owed c.make_room.ensures.kept

pub returns-then-is_err-clause-same_queues : goal.returns-then-is_err-clause-same_queues
returns-then-is_err-clause-same_queues c = roomier_queues c.args.boxes.now.items c.make_room.new.boxes.items c.make_room.ensures.kept

pub returns-in_default-clause-owed : goal.returns-in_default-clause-owed
returns-in_default-clause-owed c = rw c.in_default.ensures.err (roomier_owed c.args.ports.now c.args.requests.now c.args.boxes.now.items c.make_room.new.boxes.items c.requires.owed c.make_room.ensures.kept)

pub returns-in_default-clause-same_queues : goal.returns-in_default-clause-same_queues
returns-in_default-clause-same_queues c = roomier_queues c.args.boxes.now.items c.make_room.new.boxes.items c.make_room.ensures.kept

pub tell_asked-requires-clause-distinct : goal.tell_asked-requires-clause-distinct
tell_asked-requires-clause-distinct c = rw (last_open c.args.requests.now c.ask.new.self (asked c.args.asker c.args.receivers.items) c.in-Ok.r.0 c.in-Ok.ensures.number c.in-Ok.ensures.ok) c.requires.distinct

pub tell_asked-requires-clause-other : goal.tell_asked-requires-clause-other
tell_asked-requires-clause-other c = rw (last_open c.args.requests.now c.ask.new.self (asked c.args.asker c.args.receivers.items) c.in-Ok.r.0 c.in-Ok.ensures.number c.in-Ok.ensures.ok) c.requires.other

pub tell_asked-requires-clause-receivers : goal.tell_asked-requires-clause-receivers
tell_asked-requires-clause-receivers c =
    let room : EachHas (λ b. 0 < b.room) c.deref.result.now c.make_room.new.boxes.items = ok_holds c.make_room.result c.make_room.ensures.receivers (sym c.is_err.ensures.value ∙ c.if-is_err.false) in
    rw (last_open c.args.requests.now c.ask.new.self (asked c.args.asker c.args.receivers.items) c.in-Ok.r.0 c.in-Ok.ensures.number c.in-Ok.ensures.ok) (rw c.deref.ensures.value at room)

pub returns-clause-owed : goal.returns-clause-owed
returns-clause-owed c =
    let live = last_open c.args.requests.now c.ask.new.self (asked c.args.asker c.args.receivers.items) c.in-Ok.r.0 c.in-Ok.ensures.number c.in-Ok.ensures.ok in
    let own : EachHas (λ b. 0 < b.room) (c.args.asker ∷ []) c.make_room.new.boxes.items = ok_holds c.make_room.result c.make_room.ensures.opener (sym c.is_err.ensures.value ∙ c.if-is_err.false) in
    owed_asked c.args.ports.now c.args.requests.now c.ask.new.self c.make_room.new.boxes.items c.tell_asked.new.boxes.items c.args.asker c.args.receivers.items (in_entry c.args.n (kind.Asked c.in-Ok.r))
    (roomier_owed c.args.ports.now c.args.requests.now c.args.boxes.now.items c.make_room.new.boxes.items c.requires.owed c.make_room.ensures.kept) own (rw live at c.tell_asked.ensures) c.in-Ok.ensures.ok

pub returns-clause-queues : goal.returns-clause-queues
returns-clause-queues c =
    let live = last_open c.args.requests.now c.ask.new.self (asked c.args.asker c.args.receivers.items) c.in-Ok.r.0 c.in-Ok.ensures.number c.in-Ok.ensures.ok in
    rw (← roomier_queues c.args.boxes.now.items c.make_room.new.boxes.items c.make_room.ensures.kept)
    (queues_begun (told (in_entry c.args.n (kind.Asked c.in-Ok.r))) c.args.asker c.args.receivers.items (in_entry c.args.n (kind.Asked c.in-Ok.r)) c.make_room.new.boxes.items c.tell_asked.new.boxes.items (λ b. refl) c.requires.other (rw live at c.tell_asked.ensures))
