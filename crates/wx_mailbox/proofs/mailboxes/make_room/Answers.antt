use Rattle.std.proofs.Common.{◌<◌, ◌≤◌, get_or, take, rules}
use Rattle.std.proofs.lemmas.List.{take_more}
use Rattle.wx_mailbox.proofs.MailboxesLater.{roomier_self, roomier_then, room_stays, room_more, there_still}
use Rattle.wx_id.proofs.ByContextLemmas.{each_within}
use Rattle.wx_mailbox.proofs.mailboxes.make_room.Goals as goal

pub loop-c-init : goal.loop-c-init
loop-c-init c = record { kept = roomier_self c.args.boxes.now.items; room = λ d h. search rules }

pub make_room_at-requires : goal.make_room_at-requires
make_room_at-requires c =
    there_still c.args.boxes.now.items c.loop-c.boxes.items (get_or c.args.to.now c.loop-c.c-index (record { 0 = 0 })).0 c.loop-c.invariant.kept
    (each_within (λ b. 0 ≤ b.room) c.args.to.now c.loop-c.c-index (record { 0 = 0 }) c.args.boxes.now.items c.requires c.loop-c-test.true)

pub loop-c-preserved : goal.loop-c-preserved
loop-c-preserved c =
    let to = c.args.to.now in
    let i = c.loop-c.c-index in
    let x = get_or to i (record { 0 = 0 }) in
    record {
      kept = roomier_then c.args.boxes.now.items c.loop-c.boxes.items c.make_room_at.new.boxes.items c.loop-c.invariant.kept c.make_room_at.ensures.kept;
      room = rw (take_more to i (record { 0 = 0 }) c.loop-c-test.true) (room_more c.args.n (take i to) x c.make_room_at.new.boxes.items (room_stays c.args.n (take i to) c.loop-c.boxes.items c.make_room_at.new.boxes.items c.make_room_at.ensures.kept c.loop-c.invariant.room) c.in_ok-make_room_at.ensures.ok);
    }

pub returns-in_err-make_room_at-clause-kept : goal.returns-in_err-make_room_at-clause-kept
returns-in_err-make_room_at-clause-kept c = roomier_then c.args.boxes.now.items c.loop-c.boxes.items c.make_room_at.new.boxes.items c.loop-c.invariant.kept c.make_room_at.ensures.kept
