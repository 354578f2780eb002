use Rattle.std.proofs.Common.{rules, false}
use Rattle.std.proofs.lemmas.Bool.{false≢true}
use Rattle.wx_port.proofs.OwnLater.{still_self, still_then, room_each}
use Rattle.wx_port.proofs.own.make_room.Goals as goal

pub loop-c-init : goal.loop-c-init
loop-c-init c = record { still = still_self c.args.own.now.items; room = λ d h. absurd (false≢true h) }

pub loop-c-preserved : goal.loop-c-preserved
loop-c-preserved c = record {
  still = still_then c.args.own.now.items c.loop-c.own.items c.make_room_at.new.own.items c.loop-c.invariant.still c.make_room_at.ensures.still;
  room = room_each c.args.of.now c.loop-c.c-index (record { 0 = 0 }) c.loop-c.own.items c.make_room_at.new.own.items c.loop-c-test.true c.make_room_at.ensures.still c.loop-c.invariant.room c.in_ok-make_room_at.ensures.ok;
}

pub returns-in_err-make_room_at-clause-still : goal.returns-in_err-make_room_at-clause-still
returns-in_err-make_room_at-clause-still c = still_then c.args.own.now.items c.loop-c.own.items c.make_room_at.new.own.items c.loop-c.invariant.still c.make_room_at.ensures.still
