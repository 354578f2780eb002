use Rattle.std.proofs.Common.{◌≡◌, ◌<◌, take, true}
use Rattle.std.specs.Prelude.{slice_get}
use Rattle.wx_id.specs.declared.numbers.ContextNo.{ContextNo}
use Rattle.wx_id.specs.Contexts.{is_among}
use Rattle.wx_port.specs.Numbers.{AreStill, room_in}
use Rattle.wx_port.proofs.own.make_room.Given as goal

abbrev pub invariant-loop-c : goal.invariant-loop-c
invariant-loop-c l = record { still : AreStill l.initial.own.items l.own.items; room : (d : ContextNo) → is_among (take l.c-index l.of) d ≡ true → 0 < room_in (slice_get l.own.items d.0) }
