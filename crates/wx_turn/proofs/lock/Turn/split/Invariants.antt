use Rattle.std.proofs.Common.{◌≡◌, ◌≤◌}
use Rattle.wx_turn.proofs.lock.Turn.split.Given as goal

abbrev pub invariant-loop : goal.invariant-loop
invariant-loop g l = (l.place.table_id ≡ l.initial.place.table_id) × (l.place.me ≡ l.initial.place.me)
    × (l.seat.place.table_id ≡ l.fn.seat.place.table_id) × (l.seat.number ≡ l.fn.seat.number)
    × (l.seat.place.me ≡ (record l.fn.seat.place.me.0 { known_seats = l.seat.place.me.0.known_seats }, l.fn.seat.place.me.1))
    × (l.fn.seat.place.me.0.known_seats ≤ l.seat.place.me.0.known_seats)
