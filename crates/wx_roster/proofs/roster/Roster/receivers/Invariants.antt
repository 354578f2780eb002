use Rattle.std.proofs.Common.{◌≡◌, take}
use Rattle.std.specs.Prelude.{filter}
use Rattle.wx_roster.specs.Places.{is_wanted}
use Rattle.wx_roster.proofs.roster.Roster.receivers.Given as goal

abbrev pub invariant-loop-d : goal.invariant-loop-d
invariant-loop-d l = l.found.items ≡ filter (is_wanted l.self l.c l.whom l.sort) (take l.d-index l.named)
