use Rattle.std.proofs.Common.{◌≡◌, ℕ}
use Rattle.wx_desk.specs.Desks.{IsSound}
use Rattle.wx_pump.proofs.PumpInLemmas.{InSoFar}
use Rattle.wx_pump.proofs.pumps.pump_in.Given as goal

-- what was done so far, and the pump may go on
abbrev pub invariant-loop : goal.invariant-loop
invariant-loop g l = record {
  sound : IsSound (g.D.HostDesk.state l.desk);
  so_far : (left : ℕ) × InSoFar (g.D.HostDesk.going (g.D.HostDesk.state l.fn.desk).who) left (g.D.HostDesk.state l.fn.desk) (g.D.HostDesk.state l.desk) (g.I.HostIn.state l.fn.input) (g.I.HostIn.state l.input);
  same_key : g.D.HostDesk.key l.desk ≡ g.D.HostDesk.key l.fn.desk;
}
