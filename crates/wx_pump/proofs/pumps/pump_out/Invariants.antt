use Rattle.std.proofs.Common.{◌≡◌, ℕ}
use Rattle.wx_machine.specs.declared.entries.TheConstants.{LONGEST_SAID}
use Rattle.wx_desk.specs.Desks.{IsSound}
use Rattle.wx_pump.proofs.PumpOutLemmas.{OutSoFar}
use Rattle.wx_pump.proofs.pumps.pump_out.Given as goal

-- what was done so far, and the pump may go on
abbrev pub invariant-loop : goal.invariant-loop
invariant-loop g l = record {
  sound : IsSound (g.D.HostDesk.state l.desk);
  limit : l.reader.limit ≡ LONGEST_SAID;
  so_far : (left : ℕ) × OutSoFar (g.D.HostDesk.going (g.D.HostDesk.state l.fn.desk).who) left (g.D.HostDesk.state l.fn.desk) (g.D.HostDesk.state l.desk) l.fn.reader l.reader (g.O.HostOut.state l.fn.output) (g.O.HostOut.state l.output);
  same_key : g.D.HostDesk.key l.desk ≡ g.D.HostDesk.key l.fn.desk;
}
