use Rattle.std.proofs.Common.{◌≡◌}
use Rattle.wx_desk.specs.Desks.{IsSound}
use Rattle.wx_endpoint.specs.Turn.{StandsBehind}
use Rattle.wx_work.specs.Work.{IsLater}
use Rattle.wx_work.proofs.work.work_endpoint.Given as goal

abbrev pub invariant-loop : goal.invariant-loop
invariant-loop g l = record {
  sound : IsSound (g.D.Desk.state l.desk);
  behind : StandsBehind l.cursor (g.D.Desk.state l.desk);
  later : IsLater (g.D.Desk.state l.fn.desk) (g.D.Desk.state l.desk);
  same_script : l.cursor.script ≡ l.fn.cursor.script;
  same_key : g.D.Desk.key l.desk ≡ g.D.Desk.key l.fn.desk;
}
