use Rattle.std.proofs.Common.{ap, sym, subst}
use Rattle.wx_pump.specs.Workers.{HostTask, IsDone, IsGood, task_in}
use Rattle.wx_pump.proofs.worker.finish_host.Goals as goal

pub returns-in-Runs : goal.returns-in-Runs
returns-in-Runs g c =
    let T : HostTask → Type 0 = λ t. IsDone g.P.Starter.state g.D.HostDesk.state g.D.HostDesk.told g.D.HostDesk.key g.P.In.HostIn.state g.P.Out.HostOut.state g.D.HostDesk.going t c.join.result in
    subst T (sym (ap (task_in g.P.Starter.state g.D.HostDesk.state g.D.HostDesk.told g.D.HostDesk.key) c.in-Runs.is)) c.join.ensures

pub returns : goal.returns
returns g c =
    let T : HostTask → Type 0 = λ t. IsDone g.P.Starter.state g.D.HostDesk.state g.D.HostDesk.told g.D.HostDesk.key g.P.In.HostIn.state g.P.Out.HostOut.state g.D.HostDesk.going t c.in-Ran.done in
    let done = subst (IsGood g.P.Starter.state g.D.HostDesk.state g.D.HostDesk.told g.D.HostDesk.key g.P.In.HostIn.state g.P.Out.HostOut.state g.D.HostDesk.going) c.in-Ran.is c.requires in
    subst T (sym (ap (task_in g.P.Starter.state g.D.HostDesk.state g.D.HostDesk.told g.D.HostDesk.key) c.in-Ran.is)) done
