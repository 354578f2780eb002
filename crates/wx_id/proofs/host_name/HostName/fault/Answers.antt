use Rattle.wx_id.proofs.HostNameLemmas.{IfSome-host_name_fault, IsNone-host_name_fault}
use Rattle.wx_id.proofs.host_name.HostName.fault.Goals as goal

pub returns-clause-place : goal.returns-clause-place
returns-clause-place c = IfSome-host_name_fault c.scan.result c.args.text.now c.scan.ensures

pub returns-clause-exact : goal.returns-clause-exact
returns-clause-exact c = IsNone-host_name_fault c.scan.result c.args.text.now c.scan.ensures
