use Rattle.std.proofs.Common.{◌≡◌, drop}
use Rattle.wx_id.specs.HostNames.{host_name_fault, fault_from}
use Rattle.wx_id.proofs.host_name.scan.Given as goal

abbrev pub invariant-loop-place : goal.invariant-loop-place
invariant-loop-place l = host_name_fault l.text ≡ fault_from l.place l.edge (drop l.place l.text)
