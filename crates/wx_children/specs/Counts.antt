-- What a starter of child programs tells.
use Rattle.std.specs.Prelude.{[], None}
use Rattle.wx_children.specs.declared.starter.Counts.{Counts}
use Rattle.wx_host_launch.specs.Records.{HostRecord, StarterState, empty_record, for_slot}

-- the record with these counts, which tells no bytes
abbrev pub record_of : Counts → HostRecord
record_of counts = record {
  account = None;
  starts = counts.starts;
  failed_starts = counts.failed_starts;
  failed_reads = counts.failed_reads;
  failed_writes = counts.failed_writes;
}

-- a starter that has started nothing and taken nothing over
abbrev pub fresh_starter : StarterState
fresh_starter = for_slot None (empty_record None)
