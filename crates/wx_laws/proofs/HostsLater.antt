-- Native hosts, one entry later.
use Rattle.std.proofs.Common.{◌≡◌, ◌+◌, List, ◌∷◌, length, cond}
use Rattle.std.specs.Prelude.{◌&&◌, is_some, ◌==◌}
use Rattle.wx_id.specs.declared.numbers.HostNo.{HostNo}
use Rattle.wx_machine.specs.declared.entries.Entry.{Entry}
use Rattle.wx_machine.specs.Words.{starts, hosts, work_in, work_of}
use Rattle.wx_laws.proofs.ChannelsLater.{length_options, place_more}

-- how many hosts there are after one more entry
pub hosts_more : (e : Entry) (past : List Entry) → length (hosts (e ∷ past)) ≡ cond (is_some (starts past e)) (length (hosts past) + 1) (length (hosts past))
hosts_more e past = length_options (hosts past) (starts past e)

-- what host h works for after one more entry
pub work_more : (e : Entry) (past : List Entry) (h : HostNo) → work_of (e ∷ past) h ≡ cond ((length (hosts past) == h.0) && is_some (starts past e)) (work_in (starts past e)) (work_of past h)
work_more e past h = place_more work_in (hosts past) (starts past e) h.0
