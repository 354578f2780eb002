-- Calls that change no table.
use Rattle.std.specs.Prelude.{Bool, true, false, not}
use Rattle.wx_machine.specs.declared.entries.Call.{Call}
use Rattle.wx_machine.specs.declared.entries.Call.TheVariants.{Enter, Listen, Leave, Connect, Post, Disconnect, Send, Reply, Decline, Take, ConnectNative, SendNative, HostTake, HostSaid, HostEnded}
use Rattle.wx_machine.specs.declared.entries.Answer.{Answer}
use Rattle.wx_machine.specs.declared.entries.Answer.TheVariants.{Gone, Posted, Empty, Ignored, Already}
use Rattle.wx_broker.specs.Tables.{is_channel, is_done, is_event, is_first, is_request}

abbrev pub is_posted : Answer → Bool
is_posted Posted = true
is_posted _ = false

abbrev pub is_gone : Answer → Bool
is_gone Gone = true
is_gone _ = false

abbrev pub is_empty : Answer → Bool
is_empty Empty = true
is_empty _ = false

abbrev pub is_ignored : Answer → Bool
is_ignored Ignored = true
is_ignored _ = false

abbrev pub is_already : Answer → Bool
is_already Already = true
is_already _ = false

-- a call with that answer changes nothing but the journal
abbrev pub is_calm : Call → Answer → Bool
is_calm (Enter x) answer = false
is_calm (Listen l) answer = is_gone answer
is_calm Leave answer = is_gone answer
is_calm (Connect target name) answer = not (is_channel answer)
is_calm (Post k text) answer = not (is_posted answer)
is_calm (Disconnect k) answer = not (is_done answer)
is_calm (Send target text) answer = not (is_request answer)
is_calm (Reply r text) answer = not (is_first answer)
is_calm (Decline r) answer = not (is_done answer)
is_calm Take answer = not (is_event answer)
is_calm (ConnectNative name) answer = not (is_channel answer)
is_calm (SendNative name text) answer = not (is_request answer)
is_calm HostTake answer = is_empty answer
is_calm (HostSaid text) answer = is_ignored answer
is_calm (HostEnded reason) answer = is_already answer
