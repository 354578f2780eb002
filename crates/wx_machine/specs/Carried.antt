-- The JSON texts that entries carry.
use Rattle.std.specs.Prelude.{ℕ, List, Option, Some, None, slice_get, reverse}
use Rattle.wx_id.specs.declared.numbers.EntryNo.{EntryNo}
use Rattle.wx_machine.specs.declared.entries.Call.{Call}
use Rattle.wx_machine.specs.declared.entries.Call.TheVariants.{Post, Send, Reply, SendNative, HostSaid}
use Rattle.wx_machine.specs.declared.entries.Entry.{Entry}

-- the JSON text that a call carries
abbrev pub text_in : Call → Option (List ℕ)
text_in (Post k text) = Some text
text_in (Send target text) = Some text
text_in (Reply r text) = Some text
text_in (SendNative name text) = Some text
text_in (HostSaid text) = Some text
text_in _ = None

abbrev pub text_carried : Option Entry → Option (List ℕ)
text_carried None = None
text_carried (Some e) = text_in e.call

-- the JSON text that the entry with this number carries
abbrev pub text_of : List Entry → EntryNo → Option (List ℕ)
text_of past e = text_carried (slice_get (reverse past) e.0)
