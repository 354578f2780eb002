-- The texts for a native host, which of them it took, and whether it ended.
use Rattle.std.specs.Prelude.{length, List, [], ◌∷◌, ◌++◌, Bool, true, false, not, ◌&&◌, ◌||◌, cond, Option, Some, None, filter, ◌==◌}
use Rattle.std.specs.List.{list_any}
use Rattle.wx_id.specs.declared.numbers.HostNo.{HostNo}
use Rattle.wx_id.specs.declared.numbers.EntryNo.{EntryNo}
use Rattle.wx_machine.specs.declared.entries.Who.{Who}
use Rattle.wx_machine.specs.declared.entries.Who.TheVariants.{Context as ByContext}
use Rattle.wx_machine.specs.declared.entries.Call.{Call}
use Rattle.wx_machine.specs.declared.entries.Call.TheVariants.{Post, SendNative, HostTake, HostSaid, HostEnded}
use Rattle.wx_machine.specs.declared.entries.Answer.{Answer}
use Rattle.wx_machine.specs.declared.entries.Answer.TheVariants.{Posted, PortClosed, Request as OnRequest, Text as HasText, End as NoMore}
use Rattle.wx_machine.specs.declared.entries.Entry.{Entry}
use Rattle.wx_machine.specs.declared.work.Work.{Work}
use Rattle.wx_machine.specs.declared.work.Work.TheVariants.{Channel as ForChannel, Request as ForRequest}
use Rattle.wx_machine.specs.Hosts.{hosts, work_of, is_for_channel, is_by_host}
use Rattle.wx_machine.specs.Closing.{is_closed}
use Rattle.wx_machine.specs.Settling.{is_settled}
use Rattle.wx_machine.specs.Each.{first}

abbrev pub is_host_end : Call → Bool
is_host_end (HostEnded reason) = true
is_host_end _ = false

-- host h ended
abbrev pub has_ended : List Entry → HostNo → Bool
has_ended [] h = false
has_ended (e ∷ past) h = has_ended past h || (is_host_end e.call && is_by_host e.who h)

-- the entry holds a text for host h: a message that was posted on its channel, or the request that started it
abbrev pub is_text_for : List Entry → Who → Call → Answer → HostNo → Bool
is_text_for past (ByContext c) (Post k text) Posted h = is_for_channel k.0 (work_of past h)
is_text_for past (ByContext c) (SendNative name text) (OnRequest r) h = length (hosts past) == h.0
is_text_for past _ _ _ h = false

-- the entries with the texts for host h
abbrev pub texts_for : List Entry → HostNo → List EntryNo
texts_for [] h = []
texts_for (e ∷ past) h = texts_for past h ++ cond (is_text_for past e.who e.call e.answer h)
    (record { 0 = length past } ∷ []) []

abbrev pub text_taken : Call → Answer → Bool → List EntryNo
text_taken HostTake (HasText n) true = n ∷ []
text_taken _ _ _ = []

-- those whose texts it took
abbrev pub texts_taken : List Entry → HostNo → List EntryNo
texts_taken [] h = []
texts_taken (e ∷ past) h = texts_taken past h ++ text_taken e.call e.answer (is_by_host e.who h)

-- host h took the text in that entry
abbrev pub has_taken : List Entry → HostNo → EntryNo → Bool
has_taken past h n = list_any (λ t. t.0 == n.0) (texts_taken past h)

-- those whose texts it did not take
abbrev pub texts_left : List Entry → HostNo → List EntryNo
texts_left past h = filter (λ n. not (has_taken past h n)) (texts_for past h)

-- the entry with the next text for host h, unless it ended
abbrev pub next_text : List Entry → HostNo → Option EntryNo
next_text past h = cond (has_ended past h) None (first (texts_left past h))

-- no text comes any more for what a host works for
abbrev pub is_over : List Entry → Option Work → Bool
is_over past None = false
is_over past (Some (ForChannel k)) = is_closed past k.0
is_over past (Some (ForRequest r)) = is_settled past r.0

abbrev pub was_told_end : Call → Answer → Bool
was_told_end HostTake NoMore = true
was_told_end _ _ = false

-- a take of host h was answered that no text comes any more
abbrev pub knows_end : List Entry → HostNo → Bool
knows_end [] h = false
knows_end (e ∷ past) h = knows_end past h || (was_told_end e.call e.answer && is_by_host e.who h)

abbrev pub was_said_closed : Call → Answer → Bool
was_said_closed (HostSaid text) PortClosed = true
was_said_closed _ _ = false

-- a message of host h was answered that its channel is closed
abbrev pub said_closed : List Entry → HostNo → Bool
said_closed [] h = false
said_closed (e ∷ past) h = said_closed past h || (was_said_closed e.call e.answer && is_by_host e.who h)
