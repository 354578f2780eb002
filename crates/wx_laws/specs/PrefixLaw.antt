-- The prefix law: texts are taken in the order in which they were given, and none is skipped.
use Rattle.std.specs.Prelude.{List, [], ◌∷◌, Option, Some, None, ℕ, ◌++◌, Bool, false, slice_get, option_to_list, cond, length, true, ◌&&◌, is_some, ◌==◌, filter, map}
use Rattle.wx_id.specs.declared.numbers.ContextNo.{ContextNo}
use Rattle.wx_id.specs.declared.numbers.HostNo.{HostNo}
use Rattle.wx_id.specs.declared.numbers.EntryNo.{EntryNo}
use Rattle.wx_id.specs.declared.events.Event.{Event}
use Rattle.wx_id.specs.declared.events.EventKind.{EventKind}
use Rattle.wx_id.specs.declared.events.End.{End}
use Rattle.wx_id.specs.declared.events.End.TheVariants.{Opener}
use Rattle.wx_id.specs.declared.events.EventKind.TheVariants.{Message}
use Rattle.wx_external.specs.World.{WorldLists}
use Rattle.wx_machine.specs.declared.entries.Who.{Who}
use Rattle.wx_machine.specs.declared.entries.Call.{Call}
use Rattle.wx_machine.specs.declared.entries.Answer.{Answer}
use Rattle.wx_machine.specs.declared.entries.Entry.{Entry}
use Rattle.wx_machine.specs.declared.work.Work.{Work}
use Rattle.wx_machine.specs.Words.{text_in, text_of, channel, end_in, asks, work_of, is_for_channel, texts_taken, side_of, taken}
use Rattle.wx_machine.specs.declared.entries.Who.TheVariants.{Context as ByContext, Host as ByHost}
use Rattle.wx_machine.specs.declared.entries.Call.TheVariants.{Post, HostSaid}
use Rattle.wx_machine.specs.declared.entries.Answer.TheVariants.{Posted, Passed}
use Rattle.wx_machine.specs.declared.work.Work.TheVariants.{Channel as ForChannel, Request as ForRequest}
use Rattle.wx_laws.specs.ClosingLaw.{are_across}
use Rattle.wx_laws.specs.Legal.{IsLegalPast}
use Rattle.wx_laws.specs.Prefix.{IsPrefix}

-- it is a message of channel k
abbrev pub is_message : ℕ → EventKind → Bool
is_message k (Message j) = j.0 == k
is_message k _ = false

-- the entries of the messages of channel k among these events
abbrev pub messages : ℕ → List Event → List EntryNo
messages k events = map (λ event. event.entry) (filter (λ event. is_message k event.kind) events)

abbrev pub is_opening : End → Bool
is_opening Opener = true
is_opening _ = false

-- a call gives a text on channel k to who stands at this end: a post of the other side, or for the opener what the
-- channel's host said
abbrev pub gives : List Entry → ℕ → End → Who → Call → Answer → Bool
gives past k end who (Post j text) Posted = (j.0 == k) && are_across (side_of (channel past k) who) end
gives past k end (ByHost h) (HostSaid text) Passed = is_for_channel k (work_of past h) && is_opening end
gives past k end _ _ _ = false

-- the entries that give one
abbrev pub given : List Entry → ℕ → End → List EntryNo
given [] k end = []
given (e ∷ past) k end = given past k end ++ cond (gives past k end e.who e.call e.answer)
    (record { 0 = length past } ∷ []) []

-- the messages that a context took on a channel are the first of those that the other side gave: none is skipped, and
-- none is taken twice
abbrev pub TakesInOrder : Type 0
TakesInOrder =
    (world : WorldLists) (past : List Entry) (c : ContextNo) (k : ℕ) → IsLegalPast world past
    → IsPrefix (messages k (taken past c)) (given past k (end_in (channel past k) c))

-- the texts that these entries carry
abbrev pub texts : List Entry → List EntryNo → List (Option (List ℕ))
texts past ns = map (text_of past) ns

-- the texts so given
abbrev pub given_texts : List Entry → ℕ → End → List (List ℕ)
given_texts [] k end = []
given_texts (e ∷ past) k end = given_texts past k end ++ cond (gives past k end e.who e.call e.answer)
    (option_to_list (text_in e.call)) []

-- so are their texts
abbrev pub TakesTextsInOrder : Type 0
TakesTextsInOrder =
    (world : WorldLists) (past : List Entry) (c : ContextNo) (k : ℕ) → IsLegalPast world past
    → IsPrefix (texts past (messages k (taken past c))) (map Some (given_texts past k (end_in (channel past k) c)))

-- a post on channel k that was posted
abbrev pub posts_on : ℕ → Who → Call → Answer → Bool
posts_on k (ByContext c) (Post j text) Posted = j.0 == k
posts_on k _ _ _ = false

-- the entries of these
abbrev pub posts : List Entry → ℕ → List EntryNo
posts [] k = []
posts (e ∷ past) k = posts past k ++ cond (posts_on k e.who e.call e.answer) (record { 0 = length past } ∷ []) []

-- the entries that made the requests, each at the place of its request's number
abbrev pub asked_at : List Entry → List EntryNo
asked_at [] = []
asked_at (e ∷ past) = asked_at past ++ cond (is_some (asks past e)) (record { 0 = length past } ∷ []) []

-- the entries with texts for a host that works for this: the posts on its channel, or the entry that made its request
abbrev pub for_work : List Entry → Option Work → List EntryNo
for_work past None = []
for_work past (Some (ForChannel k)) = posts past k.0
for_work past (Some (ForRequest r)) = option_to_list (slice_get (asked_at past) r.0)

-- the entries whose texts a host took are the first of those
abbrev pub HostsTakeInOrder : Type 0
HostsTakeInOrder =
    (world : WorldLists) (past : List Entry) (h : HostNo) → IsLegalPast world past
    → IsPrefix (texts_taken past h) (for_work past (work_of past h))

-- so are the texts
abbrev pub HostsTakeTextsInOrder : Type 0
HostsTakeTextsInOrder =
    (world : WorldLists) (past : List Entry) (h : HostNo) → IsLegalPast world past
    → IsPrefix (texts past (texts_taken past h)) (texts past (for_work past (work_of past h)))
