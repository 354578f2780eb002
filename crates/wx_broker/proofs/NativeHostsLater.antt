-- The table of native hosts tells the journal one entry later.
use Rattle.std.proofs.Common.{◌≡◌, ℕ, List, [], ◌∷◌, ◌++◌, length, refl, ap, sym, ◌∙◌, Bool, true, false, cond, subst, append-nil}
use Rattle.std.specs.Prelude.{Option, Some, None, ◌||◌, ◌&&◌, ◌==◌, drop, slice_get, option_to_list}
use Rattle.std.specs.Option.{option_map, option_or}
use Rattle.std.proofs.lemmas.Bool.{false≢true}
use Rattle.wx_id.specs.declared.numbers.ContextNo.{ContextNo}
use Rattle.wx_id.specs.declared.numbers.ChannelNo.{ChannelNo}
use Rattle.wx_id.specs.declared.numbers.HostNo.{HostNo}
use Rattle.wx_id.specs.declared.numbers.EntryNo.{EntryNo}
use Rattle.wx_context.specs.declared.contexts.Context.{Context}
use Rattle.wx_external.specs.World.{WorldLists}
use Rattle.wx_machine.specs.declared.entries.Who.{Who}
use Rattle.wx_machine.specs.declared.entries.Call.{Call}
use Rattle.wx_machine.specs.declared.entries.Answer.{Answer}
use Rattle.wx_machine.specs.declared.entries.Reason.{Reason}
use Rattle.wx_machine.specs.declared.entries.Entry.{Entry}
use Rattle.wx_machine.specs.Words.{answer_after, context_of, enters, first, if_numbered, Start, started_by, starts, hosts, work_of, is_by_host}
use Rattle.wx_machine.specs.Words.{is_for_channel, has_ended, is_host_end, is_over, is_text_for, knows_end, said_closed, text_taken, texts_left, was_said_closed}
use Rattle.wx_machine.specs.Texts.{was_told_end}
use Rattle.wx_machine.specs.declared.entries.Who.TheVariants.{Context as ByContext, Host as ByHost}
use Rattle.wx_machine.specs.declared.entries.Call.TheVariants.{Post, ConnectNative, SendNative, HostTake, HostSaid, HostEnded}
use Rattle.wx_machine.specs.declared.entries.Answer.TheVariants.{Posted, Channel as OnChannel, Request as OnRequest, Text as HasText, End as NoMore, PortClosed, Done, Already}
use Rattle.wx_native_hosts.specs.Hosts.{HostState, ended, is_the, knowing, refused, told, took}
use Rattle.wx_native_hosts.specs.Hosts.{work_in as work_in_row}
use Rattle.wx_native_hosts.specs.declared.hosts.Start.{Start as NativeStart}
use Rattle.wx_laws.specs.Legal.{IsLegalPast}
use Rattle.wx_broker.specs.Views.{view_for}
use Rattle.wx_broker.specs.declared.host_view.HostView.{HostView}
use Rattle.wx_broker.proofs.TestsLater.{map_whole, or_false, same_is}
use Rattle.wx_broker.specs.Told.{HasHosts, host_said, host_with, start_for, start_said}
use Rattle.wx_broker.proofs.NativeTextsLater.{left_same, left_told, left_taken, text_is_first}
use Rattle.wx_broker.proofs.HostReadings.{all_viewed, rows_work}

-- What was started stays as it was told.

-- a context once brought in is the same later
pub view_kept : (world : WorldLists) (past : List Entry) (e : Entry) (h : ℕ) (start : Start) → IsLegalPast world past → slice_get (hosts past) h ≡ Some start → start_said world (e ∷ past) start ≡ start_said world past start
view_kept world past e h start legal at = let v = all_viewed world past h start legal at in by (context_of past start.caller) v.0 v.1
  where
    by : (o : Option Context) (view : HostView) → view_for world o start.name ≡ Some view
        → start_for start.work (view_for world (option_or o (if_numbered start.caller (enters e))) start.name) ≡ start_for start.work (view_for world o start.name)
    by None view is = absurd (cc)
    by (Some x) view is = refl

-- an entry that starts no host leaves their number
hosts_stay : (past : List Entry) (e : Entry) → starts past e ≡ None → hosts (e ∷ past) ≡ hosts past
hosts_stay past e none = ap (λ o. hosts past ++ option_to_list o) none ∙ append-nil (hosts past)

-- as many rows as hosts
count_stays : (past : List Entry) (e : Entry) (rows rows' : List HostState) → starts past e ≡ None → length rows' ≡ length rows → length rows ≡ length (hosts past) → length rows' ≡ length (hosts (e ∷ past))
count_stays past e rows rows' none same count = same ∙ count ∙ ap length (sym (hosts_stay past e none))

-- the rows tell one more entry that starts no host, where each is changed as the entry says
hosts_changed : (world : WorldLists) (past : List Entry) (e : Entry) (rows rows' : List HostState) (change : HostNo → HostState → HostState) → IsLegalPast world past → starts past e ≡ None → HasHosts world past rows
    → ((h : HostNo) → slice_get rows' h.0 ≡ option_map (change h) (slice_get rows h.0))
    → ((h : HostNo) (s : NativeStart) → change h (host_with past h s) ≡ host_with (e ∷ past) h s)
    → HasHosts world (e ∷ past) rows'
hosts_changed world past e rows rows' change legal none has changed each h =
    changed h
    ∙ ap (option_map (change h)) (has h)
    ∙ by (slice_get (hosts past) h.0) refl
    ∙ ap (λ (l : List Start). host_said world (e ∷ past) h (slice_get l h.0)) (sym (hosts_stay past e none))
  where
    one : (o : Option NativeStart) → option_map (change h) (option_map (host_with past h) o) ≡ option_map (host_with (e ∷ past) h) o
    one None = refl
    one (Some s) = ap Some (each h s)

    by : (o : Option Start) → slice_get (hosts past) h.0 ≡ o → option_map (change h) (host_said world past h o) ≡ host_said world (e ∷ past) h o
    by None at = refl
    by (Some start) at = one (start_said world past start) ∙ ap (option_map (host_with (e ∷ past) h)) (sym (view_kept world past e h.0 start legal at))

-- a host by its parts
abbrev pub host_of : NativeStart → List EntryNo → Bool → Bool → Bool → HostState
host_of s texts over knows closed = record { start = s; texts = texts; has_ended = over; knows_end = knows; said_closed = closed }

-- two hosts with the same parts are the same
pub host_is : (s : NativeStart) (texts texts' : List EntryNo) (over over' knows knows' closed closed' : Bool) → texts ≡ texts' → over ≡ over' → knows ≡ knows' → closed ≡ closed' → host_of s texts over knows closed ≡ host_of s texts' over' knows' closed'
host_is s texts texts' over over' knows knows' closed closed' a b d f =
    ap (λ x. host_of s x over knows closed) a
    ∙ ap (λ x. host_of s texts' x knows closed) b
    ∙ ap (λ x. host_of s texts' over' x closed) d
    ∙ ap (λ x. host_of s texts' over' knows' x) f

-- An entry that touches no host.

-- no text is posted or taken, no host is started or ends, none is told an end or refused
abbrev pub spares_hosts : Call → Answer → Bool
spares_hosts (Post k text) Posted = false
spares_hosts (ConnectNative name) (OnChannel k) = false
spares_hosts (SendNative name text) (OnRequest r) = false
spares_hosts HostTake (HasText n) = false
spares_hosts HostTake NoMore = false
spares_hosts (HostSaid text) PortClosed = false
spares_hosts (HostEnded reason) Done = false
spares_hosts call answer = true

starts_none : (past : List Entry) (who : Who) (call : Call) (answer : Answer) → spares_hosts call answer ≡ true → started_by past who call answer ≡ None
starts_none past (ByContext c) (ConnectNative name) (OnChannel k) h = absurd (false≢true h)
starts_none past (ByContext c) (SendNative name text) (OnRequest r) h = absurd (false≢true h)
starts_none past _ _ _ h = refl

spares_texts : (past : List Entry) (who : Who) (call : Call) (answer : Answer) (g : HostNo) → spares_hosts call answer ≡ true → is_text_for past who call answer g ≡ false
spares_texts past (ByContext c) (Post k text) Posted g h = absurd (false≢true h)
spares_texts past (ByContext c) (SendNative name text) (OnRequest r) g h = absurd (false≢true h)
spares_texts past _ _ _ g h = refl

spares_takes : (call : Call) (answer : Answer) (mine : Bool) → spares_hosts call answer ≡ true → text_taken call answer mine ≡ []
spares_takes HostTake (HasText n) mine h = absurd (false≢true h)
spares_takes _ _ mine h = refl

spares_told : (call : Call) (answer : Answer) → spares_hosts call answer ≡ true → was_told_end call answer ≡ false
spares_told HostTake NoMore h = absurd (false≢true h)
spares_told _ _ h = refl

spares_said : (call : Call) (answer : Answer) → spares_hosts call answer ≡ true → was_said_closed call answer ≡ false
spares_said (HostSaid text) PortClosed h = absurd (false≢true h)
spares_said _ _ h = refl

-- a host whose end is answered otherwise than `Done` had ended
spares_end : (world : WorldLists) (past : List Entry) (who : Who) (call : Call) (answer : Answer) (h : HostNo) → answer ≡ answer_after world past who call → spares_hosts call answer ≡ true → (is_host_end call && is_by_host who h) ≡ true → has_ended past h ≡ true
spares_end world past (ByHost g) (HostEnded reason) answer h is spares ends =
    subst (λ (m : ℕ). has_ended past (record { 0 = m }) ≡ true) (same_is g.0 h.0 ends) (by (has_ended past g) refl)
  where
    by : (b : Bool) → has_ended past g ≡ b → b ≡ true
    by true over = refl
    by false over = absurd (false≢true (sym (ap (spares_hosts (HostEnded reason)) (is ∙ ap (λ b. cond b Already Done) over)) ∙ spares))
spares_end world past (ByContext c) (HostEnded reason) answer h is spares ends = absurd (false≢true ends)
spares_end world past who call answer h is spares ends = absurd (false≢true ends)

not_later : (o b m : Bool) → b ≡ false → o ≡ (o || (b && m))
not_later o true m h = absurd (false≢true (sym h))
not_later true false m h = refl
not_later false false m h = refl

-- the rows stay where the entry spares the hosts
pub hosts_kept : (world : WorldLists) (past : List Entry) (e : Entry) (rows : List HostState) → IsLegalPast world (e ∷ past) → spares_hosts e.call e.answer ≡ true → HasHosts world past rows → HasHosts world (e ∷ past) rows
hosts_kept world past e rows legal spares has =
    hosts_changed world past e rows rows (λ h host. host) legal.0 (starts_none past e.who e.call e.answer spares) has (λ h. map_whole (slice_get rows h.0))
    (λ h s. host_is s (texts_left past h) (texts_left (e ∷ past) h) (has_ended past h) (has_ended (e ∷ past) h) (knows_end past h) (knows_end (e ∷ past) h) (said_closed past h) (said_closed (e ∷ past) h)
    (sym (left_same past e h (spares_texts past e.who e.call e.answer h spares) (spares_takes e.call e.answer (is_by_host e.who h) spares)))
    (over (has_ended past h) (is_host_end e.call && is_by_host e.who h) (spares_end world past e.who e.call e.answer h legal.1.answered spares))
    (not_later (knows_end past h) (was_told_end e.call e.answer) (is_by_host e.who h) (spares_told e.call e.answer spares))
    (not_later (said_closed past h) (was_said_closed e.call e.answer) (is_by_host e.who h) (spares_said e.call e.answer spares)))
  where
    over : (o b : Bool) → (b ≡ true → o ≡ true) → o ≡ (o || b)
    over true b h = refl
    over false true h = h refl
    over false false h = refl

-- and there are as many rows as hosts
pub count_kept : (past : List Entry) (e : Entry) (rows : List HostState) → spares_hosts e.call e.answer ≡ true → length rows ≡ length (hosts past) → length rows ≡ length (hosts (e ∷ past))
count_kept past e rows spares count = count_stays past e rows rows (starts_none past e.who e.call e.answer spares) refl count

-- A text that is posted.

-- context c posts the text on channel k
abbrev pub posted_entry : ContextNo → ChannelNo → List ℕ → Entry
posted_entry c k text = record { who = ByContext c; call = Post k text; answer = Posted }

posted_hosts : (world : WorldLists) (past : List Entry) (c : ContextNo) (k : ChannelNo) (text : List ℕ) (n : EntryNo) (found : Option HostNo) (rows rows' : List HostState) → IsLegalPast world past → n.0 ≡ length past → HasHosts world past rows
    → ((h : HostNo) → is_for_channel k.0 (work_in_row (slice_get rows h.0)) ≡ is_the found h)
    → ((h : HostNo) → slice_get rows' h.0 ≡ option_map (λ host. cond (is_the found h) (told n host) host) (slice_get rows h.0))
    → HasHosts world (posted_entry c k text ∷ past) rows'
posted_hosts world past c k text n found rows rows' legal at has finds changed =
    hosts_changed world past e rows rows' (λ h host. cond (is_the found h) (told n host) host) legal refl has changed (λ h s. by h s (is_the found h) (for h))
  where
    e : Entry
    e = posted_entry c k text

    for : (h : HostNo) → is_for_channel k.0 (work_of past h) ≡ is_the found h
    for h = sym (ap (is_for_channel k.0) (rows_work world past rows h legal has)) ∙ finds h

    by : (h : HostNo) (s : NativeStart) (b : Bool) → is_for_channel k.0 (work_of past h) ≡ b → cond b (told n (host_with past h s)) (host_with past h s) ≡ host_with (e ∷ past) h s
    by h s true is =
        host_is s (texts_left past h ++ n ∷ []) (texts_left (e ∷ past) h) (has_ended past h) (has_ended (e ∷ past) h) (knows_end past h) (knows_end (e ∷ past) h) (said_closed past h) (said_closed (e ∷ past) h)
        (sym (left_told world past e h n legal at is refl)) (sym (or_false _)) (sym (or_false _)) (sym (or_false _))
    by h s false is =
        host_is s (texts_left past h) (texts_left (e ∷ past) h) (has_ended past h) (has_ended (e ∷ past) h) (knows_end past h) (knows_end (e ∷ past) h) (said_closed past h) (said_closed (e ∷ past) h)
        (sym (left_same past e h is refl)) (sym (or_false _)) (sym (or_false _)) (sym (or_false _))

-- the host of the channel is told it
pub hosts_posted_told : (world : WorldLists) (past : List Entry) (c : ContextNo) (k : ChannelNo) (text : List ℕ) (n : EntryNo) (g : HostNo) (rows rows' : List HostState) → IsLegalPast world past → n.0 ≡ length past → HasHosts world past rows
    → ((h : HostNo) → is_for_channel k.0 (work_in_row (slice_get rows h.0)) ≡ is_the (Some g) h)
    → ((h : HostNo) → slice_get rows' h.0 ≡ option_map (λ host. cond (g.0 == h.0) (told n host) host) (slice_get rows h.0))
    → HasHosts world (posted_entry c k text ∷ past) rows'
hosts_posted_told world past c k text n g rows rows' legal at has finds changed = posted_hosts world past c k text n (Some g) rows rows' legal at has finds changed

-- and where the channel has no host the rows stay
pub hosts_posted_none : (world : WorldLists) (past : List Entry) (c : ContextNo) (k : ChannelNo) (text : List ℕ) (rows : List HostState) → IsLegalPast world past → HasHosts world past rows
    → ((h : HostNo) → is_for_channel k.0 (work_in_row (slice_get rows h.0)) ≡ is_the None h)
    → HasHosts world (posted_entry c k text ∷ past) rows
hosts_posted_none world past c k text rows legal has finds =
    posted_hosts world past c k text (record { 0 = length past }) None rows rows legal refl has finds (λ h. map_whole (slice_get rows h.0))

-- either way there are as many rows as hosts
pub count_posted : (past : List Entry) (c : ContextNo) (k : ChannelNo) (text : List ℕ) (rows rows' : List HostState) → length rows' ≡ length rows → length rows ≡ length (hosts past) → length rows' ≡ length (hosts (posted_entry c k text ∷ past))
count_posted past c k text rows rows' same count = count_stays past (posted_entry c k text) rows rows' refl same count

-- What a host does.

-- host g makes the call, which has that answer
abbrev pub host_entry : HostNo → Call → Answer → Entry
host_entry g call answer = record { who = ByHost g; call = call; answer = answer }

-- whatever a host does, there are as many rows as hosts
pub count_by_host : (past : List Entry) (g : HostNo) (call : Call) (answer : Answer) (rows rows' : List HostState) → length rows' ≡ length rows → length rows ≡ length (hosts past) → length rows' ≡ length (hosts (host_entry g call answer ∷ past))
count_by_host past g call answer rows rows' same count = count_stays past (host_entry g call answer) rows rows' refl same count

-- a host takes its next text
pub hosts_took : (world : WorldLists) (past : List Entry) (g : HostNo) (n : EntryNo) (rows rows' : List HostState) → IsLegalPast world (host_entry g HostTake (HasText n) ∷ past) → HasHosts world past rows
    → ((h : HostNo) → slice_get rows' h.0 ≡ option_map (λ host. cond (g.0 == h.0) (took host) host) (slice_get rows h.0))
    → HasHosts world (host_entry g HostTake (HasText n) ∷ past) rows'
hosts_took world past g n rows rows' legal has changed =
    hosts_changed world past e rows rows' (λ h host. cond (g.0 == h.0) (took host) host) legal.0 refl has changed (λ h s. by h s (g.0 == h.0) refl)
  where
    e : Entry
    e = host_entry g HostTake (HasText n)

    next : first (texts_left past g) ≡ Some n
    next = text_is_first (has_ended past g) (has_ended past g || is_over past (work_of past g)) (texts_left past g) n legal.1.answered

    by : (h : HostNo) (s : NativeStart) (b : Bool) → (g.0 == h.0) ≡ b → cond b (took (host_with past h s)) (host_with past h s) ≡ host_with (e ∷ past) h s
    by h s true same =
        host_is s (drop 1 (texts_left past h)) (texts_left (e ∷ past) h) (has_ended past h) (has_ended (e ∷ past) h) (knows_end past h) (knows_end (e ∷ past) h) (said_closed past h) (said_closed (e ∷ past) h)
        (sym (left_taken past e h n refl (ap (text_taken HostTake (HasText n)) same) (subst (λ (m : ℕ). first (texts_left past (record { 0 = m })) ≡ Some n) (same_is g.0 h.0 same) next)))
        (sym (or_false _)) (sym (or_false _)) (sym (or_false _))
    by h s false other =
        host_is s (texts_left past h) (texts_left (e ∷ past) h) (has_ended past h) (has_ended (e ∷ past) h) (knows_end past h) (knows_end (e ∷ past) h) (said_closed past h) (said_closed (e ∷ past) h)
        (sym (left_same past e h refl (ap (text_taken HostTake (HasText n)) other))) (sym (or_false _)) (sym (or_false _)) (sym (or_false _))

or_true : (a : Bool) → true ≡ (a || true)
or_true true = refl
or_true false = refl

-- a host is told that no text comes any more
pub hosts_told_end : (world : WorldLists) (past : List Entry) (g : HostNo) (rows rows' : List HostState) → IsLegalPast world past → HasHosts world past rows
    → ((h : HostNo) → slice_get rows' h.0 ≡ option_map (λ host. cond (g.0 == h.0) (knowing host) host) (slice_get rows h.0))
    → HasHosts world (host_entry g HostTake NoMore ∷ past) rows'
hosts_told_end world past g rows rows' legal has changed =
    hosts_changed world past e rows rows' (λ h host. cond (g.0 == h.0) (knowing host) host) legal refl has changed (λ h s. by h s (g.0 == h.0) refl)
  where
    e : Entry
    e = host_entry g HostTake NoMore

    by : (h : HostNo) (s : NativeStart) (b : Bool) → (g.0 == h.0) ≡ b → cond b (knowing (host_with past h s)) (host_with past h s) ≡ host_with (e ∷ past) h s
    by h s true same =
        host_is s (texts_left past h) (texts_left (e ∷ past) h) (has_ended past h) (has_ended (e ∷ past) h) true (knows_end (e ∷ past) h) (said_closed past h) (said_closed (e ∷ past) h)
        (sym (left_same past e h refl refl)) (sym (or_false _)) (or_true (knows_end past h) ∙ ap (λ b. knows_end past h || b) (sym same)) (sym (or_false _))
    by h s false other =
        host_is s (texts_left past h) (texts_left (e ∷ past) h) (has_ended past h) (has_ended (e ∷ past) h) (knows_end past h) (knows_end (e ∷ past) h) (said_closed past h) (said_closed (e ∷ past) h)
        (sym (left_same past e h refl refl)) (sym (or_false _)) (sym (or_false _) ∙ ap (λ b. knows_end past h || b) (sym other)) (sym (or_false _))

-- a message of a host is answered that its channel is closed
pub hosts_refused : (world : WorldLists) (past : List Entry) (g : HostNo) (text : List ℕ) (rows rows' : List HostState) → IsLegalPast world past → HasHosts world past rows
    → ((h : HostNo) → slice_get rows' h.0 ≡ option_map (λ host. cond (g.0 == h.0) (refused host) host) (slice_get rows h.0))
    → HasHosts world (host_entry g (HostSaid text) PortClosed ∷ past) rows'
hosts_refused world past g text rows rows' legal has changed =
    hosts_changed world past e rows rows' (λ h host. cond (g.0 == h.0) (refused host) host) legal refl has changed (λ h s. by h s (g.0 == h.0) refl)
  where
    e : Entry
    e = host_entry g (HostSaid text) PortClosed

    by : (h : HostNo) (s : NativeStart) (b : Bool) → (g.0 == h.0) ≡ b → cond b (refused (host_with past h s)) (host_with past h s) ≡ host_with (e ∷ past) h s
    by h s true same =
        host_is s (texts_left past h) (texts_left (e ∷ past) h) (has_ended past h) (has_ended (e ∷ past) h) (knows_end past h) (knows_end (e ∷ past) h) true (said_closed (e ∷ past) h)
        (sym (left_same past e h refl refl)) (sym (or_false _)) (sym (or_false _)) (or_true (said_closed past h) ∙ ap (λ b. said_closed past h || b) (sym same))
    by h s false other =
        host_is s (texts_left past h) (texts_left (e ∷ past) h) (has_ended past h) (has_ended (e ∷ past) h) (knows_end past h) (knows_end (e ∷ past) h) (said_closed past h) (said_closed (e ∷ past) h)
        (sym (left_same past e h refl refl)) (sym (or_false _)) (sym (or_false _)) (sym (or_false _) ∙ ap (λ b. said_closed past h || b) (sym other))

-- a host ends
pub hosts_ended : (world : WorldLists) (past : List Entry) (g : HostNo) (reason : Reason) (rows rows' : List HostState) → IsLegalPast world past → HasHosts world past rows
    → ((h : HostNo) → slice_get rows' h.0 ≡ option_map (λ host. cond (g.0 == h.0) (ended host) host) (slice_get rows h.0))
    → HasHosts world (host_entry g (HostEnded reason) Done ∷ past) rows'
hosts_ended world past g reason rows rows' legal has changed =
    hosts_changed world past e rows rows' (λ h host. cond (g.0 == h.0) (ended host) host) legal refl has changed (λ h s. by h s (g.0 == h.0) refl)
  where
    e : Entry
    e = host_entry g (HostEnded reason) Done

    by : (h : HostNo) (s : NativeStart) (b : Bool) → (g.0 == h.0) ≡ b → cond b (ended (host_with past h s)) (host_with past h s) ≡ host_with (e ∷ past) h s
    by h s true same =
        host_is s (texts_left past h) (texts_left (e ∷ past) h) true (has_ended (e ∷ past) h) (knows_end past h) (knows_end (e ∷ past) h) (said_closed past h) (said_closed (e ∷ past) h)
        (sym (left_same past e h refl refl)) (or_true (has_ended past h) ∙ ap (λ b. has_ended past h || b) (sym same)) (sym (or_false _)) (sym (or_false _))
    by h s false other =
        host_is s (texts_left past h) (texts_left (e ∷ past) h) (has_ended past h) (has_ended (e ∷ past) h) (knows_end past h) (knows_end (e ∷ past) h) (said_closed past h) (said_closed (e ∷ past) h)
        (sym (left_same past e h refl refl)) (sym (or_false _) ∙ ap (λ b. has_ended past h || b) (sym other)) (sym (or_false _)) (sym (or_false _))
