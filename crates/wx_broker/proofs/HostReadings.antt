-- What the table of native hosts says of a host is what the journal tells of it.
use Rattle.std.proofs.Common.{◌≡◌, ℕ, ◌<◌, ◌≤◌, List, [], ◌∷◌, ◌++◌, length, refl, ap, sym, ◌∙◌, false, cond, arith, IsTrue}
use Rattle.std.specs.Prelude.{Option, Some, None, is_some, slice_get, reverse}
use Rattle.std.specs.Option.{option_map}
use Rattle.std.proofs.lemmas.Bool.{false≢true}
use Rattle.std.proofs.lemmas.Option.{slice_get_within}
use Rattle.wx_id.specs.declared.numbers.HostNo.{HostNo}
use Rattle.wx_id.specs.declared.numbers.EntryNo.{EntryNo}
use Rattle.wx_id.specs.declared.numbers.ChannelNo.{ChannelNo}
use Rattle.wx_id.specs.declared.numbers.RequestNo.{RequestNo}
use Rattle.wx_external.specs.World.{WorldLists}
use Rattle.wx_machine.specs.declared.entries.Entry.{Entry}
use Rattle.wx_machine.specs.declared.work.Work.{Work}
use Rattle.wx_machine.specs.declared.work.Work.TheVariants.{Channel as ForChannel, Request as ForRequest}
use Rattle.wx_machine.specs.Words.{channels, context_of, first, hosts, is_for_channel, work_in, work_of, has_ended, knows_end, next_text, said_closed, texts_left, Start}
use Rattle.wx_native_hosts.specs.Hosts.{HostState, has_ended_in, knows_end_in, said_closed_in, first_text_in}
use Rattle.wx_native_hosts.specs.Hosts.{work_in as work_in_row}
use Rattle.wx_native_hosts.specs.declared.hosts.Start.{Start as NativeStart}
use Rattle.wx_laws.specs.Legal.{IsLegalPast}
use Rattle.wx_laws.proofs.Newest.{reverse-push}
use Rattle.wx_broker.specs.Views.{view_for, view_of, host_view}
use Rattle.wx_broker.specs.declared.host_view.HostView.{HostView}
use Rattle.wx_broker.proofs.TestsLater.{outside, same_is}
use Rattle.wx_broker.proofs.ViewsLater.{none_viewed}
use Rattle.wx_broker.proofs.WorkLater.{other_channel}
use Rattle.wx_broker.specs.Told.{HasHosts, host_said, host_with, start_for}
use Rattle.wx_broker.proofs.NativeTextsLater.{none_left, not_ended, not_refused, not_told_end}

-- what is told of a host that was started
abbrev pub native_start : Start → HostView → NativeStart
native_start start view = record { work = start.work; manifest = view.manifest; caller = view.caller }

-- each host that was started is one that its caller might start
pub all_viewed : (world : WorldLists) (past : List Entry) (h : ℕ) (start : Start) → IsLegalPast world past → slice_get (hosts past) h ≡ Some start
    → (view : HostView) × (view_for world (context_of past start.caller) start.name ≡ Some view)
all_viewed world past h start legal at = by (view_for world (context_of past start.caller) start.name) refl
  where
    by : (o : Option HostView) → view_for world (context_of past start.caller) start.name ≡ o → (view : HostView) × (view_for world (context_of past start.caller) start.name ≡ Some view)
    by None none =
        let late : length (hosts past) ≤ h = (none_viewed world past h legal).0 (ap (λ o. is_some (view_of world past o)) at ∙ ap is_some none) in
        let there : h < length (hosts past) = slice_get_within (hosts past) h start at in
        absurd (omega (arith, late, there))
    by (Some view) is = (view, is)

-- so each has its row
row_there : (world : WorldLists) (past : List Entry) (rows : List HostState) (h : HostNo) (start : Start) → IsLegalPast world past → HasHosts world past rows → slice_get (hosts past) h.0 ≡ Some start
    → (s : NativeStart) × (s.work ≡ start.work) × (slice_get rows h.0 ≡ Some (host_with past h s))
row_there world past rows h start legal has at =
    let v = all_viewed world past h.0 start legal at in
    (native_start start v.0, refl, has h ∙ ap (host_said world past h) at ∙ ap (λ o. option_map (host_with past h) (start_for start.work o)) v.1)

-- and where there is no host there is no row
row_none : (world : WorldLists) (past : List Entry) (rows : List HostState) (h : HostNo) → HasHosts world past rows → slice_get (hosts past) h.0 ≡ None → slice_get rows h.0 ≡ None
row_none world past rows h has at = has h ∙ ap (host_said world past h) at

-- what a host works for
pub rows_work : (world : WorldLists) (past : List Entry) (rows : List HostState) (h : HostNo) → IsLegalPast world past → HasHosts world past rows → work_in_row (slice_get rows h.0) ≡ work_of past h
rows_work world past rows h legal has = by (slice_get (hosts past) h.0) refl
  where
    by : (o : Option Start) → slice_get (hosts past) h.0 ≡ o → work_in_row (slice_get rows h.0) ≡ work_in (slice_get (hosts past) h.0)
    by None at = ap work_in_row (row_none world past rows h has at) ∙ sym (ap work_in at)
    by (Some start) at =
        let r = row_there world past rows h start legal has at in
        ap work_in_row r.2 ∙ ap Some r.1 ∙ sym (ap work_in at)

-- what is read of each row, where nothing is there what is told of a host that was not started
module _ {Y : Type 0} (world : WorldLists) (past : List Entry) (rows : List HostState) (h : HostNo) (legal : IsLegalPast world past) (has : HasHosts world past rows) where
  row_read : (F : Option HostState → Y) (y : Y) → ((s : NativeStart) → F (Some (host_with past h s)) ≡ y) → (length (hosts past) ≤ h.0 → F None ≡ y) → F (slice_get rows h.0) ≡ y
  row_read F y there none = by (slice_get (hosts past) h.0) refl
    where
      by : (o : Option Start) → slice_get (hosts past) h.0 ≡ o → F (slice_get rows h.0) ≡ y
      by None at = ap F (row_none world past rows h has at) ∙ none (outside (hosts past) h.0 at)
      by (Some start) at =
          let r = row_there world past rows h start legal has at in
          ap F r.2 ∙ there r.0

-- whether it ended
pub rows_ended : (world : WorldLists) (past : List Entry) (rows : List HostState) (h : HostNo) → IsLegalPast world past → HasHosts world past rows → has_ended_in (slice_get rows h.0) ≡ has_ended past h
rows_ended world past rows h legal has =
    row_read world past rows h legal has has_ended_in (has_ended past h) (λ s. refl) (λ late. sym (not_ended world past h legal late))

-- whether it was told that no text comes any more
pub rows_know : (world : WorldLists) (past : List Entry) (rows : List HostState) (h : HostNo) → IsLegalPast world past → HasHosts world past rows → knows_end_in (slice_get rows h.0) ≡ knows_end past h
rows_know world past rows h legal has =
    row_read world past rows h legal has knows_end_in (knows_end past h) (λ s. refl) (λ late. sym (not_told_end world past h legal late))

-- whether a message of it was answered that its channel is closed
pub rows_closed : (world : WorldLists) (past : List Entry) (rows : List HostState) (h : HostNo) → IsLegalPast world past → HasHosts world past rows → said_closed_in (slice_get rows h.0) ≡ said_closed past h
rows_closed world past rows h legal has =
    row_read world past rows h legal has said_closed_in (said_closed past h) (λ s. refl) (λ late. sym (not_refused world past h legal late))

first_at : (xs : List EntryNo) → slice_get xs 0 ≡ first xs
first_at [] = refl
first_at (x ∷ xs) = refl

-- the next text for it
pub rows_next : (world : WorldLists) (past : List Entry) (rows : List HostState) (h : HostNo) → IsLegalPast world past → HasHosts world past rows → cond (has_ended_in (slice_get rows h.0)) None (first_text_in (slice_get rows h.0)) ≡ next_text past h
rows_next world past rows h legal has =
    ap (λ b. cond b None (first_text_in (slice_get rows h.0))) (rows_ended world past rows h legal has)
    ∙ ap (cond (has_ended past h) None)
    (row_read world past rows h legal has first_text_in (first (texts_left past h)) (λ s. first_at (texts_left past h)) (λ late. sym (ap first (none_left past h late))))

-- the view that a row gives
abbrev pub view_in : Option HostState → Option HostView
view_in row = option_map (λ (host : HostState). record { manifest = host.start.manifest; caller = host.start.caller }) row

-- what is told of its start
pub rows_views : (world : WorldLists) (past : List Entry) (rows : List HostState) (h : HostNo) → HasHosts world past rows → view_in (slice_get rows h.0) ≡ host_view world past h.0
rows_views world past rows h has = ap view_in (has h) ∙ by (slice_get (hosts past) h.0)
  where
    told : (work : Work) (o : Option HostView) → view_in (option_map (host_with past h) (start_for work o)) ≡ o
    told work None = refl
    told work (Some view) = refl

    by : (o : Option Start) → view_in (host_said world past h o) ≡ view_of world past o
    by None = refl
    by (Some start) = told start.work (view_for world (context_of past start.caller) start.name)

-- no earlier host works for the channel that is opened next
pub new_on_channel : (world : WorldLists) (past : List Entry) (rows : List HostState) (host : HostState) (j : ChannelNo) → IsLegalPast world past → HasHosts world past rows → host.start.work ≡ ForChannel j → length (channels past) ≤ j.0
    → (k : ℕ) (h : HostNo) → IsTrue (is_for_channel k (work_in_row (Some host))) → is_for_channel k (work_in_row (slice_get rows h.0)) ≡ false
new_on_channel world past rows host j legal has works next k h is =
    ap (is_for_channel k) (rows_work world past rows h legal has)
    ∙ other_channel past h k (at (same_is j.0 k (sym (ap (λ w. is_for_channel k (Some w)) works) ∙ is)))
  where
    at : j.0 ≡ k → length (channels past) ≤ k
    at same = omega (arith, next, same)

-- a host of a request works for no channel
pub new_on_request : (rows : List HostState) (host : HostState) (r : RequestNo) → host.start.work ≡ ForRequest r
    → (k : ℕ) (h : HostNo) → IsTrue (is_for_channel k (work_in_row (Some host))) → is_for_channel k (work_in_row (slice_get rows h.0)) ≡ false
new_on_request rows host r works k h is = absurd (false≢true (sym (ap (λ w. is_for_channel k (Some w)) works) ∙ is))

-- the same of a journal with one more entry
pub hosts_turned : (world : WorldLists) (journal new : List Entry) (e : Entry) (rows : List HostState) → new ≡ journal ++ e ∷ [] → HasHosts world (e ∷ reverse journal) rows → HasHosts world (reverse new) rows
hosts_turned world journal new e rows grown has h =
    has h ∙ ap (λ past. host_said world past h (slice_get (hosts past) h.0)) (sym (ap reverse grown ∙ reverse-push journal e))
