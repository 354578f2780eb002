-- Each native host that was started has a place among the world's hosts and an extension that started it.
use Rattle.std.proofs.Common.{◌≡◌, ℕ, ◌≤◌, List, [], ◌∷◌, length, refl, ap, sym, ◌∙◌, Bool, true, false, cond}
use Rattle.std.specs.Prelude.{Option, Some, None, is_some, slice_get, ◌&&◌, ◌==◌, ◌↔◌, IsNone}
use Rattle.std.specs.Option.{option_or}
use Rattle.std.proofs.lemmas.Bool.{false≢true, true≢false}
use Rattle.std.proofs.lemmas.Option.{slice_get_past}
use Rattle.wx_context.specs.declared.contexts.Context.{Context}
use Rattle.wx_context.specs.declared.contexts.Context.TheVariants.{Page, Content, Web}
use Rattle.wx_external.specs.World.{WorldLists}
use Rattle.wx_external.specs.Gate.{native_gate_of}
use Rattle.wx_external.specs.declared.native.NativeVerdict.{NativeVerdict}
use Rattle.wx_external.specs.declared.native.NativeVerdict.TheVariants as native
use Rattle.wx_machine.specs.declared.entries.Who.{Who}
use Rattle.wx_machine.specs.declared.entries.Call.{Call}
use Rattle.wx_machine.specs.declared.entries.Answer.{Answer}
use Rattle.wx_machine.specs.declared.entries.Entry.{Entry}
use Rattle.wx_machine.specs.Words.{EachAfter, context_of, enters, extension_of, if_numbered, is_live, Start, started_by}
use Rattle.wx_machine.specs.Words.{starts, hosts, FollowsMachine, answer_after, native_gate_for, where_native}
use Rattle.wx_machine.specs.declared.entries.Who.TheVariants.{Context as ByContext}
use Rattle.wx_machine.specs.declared.entries.Call.TheVariants.{ConnectNative, SendNative}
use Rattle.wx_machine.specs.declared.entries.Answer.TheVariants.{Channel as OnChannel, Request as OnRequest, Gone}
use Rattle.wx_laws.proofs.ChannelsLater.{place_more}
use Rattle.wx_broker.proofs.TestsLater.{outside}
use Rattle.wx_broker.specs.Views.{view_at, view_for, view_of, host_view}

-- what is told of host h, by the starts before one more entry
pub view_more : (world : WorldLists) (now : List Entry) (e : Entry) (past : List Entry) (h : ℕ) → view_of world now (slice_get (hosts (e ∷ past)) h) ≡ cond ((length (hosts past) == h) && is_some (starts past e)) (view_of world now (starts past e)) (view_of world now (slice_get (hosts past) h))
view_more world now e past h = place_more (view_of world now) (hosts past) (starts past e) h

-- an answer with a number
abbrev pub is_started : Answer → Bool
is_started (OnChannel k) = true
is_started (OnRequest r) = true
is_started _ = false

-- a verdict under which a host starts is open
view_opened : (verdict : NativeVerdict) (ext : List ℕ) (answer : Answer) → is_started (where_native verdict answer) ≡ true → is_some (view_at verdict (Some ext)) ≡ true
view_opened (native.Open place) ext answer h = refl
view_opened native.BadTarget ext answer h = absurd (false≢true h)
view_opened native.NoPermission ext answer h = absurd (false≢true h)
view_opened native.BadHostName ext answer h = absurd (false≢true h)
view_opened native.HostNotFound ext answer h = absurd (false≢true h)
view_opened native.HostForbidden ext answer h = absurd (false≢true h)

only_pages : (world : WorldLists) (x : Context) (name : List ℕ) (answer : Answer) → is_started (where_native (native_gate_of world x name) answer) ≡ true → is_some (view_at (native_gate_of world x name) (extension_of x)) ≡ true
unfolding native_gate_of
only_pages world (Page ext path) name answer h = view_opened (native_gate_of world (Page ext path) name) ext answer h
only_pages world (Content ext tab frame url) name answer h = absurd (false≢true h)
only_pages world (Web tab frame url) name answer h = absurd (false≢true h)

-- a caller whose call is answered with a number may start the host
view_started : (world : WorldLists) (live : Bool) (caller : Option Context) (name : List ℕ) (answer : Answer) → is_started (cond live (where_native (native_gate_for world caller name) answer) Gone) ≡ true → is_some (view_for world caller name) ≡ true
view_started world false caller name answer h = absurd (false≢true h)
view_started world true None name answer h = absurd (false≢true h)
view_started world true (Some x) name answer h = only_pages world x name answer h

-- the start, if there is one, is of a host of which something is told
abbrev is_viewed : WorldLists → List Entry → Option Start → Bool
is_viewed world past None = true
is_viewed world past (Some start) = is_some (view_for world (context_of past start.caller) start.name)

started_viewed : (world : WorldLists) (past : List Entry) (who : Who) (call : Call) (answer : Answer) → answer ≡ answer_after world past who call → is_viewed world past (started_by past who call answer) ≡ true
started_viewed world past (ByContext c) (ConnectNative name) (OnChannel k) h = view_started world (is_live past c) (context_of past c) name _ (ap is_started (sym h))
started_viewed world past (ByContext c) (SendNative name text) (OnRequest r) h = view_started world (is_live past c) (context_of past c) name _ (ap is_started (sym h))
started_viewed world past who call answer h = refl

-- it stays so
viewed_stays : (world : WorldLists) (e : Entry) (past : List Entry) (o : Option Start) → is_viewed world past o ≡ true → is_viewed world (e ∷ past) o ≡ true
viewed_stays world e past None h = refl
viewed_stays world e past (Some start) h = by (context_of past start.caller) h
  where
    by : (caller : Option Context) → is_some (view_for world caller start.name) ≡ true → is_some (view_for world (option_or caller (if_numbered start.caller (enters e))) start.name) ≡ true
    by None h = absurd (false≢true h)
    by (Some x) h = h

all_viewed : (world : WorldLists) (past : List Entry) → EachAfter (FollowsMachine world) past → (h : ℕ) → is_viewed world past (slice_get (hosts past) h) ≡ true
all_viewed world [] legal h = refl
all_viewed world (e ∷ past) legal h =
    place_more (is_viewed world (e ∷ past)) (hosts past) (starts past e) h
    ∙ by (all_viewed world past legal.0 h) ((length (hosts past) == h) && is_some (starts past e))
  where
    by : is_viewed world past (slice_get (hosts past) h) ≡ true → (b : Bool) → cond b (is_viewed world (e ∷ past) (starts past e)) (is_viewed world (e ∷ past) (slice_get (hosts past) h)) ≡ true
    by before true = viewed_stays world e past (starts past e) (started_viewed world past e.who e.call e.answer legal.1.answered)
    by before false = viewed_stays world e past (slice_get (hosts past) h) before

-- nothing is told exactly where there is no host of that number
pub none_viewed : (world : WorldLists) (past : List Entry) (h : ℕ) → EachAfter (FollowsMachine world) past → IsNone (host_view world past h) ↔ (length (hosts past) ≤ h)
none_viewed world past h legal = (forth (slice_get (hosts past) h) refl (all_viewed world past legal h), back)
  where
    forth : (o : Option Start) → slice_get (hosts past) h ≡ o → is_viewed world past o ≡ true → IsNone (view_of world past (slice_get (hosts past) h)) → length (hosts past) ≤ h
    forth None at viewed none = outside (hosts past) h at
    forth (Some start) at viewed none = absurd (true≢false (sym viewed ∙ ap (λ o. is_some (view_of world past o)) (sym at) ∙ none))

    back : length (hosts past) ≤ h → IsNone (view_of world past (slice_get (hosts past) h))
    back behind = ap (λ o. is_some (view_of world past o)) (slice_get_past (hosts past) h behind)
