-- Channels, requests and hosts, one entry later.
use Rattle.std.proofs.Common.{◌≡◌, ℕ, suc, zero, ◌<◌, List, [], ◌∷◌, ◌++◌, length, refl, ◌∙◌, Bool, true, false, cond, not, arith, ◌+◌, ◌≤◌, sym}
use Rattle.std.specs.Prelude.{Option, Some, None, is_some, ◌||◌, ◌&&◌, ◌==◌, slice_get, option_to_list}
use Rattle.std.specs.Option.{option_or}
use Rattle.std.proofs.lemmas.Bool.{eqb-true}
use Rattle.std.proofs.lemmas.Option.{slice_get_within}
use Rattle.std.proofs.lemmas.List.{length-append}
use Rattle.wx_machine.proofs.Lists.{get_options}
use Rattle.wx_id.specs.declared.numbers.ContextNo.{ContextNo}
use Rattle.wx_id.specs.declared.numbers.HostNo.{HostNo}
use Rattle.wx_id.specs.declared.events.End.{End}
use Rattle.wx_id.specs.declared.events.End.TheVariants.{Opener, Receiver, Neither}
use Rattle.wx_context.specs.declared.contexts.Context.{Context}
use Rattle.wx_machine.specs.declared.entries.Who.{Who}
use Rattle.wx_machine.specs.declared.entries.Call.{Call}
use Rattle.wx_machine.specs.declared.entries.Answer.{Answer}
use Rattle.wx_machine.specs.declared.entries.Entry.{Entry}
use Rattle.wx_machine.specs.Words.{is_by, enters, if_numbered, context_of, is_there, is_leave, has_left, is_live, Ends, opens, channels, channel, end_in, Start, started_by}
use Rattle.wx_machine.specs.Words.{starts, hosts, work_in, work_of, is_for_channel, has_live, is_one, leaving, ends_by, ends_channel, closed_at, is_closed}
use Rattle.wx_machine.specs.declared.entries.Who.TheVariants.{Context as ByContext, Host as ByHost}
use Rattle.wx_machine.specs.declared.entries.Call.TheVariants.{Leave, Disconnect, ConnectNative, SendNative, HostEnded}
use Rattle.wx_machine.specs.declared.entries.Answer.TheVariants.{Channel as OnChannel, Request as OnRequest}

-- the channel of that number, one entry later
pub channel_later : (past : List Entry) (e : Entry) (k : ℕ) → channel (e ∷ past) k ≡ option_or (channel past k) (cond (length (channels past) == k) (opens past e) None)
channel_later past e k = get_options (channels past) (opens past e) k

pub channel_within : (past : List Entry) (k : ℕ) → is_some (channel past k) ≡ true → k < length (channels past)
channel_within past k h = parts (channel past k) refl h
  where
    parts : (o : Option Ends) → channel past k ≡ o → is_some o ≡ true → k < length (channels past)
    parts None is h = absurd (cc)
    parts (Some x) is h = slice_get_within (channels past) k x is

pub some_if_one : (o : Option Ends) (c : ContextNo) → is_one (end_in o c) ≡ true → is_some o ≡ true
some_if_one None c h = absurd (cc)
some_if_one (Some x) c h = refl

pub no_channel_more : (past : List Entry) (e : Entry) → length (channels past) ≤ length (channels (e ∷ past))
no_channel_more past e = omega (arith, length-append (channels past) (option_to_list (opens past e)))

-- the channels that hosts work for are there
abbrev AllThere : ℕ → List Start → Type 0
AllThere n [] = Unit {0}
AllThere n (w ∷ ws) = ((k : ℕ) → is_for_channel k (Some w.work) ≡ true → k < n) × AllThere n ws

there-append : (n : ℕ) (ws vs : List Start) → AllThere n ws → AllThere n vs → AllThere n (ws ++ vs)
there-append n [] vs a b = b
there-append n (w ∷ ws) vs a b = (a.0, there-append n ws vs a.1 b)

there_more : (m n : ℕ) (ws : List Start) → m ≤ n → AllThere m ws → AllThere n ws
there_more m n [] h p = tt
there_more m n (w ∷ ws) h p = (λ k is. let q : k < m = p.0 k is in omega arith, there_more m n ws h p.1)

started_there : (past : List Entry) (who : Who) (call : Call) (answer : Answer) (e : Entry) → who ≡ e.who → call ≡ e.call → answer ≡ e.answer → AllThere (length (channels (e ∷ past))) (option_to_list (started_by past who call answer))
started_there past (ByContext c) (ConnectNative name) (OnChannel j) e w l a = (λ k is. at k is, tt)
  where
    opened : opens past e ≡ Some (record { opener = c; receivers = [] })
    opened = rw (← w, ← l, ← a) refl

    at : (k : ℕ) → (length (channels past) == k) ≡ true → k < length (channels (e ∷ past))
    at k is =
        let same : length (channels past) ≡ k = eqb-true (length (channels past)) k is in
        let more : length (channels (e ∷ past)) ≡ length (channels past) + 1 = length-append (channels past) (option_to_list (opens past e)) ∙ rw opened refl in
        omega arith
started_there past (ByContext c) (SendNative name text) (OnRequest r) e w l a = (λ k is. absurd (let q : false ≡ true = is in cc), tt)
started_there past _ _ _ e w l a = tt

all_there : (past : List Entry) → AllThere (length (channels past)) (hosts past)
all_there [] = tt
all_there (e ∷ past) =
    there-append (length (channels (e ∷ past))) (hosts past) (option_to_list (starts past e))
    (there_more (length (channels past)) (length (channels (e ∷ past))) (hosts past) (no_channel_more past e) (all_there past))
    (started_there past e.who e.call e.answer e refl refl refl)

work_there : (n : ℕ) (ws : List Start) (h k : ℕ) → AllThere n ws → is_for_channel k (work_in (slice_get ws h)) ≡ true → k < n
work_there n [] h k p is = absurd (let q : false ≡ true = is in cc)
work_there n (w ∷ ws) zero k p is = p.0 k is
work_there n (w ∷ ws) (suc h) k p is = work_there n ws h k p.1 is

pub host_within : (past : List Entry) (h : HostNo) (k : ℕ) → is_for_channel k (work_of past h) ≡ true → k < length (channels past)
host_within past h k is = work_there (length (channels past)) (hosts past) h.0 k (all_there past) is

-- what ends a channel ends one that is there
ends_within : (past : List Entry) (e : Entry) (k : ℕ) (who : Who) (call : Call) → ends_by past e k (channel past k) who call ≡ true → k < length (channels past)
ends_within past e k (ByContext c) (Disconnect j) is =
    channel_within past k (some_if_one (channel past k) c (middle (j.0 == k) (is_one (end_in (channel past k) c)) (is_live past c) is))
  where
    middle : (a b d : Bool) → (a && b && d) ≡ true → b ≡ true
    middle true true d h = refl
    middle true false d h = absurd (cc)
    middle false b d h = absurd (cc)
ends_within past e k (ByContext c) Leave is = channel_within past k (some_if_one (channel past k) c (one (end_in (channel past k) c) (has_live (e ∷ past) (channel past k)) is))
  where
    one : (x : End) (b : Bool) → leaving x b ≡ true → is_one x ≡ true
    one Opener b h = refl
    one Receiver b h = refl
    one Neither b h = absurd (cc)
ends_within past e k (ByHost h) (HostEnded reason) is = host_within past h k is
ends_within past e k _ _ is = absurd (let q : false ≡ true = is in cc)

either_closed : (o : Option ℕ) (b : Bool) (n : ℕ) → is_some (option_or o (cond b (Some n) None)) ≡ (is_some o || b)
either_closed None true n = refl
either_closed None false n = refl
either_closed (Some m) b n = refl

-- a channel is closed one entry later where it was, or the entry ends it
pub closed_later : (past : List Entry) (e : Entry) (k : ℕ) → is_closed (e ∷ past) k ≡ (is_closed past k || ends_channel past e k)
closed_later past e k = either_closed (closed_at past k) (ends_channel past e k) (length past)

-- a channel that is closed is there
pub closed_within : (past : List Entry) (k : ℕ) → is_closed past k ≡ true → k < length (channels past)
closed_within [] k h = absurd (let q : false ≡ true = h in cc)
closed_within (e ∷ past) k h = parts (is_closed past k) refl (sym (closed_later past e k) ∙ h) (closed_within past k) (no_channel_more past e)
  where
    parts : (b : Bool) → is_closed past k ≡ b → (b || ends_channel past e k) ≡ true → (is_closed past k ≡ true → k < length (channels past))
        → length (channels past) ≤ length (channels (e ∷ past)) → k < length (channels (e ∷ past))
    parts true is h before more = let q : k < length (channels past) = before is in omega arith
    parts false is h before more = let q : k < length (channels past) = ends_within past e k e.who e.call h in omega arith

-- a context that lived lives one entry later, unless it leaves in it
pub lives_on : (past : List Entry) (e : Entry) (c : ContextNo) → is_live past c ≡ true → (is_leave e.call && is_by e.who c) ≡ false → is_live (e ∷ past) c ≡ true
lives_on past e c live stays = parts (context_of past c) (if_numbered c (enters e)) (has_left past c) (is_leave e.call) (is_by e.who c) live stays
  where
    parts : (o x : Option Context) (left l m : Bool) → (is_there o && not left) ≡ true → (l && m) ≡ false → (is_there (option_or o x) && not (left || (is_there o && l && m))) ≡ true
    parts None x left l m a b = absurd (let q : false ≡ true = a in cc)
    parts (Some y) x true l m a b = absurd (let q : false ≡ true = a in cc)
    parts (Some y) x false true true a b = absurd (let q : true ≡ false = b in cc)
    parts (Some y) x false true false a b = refl
    parts (Some y) x false false m a b = refl
