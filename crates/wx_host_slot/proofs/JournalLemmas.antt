-- What one more entry changes in what a journal says of a host. Every list of entries has the newest first.
use Rattle.std.proofs.Common.{◌≡◌, ℕ, ◌+◌, List, [], ◌∷◌, ◌++◌, Bool, true, false, ◌&&◌, ◌||◌, Option, Some, None, cond, refl, ap, ◌∙◌, sym, arith}
use Rattle.std.specs.Prelude.{option_to_list, slice_get}
use Rattle.std.specs.Option.{option_or}
use Rattle.std.proofs.lemmas.Bool.{false≢true, true≢false, or_parts, eq-eqb}
use Rattle.std.proofs.lemmas.List.{append-nil}
use Rattle.wx_id.specs.declared.numbers.HostNo.{HostNo}
use Rattle.wx_context.specs.declared.contexts.Context.{Context}
use Rattle.wx_external.specs.World.{WorldLists}
use Rattle.wx_machine.specs.declared.entries.Who.TheVariants.{Host as ByHost}
use Rattle.wx_machine.specs.declared.entries.Call.{Call}
use Rattle.wx_machine.specs.declared.entries.Answer.{Answer}
use Rattle.wx_machine.specs.declared.entries.Entry.{Entry}
use Rattle.wx_machine.specs.Words.{context_of, enters, if_numbered, Start, starts, hosts, is_by_host, has_ended, is_host_end}
use Rattle.wx_broker.specs.Views.{view_for, view_of}
use Rattle.wx_host_launch.specs.Halves.{text_of_take, text_said}
use Rattle.wx_host_launch.specs.Records.{Program}
use Rattle.wx_host_launch.proofs.HostLemmas.{get-append}
use Rattle.wx_host_slot.specs.Journals.{entries_of, taken_by, said_by, EachOf, program_at, program_of}
use Rattle.wx_host_slot.specs.Turns.{HostTurn, not_started, took, not_written, rested}

-- Each call of a host

pub each_map : (P Q : List Entry → Call → Type 0) (h : HostNo) (past : List Entry) → ((before : List Entry) (call : Call) → P before call → Q before call) → EachOf h P past → EachOf h Q past
each_map P Q h [] f each = tt
each_map P Q h (e ∷ past) f (each, own) = (each_map P Q h past f each, λ is. f past e.call (own is))

not_end : (x y : Bool) → (x && y) ≡ false → y ≡ true → x ≡ false
not_end x true e is = and_true x e
  where
    and_true : (x : Bool) → (x && true) ≡ false → x ≡ false
    and_true true e = absurd (true≢false e)
    and_true false e = refl
not_end x false e is = absurd (false≢true is)

-- a host that has not ended made no call by which it ends
pub each_unended : (P : List Entry → Call → Type 0) (h : HostNo) (past : List Entry) → ((before : List Entry) (call : Call) → is_host_end call ≡ false → P before call) → has_ended past h ≡ false → EachOf h P past
each_unended P h [] f unended = tt
each_unended P h (e ∷ past) f unended =
    let (before, now) = or_parts (has_ended past h) (is_host_end e.call && is_by_host e.who h) unended in
    (each_unended P h past f before, λ is. f past e.call (not_end (is_host_end e.call) (is_by_host e.who h) now is))

-- An entry of others

pub entries_others : (e : Entry) (past : List Entry) (h : HostNo) → is_by_host e.who h ≡ false → entries_of h (e ∷ past) ≡ entries_of h past
entries_others e past h other = ap (λ b. cond b 1 0 + entries_of h past) other ∙ omega arith

pub taken_others : (e : Entry) (past : List Entry) (h : HostNo) → is_by_host e.who h ≡ false → taken_by h (e ∷ past) ≡ taken_by h past
taken_others e past h other = ap (λ b. taken_by h past ++ cond b (text_of_take past e.call e.answer) []) other ∙ append-nil (taken_by h past)

pub said_others : (e : Entry) (past : List Entry) (h : HostNo) → is_by_host e.who h ≡ false → said_by h (e ∷ past) ≡ said_by h past
said_others e past h other = ap (λ b. said_by h past ++ cond b (text_said e.call) []) other ∙ append-nil (said_by h past)

or_none : (x y : Bool) → (x || (y && false)) ≡ x
or_none true y = refl
or_none false true = refl
or_none false false = refl

pub ended_others : (e : Entry) (past : List Entry) (h : HostNo) → is_by_host e.who h ≡ false → has_ended (e ∷ past) h ≡ has_ended past h
ended_others e past h other = ap (λ b. has_ended past h || (is_host_end e.call && b)) other ∙ or_none (has_ended past h) (is_host_end e.call)

pub each_others : (P : List Entry → Call → Type 0) (e : Entry) (past : List Entry) (h : HostNo) → is_by_host e.who h ≡ false → EachOf h P past → EachOf h P (e ∷ past)
each_others P e past h other each = (each, λ is. absurd (false≢true (sym other ∙ is)))

-- A turn of a host of which less is asked

pub turn_map : {A B : Type 0} → (A → B) → (h : HostNo) (before after : List Entry) → HostTurn A h before after → HostTurn B h before after
turn_map f h before after (not_started unstarted none made) = not_started (f unstarted) none made
turn_map f h before after (took ready made) = took ready made
turn_map f h before after (not_written ready between taken made) = not_written ready between taken made
turn_map f h before after (rested not_ready same) = rested not_ready same

-- A host without entries

is_other : (b : Bool) (n : ℕ) → cond b 1 0 + n ≡ 0 → (b ≡ false) × (n ≡ 0)
is_other true n e = absurd (omega (arith, e))
is_other false n e = (refl, omega (arith, e))

pub none_ended : (past : List Entry) (h : HostNo) → entries_of h past ≡ 0 → has_ended past h ≡ false
none_ended [] h none = refl
none_ended (e ∷ past) h none =
    let (other, before) = is_other (is_by_host e.who h) (entries_of h past) none in
    ended_others e past h other ∙ none_ended past h before

pub none_taken : (past : List Entry) (h : HostNo) → entries_of h past ≡ 0 → taken_by h past ≡ []
none_taken [] h none = refl
none_taken (e ∷ past) h none =
    let (other, before) = is_other (is_by_host e.who h) (entries_of h past) none in
    taken_others e past h other ∙ none_taken past h before

pub none_said : (past : List Entry) (h : HostNo) → entries_of h past ≡ 0 → said_by h past ≡ []
none_said [] h none = refl
none_said (e ∷ past) h none =
    let (other, before) = is_other (is_by_host e.who h) (entries_of h past) none in
    said_others e past h other ∙ none_said past h before

pub none_each : (P : List Entry → Call → Type 0) (past : List Entry) (h : HostNo) → entries_of h past ≡ 0 → EachOf h P past
none_each P [] h none = tt
none_each P (e ∷ past) h none =
    let (other, before) = is_other (is_by_host e.who h) (entries_of h past) none in
    each_others P e past h other (none_each P past h before)

-- An entry of the host's own

abbrev pub own : HostNo → Call → Answer → Entry
own h call answer = record { who = ByHost h; call = call; answer = answer }

pub is_own : (h : HostNo) → is_by_host (ByHost h) h ≡ true
is_own h = eq-eqb h.0 h.0 refl

pub entries_own : (h : HostNo) (call : Call) (a : Answer) (past : List Entry) → entries_of h (own h call a ∷ past) ≡ entries_of h past + 1
entries_own h call a past = ap (λ b. cond b 1 0 + entries_of h past) (is_own h) ∙ omega arith

pub taken_own : (h : HostNo) (call : Call) (a : Answer) (past : List Entry) → taken_by h (own h call a ∷ past) ≡ taken_by h past ++ text_of_take past call a
taken_own h call a past = ap (λ b. taken_by h past ++ cond b (text_of_take past call a) []) (is_own h)

pub said_own : (h : HostNo) (call : Call) (a : Answer) (past : List Entry) → said_by h (own h call a ∷ past) ≡ said_by h past ++ text_said call
said_own h call a past = ap (λ b. said_by h past ++ cond b (text_said call) []) (is_own h)

or_both : (x y b : Bool) → b ≡ true → x ≡ false → (x || (y && b)) ≡ y
or_both true y b is un = absurd (true≢false un)
or_both false true true is un = refl
or_both false false true is un = refl
or_both false y false is un = absurd (false≢true is)

-- a host that had not ended has done so where this entry is its end
pub ended_own : (h : HostNo) (call : Call) (a : Answer) (past : List Entry) → has_ended past h ≡ false → has_ended (own h call a ∷ past) h ≡ is_host_end call
ended_own h call a past unended = or_both (has_ended past h) (is_host_end call) (is_by_host (ByHost h) h) (is_own h) unended

-- A host's program

started_at : (world : WorldLists) (past : List Entry) (o : Option Start) (p : Program) → program_at world (view_of world past o) ≡ Some p → (s : Start) × (o ≡ Some s)
started_at world past None p is = absurd cc
started_at world past (Some s) p is = (s, refl)

called_by : (world : WorldLists) (o : Option Context) (name : List ℕ) (p : Program) → program_at world (view_for world o name) ≡ Some p → (x : Context) × (o ≡ Some x)
called_by world None name p is = absurd cc
called_by world (Some x) name p is = (x, refl)

-- a host's program stays
pub program_later : (world : WorldLists) (past : List Entry) (e : Entry) (h : HostNo) (p : Program) → program_of world past h ≡ Some p → program_of world (e ∷ past) h ≡ Some p
program_later world past e h p is =
    let (s, at) = started_at world past (slice_get (hosts past) h.0) p is in
    let judged : program_at world (view_for world (context_of past s.caller) s.name) ≡ Some p = ap (λ o. program_at world (view_of world past o)) (sym at) ∙ is in
    let (x, there) = called_by world (context_of past s.caller) s.name p judged in
    ap (λ o. program_at world (view_of world (e ∷ past) o)) (get-append (hosts past) (option_to_list (starts past e)) h.0 s at)
    ∙ ap (λ o. program_at world (view_for world (option_or o (if_numbered s.caller (enters e))) s.name)) there
    ∙ ap (λ o. program_at world (view_for world o s.name)) (sym there)
    ∙ judged
