-- What steps come to at a desk over a broker that nobody else has. Every list of entries has the newest first.
use Rattle.std.proofs.Common.{◌≡◌, List, [], ◌∷◌, ◌++◌, Bool, true, false, Option, cond, refl, ap, ◌∙◌, sym, subst}
use Rattle.std.specs.Prelude.{None, IsSome, reverse}
use Rattle.std.proofs.lemmas.List.{map-append, append_cancel_right}
use Rattle.wx_id.specs.declared.numbers.HostNo.{HostNo}
use Rattle.wx_external.specs.World.{WorldLists}
use Rattle.wx_machine.specs.declared.entries.Who.TheVariants.{Host as ByHost}
use Rattle.wx_machine.specs.declared.entries.Call.{Call}
use Rattle.wx_machine.specs.declared.entries.Reason.{Reason}
use Rattle.wx_machine.specs.declared.entries.Answer.{Answer}
use Rattle.wx_machine.specs.declared.entries.Entry.{Entry}
use Rattle.wx_machine.specs.Words.{FollowsMachine, is_host_ready, EachAfter, is_by_host, next_text}
use Rattle.wx_machine.specs.declared.entries.Call.TheVariants.{HostTake, HostEnded}
use Rattle.wx_broker.specs.State.{BrokerState}
use Rattle.wx_desk.specs.History.{Seen, entries_in, calls_in, seen_by}
use Rattle.wx_desk.specs.Desks.{HostDeskState, past_of, MakesNone, MakesOne, after_own}
use Rattle.wx_desk.proofs.OverLemmas.{entries_in-seen_by}
use Rattle.wx_host_launch.specs.Halves.{text_of_take, texts_of_takes, text_said, texts_said}
use Rattle.wx_host_launch.specs.Steps.{TakesNews, FindsNoNews, Ends, FindsText}
use Rattle.wx_host_launch.proofs.BrokerLemmas.{host_over}
use Rattle.wx_host_slot.proofs.JournalLemmas.{own, is_own}

-- The desk is host h's, is alone, and has seen these entries.
pub record IsAt (h : HostNo) (world : WorldLists) (past : List Entry) (desk : HostDeskState) : Type 0 where
  pub same_who : desk.who ≡ h
  pub same_world : desk.world ≡ world
  pub seen : desk.history ≡ seen_by (ByHost h) past
  pub alone : desk.alone ≡ true

pub past_at : (h : HostNo) (world : WorldLists) (past : List Entry) (desk : HostDeskState) → IsAt h world past desk → past_of desk ≡ past
past_at h world past desk at = ap entries_in at.seen ∙ entries_in-seen_by (ByHost h) past

-- one desk has seen one list of entries
pub one_past : (h g : HostNo) (world : WorldLists) (past now : List Entry) (desk : HostDeskState) → IsAt h world past desk → desk.history ≡ seen_by (ByHost g) now → now ≡ past
one_past h g world past now desk at seen = sym (entries_in-seen_by (ByHost g) now) ∙ ap entries_in (sym seen) ∙ past_at h world past desk at

pub legal_at : (h : HostNo) (world : WorldLists) (past : List Entry) (desk : HostDeskState) → IsAt h world past desk → EachAfter (FollowsMachine world) (past_of desk) → EachAfter (FollowsMachine world) past
legal_at h world past desk at legal =
    let P : List Entry → Type 0 = EachAfter (FollowsMachine world) in
    subst P (past_at h world past desk at) legal

-- The desk over a broker

pub at_first : (h : HostNo) (broker : BrokerState) → IsAt h broker.world (reverse broker.entries) (host_over h broker)
at_first h broker = record { same_who = refl; same_world = refl; seen = refl; alone = refl }

-- Steps

none_at : (h : HostNo) (world : WorldLists) (past : List Entry) (old new : HostDeskState) → IsAt h world past old → MakesNone old new → IsAt h world past new
none_at h world past old new at none = record {
  same_who = none.same_who ∙ at.same_who;
  same_world = none.same_world ∙ at.same_world;
  seen = none.seen ∙ ap (λ xs. xs ++ old.history) (none.none_came at.alone) ∙ at.seen;
  alone = none.same_alone ∙ at.alone;
}

abbrev seen_as : Bool → Entry → Seen
seen_as mine e = record { own = mine; entry = e }

after_at : (h : HostNo) (world : WorldLists) (past : List Entry) (desk : HostDeskState) (call : Call) (a : Answer) → IsAt h world past desk → IsAt h world (own h call a ∷ past) (after_own desk call a)
after_at h world past desk call a at = record {
  same_who = at.same_who;
  same_world = at.same_world;
  seen = ap (λ g. seen_as true (own g call a) ∷ desk.history) at.same_who ∙ ap (λ b. seen_as b (own h call a) ∷ desk.history) (sym (is_own h)) ∙ ap (λ xs. seen_as (is_by_host (own h call a).who h) (own h call a) ∷ xs) at.seen;
  alone = at.alone;
}

pub one_at : (h : HostNo) (world : WorldLists) (past : List Entry) (old new : HostDeskState) (call : Call) (a : Answer) → IsAt h world past old → MakesOne old new call a → IsAt h world (own h call a ∷ past) new
one_at h world past old new call a at one =
    let D : HostDeskState → Type 0 = IsAt h world (own h call a ∷ past) in
    subst D (sym one.made) (after_at h world past one.between call a (none_at h world past old one.between at one.others))

-- what holds of the journal and the host of a desk holds of these entries and host h
holds_at : (P : List Entry → HostNo → Type 0) (h : HostNo) (world : WorldLists) (past : List Entry) (desk : HostDeskState) → IsAt h world past desk → P (past_of desk) desk.who → P past h
holds_at P h world past desk at holds = subst (λ p. P p h) (past_at h world past desk at) (subst (P (past_of desk)) at.same_who holds)

pub takes_at : (h : HostNo) (world : WorldLists) (past : List Entry) (old new : HostDeskState) (a : Answer) → IsAt h world past old → TakesNews old new a → IsAt h world (own h HostTake a ∷ past) new × (is_host_ready past h ≡ true)
takes_at h world past old new a at takes = (
  one_at h world past old new HostTake a at takes.one,
  holds_at (λ p g. is_host_ready p g ≡ true) h world past takes.one.between (none_at h world past old takes.one.between at takes.one.others) takes.ready,
)

pub no_news_at : (h : HostNo) (world : WorldLists) (past : List Entry) (old new : HostDeskState) → IsAt h world past old → FindsNoNews old new → IsAt h world past new × (is_host_ready past h ≡ false)
no_news_at h world past old new at finds =
    let now = none_at h world past old new at finds.others in
    (now, holds_at (λ p g. is_host_ready p g ≡ false) h world past new now finds.not_ready)

pub ends_at : (h : HostNo) (world : WorldLists) (past : List Entry) (old new : HostDeskState) (reason : Reason) (a : Answer) → IsAt h world past old → Ends old new reason a → IsAt h world (own h (HostEnded reason) a ∷ past) new × (next_text past h ≡ None)
ends_at h world past old new reason a at ends = (
  one_at h world past old new (HostEnded reason) a at ends.one,
  holds_at (λ p g. next_text p g ≡ None) h world past ends.one.between (none_at h world past old ends.one.between at ends.one.others) ends.none_left,
)

pub text_at : (h : HostNo) (world : WorldLists) (past : List Entry) (old new : HostDeskState) → IsAt h world past old → FindsText old new → IsSome (next_text past h)
text_at h world past old new at finds =
    holds_at (λ p g. IsSome (next_text p g)) h world past new (none_at h world past old new at finds.others) finds.text_left

-- What came in between two states

pub more_at : (h : HostNo) (world : WorldLists) (past entries : List Entry) (old new : HostDeskState) (more : List Seen) → IsAt h world past old → IsAt h world (entries ++ past) new → new.history ≡ more ++ old.history → more ≡ seen_by (ByHost h) entries
more_at h world past entries old new more at now seen =
    append_cancel_right more (seen_by (ByHost h) entries) (seen_by (ByHost h) past) (ap (λ xs. more ++ xs) (sym at.seen) ∙ sym seen ∙ now.seen ∙ map-append (λ (e : Entry). seen_as (is_by_host e.who h) e) entries past)

pub calls_own : (h : HostNo) (call : Call) (a : Answer) (entries : List Entry) → calls_in (seen_by (ByHost h) (own h call a ∷ entries)) ≡ call ∷ calls_in (seen_by (ByHost h) entries)
calls_own h call a entries = ap (λ b. cond b (call ∷ []) [] ++ calls_in (seen_by (ByHost h) entries)) (is_own h)

pub texts_own : (h : HostNo) (call : Call) (a : Answer) (entries past : List Entry) → texts_of_takes past (seen_by (ByHost h) (own h call a ∷ entries)) ≡ texts_of_takes past (seen_by (ByHost h) entries) ++ text_of_take past call a
texts_own h call a entries past = ap (λ b. texts_of_takes past (seen_by (ByHost h) entries) ++ cond b (text_of_take past call a) []) (is_own h)

pub words_own : (h : HostNo) (call : Call) (a : Answer) (entries : List Entry) → texts_said (seen_by (ByHost h) (own h call a ∷ entries)) ≡ texts_said (seen_by (ByHost h) entries) ++ text_said call
words_own h call a entries = ap (λ b. texts_said (seen_by (ByHost h) entries) ++ cond b (text_said call) []) (is_own h)
