-- What a native host does in its part of a round. Every list of entries has the newest first.
use Rattle.std.specs.Prelude.{◌≡◌, ℕ, List, ◌∷◌, true, false}
use Rattle.wx_id.specs.declared.numbers.EntryNo.{EntryNo}
use Rattle.wx_id.specs.declared.numbers.HostNo.{HostNo}
use Rattle.wx_machine.specs.declared.entries.Who.TheVariants.{Host as ByHost}
use Rattle.wx_machine.specs.declared.entries.Call.{Call}
use Rattle.wx_machine.specs.declared.entries.Reason.{Reason}
use Rattle.wx_machine.specs.declared.entries.Answer.{Answer}
use Rattle.wx_machine.specs.declared.entries.Entry.{Entry}
use Rattle.wx_machine.specs.Words.{is_host_ready}
use Rattle.wx_machine.specs.declared.entries.Call.TheVariants.{HostTake, HostSaid, HostEnded}
use Rattle.wx_machine.specs.declared.entries.Reason.TheVariants.{StartFailed, WriteFailed}
use Rattle.wx_machine.specs.declared.entries.Answer.TheVariants.{Text as HasText}
use Rattle.wx_host_slot.specs.Journals.{entries_of}

-- Host h made this call, and was answered.
pub record Makes (h : HostNo) (call : Call) (before after : List Entry) : Type 0 where
  pub answer : Answer
  pub made : after ≡ record { who = ByHost h; call = call; answer = answer } ∷ before

-- Host h took a text.
pub record TakesText (h : HostNo) (before after : List Entry) : Type 0 where
  pub text : EntryNo
  pub made : after ≡ record { who = ByHost h; call = HostTake; answer = HasText text } ∷ before

-- A host's turn after those of the endpoints: it was still to be started and could not be, and so its end is its first
-- entry; it took what there was to take; it took a text that could not be written, and ended; or there was nothing to
-- take.
pub data HostTurn (unstarted : Type 0) (h : HostNo) (before after : List Entry) : Type 0 where
  not_started : unstarted → entries_of h before ≡ 0 → Makes h (HostEnded StartFailed) before after
      → HostTurn unstarted h before after
  took : is_host_ready before h ≡ true → Makes h HostTake before after → HostTurn unstarted h before after
  not_written : is_host_ready before h ≡ true → (between : List Entry) → TakesText h before between
      → Makes h (HostEnded WriteFailed) between after → HostTurn unstarted h before after
  rested : is_host_ready before h ≡ false → after ≡ before → HostTurn unstarted h before after

-- a host that is heard does not end as its start or a write failed
abbrev pub IsHeardEnd : Reason → Type 0
IsHeardEnd StartFailed = ⊥
IsHeardEnd WriteFailed = ⊥
IsHeardEnd _ = Unit {0}

-- a host's turn where nobody else can do anything: it said a text, or it ended
pub data SaysOrEnds (h : HostNo) (before after : List Entry) : Type 0 where
  said : (text : List ℕ) → Makes h (HostSaid text) before after → SaysOrEnds h before after
  ended : (reason : Reason) → IsHeardEnd reason → Makes h (HostEnded reason) before after → SaysOrEnds h before after
