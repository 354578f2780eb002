-- What a desk tells, and what a step at it does to the journal that it tells.
use Rattle.std.specs.Prelude.{◌≡◌, ◌<◌, Bool, true, List, [], ◌∷◌, ◌++◌, length}
use Rattle.wx_id.specs.declared.numbers.ContextNo.{ContextNo}
use Rattle.wx_id.specs.declared.numbers.HostNo.{HostNo}
use Rattle.wx_external.specs.World.{WorldLists}
use Rattle.wx_machine.specs.declared.entries.Who.{Who}
use Rattle.wx_machine.specs.declared.entries.Call.{Call}
use Rattle.wx_machine.specs.declared.entries.Answer.{Answer}
use Rattle.wx_machine.specs.declared.entries.Entry.{Entry}
use Rattle.wx_machine.specs.Words.{FollowsMachine, contexts, EachAfter, hosts}
use Rattle.wx_machine.specs.declared.entries.Who.TheVariants.{Context, Host}
use Rattle.wx_desk.specs.History.{Seen, entries_in, AreOthers}

-- what a desk tells: whose calls it makes, the world, what it has seen, and whether nobody else makes entries there
pub record DeskState (A : Type 0) (as_who : A → Who) : Type 0 where
  pub who : A
  pub world : WorldLists
  pub history : List Seen
  pub alone : Bool

-- the desk of a context
abbrev pub ContextDeskState : Type 0
ContextDeskState = DeskState ContextNo Context

-- the desk of a native host
abbrev pub HostDeskState : Type 0
HostDeskState = DeskState HostNo Host

-- the entries of a desk's journal, the newest first
abbrev pub past_of : {A : Type 0} {as_who : A → Who} → DeskState A as_who → List Entry
past_of desk = entries_in desk.history

-- a context that came in, or a host that was started
abbrev pub IsKnown : List Entry → Who → Type 0
IsKnown past (Context c) = c.0 < contexts past
IsKnown past (Host h) = h.0 < length (hosts past)

-- Its journal is legal, and knows the one whose calls it makes.
pub record IsSound {A : Type 0} {as_who : A → Who} (desk : DeskState A as_who) : Type 0 where
  pub legal : EachAfter (FollowsMachine desk.world) (past_of desk)
  pub known : IsKnown (past_of desk) (as_who desk.who)

-- No entry was made at the desk: at most entries of others came in, and none where it is alone.
pub record MakesNone {A : Type 0} {as_who : A → Who} (old new : DeskState A as_who) : Type 0 where
  pub others : List Seen
  pub none_own : AreOthers others
  pub none_came : old.alone ≡ true → others ≡ []
  pub seen : new.history ≡ others ++ old.history
  pub same_who : new.who ≡ old.who
  pub same_world : new.world ≡ old.world
  pub same_alone : new.alone ≡ old.alone

-- the desk's own entry
abbrev pub own_entry : {A : Type 0} {as_who : A → Who} → DeskState A as_who → Call → Answer → Seen
own_entry {A} {as_who} desk call answer = record {
  own = true;
  entry = record
      { who = as_who desk.who; call = call; answer = answer };
}

-- the desk with one own entry more
abbrev pub after_own : {A : Type 0} {as_who : A → Who} → DeskState A as_who → Call → Answer → DeskState A as_who
after_own desk call answer = record desk { history = own_entry desk call answer ∷ desk.history }

-- This call was made at the desk and answered so: after what came in of others, its own entry stands last.
pub record MakesOne {A : Type 0} {as_who : A → Who} (old new : DeskState A as_who) (call : Call) (answer : Answer)
    : Type 0 where
  pub between : DeskState A as_who
  pub others : MakesNone old between
  pub made : new ≡ after_own between call answer
