-- A turn keeps the desk's host and its world.
use Rattle.std.proofs.Common.{◌≡◌, ℕ, List, ◌∙◌, sym, subst}
use Rattle.wx_native_frame.specs.Frames.{Unfinished}
use Rattle.wx_machine.specs.declared.entries.Call.{Call}
use Rattle.wx_machine.specs.declared.entries.Reason.{Reason}
use Rattle.wx_machine.specs.declared.entries.Answer.{Answer}
use Rattle.wx_machine.specs.declared.entries.Call.TheVariants.{HostTake, HostSaid, HostEnded}
use Rattle.wx_machine.specs.declared.entries.Reason.TheVariants.{WriteFailed}
use Rattle.wx_machine.specs.declared.entries.Answer.TheVariants.{Text as HasText, End as NoMore}
use Rattle.wx_desk.specs.Desks.{HostDeskState, MakesNone, MakesOne}
use Rattle.wx_host_launch.specs.Pipes.{InState, OutState}
use Rattle.wx_host_launch.specs.Turns.{IsInTurn, IsOutTurn, ComesIn, ComesOut, at_once, behind_write}
use Rattle.wx_host_launch.specs.declared.turns.InTurn.{InTurn}
use Rattle.wx_host_launch.specs.declared.turns.InTurn.TheVariants as into
use Rattle.wx_host_launch.specs.declared.turns.OutTurn.{OutTurn}
use Rattle.wx_host_launch.specs.declared.turns.OutTurn.TheVariants as out

-- the same host's desk, over the same world
abbrev pub IsSameDesk : HostDeskState → HostDeskState → Type 0
IsSameDesk old new = (new.who ≡ old.who) × (new.world ≡ old.world)

same_twice : (a b c : HostDeskState) → IsSameDesk a b → IsSameDesk b c → IsSameDesk a c
same_twice a b c h k = (k.0 ∙ h.0, k.1 ∙ h.1)

same_none : (old new : HostDeskState) → MakesNone old new → IsSameDesk old new
same_none old new none = (none.same_who, none.same_world)

pub same_one : (old new : HostDeskState) (call : Call) (answer : Answer) → MakesOne old new call answer → IsSameDesk old new
same_one old new call answer one =
    let D : HostDeskState → Type 0 = IsSameDesk old in
    subst D (sym one.made) (one.others.same_who, one.others.same_world)

same_comes_in : (old new : HostDeskState) (before now : InState) (came : InTurn) → ComesIn old new before now came → IsSameDesk old new
same_comes_in old new before now into.Moved ((text, takes), kept) = same_one old new HostTake (HasText text) takes.one
same_comes_in old new before now into.Waits (finds, kept) = same_none old new finds.others
same_comes_in old new before now into.Closed (takes, kept) = same_one old new HostTake NoMore takes.one
same_comes_in old new before now into.Ended (fails, kept) =
    same_twice old fails.between new (same_one old fails.between HostTake (HasText fails.text) fails.taken.one) (same_one fails.between new (HostEnded WriteFailed) fails.left.0 fails.left.1)
same_comes_in old new before now into.NoMemory (at_once none kept) = same_none old new none
same_comes_in old new before now into.NoMemory (behind_write fails) =
    same_twice old fails.between new (same_one old fails.between HostTake (HasText fails.text) fails.taken.one) (same_none fails.between new fails.left)

same_comes_out : (old new : HostDeskState) (rest : List ℕ) (cause : Reason → Type 0) (came : OutTurn) → ComesOut old new rest cause came → IsSameDesk old new
same_comes_out old new rest cause out.Moved ((text, answer, one), none) = same_one old new (HostSaid text) answer one
same_comes_out old new rest cause out.Waits (finds, why) = same_none old new finds.others
same_comes_out old new rest cause out.Ended (reason, answer, ends, why) = same_one old new (HostEnded reason) answer ends.one
same_comes_out old new rest cause out.NoMemory none = same_none old new none

pub same_in : (old new : HostDeskState) (before now : InState) (came : InTurn) → IsInTurn old new before now came → IsSameDesk old new
same_in old new before now came turn = same_comes_in old new before now came turn.came

pub same_out : (old new : HostDeskState) (reader after : Unfinished) (before now : OutState) (came : OutTurn) → IsOutTurn old new reader after before now came → IsSameDesk old new
same_out old new reader after before now came turn = same_comes_out old new _ _ came turn.came
