-- What the kit has come to between two frames.
use Rattle.std.specs.Prelude.{◌≡◌, ℕ, ◌<◌, ◌≤◌, List, [], ◌++◌, length, take, drop, Option, Some, None, option_to_list}
use Rattle.wx_native_frame.specs.Frames.{Unfinished, frame, IsUnderWay}
use Rattle.wx_native_frame.specs.declared.FrameFault.{FrameFault}
use Rattle.wx_native_frame.specs.declared.FrameFault.TheVariants as fault
use Rattle.wx_native_frame.specs.Splits.{frames, AllFit}
use Rattle.wx_outside.specs.Causes.{Rose}
use Rattle.wx_outside.specs.Sink.{added}
use Rattle.wx_host_launch.specs.Pipes.{InState, OutState, Gives}
use Rattle.wx_host_kit.specs.declared.KitEnd.{KitEnd}
use Rattle.wx_host_kit.specs.declared.KitEnd.TheVariants.{TooLong, BadJson, ReplyTooLong, WriteFailed, NoMemory}
use Rattle.wx_host_kit.specs.declared.serve.Went.{Went}
use Rattle.wx_host_kit.specs.declared.serve.Went.TheVariants.{Used, All, Ended}
use Rattle.wx_host_kit.specs.Kit.{Reply, replies, longest_read, longest_reply, HasAnswered, IsKitEnd}

-- why the kit ends at a reply of which this part was written
abbrev pub IsReplyEnd : Reply → (text part : List ℕ) → (before now : InState) → KitEnd → Type 0
IsReplyEnd reply text part before now (ReplyTooLong n) = (part ≡ []) × (longest_reply < n)
    × ((next : List ℕ) × (reply text ≡ Some next) × (n ≡ length next))
IsReplyEnd reply text part before now WriteFailed = Rose before.faults now.faults
    × ((next : List ℕ) × (reply text ≡ Some next) × (length next ≤ longest_reply)
    × ((n : ℕ) × (part ≡ take n (frame next))))
IsReplyEnd reply text part before now NoMemory = part ≡ []
IsReplyEnd reply text part before now _ = ⊥

-- the end that a reader's fault is
abbrev pub end_of_fault : FrameFault → KitEnd
end_of_fault (fault.TooLong n) = TooLong n
end_of_fault (fault.BadJson f) = BadJson f
end_of_fault fault.NoMemory = NoMemory

-- what the answer to a text comes to: its reply was written, where it has one; or the kit ends
abbrev pub Replied : Reply → List ℕ → InState → InState → Option KitEnd → Type 0
Replied reply text before now None = (now.sent ≡ added before.sent (frames (option_to_list (reply text))))
    × AllFit longest_reply (option_to_list (reply text))
Replied reply text before now (Some end) = (part : List ℕ) × (now.sent ≡ added before.sent part)
    × IsReplyEnd reply text part before now end

-- The bytes that were read are the frames of texts that were answered, and these in hand.
pub record IsServing (reply : Reply) (bytes hand : List ℕ) (before now : InState) : Type 0 where
  pub texts : List (List ℕ)
  pub answered : HasAnswered reply bytes texts hand
  pub sent : now.sent ≡ added before.sent (frames (replies reply texts))
  pub later : before.faults ≤ now.faults

-- The kit ends with a cause, behind texts that were answered.
pub record IsOver (reply : Reply) (bytes : List ℕ) (old new : OutState) (before now : InState) (end : KitEnd)
    : Type 0 where
  pub texts : List (List ℕ)
  pub rest : List ℕ
  pub answered : HasAnswered reply bytes texts rest
  pub part : List ℕ
  pub sent : now.sent ≡ added before.sent (frames (replies reply texts) ++ part)
  pub cause : IsKitEnd reply rest part old new before now end

-- how far a step within a piece goes: over a frame, with which some of the piece was used; or over all of it, where a
-- frame is under way
abbrev pub Goes : (piece left : List ℕ) → Went → Type 0
Goes piece left (Used n) = (0 < n) × (n ≤ length piece) × (left ≡ [])
Goes piece left All = IsUnderWay left longest_read
Goes piece left (Ended end) = Unit {0}

-- what it comes to: a frame more was answered; none was; or the kit ends, whatever its input tells
abbrev pub Comes : Reply → (bytes piece left : List ℕ) → InState → InState → Went → Type 0
Comes reply bytes piece left before now (Used n) = IsServing reply bytes (drop n piece) before now
Comes reply bytes piece left before now All = IsServing reply bytes left before now
Comes reply bytes piece left before now (Ended end) = (old new : OutState) → IsOver reply bytes old new before now end

-- The kit reads on: it has read some bytes, answered each frame in them, and has one under way.
pub record ReadsOn (reply : Reply) (reader : Unfinished) (old new : OutState) (before now : InState) : Type 0 where
  pub limit : reader.limit ≡ longest_read
  pub under_way : IsUnderWay reader.bytes longest_read
  pub bytes : List ℕ
  pub given : Gives old.stream new.stream bytes
  pub serving : IsServing reply bytes reader.bytes before now
  pub later : old.faults ≤ new.faults
  pub same_end : new.ended ≡ old.ended
