-- The host's side of native messaging: a program reads frames, and writes a reply, or none, to each (Chrome's "Native
-- messaging": a message to a host has at most 64 MiB, one from it at most 1 MiB).
use Rattle.std.specs.Prelude.{◌≡◌, ℕ, ◌<◌, ◌≤◌, true, List, [], ◌∷◌, ◌++◌, length, take, Option, Some, option_to_list}
use Rattle.wx_json.specs.Text.{IsJsonText}
use Rattle.wx_native_frame.specs.Frames.{frame, IsTrouble, IsUnderWay}
use Rattle.wx_native_frame.specs.Splits.{frames, AllFit}
use Rattle.wx_native_frame.specs.declared.FrameFault.TheVariants as fault
use Rattle.wx_outside.specs.Causes.{Rose}
use Rattle.wx_outside.specs.Sink.{added}
use Rattle.wx_host_launch.specs.Pipes.{InState, OutState, Gives, NoneComes}
use Rattle.wx_host_kit.specs.declared.KitEnd.{KitEnd}
use Rattle.wx_host_kit.specs.declared.KitEnd.TheVariants.{Exited, TooLong, BadJson, Cut}
use Rattle.wx_host_kit.specs.declared.KitEnd.TheVariants.{ReplyTooLong, ReadFailed, WriteFailed, NoMemory}

-- the most bytes of a text that is read, and of a reply
abbrev pub longest_read : ℕ
longest_read = 67108864

abbrev pub longest_reply : ℕ
longest_reply = 1048576

-- a handler's meaning: its reply to each text, one text or none
abbrev pub Reply : Type 0
Reply = List ℕ → Option (List ℕ)

-- the replies to these texts in order, those without one left out
abbrev pub replies : Reply → List (List ℕ) → List (List ℕ)
replies reply [] = []
replies reply (t ∷ ts) = option_to_list (reply t) ++ replies reply ts

-- The bytes are the frames of these texts and a rest, and every text and every reply is within its limit.
pub record HasAnswered (reply : Reply) (bytes : List ℕ) (texts : List (List ℕ)) (rest : List ℕ) : Type 0 where
  pub bytes_are : bytes ≡ frames texts ++ rest
  pub texts_fit : AllFit longest_read texts
  pub replies_fit : AllFit longest_reply (replies reply texts)

-- A frame stands in front of the rest, and this is the reply to its text.
pub record IsNextReply (reply : Reply) (rest next : List ℕ) : Type 0 where
  pub text : List ℕ
  pub behind : List ℕ
  pub rest_is : rest ≡ frame text ++ behind
  pub json : IsJsonText text
  pub fits : length text ≤ longest_read
  pub is : reply text ≡ Some next

-- the input has ended, and where it tells none of its bytes is still to come
abbrev pub HasEnded : OutState → Type 0
HasEnded input = (input.ended ≡ true) × NoneComes input.stream

-- Why the kit ends, where this rest stands behind the texts that it answered, and this part of a frame was written
-- behind their replies. Each end but a failed write leaves no such part.
abbrev pub IsKitEnd : Reply → (rest part : List ℕ) → (old new : OutState) → (before now : InState) → KitEnd → Type 0
IsKitEnd reply rest part old new before now Exited = (part ≡ []) × HasEnded new × (rest ≡ [])
IsKitEnd reply rest part old new before now (Cut have) = (part ≡ []) × HasEnded new × IsUnderWay rest longest_read
    × (have ≡ length rest) × (0 < have)
IsKitEnd reply rest part old new before now (TooLong n) = (part ≡ []) × IsTrouble rest longest_read (fault.TooLong n)
IsKitEnd reply rest part old new before now (BadJson f) = (part ≡ []) × IsTrouble rest longest_read (fault.BadJson f)
IsKitEnd reply rest part old new before now (ReplyTooLong n) = (part ≡ []) × (longest_reply < n)
    × ((next : List ℕ) × IsNextReply reply rest next × (n ≡ length next))
IsKitEnd reply rest part old new before now ReadFailed = (part ≡ []) × IsUnderWay rest longest_read
    × Rose old.faults new.faults × (new.ended ≡ old.ended)
IsKitEnd reply rest part old new before now WriteFailed = Rose before.faults now.faults
    × ((next : List ℕ) × IsNextReply reply rest next × (length next ≤ longest_reply)
    × ((n : ℕ) × (part ≡ take n (frame next))))
IsKitEnd reply rest part old new before now NoMemory = part ≡ []

-- What was read is the frames of some texts and a rest. What was written is the frames of the replies to these texts,
-- and behind a failed write a part of the next one's. The end has its cause.
pub record IsServed (reply : Reply) (old new : OutState) (before now : InState) (end : KitEnd) : Type 0 where
  pub bytes : List ℕ
  pub given : Gives old.stream new.stream bytes
  pub texts : List (List ℕ)
  pub rest : List ℕ
  pub answered : HasAnswered reply bytes texts rest
  pub part : List ℕ
  pub sent : now.sent ≡ added before.sent (frames (replies reply texts) ++ part)
  pub cause : IsKitEnd reply rest part old new before now end
