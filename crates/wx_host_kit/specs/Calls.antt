-- How a browser starts a host's program, and what the program ends with.
use Rattle.std.specs.Prelude.{ℕ, Bool, false, List, [], ◌∷◌, is_some}
use Rattle.wx_host_manifest.specs.Origins.{caller_of}
use Rattle.wx_host_kit.specs.declared.KitEnd.{KitEnd}
use Rattle.wx_host_kit.specs.declared.KitEnd.TheVariants.{Exited, TooLong, BadJson, Cut}
use Rattle.wx_host_kit.specs.declared.KitEnd.TheVariants.{ReplyTooLong, ReadFailed, WriteFailed, NoMemory}

-- the first word is the origin of an extension
abbrev pub is_host_call : List (List ℕ) → Bool
is_host_call [] = false
is_host_call (word ∷ words) = is_some (caller_of word)

-- the program's status
abbrev pub host_status : KitEnd → ℕ
host_status Exited = 0
host_status ReadFailed = 3
host_status (TooLong n) = 4
host_status (BadJson f) = 4
host_status (Cut have) = 4
host_status (ReplyTooLong n) = 4
host_status WriteFailed = 6
host_status NoMemory = 7
