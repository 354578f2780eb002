-- Which words ask for what. The first word names the command; four words ask about the program where they stand alone.
use Rattle.std.specs.Prelude.{ℕ, Bool, true, false, ◌&&◌, ◌||◌, not, List, [], ◌∷◌, drop, Option, Some, None, ◌==◌, codes, if◌then◌else◌}
use Rattle.std.specs.Option.{option_map}
use Rattle.std.specs.Str.{bytes_eq}
use Rattle.std.specs.List.{list_any}
use Rattle.wx_script.specs.declared.scene.How.{How}
use Rattle.wx_script.specs.declared.scene.How.TheVariants.{Rounds, Threads}

-- a word that is no flag: one that does not begin with `-`, or `-` alone, which is standard input where a file stands
abbrev pub is_operand : List ℕ → Bool
is_operand [] = true
is_operand (b ∷ bs) = not (b == 45) || bytes_eq (b ∷ bs) (codes "-")

-- the word is the flag `--rounds`
abbrev pub is_rounds : List ℕ → Bool
is_rounds word = bytes_eq word (codes "--rounds")

-- the words begin with this one
abbrev pub is_named : List ℕ → List (List ℕ) → Bool
is_named name [] = false
is_named name (word ∷ words) = bytes_eq word name

-- the word itself, where it is an operand
abbrev pub operand : List ℕ → Option (List ℕ)
operand word = if is_operand word then Some word else None

-- the scene of the words after `run`: SCENE, or `--rounds SCENE`, or `SCENE --rounds`
abbrev pub scene_in : List (List ℕ) → Option (List ℕ)
scene_in (scene ∷ []) = operand scene
scene_in (one ∷ two ∷ []) = if is_rounds one then operand two else (if is_rounds two then operand one else None)
scene_in words = None

-- the scene of the words of a run; other words name none
abbrev pub scene_named : List (List ℕ) → Option (List ℕ)
scene_named words = if is_named (codes "run") words then scene_in (drop 1 words) else None

-- how the words of a run ask for it: in rounds where `--rounds` is among them, else with threads
abbrev pub how_asked : List (List ℕ) → How
how_asked words = if list_any is_rounds words then Rounds else Threads

-- a command that makes no run
pub data PlainCommand : Type 0 where
  -- does this pattern match this URL?
  matching : List ℕ → List ℕ → PlainCommand
  -- which frames are in this file?
  framing : List ℕ → PlainCommand
  -- what does the journal in this file tell of its channels and requests?
  reporting : List ℕ → PlainCommand
  -- which commands are there?
  helping : PlainCommand
  -- which version of the program is this?
  versioning : PlainCommand

-- the word asks for the commands
abbrev pub is_help : List ℕ → Bool
is_help word = bytes_eq word (codes "--help") || (bytes_eq word (codes "-h") || bytes_eq word (codes "help"))

-- what one word alone asks about the program
abbrev pub about_in : List (List ℕ) → Option PlainCommand
about_in (word ∷ []) = if is_help word then Some helping else (if bytes_eq word (codes "--version") then Some versioning else None)
about_in words = None

-- the words after `match`: PATTERN URL
abbrev pub match_in : List (List ℕ) → Option PlainCommand
match_in (pattern ∷ url ∷ []) = if is_operand pattern && is_operand url then Some (matching pattern url) else None
match_in words = None

-- the file of the words after `frames` or `report`: FILE
abbrev pub file_in : List (List ℕ) → Option (List ℕ)
file_in (file ∷ []) = operand file
file_in words = None

-- the command that makes no run which the words ask for; other words ask for none
abbrev pub plain_command_of : List (List ℕ) → Option PlainCommand
plain_command_of words =
    if is_named (codes "match") words then match_in (drop 1 words)
    else (if is_named (codes "frames") words then option_map framing (file_in (drop 1 words))
    else (if is_named (codes "report") words then option_map reporting (file_in (drop 1 words)) else about_in words))
