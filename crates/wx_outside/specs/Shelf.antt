-- What a shelf holds under its names, where it tells.
use Rattle.std.specs.Prelude.{◌≡◌, ℕ, ◌≤◌, List, length, Option, Some, None, Result, Ok, Err, nat_lt, if◌then◌else◌}
use Rattle.std.specs.Ordering.{nat_cmp}
use Rattle.std.specs.Cmp.Lexicographic.{slice_cmp}
use Rattle.std.specs.FinMap as map
use Rattle.wx_outside.specs.Causes.{Rose}
use Rattle.wx_outside.specs.declared.shelf.Found.{Found}
use Rattle.wx_outside.specs.declared.shelf.Found.TheVariants.{Bytes, Missing, Large}
use Rattle.wx_outside.specs.declared.shelf.ShelfFault.{ShelfFault}
use Rattle.wx_outside.specs.declared.shelf.ShelfFault.TheVariants.{Failed}

-- from names to bytes
abbrev pub Files : Type 0
Files = map.FinMap (slice_cmp nat_cmp) (List ℕ)

-- what a shelf tells: its files, where it tells them; and how many reads were made of it, and how many have failed
pub record ShelfState : Type 0 where
  pub files : Option Files
  pub reads : ℕ
  pub faults : ℕ

-- what stands under a name
pub data Content : Type 0 where
  present : List ℕ → Content
  absent : Content
  too_large : Content

-- an answer's content, without where it lies in memory
abbrev pub content : Found → Content
content (Bytes bytes) = present bytes.items
content Missing = absent
content Large = too_large

-- the most bytes that are handed out of one file
abbrev pub limit : ℕ
limit = 67108864

-- a file of more bytes is too large
abbrev pub content_of : Option (List ℕ) → Content
content_of None = absent
content_of (Some bytes) = if nat_lt limit (length bytes) then too_large else present bytes

-- bytes that are handed out are within the limit
abbrev pub IsWithinLimit : Content → Type 0
IsWithinLimit (present bytes) = length bytes ≤ limit
IsWithinLimit absent = Unit {0}
IsWithinLimit too_large = Unit {0}

-- what these files have under a name
abbrev pub content_at : Files → List ℕ → Content
content_at files name = content_of (map.get files name)

-- this is what stands under the name, as far as the files are told
abbrev pub Tells : Option Files → List ℕ → Content → Type 0
Tells None name found = Unit {0}
Tells (Some files) name found = found ≡ content_at files name

-- what is read is what stands there
abbrev pub Reads : Option Files → List ℕ → Result Found ShelfFault → Type 0
Reads files name (Ok found) = Tells files name (content found)
Reads files name (Err fault) = Unit {0}

-- The count never falls, and `Failed` is answered only where it has risen.
pub record HasCause (before now : ℕ) (result : Result Found ShelfFault) : Type 0 where
  pub later : before ≤ now
  pub failed : result ≡ Err Failed → Rose before now
