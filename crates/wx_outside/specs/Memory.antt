-- What a shelf in memory holds under its names.
use Rattle.std.specs.Prelude.{ℕ, List, [], ◌∷◌, map, Option, Some, None, if◌then◌else◌, string_bytes}
use Rattle.std.specs.Str.{bytes_eq}
use Rattle.std.specs.FinMap.{from_entries}
use Rattle.wx_outside.specs.declared.memory.MemoryFile.{MemoryFile}
use Rattle.wx_outside.specs.Shelf.{Files}

-- the bytes of the first file with this name
abbrev pub bytes_at : List MemoryFile → List ℕ → Option (List ℕ)
bytes_at [] name = None
bytes_at (file ∷ files) name = if bytes_eq name (string_bytes file.name) then Some file.bytes.items else bytes_at files
    name

-- a file's name and its bytes
abbrev pub named : MemoryFile → List ℕ × List ℕ
named file = (string_bytes file.name, file.bytes.items)

-- the map of the files, of which the first of a name counts
abbrev pub files_of : List MemoryFile → Files
files_of files = from_entries (map named files)
