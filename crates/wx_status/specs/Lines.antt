-- The lines that answers have on standard error.
use Rattle.std.specs.Prelude.{ℕ, List, ◌++◌, decimal, codes}
use Rattle.wx_script.specs.declared.scene.SceneKind.{SceneKind}
use Rattle.wx_script.specs.declared.scene.SceneKind.TheVariants.{Missing, Large, Head, Form, Order, Id, Repeated, Unknown, Url, Unbound, Json, Many}
use Rattle.wx_script.specs.declared.scene.SceneFault.{SceneFault}
use Rattle.wx_journal_read.specs.declared.fault.JournalKind.{JournalKind}
use Rattle.wx_journal_read.specs.declared.fault.JournalKind.TheVariants as journal
use Rattle.wx_match_pattern.specs.declared.fault.PatternKind.{PatternKind}
use Rattle.wx_match_pattern.specs.declared.fault.PatternKind.TheVariants as pattern
use Rattle.wx_status.specs.declared.status.InputKind.{InputKind}
use Rattle.wx_status.specs.declared.status.InputKind.TheVariants as input

-- the word for a fault's kind
abbrev pub kind_word : SceneKind → List ℕ
kind_word Missing = codes "missing"
kind_word Large = codes "large"
kind_word Head = codes "head"
kind_word Form = codes "form"
kind_word Order = codes "order"
kind_word Id = codes "id"
kind_word Repeated = codes "repeated"
kind_word Unknown = codes "unknown"
kind_word Url = codes "url"
kind_word Unbound = codes "unbound"
kind_word Json = codes "json"
kind_word Many = codes "many"

abbrev pub usage_line : List ℕ
usage_line = codes "wx: usage\n"

-- the file is the word that names it
abbrev pub read_fault_line : List ℕ → List ℕ
read_fault_line file = codes "wx: read fault: " ++ (file ++ codes "\n")

abbrev pub refusal_line : SceneFault → List ℕ
refusal_line fault = codes "wx: scene refused: line " ++ (decimal fault.line ++ (codes ": " ++ (kind_word fault.kind ++ codes "\n")))

abbrev pub write_fault_line : List ℕ
write_fault_line = codes "wx: write fault\n"

abbrev pub no_memory_line : List ℕ
no_memory_line = codes "wx: no memory\n"

-- the word for the part of a pattern in which a fault lies
abbrev pub pattern_word : PatternKind → List ℕ
pattern_word pattern.Scheme = codes "scheme"
pattern_word pattern.Host = codes "host"
pattern_word pattern.Path = codes "path"

-- the word for what is wrong with a journal's text
abbrev pub journal_word : JournalKind → List ℕ
journal_word journal.Head = codes "head"
journal_word journal.Line = codes "line"

-- the rest of the line that says why an input is refused
abbrev pub input_rest : InputKind → List ℕ
input_rest input.Missing = codes "missing\n"
input_rest input.Large = codes "large\n"
input_rest (input.Pattern fault) = codes "pattern " ++ (decimal fault.place ++ (codes " " ++ (pattern_word fault.kind ++ codes "\n")))
input_rest input.Url = codes "url\n"
input_rest (input.Journal fault) = codes "journal " ++ (decimal fault.place ++ (codes " " ++ (journal_word fault.kind ++ codes "\n")))

abbrev pub input_line : InputKind → List ℕ
input_line kind = codes "wx: input refused: " ++ input_rest kind
