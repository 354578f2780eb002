-- Which bytes are a scene, which scene they spell, and which line is the first faulty one.
use Rattle.std.specs.Prelude.{ℕ, ◌+◌, Bool, List, [], ◌∷◌, Option, Some, None, Result, Ok, Err, ◌==◌, codes, if◌then◌else◌}
use Rattle.std.specs.List.{onto_first}
use Rattle.std.specs.Str.{bytes_eq}
use Rattle.wx_script.specs.declared.scene.SceneKind.{SceneKind}
use Rattle.wx_script.specs.declared.scene.SceneKind.TheVariants as kind
use Rattle.wx_script.specs.declared.scene.SceneFault.{SceneFault}
use Rattle.wx_script.specs.Line.{Line, line_at}
use Rattle.wx_script.specs.Draft.{Draft, fresh, line_added}
use Rattle.wx_script.specs.SceneValue.{SceneValue}

abbrev pub is_line_feed : ℕ → Bool
is_line_feed b = b == 10

-- the lines of a text: each ends at its line feed, which the last may lack
abbrev pub lines_of : List ℕ → List (List ℕ)
lines_of [] = []
lines_of (b ∷ bs) = if is_line_feed b then [] ∷ lines_of bs else onto_first b (lines_of bs)

-- a text that is none of the forms has the fault `Form`
abbrev pub line_or_form : Draft → Option Line → Result Draft SceneKind
line_or_form d None = Err kind.Form
line_or_form d (Some line) = line_added d line

abbrev pub text_added : Draft → List ℕ → Result Draft SceneKind
text_added d text = line_or_form d (line_at text)

abbrev pub fault_at : ℕ → SceneKind → SceneFault
fault_at n k = record { line = n; kind = k }

-- what follows, unless line n is faulty
abbrev pub unless_faulty : {A B : Type 0} → ℕ → Result A SceneKind → (A → Result B SceneFault) → Result B SceneFault
unless_faulty n (Ok x) f = f x
unless_faulty n (Err k) f = Err (fault_at n k)

-- the lines from the n-th on, one after another
abbrev pub lines_added : ℕ → Draft → List (List ℕ) → Result Draft SceneFault
lines_added n d [] = Ok d
lines_added n d (text ∷ texts) = unless_faulty n (text_added d text) (λ d. lines_added (n + 1) d texts)

abbrev pub scene_from : Result Draft SceneFault → Result SceneValue SceneFault
scene_from (Ok d) = Ok (record { extensions = d.extensions; hosts = d.hosts; files = d.files; endpoints = d.endpoints })
scene_from (Err e) = Err e

-- the first line is the head line
abbrev pub headed : List (List ℕ) → Result SceneValue SceneFault
headed [] = Err (fault_at 1 kind.Head)
headed (head ∷ texts) = if bytes_eq head (codes "wx scene 1 chrome") then scene_from (lines_added 2 fresh texts) else Err (fault_at 1 kind.Head)

-- the scene that a text spells, or its first faulty line
abbrev pub scene_of : List ℕ → Result SceneValue SceneFault
scene_of text = headed (lines_of text)
