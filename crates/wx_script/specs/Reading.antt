-- What the readers answer.
use Rattle.std.specs.Prelude.{◌≡◌, ◌≤◌, ℕ, Bool, true, false, IsTrue, List, [], ◌∷◌, Result, Ok, Err, if◌then◌else◌}
use Rattle.wx_script.specs.declared.scene.SceneFault.{SceneFault}
use Rattle.wx_script.specs.declared.scene.SceneKind.{SceneKind}
use Rattle.wx_script.specs.declared.scene.SceneKind.TheVariants as kind
use Rattle.wx_script.specs.declared.scene.SceneReadFault.{SceneReadFault}
use Rattle.wx_script.specs.declared.scene.SceneReadFault.TheVariants as fault
use Rattle.wx_script.specs.Draft.{Draft}
use Rattle.wx_script.specs.Scene.{is_line_feed}

-- the bytes up to the first line feed
abbrev pub first_line : List ℕ → List ℕ
first_line [] = []
first_line (b ∷ bs) = if is_line_feed b then [] else b ∷ first_line bs

-- what stands after the first line feed
abbrev pub behind_line : List ℕ → List ℕ
behind_line [] = []
behind_line (b ∷ bs) = if is_line_feed b then bs else behind_line bs

abbrev pub FailsAs : {A : Type 0} → SceneReadFault → Result A SceneFault → Type 0
FailsAs fault.NoMemory read = Unit {0}
FailsAs (fault.Bad f) read = read ≡ Err f

-- the draft is what is read, unless memory ran out
abbrev pub ReadsDraft : {A : Type 0} → Draft → Result A SceneReadFault → Result Draft SceneFault → Type 0
ReadsDraft new (Ok x) read = read ≡ Ok new
ReadsDraft new (Err e) read = FailsAs e read

-- the result is what is read, unless memory ran out
abbrev pub ReadsResult : {A : Type 0} → Result A SceneReadFault → Result A SceneFault → Type 0
ReadsResult (Ok x) read = read ≡ Ok x
ReadsResult (Err e) read = FailsAs e read

-- a kind that a line can have: a file that is missing or too large has no faulty line
abbrev pub is_of_a_line : SceneKind → Bool
is_of_a_line kind.Missing = false
is_of_a_line kind.Large = false
is_of_a_line _ = true

-- lines are numbered from 1
pub record IsOfALine (f : SceneFault) : Type 0 where
  pub line : 1 ≤ f.line
  pub kind : IsTrue (is_of_a_line f.kind)

abbrev pub NamesALine : SceneReadFault → Type 0
NamesALine fault.NoMemory = Unit {0}
NamesALine (fault.Bad f) = IsOfALine f
