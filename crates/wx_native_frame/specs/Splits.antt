-- A stream of frames, split into the texts that they carry and a rest.
use Rattle.std.specs.Prelude.{◌≡◌, ℕ, ◌≤◌, List, [], ◌∷◌, ◌++◌, length, take}
use Rattle.wx_json.specs.Text.{IsJsonText}
use Rattle.wx_native_frame.specs.Frames.{frame, IsFrame}

-- the frames of the texts, one after the other
abbrev pub frames : List (List ℕ) → List ℕ
frames [] = []
frames (t ∷ ts) = frame t ++ frames ts

-- Each is a JSON text of at most so many bytes.
abbrev pub AllFit : ℕ → List (List ℕ) → Type 0
AllFit limit [] = Unit {0}
AllFit limit (t ∷ ts) = IsJsonText t × (length t ≤ limit) × AllFit limit ts

-- The stream is the frames of the texts, followed by a rest that no frame begins.
pub record IsSplit (limit : ℕ) (stream : List ℕ) (texts : List (List ℕ)) (rest : List ℕ) : Type 0 where
  pub fit : AllFit limit texts
  pub stream_is : stream ≡ frames texts ++ rest
  pub no_frame : (i : ℕ) (t : List ℕ) → ¬ IsFrame limit (take i rest) t
