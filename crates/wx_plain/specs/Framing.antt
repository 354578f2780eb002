-- What `frames FILE` prints: the frames that native messaging would read from the file, and how they end.
use Rattle.std.specs.Prelude.{◌≡◌, ℕ, suc, ◌<◌, List, [], ◌∷◌, ◌++◌, length, Bool, true, false, decimal, codes}
use Rattle.wx_json.specs.declared.JsonKind.{JsonKind}
use Rattle.wx_json.specs.declared.JsonKind.TheVariants as json
use Rattle.wx_journal_text.specs.Text.{sized}
use Rattle.wx_native_frame.specs.declared.FrameFault.TheVariants as fault
use Rattle.wx_native_frame.specs.Frames.{IsTrouble, IsUnderWay}
use Rattle.wx_native_frame.specs.Splits.{IsSplit}
use Rattle.wx_plain.specs.declared.frames.FramesEnd.{FramesEnd}
use Rattle.wx_plain.specs.declared.frames.FramesEnd.TheVariants.{Whole, TooLong, BadJson, Cut}
use Rattle.wx_plain.specs.Output.{Output}

-- the most bytes of a frame's text
abbrev pub frame_limit : ℕ
frame_limit = 1048576

-- What stands behind the last frame: nothing, bytes in trouble, or so many bytes of a frame that is under way.
abbrev pub EndsBy : List ℕ → FramesEnd → Type 0
EndsBy rest Whole = rest ≡ []
EndsBy rest (TooLong len) = IsTrouble rest frame_limit (fault.TooLong len)
EndsBy rest (BadJson place) = IsTrouble rest frame_limit (fault.BadJson place)
EndsBy rest (Cut have) = (have ≡ length rest) × (0 < have) × IsUnderWay rest frame_limit

-- the line of a frame: its number, and its text behind its length
abbrev pub frame_line : ℕ → List ℕ → List ℕ
frame_line n text = decimal n ++ (codes " " ++ (sized text ++ codes "\n"))

-- the lines of frames that are numbered from n
abbrev pub frame_lines : ℕ → List (List ℕ) → List ℕ
frame_lines n [] = []
frame_lines n (text ∷ texts) = frame_line n text ++ frame_lines (suc n) texts

-- the word for a JSON fault's kind
abbrev pub json_word : JsonKind → List ℕ
json_word json.Syntax = codes "syntax"
json_word json.Utf8 = codes "utf8"
json_word json.TooDeep = codes "too_deep"
json_word json.Ends = codes "ends"

-- the last line
abbrev pub end_line : FramesEnd → List ℕ
end_line Whole = codes "end\n"
end_line (TooLong len) = codes "too_long " ++ (decimal len ++ codes "\n")
end_line (BadJson found) = codes "bad_json " ++ (decimal found.place ++ (codes " " ++ (json_word found.kind ++ codes "\n")))
end_line (Cut have) = codes "cut " ++ (decimal have ++ codes "\n")

-- yes is that every frame was whole
abbrev pub is_whole : FramesEnd → Bool
is_whole Whole = true
is_whole (TooLong len) = false
is_whole (BadJson found) = false
is_whole (Cut have) = false

-- The bytes are the frames of these texts and a rest that ends so, and all of it is printed.
pub record IsFramesOutput (bytes : List ℕ) (output : Output) : Type 0 where
  pub texts : List (List ℕ)
  pub rest : List ℕ
  pub split : IsSplit frame_limit bytes texts rest
  pub end : FramesEnd
  pub ends : EndsBy rest end
  pub printed : output ≡ record { yes = is_whole end; text = frame_lines 0 texts ++ end_line end }
