-- What the program says of itself.
use Rattle.std.specs.Prelude.{ℕ, List, Result, Ok, true}
use Rattle.wx_status.specs.declared.status.InputKind.{InputKind}
use Rattle.wx_plain.specs.declared.about.TheConstants.{HELP, VERSION}
use Rattle.wx_plain.specs.Output.{Output}

-- the commands, one line each
abbrev pub help_text : List ℕ
help_text = HELP.now

abbrev pub version_text : List ℕ
version_text = VERSION.now

-- this text is printed
abbrev pub text_answer : List ℕ → Result Output InputKind
text_answer text = Ok (record { yes = true; text = text })
