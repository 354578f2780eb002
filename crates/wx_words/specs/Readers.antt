-- The simple commands of `clap` by which the words behind a command's name are counted and read.
use Rattle.std.specs.Prelude.{ℕ, List, Option, Some, None, true, codes}
use Rattle.clap.specs.Words.{App, Rule, new_app, new_rule, with_rule}
use Rattle.wx_words.specs.Words.{PlainCommand, matching}
use Rattle.clap.specs.declared.builder.action.ArgAction.TheVariants.{SetTrue}

-- an operand that has to be there
abbrev pub wanted : List ℕ → Rule
wanted id = record (new_rule id) { required = true }

-- the flag `--rounds`
abbrev pub rounds_flag : Rule
rounds_flag = record (new_rule (codes "rounds")) { long = Some (codes "rounds"); action = Some SetTrue }

-- a command of this name with neither help nor a version
abbrev pub bare : List ℕ → App
bare name = record (new_app name) {
  top = record (new_app name).top
      { disable_help_flag = true; disable_version_flag = true };
}

-- `match PATTERN URL`
abbrev pub match_reader : App
match_reader = with_rule (with_rule (bare (codes "match")) (wanted (codes "pattern"))) (wanted (codes "url"))

-- `frames FILE` or `report FILE`, by its name
abbrev pub file_reader : List ℕ → App
file_reader name = with_rule (bare name) (wanted (codes "file"))

-- `run SCENE` with or without `--rounds`
abbrev pub run_reader : App
run_reader = with_rule (with_rule (bare (codes "run")) rounds_flag) (wanted (codes "scene"))

-- the names under which the words of `match`, and the file, are read
abbrev pub pattern_id : List ℕ
pattern_id = codes "pattern"

abbrev pub url_id : List ℕ
url_id = codes "url"

abbrev pub file_id : List ℕ
file_id = codes "file"

-- both words of `match`, where both were read
abbrev pub both : Option (List ℕ) → Option (List ℕ) → Option PlainCommand
both (Some pattern) (Some url) = Some (matching pattern url)
both pattern url = None
