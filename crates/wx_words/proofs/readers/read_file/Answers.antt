use Rattle.std.proofs.Common.{◌≡◌, ◌∙◌, ap, ap₂, subst, map, string_bytes, true}
use Rattle.clap.specs.Words.{App, FailsBy, app_of, fault_of, is_simple_and_free, with_rule}
use Rattle.wx_words.specs.Readers as readers
use Rattle.wx_words.proofs.readers.read_file.Goals as goal

pub returns-clause-kinds : goal.returns-clause-kinds
returns-clause-kinds c =
    let reader_is : app_of c.in_ok-command.command ≡ readers.file_reader c.args.name.now = c.in_ok-command.ensures.shape c.wanted.ensures.own ∙ ap₂ with_rule c.bare.ensures c.wanted.ensures.rule in
    let is_simple : is_simple_and_free (app_of c.in_ok-command.command) ≡ true = ap is_simple_and_free reader_is in
    subst (λ (app : App). FailsBy (fault_of app (map string_bytes c.args.words.now)) c.try_get_matches_from.result) reader_is (c.try_get_matches_from.ensures.kinds is_simple)
