use Rattle.std.proofs.Common.{◌≡◌, ◌∙◌, ap, ap₂, subst, map, string_bytes, true, false, rules}
use Rattle.clap.specs.Words.{App, FailsBy, app_of, fault_of, is_simple_and_free, rule_of, with_rule}
use Rattle.wx_words.specs.Readers as readers
use Rattle.wx_words.proofs.readers.read_run.Goals as goal

pub returns-clause-kinds : goal.returns-clause-kinds
returns-clause-kinds c =
    let flag_is : rule_of c.action-rounds.result ≡ readers.rounds_flag = search rules in
    let flag_own : c.action-rounds.result.global ≡ false = search rules in
    let first_is = c.in_ok-arg.ensures.shape flag_own ∙ ap₂ with_rule c.bare.ensures flag_is in
    let reader_is : app_of c.in_ok-command.command ≡ readers.run_reader = c.in_ok-command.ensures.shape c.wanted.ensures.own ∙ ap₂ with_rule first_is c.wanted.ensures.rule in
    let is_simple : is_simple_and_free (app_of c.in_ok-command.command) ≡ true = ap is_simple_and_free reader_is in
    subst (λ (app : App). FailsBy (fault_of app (map string_bytes c.args.words.now)) c.try_get_matches_from.result) reader_is (c.try_get_matches_from.ensures.kinds is_simple)
