use Rattle.std.proofs.Common.{◌∙◌, string_bytes}
use Rattle.clap.proofs.WalkLemmas.{list_any-map}
use Rattle.wx_words.specs.Words.{is_rounds}
use Rattle.wx_words.proofs.operands.has_rounds.Goals as goal

pub returns : goal.returns
returns c = c.is_any_rounds.ensures ∙ list_any-map is_rounds string_bytes c.args.words.now
