use Rattle.std.proofs.Common.{◌∙◌, map, string_bytes, sym, true≢false}
use Rattle.clap.specs.Words.{found_of}
use Rattle.wx_words.proofs.Counts.{match_read, match_refused}
use Rattle.wx_words.proofs.plain.match_command.Goals as goal

pub returns-in-Ok : goal.returns-in-Ok
returns-in-Ok c = c.of_match.ensures ∙ match_read (map string_bytes c.args.words.now) (found_of c.in-Ok.found) c.requires c.in-Ok.ensures.matches c.in-Ok.ensures.kinds

pub returns : goal.returns
returns c =
    match_refused (map string_bytes c.args.words.now) c.in-Err.e c.requires c.in-Err.ensures.kinds (λ is. true≢false (sym (c.is_out_of_memory.ensures.1 is) ∙ c.if-is_out_of_memory.false))
