use Rattle.std.proofs.Common.{◌∙◌, map, string_bytes, sym, true≢false}
use Rattle.clap.specs.Words.{found_of}
use Rattle.wx_words.proofs.Counts.{file_read, file_refused}
use Rattle.wx_words.proofs.plain.file_behind.Goals as goal

pub returns-in-Ok : goal.returns-in-Ok
returns-in-Ok c = c.get_str.ensures ∙ file_read c.args.name.now (map string_bytes c.args.words.now) (found_of c.in-Ok.found) c.requires c.in-Ok.ensures.matches c.in-Ok.ensures.kinds

pub returns : goal.returns
returns c =
    file_refused c.args.name.now (map string_bytes c.args.words.now) c.in-Err.e c.requires c.in-Err.ensures.kinds (λ is. true≢false (sym (c.is_out_of_memory.ensures.1 is) ∙ c.if-is_out_of_memory.false))
