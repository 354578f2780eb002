-- A command without where its words lie in memory.
use Rattle.wx_words.specs.declared.plain.PlainCommand as code
use Rattle.wx_words.specs.declared.plain.PlainCommand.TheVariants as v
use Rattle.wx_words.specs.Words.{PlainCommand, matching, framing, reporting, helping, versioning}

abbrev pub command_view : code.PlainCommand → PlainCommand
command_view (v.Match pattern url) = matching pattern.now url.now
command_view (v.Frames file) = framing file.now
command_view (v.Report file) = reporting file.now
command_view v.Help = helping
command_view v.Version = versioning
