-- Lines without where they lie in memory.
use Rattle.std.specs.Borrow.{Bor}
use Rattle.std.specs.Prelude.{ℕ, List, Option, option_copied}
use Rattle.wx_script.specs.declared.line.NamedTarget as code_target
use Rattle.wx_script.specs.declared.line.NamedTarget.TheVariants as t
use Rattle.wx_script.specs.declared.line.NamedAct as code_act
use Rattle.wx_script.specs.declared.line.NamedAct.TheVariants as a
use Rattle.wx_script.specs.declared.line.NamedCommand as code_command
use Rattle.wx_script.specs.declared.line.NamedCommand.TheVariants as c
use Rattle.wx_script.specs.declared.line.Document as code_document
use Rattle.wx_script.specs.declared.line.NamedContext as code_context
use Rattle.wx_script.specs.declared.line.NamedContext.TheVariants as x
use Rattle.wx_script.specs.declared.line.Line as code_line
use Rattle.wx_script.specs.declared.line.Line.TheVariants as l
use Rattle.wx_script.specs.Line as spec

abbrev pub target_view : code_target.NamedTarget → spec.NamedTarget
target_view t.Own = spec.own
target_view (t.Extension name) = spec.extension_named name.now
target_view (t.Tab tab frame) = spec.tab tab frame

abbrev pub target_and_rest_view : code_target.NamedTarget × Option (Bor (List ℕ)) → spec.NamedTarget × Option (List ℕ)
target_and_rest_view x = (target_view x.0, option_copied x.1)

abbrev pub act_view : code_act.NamedAct → spec.NamedAct
act_view (a.Listen listens) = spec.listen listens
act_view (a.Connect var target name) = spec.connect var.now (target_view target) name.now
act_view (a.Post var text) = spec.post var.now text.now
act_view (a.Disconnect var) = spec.disconnect var.now
act_view (a.Send var target text) = spec.send var.now (target_view target) text.now
act_view (a.Reply var text) = spec.reply var.now text.now
act_view (a.ReplySame var) = spec.reply_same var.now
act_view (a.Decline var) = spec.decline var.now
act_view (a.Native var name) = spec.connect_native var.now name.now
act_view (a.Ask var name text) = spec.send_native var.now name.now text.now
act_view a.Take = spec.take_one
act_view (a.Await awaited var) = spec.await_event awaited var.now
act_view (a.Echo n) = spec.echo n

abbrev pub command_view : code_command.NamedCommand → spec.NamedCommand
command_view (c.Plain act) = spec.plain (act_view act)
command_view (c.Repeat n act) = spec.repeat n (act_view act)

abbrev pub document_view : code_document.Document → spec.Document
document_view d = record { tab = d.tab; frame = d.frame; url = d.url.now }

abbrev pub context_view : code_context.NamedContext → spec.NamedContext
context_view (x.Page ext path) = spec.page ext.now path.now
context_view (x.Content ext document) = spec.content ext.now (document_view document)
context_view (x.Web document) = spec.web (document_view document)

abbrev pub line_view : code_line.Line → spec.Line
line_view (l.Comment text) = spec.comment text.now
line_view (l.Extension name id file) = spec.extension name.now id.now (option_copied file)
line_view (l.Host file) = spec.host file.now
line_view (l.Endpoint name context) = spec.endpoint name.now (context_view context)
line_view (l.Script command) = spec.script (command_view command)
