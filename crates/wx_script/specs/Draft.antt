-- The scene so far, and what one more line makes of it.
use Rattle.std.specs.Prelude.{ℕ, not, List, [], ◌∷◌, ◌++◌, length, Option, Some, None, ok_or, Result, Ok, Err, ◌==◌, nat_le, if◌then◌else◌}
use Rattle.wx_id.specs.Results.{◌>>=◌}
use Rattle.wx_id.specs.Ids.{is_extension_id}
use Rattle.wx_context.specs.declared.contexts.Context.{Context}
use Rattle.wx_context.specs.declared.contexts.Context.TheVariants.{Page, Content, Web}
use Rattle.wx_context.specs.declared.contexts.Target.{Target}
use Rattle.wx_context.specs.declared.contexts.Target.TheVariants.{Own, Other, Tab}
use Rattle.wx_context.specs.WebUrls.{web_url_of}
use Rattle.wx_json.specs.Test.{is_json_text}
use Rattle.wx_script.specs.declared.script.Act.{Act}
use Rattle.wx_script.specs.declared.script.Act.TheVariants as act
use Rattle.wx_script.specs.declared.script.Command.{Command}
use Rattle.wx_script.specs.declared.script.Command.TheVariants.{Plain, Repeat}
use Rattle.wx_script.specs.declared.script.Var.{Var}
use Rattle.wx_script.specs.declared.line.Awaited.{Awaited}
use Rattle.wx_script.specs.declared.line.Awaited.TheVariants as event
use Rattle.wx_script.specs.declared.names.VariableNames.{VariableNames}
use Rattle.wx_script.specs.declared.scene.SceneExtension.{SceneExtension}
use Rattle.wx_script.specs.declared.scene.SceneFile.{SceneFile}
use Rattle.wx_script.specs.declared.scene.SceneFile.TheVariants as manifest
use Rattle.wx_script.specs.declared.scene.SceneEndpoint.{SceneEndpoint}
use Rattle.wx_script.specs.declared.scene.SceneKind.{SceneKind}
use Rattle.wx_script.specs.declared.scene.SceneKind.TheVariants as kind
use Rattle.wx_script.specs.Names.{has_extension, has_host, has_endpoint, id_under, place_in, binding}
use Rattle.wx_script.specs.Line.{NamedTarget, own, extension_named, tab, NamedAct, NamedCommand, NamedContext, Line, listen, connect, post, disconnect, send, reply, reply_same, decline, connect_native, send_native, take_one, await_event, echo, plain, repeat, page, content, web, comment, extension, host, endpoint, script}

pub record Draft : Type 0 where
  pub extensions : List SceneExtension
  -- the files of the host manifests
  pub hosts : List (List ℕ)
  -- the files that lines name
  pub files : List SceneFile
  pub endpoints : List SceneEndpoint
  -- the variables that the last script binds
  pub variables : VariableNames

abbrev pub no_variables : VariableNames
no_variables = record { channels = []; asked = []; received = [] }

-- nothing is declared
abbrev pub fresh : Draft
fresh = record { extensions = []; hosts = []; files = []; endpoints = []; variables = no_variables }

-- ---- declarations: each test in its order

-- the file of a line, where it names one
abbrev pub file_of : SceneFile → Option (List ℕ) → List SceneFile
file_of place None = []
file_of place (Some file) = place ∷ []

abbrev pub extension_added : Draft → List ℕ → List ℕ → Option (List ℕ) → Result Draft SceneKind
extension_added d name id file =
    if not (is_extension_id id) then Err kind.Id
    else if has_extension name id d.extensions then Err kind.Repeated
    else Ok (record d {
      extensions = d.extensions ++ record { name = name; id = id; file = file } ∷ [];
      files = d.files
          ++ file_of (manifest.Extension (length d.extensions)) file;
    })

abbrev pub host_added : Draft → List ℕ → Result Draft SceneKind
host_added d file =
    if has_host file d.hosts then Err kind.Repeated
    else Ok (record d { hosts = d.hosts ++ file ∷ []; files = d.files ++ manifest.Host (length d.hosts) ∷ [] })

-- the id of the extension with this name
abbrev pub declared : List ℕ → List SceneExtension → Result (List ℕ) SceneKind
declared name extensions = ok_or (id_under name extensions) kind.Unknown

-- the own text of the URL that this text is read as
abbrev pub web_url : List ℕ → Result (List ℕ) SceneKind
web_url text = ok_or (web_url_of text) kind.Url

abbrev pub context_of : List SceneExtension → NamedContext → Result Context SceneKind
context_of extensions (page ext path) = do
  id ← declared ext extensions
  Ok (Page id path)
context_of extensions (content ext document) = do
  id ← declared ext extensions
  url ← web_url document.url
  Ok (Content id document.tab document.frame url)
context_of extensions (web document) = do
  url ← web_url document.url
  Ok (Web document.tab document.frame url)

-- an endpoint without commands is put after the others
abbrev pub endpoint_pushed : Draft → List ℕ → Context → Result Draft SceneKind
endpoint_pushed d name context =
    if nat_le 1024 (length d.endpoints) then Err kind.Many
    else Ok (record d {
      endpoints = d.endpoints ++ record { name = name; context = context; script = [] }
          ∷ [];
      variables = no_variables;
    })

abbrev pub endpoint_added : Draft → List ℕ → NamedContext → Result Draft SceneKind
endpoint_added d name context = if has_endpoint name d.endpoints then Err kind.Repeated else context_of d.extensions
    context >>= endpoint_pushed d name

-- ---- commands

abbrev pub var : ℕ → Var
var n = record { 0 = n }

abbrev pub place_or_next : Option ℕ → List (List ℕ) → ℕ
place_or_next None variables = length variables
place_or_next (Some n) variables = n

-- the variable that a command binds: a new one is numbered after those of its sort that the script binds already
abbrev pub bound : List ℕ → List (List ℕ) → Var
bound name variables = var (place_or_next (place_in name variables) variables)

-- the variable that a command uses, if an earlier command of the script binds it in that sort
abbrev pub used : List ℕ → List (List ℕ) → Result Var SceneKind
used name variables = ok_or (place_in name variables) kind.Unbound >>= (λ n. Ok (var n))

-- a message, which is a JSON text
abbrev pub json_of : List ℕ → Result (List ℕ) SceneKind
json_of text = if is_json_text text then Ok text else Err kind.Json

abbrev pub target_of : List SceneExtension → NamedTarget → Result Target SceneKind
target_of extensions own = Ok Own
target_of extensions (extension_named name) = do
  id ← declared name extensions
  Ok (Other id)
target_of extensions (tab t f) = Ok (Tab t f)

-- a connection and a request bind a variable; the others use one
abbrev pub await_of : VariableNames → Awaited → List ℕ → Result Act SceneKind
await_of variables event.Connect name = Ok (act.AwaitConnect (bound name variables.channels))
await_of variables event.Message name = do
  v ← used name variables.channels
  Ok (act.AwaitMessage v)
await_of variables event.Request name = Ok (act.AwaitRequest (bound name variables.received))
await_of variables event.Reply name = do
  v ← used name variables.asked
  Ok (act.AwaitReply v)
await_of variables event.Close name = do
  v ← used name variables.channels
  Ok (act.AwaitClose v)

-- an act with its variable's number, or the first test that it fails
abbrev pub act_of : List SceneExtension → VariableNames → NamedAct → Result Act SceneKind
act_of extensions variables (listen l) = Ok (act.Listen l)
act_of extensions variables (connect name target port) = do
  t ← target_of extensions target
  Ok (act.Connect (bound name variables.channels) t port)
act_of extensions variables (post name text) = do
  v ← used name variables.channels
  json ← json_of text
  Ok (act.Post v json)
act_of extensions variables (disconnect name) = do
  v ← used name variables.channels
  Ok (act.Disconnect v)
act_of extensions variables (send name target text) = do
  t ← target_of extensions target
  json ← json_of text
  Ok (act.Send (bound name variables.asked) t json)
act_of extensions variables (reply name text) = do
  v ← used name variables.received
  json ← json_of text
  Ok (act.Reply v json)
act_of extensions variables (reply_same name) = do
  v ← used name variables.received
  Ok (act.ReplySame v)
act_of extensions variables (decline name) = do
  v ← used name variables.received
  Ok (act.Decline v)
act_of extensions variables (connect_native name host_name) = Ok (act.Native (bound name variables.channels) host_name)
act_of extensions variables (send_native name host_name text) = do
  json ← json_of text
  Ok (act.Ask (bound name variables.asked) host_name json)
act_of extensions variables take_one = Ok act.Take
act_of extensions variables (await_event awaited name) = await_of variables awaited name
act_of extensions variables (echo n) = Ok (act.Echo n)

-- the variables after an act
abbrev pub variables_after : VariableNames → NamedAct → VariableNames
variables_after variables (connect name target port) = record variables { channels = binding name variables.channels }
variables_after variables (await_event event.Connect name) = record variables
    { channels = binding name variables.channels }
variables_after variables (connect_native name host_name) = record variables
    { channels = binding name variables.channels }
variables_after variables (send name target text) = record variables { asked = binding name variables.asked }
variables_after variables (send_native name host_name text) = record variables { asked = binding name variables.asked }
variables_after variables (await_event event.Request name) = record variables
    { received = binding name variables.received }
variables_after variables _ = variables

-- what a command does, which a repeated one does again and again
abbrev pub named_act : NamedCommand → NamedAct
named_act (plain a) = a
named_act (repeat n a) = a

-- the command with this act
abbrev pub command_by : NamedCommand → Act → Command
command_by (plain _) a = Plain a
command_by (repeat n _) a = Repeat n a

-- how many commands the last endpoint has
abbrev pub commands : List SceneEndpoint → ℕ
commands [] = 0
commands (e ∷ []) = length e.script
commands (e ∷ f ∷ es) = commands (f ∷ es)

-- the last endpoint gets a command
abbrev pub with_command : Command → List SceneEndpoint → List SceneEndpoint
with_command c [] = []
with_command c (e ∷ []) = record e { script = e.script ++ c ∷ [] } ∷ []
with_command c (e ∷ f ∷ es) = e ∷ with_command c (f ∷ es)

-- the last endpoint gets a command, and its script the variable that the command binds
abbrev pub act_added : Draft → NamedCommand → Act → Draft
act_added d c a = record d {
  endpoints = with_command (command_by c a) d.endpoints;
  variables = variables_after
      d.variables (named_act c);
}

abbrev pub command_added : Draft → NamedCommand → Result Draft SceneKind
command_added d c = if length d.endpoints == 0 then Err kind.Order else act_of d.extensions d.variables (named_act c)
    >>= (λ a. Ok (act_added d c a))

-- the scene so far with one more line, or what is wrong with the line
abbrev pub line_added : Draft → Line → Result Draft SceneKind
line_added d (comment text) = Ok d
line_added d (extension name id file) = extension_added d name id file
line_added d (host file) = host_added d file
line_added d (endpoint name context) = endpoint_added d name context
line_added d (script c) = command_added d c
