-- Which line a text is: each form by a definition of its own.
use Rattle.std.specs.Prelude.{ℕ, Bool, true, false, ◌&&◌, List, [], Option, Some, None, is_none, codes, drop, nat_eq, if◌then◌else◌}
use Rattle.std.specs.Str.{bytes_eq}
use Rattle.std.specs.Str.Parse.{digits_value}
use Rattle.std.specs.List.{starts_with}
use Rattle.wx_id.specs.Options.{◌>>=◌, where_so}
use Rattle.wx_id.specs.declared.numbers.TabId.{TabId}
use Rattle.wx_id.specs.declared.numbers.FrameId.{FrameId}
use Rattle.wx_context.specs.declared.contexts.Listens.{Listens}
use Rattle.wx_context.specs.Paths.{is_page_path}
use Rattle.wx_machine.specs.Words.{deaf}
use Rattle.wx_script.specs.declared.line.Awaited.{Awaited}
use Rattle.wx_script.specs.declared.line.Awaited.TheVariants as event
use Rattle.wx_script.specs.Words.{word, rest, is_name, is_word, is_number, is_small, is_count, is_given, is_comment}

-- whom a command is for: the caller's own extension, the extension with this name, or a tab, or one frame of it
pub data NamedTarget : Type 0 where
  own : NamedTarget
  extension_named : List ℕ → NamedTarget
  tab : TabId → Option FrameId → NamedTarget

-- what a command asks for, with the names of its variables
pub data NamedAct : Type 0 where
  listen : Listens → NamedAct
  connect : List ℕ → NamedTarget → List ℕ → NamedAct
  post : List ℕ → List ℕ → NamedAct
  disconnect : List ℕ → NamedAct
  send : List ℕ → NamedTarget → List ℕ → NamedAct
  reply : List ℕ → List ℕ → NamedAct
  reply_same : List ℕ → NamedAct
  decline : List ℕ → NamedAct
  connect_native : List ℕ → List ℕ → NamedAct
  send_native : List ℕ → List ℕ → List ℕ → NamedAct
  take_one : NamedAct
  await_event : Awaited → List ℕ → NamedAct
  echo : ℕ → NamedAct

-- a command as it stands in a script line: an act once, or so many times
pub data NamedCommand : Type 0 where
  plain : NamedAct → NamedCommand
  repeat : ℕ → NamedAct → NamedCommand

-- the document in a frame of a tab, by its address
pub record Document : Type 0 where
  pub tab : TabId
  pub frame : FrameId
  pub url : List ℕ

-- the context of an endpoint: a page by the name of its extension and its path, a content script of the extension with
-- this name, or a web page
pub data NamedContext : Type 0 where
  page : List ℕ → List ℕ → NamedContext
  content : List ℕ → Document → NamedContext
  web : Document → NamedContext

-- a line after the head line
pub data Line : Type 0 where
  comment : List ℕ → Line
  extension : List ℕ → List ℕ → Option (List ℕ) → Line
  host : List ℕ → Line
  endpoint : List ℕ → NamedContext → Line
  script : NamedCommand → Line

-- ---- names and numbers

-- a name with more after it
unfoldable pub name_at : List ℕ → Option (List ℕ × List ℕ)
name_at text = do
  behind ← rest text
  where_so (is_name (word text)) (word text, behind)

-- a number without leading zeros, of at most 4,294,967,295
unfoldable pub number_at : List ℕ → Option ℕ
number_at text = where_so (is_number text && is_small (digits_value 10 text)) (digits_value 10 text)

-- a number from 1 to 1,000,000
unfoldable pub count_at : List ℕ → Option ℕ
count_at text = do
  n ← number_at text
  where_so (is_count n) n

abbrev pub tab_id : ℕ → TabId
tab_id n = record { 0 = n }

abbrev pub frame_id : ℕ → FrameId
frame_id n = record { 0 = n }

-- TAB
unfoldable pub tab_id_at : List ℕ → Option TabId
tab_id_at text = do
  n ← number_at text
  Some (tab_id n)

-- FRAME
unfoldable pub frame_id_at : List ℕ → Option FrameId
frame_id_at text = do
  n ← number_at text
  Some (frame_id n)

-- ---- declarations

-- nothing, or FILE
unfoldable pub file_at : Option (List ℕ) → Option (Option (List ℕ))
file_at None = Some None
file_at (Some text) = where_so (is_word text) (Some text)

-- NAME ID | NAME ID FILE
unfoldable pub extension_at : List ℕ → Option Line
extension_at text = do
  name ← name_at text
  file ← file_at (rest name.1)
  where_so (is_word (word name.1)) (extension name.0 (word name.1) file)

-- FILE
unfoldable pub host_at : List ℕ → Option Line
host_at text = where_so (is_word text) (host text)

-- EXT PATH
unfoldable pub page_at : List ℕ → Option NamedContext
page_at text = do
  ext ← name_at text
  where_so (is_page_path ext.1) (page ext.0 ext.1)

-- TAB FRAME URL
unfoldable pub document_at : List ℕ → Option Document
document_at text = do
  t ← tab_id_at (word text)
  behind ← rest text
  f ← frame_id_at (word behind)
  url ← rest behind
  where_so (is_word url) (record { tab = t; frame = f; url = url })

-- EXT TAB FRAME URL
unfoldable pub content_at : List ℕ → Option NamedContext
content_at text = do
  ext ← name_at text
  document ← document_at ext.1
  Some (content ext.0 document)

-- TAB FRAME URL
unfoldable pub web_at : List ℕ → Option NamedContext
web_at text = do
  document ← document_at text
  Some (web document)

-- the word of a context, and what stands after the endpoint's name
unfoldable pub context_with : List ℕ → List ℕ → Option NamedContext
context_with head behind =
    if bytes_eq head (codes "page") then page_at behind
    else if bytes_eq head (codes "content") then content_at behind
    else if bytes_eq head (codes "web") then web_at behind
    else None

-- the word of a context, and NAME with what stands after it
unfoldable pub endpoint_with : List ℕ → List ℕ → Option Line
endpoint_with head text = do
  name ← name_at text
  context ← context_with head name.1
  Some (endpoint name.0 context)

-- the word of a declaration, and what stands after it
unfoldable pub declaration_with : List ℕ → List ℕ → Option Line
declaration_with head behind =
    if bytes_eq head (codes "extension") then extension_at behind
    else if bytes_eq head (codes "host") then host_at behind
    else endpoint_with head behind

unfoldable pub declaration_at : List ℕ → Option Line
declaration_at text = rest text >>= declaration_with (word text)

-- ---- what is listened to

-- whether the flag is the first word of what is left, and what is left after it
unfoldable pub flag_at : List ℕ → Option (List ℕ) → Bool × Option (List ℕ)
flag_at flag None = (false, None)
flag_at flag (Some text) = if bytes_eq (word text) flag then (true, rest text) else (false, Some text)

-- connect, message, external-connect and external-message in this order, each or not
unfoldable pub flags_at : List ℕ → Listens × Option (List ℕ)
flags_at text =
    let connects = flag_at (codes "connect") (Some text) in
    let messages = flag_at (codes "message") connects.1 in
    let external_connects = flag_at (codes "external-connect") messages.1 in
    let external_messages = flag_at (codes "external-message") external_connects.1 in (
      record {
        connect = connects.0;
        message = messages.0;
        external_connect = external_connects.0;
        external_message =
            external_messages.0;
      },
      external_messages.1,
    )

-- none | one flag or more
unfoldable pub listen_at : List ℕ → Option NamedAct
listen_at text = if bytes_eq text (codes "none") then Some (listen deaf) else where_so (is_none (flags_at text).1) (listen (flags_at text).0)

-- ---- targets, with what stands after the next space, if there is one

-- NAME
unfoldable pub extension_target_at : List ℕ → Option (NamedTarget × Option (List ℕ))
extension_target_at text = where_so (is_name (word text)) (extension_named (word text), rest text)

-- FRAME, after `frame`
unfoldable pub frame_at : TabId → List ℕ → Option (NamedTarget × Option (List ℕ))
frame_at t text = do
  f ← frame_id_at (word text)
  Some (tab t (Some f), rest text)

-- what stands after TAB: where its first word is `frame`, FRAME must follow
unfoldable pub tab_with : TabId → Option (List ℕ) → Option (NamedTarget × Option (List ℕ))
tab_with t None = Some (tab t None, None)
tab_with t (Some text) = if bytes_eq (word text) (codes "frame") then rest text >>= frame_at t else Some (tab t None, Some text)

-- TAB | TAB frame FRAME
unfoldable pub tab_at : List ℕ → Option (NamedTarget × Option (List ℕ))
tab_at text = do
  t ← tab_id_at (word text)
  tab_with t (rest text)

-- own | ext NAME | tab TAB | tab TAB frame FRAME
unfoldable pub target_at : List ℕ → Option (NamedTarget × Option (List ℕ))
target_at text =
    if bytes_eq (word text) (codes "own") then Some (own, rest text)
    else if bytes_eq (word text) (codes "ext") then rest text >>= extension_target_at
    else if bytes_eq (word text) (codes "tab") then rest text >>= tab_at
    else None

-- ---- commands on channels

-- nothing, or name WORD: the port name, which is empty where none is given
unfoldable pub port_name_at : Option (List ℕ) → Option (List ℕ)
port_name_at None = Some []
port_name_at (Some text) = if starts_with nat_eq text (codes "name ") then where_so (is_word (drop 5 text)) (drop 5 text) else None

-- VAR TARGET | VAR TARGET name WORD
unfoldable pub connect_at : List ℕ → Option NamedAct
connect_at text = do
  var ← name_at text
  target ← target_at var.1
  name ← port_name_at target.1
  Some (connect var.0 target.0 name)

-- VAR JSON: the rest of the line, at least one byte
unfoldable pub post_at : List ℕ → Option NamedAct
post_at text = do
  var ← name_at text
  where_so (is_given var.1) (post var.0 var.1)

-- VAR
unfoldable pub disconnect_at : List ℕ → Option NamedAct
disconnect_at text = where_so (is_name text) (disconnect text)

-- the word of a command on a channel, and what stands after it
unfoldable pub channel_act_with : List ℕ → List ℕ → Option NamedAct
channel_act_with head behind =
    if bytes_eq head (codes "connect") then connect_at behind
    else if bytes_eq head (codes "post") then post_at behind
    else if bytes_eq head (codes "disconnect") then disconnect_at behind
    else None

-- ---- commands that start a native host

-- VAR WORD, the host's name
unfoldable pub native_at : List ℕ → Option NamedAct
native_at text = do
  var ← name_at text
  where_so (is_word var.1) (connect_native var.0 var.1)

-- VAR WORD JSON: the rest of the line, at least one byte
unfoldable pub ask_at : List ℕ → Option NamedAct
ask_at text = do
  var ← name_at text
  json ← rest var.1
  where_so (is_word (word var.1) && is_given json) (send_native var.0 (word var.1) json)

-- the word of a command that starts a host, or of one on a channel, and what stands after it
unfoldable pub native_act_with : List ℕ → List ℕ → Option NamedAct
native_act_with head behind =
    if bytes_eq head (codes "native") then native_at behind
    else if bytes_eq head (codes "ask") then ask_at behind
    else channel_act_with head behind

-- ---- commands on requests

-- VAR TARGET JSON: the rest of the line, at least one byte
unfoldable pub send_at : List ℕ → Option NamedAct
send_at text = do
  var ← name_at text
  target ← target_at var.1
  json ← target.1
  where_so (is_given json) (send var.0 target.0 json)

-- same VAR | VAR JSON, by the first word and what stands after it
unfoldable pub reply_with : List ℕ → List ℕ → Option NamedAct
reply_with head behind =
    if bytes_eq head (codes "same") then where_so (is_name behind) (reply_same behind)
    else where_so (is_name head && is_given behind) (reply head behind)

unfoldable pub reply_at : List ℕ → Option NamedAct
reply_at text = rest text >>= reply_with (word text)

-- VAR
unfoldable pub decline_at : List ℕ → Option NamedAct
decline_at text = where_so (is_name text) (decline text)

-- the word of a command on a request, and what stands after it
unfoldable pub request_act_with : List ℕ → List ℕ → Option NamedAct
request_act_with head behind =
    if bytes_eq head (codes "send") then send_at behind
    else if bytes_eq head (codes "reply") then reply_at behind
    else if bytes_eq head (codes "decline") then decline_at behind
    else native_act_with head behind

-- ---- commands

-- connect | message | request | reply | close
unfoldable pub awaited_at : List ℕ → Option Awaited
awaited_at word =
    if bytes_eq word (codes "connect") then Some event.Connect
    else if bytes_eq word (codes "message") then Some event.Message
    else if bytes_eq word (codes "request") then Some event.Request
    else if bytes_eq word (codes "reply") then Some event.Reply
    else if bytes_eq word (codes "close") then Some event.Close
    else None

-- the word of an event, and VAR
unfoldable pub await_at : List ℕ → Option NamedAct
await_at text = do
  var ← rest text
  awaited ← awaited_at (word text)
  where_so (is_name var) (await_event awaited var)

-- N
unfoldable pub echo_at : List ℕ → Option NamedAct
echo_at text = do
  n ← count_at text
  Some (echo n)

-- the word of a command, and what stands after it
unfoldable pub act_with : List ℕ → List ℕ → Option NamedAct
act_with head behind =
    if bytes_eq head (codes "listen") then listen_at behind
    else if bytes_eq head (codes "await") then await_at behind
    else if bytes_eq head (codes "echo") then echo_at behind
    else request_act_with head behind

unfoldable pub act_at : List ℕ → Option NamedAct
act_at text = if bytes_eq text (codes "take") then Some take_one else rest text >>= act_with (word text)

-- N COMMAND, the command not a `repeat`
unfoldable pub repeat_at : List ℕ → Option NamedCommand
repeat_at text = do
  n ← count_at (word text)
  behind ← rest text
  a ← act_at behind
  Some (repeat n a)

unfoldable pub command_at : List ℕ → Option NamedCommand
command_at text =
    if starts_with nat_eq text (codes "repeat ") then repeat_at (drop 7 text)
    else act_at text >>= (λ a. Some (plain a))

-- ---- lines

-- an empty line, a comment, a script line, which begins with two spaces, or a declaration
unfoldable pub line_at : List ℕ → Option Line
line_at text =
    if is_comment text then Some (comment text)
    else if starts_with nat_eq text (codes "  ") then command_at (drop 2 text) >>= (λ c. Some (script c))
    else declaration_at text
