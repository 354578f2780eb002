-- The one spelling of each line.
use Rattle.std.specs.Prelude.{ℕ, Bool, true, not, List, [], ◌∷◌, ◌++◌, Option, Some, None, IsTrue, codes, decimal, if◌then◌else◌}
use Rattle.std.specs.Option.{unwrap_or}
use Rattle.std.specs.Str.{bytes_eq}
use Rattle.wx_context.specs.declared.contexts.Listens.{Listens}
use Rattle.wx_context.specs.Paths.{is_printable, is_page_path}
use Rattle.wx_script.specs.declared.line.Awaited.{Awaited}
use Rattle.wx_script.specs.declared.line.Awaited.TheVariants as event
use Rattle.wx_script.specs.Words.{word, behind, is_name, is_word, is_small, is_count, is_given, is_comment}
use Rattle.wx_script.specs.Line.{NamedTarget, own, extension_named, tab, NamedAct, NamedCommand, Document, NamedContext, Line, listen, connect, post, disconnect, send, reply, reply_same, decline, connect_native, send_native, take_one, await_event, echo, plain, repeat, page, content, web, comment, extension, host, endpoint, script}

infixr 6 ◌␣◌
-- a word, one space, and what follows
abbrev pub ◌␣◌ : List ℕ → List ℕ → List ℕ
w ␣ more = w ++ 32 ∷ more

-- ---- what is listened to

-- the word of a flag that is set, ahead of the words that follow
abbrev pub flag_ahead : Bool → List ℕ → Option (List ℕ) → Option (List ℕ)
flag_ahead is_set flag more = if is_set then Some (flag ++ behind more) else more

-- the words of the flags that are set, if one is
abbrev pub flag_words : Listens → Option (List ℕ)
flag_words l =
    flag_ahead l.connect (codes "connect")
    (flag_ahead l.message (codes "message")
    (flag_ahead l.external_connect (codes "external-connect")
    (flag_ahead l.external_message (codes "external-message") None)))

abbrev pub flags : Listens → List ℕ
flags l = unwrap_or (flag_words l) (codes "none")

-- ---- acts

-- a target, and what stands after it, if there is something
abbrev pub target_spelling : NamedTarget → Option (List ℕ) → List ℕ
target_spelling own more = codes "own" ++ behind more
target_spelling (extension_named name) more = codes "ext" ␣ (name ++ behind more)
target_spelling (tab t None) more = codes "tab" ␣ (decimal t.0 ++ behind more)
target_spelling (tab t (Some f)) more = codes "tab" ␣ decimal t.0 ␣ codes "frame" ␣ (decimal f.0 ++ behind more)

-- the port name, where it is not empty
abbrev pub port_spelling : List ℕ → Option (List ℕ)
port_spelling [] = None
port_spelling (b ∷ bs) = Some (codes "name" ␣ b ∷ bs)

abbrev pub event_word : Awaited → List ℕ
event_word event.Connect = codes "connect"
event_word event.Message = codes "message"
event_word event.Request = codes "request"
event_word event.Reply = codes "reply"
event_word event.Close = codes "close"

abbrev pub act_spelling : NamedAct → List ℕ
act_spelling (listen l) = codes "listen" ␣ flags l
act_spelling (connect var target name) = codes "connect" ␣ var ␣ target_spelling target (port_spelling name)
act_spelling (post var text) = codes "post" ␣ var ␣ text
act_spelling (disconnect var) = codes "disconnect" ␣ var
act_spelling (send var target text) = codes "send" ␣ var ␣ target_spelling target (Some text)
act_spelling (reply var text) = codes "reply" ␣ var ␣ text
act_spelling (reply_same var) = codes "reply" ␣ codes "same" ␣ var
act_spelling (decline var) = codes "decline" ␣ var
act_spelling (connect_native var name) = codes "native" ␣ var ␣ name
act_spelling (send_native var name text) = codes "ask" ␣ var ␣ name ␣ text
act_spelling take_one = codes "take"
act_spelling (await_event awaited var) = codes "await" ␣ event_word awaited ␣ var
act_spelling (echo n) = codes "echo" ␣ decimal n

abbrev pub command_spelling : NamedCommand → List ℕ
command_spelling (plain a) = act_spelling a
command_spelling (repeat n a) = codes "repeat" ␣ decimal n ␣ act_spelling a

-- ---- lines

abbrev pub document_spelling : Document → List ℕ
document_spelling d = decimal d.tab.0 ␣ decimal d.frame.0 ␣ d.url

abbrev pub endpoint_spelling : List ℕ → NamedContext → List ℕ
endpoint_spelling name (page ext path) = codes "page" ␣ name ␣ ext ␣ path
endpoint_spelling name (content ext document) = codes "content" ␣ name ␣ ext ␣ document_spelling document
endpoint_spelling name (web document) = codes "web" ␣ name ␣ document_spelling document

abbrev pub spelling : Line → List ℕ
spelling (comment text) = text
spelling (extension name id file) = codes "extension" ␣ name ␣ (id ++ behind file)
spelling (host file) = codes "host" ␣ file
spelling (endpoint name context) = endpoint_spelling name context
spelling (script command) = codes "  " ++ command_spelling command

-- ---- what has a spelling

abbrev pub IsNamedTarget : NamedTarget → Type 0
IsNamedTarget own = Unit {0}
IsNamedTarget (extension_named name) = IsTrue (is_name name)
IsNamedTarget (tab t None) = IsTrue (is_small t.0)
IsNamedTarget (tab t (Some f)) = IsTrue (is_small t.0) × IsTrue (is_small f.0)

-- what may stand after a target: after a tab no text whose first word is `frame`
abbrev pub may_follow : NamedTarget → Option (List ℕ) → Bool
may_follow (tab t None) (Some text) = not (bytes_eq (word text) (codes "frame"))
may_follow _ _ = true

abbrev pub IsNamedAct : NamedAct → Type 0
IsNamedAct (listen l) = Unit {0}
IsNamedAct (connect var target name) = IsTrue (is_name var) × IsNamedTarget target × IsTrue (is_printable name)
IsNamedAct (post var text) = IsTrue (is_name var) × IsTrue (is_given text)
IsNamedAct (disconnect var) = IsTrue (is_name var)
IsNamedAct (send var target text) = IsTrue (is_name var) × IsNamedTarget target × IsTrue (may_follow target (Some text))
    × IsTrue (is_given text)
IsNamedAct (reply var text) = IsTrue (is_name var) × IsTrue (is_given text)
IsNamedAct (reply_same var) = IsTrue (is_name var)
IsNamedAct (decline var) = IsTrue (is_name var)
IsNamedAct (connect_native var name) = IsTrue (is_name var) × IsTrue (is_word name)
IsNamedAct (send_native var name text) = IsTrue (is_name var) × IsTrue (is_word name) × IsTrue (is_given text)
IsNamedAct take_one = Unit {0}
IsNamedAct (await_event awaited var) = IsTrue (is_name var)
IsNamedAct (echo n) = IsTrue (is_count n)

abbrev pub IsNamedCommand : NamedCommand → Type 0
IsNamedCommand (plain a) = IsNamedAct a
IsNamedCommand (repeat n a) = IsTrue (is_count n) × IsNamedAct a

abbrev pub IsDocument : Document → Type 0
IsDocument d = IsTrue (is_small d.tab.0) × IsTrue (is_small d.frame.0) × IsTrue (is_word d.url)

abbrev pub IsNamedContext : NamedContext → Type 0
IsNamedContext (page ext path) = IsTrue (is_name ext) × IsTrue (is_page_path path)
IsNamedContext (content ext document) = IsTrue (is_name ext) × IsDocument document
IsNamedContext (web document) = IsDocument document

abbrev pub IsFile : Option (List ℕ) → Type 0
IsFile None = Unit {0}
IsFile (Some file) = IsTrue (is_word file)

abbrev pub IsLine : Line → Type 0
IsLine (comment text) = IsTrue (is_comment text)
IsLine (extension name id file) = IsTrue (is_name name) × IsTrue (is_word id) × IsFile file
IsLine (host file) = IsTrue (is_word file)
IsLine (endpoint name context) = IsTrue (is_name name) × IsNamedContext context
IsLine (script command) = IsNamedCommand command
