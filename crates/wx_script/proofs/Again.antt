-- What is spelled as a line is read as that line.
use Rattle.std.proofs.Common.{◌≡◌, ℕ, Bool, true, false, not, List, [], ◌∷◌, ◌++◌, refl, ap, ◌∙◌, nat_eq, Option, None, Some}
use Rattle.std.specs.Prelude.{IsTrue, codes, decimal}
use Rattle.std.specs.List.{starts_with}
use Rattle.std.specs.Str.{bytes_eq}
use Rattle.wx_id.specs.Options.{◌>>=◌}
use Rattle.wx_id.specs.declared.numbers.TabId.{TabId}
use Rattle.wx_id.specs.declared.numbers.FrameId.{FrameId}
use Rattle.wx_context.specs.declared.contexts.Listens.{Listens}
use Rattle.wx_context.specs.Paths.{is_printable}
use Rattle.wx_script.specs.declared.line.Awaited.{Awaited}
use Rattle.wx_script.specs.declared.line.Awaited.TheVariants as event
use Rattle.wx_script.specs.Words.{word, behind, is_name, is_small, is_count}
use Rattle.wx_script.specs.Line.{NamedTarget, own, extension_named, tab, NamedAct, NamedCommand, Document, NamedContext, Line, listen, connect, post, disconnect, send, reply, reply_same, decline, connect_native, send_native, take_one, await_event, echo, plain, repeat, page, content, web, comment, extension, host, endpoint, script, name_at, file_at, extension_at, host_at, page_at, document_at, content_at, web_at, context_with, endpoint_with, flag_at, flags_at, listen_at, extension_target_at, frame_at, tab_with, tab_at, target_at, port_name_at, connect_at, post_at, disconnect_at, channel_act_with, native_at, ask_at, native_act_with, send_at, reply_with, reply_at, decline_at, request_act_with, awaited_at, await_at, echo_at, act_with, act_at, repeat_at, command_at, declaration_with, declaration_at, line_at}
use Rattle.wx_script.specs.Spelling.{◌␣◌, flags, target_spelling, port_spelling, event_word, act_spelling, command_spelling, document_spelling, endpoint_spelling, spelling, IsNamedTarget, may_follow, IsNamedAct, IsNamedCommand, IsDocument, IsNamedContext, IsFile, IsLine}
use Rattle.wx_script.proofs.WordLemmas.{word-behind, rest-behind, name_no_space, name_not_same, word_no_space}
use Rattle.wx_script.proofs.NumberLemmas.{tab_id_again, frame_id_again, count_again, number_no_space, count_no_space}

name_again : (name more : List ℕ) → IsTrue (is_name name) → name_at (name ␣ more) ≡ Some (name, more)
unfolding name_at
name_again name more h = rw (rest-behind name (Some more) (name_no_space name h), word-behind name (Some more) (name_no_space name h), h) refl

-- ---- declarations

file_again : (file : Option (List ℕ)) → IsFile file → file_at file ≡ Some file
unfolding file_at
file_again None h = refl
file_again (Some file) h = rw h refl

extension_again : (name id : List ℕ) (file : Option (List ℕ)) → IsLine (extension name id file) → extension_at (name ␣ (id ++ behind file)) ≡ Some (extension name id file)
unfolding extension_at
extension_again name id file h =
    rw (name_again name (id ++ behind file) h.0, rest-behind id file (word_no_space id h.1), word-behind id file (word_no_space id h.1), file_again file h.2, h.1) refl

host_again : (file : List ℕ) → IsLine (host file) → host_at file ≡ Some (host file)
unfolding host_at
host_again file h = rw h refl

page_again : (ext path : List ℕ) → IsNamedContext (page ext path) → page_at (ext ␣ path) ≡ Some (page ext path)
unfolding page_at
page_again ext path h = rw (name_again ext path h.0, h.1) refl

document_again : (d : Document) → IsDocument d → document_at (document_spelling d) ≡ Some d
unfolding document_at
document_again d h =
    let of_tab = number_no_space d.tab.0 h.0 in
    let of_frame = number_no_space d.frame.0 h.1 in
    let behind_tab : List ℕ = decimal d.frame.0 ␣ d.url in
    rw (word-behind (decimal d.tab.0) (Some behind_tab) of_tab, tab_id_again d.tab h.0, rest-behind (decimal d.tab.0) (Some behind_tab) of_tab, word-behind (decimal d.frame.0) (Some d.url) of_frame, frame_id_again d.frame h.1, rest-behind (decimal d.frame.0) (Some d.url) of_frame, h.2) refl

content_again : (ext : List ℕ) (d : Document) → IsNamedContext (content ext d) → content_at (ext ␣ document_spelling d) ≡ Some (content ext d)
unfolding content_at
content_again ext d h = rw (name_again ext (document_spelling d) h.0, document_again d h.1) refl

web_again : (d : Document) → IsDocument d → web_at (document_spelling d) ≡ Some (web d)
unfolding web_at
web_again d h = rw (document_again d h) refl

-- a context by its word and what stands after the endpoint's name
context_again : (head name more : List ℕ) (c : NamedContext) → IsTrue (is_name name) → context_with head more ≡ Some c → endpoint_with head (name ␣ more) ≡ Some (endpoint name c)
unfolding endpoint_with
context_again head name more c h read = rw (name_again name more h, read) refl

endpoint_again : (name : List ℕ) (c : NamedContext) → IsTrue (is_name name) → IsNamedContext c → declaration_at (endpoint_spelling name c) ≡ Some (endpoint name c)
unfolding declaration_at declaration_with context_with
endpoint_again name (page ext path) h is = context_again (codes "page") name (ext ␣ path) (page ext path) h (page_again ext path is)
endpoint_again name (content ext d) h is = context_again (codes "content") name (ext ␣ document_spelling d) (content ext d) h (content_again ext d is)
endpoint_again name (web d) h is = context_again (codes "web") name (document_spelling d) (web d) h (web_again d is)

-- ---- what is listened to

flags_again : (connects messages external_connects external_messages : Bool)
    → (let l : Listens = record { connect = connects; message = messages; external_connect = external_connects; external_message = external_messages } in listen_at (flags l) ≡ Some (listen l))
unfolding listen_at flags_at flag_at
flags_again false false false false = refl
flags_again false false false true = refl
flags_again false false true false = refl
flags_again false false true true = refl
flags_again false true false false = refl
flags_again false true false true = refl
flags_again false true true false = refl
flags_again false true true true = refl
flags_again true false false false = refl
flags_again true false false true = refl
flags_again true false true false = refl
flags_again true false true true = refl
flags_again true true false false = refl
flags_again true true false true = refl
flags_again true true true false = refl
flags_again true true true true = refl

-- ---- targets

extension_target_again : (name : List ℕ) (more : Option (List ℕ)) → IsTrue (is_name name) → extension_target_at (name ++ behind more) ≡ Some (extension_named name, more)
unfolding extension_target_at
extension_target_again name more h = rw (word-behind name more (name_no_space name h), rest-behind name more (name_no_space name h), h) refl

frame_again : (t : TabId) (f : FrameId) (more : Option (List ℕ)) → IsTrue (is_small f.0) → frame_at t (decimal f.0 ++ behind more) ≡ Some (tab t (Some f), more)
unfolding frame_at
frame_again t f more h = rw (word-behind (decimal f.0) more (number_no_space f.0 h), rest-behind (decimal f.0) more (number_no_space f.0 h), frame_id_again f h) refl

tab_again : (t : TabId) (more : Option (List ℕ)) → IsTrue (is_small t.0) → tab_at (decimal t.0 ++ behind more) ≡ tab_with t more
unfolding tab_at
tab_again t more h = rw (word-behind (decimal t.0) more (number_no_space t.0 h), rest-behind (decimal t.0) more (number_no_space t.0 h), tab_id_again t h) refl

not_so : (b : Bool) → not b ≡ true → b ≡ false
not_so true h = absurd cc
not_so false h = refl

tab_alone_again : (t : TabId) (more : Option (List ℕ)) → IsTrue (may_follow (tab t None) more) → tab_with t more ≡ Some (tab t None, more)
unfolding tab_with
tab_alone_again t None h = refl
tab_alone_again t (Some text) h = rw (not_so (bytes_eq (word text) (codes "frame")) h) refl

tab_frame_again : (t : TabId) (f : FrameId) (more : Option (List ℕ)) → IsTrue (is_small f.0) → tab_with t (Some (codes "frame" ␣ (decimal f.0 ++ behind more))) ≡ Some (tab t (Some f), more)
unfolding tab_with
tab_frame_again t f more h = frame_again t f more h

target_again : (t : NamedTarget) (more : Option (List ℕ)) → IsNamedTarget t → IsTrue (may_follow t more) → target_at (target_spelling t more) ≡ Some (t, more)
unfolding target_at
target_again own None h follows = refl
target_again own (Some text) h follows = refl
target_again (extension_named name) more h follows = extension_target_again name more h
target_again (tab t None) more h follows = tab_again t more h ∙ tab_alone_again t more follows
target_again (tab t (Some f)) more h follows = tab_again t (Some (codes "frame" ␣ (decimal f.0 ++ behind more))) h.0 ∙ tab_frame_again t f more h.1

-- ---- acts

port_name_again : (name : List ℕ) → is_printable name ≡ true → port_name_at (port_spelling name) ≡ Some name
unfolding port_name_at
port_name_again [] h = refl
port_name_again (b ∷ bs) h = rw h refl

port_follows : (t : NamedTarget) (name : List ℕ) → IsTrue (may_follow t (port_spelling name))
port_follows own name = refl
port_follows (extension_named ext) name = refl
port_follows (tab t None) [] = refl
port_follows (tab t None) (b ∷ bs) = refl
port_follows (tab t (Some f)) name = refl

connect_again : (var : List ℕ) (t : NamedTarget) (name : List ℕ) → IsNamedAct (connect var t name) → connect_at (var ␣ target_spelling t (port_spelling name)) ≡ Some (connect var t name)
unfolding connect_at
connect_again var t name h =
    rw (name_again var (target_spelling t (port_spelling name)) h.0, target_again t (port_spelling name) h.1 (port_follows t name), port_name_again name h.2) refl

post_again : (var number : List ℕ) → IsNamedAct (post var number) → post_at (var ␣ number) ≡ Some (post var number)
unfolding post_at
post_again var number h = rw (name_again var number h.0, h.1) refl

disconnect_again : (var : List ℕ) → IsTrue (is_name var) → disconnect_at var ≡ Some (disconnect var)
unfolding disconnect_at
disconnect_again var h = rw (h) refl

native_again : (var name : List ℕ) → IsNamedAct (connect_native var name) → native_at (var ␣ name) ≡ Some (connect_native var name)
unfolding native_at
native_again var name h = rw (name_again var name h.0, h.1) refl

ask_again : (var name text : List ℕ) → IsNamedAct (send_native var name text) → ask_at (var ␣ name ␣ text) ≡ Some (send_native var name text)
unfolding ask_at
ask_again var name text h =
    rw (name_again var (name ␣ text) h.0, rest-behind name (Some text) (word_no_space name h.1), word-behind name (Some text) (word_no_space name h.1), h.1, h.2) refl

send_again : (var : List ℕ) (t : NamedTarget) (text : List ℕ) → IsNamedAct (send var t text) → send_at (var ␣ target_spelling t (Some text)) ≡ Some (send var t text)
unfolding send_at
send_again var t text h = rw (name_again var (target_spelling t (Some text)) h.0, target_again t (Some text) h.1 h.2, h.3) refl

reply_again : (var text : List ℕ) → IsNamedAct (reply var text) → reply_at (var ␣ text) ≡ Some (reply var text)
unfolding reply_at reply_with
reply_again var text h =
    rw (rest-behind var (Some text) (name_no_space var h.0), word-behind var (Some text) (name_no_space var h.0), h.0, h.1, name_not_same var h.0) refl

reply_same_again : (var : List ℕ) → IsTrue (is_name var) → reply_at (codes "same" ␣ var) ≡ Some (reply_same var)
unfolding reply_at reply_with
reply_same_again var h = rw h refl

decline_again : (var : List ℕ) → IsTrue (is_name var) → decline_at var ≡ Some (decline var)
unfolding decline_at
decline_again var h = rw (h) refl

await_again : (awaited : Awaited) (var : List ℕ) → IsTrue (is_name var) → await_at (event_word awaited ␣ var) ≡ Some (await_event awaited var)
unfolding await_at awaited_at
await_again event.Connect var h = rw h refl
await_again event.Message var h = rw h refl
await_again event.Request var h = rw h refl
await_again event.Reply var h = rw h refl
await_again event.Close var h = rw h refl

echo_again : (n : ℕ) → IsTrue (is_count n) → echo_at (decimal n) ≡ Some (echo n)
unfolding echo_at
echo_again n h = rw (count_again n h) refl

act_again : (a : NamedAct) → IsNamedAct a → act_at (act_spelling a) ≡ Some a
unfolding act_at act_with request_act_with native_act_with channel_act_with
act_again (listen l) h = flags_again l.connect l.message l.external_connect l.external_message
act_again (connect var target name) h = connect_again var target name h
act_again (post var text) h = post_again var text h
act_again (disconnect var) h = disconnect_again var h
act_again (send var target text) h = send_again var target text h
act_again (reply var text) h = reply_again var text h
act_again (reply_same var) h = reply_same_again var h
act_again (decline var) h = decline_again var h
act_again (connect_native var name) h = native_again var name h
act_again (send_native var name text) h = ask_again var name text h
act_again take_one h = refl
act_again (await_event awaited var) h = await_again awaited var h
act_again (echo n) h = echo_again n h

repeat_again : (n : ℕ) (a : NamedAct) → IsNamedCommand (repeat n a) → repeat_at (decimal n ␣ act_spelling a) ≡ Some (repeat n a)
unfolding repeat_at
repeat_again n a h =
    rw (word-behind (decimal n) (Some (act_spelling a)) (count_no_space n h.0), rest-behind (decimal n) (Some (act_spelling a)) (count_no_space n h.0), count_again n h.0, act_again a h.1) refl

-- no act is spelled as a repeated one
no_repeat : (a : NamedAct) → starts_with nat_eq (act_spelling a) (codes "repeat ") ≡ false
no_repeat (listen l) = refl
no_repeat (connect var target name) = refl
no_repeat (post var text) = refl
no_repeat (disconnect var) = refl
no_repeat (send var target text) = refl
no_repeat (reply var text) = refl
no_repeat (reply_same var) = refl
no_repeat (decline var) = refl
no_repeat (connect_native var name) = refl
no_repeat (send_native var name text) = refl
no_repeat take_one = refl
no_repeat (await_event awaited var) = refl
no_repeat (echo n) = refl

command_again : (c : NamedCommand) → IsNamedCommand c → command_at (command_spelling c) ≡ Some c
unfolding command_at
command_again (plain a) h = rw (no_repeat a, act_again a h) refl
command_again (repeat n a) h = repeat_again n a h

-- ---- lines

pub line_again : (l : Line) → IsLine l → line_at (spelling l) ≡ Some l
unfolding line_at declaration_at declaration_with
line_again (comment text) h = rw h refl
line_again (extension name id file) h = extension_again name id file h
line_again (host file) h = host_again file h
line_again (endpoint name (page ext path)) h = endpoint_again name (page ext path) h.0 h.1
line_again (endpoint name (content ext d)) h = endpoint_again name (content ext d) h.0 h.1
line_again (endpoint name (web d)) h = endpoint_again name (web d) h.0 h.1
line_again (script c) h = ap (λ r. r >>= (λ c. Some (script c))) (command_again c h)
