-- Worked scenes, and faults with their lines.
use Rattle.std.specs.Prelude.{◌≡◌, ℕ, List, [], ◌∷◌, ◌++◌, map, Result, Ok, Err, Some, None, true, codes}
use Rattle.wx_context.specs.declared.contexts.Context.TheVariants.{Page, Content, Web}
use Rattle.wx_context.specs.WebUrls.{web_url_of}
use Rattle.wx_context.specs.declared.contexts.Target.TheVariants.{Own, Other, Tab}
use Rattle.wx_external.specs.Worked.{id_a}
use Rattle.wx_machine.specs.Words.{deaf}
use Rattle.wx_script.specs.declared.script.Act.{Act}
use Rattle.wx_script.specs.declared.script.Act.TheVariants as act
use Rattle.wx_script.specs.declared.script.Command.{Command}
use Rattle.wx_script.specs.declared.script.Command.TheVariants.{Plain, Repeat}
use Rattle.wx_script.specs.declared.scene.SceneExtension.{SceneExtension}
use Rattle.wx_script.specs.declared.scene.SceneFile.TheVariants as manifest
use Rattle.wx_script.specs.declared.scene.SceneEndpoint.{SceneEndpoint}
use Rattle.wx_script.specs.declared.scene.SceneKind.{SceneKind}
use Rattle.wx_script.specs.declared.scene.SceneKind.TheVariants as kind
use Rattle.wx_script.specs.declared.scene.SceneFault.{SceneFault}
use Rattle.wx_script.specs.Line.{Line, line_at, tab_id, frame_id}
use Rattle.wx_script.specs.Spelling.{IsLine, spelling}
use Rattle.wx_script.specs.Draft.{var}
use Rattle.wx_script.specs.SceneValue.{SceneValue}
use Rattle.wx_script.specs.Scene.{scene_of, fault_at}

-- the scene of the head line and these lines, each with its line feed
abbrev pub with_lines : List (List ℕ) → List ℕ
with_lines [] = []
with_lines (line ∷ lines) = line ++ 10 ∷ with_lines lines

abbrev pub scene_with : List (List ℕ) → Result SceneValue SceneFault
scene_with lines = scene_of (codes "wx scene 1 chrome" ++ 10 ∷ with_lines lines)

-- a scene that names no file
abbrev pub without_files : List SceneExtension → List SceneEndpoint → SceneValue
without_files extensions endpoints = record { extensions = extensions; hosts = []; files = []; endpoints = endpoints }

abbrev pub IsScene : List (List ℕ) → List SceneExtension → List SceneEndpoint → Type 0
IsScene lines extensions endpoints = scene_with lines ≡ Ok (without_files extensions endpoints)

-- line n of the scene, the head line being line 1, is the first faulty one
abbrev pub HasFault : List (List ℕ) → ℕ → SceneKind → Type 0
HasFault lines n k = scene_with lines ≡ Err (fault_at n k)

abbrev pub extension_x : List ℕ
extension_x = codes "extension x aaaaaaaaaaaaaaaaaaaaaaaaaaaaaaaa"

-- two pages with scripts: one connects, posts a number and disconnects, the other listens and takes
abbrev pub two_pages : List (List ℕ)
two_pages =
    extension_x
    ∷ codes "page q x /q" ∷ codes "  connect ch own" ∷ codes "  post ch 1" ∷ codes "  disconnect ch"
    ∷ codes "page p x /p" ∷ codes "  listen connect" ∷ codes "  take" ∷ codes "  take" ∷ codes "  take" ∷ []

abbrev pub x_declared : List SceneExtension
x_declared = record { name = codes "x"; id = id_a; file = None } ∷ []

abbrev pub page_of_x : List ℕ → List ℕ → List Command → SceneEndpoint
page_of_x name path script = record { name = name; context = Page id_a path; script = script }

-- acts that are made once
abbrev pub once : List Act → List Command
once acts = map Plain acts

abbrev pub TwoPages : Type 0
TwoPages =
    IsScene two_pages x_declared
    (page_of_x (codes "q") (codes "/q") (once (act.Connect (var 0) Own [] ∷ act.Post (var 0) (codes "1") ∷ act.Disconnect (var 0) ∷ []))
    ∷ page_of_x (codes "p") (codes "/p") (once (act.Listen (record deaf { connect = true }) ∷ act.Take ∷ act.Take ∷ act.Take ∷ []))
    ∷ [])

-- variables are numbered in the order in which they are first bound
abbrev pub NumberedVariables : Type 0
NumberedVariables =
    IsScene (extension_x ∷ codes "page p x /p" ∷ codes "  connect b own" ∷ codes "  connect a own" ∷ codes "  connect b own" ∷ codes "  post a 0" ∷ []) x_declared
    (page_of_x (codes "p") (codes "/p") (once (act.Connect (var 0) Own [] ∷ act.Connect (var 1) Own [] ∷ act.Connect (var 0) Own [] ∷ act.Post (var 1) (codes "0") ∷ [])) ∷ [])

-- comments and empty lines count for nothing, within a script too
abbrev pub CommentsPassedOver : Type 0
CommentsPassedOver =
    IsScene (codes "# a scene" ∷ extension_x ∷ [] ∷ codes "page p x /p" ∷ codes "  take" ∷ codes "#   take" ∷ [] ∷ codes "  take" ∷ []) x_declared
    (page_of_x (codes "p") (codes "/p") (once (act.Take ∷ act.Take ∷ [])) ∷ [])

-- a connection that is awaited binds its variable
abbrev pub awaiting : List (List ℕ)
awaiting =
    extension_x ∷ codes "page p x /p"
    ∷ codes "  await connect ch" ∷ codes "  await message ch" ∷ codes "  repeat 3 post ch 1" ∷ codes "  await close ch"
    ∷ codes "  echo 20" ∷ codes "  connect b own name n" ∷ codes "  disconnect b" ∷ []

abbrev pub Awaiting : Type 0
Awaiting =
    IsScene awaiting x_declared
    (page_of_x (codes "p") (codes "/p")
    (Plain (act.AwaitConnect (var 0)) ∷ Plain (act.AwaitMessage (var 0)) ∷ Repeat 3 (act.Post (var 0) (codes "1")) ∷ Plain (act.AwaitClose (var 0))
    ∷ Plain (act.Echo 20) ∷ Plain (act.Connect (var 1) Own (codes "n")) ∷ Plain (act.Disconnect (var 1)) ∷ [])
    ∷ [])

-- a repeated command binds as the command does
abbrev pub RepeatBinds : Type 0
RepeatBinds =
    IsScene (extension_x ∷ codes "page p x /p" ∷ codes "  repeat 2 connect ch own" ∷ codes "  post ch 1" ∷ []) x_declared
    (page_of_x (codes "p") (codes "/p") (Repeat 2 (act.Connect (var 0) Own []) ∷ Plain (act.Post (var 0) (codes "1")) ∷ []) ∷ [])

-- the last line may stand without its line feed
abbrev pub LastLineUnended : Type 0
LastLineUnended = scene_of (codes "wx scene 1 chrome" ++ 10 ∷ extension_x) ≡ Ok (without_files x_declared [])

-- requests: those that were asked and those that came have variables of their own
abbrev pub requests : List (List ℕ)
requests =
    extension_x
    ∷ codes "page q x /q" ∷ codes "  send a own 1" ∷ codes "  repeat 2 send b own [1, 2]" ∷ codes "  await reply a"
    ∷ codes "page p x /p" ∷ codes "  listen connect message" ∷ codes "  await request a" ∷ codes "  reply same a"
    ∷ codes "  await request b" ∷ codes "  reply b 1" ∷ codes "  decline b" ∷ []

abbrev pub Requests : Type 0
Requests =
    IsScene requests x_declared
    (page_of_x (codes "q") (codes "/q") (Plain (act.Send (var 0) Own (codes "1")) ∷ Repeat 2 (act.Send (var 1) Own (codes "[1, 2]")) ∷ Plain (act.AwaitReply (var 0)) ∷ [])
    ∷ page_of_x (codes "p") (codes "/p")
    (once (act.Listen (record deaf { connect = true; message = true }) ∷ act.AwaitRequest (var 0) ∷ act.ReplySame (var 0) ∷ act.AwaitRequest (var 1) ∷ act.Reply (var 1) (codes "1") ∷ act.Decline (var 1) ∷ []))
    ∷ [])

-- one name for a channel, a request that was asked and a request that came
abbrev pub one_name : List (List ℕ)
one_name =
    extension_x ∷ codes "page p x /p"
    ∷ codes "  connect a own" ∷ codes "  connect v own" ∷ codes "  send v own 1" ∷ codes "  await request v"
    ∷ codes "  post v 1" ∷ codes "  await reply v" ∷ codes "  decline v" ∷ []

abbrev pub OneName : Type 0
OneName =
    IsScene one_name x_declared
    (page_of_x (codes "p") (codes "/p")
    (once (act.Connect (var 0) Own [] ∷ act.Connect (var 1) Own [] ∷ act.Send (var 0) Own (codes "1") ∷ act.AwaitRequest (var 0)
    ∷ act.Post (var 1) (codes "1") ∷ act.AwaitReply (var 0) ∷ act.Decline (var 0) ∷ []))
    ∷ [])

-- hosts by words that need be no host's name: one on a channel, one for a request that was asked
abbrev pub natives : List (List ℕ)
natives =
    extension_x ∷ codes "page p x /p"
    ∷ codes "  connect b own" ∷ codes "  native v e" ∷ codes "  ask v e 1" ∷ codes "  repeat 2 native v E.."
    ∷ codes "  post v 1" ∷ codes "  await reply v" ∷ []

abbrev pub Natives : Type 0
Natives =
    IsScene natives x_declared
    (page_of_x (codes "p") (codes "/p")
    (Plain (act.Connect (var 0) Own []) ∷ Plain (act.Native (var 1) (codes "e")) ∷ Plain (act.Ask (var 0) (codes "e") (codes "1")) ∷ Repeat 2 (act.Native (var 1) (codes "E.."))
    ∷ Plain (act.Post (var 1) (codes "1")) ∷ Plain (act.AwaitReply (var 0)) ∷ [])
    ∷ [])

-- each target, and what may stand after it
abbrev pub targets : List (List ℕ)
targets =
    extension_x ∷ codes "page p x /p"
    ∷ codes "  connect a ext x" ∷ codes "  connect a ext x name own" ∷ codes "  send r ext x 1"
    ∷ codes "  connect a tab 7" ∷ codes "  connect a tab 7 name n" ∷ codes "  send r tab 4294967295 1"
    ∷ codes "  connect a tab 7 frame 0" ∷ codes "  connect a tab 7 frame 0 name frame" ∷ codes "  send r tab 7 frame 1 2" ∷ []

abbrev pub Targets : Type 0
Targets =
    IsScene targets x_declared
    (page_of_x (codes "p") (codes "/p")
    (once (act.Connect (var 0) (Other id_a) [] ∷ act.Connect (var 0) (Other id_a) (codes "own") ∷ act.Send (var 0) (Other id_a) (codes "1")
    ∷ act.Connect (var 0) (Tab (tab_id 7) None) [] ∷ act.Connect (var 0) (Tab (tab_id 7) None) (codes "n") ∷ act.Send (var 0) (Tab (tab_id 4294967295) None) (codes "1")
    ∷ act.Connect (var 0) (Tab (tab_id 7) (Some (frame_id 0))) [] ∷ act.Connect (var 0) (Tab (tab_id 7) (Some (frame_id 0))) (codes "frame") ∷ act.Send (var 0) (Tab (tab_id 7) (Some (frame_id 1))) (codes "2") ∷ []))
    ∷ [])

-- files in the order of their lines; an extension and a host may name one file
abbrev pub Files : Type 0
Files =
    scene_with (codes "host a/e.json" ∷ codes "extension x aaaaaaaaaaaaaaaaaaaaaaaaaaaaaaaa a/e.json" ∷ codes "host e" ∷ [])
    ≡ Ok (record {
      extensions = record { name = codes "x"; id = id_a; file = Some (codes "a/e.json") } ∷ [];
      hosts = codes "a/e.json" ∷ codes "e" ∷ [];
      files = manifest.Host 0 ∷ manifest.Extension 0 ∷ manifest.Host 1 ∷ [];
      endpoints = [];
    })

-- a content script and a web page have the URLs' own texts
abbrev pub Documents : Type 0
Documents =
    (first second : List ℕ) → web_url_of (codes "https://a.b/f") ≡ Some first → web_url_of (codes "HTTPS://A.b") ≡ Some second
    → IsScene (extension_x ∷ codes "content c x 7 1 https://a.b/f" ∷ codes "web w 7 0 HTTPS://A.b" ∷ []) x_declared
    (record { name = codes "c"; context = Content id_a (tab_id 7) (frame_id 1) first; script = [] }
    ∷ record { name = codes "w"; context = Web (tab_id 7) (frame_id 0) second; script = [] } ∷ [])

-- a text that is read as no web URL is refused, but after an undeclared extension and a repeated name
abbrev pub NoWebUrl : Type 0
NoWebUrl =
    web_url_of (codes "ftp://a.b/") ≡ None
    → HasFault (codes "web w 7 0 ftp://a.b/" ∷ []) 2 kind.Url
    × HasFault (extension_x ∷ codes "content c x 7 0 ftp://a.b/" ∷ []) 3 kind.Url
    × HasFault (codes "content c x 7 0 ftp://a.b/" ∷ []) 2 kind.Unknown
    × HasFault (extension_x ∷ codes "page c x /" ∷ codes "web c 7 0 ftp://a.b/" ∷ []) 4 kind.Repeated

-- what is spelled as a line is read as that line
abbrev pub ReadsTheSpelling : Type 0
ReadsTheSpelling = (l : Line) → IsLine l → line_at (spelling l) ≡ Some l

-- and only that: no other text is read as the line
abbrev pub HasOneSpelling : Type 0
HasOneSpelling = (text : List ℕ) (l : Line) → line_at text ≡ Some l → IsLine l × (text ≡ spelling l)
