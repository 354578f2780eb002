-- Worked examples of the machine: calls, and what they are answered one after another.
use Rattle.std.specs.Prelude.{◌≡◌, ℕ, List, [], ◌∷◌, ◌++◌, map, Bool, true, false, reverse, codes, Option, Some, None}
use Rattle.wx_id.specs.declared.numbers.FrameId.{FrameId}
use Rattle.wx_id.specs.declared.numbers.ChannelNo.{ChannelNo}
use Rattle.wx_id.specs.declared.numbers.RequestNo.{RequestNo}
use Rattle.wx_id.specs.declared.events.EventKind.{EventKind}
use Rattle.wx_id.specs.declared.events.EventKind.TheVariants.{Connected, Message, Disconnected, Asked, Replied, Closed}
use Rattle.wx_context.specs.declared.contexts.Context.TheVariants.{Page, Content, Web}
use Rattle.wx_context.specs.declared.contexts.Target.TheVariants.{Own, Other, Tab}
use Rattle.wx_external.specs.declared.gates.Rule.TheVariants.{Url}
use Rattle.wx_external.specs.World.{WorldLists, empty_world}
use Rattle.wx_external.specs.Worked.{id_a, id_b}
use Rattle.wx_external.specs.declared.world.Installed.{Installed}
use Rattle.wx_machine.specs.declared.entries.Who.{Who}
use Rattle.wx_machine.specs.declared.entries.Who.TheVariants.{Context as ByContext, Host as ByHost}
use Rattle.wx_machine.specs.declared.entries.Call.{Call}
use Rattle.wx_machine.specs.declared.entries.Call.TheVariants.{Enter, Listen, Leave, Connect, Post, Disconnect, Send, Reply, Decline, Take, ConnectNative, SendNative, HostTake, HostSaid, HostEnded}
use Rattle.wx_machine.specs.declared.entries.Answer.{Answer}
use Rattle.wx_machine.specs.declared.entries.Answer.TheVariants.{Entered, Channel as OnChannel, Request as OnRequest, Event as Told, Done, Gone, BadTarget, Forbidden, NoReceiver, Posted, PortClosed, NoEffect, First, Late, NotYours, Empty, Text as HasText, NoPermission, BadHostName, HostNotFound, HostForbidden, End as NoMore, Passed, Ignored, Already}
use Rattle.wx_machine.specs.declared.entries.Reason.TheVariants as reason
use Rattle.wx_machine.specs.declared.entries.Entry.{Entry}
use Rattle.wx_machine.specs.Closing.{closed_at}
use Rattle.wx_machine.specs.Answers.{made_of}

abbrev pub by : ℕ → Call → Who × Call
by n call = (ByContext (record { 0 = n }), call)

abbrev pub a_page : List ℕ → Call
a_page path = Enter (Page id_a path)

abbrev pub listen_connect : Call
listen_connect = Listen (record { connect = true; message = false; external_connect = false; external_message = false })

abbrev pub channel : ℕ → ChannelNo
channel n = record { 0 = n }

abbrev pub connect : Call
connect = Connect Own []

abbrev pub post : ℕ → List ℕ → Call
post k text = Post (channel k) text

abbrev pub told : ℕ → EventKind → Answer
told n kind = Told (record { entry = record { 0 = n }; kind = kind })

abbrev pub entered : ℕ → Answer
entered n = Entered (record { 0 = n })

abbrev pub answers_to : WorldLists → List (Who × Call) → List Answer
answers_to world calls = map (λ (e : Entry). e.answer) (reverse (made_of world calls []))

-- two pages, one connection, one posted number
abbrev pub one_connection_calls : List (Who × Call)
one_connection_calls =
    by 0 (a_page (codes "/q")) ∷ by 1 (a_page (codes "/p")) ∷ by 1 listen_connect ∷ by 0 connect ∷ by 1 Take
    ∷ by 0 (post 0 (codes "1")) ∷ by 1 Take ∷ by 0 (Disconnect (channel 0)) ∷ by 1 Take ∷ by 0 Leave ∷ by 1 Leave ∷ []

abbrev pub OneConnectionOnePost : Type 0
OneConnectionOnePost =
    (world : WorldLists) → answers_to world one_connection_calls
    ≡ entered 0 ∷ entered 1 ∷ Done ∷ OnChannel (channel 0) ∷ told 3 (Connected (channel 0))
    ∷ Posted ∷ told 5 (Message (channel 0)) ∷ Done ∷ told 7 (Disconnected (channel 0)) ∷ Done ∷ Done ∷ []

-- a page that listens does not reach itself
abbrev pub ConnectReachesNobody : Type 0
ConnectReachesNobody =
    (world : WorldLists) → answers_to world (by 0 (a_page (codes "/p")) ∷ by 0 listen_connect ∷ by 0 connect ∷ by 0 Leave ∷ [])
    ≡ entered 0 ∷ Done ∷ NoReceiver ∷ Done ∷ []

-- a page that connects, and two that listen and take the connection
abbrev pub two_listeners : List (Who × Call)
two_listeners =
    by 0 (a_page (codes "/s")) ∷ by 1 (a_page (codes "/p")) ∷ by 1 listen_connect ∷ by 2 (a_page (codes "/q")) ∷ by 2 listen_connect
    ∷ by 0 connect ∷ by 1 Take ∷ by 2 Take ∷ []

abbrev pub two_listeners_answers : List Answer
two_listeners_answers =
    entered 0 ∷ entered 1 ∷ Done ∷ entered 2 ∷ Done
    ∷ OnChannel (channel 0) ∷ told 5 (Connected (channel 0)) ∷ told 5 (Connected (channel 0)) ∷ []

-- a receiver's disconnect closes the channel to the other receiver too, and the opener alone is told
abbrev pub ReceiverDisconnects : Type 0
ReceiverDisconnects =
    (world : WorldLists) → answers_to world
    (two_listeners
    ++ (by 1 (Disconnect (channel 0)) ∷ by 2 (post 0 (codes "7")) ∷ by 0 Take ∷ by 1 (Disconnect (channel 0)) ∷ by 2 Take ∷ by 0 Leave ∷ by 1 Leave ∷ by 2 Leave ∷ []))
    ≡ two_listeners_answers ++ (Done ∷ PortClosed ∷ told 8 (Disconnected (channel 0)) ∷ NoEffect ∷ Empty ∷ Done ∷ Done
    ∷ Done ∷ [])

abbrev pub receiver_leaves_calls : List (Who × Call)
receiver_leaves_calls = two_listeners ++ (by 1 Leave ∷ by 2 (post 0 (codes "7")) ∷ by 0 Take ∷ by 2 Leave ∷ by 0 Leave ∷ [])

-- a receiver's leave closes the channel only where no receiver is left
abbrev pub ReceiverLeaves : Type 0
ReceiverLeaves =
    (world : WorldLists)
    → (answers_to world receiver_leaves_calls ≡ two_listeners_answers
    ++ (Done ∷ Posted ∷ told 9 (Message (channel 0)) ∷ Done ∷ Done ∷ []))
    × (closed_at (made_of world receiver_leaves_calls []) 0 ≡ Some 11)

-- what was posted before the opener left stays to be taken
abbrev pub PostsOutliveTheOpener : Type 0
PostsOutliveTheOpener =
    (world : WorldLists) → answers_to world
    (by 0 (a_page (codes "/q")) ∷ by 1 (a_page (codes "/p")) ∷ by 1 listen_connect ∷ by 0 connect ∷ by 1 listen_connect
    ∷ by 0 (post 0 (codes "1")) ∷ by 1 listen_connect ∷ by 0 (post 0 (codes "2")) ∷ by 1 listen_connect ∷ by 0 (post 0 (codes "3")) ∷ by 1 listen_connect
    ∷ by 0 Leave ∷ by 1 listen_connect ∷ by 1 Take ∷ by 1 Take ∷ by 1 Take ∷ by 1 Take ∷ by 1 Take ∷ by 1 Take
    ∷ by 1 Leave ∷ [])
    ≡ entered 0 ∷ entered 1 ∷ Done ∷ OnChannel (channel 0) ∷ Done ∷ Posted ∷ Done ∷ Posted ∷ Done ∷ Posted ∷ Done ∷ Done
    ∷ Done
    ∷ told 3 (Connected (channel 0)) ∷ told 5 (Message (channel 0)) ∷ told 7 (Message (channel 0))
    ∷ told 9 (Message (channel 0)) ∷ told 11 (Disconnected (channel 0)) ∷ Empty ∷ Done ∷ []

-- one who disconnects a channel takes nothing more of it
abbrev pub DisconnectDropsWhatWaits : Type 0
DisconnectDropsWhatWaits =
    (world : WorldLists) → answers_to world
    (by 0 (a_page (codes "/q")) ∷ by 1 (a_page (codes "/p")) ∷ by 1 listen_connect ∷ by 0 connect ∷ by 1 listen_connect
    ∷ by 0 (post 0 (codes "1")) ∷ by 1 listen_connect ∷ by 0 (post 0 (codes "2")) ∷ by 1 Take ∷ by 0 (post 0 (codes "3"))
    ∷ by 1 (Disconnect (channel 0)) ∷ by 0 Leave ∷ by 1 Take ∷ by 1 Leave ∷ [])
    ≡ entered 0 ∷ entered 1 ∷ Done ∷ OnChannel (channel 0) ∷ Done ∷ Posted ∷ Done ∷ Posted
    ∷ told 3 (Connected (channel 0)) ∷ Posted ∷ Done ∷ Done ∷ Empty ∷ Done ∷ []

abbrev pub listen_message : Call
listen_message = Listen (record { connect = false; message = true; external_connect = false; external_message = false })

abbrev pub request : ℕ → RequestNo
request n = record { 0 = n }

abbrev pub send : List ℕ → Call
send text = Send Own text

abbrev pub reply : ℕ → List ℕ → Call
reply r text = Reply (request r) text

abbrev pub decline : ℕ → Call
decline r = Decline (request r)

-- a page that sends, and two that listen and take the request
abbrev pub two_asked : List (Who × Call)
two_asked =
    by 0 (a_page (codes "/s")) ∷ by 1 (a_page (codes "/p")) ∷ by 1 listen_message ∷ by 2 (a_page (codes "/q")) ∷ by 2 listen_message
    ∷ by 0 (send (codes "\"hi\"")) ∷ by 1 Take ∷ by 2 Take ∷ []

abbrev pub two_asked_answers : List Answer
two_asked_answers =
    entered 0 ∷ entered 1 ∷ Done ∷ entered 2 ∷ Done
    ∷ OnRequest (request 0) ∷ told 5 (Asked (request 0)) ∷ told 5 (Asked (request 0)) ∷ []

abbrev pub first_reply_calls : List (Who × Call)
first_reply_calls = two_asked ++ (by 1 (reply 0 (codes "1")) ∷ by 2 (reply 0 (codes "2")) ∷ by 0 Take ∷ by 1 Leave ∷ by 2 (decline 0) ∷ by 0 Leave ∷ by 2 Leave ∷ [])

-- the first reply wins
abbrev pub FirstReplyWins : Type 0
FirstReplyWins =
    (world : WorldLists) → answers_to world first_reply_calls
    ≡ two_asked_answers ++ (First ∷ Late ∷ told 8 (Replied (request 0)) ∷ Done ∷ Late ∷ Done ∷ Done ∷ [])

-- a request is closed where its receivers have declined or left
abbrev pub ClosedWithoutReply : Type 0
ClosedWithoutReply =
    (world : WorldLists) → answers_to world (two_asked ++ (by 1 (decline 0) ∷ by 2 Leave ∷ by 0 Take ∷ by 1 Leave
    ∷ by 0 Leave ∷ []))
    ≡ two_asked_answers ++ (Done ∷ Done ∷ told 9 (Closed (request 0)) ∷ Done ∷ Done ∷ [])

-- an asker that leaves settles its request: the reply comes late, and nobody is told
abbrev pub AskerLeaves : Type 0
AskerLeaves =
    (world : WorldLists) → answers_to world (two_asked ++ (by 0 Leave ∷ by 1 (reply 0 (codes "1")) ∷ by 2 (decline 0) ∷ by 1 Take ∷ by 2 Take ∷ by 0 Take ∷ []))
    ≡ two_asked_answers ++ (Done ∷ Late ∷ Late ∷ Empty ∷ Empty ∷ Gone ∷ [])

-- a decline before the request is made is none of its receiver, who may still reply
abbrev pub EarlyDecline : Type 0
EarlyDecline =
    (world : WorldLists) → answers_to world
    (by 0 (a_page (codes "/s")) ∷ by 1 (a_page (codes "/p")) ∷ by 1 listen_message ∷ by 1 (decline 0)
    ∷ by 0 (send (codes "1")) ∷ by 0 (reply 0 (codes "2")) ∷ by 1 (reply 0 (codes "3")) ∷ by 0 Take ∷ by 1 Take ∷ [])
    ≡ entered 0 ∷ entered 1 ∷ Done ∷ NotYours
    ∷ OnRequest (request 0) ∷ NotYours ∷ First ∷ told 6 (Replied (request 0)) ∷ told 4 (Asked (request 0)) ∷ []

abbrev pub frame_of_tab : ℕ → List ℕ → Call
frame_of_tab frame url = Enter (Content id_a (record { 0 = 7 }) (record { 0 = frame }) url)

abbrev pub connect_to_tab : Option FrameId → Call
connect_to_tab frame = Connect (Tab (record { 0 = 7 }) frame) []

abbrev pub tabs_and_frames_calls : List (Who × Call)
tabs_and_frames_calls =
    by 0 (frame_of_tab 0 (codes "https://a.b/")) ∷ by 0 listen_connect ∷ by 1 (frame_of_tab 3 (codes "https://a.b/f")) ∷ by 1 listen_connect ∷ by 2 (a_page (codes "/p"))
    ∷ by 2 (connect_to_tab (Some (record { 0 = 5 }))) ∷ by 2 (connect_to_tab (Some (record { 0 = 3 }))) ∷ by 1 Take
    ∷ by 2 (connect_to_tab None) ∷ by 0 Take ∷ by 1 Take ∷ []

-- a page reaches the content scripts of its extension that listen in a tab, or the one in a frame of it
abbrev pub TabsAndFrames : Type 0
TabsAndFrames =
    (world : WorldLists) → answers_to world tabs_and_frames_calls
    ≡ entered 0 ∷ Done ∷ entered 1 ∷ Done ∷ entered 2
    ∷ NoReceiver ∷ OnChannel (channel 0) ∷ told 6 (Connected (channel 0)) ∷ OnChannel (channel 1)
    ∷ told 8 (Connected (channel 1)) ∷ told 8 (Connected (channel 1)) ∷ []

abbrev pub connect_to_a : Call
connect_to_a = Connect (Other id_a) []

abbrev pub from_outside_calls : List (Who × Call)
from_outside_calls =
    by 0 (a_page (codes "/p")) ∷ by 0 (Listen (record { connect = false; message = false; external_connect = true; external_message = false }))
    ∷ by 1 (Enter (Page id_b (codes "/q"))) ∷ by 2 (Enter (Web (record { 0 = 7 }) (record { 0 = 0 }) (codes "https://a.b/")))
    ∷ by 1 connect_to_a ∷ by 2 connect_to_a ∷ by 0 Take ∷ by 1 Leave ∷ by 2 connect ∷ []

-- a page that listens to connections from outside hears another extension; no web page may call its extension, nor an
-- extension of its own
abbrev pub FromOutside : Type 0
FromOutside =
    answers_to empty_world from_outside_calls
    ≡ entered 0 ∷ Done ∷ entered 1 ∷ entered 2
    ∷ OnChannel (channel 0) ∷ Forbidden Url ∷ told 4 (Connected (channel 0)) ∷ Done ∷ BadTarget ∷ []

-- what listens to its own extension alone does not hear another one
abbrev pub OwnFlagsServeOwnCalls : Type 0
OwnFlagsServeOwnCalls =
    answers_to empty_world
    (by 0 (a_page (codes "/p")) ∷ by 0 listen_connect ∷ by 1 (Enter (Page id_b (codes "/q"))) ∷ by 1 connect_to_a ∷ [])
    ≡ entered 0 ∷ Done ∷ entered 1 ∷ NoReceiver ∷ []

abbrev pub by_host : ℕ → Call → Who × Call
by_host n call = (ByHost (record { 0 = n }), call)

-- the extension with this id, which has the permission `nativeMessaging` or lacks it
abbrev pub installed : List ℕ → Bool → Installed
installed id native = record { id = id; manifest = record { manifest_version = 3; name = codes "x"; version = codes "1"; native = native; external = None } }

-- extension A may start hosts, extension B may not; host e lets A in, host f no extension
abbrev pub with_hosts : WorldLists
with_hosts = record {
  extensions = installed id_a true ∷ installed id_b false ∷ [];
  hosts = record { name = codes "e"; path = codes "/bin/e"; origins = (codes "chrome-extension://" ++ (id_a ++ codes "/")) ∷ [] } ∷ record { name = codes "f"; path = codes "/bin/f"; origins = [] } ∷ [];
}

abbrev pub text_at : ℕ → Answer
text_at e = HasText (record { 0 = e })

abbrev pub host_ends_calls : List (Who × Call)
host_ends_calls =
    by 0 (a_page (codes "/p")) ∷ by 0 (ConnectNative (codes "e")) ∷ by_host 0 (HostEnded (reason.TooLong 1869768803)) ∷ by 0 Take ∷ by 0 Leave ∷ []

-- a host ends, and its channel with it
abbrev pub HostEnds : Type 0
HostEnds = answers_to with_hosts host_ends_calls ≡ entered 0 ∷ OnChannel (channel 0) ∷ Done
    ∷ told 2 (Disconnected (channel 0)) ∷ Done ∷ []

-- a host that ended takes nothing more, and its channel is closed
abbrev pub EndedHostTakesNothing : Type 0
EndedHostTakesNothing =
    answers_to with_hosts
    (by 0 (a_page (codes "/p")) ∷ by 0 (ConnectNative (codes "e")) ∷ by_host 0 HostTake ∷ by_host 0 (HostEnded (reason.TooLong 1869768803)) ∷ by 0 Take
    ∷ by 0 (post 0 (codes "1")) ∷ by_host 0 HostTake ∷ by_host 0 (HostEnded reason.Exited) ∷ by_host 0 (HostSaid (codes "2")) ∷ by 0 Take ∷ by 0 Leave ∷ [])
    ≡ entered 0 ∷ OnChannel (channel 0) ∷ Empty ∷ Done ∷ told 3 (Disconnected (channel 0))
    ∷ PortClosed ∷ NoMore ∷ Already ∷ PortClosed ∷ Empty ∷ Done ∷ []

abbrev pub host_replies_calls : List (Who × Call)
host_replies_calls =
    by 0 (a_page (codes "/p")) ∷ by 0 (SendNative (codes "e") (codes "0")) ∷ by_host 0 HostTake ∷ by_host 0 (HostSaid (codes "1")) ∷ by 0 Take
    ∷ by_host 0 HostTake ∷ by 0 Leave ∷ by_host 0 (HostSaid (codes "2")) ∷ by_host 0 (HostEnded reason.Exited) ∷ []

-- a host's first message replies to its request, and a second one is ignored
abbrev pub HostReplies : Type 0
HostReplies =
    answers_to with_hosts host_replies_calls
    ≡ entered 0 ∷ OnRequest (request 0) ∷ text_at 1 ∷ Passed ∷ told 3 (Replied (request 0))
    ∷ NoMore ∷ Done ∷ Ignored ∷ Done ∷ []

-- a host that does not start settles its request without a reply
abbrev pub HostFailsToStart : Type 0
HostFailsToStart =
    answers_to with_hosts
    (by 0 (a_page (codes "/p")) ∷ by 0 (SendNative (codes "e") (codes "0")) ∷ by_host 0 (HostEnded reason.StartFailed) ∷ by 0 Take ∷ by 0 Leave ∷ [])
    ≡ entered 0 ∷ OnRequest (request 0) ∷ Done ∷ told 2 (Closed (request 0)) ∷ Done ∷ []

-- two hosts of one name have channels and texts of their own; what was posted on a closed channel is taken before the
-- end
abbrev pub HostsTakeTheirOwn : Type 0
HostsTakeTheirOwn =
    answers_to with_hosts
    (by 0 (a_page (codes "/p")) ∷ by 0 (ConnectNative (codes "e")) ∷ by 0 (ConnectNative (codes "e"))
    ∷ by 0 (post 0 (codes "1")) ∷ by 0 (post 1 (codes "2")) ∷ by 0 (post 0 (codes "3")) ∷ by_host 1 HostTake ∷ by_host 1 HostTake
    ∷ by_host 1 (HostSaid (codes "4")) ∷ by 0 Take ∷ by 0 (Disconnect (channel 0)) ∷ by_host 0 HostTake ∷ by_host 0 (HostSaid (codes "5")) ∷ by_host 0 HostTake ∷ by_host 0 HostTake
    ∷ by_host 0 (HostEnded reason.Closed) ∷ by 0 Take ∷ [])
    ≡ entered 0 ∷ OnChannel (channel 0) ∷ OnChannel (channel 1)
    ∷ Posted ∷ Posted ∷ Posted ∷ text_at 4 ∷ Empty
    ∷ Passed ∷ told 8 (Message (channel 1)) ∷ Done ∷ text_at 3 ∷ PortClosed ∷ text_at 5 ∷ NoMore
    ∷ Done ∷ Empty ∷ []

-- who may start a host: the tests in their order
abbrev pub NativeGateInOrder : Type 0
NativeGateInOrder =
    answers_to with_hosts
    (by 0 (Enter (Web (record { 0 = 7 }) (record { 0 = 0 }) (codes "https://a.b/"))) ∷ by 0 (ConnectNative (codes "e"))
    ∷ by 1 (Enter (Page id_b (codes "/q"))) ∷ by 1 (ConnectNative (codes ".e")) ∷ by 2 (a_page (codes "/p")) ∷ by 2 (ConnectNative (codes ".e"))
    ∷ by 2 (ConnectNative (codes "g")) ∷ by 2 (ConnectNative (codes "f")) ∷ by 2 (ConnectNative (codes "e")) ∷ by 2 Leave ∷ by 2 (ConnectNative (codes "e")) ∷ [])
    ≡ entered 0 ∷ BadTarget
    ∷ entered 1 ∷ NoPermission ∷ entered 2 ∷ BadHostName
    ∷ HostNotFound ∷ HostForbidden ∷ OnChannel (channel 0) ∷ Done ∷ Gone ∷ []
