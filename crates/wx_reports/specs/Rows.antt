-- Worked examples of the reports, on the journals that calls make.
use Rattle.std.specs.Prelude.{◌≡◌, ℕ, List, [], ◌∷◌, ◌++◌, Option, Some, None, codes}
use Rattle.std.specs.Option.{option_map}
use Rattle.wx_external.specs.World.{WorldLists}
use Rattle.wx_machine.specs.declared.entries.Who.{Who}
use Rattle.wx_machine.specs.declared.entries.Call.{Call}
use Rattle.wx_machine.specs.declared.entries.Entry.{Entry}
use Rattle.wx_machine.specs.Words.{made_of}
use Rattle.wx_machine.specs.declared.entries.Call.TheVariants.{Leave, Disconnect, Take, ConnectNative, SendNative, HostTake, HostSaid, HostEnded}
use Rattle.wx_machine.specs.declared.entries.Reason.TheVariants.{StartFailed}
use Rattle.wx_machine.specs.Rows.{by, by_host, a_page, listen_connect, connect, channel, post, decline, reply, two_asked, one_connection_calls, first_reply_calls, host_replies_calls, with_hosts}
use Rattle.wx_reports.specs.declared.ports.PortReport.{PortReport}
use Rattle.wx_reports.specs.declared.requests.RequestReport.{RequestReport}
use Rattle.wx_reports.specs.declared.requests.Settled.{Settled}
use Rattle.wx_reports.specs.declared.requests.Settled.TheVariants.{First, Closed, Left}
use Rattle.wx_id.specs.Numbers.{entry_no}
use Rattle.wx_reports.specs.Reports.{port_report, request_report}

-- the past that the calls make
abbrev pub made : WorldLists → List (Who × Call) → List Entry
made world calls = made_of world calls []

abbrev pub port : ℕ → Option ℕ → ℕ → ℕ → Option PortReport
port opened closed posted taken = Some (record {
  opened = entry_no opened;
  closed = option_map entry_no closed;
  posted =
      posted;
  taken = taken;
})

abbrev pub settled : ℕ → ℕ → Settled → Option RequestReport
settled opened at way = Some (record { opened = entry_no opened; settled = Some (entry_no at, way) })

-- one channel, and no other
abbrev pub OneConnection : Type 0
OneConnection =
    (world : WorldLists)
    → (port_report (made world one_connection_calls) 0 ≡ port 3 (Some 7) 1 1)
    × (port_report (made world one_connection_calls) 1 ≡ None)
    × (request_report (made world one_connection_calls) 0 ≡ None)

abbrev pub to_one_listener : List (Who × Call)
to_one_listener = by 0 (a_page (codes "/q")) ∷ by 1 (a_page (codes "/p")) ∷ by 1 listen_connect ∷ by 0 connect ∷ by 1 listen_connect ∷ []

-- what is taken after the opener's leave counts
abbrev pub PostsOutliveTheOpener : Type 0
PostsOutliveTheOpener =
    (world : WorldLists) → port_report
    (made world
    (to_one_listener
    ++ (by 0 (post 0 (codes "1")) ∷ by 1 listen_connect ∷ by 0 (post 0 (codes "2")) ∷ by 1 listen_connect ∷ by 0 (post 0 (codes "3")) ∷ by 1 listen_connect
    ∷ by 0 Leave ∷ by 1 listen_connect ∷ by 1 Take ∷ by 1 Take ∷ by 1 Take ∷ by 1 Take ∷ by 1 Take ∷ by 1 Take
    ∷ by 1 Leave ∷ [])))
    0
    ≡ port 3 (Some 11) 3 3

-- what waits when its receiver disconnects is posted, and never taken
abbrev pub DisconnectDropsWhatWaits : Type 0
DisconnectDropsWhatWaits =
    (world : WorldLists) → port_report
    (made world
    (to_one_listener
    ++ (by 0 (post 0 (codes "1")) ∷ by 1 listen_connect ∷ by 0 (post 0 (codes "2")) ∷ by 1 Take ∷ by 0 (post 0 (codes "3"))
    ∷ by 1 (Disconnect (channel 0)) ∷ by 0 Leave ∷ by 1 Take ∷ by 1 Leave ∷ [])))
    0
    ≡ port 3 (Some 10) 3 0

abbrev pub two_hosts_calls : List (Who × Call)
two_hosts_calls =
    by 0 (a_page (codes "/p")) ∷ by 0 (ConnectNative (codes "e")) ∷ by 0 (ConnectNative (codes "e"))
    ∷ by 0 (post 0 (codes "1")) ∷ by 0 (post 1 (codes "2")) ∷ by 0 (post 0 (codes "3")) ∷ by_host 1 HostTake ∷ by_host 1 (HostSaid (codes "4")) ∷ by 0 Take
    ∷ by 0 (Disconnect (channel 0)) ∷ by_host 0 HostTake ∷ by_host 0 (HostSaid (codes "5")) ∷ by_host 0 HostTake ∷ by_host 0 HostTake ∷ []

-- two hosts: the texts that each takes, and what it says before its channel is closed, count on its own channel
abbrev pub HostsTakeTheirOwn : Type 0
HostsTakeTheirOwn =
    (port_report (made with_hosts two_hosts_calls) 0 ≡ port 1 (Some 9) 2 2)
    × (port_report (made with_hosts two_hosts_calls) 1 ≡ port 2 None 2 2)

-- the first reply settles the request, and a later one does not
abbrev pub FirstReply : Type 0
FirstReply = (world : WorldLists) → request_report (made world first_reply_calls) 0 ≡ settled 5 8 First

-- a receiver declines and the other leaves
abbrev pub ClosedWithoutReply : Type 0
ClosedWithoutReply =
    (world : WorldLists) → request_report (made world (two_asked
    ++ (by 1 (decline 0) ∷ by 2 Leave ∷ by 0 Take ∷ by 1 Leave ∷ by 0 Leave ∷ []))) 0 ≡ settled 5 9 Closed

-- the asker leaves
abbrev pub AskerLeaves : Type 0
AskerLeaves =
    (world : WorldLists) → request_report (made world (two_asked ++ (by 0 Leave ∷ by 1 (reply 0 (codes "1")) ∷ by 2 (decline 0) ∷ []))) 0 ≡ settled 5 8 Left

-- a request that nobody settled yet
abbrev pub NotSettled : Type 0
NotSettled = (world : WorldLists) → request_report (made world two_asked) 0
    ≡ Some (record { opened = entry_no 5; settled = None })

-- what a host says settles its request
abbrev pub HostReplies : Type 0
HostReplies = request_report (made with_hosts host_replies_calls) 0 ≡ settled 1 3 First

-- a host that does not start settles its request without a reply
abbrev pub HostFailsToStart : Type 0
HostFailsToStart =
    request_report
    (made with_hosts (by 0 (a_page (codes "/p")) ∷ by 0 (SendNative (codes "e") (codes "0")) ∷ by_host 0 (HostEnded StartFailed) ∷ by 0 Take ∷ by 0 Leave ∷ [])) 0
    ≡ settled 1 2 Closed
