-- Worked examples of a journal's text.
use Rattle.std.specs.Prelude.{◌≡◌, ◌++◌, [], reverse, codes}
use Rattle.wx_external.specs.World.{WorldLists, empty_world}
use Rattle.wx_machine.specs.Words.{made_of}
use Rattle.wx_machine.specs.Rows.{one_connection_calls, first_reply_calls, tabs_and_frames_calls, from_outside_calls, host_replies_calls, host_ends_calls, with_hosts}
use Rattle.wx_journal_text.specs.Text.{journal_text}

-- two pages, one connection, one posted number
abbrev pub OneConnectionOnePostText : Type 0
OneConnectionOnePostText =
    (world : WorldLists) → journal_text (reverse (made_of world one_connection_calls []))
    ≡ codes "wx journal 1 chrome\nc0 enter page aaaaaaaaaaaaaaaaaaaaaaaaaaaaaaaa 2:/q -> context 0\nc1 enter page aaaaaaaaaaaaaaaaaaaaaaaaaaaaaaaa 2:/p -> context 1\nc1 listen c--- -> done\nc0 connect own 0: -> channel 0\nc1 take -> connected 0 3\nc0 post 0 1:1 -> posted\nc1 take -> message 0 5\nc0 disconnect 0 -> done\nc1 take -> disconnected 0 7\nc0 leave -> done\nc1 leave -> done\n"

-- the first reply wins
abbrev pub FirstReplyWinsText : Type 0
FirstReplyWinsText =
    (world : WorldLists) → journal_text (reverse (made_of world first_reply_calls []))
    ≡ codes "wx journal 1 chrome\nc0 enter page aaaaaaaaaaaaaaaaaaaaaaaaaaaaaaaa 2:/s -> context 0\nc1 enter page aaaaaaaaaaaaaaaaaaaaaaaaaaaaaaaa 2:/p -> context 1\nc1 listen -m-- -> done\nc2 enter page aaaaaaaaaaaaaaaaaaaaaaaaaaaaaaaa 2:/q -> context 2\nc2 listen -m-- -> done\n"
    ++ codes "c0 send own 4:\"hi\" -> request 0\nc1 take -> asked 0 5\nc2 take -> asked 0 5\nc1 reply 0 1:1 -> first\nc2 reply 0 1:2 -> late\nc0 take -> replied 0 8\nc1 leave -> done\nc2 decline 0 -> late\nc0 leave -> done\nc2 leave -> done\n"

-- connects to a tab and to frames of it
abbrev pub TabsAndFramesText : Type 0
TabsAndFramesText =
    (world : WorldLists) → journal_text (reverse (made_of world tabs_and_frames_calls []))
    ≡ codes "wx journal 1 chrome\nc0 enter content aaaaaaaaaaaaaaaaaaaaaaaaaaaaaaaa 7 0 12:https://a.b/ -> context 0\nc0 listen c--- -> done\nc1 enter content aaaaaaaaaaaaaaaaaaaaaaaaaaaaaaaa 7 3 13:https://a.b/f -> context 1\nc1 listen c--- -> done\nc2 enter page aaaaaaaaaaaaaaaaaaaaaaaaaaaaaaaa 2:/p -> context 2\n"
    ++ codes "c2 connect tab 7 5 0: -> no_receiver\nc2 connect tab 7 3 0: -> channel 0\nc1 take -> connected 0 6\nc2 connect tab 7 * 0: -> channel 1\nc0 take -> connected 1 8\nc1 take -> connected 1 8\n"

-- calls from another extension and from a web page
abbrev pub FromOutsideText : Type 0
FromOutsideText =
    journal_text (reverse (made_of empty_world from_outside_calls []))
    ≡ codes "wx journal 1 chrome\nc0 enter page aaaaaaaaaaaaaaaaaaaaaaaaaaaaaaaa 2:/p -> context 0\nc0 listen --C- -> done\nc1 enter page bbbbbbbbbbbbbbbbbbbbbbbbbbbbbbbb 2:/q -> context 1\nc2 enter web 7 0 12:https://a.b/ -> context 2\n"
    ++ codes "c1 connect ext aaaaaaaaaaaaaaaaaaaaaaaaaaaaaaaa 0: -> channel 0\nc2 connect ext aaaaaaaaaaaaaaaaaaaaaaaaaaaaaaaa 0: -> forbidden url\nc0 take -> connected 0 4\nc1 leave -> done\nc2 connect own 0: -> bad_target\n"

-- a host that replies to a request, and whose second message is ignored
abbrev pub HostRepliesText : Type 0
HostRepliesText =
    journal_text (reverse (made_of with_hosts host_replies_calls []))
    ≡ codes "wx journal 1 chrome\nc0 enter page aaaaaaaaaaaaaaaaaaaaaaaaaaaaaaaa 2:/p -> context 0\nc0 send_native 1:e 1:0 -> request 0\nh0 host_take -> text 1\nh0 host_said 1:1 -> passed\nc0 take -> replied 0 3\n"
    ++ codes "h0 host_take -> end\nc0 leave -> done\nh0 host_said 1:2 -> ignored\nh0 host_ended exited -> done\n"

-- a host whose first bytes announce a frame that is too long
abbrev pub HostEndsText : Type 0
HostEndsText =
    journal_text (reverse (made_of with_hosts host_ends_calls []))
    ≡ codes "wx journal 1 chrome\nc0 enter page aaaaaaaaaaaaaaaaaaaaaaaaaaaaaaaa 2:/p -> context 0\nc0 connect_native 1:e -> channel 0\nh0 host_ended too_long 1869768803 -> done\nc0 take -> disconnected 0 2\nc0 leave -> done\n"
