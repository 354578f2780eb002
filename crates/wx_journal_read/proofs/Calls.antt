-- Calls are read as they are spelled.
use Rattle.std.proofs.Common.{◌^◌, refl}
use Rattle.std.specs.Prelude.{codes, decimal}
use Rattle.std.specs.Str.{is_utf8}
use Rattle.wx_json.specs.Test.{is_json_text}
use Rattle.wx_json.specs.Text.{IsJsonText}
use Rattle.wx_machine.specs.declared.entries.Call.TheVariants.{Enter, Listen, Leave, Connect, Post, Disconnect, Send, Reply, Decline, Take, ConnectNative, SendNative, HostTake, HostSaid, HostEnded}
use Rattle.wx_journal_text.specs.Text.{sized, target_text, call_text}
use Rattle.wx_journal_read.specs.Reading.{behind, both_at, sized_at}
use Rattle.wx_journal_read.specs.Fits.{TargetFits, CallFits}
use Rattle.wx_journal_read.specs.Grammar.{n64, sp, target_at, call_rows, port_call_rows, request_call_rows, native_call_rows, host_call_rows, call_at, port_call_at, request_call_at, native_call_at, host_call_at, connect_at, post_at, send_at, reply_at, send_native_at}
use Rattle.wx_journal_read.proofs.Fields.{Reads}
use Rattle.wx_journal_read.proofs.Combined.{Both, both_text, both_reads, choice_takes, choice_or_takes, Taking, just_row, mapped_row, row_again}
use Rattle.wx_journal_read.proofs.Parts.{Below, Passes, Again, num64, name_reads, json_reads, target_reads, context_reads, listens_reads}
use Rattle.wx_journal_read.proofs.Reasons.{reason_reads}

on_json : Reads (both_text sp decimal sized) (Both (Below (2 ^ 64)) IsJsonText) (both_at sp n64 (sized_at is_json_text))
on_json = both_reads sp num64 json_reads (λ b rest h. refl)

to_json : Reads (both_text sp target_text sized) (Both TargetFits IsJsonText) (both_at sp target_at (sized_at is_json_text))
to_json = both_reads sp target_reads json_reads (λ b rest h. refl)

to_name : Reads (both_text sp target_text sized) (Both TargetFits (Passes is_utf8)) (both_at sp target_at (sized_at is_utf8))
to_name = both_reads sp target_reads name_reads (λ b rest h. refl)

name_json : Reads (both_text sp sized sized) (Both (Passes is_utf8) IsJsonText) (both_at sp (sized_at is_utf8) (sized_at is_json_text))
name_json = both_reads sp name_reads json_reads (λ b rest h. refl)

call_again : Again call_text CallFits call_at
unfolding call_at port_call_at request_call_at native_call_at host_call_at connect_at post_at send_at reply_at send_native_at behind
call_again (Enter x) rest fits short ends = row_again call_text call_at (codes "enter ") Enter context_reads (λ bytes. refl) (λ p. refl) x rest fits short ends
call_again (Listen l) rest fits short ends = row_again call_text call_at (codes "listen ") Listen listens_reads (λ bytes. refl) (λ p. refl) l rest fits short ends
call_again Leave rest fits short ends = refl
call_again Take rest fits short ends = refl
call_again (Connect target name) rest fits short ends = row_again call_text call_at (codes "connect ") (λ p. Connect p.0 p.1) to_name (λ bytes. refl) (λ p. refl) (target, name) rest fits short ends
call_again (Post k text) rest fits short ends = row_again call_text call_at (codes "post ") (λ p. Post (record { 0 = p.0 }) p.1) on_json (λ bytes. refl) (λ p. refl) (k.0, text) rest fits short ends
call_again (Disconnect k) rest fits short ends = row_again call_text call_at (codes "disconnect ") (λ n. Disconnect (record { 0 = n })) num64 (λ bytes. refl) (λ p. refl) k.0 rest fits short ends
call_again (Send target text) rest fits short ends = row_again call_text call_at (codes "send ") (λ p. Send p.0 p.1) to_json (λ bytes. refl) (λ p. refl) (target, text) rest fits short ends
call_again (Reply r text) rest fits short ends = row_again call_text call_at (codes "reply ") (λ p. Reply (record { 0 = p.0 }) p.1) on_json (λ bytes. refl) (λ p. refl) (r.0, text) rest fits short ends
call_again (Decline r) rest fits short ends = row_again call_text call_at (codes "decline ") (λ n. Decline (record { 0 = n })) num64 (λ bytes. refl) (λ p. refl) r.0 rest fits short ends
call_again (ConnectNative name) rest fits short ends = row_again call_text call_at (codes "connect_native ") ConnectNative name_reads (λ bytes. refl) (λ p. refl) name rest fits short ends
call_again (SendNative name text) rest fits short ends = row_again call_text call_at (codes "send_native ") (λ p. SendNative p.0 p.1) name_json (λ bytes. refl) (λ p. refl) (name, text) rest fits short ends
call_again HostTake rest fits short ends = refl
call_again (HostSaid text) rest fits short ends = row_again call_text call_at (codes "host_said ") HostSaid json_reads (λ bytes. refl) (λ p. refl) text rest fits short ends
call_again (HostEnded reason) rest fits short ends = row_again call_text call_at (codes "host_ended ") HostEnded reason_reads (λ bytes. refl) (λ p. refl) reason rest fits short ends

host_call_takes : Taking call_text CallFits host_call_at
unfolding host_call_at
host_call_takes = choice_takes call_text CallFits host_call_rows (just_row (codes "host_take") HostTake tt refl, (mapped_row (codes "host_said ") HostSaid json_reads (λ p h. h) (λ p. refl), (mapped_row (codes "host_ended ") HostEnded reason_reads (λ p h. h) (λ p. refl), tt)))

native_call_takes : Taking call_text CallFits native_call_at
unfolding native_call_at send_native_at
native_call_takes = choice_or_takes call_text CallFits native_call_rows host_call_at (mapped_row (codes "connect_native ") ConnectNative name_reads (λ p h. h) (λ p. refl), (mapped_row (codes "send_native ") (λ p. SendNative p.0 p.1) name_json (λ p h. h) (λ p. refl), tt)) host_call_takes

request_call_takes : Taking call_text CallFits request_call_at
unfolding request_call_at send_at reply_at
request_call_takes = choice_or_takes call_text CallFits request_call_rows native_call_at (mapped_row (codes "send ") (λ p. Send p.0 p.1) to_json (λ p h. h) (λ p. refl), (mapped_row (codes "reply ") (λ p. Reply (record { 0 = p.0 }) p.1) on_json (λ p h. h) (λ p. refl), (mapped_row (codes "decline ") (λ n. Decline (record { 0 = n })) num64 (λ p h. h) (λ p. refl), tt))) native_call_takes

port_call_takes : Taking call_text CallFits port_call_at
unfolding port_call_at connect_at post_at
port_call_takes = choice_or_takes call_text CallFits port_call_rows request_call_at (mapped_row (codes "connect ") (λ p. Connect p.0 p.1) to_name (λ p h. h) (λ p. refl), (mapped_row (codes "post ") (λ p. Post (record { 0 = p.0 }) p.1) on_json (λ p h. h) (λ p. refl), (mapped_row (codes "disconnect ") (λ n. Disconnect (record { 0 = n })) num64 (λ p h. h) (λ p. refl), tt))) request_call_takes

call_takes : Taking call_text CallFits call_at
unfolding call_at
call_takes = choice_or_takes call_text CallFits call_rows port_call_at (mapped_row (codes "enter ") Enter context_reads (λ p h. h) (λ p. refl), (mapped_row (codes "listen ") Listen listens_reads (λ p h. h) (λ p. refl), (just_row (codes "leave") Leave tt refl, (just_row (codes "take") Take tt refl, tt)))) port_call_takes

pub call_reads : Reads call_text CallFits call_at
call_reads = record { takes = call_takes; again = call_again }
