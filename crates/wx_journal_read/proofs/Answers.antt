-- Answers are read as they are spelled.
use Rattle.std.proofs.Common.{◌≡◌, ℕ, ◌^◌, ◌<◌, List, ◌++◌, length, Some, refl}
use Rattle.std.specs.Prelude.{IsTrue, codes, decimal}
use Rattle.wx_id.specs.declared.events.EventKind.{EventKind}
use Rattle.wx_id.specs.declared.events.EventKind.TheVariants.{Connected, Message, Disconnected, Asked, Replied, Closed}
use Rattle.wx_external.specs.declared.gates.Rule.TheVariants.{Id, Url}
use Rattle.wx_machine.specs.declared.entries.Answer.TheVariants.{Entered, Channel as OnChannel, Request as OnRequest, Event as Told, Text as HasText, Done, Gone, BadTarget, Forbidden, NoReceiver, Posted, NoPort, PortClosed, TooLong, NoEffect, First, Late, NotYours, Empty, NoPermission, BadHostName, HostNotFound, HostForbidden, End as NoMore, Passed, Ignored, Already}
use Rattle.wx_journal_text.specs.Text.{rule_text, event_text, answer_text}
use Rattle.wx_journal_read.specs.Reading.{behind, both_at}
use Rattle.wx_journal_read.specs.Fits.{KindFits, AnswerFits}
use Rattle.wx_journal_read.specs.Grammar.{n64, sp, rule_rows, rule_at, answer_rows, channel_event_rows, request_event_rows, target_answer_rows, post_answer_rows, common_answer_rows, reply_answer_rows, native_answer_rows, installed_answer_rows, host_answer_rows, answer_at, channel_event_at, request_event_at, target_answer_at, post_answer_at, common_answer_at, reply_answer_at, native_answer_at, installed_answer_at, host_answer_at}
use Rattle.wx_journal_read.proofs.Fields.{Reads, ends_number}
use Rattle.wx_journal_read.proofs.Combined.{Both, both_text, both_reads, choice_takes, choice_or_takes, Taking, just_row, mapped_row, row_again}
use Rattle.wx_journal_read.proofs.Parts.{Below, Any, Again, num64}

rule_again : Again rule_text Any rule_at
unfolding rule_at behind
rule_again Id rest fits short ends = refl
rule_again Url rest fits short ends = refl

rule_takes : Taking rule_text Any rule_at
unfolding rule_at
rule_takes = choice_takes rule_text Any rule_rows (just_row (codes "id") Id tt refl, (just_row (codes "url") Url tt refl, tt))

pub rule_reads : Reads rule_text Any rule_at
rule_reads = record { takes = rule_takes; again = rule_again }

two_numbers : Reads (both_text sp decimal decimal) (Both (Below (2 ^ 64)) (Below (2 ^ 64))) (both_at sp n64 n64)
two_numbers = both_reads sp num64 num64 (λ b rest h. refl)

event_again : (kind : EventKind) (e : ℕ) (rest : List ℕ) → KindFits kind → e < 2 ^ 64 → length (event_text kind e ++ rest) < 2 ^ 64 → IsTrue (ends_number rest)
    → answer_at (event_text kind e ++ rest) ≡ Some (Told (record { entry = record { 0 = e }; kind = kind }), rest)
unfolding answer_at channel_event_at request_event_at behind
event_again (Connected n) e rest fits small short ends = row_again answer_text answer_at (codes "connected ") (λ p. Told (record { entry = record { 0 = p.1 }; kind = Connected (record { 0 = p.0 }) })) two_numbers (λ bytes. refl) (λ p. refl) (n.0, e) rest (fits, small) short ends
event_again (Message n) e rest fits small short ends = row_again answer_text answer_at (codes "message ") (λ p. Told (record { entry = record { 0 = p.1 }; kind = Message (record { 0 = p.0 }) })) two_numbers (λ bytes. refl) (λ p. refl) (n.0, e) rest (fits, small) short ends
event_again (Disconnected n) e rest fits small short ends = row_again answer_text answer_at (codes "disconnected ") (λ p. Told (record { entry = record { 0 = p.1 }; kind = Disconnected (record { 0 = p.0 }) })) two_numbers (λ bytes. refl) (λ p. refl) (n.0, e) rest (fits, small) short ends
event_again (Asked n) e rest fits small short ends = row_again answer_text answer_at (codes "asked ") (λ p. Told (record { entry = record { 0 = p.1 }; kind = Asked (record { 0 = p.0 }) })) two_numbers (λ bytes. refl) (λ p. refl) (n.0, e) rest (fits, small) short ends
event_again (Replied n) e rest fits small short ends = row_again answer_text answer_at (codes "replied ") (λ p. Told (record { entry = record { 0 = p.1 }; kind = Replied (record { 0 = p.0 }) })) two_numbers (λ bytes. refl) (λ p. refl) (n.0, e) rest (fits, small) short ends
event_again (Closed n) e rest fits small short ends = row_again answer_text answer_at (codes "closed ") (λ p. Told (record { entry = record { 0 = p.1 }; kind = Closed (record { 0 = p.0 }) })) two_numbers (λ bytes. refl) (λ p. refl) (n.0, e) rest (fits, small) short ends

answer_again : Again answer_text AnswerFits answer_at
unfolding answer_at channel_event_at request_event_at target_answer_at post_answer_at common_answer_at reply_answer_at native_answer_at installed_answer_at host_answer_at behind
answer_again (Entered n) rest fits short ends = row_again answer_text answer_at (codes "context ") (λ n. Entered (record { 0 = n })) num64 (λ bytes. refl) (λ p. refl) n.0 rest fits short ends
answer_again (OnChannel n) rest fits short ends = row_again answer_text answer_at (codes "channel ") (λ n. OnChannel (record { 0 = n })) num64 (λ bytes. refl) (λ p. refl) n.0 rest fits short ends
answer_again (OnRequest n) rest fits short ends = row_again answer_text answer_at (codes "request ") (λ n. OnRequest (record { 0 = n })) num64 (λ bytes. refl) (λ p. refl) n.0 rest fits short ends
answer_again (HasText n) rest fits short ends = row_again answer_text answer_at (codes "text ") (λ n. HasText (record { 0 = n })) num64 (λ bytes. refl) (λ p. refl) n.0 rest fits short ends
answer_again (Told event) rest fits short ends = event_again event.kind event.entry.0 rest fits.0 fits.1 short ends
answer_again BadTarget rest fits short ends = refl
answer_again (Forbidden rule) rest fits short ends = row_again answer_text answer_at (codes "forbidden ") Forbidden rule_reads (λ bytes. refl) (λ p. refl) rule rest tt short ends
answer_again NoReceiver rest fits short ends = refl
answer_again Posted rest fits short ends = refl
answer_again NoPort rest fits short ends = refl
answer_again PortClosed rest fits short ends = refl
answer_again Done rest fits short ends = refl
answer_again Gone rest fits short ends = refl
answer_again Empty rest fits short ends = refl
answer_again TooLong rest fits short ends = refl
answer_again NoEffect rest fits short ends = refl
answer_again First rest fits short ends = refl
answer_again Late rest fits short ends = refl
answer_again NotYours rest fits short ends = refl
answer_again NoPermission rest fits short ends = refl
answer_again BadHostName rest fits short ends = refl
answer_again HostNotFound rest fits short ends = refl
answer_again HostForbidden rest fits short ends = refl
answer_again NoMore rest fits short ends = refl
answer_again Passed rest fits short ends = refl
answer_again Ignored rest fits short ends = refl
answer_again Already rest fits short ends = refl

host_answer_takes : Taking answer_text AnswerFits host_answer_at
unfolding host_answer_at
host_answer_takes = choice_takes answer_text AnswerFits host_answer_rows (just_row (codes "end") NoMore tt refl, (just_row (codes "passed") Passed tt refl, (just_row (codes "ignored") Ignored tt refl, (just_row (codes "already") Already tt refl, tt))))

installed_answer_takes : Taking answer_text AnswerFits installed_answer_at
unfolding installed_answer_at
installed_answer_takes = choice_or_takes answer_text AnswerFits installed_answer_rows host_answer_at (just_row (codes "host_not_found") HostNotFound tt refl, (just_row (codes "host_forbidden") HostForbidden tt refl, tt)) host_answer_takes

native_answer_takes : Taking answer_text AnswerFits native_answer_at
unfolding native_answer_at
native_answer_takes = choice_or_takes answer_text AnswerFits native_answer_rows installed_answer_at (just_row (codes "no_permission") NoPermission tt refl, (just_row (codes "bad_host_name") BadHostName tt refl, tt)) installed_answer_takes

reply_answer_takes : Taking answer_text AnswerFits reply_answer_at
unfolding reply_answer_at
reply_answer_takes = choice_or_takes answer_text AnswerFits reply_answer_rows native_answer_at (just_row (codes "first") First tt refl, (just_row (codes "late") Late tt refl, (just_row (codes "not_yours") NotYours tt refl, tt))) native_answer_takes

common_answer_takes : Taking answer_text AnswerFits common_answer_at
unfolding common_answer_at
common_answer_takes = choice_or_takes answer_text AnswerFits common_answer_rows reply_answer_at (just_row (codes "done") Done tt refl, (just_row (codes "gone") Gone tt refl, (just_row (codes "empty") Empty tt refl, (just_row (codes "too_long") TooLong tt refl, (just_row (codes "no_effect") NoEffect tt refl, tt))))) reply_answer_takes

post_answer_takes : Taking answer_text AnswerFits post_answer_at
unfolding post_answer_at
post_answer_takes = choice_or_takes answer_text AnswerFits post_answer_rows common_answer_at (just_row (codes "posted") Posted tt refl, (just_row (codes "no_port") NoPort tt refl, (just_row (codes "port_closed") PortClosed tt refl, tt))) common_answer_takes

target_answer_takes : Taking answer_text AnswerFits target_answer_at
unfolding target_answer_at
target_answer_takes = choice_or_takes answer_text AnswerFits target_answer_rows post_answer_at (just_row (codes "bad_target") BadTarget tt refl, (mapped_row (codes "forbidden ") Forbidden rule_reads (λ p h. tt) (λ p. refl), (just_row (codes "no_receiver") NoReceiver tt refl, tt))) post_answer_takes

request_event_takes : Taking answer_text AnswerFits request_event_at
unfolding request_event_at
request_event_takes = choice_or_takes answer_text AnswerFits request_event_rows target_answer_at (mapped_row (codes "asked ") (λ p. Told (record { entry = record { 0 = p.1 }; kind = Asked (record { 0 = p.0 }) })) two_numbers (λ p h. h) (λ p. refl), (mapped_row (codes "replied ") (λ p. Told (record { entry = record { 0 = p.1 }; kind = Replied (record { 0 = p.0 }) })) two_numbers (λ p h. h) (λ p. refl), (mapped_row (codes "closed ") (λ p. Told (record { entry = record { 0 = p.1 }; kind = Closed (record { 0 = p.0 }) })) two_numbers (λ p h. h) (λ p. refl), tt))) target_answer_takes

channel_event_takes : Taking answer_text AnswerFits channel_event_at
unfolding channel_event_at
channel_event_takes = choice_or_takes answer_text AnswerFits channel_event_rows request_event_at (mapped_row (codes "connected ") (λ p. Told (record { entry = record { 0 = p.1 }; kind = Connected (record { 0 = p.0 }) })) two_numbers (λ p h. h) (λ p. refl), (mapped_row (codes "message ") (λ p. Told (record { entry = record { 0 = p.1 }; kind = Message (record { 0 = p.0 }) })) two_numbers (λ p h. h) (λ p. refl), (mapped_row (codes "disconnected ") (λ p. Told (record { entry = record { 0 = p.1 }; kind = Disconnected (record { 0 = p.0 }) })) two_numbers (λ p h. h) (λ p. refl), tt))) request_event_takes

answer_takes : Taking answer_text AnswerFits answer_at
unfolding answer_at
answer_takes = choice_or_takes answer_text AnswerFits answer_rows channel_event_at (mapped_row (codes "context ") (λ n. Entered (record { 0 = n })) num64 (λ p h. h) (λ p. refl), (mapped_row (codes "channel ") (λ n. OnChannel (record { 0 = n })) num64 (λ p h. h) (λ p. refl), (mapped_row (codes "request ") (λ n. OnRequest (record { 0 = n })) num64 (λ p h. h) (λ p. refl), (mapped_row (codes "text ") (λ n. HasText (record { 0 = n })) num64 (λ p h. h) (λ p. refl), tt)))) channel_event_takes

pub answer_reads : Reads answer_text AnswerFits answer_at
answer_reads = record { takes = answer_takes; again = answer_again }
