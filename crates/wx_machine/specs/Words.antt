-- The words of the machine that other crates cite, so that each takes them with one line. (A type of the code can be
-- named only where it is declared.)
pub use Rattle.wx_machine.specs.Each.{EachAfter, first}
pub use Rattle.wx_machine.specs.Contexts.{brought, context_of, contexts, deaf, enters, extension_of, has_left, if_numbered, is_by, is_enter, is_leave}
pub use Rattle.wx_machine.specs.Contexts.{is_live, is_receiver, is_there, listens_of, numbers, numbers_of, reaches_from, receivers_of, same_context}
pub use Rattle.wx_machine.specs.Channels.{Ends, channel, channels, end_in, opened_by, opens}
pub use Rattle.wx_machine.specs.Requests.{Parties, asked_by, asks, is_asked, is_asker, request, requests}
pub use Rattle.wx_machine.specs.Hosts.{Start, hosts, is_by_host, is_for_channel, is_for_request, started_by, starts, work_in, work_of}
pub use Rattle.wx_machine.specs.Closing.{closed_at, closes, ends_by, ends_channel, has_live, is_closed, is_one, leaving}
pub use Rattle.wx_machine.specs.Settling.{ends_request, has_declined, has_open, is_decline, is_open_to, is_settled, settled_at, settles, settles_by}
pub use Rattle.wx_machine.specs.Texts.{has_ended, has_taken, is_host_end, is_over, is_text_for, knows_end, next_text}
pub use Rattle.wx_machine.specs.Texts.{said_closed, text_taken, texts_for, texts_left, texts_taken, was_said_closed}
pub use Rattle.wx_machine.specs.Events.{answered, asked, connected, delivered, disconnected, disconnected_on, drops_by, event_in, goes, goes_to, has_pending, host_disconnected}
pub use Rattle.wx_machine.specs.Events.{host_unanswered, is_dropped, is_of, is_receiving, is_waiting, marked, message, of_channels, of_requests, on, pending, queued}
pub use Rattle.wx_machine.specs.Events.{replied, said, same_event, same_kind, side_of, taken, tells, unanswered, unanswered_on, work_by}
pub use Rattle.wx_machine.specs.Answers.{FollowsMachine, IsLegal, answer_after, answer_of, at_end, gate_for, is_host_ready, is_late, is_news, is_of_host, made_of, may_make}
pub use Rattle.wx_machine.specs.Answers.{native_gate_for, on_request, said_for, text_or_end, told_or_empty, where_heard, where_native, where_open, where_short}
pub use Rattle.wx_machine.specs.Carried.{text_carried, text_in, text_of}
