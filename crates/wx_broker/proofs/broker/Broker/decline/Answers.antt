use Rattle.std.proofs.Common.{◌≡◌, ◌∙◌, sym, length, true, refl}
use Rattle.std.specs.Prelude.{reverse, slice_get}
use Rattle.std.proofs.lemmas.List.{length-reverse}
use Rattle.wx_id.specs.declared.numbers.EntryNo.{EntryNo}
use Rattle.wx_id.specs.declared.events.EventKind.TheVariants.{Closed}
use Rattle.wx_machine.specs.declared.entries.Answer.{Answer}
use Rattle.wx_machine.specs.declared.entries.Entry.{Entry}
use Rattle.wx_machine.specs.Words.{FollowsMachine}
use Rattle.wx_one_shot.specs.Requests.{without}
use Rattle.wx_tables.specs.State.{in_entry}
use Rattle.wx_tables.specs.Asking.{told_asker}
use Rattle.wx_broker.specs.Tables.{is_done}
use Rattle.wx_broker.proofs.KeptLater.{may_call}
use Rattle.wx_broker.proofs.RequestsLater.{decline_entry, done_standing, open_request_there}
use Rattle.wx_broker.proofs.DeclinedLater.{pending_declined}
use Rattle.wx_broker.proofs.KeptSetLater.{kept_open_declined}
use Rattle.wx_broker.proofs.ToldLater.{told_tables, same_length_if}
use Rattle.wx_broker.proofs.broker.Broker.decline.Goals as goal

pub decline-requires : goal.decline-requires
decline-requires c =
    let i = c.self.inside in
    done_standing (reverse i.journal.entries) c.args.c c.args.r.0 i.tables.requests c.decline_answer-answer.result
    (rw c.reserve.ensures.same at c.decline_answer-answer.ensures) c.self.invariant.kept.requests (sym c.is_done.ensures ∙ c.if-not-is_done.false)

pub invariant_of-self-3 : goal.invariant_of-self-3
invariant_of-self-3 c =
    let i = c.self.inside in
    let past = reverse i.journal.entries in
    let r = c.args.r in
    let answer : Answer = c.decline_answer-answer.result in
    let e : Entry = decline_entry c.args.c r answer in
    let n : EntryNo = record { 0 = c.len.result } in
    let follows : FollowsMachine i.world (reverse i.journal.entries) (decline_entry c.args.c c.args.r c.decline_answer-answer.result) = record { may = may_call (reverse i.journal.entries) c.args.c (rw (← c.self.view_is) at c.requires); answered = rw c.reserve.ensures.same at c.decline_answer-answer.ensures } in
    let done : is_done c.decline_answer-answer.result ≡ true = sym c.is_done.ensures ∙ c.if-not-is_done.false in
    let at : c.len.result ≡ length (reverse i.journal.entries) = (rw c.reserve.ensures.same at c.len.ensures) ∙ sym (length-reverse i.journal.entries) in
    told_tables i.world i.journal.entries c.push_reserved.new.self.entries e i.roster i.tables c.decline.new.self i.hosts.hosts c.self.invariant follows
    (rw c.reserve.ensures.same at c.push_reserved.ensures.entries) refl refl
    (rw c.decline.ensures.ports (kept_open_declined i.world i.journal.entries c.args.c r answer i.tables.ports i.tables.requests c.decline.new.self.requests c.self.invariant.kept follows done c.decline.ensures.requests))
    (same_length_if (slice_get i.tables.requests r.0) (λ asked. told_asker (without c.args.c asked).is_settled asked (in_entry n (Closed r))) i.tables.queues c.decline.new.self.queues
    (open_request_there (slice_get i.tables.requests r.0) c.args.c (done_standing past c.args.c r.0 i.tables.requests answer follows.answered c.self.invariant.kept.requests done))
    c.decline.ensures.queues)
    (pending_declined i.world past c.args.c r answer i.tables.requests i.tables.queues c.decline.new.self.queues n at (c.self.invariant.kept.legal, follows) c.self.invariant.kept.requests c.self.invariant.kept.awaited c.self.invariant.waits done c.decline.ensures.queues)
