use Rattle.std.proofs.Common.{◌≡◌, ◌∙◌, sym, length, true, refl}
use Rattle.std.specs.Prelude.{reverse, slice_get}
use Rattle.std.proofs.lemmas.List.{length-reverse}
use Rattle.wx_id.specs.declared.numbers.EntryNo.{EntryNo}
use Rattle.wx_id.specs.declared.events.EventKind.TheVariants.{Replied}
use Rattle.wx_machine.specs.declared.entries.Answer.{Answer}
use Rattle.wx_machine.specs.declared.entries.Entry.{Entry}
use Rattle.wx_machine.specs.Words.{FollowsMachine}
use Rattle.wx_tables.specs.State.{in_entry}
use Rattle.wx_tables.specs.Asking.{told_asker}
use Rattle.wx_broker.specs.Tables.{is_first}
use Rattle.wx_broker.proofs.KeptLater.{may_call}
use Rattle.wx_broker.proofs.RequestsLater.{first_unsettled, reply_entry, unsettled_there}
use Rattle.wx_broker.proofs.KeptSetLater.{kept_first}
use Rattle.wx_broker.proofs.RepliedLater.{pending_replied}
use Rattle.wx_broker.proofs.ToldLater.{told_tables, same_length_if}
use Rattle.wx_broker.proofs.broker.Broker.reply.Goals as goal

pub invariant_of-self-3 : goal.invariant_of-self-3
invariant_of-self-3 c =
    let i = c.self.inside in
    let past = reverse i.journal.entries in
    let r = c.args.r in
    let answer : Answer = c.reply_answer-answer.result in
    let e : Entry = reply_entry c.args.c r c.args.text answer in
    let n : EntryNo = record { 0 = c.len.result } in
    let follows : FollowsMachine i.world (reverse i.journal.entries) (reply_entry c.args.c c.args.r c.args.text c.reply_answer-answer.result) = record { may = may_call (reverse i.journal.entries) c.args.c (rw (← c.self.view_is) at c.requires); answered = rw c.reserve.ensures.same at c.reply_answer-answer.ensures } in
    let first : is_first c.reply_answer-answer.result ≡ true = sym c.is_first.ensures ∙ c.if-not-is_first.false in
    let at : c.len.result ≡ length (reverse i.journal.entries) = (rw c.reserve.ensures.same at c.len.ensures) ∙ sym (length-reverse i.journal.entries) in
    told_tables i.world i.journal.entries c.push_reserved.new.self.entries e i.roster i.tables c.reply.new.self i.hosts.hosts c.self.invariant follows
    (rw c.reserve.ensures.same at c.push_reserved.ensures.entries) refl refl
    (rw c.reply.ensures.ports (kept_first i.world i.journal.entries c.args.c r c.args.text answer i.tables.ports i.tables.requests c.reply.new.self.requests c.self.invariant.kept follows first c.reply.ensures.requests))
    (same_length_if (slice_get i.tables.requests r.0) (λ asked. told_asker true asked (in_entry n (Replied r))) i.tables.queues c.reply.new.self.queues
    (unsettled_there (slice_get i.tables.requests r.0) (first_unsettled past c.args.c r.0 c.args.text i.tables.requests answer follows.answered c.self.invariant.kept.requests first))
    c.reply.ensures.queues)
    (pending_replied i.world past c.args.c r c.args.text answer i.tables.requests i.tables.queues c.reply.new.self.queues n at (c.self.invariant.kept.legal, follows) c.self.invariant.kept.requests c.self.invariant.waits first c.reply.ensures.queues)
