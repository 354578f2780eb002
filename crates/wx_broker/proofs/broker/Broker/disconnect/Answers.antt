use Rattle.std.proofs.Common.{◌≡◌, ◌∙◌, refl, sym, length, true}
use Rattle.std.specs.Prelude.{reverse, slice_get}
use Rattle.std.proofs.lemmas.List.{length-reverse}
use Rattle.wx_id.specs.declared.numbers.EntryNo.{EntryNo}
use Rattle.wx_id.specs.declared.events.EventKind.TheVariants.{Disconnected}
use Rattle.wx_machine.specs.Words.{FollowsMachine}
use Rattle.wx_tables.specs.Ending.{parted}
use Rattle.wx_tables.specs.State.{in_entry}
use Rattle.wx_broker.specs.Tables.{is_done}
use Rattle.wx_broker.proofs.KeptLater.{may_call}
use Rattle.wx_broker.proofs.PortsLater.{disconnect_entry, done_open, open_there}
use Rattle.wx_broker.proofs.KeptSetLater.{kept_parted}
use Rattle.wx_broker.proofs.PartedLater.{done_live, pending_disconnected}
use Rattle.wx_broker.proofs.ToldLater.{told_tables, same_length_if}
use Rattle.wx_broker.proofs.broker.Broker.disconnect.Goals as goal

pub disconnect-requires : goal.disconnect-requires
disconnect-requires c =
    let i = c.self.inside in
    done_live (reverse i.journal.entries) c.args.c c.args.k.0 i.tables.ports c.disconnect_answer-answer.result
    (rw c.reserve.ensures.same at c.disconnect_answer-answer.ensures) c.self.invariant.kept.channels
    (sym c.is_done.ensures ∙ c.if-not-is_done.false)

pub invariant_of-self-3 : goal.invariant_of-self-3
invariant_of-self-3 c =
    let i = c.self.inside in
    let answer = c.disconnect_answer-answer.result in
    let e = disconnect_entry c.args.c c.args.k answer in
    let n : EntryNo = record { 0 = c.len.result } in
    let at : n.0 ≡ length (reverse i.journal.entries) = rw c.reserve.ensures.same at c.len.ensures ∙ sym (length-reverse i.journal.entries) in
    let follows : FollowsMachine i.world (reverse i.journal.entries) e = record { may = may_call (reverse i.journal.entries) c.args.c (rw (← c.self.view_is) at c.requires); answered = rw c.reserve.ensures.same at c.disconnect_answer-answer.ensures } in
    let done : is_done answer ≡ true = sym c.is_done.ensures ∙ c.if-not-is_done.false in
    let grown = rw c.reserve.ensures.same at c.push_reserved.ensures.entries in
    told_tables i.world i.journal.entries c.push_reserved.new.self.entries e i.roster i.tables c.disconnect.new.self i.hosts.hosts
    c.self.invariant follows grown refl refl
    (rw c.disconnect.ensures.requests (kept_parted i.world i.journal.entries c.args.c c.args.k answer i.tables.ports c.disconnect.new.self.ports i.tables.requests c.self.invariant.kept follows done c.disconnect.ensures.ports))
    (same_length_if (slice_get i.tables.ports c.args.k.0) (λ port. parted port c.args.c c.args.k.0 (in_entry n (Disconnected c.args.k))) i.tables.queues c.disconnect.new.self.queues
    (open_there (slice_get i.tables.ports c.args.k.0) (done_open (reverse i.journal.entries) c.args.c c.args.k.0 i.tables.ports answer follows.answered c.self.invariant.kept.channels done))
    c.disconnect.ensures.queues)
    (pending_disconnected i.world (reverse i.journal.entries) c.args.c c.args.k answer i.tables.ports i.tables.queues c.disconnect.new.self.queues n at (c.self.invariant.kept.legal, follows) c.self.invariant.kept.channels c.self.invariant.waits done c.disconnect.ensures.queues)
