use Rattle.std.proofs.Common.{◌∙◌, sym}
use Rattle.std.specs.Prelude.{reverse}
use Rattle.wx_broker.proofs.KeptLater.{may_take}
use Rattle.wx_broker.proofs.HostCallsLater.{told_end, told_took}
use Rattle.wx_broker.proofs.broker.Broker.host_take.Goals as goal

pub invariant_of-self-then-is_text : goal.invariant_of-self-then-is_text
invariant_of-self-then-is_text c =
    let i = c.self.inside in
    told_took i.world i.journal.entries c.push_reserved.new.self.entries c.args.h c.host_take_answer-answer.result i.roster i.tables i.hosts.hosts c.take.new.self.hosts c.self.invariant
    (record { may = may_take (reverse i.journal.entries) c.args.h (rw (← c.self.view_is) at c.requires); answered = rw c.in_ok-reserve.ensures.same at c.host_take_answer-answer.ensures })
    (sym c.is_text.ensures ∙ c.if-is_text.true)
    (rw c.in_ok-reserve.ensures.same at c.push_reserved.ensures.entries)
    c.take.ensures.hosts c.take.ensures.count

pub invariant_of-self-3 : goal.invariant_of-self-3
invariant_of-self-3 c =
    let i = c.self.inside in
    told_end i.world i.journal.entries c.push_reserved-2.new.self.entries c.args.h c.host_take_answer-answer.result i.roster i.tables i.hosts.hosts c.learn_end.new.self.hosts c.self.invariant
    (record { may = may_take (reverse i.journal.entries) c.args.h (rw (← c.self.view_is) at c.requires); answered = rw c.in_ok-reserve.ensures.same at c.host_take_answer-answer.ensures })
    (sym c.is_text.ensures ∙ c.if-is_text.false)
    (sym c.is_empty.ensures ∙ c.if-is_empty.false)
    (rw c.in_ok-reserve.ensures.same at c.push_reserved-2.ensures.entries)
    c.learn_end.ensures.hosts c.learn_end.ensures.count
