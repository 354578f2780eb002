use Rattle.std.proofs.Common.{◌≡◌, ◌∙◌, sym, length, true}
use Rattle.std.specs.Prelude.{reverse}
use Rattle.std.proofs.lemmas.List.{length-reverse}
use Rattle.wx_machine.specs.declared.sorts.Sort.TheVariants.{Connection}
use Rattle.wx_machine.specs.declared.entries.Who.TheVariants.{Context as ByContext}
use Rattle.wx_machine.specs.declared.entries.Call.TheVariants.{Connect}
use Rattle.wx_machine.specs.Words.{FollowsMachine}
use Rattle.wx_broker.specs.Tables.{is_channel}
use Rattle.wx_broker.proofs.KeptLater.{may_call}
use Rattle.wx_broker.proofs.NumbersLater.{receivers_distinct, caller_apart}
use Rattle.wx_broker.proofs.ConnectedLater.{told_connected}
use Rattle.wx_broker.proofs.OpenedLater.{all_there}
use Rattle.wx_broker.proofs.broker.Broker.connect.Goals as goal

pub connect-requires-clause-distinct : goal.connect-requires-clause-distinct
connect-requires-clause-distinct c =
    let i = c.self.inside in
    rw (c.in-Ok.ensures, c.reserve.ensures.same) (receivers_distinct i.world (reverse i.journal.entries) c.args.c c.args.target Connection c.self.invariant.kept.legal)

pub connect-requires-clause-other : goal.connect-requires-clause-other
connect-requires-clause-other c =
    let i = c.self.inside in
    rw (c.in-Ok.ensures, c.reserve.ensures.same) (caller_apart (reverse i.journal.entries) c.args.c c.args.target Connection)

pub connect-requires-clause-there : goal.connect-requires-clause-there
connect-requires-clause-there c =
    let i = c.self.inside in
    all_there i.world (reverse i.journal.entries) c.args.c c.args.target Connection c.in-Ok.found.items i.roster i.tables.queues c.self.invariant.kept.legal
    (rw c.reserve.ensures.same at c.in-Ok.ensures)
    c.self.invariant.count c.self.invariant.there (rw (← c.self.view_is) at c.requires)

pub invariant_of-self-4 : goal.invariant_of-self-4
invariant_of-self-4 c =
    let i = c.self.inside in
    let follows : FollowsMachine i.world (reverse i.journal.entries) (record { who = ByContext c.args.c; call = Connect c.args.target c.args.name; answer = c.connect_answer-answer.result }) = record { may = may_call (reverse i.journal.entries) c.args.c (rw (← c.self.view_is) at c.requires); answered = rw c.reserve.ensures.same at c.connect_answer-answer.ensures } in
    let opens : is_channel c.connect_answer-answer.result ≡ true = sym c.is_channel.ensures ∙ c.if-not-is_channel.false in
    let at : c.len.result ≡ length (reverse i.journal.entries) = (rw c.reserve.ensures.same at c.len.ensures) ∙ sym (length-reverse i.journal.entries) in
    told_connected i.world i.journal.entries c.push_reserved.new.self.entries c.args.c c.args.target c.args.name c.connect_answer-answer.result c.in-Ok.found.items i.roster i.tables c.connect.new.self i.hosts.hosts (record { 0 = c.len.result }) c.connect.result c.self.invariant follows opens
    (rw c.reserve.ensures.same at c.push_reserved.ensures.entries) at
    (rw c.reserve.ensures.same at c.in-Ok.ensures)
    (sym c.is_err-2.ensures.value ∙ c.if-is_err-2.false)
    c.connect.ensures.number c.connect.ensures.ports c.connect.ensures.requests c.connect.ensures.queues
