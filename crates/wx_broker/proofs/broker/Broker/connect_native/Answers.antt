use Rattle.std.proofs.Common.{◌≡◌, ℕ, ◌≤◌, ◌∙◌, sym, ap, length, true, arith}
use Rattle.std.specs.Prelude.{reverse}
use Rattle.wx_id.specs.declared.numbers.ChannelNo.{ChannelNo}
use Rattle.wx_machine.specs.declared.entries.Answer.TheVariants.{Channel as OnChannel}
use Rattle.wx_machine.specs.declared.work.Work.TheVariants.{Channel as ForChannel}
use Rattle.wx_machine.specs.Words.{channels, context_of, is_live, FollowsMachine}
use Rattle.wx_broker.specs.Tables.{is_channel}
use Rattle.wx_broker.specs.Views.{view_for}
use Rattle.wx_broker.proofs.KeptLater.{may_call, ok_holds}
use Rattle.wx_broker.proofs.PortsLater.{channels_counted}
use Rattle.wx_broker.proofs.HostReadings.{new_on_channel}
use Rattle.wx_broker.proofs.NativeStartsLater.{connected_entry}
use Rattle.wx_broker.proofs.StartedLater.{connect_given, start_work, told_connected_native}
use Rattle.wx_broker.proofs.broker.Broker.connect_native.Goals as goal

pub new_host-requires : goal.new_host-requires
new_host-requires c =
    let i = c.self.inside in
    let past = reverse i.journal.entries in
    let opens : is_channel c.connect_native_answer-answer.result ≡ true = sym c.is_channel.ensures ∙ c.if-not-is_channel.false in
    rw c.reserve.ensures.same (connect_given i.world (is_live past c.args.c) (context_of past c.args.c) c.args.name (OnChannel (record { 0 = length (channels past) })) c.connect_native_answer-answer.result (rw c.reserve.ensures.same at c.connect_native_answer-answer.ensures) opens).0

pub start-requires-clause-new : goal.start-requires-clause-new
start-requires-clause-new c =
    let i = c.self.inside in
    let past = reverse i.journal.entries in
    let k : ChannelNo = record { 0 = c.channels.result } in
    let number : c.channels.result ≡ length (channels past) = c.channels.ensures ∙ channels_counted past i.tables.ports c.self.invariant.kept.channels in
    let next : length (channels past) ≤ c.channels.result = omega (arith, number) in
    rw c.reserve-2.ensures.hosts (new_on_channel i.world past i.hosts.hosts c.in-Ok.host k c.self.invariant.kept.legal c.self.invariant.started
    (start_work (ForChannel k) (view_for i.world (context_of past c.args.c) c.args.name) c.in-Ok.host.start (rw c.reserve.ensures.same at c.in-Ok.ensures.start)) next)

pub invariant_of-self-4 : goal.invariant_of-self-4
invariant_of-self-4 c =
    let i = c.self.inside in
    let past = reverse i.journal.entries in
    let k : ChannelNo = record { 0 = c.channels.result } in
    let opens : is_channel c.connect_native_answer-answer.result ≡ true = sym c.is_channel.ensures ∙ c.if-not-is_channel.false in
    let number : c.channels.result ≡ length (channels past) = c.channels.ensures ∙ channels_counted past i.tables.ports c.self.invariant.kept.channels in
    let answered = rw c.reserve.ensures.same at c.connect_native_answer-answer.ensures in
    let next : OnChannel (record { 0 = length (channels past) }) ≡ OnChannel k = ap (λ (m : ℕ). OnChannel (record { 0 = m })) (sym number) in
    let is : c.connect_native_answer-answer.result ≡ OnChannel k = (connect_given i.world (is_live past c.args.c) (context_of past c.args.c) c.args.name (OnChannel (record { 0 = length (channels past) })) c.connect_native_answer-answer.result answered opens).1 ∙ next in
    let follows : FollowsMachine i.world past (connected_entry c.args.c c.args.name k) = record { may = may_call past c.args.c (rw (← c.self.view_is) at c.requires); answered = rw is at answered } in
    told_connected_native i.world i.journal.entries c.push_reserved.new.self.entries c.args.c c.args.name k i.roster i.tables c.connect_native.new.self i.hosts.hosts c.start.new.self.hosts c.in-Ok.host.start c.self.invariant follows
    (rw (c.reserve.ensures.same, is) at c.push_reserved.ensures.entries) number
    (rw c.reserve.ensures.same at c.in-Ok.ensures.start)
    (ok_holds c.connect_native.result c.connect_native.ensures.ports (sym c.is_err-3.ensures.value ∙ c.if-is_err-3.false))
    c.connect_native.ensures.requests c.connect_native.ensures.queues
    (rw (c.reserve-2.ensures.hosts, c.in-Ok.ensures.new) at c.start.ensures)
