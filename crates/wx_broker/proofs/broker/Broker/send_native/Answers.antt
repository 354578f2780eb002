use Rattle.std.proofs.Common.{◌≡◌, ℕ, ◌∙◌, sym, ap, length, true}
use Rattle.std.specs.Prelude.{reverse}
use Rattle.std.proofs.lemmas.List.{length-reverse}
use Rattle.wx_id.specs.declared.numbers.EntryNo.{EntryNo}
use Rattle.wx_id.specs.declared.numbers.RequestNo.{RequestNo}
use Rattle.wx_machine.specs.declared.entries.Answer.TheVariants.{Request as OnRequest}
use Rattle.wx_machine.specs.Words.{requests, context_of, is_live, FollowsMachine}
use Rattle.wx_broker.specs.Tables.{is_request}
use Rattle.wx_broker.proofs.KeptLater.{may_call, ok_holds}
use Rattle.wx_broker.proofs.RequestsLater.{requests_counted}
use Rattle.wx_broker.proofs.NativeStartsLater.{sent_entry}
use Rattle.wx_broker.proofs.StartedLater.{send_given, told_sent_native}
use Rattle.wx_broker.proofs.broker.Broker.send_native.Goals as goal

pub new_host-requires : goal.new_host-requires
new_host-requires c =
    let i = c.self.inside in
    let past = reverse i.journal.entries in
    let asks : is_request c.send_native_answer-answer.result ≡ true = sym c.is_request.ensures ∙ c.if-not-is_request.false in
    rw c.reserve.ensures.same (send_given i.world (is_live past c.args.c) (context_of past c.args.c) c.args.name c.args.text (OnRequest (record { 0 = length (requests past) })) c.send_native_answer-answer.result (rw c.reserve.ensures.same at c.send_native_answer-answer.ensures) asks).0

pub invariant_of-self-4 : goal.invariant_of-self-4
invariant_of-self-4 c =
    let i = c.self.inside in
    let past = reverse i.journal.entries in
    let r : RequestNo = record { 0 = c.requests.result } in
    let n : EntryNo = record { 0 = c.len.result } in
    let asks : is_request c.send_native_answer-answer.result ≡ true = sym c.is_request.ensures ∙ c.if-not-is_request.false in
    let number : c.requests.result ≡ length (requests past) = c.requests.ensures ∙ requests_counted past i.tables.requests c.self.invariant.kept.requests in
    let at : c.len.result ≡ length past = (rw c.reserve.ensures.same at c.len.ensures) ∙ sym (length-reverse i.journal.entries) in
    let answered = rw c.reserve.ensures.same at c.send_native_answer-answer.ensures in
    let next : OnRequest (record { 0 = length (requests past) }) ≡ OnRequest r = ap (λ (m : ℕ). OnRequest (record { 0 = m })) (sym number) in
    let is : c.send_native_answer-answer.result ≡ OnRequest r = (send_given i.world (is_live past c.args.c) (context_of past c.args.c) c.args.name c.args.text (OnRequest (record { 0 = length (requests past) })) c.send_native_answer-answer.result answered asks).1 ∙ next in
    let follows : FollowsMachine i.world past (sent_entry c.args.c c.args.name c.args.text r) = record { may = may_call past c.args.c (rw (← c.self.view_is) at c.requires); answered = rw is at answered } in
    told_sent_native i.world i.journal.entries c.push_reserved.new.self.entries c.args.c c.args.name c.args.text r n i.roster i.tables c.ask_native.new.self i.hosts.hosts c.start.new.self.hosts c.in-Ok.host.start c.self.invariant follows
    (rw (c.reserve.ensures.same, is) at c.push_reserved.ensures.entries) number at
    (rw c.reserve.ensures.same at c.in-Ok.ensures.start)
    c.ask_native.ensures.ports
    (ok_holds c.ask_native.result c.ask_native.ensures.requests (sym c.is_err-3.ensures.value ∙ c.if-is_err-3.false))
    c.ask_native.ensures.queues
    (rw (c.reserve-2.ensures.hosts, c.in-Ok.ensures.new) at c.start.ensures)
