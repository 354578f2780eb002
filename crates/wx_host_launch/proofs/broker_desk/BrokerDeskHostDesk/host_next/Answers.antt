use Rattle.std.proofs.Common.{◌≡◌, sym, ◌∙◌, subst, true}
use Rattle.std.specs.Prelude.{reverse}
use Rattle.wx_machine.specs.declared.entries.Call.TheVariants.{HostTake}
use Rattle.wx_broker.proofs.KeptLater.{may_take}
use Rattle.wx_desk.specs.BrokerDesks.{has_lent}
use Rattle.wx_host_launch.proofs.BrokerLemmas.{started, finds_no_news, takes_news, lent_taken, stays_sound}
use Rattle.wx_host_launch.proofs.broker_desk.BrokerDeskHostDesk.host_next.Goals as goal

pub returns-then-not-host_ready-clause-taken : goal.returns-then-not-host_ready-clause-taken
returns-then-not-host_ready-clause-taken c = finds_no_news c.args.self.now (sym c.host_ready.ensures ∙ c.if-not-host_ready.true)

pub host_take-requires : goal.host_take-requires
host_take-requires c = started c.args.self.now c.requires.sound

pub invariant_of-self-2 : goal.invariant_of-self-2
invariant_of-self-2 c =
    record { kept = subst (λ o. has_lent c.host_take.new.self o ≡ true) (sym c.lent_by-self.ensures) (lent_taken c.args.self.now c.host_take.new.self c.in_ok-answer.answer c.requires.sound c.in_ok-answer.ensures.ok) }

pub returns-clause-taken : goal.returns-clause-taken
returns-clause-taken c = takes_news c.args.self.now c.host_take.new.self c.in_ok-answer.answer (sym c.host_ready.ensures ∙ c.if-not-host_ready.false) c.in_ok-answer.ensures.ok

pub returns-clause-sound : goal.returns-clause-sound
returns-clause-sound c =
    let may = may_take (reverse c.args.self.now.broker.entries) c.args.self.now.host (started c.args.self.now c.requires.sound) in
    stays_sound c.args.self.now c.host_take.new.self HostTake c.host_take.result may c.requires.sound c.host_take.ensures.ok c.host_take.ensures.err
