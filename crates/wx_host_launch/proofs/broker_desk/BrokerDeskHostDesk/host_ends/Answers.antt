use Rattle.std.proofs.Common.{sym, ◌∙◌}
use Rattle.std.specs.Prelude.{reverse}
use Rattle.wx_machine.specs.declared.entries.Call.TheVariants.{HostEnded}
use Rattle.wx_broker.proofs.KeptLater.{may_end}
use Rattle.wx_host_launch.proofs.BrokerLemmas.{started, finds_text, is_left, none_left, ends_over, stays_sound, lends_on}
use Rattle.wx_host_launch.proofs.broker_desk.BrokerDeskHostDesk.host_ends.Goals as goal

pub returns-then-is_some-clause-made : goal.returns-then-is_some-clause-made
returns-then-is_some-clause-made c = finds_text c.args.self.now (is_left _ _ c.next_text.ensures.value (sym c.is_some.ensures ∙ c.if-is_some.true))

pub host_ended-requires : goal.host_ended-requires
host_ended-requires c = started c.args.self.now c.requires.sound

pub invariant_of-self-2 : goal.invariant_of-self-2
invariant_of-self-2 c = record { kept = lends_on c.args.self.now c.host_ended.new.self (HostEnded c.args.reason) c.host_ended.result c.host_ended.ensures.ok c.host_ended.ensures.err }

pub returns-clause-made : goal.returns-clause-made
returns-clause-made c =
    ends_over c.args.self.now c.host_ended.new.self c.args.reason c.in_ok-host_ended.field-0 (none_left _ _ c.next_text.ensures.value (sym c.is_some.ensures ∙ c.if-is_some.false)) c.in_ok-host_ended.ensures.ok

pub returns-clause-sound : goal.returns-clause-sound
returns-clause-sound c =
    let may = may_end (reverse c.args.self.now.broker.entries) c.args.self.now.host c.args.reason (started c.args.self.now c.requires.sound) in
    stays_sound c.args.self.now c.host_ended.new.self (HostEnded c.args.reason) c.host_ended.result may c.requires.sound c.host_ended.ensures.ok c.host_ended.ensures.err
