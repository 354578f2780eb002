use Rattle.std.proofs.Common.{◌≡◌, ◌∙◌, sym, length}
use Rattle.std.specs.Prelude.{reverse}
use Rattle.wx_machine.specs.Words.{channels}
use Rattle.wx_broker.proofs.PortsLater.{channels_counted}
use Rattle.wx_broker.proofs.broker.Broker.connect_answer.Goals as goal

pub returns : goal.returns
returns c =
    let i = c.self.inside in
    let next : length (channels (reverse c.args.self.now.entries)) ≡ c.channels.result = rw (← c.self.view_is) (sym (channels_counted (reverse i.journal.entries) i.tables.ports c.self.invariant.kept.channels) ∙ sym c.channels.ensures) in
    rw next c.to_target.ensures
