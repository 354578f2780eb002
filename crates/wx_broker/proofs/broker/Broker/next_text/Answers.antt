use Rattle.std.proofs.Common.{◌∙◌, sym}
use Rattle.std.specs.Prelude.{reverse}
use Rattle.wx_machine.specs.Words.{next_text}
use Rattle.wx_broker.proofs.HostsLater.{text_told_is}
use Rattle.wx_broker.proofs.HostReadings.{rows_next}
use Rattle.wx_broker.proofs.broker.Broker.next_text.Goals as goal

pub returns-clause-value : goal.returns-clause-value
returns-clause-value c =
    let i = c.self.inside in
    rw (← c.self.view_is) (c.next_text.ensures ∙ rows_next i.world (reverse i.journal.entries) i.hosts.hosts c.args.h c.self.invariant.kept.legal c.self.invariant.started)

pub returns-clause-told : goal.returns-clause-told
returns-clause-told c =
    let i = c.self.inside in
    rw (← c.self.view_is) (c.next_text.ensures ∙ rows_next i.world (reverse i.journal.entries) i.hosts.hosts c.args.h c.self.invariant.kept.legal c.self.invariant.started
    ∙ sym (text_told_is (next_text (reverse i.journal.entries) c.args.h) _))
