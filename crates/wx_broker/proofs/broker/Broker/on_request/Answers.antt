use Rattle.std.proofs.Common.{◌≡◌, ◌∙◌, true, cond, sym}
use Rattle.std.specs.Prelude.{reverse, slice_get}
use Rattle.wx_machine.specs.declared.entries.Answer.TheVariants.{Gone}
use Rattle.wx_machine.specs.Words.{is_live}
use Rattle.wx_one_shot.specs.Requests.{standing_at}
use Rattle.wx_broker.specs.Tables.{on_standing}
use Rattle.wx_broker.proofs.RequestsLater.{answered_on}
use Rattle.wx_broker.proofs.broker.Broker.on_request.Goals as goal

pub returns : goal.returns
returns c =
    let i = c.self.inside in
    let past = reverse i.journal.entries in
    let live : is_live (reverse i.journal.entries) c.args.c ≡ true = rw (← c.self.view_is) at (sym c.is_live.ensures ∙ c.if-not-is_live.false) in
    let told : c.on_standing.result ≡ cond (is_live (reverse i.journal.entries) c.args.c) (on_standing (standing_at (slice_get i.tables.requests c.args.r.0) c.args.c) c.args.answer) Gone = rw (live, ← c.standing.ensures) c.on_standing.ensures in
    rw (← c.self.view_is) (told ∙ answered_on past i.tables.requests c.args.r.0 c.args.c c.args.answer c.self.invariant.kept.requests)
