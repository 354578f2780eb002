use Rattle.std.proofs.Common.{◌<◌, [], ◌∷◌}
use Rattle.std.specs.Prelude.{slice_get}
use Rattle.wx_mailbox.specs.Mailbox.{paid}
use Rattle.wx_tables.proofs.EndingLater.{live_apart, live_owed, opener_owed, still_has, opener_apart, ended_by_opener}
use Rattle.wx_tables.proofs.ending.end_by_opener.Goals as goal

pub pay-requires-clause-distinct : goal.pay-requires-clause-distinct
pay-requires-clause-distinct c = rw c.live-live.ensures.value (live_apart (slice_get c.args.ports.now c.args.k.0) c.live-live.ensures.sound)

pub pay-requires-clause-owed : goal.pay-requires-clause-owed
pay-requires-clause-owed c = rw c.live-live.ensures.value (live_owed (slice_get c.args.ports.now c.args.k.0) c.args.boxes.now.items c.requires.is_open c.requires.owed)

pub forgive-requires-clause-owed : goal.forgive-requires-clause-owed
forgive-requires-clause-owed c =
    still_has (paid c.args.e) (λ b. 0 < b.owed) c.live-live.result.now (c.args.opener ∷ []) c.args.boxes.now.items c.pay.new.boxes.items c.pay.ensures
    (rw c.live-live.ensures.value (opener_apart (slice_get c.args.ports.now c.args.k.0) c.args.opener c.live-live.ensures.sound c.requires.opener))
    (opener_owed (slice_get c.args.ports.now c.args.k.0) c.args.opener c.args.boxes.now.items c.requires.is_open c.requires.opener c.requires.owed)

pub returns : goal.returns
returns c =
    ended_by_opener (slice_get c.args.ports.now c.args.k.0) c.args.opener c.args.e c.args.boxes.now.items c.pay.new.boxes.items c.forgive.new.boxes.items c.requires.is_open c.live-live.ensures.sound c.requires.opener
    (rw c.live-live.ensures.value at c.pay.ensures) c.forgive.ensures
