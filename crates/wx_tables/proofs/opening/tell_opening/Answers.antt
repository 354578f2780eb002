use Rattle.std.proofs.Common.{◌<◌, [], ◌∷◌}
use Rattle.std.specs.Prelude.{slice_get}
use Rattle.wx_port.specs.Port.{live_of}
use Rattle.wx_mailbox.specs.Mailbox.{connected}
use Rattle.wx_tables.proofs.EndingLater.{live_apart, still_has}
use Rattle.wx_tables.proofs.OpeningLater.{begun_by, opener_not_told}
use Rattle.wx_tables.proofs.opening.tell_opening.Goals as goal

pub connect-requires-clause-distinct : goal.connect-requires-clause-distinct
connect-requires-clause-distinct c = rw c.live-live.ensures.value (live_apart (slice_get c.args.ports.now c.args.k.0) c.live-live.ensures.sound)

pub keep-requires-clause-room : goal.keep-requires-clause-room
keep-requires-clause-room c = still_has (connected c.args.e) (λ b. 0 < b.room) c.live-live.result.now (c.args.opener ∷ []) c.args.boxes.now.items c.connect.new.boxes.items c.connect.ensures (rw c.live-live.ensures.value (opener_not_told c.args.opener (live_of (slice_get c.args.ports.now c.args.k.0)) c.requires.other)) c.requires.opener

pub returns : goal.returns
returns c = begun_by (connected c.args.e) c.args.opener (live_of (slice_get c.args.ports.now c.args.k.0)) c.args.boxes.now.items c.connect.new.boxes.items c.keep.new.boxes.items c.requires.other (rw c.live-live.ensures.value at c.connect.ensures) c.keep.ensures
