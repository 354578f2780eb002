use Rattle.std.proofs.Common.{◌<◌, [], ◌∷◌}
use Rattle.std.specs.Prelude.{slice_get}
use Rattle.wx_one_shot.specs.Requests.{still_open_at}
use Rattle.wx_mailbox.specs.Mailbox.{told}
use Rattle.wx_tables.proofs.EndingLater.{still_has}
use Rattle.wx_tables.proofs.OpeningLater.{begun_by, opener_not_told}
use Rattle.wx_tables.proofs.opening.tell_asked.Goals as goal

pub tell-requires-clause-distinct : goal.tell-requires-clause-distinct
tell-requires-clause-distinct c = rw c.still_open-receivers.ensures c.requires.distinct

pub keep-requires-clause-room : goal.keep-requires-clause-room
keep-requires-clause-room c = still_has (told c.args.e) (λ b. 0 < b.room) c.still_open-receivers.result.now (c.args.asker ∷ []) c.args.boxes.now.items c.tell.new.boxes.items c.tell.ensures (rw c.still_open-receivers.ensures (opener_not_told c.args.asker (still_open_at (slice_get c.args.requests.now c.args.r.0)) c.requires.other)) c.requires.asker

pub returns : goal.returns
returns c = begun_by (told c.args.e) c.args.asker (still_open_at (slice_get c.args.requests.now c.args.r.0)) c.args.boxes.now.items c.tell.new.boxes.items c.keep.new.boxes.items c.requires.other (rw c.still_open-receivers.ensures at c.tell.ensures) c.keep.ensures
