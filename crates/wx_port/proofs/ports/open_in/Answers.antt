use Rattle.std.proofs.Common.{◌≡◌, subst}
use Rattle.wx_id.specs.ByContext.{Changed}
use Rattle.wx_port.specs.Numbers.{with_number}
use Rattle.wx_port.proofs.KeptLater.{kept_opened, live_opened, receivers_follow, opener_follows}
use Rattle.wx_port.proofs.ports.open_in.Goals as goal

pub add-requires-clause-follows : goal.add-requires-clause-follows
add-requires-clause-follows c =
    let live = live_opened c.args.table.now c.open.new.self c.args.opener c.args.receivers.items c.live.result.now c.in-Ok.k.0 c.in-Ok.ensures.number c.in-Ok.ensures.ok c.live.ensures.value in
    receivers_follow c.args.table.now c.args.own.now.items c.args.receivers.items c.live.result.now c.in-Ok.k.0 c.requires.kept c.requires.receivers_room c.in-Ok.ensures.number live

pub add-requires-in-Ok-clause-follows : goal.add-requires-in-Ok-clause-follows
add-requires-in-Ok-clause-follows c =
    let live = live_opened c.args.table.now c.open.new.self c.args.opener c.args.receivers.items c.live.result.now c.in-Ok.k.0 c.in-Ok.ensures.number c.in-Ok.ensures.ok c.live.ensures.value in
    opener_follows c.args.table.now c.args.own.now.items c.add.new.own.items c.args.opener c.args.receivers.items c.live.result.now c.in-Ok.k.0 c.requires.kept c.requires.opener c.requires.opener_room c.in-Ok.ensures.number live c.add.ensures

pub returns-in-Ok-clause-kept : goal.returns-in-Ok-clause-kept
returns-in-Ok-clause-kept c =
    let live = live_opened c.args.table.now c.open.new.self c.args.opener c.args.receivers.items c.live.result.now c.in-Ok.k.0 c.in-Ok.ensures.number c.in-Ok.ensures.ok c.live.ensures.value in
    kept_opened c.args.table.now c.open.new.self c.args.own.now.items c.add.new.own.items c.add-in-Ok.new.own.items c.args.opener c.args.receivers.items c.in-Ok.k.0 c.requires.distinct c.requires.opener c.requires.kept c.requires.opener_room c.requires.receivers_room c.in-Ok.ensures.number c.in-Ok.ensures.ok
    (subst (λ l. Changed (with_number c.in-Ok.k.0) l c.args.own.now.items c.add.new.own.items) live c.add.ensures) c.add-in-Ok.ensures
