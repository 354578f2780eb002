use Rattle.std.proofs.Common.{◌<◌, rules}
use Rattle.wx_port.specs.Numbers.{with_number, MayFollow}
use Rattle.wx_id.proofs.ByContextLemmas.{changed_none, comes_within, comes_with, step}
use Rattle.wx_port.proofs.own.add.Goals as goal

pub loop-c-init : goal.loop-c-init
loop-c-init c = changed_none (with_number c.args.k) c.args.own.now.items

pub index_mut-requires : goal.index_mut-requires
index_mut-requires c =
    let h = comes_within (with_number c.args.k) (MayFollow c.args.k) c.args.of.now c.loop-c.c-index (record { 0 = 0 }) c.args.own.now.items c.loop-c.own.items c.requires.distinct c.requires.follows c.loop-c.invariant c.loop-c-test.true in
    search rules

pub push-requires : goal.push-requires
push-requires c =
    comes_with (with_number c.args.k) (MayFollow c.args.k) c.args.of.now c.loop-c.c-index (record { 0 = 0 }) c.args.own.now.items c.loop-c.own.items c.index_mut.result.now c.requires.distinct c.requires.follows c.loop-c.invariant c.loop-c-test.true c.index_mut.ensures.value

pub loop-c-preserved : goal.loop-c-preserved
loop-c-preserved c =
    step (with_number c.args.k) (MayFollow c.args.k) c.args.of.now c.loop-c.c-index (record { 0 = 0 }) c.args.own.now.items c.loop-c.own.items c.index_mut.result.now c.push.new.self c.requires.distinct c.requires.follows c.loop-c.invariant c.loop-c-test.true c.index_mut.ensures.value c.push.ensures
