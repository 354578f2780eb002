use Rattle.std.proofs.Common.{◌<◌, rules}
use Rattle.wx_mailbox.specs.Mailbox.{paid}
use Rattle.wx_id.proofs.ByContextLemmas.{changed_none, comes_within, comes_with, step}
use Rattle.wx_mailbox.proofs.mailboxes.pay.Goals as goal

pub loop-c-init : goal.loop-c-init
loop-c-init c = changed_none (paid c.args.e) c.args.boxes.now.items

pub index_mut-requires : goal.index_mut-requires
index_mut-requires c =
    let h = comes_within (paid c.args.e) (λ b. 0 < b.owed) c.args.to.now c.loop-c.c-index (record { 0 = 0 }) c.args.boxes.now.items c.loop-c.boxes.items c.requires.distinct c.requires.owed c.loop-c.invariant c.loop-c-test.true in
    search rules

pub put_owed-requires : goal.put_owed-requires
put_owed-requires c =
    comes_with (paid c.args.e) (λ b. 0 < b.owed) c.args.to.now c.loop-c.c-index (record { 0 = 0 }) c.args.boxes.now.items c.loop-c.boxes.items c.index_mut.result.now c.requires.distinct c.requires.owed c.loop-c.invariant c.loop-c-test.true c.index_mut.ensures.value

pub loop-c-preserved : goal.loop-c-preserved
loop-c-preserved c =
    step (paid c.args.e) (λ b. 0 < b.owed) c.args.to.now c.loop-c.c-index (record { 0 = 0 }) c.args.boxes.now.items c.loop-c.boxes.items c.index_mut.result.now c.put_owed.new.self c.requires.distinct c.requires.owed c.loop-c.invariant c.loop-c-test.true c.index_mut.ensures.value c.put_owed.ensures
