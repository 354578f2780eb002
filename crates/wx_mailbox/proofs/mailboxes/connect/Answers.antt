use Rattle.std.proofs.Common.{◌<◌, ◌-◌, length, get_or, ap, ◌∙◌, rules, arith}
use Rattle.wx_mailbox.specs.Mailbox.{connected, owing}
use Rattle.wx_id.proofs.ByContextLemmas.{changed_none, comes_within, comes_with, step}
use Rattle.wx_mailbox.proofs.mailboxes.connect.Goals as goal

pub loop-c-init : goal.loop-c-init
loop-c-init c = changed_none (connected c.args.e) c.args.boxes.now.items

pub index_mut-mailbox-requires : goal.index_mut-mailbox-requires
index_mut-mailbox-requires c =
    let h = comes_within (connected c.args.e) (λ b. 1 < b.room) c.args.to.now c.loop-c.c-index (record { 0 = 0 }) c.args.boxes.now.items c.loop-c.boxes.items c.requires.distinct c.requires.room c.loop-c.invariant c.loop-c-test.true in
    search rules

pub tell-requires : goal.tell-requires
tell-requires c = omega (arith, comes_with (connected c.args.e) (λ b. 1 < b.room) c.args.to.now c.loop-c.c-index (record { 0 = 0 }) c.args.boxes.now.items c.loop-c.boxes.items c.index_mut-mailbox.result.now c.requires.distinct c.requires.room c.loop-c.invariant c.loop-c-test.true c.index_mut-mailbox.ensures.value)

pub keep-requires : goal.keep-requires
keep-requires c =
    let h : 1 < c.index_mut-mailbox.result.now.room = comes_with (connected c.args.e) (λ b. 1 < b.room) c.args.to.now c.loop-c.c-index (record { 0 = 0 }) c.args.boxes.now.items c.loop-c.boxes.items c.index_mut-mailbox.result.now c.requires.distinct c.requires.room c.loop-c.invariant c.loop-c-test.true c.index_mut-mailbox.ensures.value in
    rw c.tell.ensures (omega (arith, h))

pub loop-c-preserved : goal.loop-c-preserved
loop-c-preserved c =
    step (connected c.args.e) (λ b. 1 < b.room) c.args.to.now c.loop-c.c-index (record { 0 = 0 }) c.args.boxes.now.items c.loop-c.boxes.items c.index_mut-mailbox.result.now c.keep.new.self c.requires.distinct c.requires.room c.loop-c.invariant c.loop-c-test.true c.index_mut-mailbox.ensures.value
    (c.keep.ensures ∙ ap owing c.tell.ensures)
