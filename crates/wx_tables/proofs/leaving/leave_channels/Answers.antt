use Rattle.std.proofs.Common.{refl, rules, arith, ◌≤◌, ◌<◌, length, ◌≡◌, true, false, ℕ}
use Rattle.std.specs.Prelude.{Option, Some, None, ◌&&◌}
use Rattle.wx_id.specs.declared.numbers.ContextNo.{ContextNo}
use Rattle.wx_id.specs.declared.events.EventKind.{EventKind}
use Rattle.wx_id.specs.declared.events.EventKind.TheVariants.{Disconnected}
use Rattle.wx_id.specs.Contexts.{is_among}
use Rattle.wx_port.specs.Port.{Port, is_live_end, without}
use Rattle.wx_tables.specs.State.{queues_in}
use Rattle.wx_tables.specs.Ending.{other_side}
use Rattle.wx_tables.specs.Leaving.{closes_by, hears_end}
use Rattle.wx_tables.proofs.LoopLater.{left_more, left_all, told_more, told_all, live_within}
use Rattle.wx_tables.proofs.leaving.leave_channels.Goals as goal

abbrev ended_at : ℕ → EventKind
ended_at k = Disconnected (record { 0 = k })

silent : (c : ContextNo) (o : Option Port) (d : ContextNo) → is_live_end o c ≡ false → hears_end o c d ≡ false
silent c None d h = refl
silent c (Some port) d h = rw h refl

agree : (c : ContextNo) (port : Port) (d : ContextNo) → is_live_end (Some port) c ≡ true → hears_end (Some port) c d ≡ (closes_by port c && is_among (other_side port c) d)
agree c port d h = rw h refl

pub loop-k-preserved : goal.loop-k-preserved
loop-k-preserved c =
    let l = c.loop-k in
    let k = c.in-Some.k in
    let within : k.0 < length c.args.ports.now = live_within (λ o. is_live_end o c.args.c) (without c.args.c) refl l.from k.0 c.args.ports.now l.ports l.invariant.ports c.in-Some.ensures.live in
    let counted : c.count-count.result ≡ length c.args.ports.now = l.invariant.counted in
    record {
      owed = c.leave_channel.ensures.owed;
      counted = counted;
      within = omega (arith, within, counted);
      ports = left_more (λ o. is_live_end o c.args.c) (without c.args.c) refl l.from k.0 c.args.ports.now l.ports c.leave_channel.new.ports l.invariant.ports c.in-Some.ensures.from c.in-Some.ensures.live (λ j low high. c.in-Some.ensures.least j low high) c.leave_channel.ensures.ports;
      queues = told_more (λ o. is_live_end o c.args.c) (without c.args.c) (λ o d. hears_end o c.args.c d) ended_at refl (silent c.args.c) (λ port d. closes_by port c.args.c && is_among (other_side port c.args.c) d) (agree c.args.c) c.args.ports.now l.ports c.args.n l.from k.0 (queues_in c.args.boxes.now.items) (queues_in l.boxes.items) (queues_in c.leave_channel.new.boxes.items) l.invariant.ports c.in-Some.ensures.from c.in-Some.ensures.live (λ j low high. c.in-Some.ensures.least j low high) l.invariant.queues c.leave_channel.ensures.queues;
    }

pub returns-clause-ports : goal.returns-clause-ports
returns-clause-ports c = left_all (λ o. is_live_end o c.args.c) (without c.args.c) c.loop-k.from c.args.ports.now c.loop-k.ports c.loop-k.invariant.ports (c.in_default.ensures.none (search rules))

pub returns-clause-queues : goal.returns-clause-queues
returns-clause-queues c =
    let counted : c.count-count.result ≡ length c.args.ports.now = c.loop-k.invariant.counted in
    let within : c.loop-k.from ≤ c.count-count.result = c.loop-k.invariant.within in
    told_all (λ o. is_live_end o c.args.c) (without c.args.c) (λ o d. hears_end o c.args.c d) ended_at (silent c.args.c) c.args.ports.now c.loop-k.ports c.args.n c.loop-k.from (queues_in c.args.boxes.now.items) (queues_in c.loop-k.boxes.items) c.loop-k.invariant.ports (omega (arith, counted, within)) (c.in_default.ensures.none (search rules)) c.loop-k.invariant.queues
