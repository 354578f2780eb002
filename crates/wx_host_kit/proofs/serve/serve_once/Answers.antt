use Rattle.std.proofs.Common.{◌≡◌, ℕ, ◌<◌, ◌==◌, true, take, subst, arith}
use Rattle.wx_host_launch.specs.Pipes.{Gives}
use Rattle.wx_host_kit.proofs.ServeLemmas.{served, same_end, piece_read}
use Rattle.wx_host_kit.proofs.serve.serve_once.Goals as goal

pub returns-in-Ok-eq0-clause-came : goal.returns-in-Ok-eq0-clause-came
returns-in-Ok-eq0-clause-came g c = λ old before so.
    let mid = g.I.HostOut.state c.args.input.now in
    let new = g.I.HostOut.state c.read.new.self in
    let none : c.in-Ok-eq0.field-0 ≡ 0 = omega (arith, c.in-Ok-eq0.field-0-is) in
    let G : ℕ → Type 0 = λ n. Gives mid.stream new.stream (take n c.read.new.buf) in
    let E : ℕ → Type 0 = λ n. new.ended ≡ (n == 0) in
    let ended : new.ended ≡ true = subst E none c.in-Ok-eq0.ensures.ended in
    served ((goal.Handler-dyn g (c.args.handler.now.vtable, c.args.handler.now.value)).reply c.args.handler.now.value) c.args.reader.now old mid new before (g.O.HostIn.state c.args.output.now) c.end_of_input.result so (subst G none c.in-Ok-eq0.ensures.given) (c.end_of_input.ensures ((goal.Handler-dyn g (c.args.handler.now.vtable, c.args.handler.now.value)).reply c.args.handler.now.value) old new before (g.O.HostIn.state c.args.output.now) (ended, c.in-Ok-eq0.ensures.none_comes ended))

pub returns-in-Ok-clause-came : goal.returns-in-Ok-clause-came
returns-in-Ok-clause-came g c = λ old before so.
    let mid = g.I.HostOut.state c.args.input.now in
    let new = g.I.HostOut.state c.read.new.self in
    let some : 0 < c.in-Ok.count = omega arith in
    piece_read ((goal.Handler-dyn g (c.args.handler.now.vtable, c.args.handler.now.value)).reply c.args.handler.now.value) c.args.reader.now c.answer_piece.new.reader (take c.in-Ok.count c.read.new.buf) old mid new before (g.O.HostIn.state c.args.output.now) (g.O.HostIn.state c.answer_piece.new.output) c.answer_piece.result so c.in-Ok.ensures.given c.read.ensures.cause.later (same_end mid.ended new.ended c.in-Ok.count some c.in-Ok.ensures.ended c.in-Ok.ensures.behind_end) c.answer_piece.ensures.limit c.answer_piece.ensures.came
