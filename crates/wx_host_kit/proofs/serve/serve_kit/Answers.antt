use Rattle.std.proofs.Common.{Some, None, refl, ◌∙◌}
use Rattle.wx_host_kit.proofs.ServeLemmas.{begins, once_more}
use Rattle.wx_host_kit.proofs.serve.serve_kit.Goals as goal

pub loop-init : goal.loop-init
loop-init g c = (refl, begins ((goal.Handler-dyn g (c.args.handler.now.vtable, c.args.handler.now.value)).reply c.args.handler.now.value) c.new-reader.result (g.I.HostOut.state c.args.input.now) (g.O.HostIn.state c.args.output.now) c.new-reader.ensures.limit c.new-reader.ensures.bytes)

pub serve_once-requires-clause-limit : goal.serve_once-requires-clause-limit
serve_once-requires-clause-limit g c κs within = c.loop.invariant.1.limit

pub serve_once-requires-clause-under_way : goal.serve_once-requires-clause-under_way
serve_once-requires-clause-under_way g c κs within = c.loop.invariant.1.under_way

pub returns-in-Some-serve_once : goal.returns-in-Some-serve_once
returns-in-Some-serve_once g c =
    once_more ((goal.Handler-dyn g (c.args.handler.now.vtable, c.args.handler.now.value)).reply c.args.handler.now.value) ((goal.Handler-dyn g (c.loop.handler.vtable, c.loop.handler.value)).reply c.loop.handler.value) c.loop.reader c.serve_once.new.reader (g.I.HostOut.state c.args.input.now) (g.I.HostOut.state c.loop.input) (g.I.HostOut.state c.serve_once.new.input) (g.O.HostIn.state c.args.output.now) (g.O.HostIn.state c.loop.output) (g.O.HostIn.state c.serve_once.new.output) (Some c.in-Some-serve_once.end) c.loop.invariant.0 c.loop.invariant.1 c.in-Some-serve_once.ensures.came

pub loop-preserved : goal.loop-preserved
loop-preserved g c =
    (c.serve_once.ensures.same ∙ c.loop.invariant.0, once_more ((goal.Handler-dyn g (c.args.handler.now.vtable, c.args.handler.now.value)).reply c.args.handler.now.value) ((goal.Handler-dyn g (c.loop.handler.vtable, c.loop.handler.value)).reply c.loop.handler.value) c.loop.reader c.serve_once.new.reader (g.I.HostOut.state c.args.input.now) (g.I.HostOut.state c.loop.input) (g.I.HostOut.state c.serve_once.new.input) (g.O.HostIn.state c.args.output.now) (g.O.HostIn.state c.loop.output) (g.O.HostIn.state c.serve_once.new.output) None c.loop.invariant.0 c.loop.invariant.1 c.in_default.ensures.came)
