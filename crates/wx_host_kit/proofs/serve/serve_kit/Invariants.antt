use Rattle.std.proofs.Common.{◌≡◌}
use Rattle.wx_host_kit.specs.Serving.{ReadsOn}
use Rattle.wx_host_kit.proofs.serve.serve_kit.Given as goal

-- what was read is answered, and the handler means what it did
abbrev pub invariant-loop : goal.invariant-loop
invariant-loop g l = (((goal.Handler-dyn g (l.handler.vtable, l.handler.value)).reply l.handler.value) ≡ ((goal.Handler-dyn g (l.initial.handler.vtable, l.initial.handler.value)).reply l.initial.handler.value)) × ReadsOn ((goal.Handler-dyn g (l.initial.handler.vtable, l.initial.handler.value)).reply l.initial.handler.value) l.reader (g.I.HostOut.state l.initial.input) (g.I.HostOut.state l.input) (g.O.HostIn.state l.initial.output) (g.O.HostIn.state l.output)
