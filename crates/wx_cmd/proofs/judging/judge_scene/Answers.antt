use Rattle.std.proofs.Common.{refl}
use Rattle.wx_status.specs.Changes.{over}
use Rattle.wx_cmd.proofs.JudgeLemmas.{fault_judged, fault_unused, run_began, unused_in}
use Rattle.wx_cmd.proofs.judging.judge_scene.Goals as goal

pub returns-in-Err-clause-judged : goal.returns-in-Err-clause-judged
returns-in-Err-clause-judged g c =
    let shelf = over (g.F.Shelf.state c.args.shelf.now) (g.F.Shelf.state c.read_world.new.shelf) in
    let starter = over (g.P.Starter.state c.args.starter.now) (g.P.Starter.state c.args.starter.now) in
    fault_judged c.judge_fault.result c.args.how c.args.scene.now shelf starter c.in-Err.fault c.judge_fault.ensures c.in-Err.ensures.err

pub returns-in-Err-clause-no_memory : goal.returns-in-Err-clause-no_memory
returns-in-Err-clause-no_memory g c =
    let shelf = over (g.F.Shelf.state c.args.shelf.now) (g.F.Shelf.state c.read_world.new.shelf) in
    let starter = over (g.P.Starter.state c.args.starter.now) (g.P.Starter.state c.args.starter.now) in
    fault_unused c.judge_fault.result c.args.how c.args.scene.now shelf starter refl

pub returns-in-Ok-clause-no_memory : goal.returns-in-Ok-clause-no_memory
returns-in-Ok-clause-no_memory g c =
    let shelf = over (g.F.Shelf.state c.args.shelf.now) (g.F.Shelf.state c.read_world.new.shelf) in
    let starter = over (g.P.Starter.state c.args.starter.now) (g.P.Starter.state c.judge_run.new.starter) in
    run_began c.judge_run.result c.args.how c.args.scene.now shelf starter (c.in-Ok.world, c.in-Ok.ensures.ok)

pub returns-in-Err-clause-unused : goal.returns-in-Err-clause-unused
returns-in-Err-clause-unused g c = unused_in c.judge_fault.result _ refl
