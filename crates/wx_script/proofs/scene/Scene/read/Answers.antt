use Rattle.std.proofs.Common.{rules, ◌≡◌, true, false}
use Rattle.std.specs.Prelude.{codes}
use Rattle.std.specs.Str.{bytes_eq}
use Rattle.wx_script.proofs.ReadingLemmas.{headed-good, headed-bad}
use Rattle.wx_script.proofs.FaultLemmas.{names_a_line}
use Rattle.wx_script.proofs.scene.Scene.read.Goals as goal

pub returns-then-eq-clause-exact : goal.returns-then-eq-clause-exact
returns-then-eq-clause-exact c =
    let is : bytes_eq c.split_line.result.0.now (codes "wx scene 1 chrome") ≡ true = search rules in
    rw (headed-good c.args.bytes.now c.split_line.result.0.now c.split_line.result.1.now c.split_line.ensures.line c.split_line.ensures.rest is) c.read_body.ensures

pub returns-then-eq-clause-fault : goal.returns-then-eq-clause-fault
returns-then-eq-clause-fault c =
    let is : bytes_eq c.split_line.result.0.now (codes "wx scene 1 chrome") ≡ true = search rules in
    names_a_line c.read_body.result c.args.bytes.now (rw (headed-good c.args.bytes.now c.split_line.result.0.now c.split_line.result.1.now c.split_line.ensures.line c.split_line.ensures.rest is) c.read_body.ensures)

pub returns-else-eq-clause-exact : goal.returns-else-eq-clause-exact
returns-else-eq-clause-exact c =
    let is : bytes_eq c.split_line.result.0.now (codes "wx scene 1 chrome") ≡ false = search rules in
    rw (c.bad.ensures) (headed-bad c.args.bytes.now c.split_line.result.0.now c.split_line.ensures.line is)
