use Rattle.std.proofs.Common.{◌-◌, ◌≡◌, ◌∙◌, Bool, true, false, refl, sym, arith}
use Rattle.std.specs.Bool.{beq}
use Rattle.wx_json.specs.Levels.{kinds_of}
use Rattle.wx_json.specs.States.{mode_of, coding_of, closed}
use Rattle.wx_json.specs.Check.{running}
use Rattle.wx_json.proofs.Fields.{stepped}
use Rattle.wx_json.proofs.Closing.{closed-fields}
use Rattle.wx_json.proofs.json_check.JsonCheck.close.Goals as goal

same : (a b : Bool) → beq a b ≡ true → a ≡ b
same true true h = refl
same false false h = refl
same true false h = cc
same false true h = cc

pub returns-then-kind_at-object : goal.returns-then-kind_at-object
returns-then-kind_at-object c =
    let x = c.self.inside in
    stepped x.fault (closed c.args.object) (running x.taken (coding_of x.state) (mode_of x.state) (1024 - x.depth) (kinds_of x.kinds x.depth)) _ _ c.self.view_is c.requires.running
    (closed-fields x.kinds x.depth x.taken (coding_of x.state) (mode_of x.state) (λ e. omega (arith, c.if-self-gt0.true, e)) c.self.invariant.depth c.args.object (sym c.kind_at.ensures ∙ same _ c.args.object c.if-kind_at-object.true))
