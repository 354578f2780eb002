use Rattle.std.proofs.Common.{◌-◌, ap, ◌∙◌, sym, subst}
use Rattle.wx_json.specs.Machine.{accepts_at}
use Rattle.wx_json.specs.Levels.{kinds_of}
use Rattle.wx_json.specs.States.{mode_of, coding_of}
use Rattle.wx_json.specs.View.{unless_failed}
use Rattle.wx_json.specs.Check.{Progress, running, Stands}
use Rattle.wx_json.proofs.Stack.{kinds_top, kinds_none}
use Rattle.wx_json.proofs.Ends.{is_end-may_end}
use Rattle.wx_json.proofs.Laws.{failed-IsEndFault, accepts-IsJsonText, unfinished, opened}
use Rattle.wx_json.proofs.json_check.JsonCheck.finish.Goals as goal
use Rattle.wx_json.proofs.json_check.JsonCheck.finish.Goals.{else-self-eq0-via-then-self-eq0+else-can_end, else-self-eq0-via-else-self-eq0}

pub returns-in-Some : goal.returns-in-Some
returns-in-Some c = λ b h.
    let x = c.self.inside in
    let P : Progress → Type 0 = λ p. Stands p b in
    failed-IsEndFault b c.in-Some.fault (subst P (sym c.self.view_is ∙ ap (λ f. unless_failed f (running x.taken (coding_of x.state) (mode_of x.state) (1024 - x.depth) (kinds_of x.kinds x.depth))) c.in-Some.is) h)

pub returns-then-can_end : goal.returns-then-can_end
returns-then-can_end c = λ b h.
    let x = c.self.inside in
    let σ = kinds_of x.kinds x.depth in
    accepts-IsJsonText b x.taken (1024 - x.depth) (coding_of x.state) (mode_of x.state) σ (opened x.fault (running x.taken (coding_of x.state) (mode_of x.state) (1024 - x.depth) σ) c.args.self.now b c.in-None.is c.self.view_is h)
    (ap (accepts_at (mode_of x.state)) (kinds_none x.kinds x.depth c.if-self-eq0.true) ∙ sym (is_end-may_end x.state c.self.invariant.state) ∙ sym c.can_end.ensures ∙ c.if-can_end.true)

pub returns-else-self-eq0 : goal.returns-else-self-eq0
returns-else-self-eq0 c = λ b h.
    let x = c.self.inside in
    let σ = kinds_of x.kinds x.depth in
    unfinished b x.taken (1024 - x.depth) (coding_of x.state) (mode_of x.state) σ (opened x.fault (running x.taken (coding_of x.state) (mode_of x.state) (1024 - x.depth) σ) c.args.self.now b c.in-None.is c.self.view_is h)
    (elim c.else-self-eq0.branch [
      | else-self-eq0-via-then-self-eq0+else-can_end w ↦ ap (accepts_at (mode_of x.state)) (kinds_none x.kinds x.depth w.if-self-eq0.true) ∙ sym (is_end-may_end x.state c.self.invariant.state) ∙ sym w.can_end.ensures ∙ w.if-can_end.false
      | else-self-eq0-via-else-self-eq0 w ↦ ap (accepts_at (mode_of x.state)) (kinds_top x.kinds x.depth w.if-self-eq0.false)
    ])
