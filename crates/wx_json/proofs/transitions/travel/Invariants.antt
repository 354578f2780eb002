use Rattle.std.proofs.Common.{◌≡◌, ◌-◌, ◌≤◌, Bool, List, true, take, drop, length}
use Rattle.wx_json.specs.States.{is_state, LeadsAt, CommaLeads}
use Rattle.wx_json.proofs.transitions.travel.Given as goal

abbrev pub invariant-loop-at : goal.invariant-loop-at
invariant-loop-at l =
    (is_state l.state ≡ true) × (l.from ≤ l.at) × (l.at ≤ length l.piece)
    × ((σ : List Bool) → CommaLeads l.after_comma σ → LeadsAt σ l.start l.state (take (l.at - l.from) (drop l.from l.piece)) (l.at - l.from))

abbrev pub decreases-loop-at : goal.decreases-loop-at
decreases-loop-at l = length l.piece - l.at
