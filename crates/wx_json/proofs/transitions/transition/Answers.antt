use Rattle.std.proofs.Common.{◌≡◌, true, refl, arith}
use Rattle.wx_json.specs.States.{is_state, mode_of, coding_of}
use Rattle.wx_json.specs.Coding.{code}
use Rattle.wx_json.specs.Action.{begin_action, end_action, exponent_action, action_of}
use Rattle.wx_json.specs.declared.transitions.TheConstants.{CLASSES, TRANSITIONS}
use Rattle.wx_json.proofs.Table.{table_ok, class_bounds, entry_at, says-advance, says-state, state_bounds}
use Rattle.wx_json.proofs.transitions.transition.Goals as goal

ok : table_ok CLASSES TRANSITIONS ≡ true
unfolding is_state mode_of coding_of code begin_action end_action exponent_action action_of
ok = refl

pub overflow_sub-result : goal.overflow_sub-result
overflow_sub-result c = (class_bounds CLASSES TRANSITIONS ok c.args.c (omega arith)).0

pub overflow_sub-result-2 : goal.overflow_sub-result-2
overflow_sub-result-2 c = (state_bounds c.args.state c.requires).0

pub bounds-c-2 : goal.bounds-c-2
bounds-c-2 c = let b = class_bounds CLASSES TRANSITIONS ok c.args.c (omega arith) in omega (arith, b.0, b.1)

pub bounds-state : goal.bounds-state
bounds-state c = let b = state_bounds c.args.state c.requires in omega (arith, b.0, b.1)

pub returns-clause-state : goal.returns-clause-state
returns-clause-state c = λ high. says-state c.args.state _ _ _ high (entry_at CLASSES TRANSITIONS ok c.args.c (omega arith) c.args.state c.requires)

pub returns-clause-value : goal.returns-clause-value
returns-clause-value c = λ k n σ. says-advance k n c.args.state σ _ c.args.c (entry_at CLASSES TRANSITIONS ok c.args.c (omega arith) c.args.state c.requires)
