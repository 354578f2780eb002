use Rattle.std.proofs.Common.{◌-◌, ◌≤◌, ◌∙◌, sym, drop, arith}
use Rattle.std.specs.List.{prefix_len}
use Rattle.wx_json.specs.Json.{is_white, is_digit}
use Rattle.wx_json.specs.Plain.{is_plain}
use Rattle.wx_json.proofs.Ends.{string-mode, string-coding}
use Rattle.wx_json.proofs.PlainRuns.{run-plain}
use Rattle.wx_json.proofs.WhiteRuns.{run-white, run-digits}
use Rattle.wx_json.proofs.transitions.skip.Goals as goal

pub returns-then-in_string-clause-value : goal.returns-then-in_string-clause-value
returns-then-in_string-clause-value c = λ σ k n.
    let string = sym c.in_string.ensures ∙ c.if-in_string.true in
    let mode = string-mode c.args.state string in
    let far : c.plain_end.result - c.args.from ≤ prefix_len is_plain (drop c.args.from c.args.piece.now) = omega (arith, c.plain_end.ensures.value) in
    rw (string-coding c.args.state string, mode.1) (run-plain mode.0 (drop c.args.from c.args.piece.now) (c.plain_end.result - c.args.from) k n σ far)

pub returns-then-between_tokens-clause-value : goal.returns-then-between_tokens-clause-value
returns-then-between_tokens-clause-value c = λ σ k n.
    let far : c.white_end.result - c.args.from ≤ prefix_len is_white (drop c.args.from c.args.piece.now) = omega (arith, c.white_end.ensures.value) in
    run-white c.args.state (sym c.between_tokens.ensures ∙ c.if-between_tokens.true) (drop c.args.from c.args.piece.now) (c.white_end.result - c.args.from) k n σ far

pub returns-then-in_digits-clause-value : goal.returns-then-in_digits-clause-value
returns-then-in_digits-clause-value c = λ σ k n.
    let far : c.digits_end.result - c.args.from ≤ prefix_len is_digit (drop c.args.from c.args.piece.now) = omega (arith, c.digits_end.ensures.value) in
    run-digits c.args.state (sym c.in_digits.ensures ∙ c.if-in_digits.true) (drop c.args.from c.args.piece.now) (c.digits_end.result - c.args.from) k n σ far
