use Rattle.std.proofs.Common.{◌≡◌, ℕ, ◌+◌, ◌≤◌, ◌-◌, ◌∙◌, List, ◌++◌, take, length, ap, sym, arith, true}
use Rattle.std.specs.Prelude.{is_ok}
use Rattle.std.proofs.lemmas.List.{length-take}
use Rattle.std.proofs.Math.Seq.{take-append-add}
use Rattle.wx_native_frame.proofs.FrameLaws.{fault_behind}
use Rattle.wx_native_frame.proofs.text.read_on.Goals as goal

take-new_part : (u p : List ℕ) (place n : ℕ) → length u ≤ place → n ≡ place + 1 - length u → take (place + 1) (u ++ p) ≡ u ++ take n p
take-new_part u p place n le is = let on : place + 1 ≡ length u + n = omega arith in ap (λ k. take k (u ++ p)) on ∙ take-append-add u p n

pub overflow_sub-good : goal.overflow_sub-good
overflow_sub-good c =
    let behind = fault_behind c.args.text.now.items c.args.part.now c.in-Err.fault c.requires.reads.start (c.in-Err.ensures.answer c.args.text.now.items c.requires.reads.stands) in
    omega (arith, behind)

pub returns-in-Err-clause-left : goal.returns-in-Err-clause-left
returns-in-Err-clause-left c =
    let found = c.in-Err.ensures.answer c.args.text.now.items c.requires.reads.stands in
    let behind = fault_behind c.args.text.now.items c.args.part.now c.in-Err.fault c.requires.reads.start found in
    let n : ℕ = c.in-Err.fault.place + 1 - c.len.result in
    let ok : is_ok c.extend_from_slice.result ≡ true = c.extend_from_slice.ensures.succeeds (omega (arith, length-take n c.args.part.now)) in
    let grown = rw ok at c.extend_from_slice.ensures.items in
    grown ∙ sym (take-new_part c.args.text.now.items c.args.part.now c.in-Err.fault.place n behind (omega arith))
