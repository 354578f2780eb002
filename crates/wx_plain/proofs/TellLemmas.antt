-- How a refused input and a failed read are told.
use Rattle.std.proofs.Common.{◌≡◌, ℕ, List, inl, refl, subst, sym}
use Rattle.std.specs.Prelude.{◌⊎◌}
use Rattle.wx_status.specs.declared.status.Status.{Status}
use Rattle.wx_status.specs.declared.status.Status.TheVariants as status
use Rattle.wx_status.specs.declared.status.InputKind.{InputKind}
use Rattle.wx_status.specs.Lines.{read_fault_line, input_line}
use Rattle.wx_status.specs.Changes.{SinkChange, IsUntouched}
use Rattle.wx_status.specs.Told.{LineTold}
use Rattle.wx_status.proofs.TellLemmas.{line_told}
use Rattle.wx_plain.specs.Verdict.{Verdict, read_fault, refused, no_memory}
use Rattle.wx_plain.specs.Told.{Told}

pub refusal_told : (verdict : Verdict) (kind : InputKind) (bytes text : List ℕ) (out err : SinkChange) (result : Status) → verdict ≡ refused kind → bytes ≡ text → text ≡ input_line kind → IsUntouched out → LineTold (status.InputRefused kind) bytes err result
    → Told verdict out err result ⊎ Told no_memory out err result
refusal_told verdict kind bytes text out err result is is_bytes is_text untouched told =
    let of_kind : Told (refused kind) out err result = (untouched, line_told (status.InputRefused kind) (status.InputRefused kind) bytes text (input_line kind) err result refl is_bytes is_text told) in
    inl (subst (λ (x : Verdict). Told x out err result) (sym is) of_kind)

pub read_fault_told : (verdict : Verdict) (file bytes text : List ℕ) (out err : SinkChange) (result : Status) → verdict ≡ read_fault file → bytes ≡ text → text ≡ read_fault_line file → IsUntouched out → LineTold status.ReadFault bytes err result
    → Told verdict out err result ⊎ Told no_memory out err result
read_fault_told verdict file bytes text out err result is is_bytes is_text untouched told =
    let of_file : Told (read_fault file) out err result = (untouched, line_told status.ReadFault status.ReadFault bytes text (read_fault_line file) err result refl is_bytes is_text told) in
    inl (subst (λ (x : Verdict). Told x out err result) (sym is) of_file)
