-- How a refused scene, a refused manifest and a failed read are told.
use Rattle.std.proofs.Common.{◌≡◌, ℕ, List, refl, inl, subst, sym}
use Rattle.std.specs.Prelude.{◌⊎◌}
use Rattle.wx_script.specs.declared.scene.SceneFault.{SceneFault}
use Rattle.wx_status.specs.declared.status.Status.{Status}
use Rattle.wx_status.specs.declared.status.Status.TheVariants as status
use Rattle.wx_cmd.specs.declared.tell.Verdict as code
use Rattle.wx_cmd.specs.declared.tell.Verdict.TheVariants as v
use Rattle.wx_world.specs.declared.faults.FileRefusal.{FileRefusal}
use Rattle.wx_status.specs.Lines.{refusal_line, read_fault_line}
use Rattle.wx_status.specs.Manifests.{manifest_line}
use Rattle.wx_cmd.specs.Verdict.{Verdict, read_fault, manifest_refused, no_memory}
use Rattle.wx_cmd.specs.View.{verdict_view}
use Rattle.wx_status.specs.Changes.{SinkChange, IsUntouched}
use Rattle.wx_status.specs.Told.{LineTold}
use Rattle.wx_status.proofs.TellLemmas.{line_told}
use Rattle.wx_cmd.specs.Told.{Told}

pub refusal_told : (verdict : code.Verdict) (fault : SceneFault) (answer : Status) (bytes text : List ℕ) (out err : SinkChange) (result : Status) → verdict ≡ v.Refused fault → answer ≡ status.SceneRefused fault.line fault.kind → bytes ≡ text → text ≡ refusal_line fault → IsUntouched out → LineTold answer bytes err result → Told (verdict_view verdict) out err result ⊎ Told no_memory out err result
refusal_told verdict fault answer bytes text out err result is is_status is_bytes is_text untouched told =
    rw is (inl (untouched, line_told (status.SceneRefused fault.line fault.kind) answer bytes text (refusal_line fault) err result is_status is_bytes is_text told))

pub read_fault_told : (verdict : code.Verdict) (file bytes text : List ℕ) (out err : SinkChange) (result : Status) → verdict_view verdict ≡ read_fault file → bytes ≡ text → text ≡ read_fault_line file → IsUntouched out → LineTold status.ReadFault bytes err result → Told (verdict_view verdict) out err result ⊎ Told no_memory out err result
read_fault_told verdict file bytes text out err result is is_bytes is_text untouched told =
    let of_file : Told (read_fault file) out err result = (untouched, line_told status.ReadFault status.ReadFault bytes text (read_fault_line file) err result refl is_bytes is_text told) in
    inl (subst (λ (x : Verdict). Told x out err result) (sym is) of_file)

pub manifest_told : (verdict : code.Verdict) (refusal : FileRefusal) (file : List ℕ) (answer : Status) (bytes text : List ℕ) (out err : SinkChange) (result : Status) → verdict_view verdict ≡ manifest_refused refusal file → answer ≡ status.ManifestRefused refusal.file refusal.kind → bytes ≡ text → text ≡ manifest_line file refusal.kind → IsUntouched out → LineTold answer bytes err result → Told (verdict_view verdict) out err result ⊎ Told no_memory out err result
manifest_told verdict refusal file answer bytes text out err result is is_status is_bytes is_text untouched told =
    let of_file : Told (manifest_refused refusal file) out err result = (untouched, line_told (status.ManifestRefused refusal.file refusal.kind) answer bytes text (manifest_line file refusal.kind) err result is_status is_bytes is_text told) in
    inl (subst (λ (x : Verdict). Told x out err result) (sym is) of_file)
