use Rattle.std.proofs.Common.{refl, ap, ◌∙◌}
use Rattle.wx_status.specs.Lines.{read_fault_line}
use Rattle.wx_status.specs.Manifests.{manifest_line}
use Rattle.wx_cmd.specs.View.{verdict_view}
use Rattle.wx_cmd.proofs.TellLemmas.{refusal_told, read_fault_told, manifest_told}
use Rattle.wx_cmd.proofs.tell.tell.Goals as goal

pub returns-in-Ok-refusal_line : goal.returns-in-Ok-refusal_line
returns-in-Ok-refusal_line g c =
    refusal_told _ c.in-Refused.fault _ _ _ _ _ _ c.in-Refused.is c.status_of.ensures c.as_bytes-in-Ok-refusal_line.ensures.value c.in-Ok-refusal_line.ensures refl c.tell_line-in-Ok-refusal_line.ensures

pub returns-in-Ok : goal.returns-in-Ok
returns-in-Ok g c =
    let line = c.in-Ok.ensures ∙ ap read_fault_line c.as_str.ensures.value in
    read_fault_told _ c.in-ReadFault.file _ _ _ _ _ (ap verdict_view c.in-ReadFault.is) c.as_bytes.ensures.value line refl c.tell_line.ensures

pub returns-in-Ok-manifest_line : goal.returns-in-Ok-manifest_line
returns-in-Ok-manifest_line g c =
    let refusal = c.in-ManifestRefused.refusal in
    let line = c.in-Ok-manifest_line.ensures ∙ ap (λ file. manifest_line file refusal.kind) c.as_str-in-ManifestRefused.ensures.value in
    manifest_told _ refusal c.in-ManifestRefused.file _ _ _ _ _ _ (ap verdict_view c.in-ManifestRefused.is) c.status_of_manifest.ensures c.as_bytes-in-Ok-manifest_line.ensures.value line refl c.tell_line-in-Ok-manifest_line.ensures
