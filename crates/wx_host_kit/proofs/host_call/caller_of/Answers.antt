use Rattle.std.proofs.Common.{refl, Some, ap, ◌∙◌}
use Rattle.std.proofs.lemmas.Bool.{false≢true}
use Rattle.wx_host_manifest.proofs.OriginLemmas.{after_no_scheme, cut_scheme, no_slash, cut_slash, caller_of-no_slash, caller_of-no_id, caller_of-origin}
use Rattle.wx_host_kit.proofs.host_call.caller_of.Goals as goal

pub returns-in_default : goal.returns-in_default
returns-in_default c = after_no_scheme _ _ _ c.as_bytes.ensures.value c.as_bytes-2.ensures.value c.in_default.ensures.cases

pub returns-in_default-strip_suffix : goal.returns-in_default-strip_suffix
returns-in_default-strip_suffix c =
    caller_of-no_slash _ c.in-Some.rest.now (cut_scheme _ _ _ c.as_bytes.ensures.value c.as_bytes-2.ensures.value c.in-Some.rest c.in-Some.ensures.cases)
    (no_slash c.in-Some.rest.now c.in_default-strip_suffix.ensures.cases)

pub returns-in-Ok : goal.returns-in-Ok
returns-in-Ok c =
    ap Some c.in-Ok.ensures.ok
    ∙ caller_of-origin _ c.in-Some.rest.now c.in-Some-strip_suffix.id.now
    (cut_scheme _ _ _ c.as_bytes.ensures.value c.as_bytes-2.ensures.value c.in-Some.rest c.in-Some.ensures.cases)
    (cut_slash c.in-Some.rest.now c.in-Some-strip_suffix.id c.in-Some-strip_suffix.ensures.cases) (c.in-Ok.ensures.exact.0 refl)

pub returns-in-Err : goal.returns-in-Err
returns-in-Err c =
    caller_of-no_id _ c.in-Some.rest.now c.in-Some-strip_suffix.id.now
    (cut_scheme _ _ _ c.as_bytes.ensures.value c.as_bytes-2.ensures.value c.in-Some.rest c.in-Some.ensures.cases)
    (cut_slash c.in-Some.rest.now c.in-Some-strip_suffix.id c.in-Some-strip_suffix.ensures.cases)
    (λ id. false≢true (c.in-Err.ensures.exact.1 id))
