-- A line that was told under another name of its status and its bytes.
use Rattle.std.proofs.Common.{◌≡◌, ◌∙◌, ℕ, List, subst}
use Rattle.wx_status.specs.declared.status.Status.{Status}
use Rattle.wx_status.specs.Changes.{SinkChange}
use Rattle.wx_status.specs.Told.{LineTold}

pub line_told : (answer told : Status) (bytes text line : List ℕ) (err : SinkChange) (result : Status) → told ≡ answer → bytes ≡ text → text ≡ line → LineTold told bytes err result → LineTold answer line err result
line_told answer told bytes text line err result is_status is_bytes is_text h =
    subst (λ (s : Status). LineTold s line err result) is_status (subst (λ (b : List ℕ). LineTold told b err result) (is_bytes ∙ is_text) h)
