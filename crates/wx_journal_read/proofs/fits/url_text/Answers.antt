use Rattle.std.proofs.Common.{◌≡◌, List, ℕ, subst}
use Rattle.std.specs.Str.{IsUtf8}
use Rattle.std.proofs.lemmas.Str.{is_utf8-from_IsUtf8}
use Rattle.wx_journal_read.proofs.fits.url_text.Goals as goal

pub returns : goal.returns
returns c =
    let own : c.as_str.result.now ≡ c.args.url.now = cc in
    let utf8 = is_utf8-from_IsUtf8 c.args.url.now (subst (λ (t : List ℕ). IsUtf8 t) own c.as_str.utf8) in
    rw utf8 c.url.ensures.sort
