use Rattle.std.proofs.Common.{◌≡◌, List, ℕ, subst}
use Rattle.std.specs.Str.{IsUtf8}
use Rattle.std.proofs.lemmas.Str.{is_utf8-from_IsUtf8}
use Rattle.wx_id.proofs.texts.Utf8Text.as_str.Goals as goal

pub returns-clause-utf8 : goal.returns-clause-utf8
returns-clause-utf8 c =
    let e : c.as_str.result.now ≡ c.args.self.now = cc in
    is_utf8-from_IsUtf8 c.args.self.now (subst (λ (t : List ℕ). IsUtf8 t) e c.as_str.utf8)
