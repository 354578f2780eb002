-- What the answer of reading a line says of its spelling.
use Rattle.std.proofs.Common.{◌≡◌, ℕ, List, Some, None, sym, ap, ◌∙◌}
use Rattle.std.specs.Prelude.{IfSome, IfNone}
use Rattle.std.specs.declared.option.Option.{Option}
use Rattle.std.specs.Option.{option_map}
use Rattle.wx_script.specs.Line.{Line, line_at}
use Rattle.wx_script.specs.Spelling.{spelling, IsLine}
use Rattle.wx_script.proofs.Again.{line_again}
use Rattle.wx_script.proofs.LineLemmas.{line_read}

pub spelled : {A : Type 0} (view : A → Line) (o : Option A) (text : List ℕ) → option_map view o ≡ line_at text → IfSome o (λ l. IsLine (view l) × (text ≡ spelling (view l)))
spelled view None text e = tt
spelled view (Some l) text e = let r = line_read text (view l) (sym e) in (r.is_line, r.spelled)

pub no_spelling : {A : Type 0} (view : A → Line) (o : Option A) (text : List ℕ) → option_map view o ≡ line_at text → IfNone o ((l : Line) → IsLine l → text ≡ spelling l → ⊥)
no_spelling view None text e = λ l h is. let again : line_at text ≡ Some l = ap line_at is ∙ line_again l h in absurd cc
no_spelling view (Some l) text e = tt
