use Rattle.std.proofs.Common.{◌≡◌, ℕ, Bool, List, Some, refl}
use Rattle.std.specs.Prelude.{Option, codes, option_copied}
use Rattle.wx_context.specs.declared.contexts.Listens.{Listens}
use Rattle.wx_script.specs.Line.{flag_at, flags_at}
use Rattle.wx_script.proofs.line.flags.Goals as goal

four_flags : (text : List ℕ) (a b c d : Bool × Option (List ℕ))
    → a ≡ flag_at (codes "connect") (Some text) → b ≡ flag_at (codes "message") a.1 → c ≡ flag_at (codes "external-connect") b.1 → d ≡ flag_at (codes "external-message") c.1
    → (let l : Listens = record { connect = a.0; message = b.0; external_connect = c.0; external_message = d.0 } in (l, d.1) ≡ flags_at text)
unfolding flags_at
four_flags text a b c d is_a is_b is_c is_d = rw (is_d, is_c, is_b, is_a) refl

pub returns : goal.returns
returns c =
    four_flags c.args.text.now
    (c.flag-connect.result.0, option_copied c.flag-connect.result.1)
    (c.flag-message.result.0, option_copied c.flag-message.result.1)
    (c.flag-external_connect.result.0, option_copied c.flag-external_connect.result.1)
    (c.flag-external_message.result.0, option_copied c.flag-external_message.result.1)
    c.flag-connect.ensures c.flag-message.ensures c.flag-external_connect.ensures c.flag-external_message.ensures
