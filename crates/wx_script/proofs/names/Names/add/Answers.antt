use Rattle.std.proofs.Common.{◌∙◌, ap, map}
use Rattle.std.specs.Prelude.{string_bytes}
use Rattle.wx_script.specs.Names.{binding}
use Rattle.wx_script.proofs.NameLemmas.{inserted}
use Rattle.wx_script.proofs.names.Names.add.Goals as goal

pub returns-clause-ok : goal.returns-clause-ok
returns-clause-ok c =
    ap (map string_bytes) c.in_ok-insert.ensures.keys
    ∙ inserted c.self.inside.names.keys c.in_ok-name.name
    ∙ ap (λ n. binding n (map string_bytes c.self.inside.names.keys)) c.in_ok-name.ensures.ok
    ∙ ap (binding c.args.name.now) c.self.view_is
