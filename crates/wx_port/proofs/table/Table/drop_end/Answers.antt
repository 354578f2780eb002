use Rattle.std.proofs.Common.{◌≡◌, ap, sym, ◌∙◌, rules, slice_get, not, [], length, false}
use Rattle.std.specs.Prelude.{◌==◌}
use Rattle.wx_port.proofs.TableLater.{last_gone, one_gone, none_of, some_of, is_none_of, other_opener}
use Rattle.wx_id.specs.Contexts.{same_context}
use Rattle.wx_port.specs.Port.{live_of}
use Rattle.wx_port.proofs.table.Table.drop_end.Goals as goal

pub returns-then-last : goal.returns-then-last
returns-then-last c =
    let other : same_context c.opener.result c.args.c ≡ false = search rules in
    let empty : live_of (slice_get c.fewer.new.self c.args.k.0) ≡ [] = sym c.live.ensures.value ∙ none_of c.live.result.now (sym c.is_empty-last.ensures ∙ c.if-last.true) in
    let h = last_gone c.args.self.now c.fewer.new.self c.close-then-last.new.self c.args.k.0 c.args.c (other_opener (slice_get c.args.self.now c.args.k.0) c.opener.result c.args.c c.opener.ensures other) c.fewer.ensures empty c.close-then-last.ensures c.requires in
    record { ports = h.0; closed = c.if-last.true ∙ ap not (sym h.1) }

pub returns-else-last : goal.returns-else-last
returns-else-last c =
    let other : same_context c.opener.result c.args.c ≡ false = search rules in
    let some : is_none_of (live_of (slice_get c.fewer.new.self c.args.k.0)) ≡ false = ap is_none_of (sym c.live.ensures.value) ∙ some_of c.live.result.now (sym c.is_empty-last.ensures ∙ c.if-last.false) in
    let h = one_gone c.args.self.now c.fewer.new.self c.args.k.0 c.args.c (other_opener (slice_get c.args.self.now c.args.k.0) c.opener.result c.args.c c.opener.ensures other) c.requires c.fewer.ensures some in
    record { ports = h.0; closed = c.if-last.false ∙ ap not (sym h.1) }
