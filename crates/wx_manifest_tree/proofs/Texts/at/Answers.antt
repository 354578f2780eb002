use Rattle.std.proofs.Common.{◌∙◌, sym, arith}
use Rattle.wx_manifest_tree.proofs.TreeLemmas.{within_members, as_str-at, slice_get-within}
use Rattle.wx_manifest_tree.proofs.Texts.at.Goals as goal

pub bounds-members-place : goal.bounds-members-place
bounds-members-place c = within_members _ _ c.self.view_is c.self.invariant c.args.place c.requires

pub returns : goal.returns
returns c = as_str-at _ _ c.self.view_is c.self.invariant c.args.place _ c.requires c.index-members-place.is ∙ sym c.in-Some.ensures

pub unreachable-requires : goal.unreachable-requires
unreachable-requires c = slice_get-within _ _ c.requires (as_str-at _ _ c.self.view_is c.self.invariant c.args.place _ c.requires c.index-members-place.is ∙ sym c.in-None.ensures)

pub offset_bounds-members-place : goal.offset_bounds-members-place
offset_bounds-members-place c = let h = within_members _ _ c.self.view_is c.self.invariant c.args.place c.requires in let t = c.self.told in omega arith
