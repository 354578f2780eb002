use Rattle.std.proofs.Common.{◌≡◌, ◌∙◌, ℕ, List, ap, sym, arith, length, take}
use Rattle.std.proofs.lemmas.List.{take_all, length-take}
use Rattle.wx_native_frame.specs.Frames.{told_length, length_bytes}
use Rattle.wx_native_frame.proofs.Lengths.{length_bytes-told}
use Rattle.wx_native_frame.proofs.head.Head.length.Goals as goal

all_four : (len : ℕ) (bytes now : List ℕ) → length bytes ≡ 4 → length now ≡ 4 → take len bytes ≡ now → bytes ≡ now
all_four len bytes now four whole is = sym (take_all len bytes (omega (arith, ap length is, length-take len bytes))) ∙ is

pub returns-clause-told : goal.returns-clause-told
unfolding told_length
returns-clause-told c = c.read_u32.ensures ∙ ap told_length (all_four c.self.inside.len c.self.inside.bytes c.args.self.now c.self.invariant.four c.requires c.self.view_is)

pub returns-clause-bytes : goal.returns-clause-bytes
unfolding told_length
returns-clause-bytes c = ap length_bytes c.read_u32.ensures ∙ length_bytes-told c.self.inside.bytes c.self.invariant.four c.self.invariant.small ∙ all_four c.self.inside.len c.self.inside.bytes c.args.self.now c.self.invariant.four c.requires c.self.view_is
