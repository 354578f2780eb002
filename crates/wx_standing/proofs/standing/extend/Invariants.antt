use Rattle.std.proofs.Common.{◌≡◌, vec_len}
use Rattle.wx_standing.specs.Standings.{AreAlike}
use Rattle.wx_standing.proofs.standing.extend.Given as goal

abbrev pub invariant-loop-k : goal.invariant-loop-k
invariant-loop-k l = record {
  alike : AreAlike l.fn.rows.items l.rows.items;
  long : vec_len l.rows ≡ l.k;
}
