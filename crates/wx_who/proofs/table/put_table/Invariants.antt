use Rattle.std.proofs.Common.{◌≡◌, ◌++◌, [], take, drop}
use Rattle.std.specs.Prelude.{string_bytes}
use Rattle.wx_who.specs.Table.{all_asked, lines_behind, lines_text}
use Rattle.wx_who.proofs.table.put_table.Given as goal

-- what is written and the lines of the endpoints left are all that is to be written
abbrev pub invariant-loop-place : goal.invariant-loop-place
invariant-loop-place l =
    let all = all_asked l.extensions l.tabs l.world.hosts in
    string_bytes l.out ++ lines_text (lines_behind l.world all (take l.place l.endpoints) (drop l.place l.endpoints))
    ≡ string_bytes l.initial.out ++ lines_text (lines_behind l.world all [] l.endpoints)
