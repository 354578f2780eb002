use Rattle.std.proofs.Common.{rules, refl, Some, None}
use Rattle.wx_turn.specs.Entries.{one_entry_more, nothing_more}
use Rattle.wx_turn.proofs.plain.PutWorkPlain.act.Goals as goal

pub returns-in-Ok : goal.returns-in-Ok
returns-in-Ok c = λ h p. (Some c.args.self.now.value, one_entry_more _ _ _ h c.args.self.now.value (search rules) p, refl, refl)

pub returns-in-Err : goal.returns-in-Err
returns-in-Err c = λ h p. (None, nothing_more _ _ _ h (search rules) p, refl, refl)
