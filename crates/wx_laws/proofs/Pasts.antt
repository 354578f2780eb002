-- What stands before an entry of a legal past is one.
use Rattle.std.proofs.Common.{List, [], ◌∷◌, ◌++◌, subst}
use Rattle.wx_external.specs.World.{WorldLists}
use Rattle.wx_machine.specs.declared.entries.Entry.{Entry}
use Rattle.wx_laws.specs.Earlier.{EarlierIsLegal}
use Rattle.wx_laws.specs.Legal.{IsLegalPast}

pub legal_before : (world : WorldLists) (later past : List Entry) → IsLegalPast world (later ++ past) → IsLegalPast world past
legal_before world [] past legal = legal
legal_before world (x ∷ later) past legal = legal_before world later past legal.0

pub earlier_is_legal_lem : EarlierIsLegal
earlier_is_legal_lem world journal later past legal is = legal_before world later past (subst (λ (l : List Entry). IsLegalPast world l) is legal)
