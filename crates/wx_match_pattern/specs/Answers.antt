-- What `Pattern::read` answers.
use Rattle.std.specs.Prelude.{◌≡◌, Result, Ok, Err}
use Rattle.wx_match_pattern.specs.declared.fault.PatternFault.{PatternFault}
use Rattle.wx_match_pattern.specs.declared.fault.PatternReadFault.{PatternReadFault}
use Rattle.wx_match_pattern.specs.declared.fault.PatternReadFault.TheVariants.{Bad, NoMemory}
use Rattle.wx_match_pattern.specs.Pattern.{PatternParts}

-- want of memory, or a fault of which the fact holds
abbrev pub BadIs : (PatternFault → Type 0) → PatternReadFault → Type 0
BadIs Fact (Bad fault) = Fact fault
BadIs Fact NoMemory = Unit {0}

-- the answer is the expected one, unless memory was refused
abbrev pub Gives : Result PatternParts PatternReadFault → Result PatternParts PatternFault → Type 0
Gives (Ok pattern) expected = expected ≡ Ok pattern
Gives (Err (Bad fault)) expected = expected ≡ Err fault
Gives (Err NoMemory) expected = Unit {0}
