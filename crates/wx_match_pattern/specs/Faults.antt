-- The first place at which a text stops being a pattern.
use Rattle.std.specs.Prelude.{◌≡◌, ℕ, ◌+◌, ◌<◌, ◌≤◌, List, ◌++◌, length, take, codes}
use Rattle.wx_match_pattern.specs.declared.parts.SchemePart.{SchemePart}
use Rattle.wx_match_pattern.specs.declared.fault.PatternFault.{PatternFault}
use Rattle.wx_match_pattern.specs.declared.fault.PatternKind.{PatternKind}
use Rattle.wx_match_pattern.specs.declared.fault.PatternKind.TheVariants.{Scheme, Host, Path}
use Rattle.wx_match_pattern.specs.Pattern.{HostPart, IsHostOf, IsPattern, scheme_head, host_text}

-- some bytes after these make a pattern
abbrev pub IsPrefixOfPattern : List ℕ → Type 0
IsPrefixOfPattern bytes = (rest : List ℕ) × IsPattern (bytes ++ rest)

-- the bytes hold `://`
abbrev pub HoldsSeparator : List ℕ → Type 0
HoldsSeparator bytes = (front : List ℕ) × (rest : List ℕ) × (bytes ≡ front ++ (codes "://" ++ rest))

-- the text is `scheme://host` with a whole host, so that only the path is missing
abbrev pub LacksPath : List ℕ → Type 0
LacksPath text =
    (scheme : SchemePart) × (host : HostPart) × IsHostOf scheme host × (scheme_head scheme ++ host_text host ≡ text)

-- `Scheme` where the bytes before the place do not hold `://`; `Path` where the text ends at the place and its host is
-- whole; else `Host`
abbrev pub IsOfKind : PatternKind → List ℕ → ℕ → Type 0
IsOfKind Scheme text place = ¬ HoldsSeparator (take place text)
IsOfKind Host text place = HoldsSeparator (take place text) × ¬ ((place ≡ length text) × LacksPath text)
IsOfKind Path text place = (place ≡ length text) × LacksPath text

-- the place is the least p such that the first p + 1 bytes are a prefix of no pattern, or the length of a text that
-- is itself such a prefix and no pattern
pub record IsFault (text : List ℕ) (fault : PatternFault) : Type 0 where
  pub within : fault.place ≤ length text
  pub before : IsPrefixOfPattern (take fault.place text)
  pub faulty : fault.place < length text → ¬ IsPrefixOfPattern (take (fault.place + 1) text)
  pub unfinished : fault.place ≡ length text → ¬ IsPattern text
  pub kind : IsOfKind fault.kind text fault.place
