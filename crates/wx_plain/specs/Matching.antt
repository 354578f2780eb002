-- What `match PATTERN URL` answers.
use Rattle.std.specs.Prelude.{◌≡◌, ◌⊎◌, ℕ, List, length, nat_lt, true, false, codes, None, Result, Ok, Err, if◌then◌else◌}
use Rattle.url.specs.Parts.{Parts}
use Rattle.url.specs.Parser.{Parsed, parse_url}
use Rattle.wx_match_pattern.specs.declared.fault.PatternFault.{PatternFault}
use Rattle.wx_match_pattern.specs.Pattern.{PatternParts}
use Rattle.wx_match_pattern.specs.Reading.{pattern_of}
use Rattle.wx_match_pattern.specs.Meets.{Meets}
use Rattle.wx_outside.specs.Shelf.{limit}
use Rattle.wx_status.specs.declared.status.InputKind.{InputKind}
use Rattle.wx_status.specs.declared.status.InputKind.TheVariants as input
use Rattle.wx_plain.specs.Output.{Output}

-- a pattern, or the refusal of its fault
abbrev pub pattern_or_refusal : Result PatternParts PatternFault → Result PatternParts InputKind
pattern_or_refusal (Ok pattern) = Ok pattern
pattern_or_refusal (Err fault) = Err (input.Pattern fault)

-- the pattern of a word
abbrev pub pattern_in : List ℕ → Result PatternParts InputKind
pattern_in word = pattern_or_refusal (pattern_of word)

-- a URL, or the refusal of whatever the parser says
abbrev pub url_or_refusal : Parsed Parts → Result Parts InputKind
url_or_refusal (Ok url) = Ok url
url_or_refusal (Err fault) = Err input.Url

-- the URL of a word, which has at most 67,108,864 bytes
abbrev pub url_in : List ℕ → Result Parts InputKind
url_in word = if nat_lt limit (length word) then Err input.Url else url_or_refusal (parse_url None word)

abbrev pub yes_output : Output
yes_output = record { yes = true; text = codes "yes\n" }

abbrev pub no_output : Output
no_output = record { yes = false; text = codes "no\n" }

-- yes where the pattern meets the URL, else no; where either is refused, that, and the pattern first
abbrev pub MatchAnswers : Result PatternParts InputKind → Result Parts InputKind → Result Output InputKind → Type 0
MatchAnswers (Err kind) url answer = answer ≡ Err kind
MatchAnswers (Ok pattern) (Err kind) answer = answer ≡ Err kind
MatchAnswers (Ok pattern) (Ok url) answer = ((answer ≡ Ok yes_output) × Meets pattern url)
    ⊎ ((answer ≡ Ok no_output) × ¬ Meets pattern url)
