-- What contracts see of a pattern.
use Rattle.std.specs.Prelude.{Result, Ok, Err}
use Rattle.wx_match_pattern.specs.declared.fault.PatternReadFault.{PatternReadFault}
use Rattle.wx_match_pattern.specs.declared.parts.HostForm.{HostForm}
use Rattle.wx_match_pattern.specs.declared.parts.HostForm.TheVariants.{Empty, AnyHost, Below, Named}
use Rattle.wx_match_pattern.specs.declared.parts.Form.{Form}
use Rattle.wx_match_pattern.specs.declared.parts.Form.TheVariants.{AllUrls, Parts}
use Rattle.wx_match_pattern.specs.Pattern.{HostPart, no_host, any_host, below, named, PatternParts, all_urls, parts, IsName}

-- the host that is stored
abbrev pub host_view : HostForm → HostPart
host_view Empty = no_host
host_view AnyHost = any_host
host_view (Below name) = below name.items
host_view (Named name) = named name.items

-- a host that is stored holds names alone
abbrev pub IsStored : HostPart → Type 0
IsStored no_host = Unit {0}
IsStored any_host = Unit {0}
IsStored (below name) = IsName name
IsStored (named name) = IsName name

-- the pattern that is stored
abbrev pub form_view : Form → PatternParts
form_view AllUrls = all_urls
form_view (Parts scheme host path) = parts scheme (host_view host) path.items

-- the answer about a pattern that is stored
abbrev pub answer_view : Result Form PatternReadFault → Result PatternParts PatternReadFault
answer_view (Ok form) = Ok (form_view form)
answer_view (Err fault) = Err fault
