-- The requests of a journal, and whom each was sent to.
use Rattle.std.specs.Prelude.{ℕ, List, [], ◌∷◌, ◌++◌, Bool, false, Option, Some, None, slice_get, option_to_list}
use Rattle.wx_id.specs.Contexts.{same_context, is_among}
use Rattle.wx_id.specs.declared.numbers.ContextNo.{ContextNo}
use Rattle.wx_machine.specs.declared.sorts.Sort.TheVariants.{Message}
use Rattle.wx_machine.specs.declared.entries.Who.{Who}
use Rattle.wx_machine.specs.declared.entries.Who.TheVariants.{Context as ByContext}
use Rattle.wx_machine.specs.declared.entries.Call.{Call}
use Rattle.wx_machine.specs.declared.entries.Call.TheVariants.{Send, SendNative}
use Rattle.wx_machine.specs.declared.entries.Answer.{Answer}
use Rattle.wx_machine.specs.declared.entries.Answer.TheVariants.{Request as OnRequest}
use Rattle.wx_machine.specs.declared.entries.Entry.{Entry}
use Rattle.wx_machine.specs.Contexts.{receivers_of}

-- the parties of a request: who asked, and whom; a native one has a host in place of receivers
pub record Parties : Type 0 where
  pub asker : ContextNo
  pub receivers : List ContextNo

-- A send that was answered with a request makes one, from its caller to those that its target reaches, or to the host
-- that it starts.
abbrev pub asked_by : List Entry → Who → Call → Answer → Option Parties
asked_by past (ByContext c) (Send target text) (OnRequest r) = Some
    (record { asker = c; receivers = receivers_of past c target Message })
asked_by past (ByContext c) (SendNative name text) (OnRequest r) = Some (record { asker = c; receivers = [] })
asked_by past _ _ _ = None

-- the parties of the request that an entry makes
abbrev pub asks : List Entry → Entry → Option Parties
asks past e = asked_by past e.who e.call e.answer

-- the requests, each at the place of its number
abbrev pub requests : List Entry → List Parties
requests [] = []
requests (e ∷ past) = requests past ++ option_to_list (asks past e)

-- request r
abbrev pub request : List Entry → ℕ → Option Parties
request past r = slice_get (requests past) r

-- context c made the request
abbrev pub is_asker : Option Parties → ContextNo → Bool
is_asker None c = false
is_asker (Some parties) c = same_context parties.asker c

-- the request was sent to context c
abbrev pub is_asked : Option Parties → ContextNo → Bool
is_asked None c = false
is_asked (Some parties) c = is_among parties.receivers c
