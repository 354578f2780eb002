-- The channels of a journal and their ends.
use Rattle.std.specs.Prelude.{ℕ, List, [], ◌∷◌, ◌++◌, Bool, cond, Option, Some, None, slice_get, option_to_list}
use Rattle.wx_id.specs.Contexts.{same_context, is_among}
use Rattle.wx_id.specs.declared.numbers.ContextNo.{ContextNo}
use Rattle.wx_id.specs.declared.events.End.{End}
use Rattle.wx_id.specs.declared.events.End.TheVariants.{Opener, Receiver, Neither}
use Rattle.wx_machine.specs.declared.entries.Who.{Who}
use Rattle.wx_machine.specs.declared.entries.Who.TheVariants.{Context as ByContext}
use Rattle.wx_machine.specs.declared.entries.Call.{Call}
use Rattle.wx_machine.specs.declared.entries.Call.TheVariants.{Connect, ConnectNative}
use Rattle.wx_machine.specs.declared.entries.Answer.{Answer}
use Rattle.wx_machine.specs.declared.entries.Answer.TheVariants.{Channel as OnChannel}
use Rattle.wx_machine.specs.declared.entries.Entry.{Entry}
use Rattle.wx_machine.specs.declared.sorts.Sort.TheVariants.{Connection}
use Rattle.wx_machine.specs.Contexts.{receivers_of}

-- the ends of a channel; a native one has a host in place of receivers
pub record Ends : Type 0 where
  pub opener : ContextNo
  pub receivers : List ContextNo

-- A connect that was answered with a channel opens one, from its caller to those that its target reaches, or to the
-- host that it starts.
abbrev pub opened_by : List Entry → Who → Call → Answer → Option Ends
opened_by past (ByContext c) (Connect target name) (OnChannel k) = Some
    (record { opener = c; receivers = receivers_of past c target Connection })
opened_by past (ByContext c) (ConnectNative name) (OnChannel k) = Some (record { opener = c; receivers = [] })
opened_by past _ _ _ = None

-- the ends of the channel that an entry opens
abbrev pub opens : List Entry → Entry → Option Ends
opens past e = opened_by past e.who e.call e.answer

-- the channels, each at the place of its number
abbrev pub channels : List Entry → List Ends
channels [] = []
channels (e ∷ past) = channels past ++ option_to_list (opens past e)

-- channel k
abbrev pub channel : List Entry → ℕ → Option Ends
channel past k = slice_get (channels past) k

-- what context c is to a channel
abbrev pub end_in : Option Ends → ContextNo → End
end_in None c = Neither
end_in (Some ends) c = cond (same_context ends.opener c) Opener (cond (is_among ends.receivers c) Receiver Neither)
