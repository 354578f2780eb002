-- The entry that closes a channel.
use Rattle.std.specs.Prelude.{ℕ, length, List, [], ◌∷◌, Bool, true, false, not, ◌&&◌, cond, Option, Some, None, is_some, ◌==◌}
use Rattle.std.specs.Option.{option_or}
use Rattle.std.specs.List.{list_any}
use Rattle.wx_id.specs.declared.events.End.{End}
use Rattle.wx_id.specs.declared.events.End.TheVariants.{Opener, Receiver, Neither}
use Rattle.wx_machine.specs.declared.entries.Who.{Who}
use Rattle.wx_machine.specs.declared.entries.Who.TheVariants.{Context as ByContext, Host as ByHost}
use Rattle.wx_machine.specs.declared.entries.Call.{Call}
use Rattle.wx_machine.specs.declared.entries.Call.TheVariants.{Disconnect, Leave, HostEnded}
use Rattle.wx_machine.specs.declared.entries.Entry.{Entry}
use Rattle.wx_machine.specs.Contexts.{is_live}
use Rattle.wx_machine.specs.Channels.{Ends, channel, end_in}
use Rattle.wx_machine.specs.Hosts.{is_for_channel, work_of}

-- some receiver of the channel lives
abbrev pub has_live : List Entry → Option Ends → Bool
has_live past None = false
has_live past (Some ends) = list_any (is_live past) ends.receivers

abbrev pub is_one : End → Bool
is_one Neither = false
is_one _ = true

-- whether an end's leave closes the channel, given whether a receiver still lives: the opener's does, and the last
-- receiver's
abbrev pub leaving : End → Bool → Bool
leaving Opener live = true
leaving Receiver live = not live
leaving Neither live = false

-- entry e ends channel k, which has these ends: a disconnect by a live end, a leave, or the end of its host
abbrev pub ends_by : List Entry → Entry → ℕ → Option Ends → Who → Call → Bool
ends_by past e k ends (ByContext c) (Disconnect j) = (j.0 == k) && is_one (end_in ends c) && is_live past c
ends_by past e k ends (ByContext c) Leave = leaving (end_in ends c) (has_live (e ∷ past) ends)
ends_by past e k ends (ByHost h) (HostEnded reason) = is_for_channel k (work_of past h)
ends_by past e k ends _ _ = false

abbrev pub ends_channel : List Entry → Entry → ℕ → Bool
ends_channel past e k = ends_by past e k (channel past k) e.who e.call

-- the number of the entry that closed channel k: the first after its opening that ends it
abbrev pub closed_at : List Entry → ℕ → Option ℕ
closed_at [] k = None
closed_at (e ∷ past) k = option_or (closed_at past k) (cond (ends_channel past e k) (Some (length past)) None)

abbrev pub is_closed : List Entry → ℕ → Bool
is_closed past k = is_some (closed_at past k)

-- entry e closes channel k
abbrev pub closes : List Entry → Entry → ℕ → Bool
closes past e k = not (is_closed past k) && ends_channel past e k
