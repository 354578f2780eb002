-- Channels as a list by number, as contracts see them.
use Rattle.std.specs.Prelude.{◌≡◌, List, [], ◌∷◌, Bool, true, false, ◌&&◌, ◌||◌, IsTrue, Option, Some, None, filter, if◌then◌else◌}
use Rattle.wx_id.specs.Contexts.{same_context, is_among, is_other, are_distinct}
use Rattle.wx_id.specs.declared.numbers.ContextNo.{ContextNo}
use Rattle.wx_id.specs.declared.events.End.{End}
use Rattle.wx_id.specs.declared.events.End.TheVariants.{Opener, Receiver, Neither}

-- a channel: its ends, its live receivers, and whether it is open
pub record Port : Type 0 where
  pub opener : ContextNo
  pub receivers : List ContextNo
  pub live : List ContextNo
  pub is_open : Bool

-- what holds of every channel: its ends are distinct, its live receivers are receivers and distinct, and none is live
-- once it is closed
pub record IsSound (port : Port) : Type 0 where
  pub opener : is_among port.receivers port.opener ≡ false
  pub receivers : IsTrue (are_distinct port.receivers)
  pub live : IsTrue (are_distinct port.live)
  pub within : (c : ContextNo) → IsTrue (is_among port.live c) → IsTrue (is_among port.receivers c)
  pub closed : port.is_open ≡ false → port.live ≡ []

-- a channel as it is opened
abbrev pub opened : ContextNo → List ContextNo → Port
opened opener receivers = record { opener = opener; receivers = receivers; live = receivers; is_open = true }

-- the channel closed: its ends stay, and no receiver is live
abbrev pub closed : Port → Port
closed port = record { opener = port.opener; receivers = port.receivers; live = []; is_open = false }

-- the channel with these live receivers, closed where there are none
abbrev pub with_live : Port → List ContextNo → Port
with_live port [] = closed port
with_live port (c ∷ cs) = record port { live = c ∷ cs }

-- the channel once its end c has dropped it: the opener's drop closes it, and so does the last receiver's
abbrev pub without : ContextNo → Port → Port
without c port = if same_context port.opener c then closed port else with_live port (filter (is_other c) port.live)

-- c is an end of the channel, live or not
abbrev pub is_end : Port → ContextNo → Bool
is_end port c = same_context port.opener c || is_among port.receivers c

-- the channel once context c has left: an open one of which c is an end is dropped by it
abbrev pub left_by : ContextNo → Port → Port
left_by c port = if port.is_open && is_end port c then without c port else port

-- what c is to a channel, open or closed; nothing to one that was not opened yet
abbrev pub end_of : Option Port → ContextNo → End
end_of None c = Neither
end_of (Some port) c = if same_context port.opener c then Opener else
    (if is_among port.receivers c then Receiver else Neither)

-- the channel is there and open
abbrev pub is_open_port : Option Port → Bool
is_open_port None = false
is_open_port (Some port) = port.is_open

-- the live receivers of a channel; none of one that was not opened yet
abbrev pub live_of : Option Port → List ContextNo
live_of None = []
live_of (Some port) = port.live

-- c is the opener of an open channel, or one of its live receivers
abbrev pub is_live_end : Option Port → ContextNo → Bool
is_live_end None c = false
is_live_end (Some port) c = port.is_open && (same_context port.opener c || is_among port.live c)
