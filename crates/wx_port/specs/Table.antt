-- How the rows and the slab of open channels make the list of channels.
use Rattle.std.specs.Prelude.{◌≡◌, ℕ, List, [], Bool, true, false, map, Option, Some, None, filter, slice_get}
use Rattle.slab.specs.Slab.{Slab, get}
use Rattle.wx_id.specs.Contexts.{is_other}
use Rattle.wx_id.specs.declared.numbers.ContextNo.{ContextNo}
use Rattle.wx_port.specs.declared.table.Row.{Row}
use Rattle.wx_port.specs.declared.table.Open.{Open}
use Rattle.wx_port.specs.Port.{Port}

-- the place of an open channel in the slab
abbrev pub place_of : Option Row → Option ℕ
place_of None = None
place_of (Some row) = row.place

-- the number of the channel that stands at a place
abbrev pub number_of : Option Open → Option ℕ
number_of None = None
number_of (Some o) = Some o.number

-- what the slab has at the place of an open channel
abbrev pub found : Slab Open → Option ℕ → Option Open
found slab None = None
found slab (Some p) = get slab p

-- the row of a channel that is closed
abbrev pub cleared : Row → Row
cleared row = record { opener = row.opener; receivers = row.receivers; place = None }

-- the channel of a row and what the slab has of it
abbrev pub port_with : Row → Option Open → Port
port_with row None = record { opener = row.opener; receivers = row.receivers.items; live = []; is_open = false }
port_with row (Some o) = record {
  opener = row.opener;
  receivers = row.receivers.items;
  live = o.live.items;
  is_open =
      true;
}

abbrev pub port_in : Slab Open → Row → Port
port_in slab row = port_with row (found slab row.place)

-- the channels by number
abbrev pub ports_of : Slab Open → List Row → List Port
ports_of slab rows = map (port_in slab) rows

-- the place of an open channel has that channel
pub record IsTable (slab : Slab Open) (rows : List Row) : Type 0 where
  pub held : (k p : ℕ) → place_of (slice_get rows k) ≡ Some p → number_of (get slab p) ≡ Some k

-- the channel without receiver c
abbrev pub fewer : ContextNo → Port → Port
fewer c port = record {
  opener = port.opener;
  receivers = port.receivers;
  live = filter (is_other c) port.live;
  is_open
      = port.is_open;
}
