-- What a desk over a broker that nobody else has tells.
use Rattle.std.specs.Prelude.{reverse, Bool, true, false, Option, Some, None, is_some}
use Rattle.wx_id.specs.declared.numbers.EntryNo.{EntryNo}
use Rattle.wx_machine.specs.declared.entries.Who.{Who}
use Rattle.wx_machine.specs.Words.{text_of}
use Rattle.wx_broker.specs.State.{BrokerState}
use Rattle.wx_desk.specs.History.{seen_by}
use Rattle.wx_desk.specs.Desks.{DeskState}

-- the desk of one who is alone there: its own entries are those that it made
abbrev pub desk_over : {A : Type 0} (as_who : A → Who) → A → BrokerState → DeskState A as_who
desk_over as_who who broker =
    record { who = who; world = broker.world; history = seen_by (as_who who) (reverse broker.entries); alone = true }

-- the same desk, with others at its broker
abbrev pub shared : {A : Type 0} {as_who : A → Who} → DeskState A as_who → DeskState A as_who
shared desk = record desk { alone = false }

-- the entry whose text is lent carries one
abbrev pub has_lent : BrokerState → Option EntryNo → Bool
has_lent broker None = true
has_lent broker (Some e) = is_some (text_of (reverse broker.entries) e)
