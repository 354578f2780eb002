-- What a call of the broker does to its journal.
use Rattle.std.specs.Prelude.{◌≡◌, ◌≤◌, List, [], ◌∷◌, ◌++◌, length, reverse}
use Rattle.wx_machine.specs.declared.entries.Who.{Who}
use Rattle.wx_machine.specs.declared.entries.Call.{Call}
use Rattle.wx_machine.specs.declared.entries.Answer.{Answer}
use Rattle.wx_machine.specs.declared.entries.Entry.{Entry}
use Rattle.wx_machine.specs.Words.{answer_of, contexts, hosts}
use Rattle.wx_broker.specs.State.{BrokerState}

-- one more entry: the call with the machine's answer, which the caller was told; the world stays
pub record Appends (old new : BrokerState) (who : Who) (call : Call) (told : Answer) : Type 0 where
  pub grown : new.entries ≡ old.entries ++ record { who = who; call = call; answer = told } ∷ []
  pub answered : told ≡ answer_of old.world old.entries who call
  pub same_world : new.world ≡ old.world

-- nothing is changed, and there is room for no fewer entries
pub record Stays (old new : BrokerState) : Type 0 where
  pub same_entries : new.entries ≡ old.entries
  pub same_world : new.world ≡ old.world
  pub same_room : old.spare ≤ new.spare

-- the numbers that contexts and hosts were given are not taken back
pub record KeepsNumbers (old new : List Entry) : Type 0 where
  pub contexts_stay : contexts (reverse old) ≤ contexts (reverse new)
  pub hosts_stay : length (hosts (reverse old)) ≤ length (hosts (reverse new))
