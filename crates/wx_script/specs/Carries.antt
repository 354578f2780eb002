-- How a journal carries out the scripts of its endpoints.
use Rattle.std.specs.Prelude.{◌≡◌, List, slice_get, Some, IsTrue, reverse}
use Rattle.wx_id.specs.declared.numbers.ContextNo.{ContextNo}
use Rattle.wx_machine.specs.declared.entries.Who.{Who}
use Rattle.wx_machine.specs.declared.entries.Entry.{Entry}
use Rattle.wx_machine.specs.Words.{is_enter, has_pending, EachAfter}
use Rattle.wx_machine.specs.declared.entries.Who.TheVariants.{Context as ByContext, Host as ByHost}
use Rattle.wx_machine.specs.declared.entries.Call.TheVariants.{Take}
use Rattle.wx_script.specs.declared.script.Command.{Command}
use Rattle.wx_script.specs.Places.{Next, enters, asks, waits, ends, next_of}

-- Context c may make the entry where this is next. One that waits takes, where an event is pending for it.
abbrev pub MayCome : List Entry → ContextNo → Next → Entry → Type 0
MayCome past c enters e = IsTrue (is_enter e.call)
MayCome past c (asks x) e = e.call ≡ x
MayCome past c waits e = (e.call ≡ Take) × IsTrue (has_pending past c)
MayCome past c ends e = ⊥

-- Context c is an endpoint, and the entry is what its script asks for after the entries before it.
pub record IsAskedOf (scripts : List (List Command)) (past : List Entry) (c : ContextNo) (e : Entry) : Type 0 where
  pub script : List Command
  pub is_endpoint : slice_get scripts c.0 ≡ Some script
  pub asked : MayCome past c (next_of script c past) e

-- a context's entry is its endpoint's, and what that endpoint's script asks for; a host has no script
abbrev pub AskedOf : List (List Command) → List Entry → Who → Entry → Type 0
AskedOf scripts past (ByContext c) e = IsAskedOf scripts past c e
AskedOf scripts past (ByHost h) e = Unit {0}

-- the same by who made the entry
abbrev pub FollowsScript : List (List Command) → List Entry → Entry → Type 0
FollowsScript scripts past e = AskedOf scripts past e.who e

-- Each entry of a context is what its endpoint's script asks for at that place: each endpoint's entries carry out its
-- script in order.
abbrev pub CarriesOut : List (List Command) → List Entry → Type 0
CarriesOut scripts journal = EachAfter (FollowsScript scripts) (reverse journal)
