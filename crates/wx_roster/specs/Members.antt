-- The contexts that came in, as contracts see them: a list, each at the place of its number.
use Rattle.std.specs.Prelude.{ℕ, length, List, map, Bool, true, false, not, ◌&&◌, Option, Some, None, filter, slice_get}
use Rattle.std.specs.Option.{option_map}
use Rattle.std.specs.List.{range_with_len}
use Rattle.wx_id.specs.Contexts.{same_context}
use Rattle.wx_id.specs.declared.numbers.ContextNo.{ContextNo}
use Rattle.wx_context.specs.declared.contexts.Context.{Context}
use Rattle.wx_context.specs.declared.contexts.Target.{Target}
use Rattle.wx_context.specs.declared.contexts.Listens.{Listens}
use Rattle.wx_machine.specs.declared.sorts.Sort.{Sort}
use Rattle.wx_machine.specs.Contexts.{deaf, reaches_from}
use Rattle.wx_roster.specs.declared.roster.Member.{Member}

-- a context that has just come in
abbrev pub newcomer : Context → Member
newcomer x = record { context = x; listens = deaf; is_live = true }

-- one that listens so
abbrev pub listening : Listens → Member → Member
listening l member = record member { listens = l }

-- one that left
abbrev pub gone : Member → Member
gone member = record member { is_live = false }

abbrev pub is_live_in : Option Member → Bool
is_live_in None = false
is_live_in (Some member) = member.is_live

-- context c
abbrev pub context_in : List Member → ContextNo → Option Context
context_in members c = option_map (λ member. member.context) (slice_get members c.0)

-- whether what a caller sends to a target reaches one that lives
abbrev pub hears_from : Option Context → Target → Sort → Option Member → Bool
hears_from x target sort None = false
hears_from x target sort (Some member) =
    member.is_live && reaches_from x target sort (Some member.context) member.listens

-- whether context d is a receiver of what context c sends to a target
abbrev pub is_receiver_in : List Member → ContextNo → Target → Sort → ContextNo → Bool
is_receiver_in members c target sort d =
    not (same_context d c) && hears_from (context_in members c) target sort (slice_get members d.0)

abbrev pub numbered : ℕ → ContextNo
numbered i = record { 0 = i }

-- the numbers that were given, rising
abbrev pub numbers_in : List Member → List ContextNo
numbers_in members = map numbered (range_with_len 0 (length members))

-- the receivers of what context c sends to a target, in rising number
abbrev pub receivers_in : List Member → ContextNo → Target → Sort → List ContextNo
receivers_in members c target sort = filter (is_receiver_in members c target sort) (numbers_in members)
