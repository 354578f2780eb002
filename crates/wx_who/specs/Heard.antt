-- A journal in which the endpoints of a scene have come in, and each listens to everything.
use Rattle.std.specs.Prelude.{◌≡◌, ℕ, zero, suc, List, [], ◌∷◌, length, Option, Some, None, true, not, ◌&&◌, ◌==◌, slice_get}
use Rattle.wx_context.specs.declared.contexts.Listens.{Listens}
use Rattle.wx_context.specs.declared.contexts.Target.{Target}
use Rattle.wx_machine.specs.declared.sorts.Sort.{Sort}
use Rattle.wx_machine.specs.declared.entries.Entry.{Entry}
use Rattle.wx_machine.specs.declared.entries.Who.TheVariants.{Context as ByContext}
use Rattle.wx_machine.specs.declared.entries.Call.TheVariants.{Enter, Listen}
use Rattle.wx_machine.specs.declared.entries.Answer.TheVariants.{Entered, Done}
use Rattle.wx_machine.specs.Contexts.{is_receiver}
use Rattle.wx_script.specs.declared.scene.SceneEndpoint.{SceneEndpoint}
use Rattle.wx_script.specs.Ends.{numbered}
use Rattle.wx_who.specs.Reach.{is_for}

abbrev pub everything : Listens
everything = record { connect = true; message = true; external_connect = true; external_message = true }

-- the journal, newest entry first, after an endpoint came in as context n and said that it listens to everything
abbrev pub with_listener : ℕ → Option SceneEndpoint → List Entry → List Entry
with_listener n None past = past
with_listener n (Some endpoint) past =
    record { who = ByContext (numbered n); call = Listen everything; answer = Done }
    ∷ record { who = ByContext (numbered n); call = Enter endpoint.context; answer = Entered (numbered n) }
    ∷ past

-- the journal after the first n of the endpoints came in, in scene order
abbrev pub listeners : List SceneEndpoint → ℕ → List Entry
listeners endpoints zero = []
listeners endpoints (suc n) = with_listener n (slice_get endpoints n) (listeners endpoints n)

-- Where all listen to everything, an endpoint receives what another sends to a target, be it a connection or a message,
-- exactly where the table names it.
abbrev pub ReceivesWhereNamed : Type 0
ReceivesWhereNamed =
    (endpoints : List SceneEndpoint) (c d : ℕ) (caller other : SceneEndpoint) (target : Target) (sort : Sort)
    → slice_get endpoints c ≡ Some caller → slice_get endpoints d ≡ Some other
    → is_receiver (listeners endpoints (length endpoints)) (numbered c) target sort (numbered d)
    ≡ (not (d == c) && is_for caller.context target other)
