-- The opening of a run: each endpoint of the scene comes in, in order, and makes its `listen` where its first command
-- is a `listen` that is not repeated.
use Rattle.std.specs.Prelude.{ℕ, ◌+◌, List, [], ◌∷◌, ◌++◌, Option, Some, None, option_to_list}
use Rattle.std.specs.Option.{option_map}
use Rattle.wx_id.specs.declared.numbers.ContextNo.{ContextNo}
use Rattle.wx_context.specs.declared.contexts.Context.{Context}
use Rattle.wx_context.specs.declared.contexts.Listens.{Listens}
use Rattle.wx_machine.specs.declared.entries.Who.TheVariants.{Context as ByContext}
use Rattle.wx_machine.specs.declared.entries.Call.TheVariants as call
use Rattle.wx_machine.specs.declared.entries.Answer.TheVariants as answer
use Rattle.wx_machine.specs.declared.entries.Entry.{Entry}
use Rattle.wx_script.specs.declared.script.Act.TheVariants as act
use Rattle.wx_script.specs.declared.script.Command.{Command}
use Rattle.wx_script.specs.declared.script.Command.TheVariants.{Plain}
use Rattle.wx_script.specs.declared.scene.SceneEndpoint.{SceneEndpoint}
use Rattle.wx_script.specs.SceneValue.{SceneValue}

-- context c comes in
abbrev pub entered : ContextNo → Context → Entry
entered c x = record { who = ByContext c; call = call.Enter x; answer = answer.Entered c }

-- context c says what it listens to
abbrev pub listened : ContextNo → Listens → Entry
listened c l = record { who = ByContext c; call = call.Listen l; answer = answer.Done }

-- what a command listens to, where it is a `listen` that is not repeated
abbrev pub plain_listen : Command → Option Listens
plain_listen (Plain (act.Listen l)) = Some l
plain_listen _ = None

-- what the first command listens to, where it is a `listen` that is not repeated
abbrev pub first_listen : List Command → Option Listens
first_listen [] = None
first_listen (c ∷ commands) = plain_listen c

-- an endpoint's `enter`, and its `listen` where its first command is a `listen` that is not repeated
abbrev pub first_entries : ContextNo → SceneEndpoint → List Entry
first_entries c endpoint = entered c endpoint.context ∷ option_to_list
    (option_map (listened c) (first_listen endpoint.script))

-- the first entries of these endpoints, which are numbered from n
abbrev pub opening_from : ℕ → List SceneEndpoint → List Entry
opening_from n [] = []
opening_from n (endpoint ∷ endpoints) = first_entries (record { 0 = n }) endpoint ++ opening_from (n + 1) endpoints

-- the opening of a run of the scene, in order
abbrev pub opening : SceneValue → List Entry
opening scene = opening_from 0 scene.endpoints
