-- What comes of a call from an endpoint of a scene to a target, whoever listens: the gate's verdict, and who would
-- receive it.
use Rattle.std.specs.Prelude.{ℕ, List, ◌++◌, Bool, true, false, filter, flat_map, codes, if◌then◌else◌}
use Rattle.std.specs.List.{list_any}
use Rattle.wx_context.specs.declared.contexts.Context.{Context}
use Rattle.wx_context.specs.declared.contexts.Target.{Target}
use Rattle.wx_external.specs.World.{WorldLists}
use Rattle.wx_external.specs.Gate.{gate_of, meant, native_gate_of}
use Rattle.wx_external.specs.declared.gates.Verdict.{Verdict}
use Rattle.wx_external.specs.declared.gates.Verdict.TheVariants.{Open, BadTarget, Forbidden}
use Rattle.wx_external.specs.declared.gates.Rule.TheVariants.{Id, Url}
use Rattle.wx_external.specs.declared.native.NativeVerdict.{NativeVerdict}
use Rattle.wx_external.specs.declared.native.NativeVerdict.TheVariants as native
use Rattle.wx_machine.specs.Contexts.{extension_of, names as is_named_by}
use Rattle.wx_script.specs.declared.scene.SceneEndpoint.{SceneEndpoint}

-- an endpoint that calls, in a world, and the other endpoints of its scene in order
pub record Caller : Type 0 where
  pub world : WorldLists
  pub endpoint : SceneEndpoint
  pub others : List SceneEndpoint

-- what a context sends to a target is for this endpoint, if that listens to it
abbrev pub is_for : Context → Target → SceneEndpoint → Bool
is_for x target other = is_named_by (extension_of x) (meant x target) other.context

-- those of the endpoints that what the context sends is for
abbrev pub receivers : Context → Target → List SceneEndpoint → List SceneEndpoint
receivers x target others = filter (is_for x target) others

-- each name after a space
abbrev pub names_text : List SceneEndpoint → List ℕ
names_text endpoints = flat_map (λ (e : SceneEndpoint). codes " " ++ e.name) endpoints

-- the same of the receivers, or a dash where there is none
abbrev pub receivers_text : Context → Target → List SceneEndpoint → List ℕ
receivers_text x target others =
    if list_any (is_for x target) others then names_text (receivers x target others) else codes " -"

-- a verdict of the gate, and where it is open, who would receive the call
abbrev pub verdict_text : Verdict → List ℕ → List ℕ
verdict_text (Open false) names = codes "open internal to" ++ names
verdict_text (Open true) names = codes "open external to" ++ names
verdict_text BadTarget names = codes "bad_target"
verdict_text (Forbidden Id) names = codes "forbidden id"
verdict_text (Forbidden Url) names = codes "forbidden url"

-- what comes of the caller's calls to the target
abbrev pub reach_text : Caller → Target → List ℕ
reach_text caller target =
    verdict_text (gate_of caller.world caller.endpoint.context target)
    (receivers_text caller.endpoint.context target caller.others)

-- a verdict of the native gate
abbrev pub native_text : NativeVerdict → List ℕ
native_text (native.Open place) = codes "open"
native_text native.BadTarget = codes "bad_target"
native_text native.NoPermission = codes "no_permission"
native_text native.BadHostName = codes "bad_host_name"
native_text native.HostNotFound = codes "host_not_found"
native_text native.HostForbidden = codes "host_forbidden"

-- what comes of the caller's calls to the native host of that name
abbrev pub native_reach_text : Caller → List ℕ → List ℕ
native_reach_text caller name = native_text (native_gate_of caller.world caller.endpoint.context name)
