-- Who may reach whom (Chrome's "Message passing", "externally_connectable" and "Native messaging"; MDN's
-- "externally_connectable").
use Rattle.std.specs.Prelude.{ℕ, Bool, true, false, not, List, Option, Some, None, Ok, Err, bytes_eq, slice_get, if◌then◌else◌}
use Rattle.std.specs.Option.{option_map_or}
use Rattle.url.specs.Parts.{Parts}
use Rattle.url.specs.Parser.{Parsed, parse_url}
use Rattle.wx_id.specs.HostNames.{is_host_name}
use Rattle.wx_manifest.specs.ExtensionManifests.{Manifest, admits_id}
use Rattle.wx_host_manifest.specs.HostManifests.{Host, admits}
use Rattle.wx_context.specs.declared.contexts.Context.{Context}
use Rattle.wx_context.specs.declared.contexts.Context.TheVariants.{Page, Content, Web}
use Rattle.wx_context.specs.declared.contexts.Target.{Target}
use Rattle.wx_context.specs.declared.contexts.Target.TheVariants.{Own, Other, Tab}
use Rattle.wx_external.specs.declared.gates.Verdict.{Verdict}
use Rattle.wx_external.specs.declared.gates.Verdict.TheVariants.{Open, BadTarget, Forbidden}
use Rattle.wx_external.specs.declared.gates.Rule.TheVariants.{Id, Url}
use Rattle.wx_external.specs.declared.native.NativeVerdict.{NativeVerdict}
use Rattle.wx_external.specs.declared.native.NativeVerdict.TheVariants as native
use Rattle.wx_external.specs.World.{WorldLists, manifest_of, host_place}
use Rattle.wx_external.specs.Matching.{admits_url}

-- an extension with this id may call one with this manifest; each may call one without
abbrev pub admits_extension : Option Manifest → List ℕ → Bool
admits_extension None id = true
admits_extension (Some manifest) id = admits_id manifest id

abbrev pub admits_parsed : Manifest → Parsed Parts → Bool
admits_parsed manifest (Ok url) = admits_url manifest url
admits_parsed manifest (Err error) = false

-- a web page at the URL with this text may call an extension with this manifest; none may call one without
abbrev pub admits_page : Option Manifest → List ℕ → Bool
admits_page None url = false
admits_page (Some manifest) url = admits_parsed manifest (parse_url None url)

-- the extension has the permission `nativeMessaging`; one without a manifest has none
abbrev pub has_permission : Option Manifest → Bool
has_permission None = false
has_permission (Some manifest) = manifest.native

abbrev pub own_or_other : List ℕ → List ℕ → Target
own_or_other ext id = if bytes_eq id ext then Own else Other id

-- whom the caller means: `Other` with its own extension's id is `Own`
abbrev pub meant : Context → Target → Target
meant (Page ext path) (Other id) = own_or_other ext id
meant (Content ext tab frame url) (Other id) = own_or_other ext id
meant caller target = target

-- one line for each sort of caller and each sort of target
abbrev pub verdict_of : WorldLists → Context → Target → Verdict
verdict_of world (Page ext path) Own = Open false
verdict_of world (Page ext path) (Other id) = if admits_extension (manifest_of world id) ext then Open true else
    Forbidden Id
verdict_of world (Page ext path) (Tab tab frame) = Open false
verdict_of world (Content ext tab frame url) Own = Open false
verdict_of world (Content ext tab frame url) (Other id) = BadTarget
verdict_of world (Content ext tab frame url) (Tab other within) = BadTarget
verdict_of world (Web tab frame url) Own = BadTarget
verdict_of world (Web tab frame url) (Other id) = if admits_page (manifest_of world id) url then Open true else
    Forbidden Url
verdict_of world (Web tab frame url) (Tab other within) = BadTarget

-- whether a context may reach a target, and if so, whether from outside the target's extension
abbrev pub gate_of : WorldLists → Context → Target → Verdict
gate_of world caller target = verdict_of world caller (meant caller target)

-- the host at that place lets the extension call
abbrev pub admits_caller : Option Host → List ℕ → Bool
admits_caller host ext = option_map_or (λ (found : Host). admits found ext) host false

-- last: the host of that name is there, and it lets the extension call
abbrev pub verdict_at : WorldLists → List ℕ → Option ℕ → NativeVerdict
verdict_at world ext None = native.HostNotFound
verdict_at world ext (Some place) = if admits_caller (slice_get world.hosts place) ext then native.Open place else
    native.HostForbidden

-- whether a context may call the native host of that name: the tests in their order
unfoldable pub native_gate_of : WorldLists → Context → List ℕ → NativeVerdict
native_gate_of world (Page ext path) name =
    if not (has_permission (manifest_of world ext)) then native.NoPermission
    else (if not (is_host_name name) then native.BadHostName
    else verdict_at world ext (host_place world name))
native_gate_of world (Content ext tab frame url) name = native.BadTarget
native_gate_of world (Web tab frame url) name = native.BadTarget
