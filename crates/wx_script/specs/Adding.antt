-- What the code answers that takes a line.
use Rattle.std.specs.Prelude.{◌≡◌, Result, Ok, Err}
use Rattle.wx_script.specs.declared.scene.SceneKind.{SceneKind}
use Rattle.wx_script.specs.declared.draft.Draft as code
use Rattle.wx_script.specs.declared.draft.LineFault.{LineFault}
use Rattle.wx_script.specs.declared.draft.LineFault.TheVariants as fault
use Rattle.wx_script.specs.Names.{names_of, ids_of, file_names_of, endpoint_names_of}
use Rattle.wx_script.specs.Draft.{Draft}

abbrev pub so_far : code.Draft → Draft
so_far d = record {
  extensions = d.extensions.items;
  hosts = d.hosts.items;
  files = d.files.items;
  endpoints =
      d.endpoints.items;
  variables = d.variables;
}

-- the names and ids by which the code finds what is declared are those of what is declared
pub record IsIndexed (d : code.Draft) : Type 0 where
  pub extension_names : d.extension_names ≡ names_of d.extensions.items
  pub extension_ids : d.extension_ids ≡ ids_of d.extensions.items
  pub host_names : d.host_names ≡ file_names_of d.hosts.items
  pub endpoint_names : d.endpoint_names ≡ endpoint_names_of d.endpoints.items

abbrev pub IsFault : {A : Type 0} → LineFault → Result A SceneKind → Type 0
IsFault fault.NoMemory made = Unit {0}
IsFault (fault.Bad k) made = made ≡ Err k

-- the draft is what the line makes of it, unless memory ran out
abbrev pub MakesDraft : {A : Type 0} → Draft → Result A LineFault → Result Draft SceneKind → Type 0
MakesDraft new (Ok x) made = made ≡ Ok new
MakesDraft new (Err e) made = IsFault e made

-- the result is what is made, unless memory ran out
abbrev pub MakesResult : {A : Type 0} → Result A LineFault → Result A SceneKind → Type 0
MakesResult (Ok x) made = made ≡ Ok x
MakesResult (Err e) made = IsFault e made
