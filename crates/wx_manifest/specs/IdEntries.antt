-- A member of `ids` as the manifest writes it.
use Rattle.std.specs.Prelude.{ℕ, List, codes}
use Rattle.wx_manifest.specs.declared.ids.IdEntry.{IdEntry}
use Rattle.wx_manifest.specs.declared.ids.IdEntry.TheVariants.{Any, One}

abbrev pub id_text : IdEntry → List ℕ
id_text Any = codes "*"
id_text (One id) = id
