use Rattle.std.proofs.Common.{◌∙◌}
use Rattle.wx_host_manifest.proofs.KeyLemmas.{file_with_stem, file_without_stem}
use Rattle.wx_host_manifest.proofs.keys.is_file_of.Goals as goal

pub returns-in-Some : goal.returns-in-Some
returns-in-Some c =
    c.eq.ensures
    ∙ file_with_stem c.args.file_name.now _ c.as_bytes.ensures.value c.in-Some.stem c.in-Some.ensures.cases c.args.name.now _ c.as_bytes-in-Some.ensures.value

pub returns-in-None : goal.returns-in-None
returns-in-None c = file_without_stem c.args.file_name.now _ c.as_bytes.ensures.value c.in-None.ensures.cases c.args.name.now
