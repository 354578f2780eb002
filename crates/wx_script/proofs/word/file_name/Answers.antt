use Rattle.std.proofs.Common.{◌∙◌, sym, arith, Some, None}
use Rattle.std.proofs.lemmas.Str.Pattern.{split_parts}
use Rattle.wx_script.proofs.WordLemmas.{file_name-slash, file_name-no_slash, utf8_behind_slash}
use Rattle.wx_script.proofs.word.file_name.Goals as goal

pub loop-rest-preserved : goal.loop-rest-preserved
loop-rest-preserved c =
    let left = c.loop-rest.left.now in
    let parts = split_parts 47 left (Some (c.in-Some.field-0-0, c.in-Some.rest)) c.in-Some.ensures.cases (omega arith) in (
      utf8_behind_slash left c.in-Some.field-0-0.now c.in-Some.rest.now parts.0 c.loop-rest.invariant.0,
      sym (file_name-slash left c.in-Some.field-0-0.now c.in-Some.rest.now parts.0) ∙ c.loop-rest.invariant.1,
    )

pub returns : goal.returns
returns c =
    let left = c.loop-rest.left.now in
    sym (file_name-no_slash left (split_parts 47 left None c.in_default.ensures.cases (omega arith))) ∙ c.loop-rest.invariant.1
