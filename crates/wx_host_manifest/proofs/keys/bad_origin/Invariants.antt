use Rattle.std.proofs.Common.{◌≡◌, drop}
use Rattle.std.specs.Prelude.{not}
use Rattle.std.specs.List.{position_from}
use Rattle.wx_host_manifest.specs.Origins.{is_origin}
use Rattle.wx_host_manifest.proofs.keys.bad_origin.Given as goal

abbrev pub invariant-loop-place : goal.invariant-loop-place
invariant-loop-place l =
    position_from (λ text. not (is_origin text)) 0 l.origins ≡ position_from (λ text. not (is_origin text)) l.place (drop l.place l.origins)
