use Rattle.wx_external.proofs.MatchLemmas.{admits_url_by}
use Rattle.wx_external.proofs.gates.admits_page.Goals as goal

pub returns-in-Some : goal.returns-in-Some
returns-in-Some c =
    rw (← c.in-Some.ensures, c.url.ensures.parsed)
    (admits_url_by c.in-Some.manifest.now c.url.result.now c.admits_url.result c.admits_url.ensures)
