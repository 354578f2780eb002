-- The definitions at worked examples, computed.
use Rattle.std.specs.Prelude.{◌≡◌, refl, codes, Some, None}
use Rattle.url.proofs.OnLiterals.{url_on_literals}
use Rattle.wx_context.specs.WebUrls.{is_web, web_url_of}

an_https_url : web_url_of (codes "HTTPS://A.b") ≡ Some (codes "https://a.b/")
unfolding web_url_of is_web url_on_literals
an_https_url = refl

a_file_url : web_url_of (codes "file:///x") ≡ None
unfolding web_url_of is_web url_on_literals
a_file_url = refl

an_ftp_url : web_url_of (codes "ftp://a.b/") ≡ None
unfolding web_url_of is_web url_on_literals
an_ftp_url = refl

a_relative_text : web_url_of (codes "/f") ≡ None
unfolding web_url_of is_web url_on_literals
a_relative_text = refl
