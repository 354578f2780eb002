-- The match test is the match relation.
use Rattle.std.proofs.Common.{◌≡◌, ◌≢◌, ℕ, List, [], ◌∷◌, ◌++◌, Bool, true, false, Some, None, Option, refl, sym, ap, ◌∙◌, subst, inl, inr}
use Rattle.std.specs.Prelude.{◌&&◌, ◌||◌, ◌==◌, ◌↔◌, IsTrue, codes, bytes_eq}
use Rattle.std.specs.Bool.{Decides, one_answer}
use Rattle.std.specs.List.{list_any}
use Rattle.std.proofs.lemmas.Bool.{cases_Bool, cond-true, cond-false, and_parts, eqb-false}
use Rattle.std.proofs.lemmas.Bool.Decides.{Decides-or, Decides-and}
use Rattle.std.proofs.lemmas.Slice.Eq.{bytes_eq-Decides}
use Rattle.std.proofs.Common.{eqb-true, eq-eqb, ne_eqb}
use Rattle.url.specs.Ascii.{dot}
use Rattle.url.specs.Input.{lowercase}
use Rattle.url.specs.Parts.{Parts}
use Rattle.wx_match_pattern.specs.declared.parts.SchemePart.{SchemePart}
use Rattle.wx_match_pattern.specs.declared.parts.SchemePart.TheVariants.{Any, Http, Https, File}
use Rattle.wx_match_pattern.specs.Globs.{Globs, star, ends, run, same}
use Rattle.wx_match_pattern.specs.Meets.{Meets, SchemeAgrees, HostAgrees, NameAgrees, IsSameName, IsBelow, IsWebScheme, host_of, path_and_query}
use Rattle.wx_match_pattern.specs.Pattern.{HostPart, no_host, any_host, below, named, PatternParts, all_urls, parts}
use Rattle.wx_manifest.specs.ExtensionManifests.{Manifest, SomeMeets, AdmitsUrl, patterns_in}
use Rattle.wx_context.specs.WebUrls.{is_web_scheme}
use Rattle.wx_external.specs.Matching.{some_suffix, rest_passes, globs, scheme_agrees, is_same_name, is_below, name_agrees, host_agrees, meets, admits_url}

-- ---- suffixes

-- a suffix of the text passes
abbrev HasSuffix : (List ℕ → Bool) → List ℕ → Type 0
HasSuffix passes text = (front : List ℕ) × (suffix : List ℕ) × (text ≡ front ++ suffix) × (passes suffix ≡ true)

suffix_found : (passes : List ℕ → Bool) (text : List ℕ) → some_suffix passes text ≡ true → HasSuffix passes text
unfolding some_suffix
suffix_found passes [] h = ([], [], refl, h)
suffix_found passes (b ∷ text) h =
    elim (cases_Bool (passes (b ∷ text))) [
      | inl here ↦ ([], b ∷ text, refl, here)
      | inr not_here ↦
          let later = suffix_found passes text (sym (ap (λ x. x || some_suffix passes text) not_here) ∙ h) in
          (b ∷ later.0, later.1, ap (λ t. b ∷ t) later.2, later.3)
    ]

suffix_passes : (passes : List ℕ → Bool) (front suffix : List ℕ) → passes suffix ≡ true → some_suffix passes (front ++ suffix) ≡ true
unfolding some_suffix
suffix_passes passes [] [] h = h
suffix_passes passes [] (b ∷ suffix) h = rw h refl
suffix_passes passes (f ∷ front) suffix h = rw (suffix_passes passes front suffix h) (or_true (passes (f ∷ (front ++ suffix))))
  where
    or_true : (x : Bool) → (x || true) ≡ true
    or_true true = refl
    or_true false = refl

-- ---- globs

-- a character that is no `*` and a text that begins with it
same_found : (c : ℕ) (pattern text : List ℕ) → c ≢ star → ((rest : List ℕ) → globs pattern rest ≡ true → Globs pattern rest)
    → rest_passes c (globs pattern) text ≡ true → Globs (c ∷ pattern) text
same_found c pattern [] plain rest h = absurd (cc)
same_found c pattern (b ∷ text) plain rest h =
    let both = and_parts (b == c) (globs pattern text) h in
    subst (λ (d : ℕ). Globs (c ∷ pattern) (d ∷ text)) (sym (eqb-true b c both.0)) (same c plain (rest text both.1))

globs_found : (pattern text : List ℕ) → globs pattern text ≡ true → Globs pattern text
unfolding globs
globs_found [] [] h = ends
globs_found [] (b ∷ text) h = absurd (cc)
globs_found (c ∷ pattern) text h =
    elim (cases_Bool (c == star)) [
      | inl is ↦
          let found = suffix_found (globs pattern) text (sym (cond-true (c == star) _ (rest_passes c (globs pattern) text) is) ∙ h) in
          subst (λ (d : ℕ). Globs (d ∷ pattern) text) (sym (eqb-true c star is)) (run found.0 found.1 found.2 (globs_found pattern found.1 found.3))
      | inr plain ↦
          same_found c pattern text (eqb-false c star plain) (globs_found pattern) (sym (cond-false (c == star) (some_suffix (globs pattern) text) _ plain) ∙ h)
    ]

globs_compute : {pattern text : List ℕ} → Globs pattern text → globs pattern text ≡ true
unfolding globs
globs_compute ends = refl
globs_compute (run {p} {x} front suffix is g) =
    subst (λ (t : List ℕ). some_suffix (globs p) t ≡ true) (sym is) (suffix_passes (globs p) front suffix (globs_compute g))
globs_compute (same {p} {x} c plain g) =
    cond-false (c == star) _ _ (ne_eqb c star plain) ∙ rw (eq-eqb c c refl) (globs_compute g)

globs-Decides : (pattern text : List ℕ) → Decides (globs pattern text) (Globs pattern text)
globs-Decides pattern text = (globs_found pattern text, λ g. globs_compute g)

-- ---- hosts

is_below-Decides : (name host : List ℕ) → Decides (is_below name host) (IsBelow name host)
is_below-Decides name host =
    let test = λ (suffix : List ℕ). bytes_eq suffix (dot ∷ lowercase name) in (
      λ h.
          let found = suffix_found test (lowercase host) h in
          let is = (bytes_eq-Decides found.1 (dot ∷ lowercase name)).0 found.3 in
          (found.0, found.2 ∙ ap (λ t. found.0 ++ t) is),
      λ below.
          subst (λ (t : List ℕ). some_suffix test t ≡ true) (sym below.1)
          (suffix_passes test below.0 (dot ∷ lowercase name) ((bytes_eq-Decides (dot ∷ lowercase name) (dot ∷ lowercase name)).1 refl)),
    )

same_name-Decides : (name host : List ℕ) → Decides (is_same_name name host) (IsSameName name host)
same_name-Decides name host = bytes_eq-Decides (lowercase host) (lowercase name)

name_agrees-Decides : (host : HostPart) (text : List ℕ) → Decides (name_agrees host text) (NameAgrees host text)
name_agrees-Decides no_host text = (λ h. absurd (cc), λ never. absurd never)
name_agrees-Decides any_host text = (λ _. tt, λ _. refl)
name_agrees-Decides (below name) text = Decides-or _ _ (same_name-Decides name text) (is_below-Decides name text)
name_agrees-Decides (named name) text = same_name-Decides name text

host_agrees-Decides : (host : HostPart) (text : Option (List ℕ)) → Decides (host_agrees host text) (HostAgrees host text)
host_agrees-Decides no_host None = (λ _. tt, λ _. refl)
host_agrees-Decides any_host None = (λ _. tt, λ _. refl)
host_agrees-Decides (below name) None = (λ h. absurd (cc), λ never. absurd never)
host_agrees-Decides (named name) None = (λ h. absurd (cc), λ never. absurd never)
host_agrees-Decides no_host (Some text) = name_agrees-Decides no_host text
host_agrees-Decides any_host (Some text) = name_agrees-Decides any_host text
host_agrees-Decides (below name) (Some text) = name_agrees-Decides (below name) text
host_agrees-Decides (named name) (Some text) = name_agrees-Decides (named name) text

-- ---- schemes and whole patterns

is_web_scheme-Decides : (scheme : List ℕ) → Decides (is_web_scheme scheme) (IsWebScheme scheme)
is_web_scheme-Decides scheme =
    Decides-or _ _ (bytes_eq-Decides scheme (codes "http")) (bytes_eq-Decides scheme (codes "https"))

scheme_agrees-Decides : (part : SchemePart) (scheme : List ℕ) → Decides (scheme_agrees part scheme) (SchemeAgrees part scheme)
scheme_agrees-Decides Any scheme = is_web_scheme-Decides scheme
scheme_agrees-Decides Http scheme = bytes_eq-Decides scheme (codes "http")
scheme_agrees-Decides Https scheme = bytes_eq-Decides scheme (codes "https")
scheme_agrees-Decides File scheme = bytes_eq-Decides scheme (codes "file")

all_three : {P Q R : Type 0} (x y z : Bool) → Decides x P → Decides y Q → Decides z R → Decides (x && (y && z)) (P × Q × R)
all_three x y z p q r =
    let both = Decides-and y z q r in
    let all = Decides-and x (y && z) p both in
    (λ h. let found = all.0 h in (found.0, found.1.0, found.1.1), λ found. all.1 (found.0, (found.1, found.2)))

meets-Decides : (pattern : PatternParts) (url : Parts) → Decides (meets pattern url) (Meets pattern url)
unfolding meets
meets-Decides all_urls url =
    Decides-or _ _ (is_web_scheme-Decides url.scheme) (bytes_eq-Decides url.scheme (codes "file"))
meets-Decides (parts scheme host path) url =
    all_three _ _ _ (scheme_agrees-Decides scheme url.scheme) (host_agrees-Decides host (host_of url)) (globs-Decides path (path_and_query url))

some_meets-Decides : (patterns : List PatternParts) (url : Parts) → Decides (list_any (λ pattern. meets pattern url) patterns) (SomeMeets patterns url)
some_meets-Decides [] url = (λ h. absurd (cc), λ never. absurd never)
some_meets-Decides (pattern ∷ patterns) url =
    Decides-or _ _ (meets-Decides pattern url) (some_meets-Decides patterns url)

pub meets_exactly : (pattern : PatternParts) (url : Parts) → IsTrue (meets pattern url) ↔ Meets pattern url
meets_exactly pattern url = meets-Decides pattern url

pub admits_url_exactly : (manifest : Manifest) (url : Parts) → IsTrue (admits_url manifest url) ↔ AdmitsUrl manifest url
admits_url_exactly manifest url = some_meets-Decides (patterns_in manifest.external) url

-- two tests of one fact
pub admits_url_by : (manifest : Manifest) (url : Parts) (b : Bool) → IsTrue b ↔ AdmitsUrl manifest url → b ≡ admits_url manifest url
admits_url_by manifest url b says = one_answer b (admits_url manifest url) says (admits_url_exactly manifest url)
