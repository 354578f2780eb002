use Rattle.std.proofs.Common.{◌≡◌, refl, sym, ap, ap₂, subst, ◌∙◌, ℕ, suc, ◌+◌, ◌<◌, Bool, true, false, ◌&&◌, List, [], ◌∷◌, ◌++◌, length, take, drop, get_or, arith, eqb, eqb-true, eq-eqb, cond, append-nil, append_assoc, length-append, true≢false, take-append-drop, zero}
use Rattle.std.proofs.lemmas.List.{append_cancel_left}
use Rattle.std.proofs.lemmas.Bool.{cond_both, and_parts, cond-true, cond-false}
use Rattle.std.proofs.Math.Seq.{drop-append_seam, take-append_seam}
use Rattle.std.specs.Prelude.{Result, Ok, Err, MatchResult, Some, codes}
use Rattle.url.specs.Ascii.{slash}
use Rattle.wx_match_pattern.specs.declared.parts.SchemePart.{SchemePart}
use Rattle.wx_match_pattern.specs.declared.parts.SchemePart.TheVariants.{Any, Http, Https, File}
use Rattle.wx_match_pattern.specs.declared.fault.PatternFault.{PatternFault}
use Rattle.wx_match_pattern.specs.declared.fault.PatternKind.{PatternKind}
use Rattle.wx_match_pattern.specs.declared.fault.PatternKind.TheVariants.{Host, Path}
use Rattle.wx_match_pattern.specs.declared.reading.HostFront.{HostFront}
use Rattle.wx_match_pattern.specs.Faults.{IsPrefixOfPattern, LacksPath, IsOfKind, IsFault}
use Rattle.wx_match_pattern.specs.Pattern.{HostPart, PatternParts, all_urls, parts, scheme_text, scheme_head, host_text, IsHostOf, IsTextOf, IsPattern}
use Rattle.wx_match_pattern.specs.Reading.{host_front, host_part, pattern_behind, pattern_of, scheme_of}
use Rattle.wx_match_pattern.proofs.FrontLemmas.{front_of, front-within, front-completes, front-settled, front-host, host_part-host_text}
use Rattle.wx_match_pattern.proofs.NameLemmas.{completion, Follows, nothing, path}

-- ---- a pattern is read as itself

abbrev pub Parsed : Type 0
Parsed = Result PatternParts PatternFault

pattern_of-head : (scheme : SchemePart) (bytes : List ℕ) → pattern_of (scheme_head scheme ++ bytes) ≡ pattern_behind scheme bytes (host_front scheme bytes)
unfolding pattern_of
pattern_of-head Any bytes = refl
pattern_of-head Http bytes = refl
pattern_of-head Https bytes = refl
pattern_of-head File bytes = refl

scheme_of-head : (scheme : SchemePart) (bytes : List ℕ) → scheme_of (scheme_head scheme ++ bytes) ≡ Some scheme
scheme_of-head Any bytes = refl
scheme_of-head Http bytes = refl
scheme_of-head Https bytes = refl
scheme_of-head File bytes = refl

-- the bytes of a path begin with its `/`
path_cons : (path_text : List ℕ) → get_or path_text 0 0 ≡ slash → path_text ≡ slash ∷ drop 1 path_text
path_cons [] e = absurd (omega arith)
path_cons (c ∷ r) e = ap (λ (b : ℕ). b ∷ r) e

follows_path : (path_text : List ℕ) → get_or path_text 0 0 ≡ slash → Follows path_text
follows_path path_text e = subst Follows (sym (path_cons path_text e)) path

get_or-seam : (xs ys : List ℕ) → get_or (xs ++ ys) (length xs) 0 ≡ get_or ys 0 0
get_or-seam [] ys = refl
get_or-seam (x ∷ xs) ys = get_or-seam xs ys

behind-whole : (scheme : SchemePart) (host : HostPart) (path_text : List ℕ) → IsHostOf scheme host → get_or path_text 0 0 ≡ slash → pattern_behind scheme (host_text host ++ path_text) (front_of (length (host_text host)) true) ≡ Ok (parts scheme host path_text)
unfolding front_of
behind-whole scheme host path_text is e =
    let at : eqb (get_or (host_text host ++ path_text) (length (host_text host)) 0) slash ≡ true =
    eq-eqb _ slash (get_or-seam (host_text host) path_text ∙ e) in
    cond-true _ _ _ at
    ∙ ap₂ (λ (h : HostPart) (p : List ℕ). Ok (parts scheme h p))
    (ap host_part (take-append_seam (host_text host) path_text) ∙ host_part-host_text scheme host is)
    (drop-append_seam (host_text host) path_text)

pub pattern_of-text : (pattern : PatternParts) (text : List ℕ) → IsTextOf pattern text → pattern_of text ≡ Ok pattern
unfolding pattern_of
pattern_of-text all_urls text is = ap pattern_of (sym is.spelled) ∙ refl
pattern_of-text (parts scheme host path_text) text is =
    ap pattern_of (sym is.spelled) ∙ pattern_of-head scheme (host_text host ++ path_text)
    ∙ ap (pattern_behind scheme (host_text host ++ path_text))
    (front-host scheme host path_text is.formed.0 (follows_path path_text is.formed.1))
    ∙ behind-whole scheme host path_text is.formed.0 is.formed.1

pub no_pattern : (text : List ℕ) (fault : PatternFault) → pattern_of text ≡ Err fault → ¬ IsPattern text
no_pattern text fault e p =
    let both : Ok p.0 ≡ Err fault = sym (pattern_of-text p.0 text p.1) ∙ e in
    cc both

-- ---- after `scheme://`

unfoldable pub Describes : List ℕ → Parsed → Type 0
Describes text parsed = MatchResult parsed (λ pattern. IsTextOf pattern text) (IsFault text)

get_or-take_append : (k : ℕ) (xs ys : List ℕ) → k < length xs → get_or (take (suc k) xs ++ ys) k 0 ≡ get_or xs k 0
get_or-take_append k [] ys l = absurd (omega arith)
get_or-take_append zero (x ∷ xs) ys l = refl
get_or-take_append (suc k) (x ∷ xs) ys l = get_or-take_append k xs ys (omega arith)

take-seam_add : (xs ys : List ℕ) (k : ℕ) → take (length xs + k) (xs ++ ys) ≡ xs ++ take k ys
take-seam_add [] ys k = ap (λ (n : ℕ). take n ys) (omega arith)
take-seam_add (x ∷ xs) ys k =
    let e : length (x ∷ xs) + k ≡ suc (length xs + k) = omega arith in
    ap (λ (n : ℕ). take n (x ∷ (xs ++ ys))) e ∙ ap (λ (t : List ℕ). x ∷ t) (take-seam_add xs ys k)

-- the test on which the pattern is read
is_read : List ℕ → HostFront → Bool
is_read bytes front = front.whole && eqb (get_or bytes front.len 0) slash

behind-read : (scheme : SchemePart) (bytes : List ℕ) → is_read bytes (host_front scheme bytes) ≡ true → IsTextOf (parts scheme (host_part (take (host_front scheme bytes).len bytes)) (drop (host_front scheme bytes).len bytes)) (scheme_head scheme ++ bytes)
unfolding is_read completion
behind-read scheme bytes e =
    let front = host_front scheme bytes in
    let tests = and_parts front.whole (eqb (get_or bytes front.len 0) slash) e in
    let host = front-completes scheme bytes in
    let spelled : host_text host.0 ≡ take front.len bytes =
    host.2 ∙ ap (λ (w : Bool). take front.len bytes ++ completion w) tests.0 ∙ append-nil (take front.len bytes) in
    let read : host_part (take front.len bytes) ≡ host.0 =
    ap host_part (sym spelled) ∙ host_part-host_text scheme host.0 host.1 in
    record {
      formed = (
        subst (IsHostOf scheme) (sym read) host.1,
        first_behind bytes front.len ∙ eqb-true (get_or bytes front.len 0) slash tests.1,
      );
      spelled =
          ap (λ (h : HostPart). scheme_head scheme ++ (host_text h ++ drop front.len bytes)) read
          ∙ ap (λ (t : List ℕ). scheme_head scheme ++ (t ++ drop front.len bytes)) spelled
          ∙ ap (λ (t : List ℕ). scheme_head scheme ++ t) (take-append-drop front.len bytes);
    }
  where
    first_behind : (xs : List ℕ) (n : ℕ) → get_or (drop n xs) 0 0 ≡ get_or xs n 0
    first_behind [] zero = refl
    first_behind [] (suc n) = refl
    first_behind (x ∷ xs) zero = refl
    first_behind (x ∷ xs) (suc n) = first_behind xs n

-- the fault's kind after `scheme://`
kind_behind : List ℕ → HostFront → PatternKind
kind_behind bytes front = cond (front.whole && eqb front.len (length bytes)) Path Host

fault_behind : SchemePart → List ℕ → HostFront → PatternFault
fault_behind scheme bytes front = record { place = length (scheme_head scheme) + front.len; kind = kind_behind bytes front }

behind-fault : (scheme : SchemePart) (bytes : List ℕ) → is_read bytes (host_front scheme bytes) ≡ false → pattern_behind scheme bytes (host_front scheme bytes) ≡ Err (fault_behind scheme bytes (host_front scheme bytes))
unfolding is_read fault_behind kind_behind
behind-fault scheme bytes e = cond-false _ _ _ e

-- no pattern begins with these bytes and one more
no_more : (scheme : SchemePart) (bytes more : List ℕ) → (host_front scheme bytes).len < length bytes → is_read bytes (host_front scheme bytes) ≡ false → ¬ IsPattern (scheme_head scheme ++ (take (suc (host_front scheme bytes).len) bytes ++ more))
unfolding is_read
no_more scheme bytes more l e =
    let front = host_front scheme bytes in
    let longer = take (suc front.len) bytes ++ more in
    let still : is_read longer front ≡ false =
    ap (λ (b : ℕ). front.whole && eqb b slash) (get_or-take_append front.len bytes more l) ∙ e in
    let settled : host_front scheme longer ≡ front = front-settled scheme bytes more l in
    let test : is_read longer (host_front scheme longer) ≡ false = ap (is_read longer) settled ∙ still in
    no_pattern (scheme_head scheme ++ longer) (fault_behind scheme longer (host_front scheme longer))
    (pattern_of-head scheme longer ∙ behind-fault scheme longer test)

completed : (scheme : SchemePart) (bytes : List ℕ) → IsPrefixOfPattern (scheme_head scheme ++ take (host_front scheme bytes).len bytes)
completed scheme bytes =
    let front = host_front scheme bytes in
    let host = front-completes scheme bytes in
    let begun = take front.len bytes in (
      completion front.whole ++ slash ∷ [],
      (
        parts scheme host.0 (slash ∷ []),
        record {
          formed = (host.1, refl);
          spelled =
              ap (λ (t : List ℕ). scheme_head scheme ++ (t ++ slash ∷ [])) host.2
              ∙ ap (λ (t : List ℕ). scheme_head scheme ++ t) (append_assoc begun (completion front.whole) (slash ∷ []))
              ∙ sym (append_assoc (scheme_head scheme) begun (completion front.whole ++ slash ∷ []));
        },
      ),
    )

-- a text that lacks only its path has a whole host in front
lacks_whole : (scheme : SchemePart) (bytes : List ℕ) → LacksPath (scheme_head scheme ++ bytes) → ((host_front scheme bytes).whole && eqb (host_front scheme bytes).len (length bytes)) ≡ true
unfolding front_of
lacks_whole scheme bytes lacks =
    let same_scheme : Some lacks.0 ≡ Some scheme =
    sym (scheme_of-head lacks.0 (host_text lacks.1)) ∙ ap scheme_of lacks.3 ∙ scheme_of-head scheme bytes in
    let e : lacks.0 ≡ scheme = cc same_scheme in
    let text : scheme_head scheme ++ host_text lacks.1 ≡ scheme_head scheme ++ bytes =
    subst (λ (s : SchemePart). scheme_head s ++ host_text lacks.1 ≡ scheme_head scheme ++ bytes) e lacks.3 in
    let host : host_text lacks.1 ≡ bytes = append_cancel_left (scheme_head scheme) (host_text lacks.1) bytes text in
    let is : IsHostOf scheme lacks.1 = subst (λ (s : SchemePart). IsHostOf s lacks.1) e lacks.2 in
    let front : host_front scheme bytes ≡ front_of (length (host_text lacks.1)) true =
    ap (host_front scheme) (sym host ∙ sym (append-nil (host_text lacks.1))) ∙ front-host scheme lacks.1 [] is nothing in
    ap (λ (f : HostFront). f.whole && eqb f.len (length bytes)) front
    ∙ eq-eqb (length (host_text lacks.1)) (length bytes) (ap length host)

kind_of_behind : (scheme : SchemePart) (bytes : List ℕ) → IsOfKind (kind_behind bytes (host_front scheme bytes)) (scheme_head scheme ++ bytes) (length (scheme_head scheme) + (host_front scheme bytes).len)
unfolding kind_behind completion
kind_of_behind scheme bytes =
    let front = host_front scheme bytes in
    let text = scheme_head scheme ++ bytes in
    let place = length (scheme_head scheme) + front.len in
    cond_both (front.whole && eqb front.len (length bytes)) Path Host (λ k. IsOfKind k text place)
    (λ e.
    let tests = and_parts front.whole (eqb front.len (length bytes)) e in
    let all : front.len ≡ length bytes = eqb-true front.len (length bytes) tests.1 in
    let host = front-completes scheme bytes in
    let size = length-append (scheme_head scheme) bytes in
    let spelled : host_text host.0 ≡ bytes =
    host.2 ∙ ap (λ (w : Bool). take front.len bytes ++ completion w) tests.0 ∙ append-nil (take front.len bytes)
    ∙ ap (λ (n : ℕ). take n bytes) all ∙ take_whole bytes in
    (omega arith, (scheme, host.0, host.1, ap (λ (t : List ℕ). scheme_head scheme ++ t) spelled)))
    (λ e. (
      (
        scheme_text scheme,
        take front.len bytes,
        take-seam_add (scheme_head scheme) bytes front.len ∙ append_assoc (scheme_text scheme) (codes "://") (take front.len bytes),
      ),
      λ lacks. true≢false (sym (lacks_whole scheme bytes lacks.1) ∙ e),
    ))
  where
    take_whole : (xs : List ℕ) → take (length xs) xs ≡ xs
    take_whole [] = refl
    take_whole (x ∷ xs) = ap (λ (t : List ℕ). x ∷ t) (take_whole xs)

behind-is_fault : (scheme : SchemePart) (bytes : List ℕ) → is_read bytes (host_front scheme bytes) ≡ false → IsFault (scheme_head scheme ++ bytes) (fault_behind scheme bytes (host_front scheme bytes))
unfolding fault_behind
behind-is_fault scheme bytes e =
    let front = host_front scheme bytes in
    let head = scheme_head scheme in
    let size = length-append head bytes in
    let l = front-within scheme bytes in
    let cut : (k : ℕ) → take (length head + k) (head ++ bytes) ≡ head ++ take k bytes = take-seam_add head bytes in
    record {
      within = omega arith;
      before = subst IsPrefixOfPattern (sym (cut front.len)) (completed scheme bytes);
      faulty = λ inside p.
          let one_more : take (length head + front.len + 1) (head ++ bytes) ≡ head ++ take (suc front.len) bytes =
          ap (λ (n : ℕ). take n (head ++ bytes)) (let n : length head + front.len + 1 ≡ length head + suc front.len = omega arith in n)
          ∙ cut (suc front.len) in
          no_more scheme bytes p.0 (omega arith) e
          (subst IsPattern
          (ap (λ (t : List ℕ). t ++ p.0) one_more ∙ append_assoc head (take (suc front.len) bytes) p.0) p.1);
      unfinished = λ at. no_pattern (head ++ bytes) (fault_behind scheme bytes front)
          (pattern_of-head scheme bytes ∙ behind-fault scheme bytes e);
      kind = kind_of_behind scheme bytes;
    }

pub behind-describes : (scheme : SchemePart) (bytes : List ℕ) → Describes (scheme_head scheme ++ bytes) (pattern_behind scheme bytes (host_front scheme bytes))
unfolding Describes is_read fault_behind kind_behind
behind-describes scheme bytes =
    let front = host_front scheme bytes in
    cond_both (is_read bytes front) (Ok (parts scheme (host_part (take front.len bytes)) (drop front.len bytes)))
    (Err (fault_behind scheme bytes front)) (Describes (scheme_head scheme ++ bytes)) (behind-read scheme bytes)
    (behind-is_fault scheme bytes)
