-- Cursors behind one more entry.
use Rattle.std.proofs.Common.{◌≡◌, ◌≢◌, ℕ, zero, suc, ◌+◌, ◌<◌, ◌≤◌, length, set, cond, arith, List, [], ◌∷◌, ◌++◌, Some, refl, sym, ap, ◌∙◌, subst}
use Rattle.std.specs.Prelude.{slice_get}
use Rattle.wx_id.specs.declared.numbers.ContextNo.{ContextNo}
use Rattle.wx_machine.specs.declared.entries.Who.TheVariants.{Context as ByContext}
use Rattle.wx_machine.specs.declared.entries.Entry.{Entry}
use Rattle.wx_script.specs.declared.script.Command.{Command}
use Rattle.wx_script.specs.Places.{place_behind, place_of}
use Rattle.wx_script.specs.Ends.{entries_by, numbered}
use Rattle.wx_script.proofs.ByLemmas.{is_by-own, is_by-other}
use Rattle.wx_endpoint.specs.Turn.{CursorState}
use Rattle.wx_run.specs.Cursors.{cursor_of, cursors_from, scripts_in}

pub place_of-own : (s : List Command) (c : ContextNo) (past : List Entry) (e : Entry) → e.who ≡ ByContext c → place_of s c (e ∷ past) ≡ place_behind s (place_of s c past) e.answer
unfolding place_of
place_of-own s c past e own = ap (λ b. cond b (place_behind s (place_of s c past) e.answer) (place_of s c past)) (is_by-own e.who c own)

-- An entry of another context leaves the place.
pub place_of-other : (s : List Command) (d c : ContextNo) (past : List Entry) (e : Entry) → e.who ≡ ByContext d → d.0 ≢ c.0 → place_of s c (e ∷ past) ≡ place_of s c past
unfolding place_of
place_of-other s d c past e own other = ap (λ b. cond b (place_behind s (place_of s c past) e.answer) (place_of s c past)) (is_by-other e.who d c own other)

pub entries_by-own : (c : ContextNo) (past : List Entry) (e : Entry) → e.who ≡ ByContext c → entries_by c (e ∷ past) ≡ entries_by c past + 1
entries_by-own c past e own =
    let counted : entries_by c (e ∷ past) ≡ 1 + entries_by c past = ap (λ b. cond b 1 0 + entries_by c past) (is_by-own e.who c own) in
    omega arith

pub entries_by-other : (d c : ContextNo) (past : List Entry) (e : Entry) → e.who ≡ ByContext d → d.0 ≢ c.0 → entries_by c (e ∷ past) ≡ entries_by c past
entries_by-other d c past e own other =
    let counted : entries_by c (e ∷ past) ≡ 0 + entries_by c past = ap (λ b. cond b 1 0 + entries_by c past) (is_by-other e.who d c own other) in
    omega arith

pub cursor_of-other : (s : List Command) (d c : ContextNo) (past : List Entry) (e : Entry) → e.who ≡ ByContext d → d.0 ≢ c.0 → cursor_of s c (e ∷ past) ≡ cursor_of s c past
cursor_of-other s d c past e own other = λ i. record { script = s; place = place_of-other s d c past e own other i; made = entries_by-other d c past e own other i }

-- ---- all endpoints at once

-- an entry of a context below these endpoints leaves their cursors
pub cursors_from-below : (ss : List (List Command)) (n : ℕ) (past : List Entry) (e : Entry) (c : ContextNo) → e.who ≡ ByContext c → c.0 < n → cursors_from ss n (e ∷ past) ≡ cursors_from ss n past
cursors_from-below [] n past e c own below = refl
cursors_from-below (s ∷ ss) n past e c own below =
    let apart : c.0 ≢ n = omega arith in
    ap (λ p. p ∷ cursors_from ss (n + 1) (e ∷ past)) (cursor_of-other s c (numbered n) past e own apart)
    ∙ ap (λ ps. cursor_of s (numbered n) past ∷ ps) (cursors_from-below ss (n + 1) past e c own (omega arith))

-- and so does an entry of a context behind them
pub cursors_from-later : (ss : List (List Command)) (n : ℕ) (past : List Entry) (e : Entry) (c : ContextNo) → e.who ≡ ByContext c → n + length ss ≤ c.0 → cursors_from ss n (e ∷ past) ≡ cursors_from ss n past
cursors_from-later [] n past e c own later = refl
cursors_from-later (s ∷ ss) n past e c own later =
    let apart : c.0 ≢ n = omega arith in
    ap (λ p. p ∷ cursors_from ss (n + 1) (e ∷ past)) (cursor_of-other s c (numbered n) past e own apart)
    ∙ ap (λ ps. cursor_of s (numbered n) past ∷ ps) (cursors_from-later ss (n + 1) past e c own (omega arith))

-- An entry of the endpoint at k, which is context m, changes that cursor alone.
pub cursors_from-own : (ss : List (List Command)) (n k m : ℕ) (s : List Command) (past : List Entry) (e : Entry) → slice_get ss k ≡ Some s → m ≡ n + k → e.who ≡ ByContext (numbered m)
    → cursors_from ss n (e ∷ past) ≡ set (cursors_from ss n past) k (cursor_of s (numbered m) (e ∷ past))
cursors_from-own [] n k m s past e is at own = absurd cc
cursors_from-own (x ∷ ss) n zero m s past e is at own =
    let same : x ≡ s = cc in
    let here : n ≡ m = omega arith in
    let mine : e.who ≡ ByContext (numbered n) = own ∙ ap (λ n. ByContext (numbered n)) (sym here) in
    let P : List Command → ℕ → Type 0 = λ s m. ◌≡◌ {A = List CursorState} (cursors_from (x ∷ ss) n (e ∷ past)) (cursor_of s (numbered m) (e ∷ past) ∷ cursors_from ss (n + 1) past) in
    let first : P x n = ap (λ ps. cursor_of x (numbered n) (e ∷ past) ∷ ps) (cursors_from-below ss (n + 1) past e (numbered n) mine (omega arith)) in
    subst (λ m. P s m) here (subst (λ s. P s n) same first)
cursors_from-own (x ∷ ss) n (suc k) m s past e is at own =
    let apart : m ≢ n = omega arith in
    let next : m ≡ n + 1 + k = omega arith in
    ap (λ p. p ∷ cursors_from ss (n + 1) (e ∷ past)) (cursor_of-other x (numbered m) (numbered n) past e own apart)
    ∙ ap (λ ps. cursor_of x (numbered n) past ∷ ps) (cursors_from-own ss (n + 1) k m s past e is next own)

pub slice_get-cursors_from : (ss : List (List Command)) (n k m : ℕ) (s : List Command) (past : List Entry) → slice_get ss k ≡ Some s → m ≡ n + k → slice_get (cursors_from ss n past) k ≡ Some (cursor_of s (numbered m) past)
slice_get-cursors_from [] n k m s past is at = absurd cc
slice_get-cursors_from (x ∷ ss) n zero m s past is at =
    let same : x ≡ s = cc in
    let here : n ≡ m = omega arith in
    ap Some (ap (λ x. cursor_of x (numbered n) past) same ∙ ap (λ n. cursor_of s (numbered n) past) here)
slice_get-cursors_from (x ∷ ss) n (suc k) m s past is at =
    let next : m ≡ n + 1 + k = omega arith in
    slice_get-cursors_from ss (n + 1) k m s past is next

pub length-cursors_from : (ss : List (List Command)) (n : ℕ) (past : List Entry) → length (cursors_from ss n past) ≡ length ss
length-cursors_from [] n past = refl
length-cursors_from (s ∷ ss) n past = omega (arith, length-cursors_from ss (n + 1) past)

pub cursors_from-append : (ss : List (List Command)) (s : List Command) (n m : ℕ) (past : List Entry) → m ≡ n + length ss → cursors_from (ss ++ s ∷ []) n past ≡ cursors_from ss n past ++ cursor_of s (numbered m) past ∷ []
cursors_from-append [] s n m past at = let here : n ≡ m = omega arith in ap (λ n. cursor_of s (numbered n) past ∷ []) here
cursors_from-append (x ∷ ss) s n m past at = ap (λ ps. cursor_of x (numbered n) past ∷ ps) (cursors_from-append ss s (n + 1) m past (omega arith))

pub scripts_in-cursors_from : (ss : List (List Command)) (n : ℕ) (past : List Entry) → scripts_in (cursors_from ss n past) ≡ ss
scripts_in-cursors_from [] n past = refl
scripts_in-cursors_from (s ∷ ss) n past = ap (λ ss. s ∷ ss) (scripts_in-cursors_from ss (n + 1) past)
