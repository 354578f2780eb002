-- How the two automata go together: inside a character the grammar's one is in a string, so both can be completed at once.
use Rattle.std.proofs.Common.{◌≡◌, ℕ, zero, suc, ◌≤◌, List, [], ◌∷◌, ◌++◌, Bool, true, false, refl, arith, lit≤, inl, inr}
use Rattle.std.specs.Prelude.{◌⊎◌, cond, ◌&&◌}
use Rattle.std.proofs.lemmas.Bool.{le-leb}
use Rattle.std.proofs.lemmas.Bool.Decides.{leb_tells}
use Rattle.wx_json.specs.Json.{is_between, unescaped}
use Rattle.wx_json.specs.Utf8.{Tails, no_tail, tail, IsUtf8Text, no_char, utf8_1}
use Rattle.wx_json.specs.Coding.{lead, code}
use Rattle.wx_json.specs.Coding.{Coding}
use Rattle.wx_json.specs.Coding.{whole, wants, broken}
use Rattle.wx_json.specs.Machine.{State, dead, at, next}
use Rattle.wx_json.proofs.Waits.{Waits, In, within}
use Rattle.wx_json.proofs.Whole.{closers, follow_bytes, hex_bytes, completion, completes}
use Rattle.wx_json.proofs.Bytes.{Coded, at_char, inside, bounds}
use Rattle.wx_json.proofs.High.{high, text_high, unescaped_high}
use Rattle.wx_json.specs.Mode.{Mode}
use Rattle.wx_json.specs.Mode.{value, array_start, object_start, key, colon, after, text, escape, hex, minus, zero_digit, digits, point, decimals, e, e_sign, power, t1, t2, t3, f1, f2, f3, f4, n1, n2, n3}

-- a range of bytes after the first of a character
pub data Valid : Coding → Type 0 where
  valid_whole : Valid whole
  valid_wants : {low high n : ℕ} → 0x80 ≤ low → low ≤ high → Valid (wants low high n)
  valid_broken : Valid broken

valid_cond : (b : Bool) {x y : Coding} → Valid x → Valid y → Valid (cond b x y)
valid_cond true p q = p
valid_cond false p q = q

range : (low high n : ℕ) → 0x80 ≤ low → low ≤ high → Valid (wants low high n)
range low high n a b = valid_wants a b

lead-Valid : (c : ℕ) → Valid (lead c)
lead-Valid c = valid_cond (is_between 0x00 0x7F c) valid_whole
    (valid_cond (is_between 0xC2 0xDF c) (range 0x80 0xBF 0 (lit≤ tt) (lit≤ tt))
    (valid_cond (is_between 0xE0 0xE0 c) (range 0xA0 0xBF 1 (lit≤ tt) (lit≤ tt))
    (valid_cond (is_between 0xE1 0xEC c) (range 0x80 0xBF 1 (lit≤ tt) (lit≤ tt))
    (valid_cond (is_between 0xED 0xED c) (range 0x80 0x9F 1 (lit≤ tt) (lit≤ tt))
    (valid_cond (is_between 0xEE 0xEF c) (range 0x80 0xBF 1 (lit≤ tt) (lit≤ tt))
    (valid_cond (is_between 0xF0 0xF0 c) (range 0x90 0xBF 2 (lit≤ tt) (lit≤ tt))
    (valid_cond (is_between 0xF1 0xF3 c) (range 0x80 0xBF 2 (lit≤ tt) (lit≤ tt))
    (valid_cond (is_between 0xF4 0xF4 c) (range 0x80 0x8F 2 (lit≤ tt) (lit≤ tt)) valid_broken))))))))

pub code-Valid : (u : Coding) (c : ℕ) → Valid (code u c)
unfolding code
code-Valid whole c = lead-Valid c
code-Valid (wants low high zero) c = valid_cond _ valid_whole valid_broken
code-Valid (wants low high (suc n)) c = valid_cond _ (range 0x80 0xBF n (lit≤ tt) (lit≤ tt)) valid_broken
code-Valid broken c = valid_broken

-- the bytes that complete a character
abbrev pub tails : ℕ → List ℕ
tails zero = []
tails (suc n) = 0x80 ∷ tails n

abbrev pub fill : Coding → List ℕ
fill whole = []
fill (wants low high n) = low ∷ tails n
fill broken = []

both : (a b : Bool) → a ≡ true → b ≡ true → (a && b) ≡ true
both true b p q = q
both false b p q = cc

between_low : (low high : ℕ) → low ≤ high → is_between low high low ≡ true
between_low low high h = both _ _ (le-leb low low (omega arith)) (le-leb low high h)

Tails-tails : (n : ℕ) (t : List ℕ) → Tails n (tails n ++ t) t
Tails-tails zero t = no_tail
Tails-tails (suc n) t = tail refl (Tails-tails n t)

pub Coded-fill : {u : Coding} → Valid u → (t : List ℕ) → IsUtf8Text t → (u ≡ broken → ⊥) → Coded u (fill u ++ t)
Coded-fill valid_whole t h nb = at_char h
Coded-fill (valid_wants {low = low} {high = high} {n = n} a b) t h nb = inside (between_low low high b) (Tails-tails n t) h
Coded-fill valid_broken t h nb = absurd (nb refl)

-- inside a character a string stands
pub data Linked : Coding → Mode → Type 0 where
  linked_whole : {m : Mode} → Linked whole m
  linked_text : {low high n : ℕ} {k : Bool} → 0x80 ≤ low → low ≤ high → Linked (wants low high n) (text k)

pub data LinkedState : Coding → State → Type 0 where
  some_whole : {s : State} → LinkedState whole s
  some_broken : {s : State} → LinkedState broken s
  some_dead : {low high n : ℕ} → LinkedState (wants low high n) (dead false)
  some_text : {low high i n : ℕ} {k : Bool} {σ : List Bool} → 0x80 ≤ low → low ≤ high → LinkedState (wants low high i) (at (text k) n σ)

at_high : (c : ℕ) → 0x80 ≤ c → {x : Coding} → Valid x → (m : Mode) (n : ℕ) (σ : List Bool) → LinkedState x (next m n σ c)
at_high c h valid_whole m n σ = some_whole
at_high c h valid_broken m n σ = some_broken
at_high c h (valid_wants {low = low} {high = top} {n = i} a b) m n σ = by_mode (high c h n σ m)
  where
    by_mode : ((next m n σ c ≡ dead false) ⊎ ((k : Bool) × (m ≡ text k))) → LinkedState (wants low top i) (next m n σ c)
    by_mode (inl p) = rw p some_dead
    by_mode (inr (k, p)) = rw (p, text_high c h k n σ) (some_text a b)

pub linked-step : (c : ℕ) {u : Coding} {m : Mode} → Linked u m → (n : ℕ) (σ : List Bool) → LinkedState (code u c) (next m n σ c)
unfolding code
linked-step c (linked_whole {m = m}) n σ = by_test (is_between 0x00 0x7F c) refl
  where
    by_test : (b : Bool) → is_between 0x00 0x7F c ≡ b → LinkedState (lead c) (next m n σ c)
    by_test true p = rw p some_whole
    by_test false p = at_high c (above p) (lead-Valid c) m n σ
      where
        above : is_between 0x00 0x7F c ≡ false → 0x80 ≤ c
        above p = elim (leb_tells c 0x7F) [ inl q ↦ let t : is_between 0x00 0x7F c ≡ true = both _ _ (le-leb 0 c (omega arith)) q.0 in cc | inr q ↦ q.1 ]
linked-step c (linked_text {low = low} {high = top} {n = i} {k = k} a b) n σ = by_test (is_between low top c) refl
  where
    stopped : (i : ℕ) → is_between low top c ≡ false → code (wants low top i) c ≡ broken
    stopped zero p = rw p refl
    stopped (suc i) p = rw p refl

    by_test : (b : Bool) → is_between low top c ≡ b → LinkedState (code (wants low top i) c) (next (text k) n σ c)
    by_test true p = let q = bounds low top c p in at_high c (omega arith) (code-Valid (wants low top i) c) (text k) n σ
    by_test false p = rw (stopped i p) some_broken

-- the completion of a place is ASCII
ascii_closers : (σ : List Bool) → IsUtf8Text (closers σ)
unfolding closers
ascii_closers [] = no_char
ascii_closers (false ∷ σ) = utf8_1 refl (ascii_closers σ)
ascii_closers (true ∷ σ) = utf8_1 refl (ascii_closers σ)

ascii_follow : (k : Bool) (σ : List Bool) → IsUtf8Text (follow_bytes k σ)
unfolding follow_bytes
ascii_follow true σ = utf8_1 refl (utf8_1 refl (ascii_closers σ))
ascii_follow false σ = ascii_closers σ

ascii_hex : (m : ℕ) (t : List ℕ) → IsUtf8Text t → IsUtf8Text (hex_bytes m t)
unfolding hex_bytes
ascii_hex zero t h = h
ascii_hex (suc m) t h = utf8_1 refl (ascii_hex m t h)

ascii_completion : (m : Mode) (σ : List Bool) → IsUtf8Text (completion m σ)
unfolding completion
ascii_completion value σ = utf8_1 refl (ascii_closers σ)
ascii_completion array_start σ = utf8_1 refl (ascii_closers σ)
ascii_completion object_start σ = utf8_1 refl (utf8_1 refl (utf8_1 refl (utf8_1 refl (ascii_closers σ))))
ascii_completion key σ = utf8_1 refl (utf8_1 refl (utf8_1 refl (utf8_1 refl (ascii_closers σ))))
ascii_completion colon σ = utf8_1 refl (utf8_1 refl (ascii_closers σ))
ascii_completion after σ = ascii_closers σ
ascii_completion minus σ = utf8_1 refl (ascii_closers σ)
ascii_completion zero_digit σ = ascii_closers σ
ascii_completion digits σ = ascii_closers σ
ascii_completion point σ = utf8_1 refl (ascii_closers σ)
ascii_completion decimals σ = ascii_closers σ
ascii_completion e σ = utf8_1 refl (ascii_closers σ)
ascii_completion e_sign σ = utf8_1 refl (ascii_closers σ)
ascii_completion power σ = ascii_closers σ
ascii_completion t1 σ = utf8_1 refl (utf8_1 refl (utf8_1 refl (ascii_closers σ)))
ascii_completion t2 σ = utf8_1 refl (utf8_1 refl (ascii_closers σ))
ascii_completion t3 σ = utf8_1 refl (ascii_closers σ)
ascii_completion f1 σ = utf8_1 refl (utf8_1 refl (utf8_1 refl (utf8_1 refl (ascii_closers σ))))
ascii_completion f2 σ = utf8_1 refl (utf8_1 refl (utf8_1 refl (ascii_closers σ)))
ascii_completion f3 σ = utf8_1 refl (utf8_1 refl (ascii_closers σ))
ascii_completion f4 σ = utf8_1 refl (ascii_closers σ)
ascii_completion n1 σ = utf8_1 refl (utf8_1 refl (utf8_1 refl (ascii_closers σ)))
ascii_completion n2 σ = utf8_1 refl (utf8_1 refl (ascii_closers σ))
ascii_completion n3 σ = utf8_1 refl (ascii_closers σ)
ascii_completion (text k) σ = utf8_1 refl (ascii_follow k σ)
ascii_completion (escape k) σ = utf8_1 refl (utf8_1 refl (ascii_follow k σ))
ascii_completion (hex m k) σ = ascii_hex (suc m) _ (utf8_1 refl (ascii_follow k σ))

-- what completes both automata
text_tails : (i : ℕ) (k : Bool) (n : ℕ) (σ : List Bool) (t : List ℕ) → Waits (text k) n σ t → Waits (text k) n σ (tails i ++ t)
text_tails zero k n σ t w = w
text_tails (suc i) k n σ t w = let v = text_tails i k n σ t w in (v.0, unescaped refl v.1, v.2)

pub common : {u : Coding} {m : Mode} → Linked u m → (n : ℕ) (σ : List Bool) → (t : List ℕ) × Coded u t × In (at m n σ) t
common (linked_whole {m = m}) n σ = (completion m σ, at_char (ascii_completion m σ), within (completes m n σ))
common (linked_text {low = low} {high = top} {n = i} {k = k} a b) n σ =
    let t = completion (text k) σ in
    let v : Waits (text k) n σ (tails i ++ t) = text_tails i k n σ t (completes (text k) n σ) in
    (low ∷ (tails i ++ t), Coded-fill (valid_wants a b) t (ascii_completion (text k) σ) (λ e. cc), within (v.0, unescaped (unescaped_high low a) v.1, v.2))
