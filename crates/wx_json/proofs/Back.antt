-- What stands after a byte, and then the byte itself: from what a place waits for after a byte to what it waits for before it.
use Rattle.std.proofs.Common.{◌≡◌, ℕ, zero, suc, List, [], ◌∷◌, Bool, true, false, refl, sym, subst, inl, inr}
use Rattle.std.specs.Prelude.{cond, ◌==◌}
use Rattle.std.proofs.lemmas.Bool.{eqb-true}
use Rattle.wx_json.specs.Json.{is_white, is_digit, is_digit1-9, is_e, is_sign, is_unescaped, is_escape, is_hex, White, no_white, white, Word, no_byte, byte, no_digit, digit, digits1, unsigned, signed, Exponent, no_exponent, exponent, Fraction, no_fraction, fraction, zero_int, int, positive, negative, no_hex, hex as hex_digit, quote, unescaped, escaped, short, long}
use Rattle.wx_json.proofs.Bounded.{Value, is_false, is_null, is_true, number, string, empty_array, array, empty_object, object, element, end_array, next_element, member, end_object, next_member}
use Rattle.wx_json.specs.Machine.{State, dead, at, push, pop, begin, end, exponent_or_end, follow, next}
use Rattle.wx_json.proofs.Waits.{After, Popped, ValueNext, ColonNext, KeyNext, Waits, In, within}
use Rattle.wx_json.specs.Mode.{Mode}
use Rattle.wx_json.specs.Mode.{value, array_start, object_start, key, colon, after, text, escape, hex, minus, zero_digit, digits, point, decimals, e, e_sign, power, t1, t2, t3, f1, f2, f3, f4, n1, n2, n3}

pub out : {m : Mode} {n : ℕ} {σ : List Bool} {t : List ℕ} → In (at m n σ) t → Waits m n σ t
out (within w) = w

pub never : {d : Bool} {t : List ℕ} {Q : Type 0} → In (dead d) t → Q
never h = elim h [ ]

-- a test that the byte passed or not
pub if_test : {b : Bool} {x y : State} {t : List ℕ} {Q : Type 0} → In (cond b x y) t → (b ≡ true → In x t → Q) → (In y t → Q) → Q
if_test {b = true} h f g = f refl h
if_test {b = false} h f g = g h

-- a test for one byte
pub if_byte : {c k : ℕ} {x y : State} {t : List ℕ} (Q : ℕ → Type 0) → In (cond (c == k) x y) t → (In x t → Q k) → (In y t → Q c) → Q c
if_byte {c} {k} Q h f g = if_test h (λ p x. subst Q (sym (eqb-true c k p)) (f x)) g

-- one more byte of white space in front
pub white-After : (n c : ℕ) (t : List ℕ) (σ : List Bool) → is_white c ≡ true → After n σ t → After n σ (c ∷ t)
white-After _ _ _ [] p w = white p w
white-After _ _ _ (false ∷ σ) p (r, end_array w, a) = (r, end_array (white p w), a)
white-After _ _ _ (false ∷ σ) p (r, next_element w es, a) = (r, next_element (white p w) es, a)
white-After _ _ _ (true ∷ σ) p (r, end_object w, a) = (r, end_object (white p w), a)
white-After _ _ _ (true ∷ σ) p (r, next_member w ms, a) = (r, next_member (white p w) ms, a)

comma_array : (n : ℕ) (t : List ℕ) (σ : List Bool) → ValueNext n (false ∷ σ) t → After n (false ∷ σ) (0x2C ∷ t)
comma_array _ _ σ (s, u, w, v, (r, m, a)) = (r, next_element no_white (element w v m), a)

comma_object : (n : ℕ) (t : List ℕ) (σ : List Bool) → KeyNext n (true ∷ σ) t → After n (true ∷ σ) (0x2C ∷ t)
comma_object _ _ σ (s, u, w, cs, (v, w2, (x, y, w3, val, (r, m, a)))) = (r, next_member no_white (member w cs w2 w3 val m), a)

pub end_back : (n c : ℕ) (t : List ℕ) (σ : List Bool) → In (end n σ c) t → After n σ (c ∷ t)
end_back n c t [] h = if_test h (λ p x. white-After n c t [] p (out x))
    (λ h. if_byte (λ c. After n [] (c ∷ t)) h never
    (λ h. if_byte (λ c. After n [] (c ∷ t)) h never
    (λ h. if_byte (λ c. After n [] (c ∷ t)) h never never)))
end_back n c t (false ∷ σ) h = if_test h (λ p x. white-After n c t (false ∷ σ) p (out x))
    (λ h. if_byte (λ c. After n (false ∷ σ) (c ∷ t)) h (λ x. comma_array _ _ σ (out x))
    (λ h. if_byte (λ c. After n (false ∷ σ) (c ∷ t)) h (λ x. (t, end_array no_white, out x))
    (λ h. if_byte (λ c. After n (false ∷ σ) (c ∷ t)) h never never)))
end_back n c t (true ∷ σ) h = if_test h (λ p x. white-After n c t (true ∷ σ) p (out x))
    (λ h. if_byte (λ c. After n (true ∷ σ) (c ∷ t)) h (λ x. comma_object _ _ σ (out x))
    (λ h. if_byte (λ c. After n (true ∷ σ) (c ∷ t)) h never
    (λ h. if_byte (λ c. After n (true ∷ σ) (c ∷ t)) h (λ x. (t, end_object no_white, out x)) never)))

-- a value whose first byte stands in front
abbrev pub BeginNext : ℕ → List Bool → List ℕ → Type 0
BeginNext n σ t = (r : List ℕ) × Value t n r × After n σ r

push_array_back : {t : List ℕ} (n : ℕ) (σ : List Bool) → In (push array_start false n σ) t → BeginNext n σ (0x5B ∷ t)
push_array_back zero σ h = never h
push_array_back {t} (suc n) σ h = opened (out h)
  where
    opened : Waits array_start n (false ∷ σ) t → BeginNext (suc n) σ (0x5B ∷ t)
    opened (inl (r, w, a)) = (r, empty_array w, a)
    opened (inr (s, u, w, v, (r, m, a))) = (r, array (element w v m), a)

push_object_back : {t : List ℕ} (n : ℕ) (σ : List Bool) → In (push object_start true n σ) t → BeginNext n σ (0x7B ∷ t)
push_object_back zero σ h = never h
push_object_back {t} (suc n) σ h = opened (out h)
  where
    opened : Waits object_start n (true ∷ σ) t → BeginNext (suc n) σ (0x7B ∷ t)
    opened (inl (r, w, a)) = (r, empty_object w, a)
    opened (inr (s, u, w, cs, (v, w2, (x, y, w3, val, (r, m, a))))) = (r, object (member w cs w2 w3 val m), a)

begin_back : (n c : ℕ) (t : List ℕ) (σ : List Bool) → In (begin n σ c) t → BeginNext n σ (c ∷ t)
begin_back n c t σ h = let Q : ℕ → Type 0 = λ c. BeginNext n σ (c ∷ t) in
    if_test h (λ p x. ints p (out x))
    (λ h. if_byte Q h (λ x. strings (out x))
    (λ h. if_byte Q h (λ x. push_array_back n σ x)
    (λ h. if_byte Q h (λ x. push_object_back n σ x)
    (λ h. if_byte Q h (λ x. negatives (out x))
    (λ h. if_byte Q h (λ x. zeros (out x))
    (λ h. if_byte Q h (λ x. trues (out x))
    (λ h. if_byte Q h (λ x. falses (out x))
    (λ h. if_byte Q h (λ x. nulls (out x)) never))))))))
  where
    ints : {c : ℕ} → is_digit1-9 c ≡ true → Waits digits n σ t → BeginNext n σ (c ∷ t)
    ints p (s, r, ds, f, a) = (r, number (positive (int p ds f)), a)

    strings : Waits (text false) n σ t → BeginNext n σ (0x22 ∷ t)
    strings (r, cs, a) = (r, string cs, a)

    negatives : Waits minus n σ t → BeginNext n σ (0x2D ∷ t)
    negatives (r, u, a) = (r, number (negative u), a)

    zeros : Waits zero_digit n σ t → BeginNext n σ (0x30 ∷ t)
    zeros (r, f, a) = (r, number (positive (zero_int f)), a)

    trues : Waits t1 n σ t → BeginNext n σ (0x74 ∷ t)
    trues (r, w, a) = (r, is_true (byte w), a)

    falses : Waits f1 n σ t → BeginNext n σ (0x66 ∷ t)
    falses (r, w, a) = (r, is_false (byte w), a)

    nulls : Waits n1 n σ t → BeginNext n σ (0x6E ∷ t)
    nulls (r, w, a) = (r, is_null (byte w), a)

pub white-ValueNext : (n c : ℕ) (t : List ℕ) (σ : List Bool) → is_white c ≡ true → ValueNext n σ t → ValueNext n σ (c ∷ t)
white-ValueNext _ _ _ σ p (s, r, w, v, a) = (s, r, white p w, v, a)

pub white-KeyNext : (n c : ℕ) (t : List ℕ) (σ : List Bool) → is_white c ≡ true → KeyNext n σ t → KeyNext n σ (c ∷ t)
white-KeyNext _ _ _ σ p (s, r, w, cs, a) = (s, r, white p w, cs, a)

pub white-ColonNext : (n c : ℕ) (t : List ℕ) (σ : List Bool) → is_white c ≡ true → ColonNext n σ t → ColonNext n σ (c ∷ t)
white-ColonNext _ _ _ σ p (s, w, v) = (s, white p w, v)

begins : (n : ℕ) (t : List ℕ) (σ : List Bool) → BeginNext n σ t → ValueNext n σ t
begins _ t σ (r, v, a) = (t, r, no_white, v, a)

keys : (n : ℕ) (t : List ℕ) (σ : List Bool) → Waits (text true) n σ t → KeyNext n σ (0x22 ∷ t)
keys _ t σ (r, cs, a) = (t, r, no_white, cs, a)

popped_array : (n : ℕ) (t : List ℕ) (σ : List Bool) → In (pop n σ) t → (r : List ℕ) × White (0x5D ∷ t) (0x5D ∷ r) × Popped n σ r
popped_array _ _ [] h = never h
popped_array _ t (k ∷ σ) h = (t, no_white, out h)

popped_object : (n : ℕ) (t : List ℕ) (σ : List Bool) → In (pop n σ) t → (r : List ℕ) × White (0x7D ∷ t) (0x7D ∷ r) × Popped n σ r
popped_object _ _ [] h = never h
popped_object _ t (k ∷ σ) h = (t, no_white, out h)

exponent_back : (n c : ℕ) (t : List ℕ) (σ : List Bool) → In (exponent_or_end n σ c) t → (r : List ℕ) × Exponent (c ∷ t) r × After n σ r
exponent_back n c t σ h = if_test h (λ p x. exponents p (out x)) (λ x. (c ∷ t, no_exponent, end_back _ _ _ σ x))
  where
    exponents : {c : ℕ} → is_e c ≡ true → Waits e n σ t → (r : List ℕ) × Exponent (c ∷ t) r × After n σ r
    exponents p (r, w, a) = (r, exponent p w, a)

fraction_back : (n c : ℕ) (t : List ℕ) (σ : List Bool) → In (cond (c == 0x2E) (at point n σ) (exponent_or_end n σ c)) t → (r : List ℕ) × Fraction (c ∷ t) r × After n σ r
fraction_back n c t σ h = if_byte (λ c. (r : List ℕ) × Fraction (c ∷ t) r × After n σ r) h (λ x. points (out x)) (λ x. plain (exponent_back _ _ _ σ x))
  where
    points : Waits point n σ t → (r : List ℕ) × Fraction (0x2E ∷ t) r × After n σ r
    points (s, r, ds, ex, a) = (r, fraction ds ex, a)

    plain : {c : ℕ} → (r : List ℕ) × Exponent (c ∷ t) r × After n σ r → (r : List ℕ) × Fraction (c ∷ t) r × After n σ r
    plain (r, ex, a) = (r, no_fraction ex, a)

word_more : (b : ℕ) (w : List ℕ) (n : ℕ) (t : List ℕ) (σ : List Bool) → (r : List ℕ) × Word w t r × After n σ r → (r : List ℕ) × Word (b ∷ w) (b ∷ t) r × After n σ r
word_more b w n t σ (r, ws, a) = (r, byte ws, a)

-- What a place waits for after a byte is, with the byte, what it waited for.
pub back : (n c : ℕ) (t : List ℕ) (m : Mode) (σ : List Bool) → In (next m n σ c) t → Waits m n σ (c ∷ t)
unfolding next
back _ _ _ value σ h = if_test h (λ p x. white-ValueNext _ _ _ σ p (out x)) (λ x. begins _ _ σ (begin_back _ _ _ σ x))
back n c t array_start σ h = if_test h (λ p x. array_white p (out x))
    (λ h. if_byte (λ c. Waits array_start n σ (c ∷ t)) h (λ x. inl (popped_array _ _ σ x)) (λ x. inr (begins _ _ σ (begin_back _ _ _ σ x))))
  where
    array_white : {c : ℕ} → is_white c ≡ true → Waits array_start n σ t → Waits array_start n σ (c ∷ t)
    array_white p (inl (r, w, a)) = inl (r, white p w, a)
    array_white p (inr v) = inr (white-ValueNext _ _ _ σ p v)
back n c t object_start σ h = if_test h (λ p x. object_white p (out x))
    (λ h. if_byte (λ c. Waits object_start n σ (c ∷ t)) h (λ x. inl (popped_object _ _ σ x))
    (λ h. if_byte (λ c. Waits object_start n σ (c ∷ t)) h (λ x. inr (keys _ _ σ (out x))) never))
  where
    object_white : {c : ℕ} → is_white c ≡ true → Waits object_start n σ t → Waits object_start n σ (c ∷ t)
    object_white p (inl (r, w, a)) = inl (r, white p w, a)
    object_white p (inr v) = inr (white-KeyNext _ _ _ σ p v)
back n c t key σ h = if_test h (λ p x. white-KeyNext _ _ _ σ p (out x)) (λ h. if_byte (λ c. Waits key n σ (c ∷ t)) h (λ x. keys _ _ σ (out x)) never)
back n c t colon σ h = if_test h (λ p x. white-ColonNext _ _ _ σ p (out x)) (λ h. if_byte (λ c. Waits colon n σ (c ∷ t)) h (λ x. (t, no_white, out x)) never)
back _ _ _ after σ h = end_back _ _ _ σ h
back n c t (text k) σ h = if_test h (λ p x. plain p (out x))
    (λ h. if_byte (λ c. Waits (text k) n σ (c ∷ t)) h (λ x. quotes k x)
    (λ h. if_byte (λ c. Waits (text k) n σ (c ∷ t)) h (λ x. escapes (out x)) never))
  where
    plain : {c : ℕ} → is_unescaped c ≡ true → Waits (text k) n σ t → Waits (text k) n σ (c ∷ t)
    plain p (r, cs, a) = (r, unescaped p cs, a)

    quotes : (k : Bool) → In (at (follow k) n σ) t → Waits (text k) n σ (0x22 ∷ t)
    quotes true x = (t, quote, out x)
    quotes false x = (t, quote, out x)

    escapes : Waits (escape k) n σ t → Waits (text k) n σ (0x5C ∷ t)
    escapes (r, es, a) = (r, escaped es, a)
back n c t (escape k) σ h = if_test h (λ p x. shorts p (out x)) (λ h. if_byte (λ c. Waits (escape k) n σ (c ∷ t)) h (λ x. longs (out x)) never)
  where
    shorts : {c : ℕ} → is_escape c ≡ true → Waits (text k) n σ t → Waits (escape k) n σ (c ∷ t)
    shorts p (r, cs, a) = (r, short p cs, a)

    longs : Waits (hex 3 k) n σ t → Waits (escape k) n σ (0x75 ∷ t)
    longs (s, r, hs, cs, a) = (r, long hs cs, a)
back n c t (hex zero k) σ h = if_test h (λ p x. last p (out x)) never
  where
    last : {c : ℕ} → is_hex c ≡ true → Waits (text k) n σ t → Waits (hex zero k) n σ (c ∷ t)
    last p (r, cs, a) = (t, r, hex_digit p no_hex, cs, a)
back n c t (hex (suc m) k) σ h = if_test h (λ p x. more p (out x)) never
  where
    more : {c : ℕ} → is_hex c ≡ true → Waits (hex m k) n σ t → Waits (hex (suc m) k) n σ (c ∷ t)
    more p (s, r, hs, cs, a) = (s, r, hex_digit p hs, cs, a)
back n c t minus σ h = if_test h (λ p x. ints p (out x)) (λ h. if_byte (λ c. Waits minus n σ (c ∷ t)) h (λ x. zeros (out x)) never)
  where
    ints : {c : ℕ} → is_digit1-9 c ≡ true → Waits digits n σ t → Waits minus n σ (c ∷ t)
    ints p (s, r, ds, f, a) = (r, int p ds f, a)

    zeros : Waits zero_digit n σ t → Waits minus n σ (0x30 ∷ t)
    zeros (r, f, a) = (r, zero_int f, a)
back _ _ _ zero_digit σ h = fraction_back _ _ _ σ h
back n c t digits σ h = if_test h (λ p x. more p (out x)) (λ x. none (fraction_back _ _ _ σ x))
  where
    more : {c : ℕ} → is_digit c ≡ true → Waits digits n σ t → Waits digits n σ (c ∷ t)
    more p (s, r, ds, f, a) = (s, r, digit p ds, f, a)

    none : {c : ℕ} → Waits zero_digit n σ (c ∷ t) → Waits digits n σ (c ∷ t)
    none {c} (r, f, a) = (c ∷ t, r, no_digit, f, a)
back n c t point σ h = if_test h (λ p x. more p (out x)) never
  where
    more : {c : ℕ} → is_digit c ≡ true → Waits decimals n σ t → Waits point n σ (c ∷ t)
    more p (s, r, ds, ex, a) = (s, r, digits1 p ds, ex, a)
back n c t decimals σ h = if_test h (λ p x. more p (out x)) (λ x. none (exponent_back _ _ _ σ x))
  where
    more : {c : ℕ} → is_digit c ≡ true → Waits decimals n σ t → Waits decimals n σ (c ∷ t)
    more p (s, r, ds, ex, a) = (s, r, digit p ds, ex, a)

    none : {c : ℕ} → (r : List ℕ) × Exponent (c ∷ t) r × After n σ r → Waits decimals n σ (c ∷ t)
    none {c} (r, ex, a) = (c ∷ t, r, no_digit, ex, a)
back n c t e σ h = if_test h (λ p x. first p (out x)) (λ h. if_test h (λ p x. signs p (out x)) never)
  where
    first : {c : ℕ} → is_digit c ≡ true → Waits power n σ t → Waits e n σ (c ∷ t)
    first p (r, ds, a) = (r, unsigned (digits1 p ds), a)

    signs : {c : ℕ} → is_sign c ≡ true → Waits e_sign n σ t → Waits e n σ (c ∷ t)
    signs p (r, ds, a) = (r, signed p ds, a)
back n c t e_sign σ h = if_test h (λ p x. first p (out x)) never
  where
    first : {c : ℕ} → is_digit c ≡ true → Waits power n σ t → Waits e_sign n σ (c ∷ t)
    first p (r, ds, a) = (r, digits1 p ds, a)
back n c t power σ h = if_test h (λ p x. more p (out x)) (λ x. (c ∷ t, no_digit, end_back _ _ _ σ x))
  where
    more : {c : ℕ} → is_digit c ≡ true → Waits power n σ t → Waits power n σ (c ∷ t)
    more p (r, ds, a) = (r, digit p ds, a)
back n c t t1 σ h = if_byte (λ c. Waits t1 n σ (c ∷ t)) h (λ x. word_more _ _ n t σ (out x)) never
back n c t t2 σ h = if_byte (λ c. Waits t2 n σ (c ∷ t)) h (λ x. word_more _ _ n t σ (out x)) never
back n c t t3 σ h = if_byte (λ c. Waits t3 n σ (c ∷ t)) h (λ x. (t, byte no_byte, out x)) never
back n c t f1 σ h = if_byte (λ c. Waits f1 n σ (c ∷ t)) h (λ x. word_more _ _ n t σ (out x)) never
back n c t f2 σ h = if_byte (λ c. Waits f2 n σ (c ∷ t)) h (λ x. word_more _ _ n t σ (out x)) never
back n c t f3 σ h = if_byte (λ c. Waits f3 n σ (c ∷ t)) h (λ x. word_more _ _ n t σ (out x)) never
back n c t f4 σ h = if_byte (λ c. Waits f4 n σ (c ∷ t)) h (λ x. (t, byte no_byte, out x)) never
back n c t n1 σ h = if_byte (λ c. Waits n1 n σ (c ∷ t)) h (λ x. word_more _ _ n t σ (out x)) never
back n c t n2 σ h = if_byte (λ c. Waits n2 n σ (c ∷ t)) h (λ x. word_more _ _ n t σ (out x)) never
back n c t n3 σ h = if_byte (λ c. Waits n3 n σ (c ∷ t)) h (λ x. (t, byte no_byte, out x)) never
