-- From what a place waits for before a byte to what it waits for after it: no text of the grammar is refused.
use Rattle.std.proofs.Common.{◌≡◌, ℕ, zero, suc, List, [], ◌∷◌, Bool, true, false, refl, sym, subst, inl, inr}
use Rattle.std.specs.Prelude.{cond, ◌==◌, ◌||◌}
use Rattle.std.proofs.lemmas.Bool.{eqb-true}
use Rattle.wx_json.specs.Json.{is_white, is_digit, is_digit1-9, is_e, is_sign, no_white, white, no_byte, byte, no_digit, digit, digits1, unsigned, signed, Exponent, no_exponent, exponent, Fraction, no_fraction, fraction, zero_int, int, positive, negative, no_hex, hex as hex_digit, quote, unescaped, escaped, short, long}
use Rattle.wx_json.proofs.Bounded.{Value, is_false, is_null, is_true, number, string, empty_array, array, empty_object, object, element, end_array, next_element, member, end_object, next_member}
use Rattle.wx_json.specs.Machine.{State, at, pop, begin, end, exponent_or_end, next}
use Rattle.wx_json.proofs.Waits.{After, Popped, Waits, In, within}
use Rattle.wx_json.specs.Mode.{Mode}
use Rattle.wx_json.specs.Mode.{value, array_start, object_start, key, colon, after, text, escape, hex, minus, zero_digit, digits, point, decimals, e, e_sign, power, t1, t2, t3, f1, f2, f3, f4, n1, n2, n3}
use Rattle.wx_json.proofs.Back.{BeginNext}

yes : {b : Bool} {x : State} (y : State) {t : List ℕ} → b ≡ true → In x t → In (cond b x y) t
yes {b = true} z p h = h
yes {b = false} z p h = cc

no : {b : Bool} (x : State) {y : State} {t : List ℕ} → b ≡ false → In y t → In (cond b x y) t
no {b = true} z p h = cc
no {b = false} z p h = h

unless : (b : Bool) → (b ≡ true → b ≡ false) → b ≡ false
unless true f = f refl
unless false f = refl

or_cases : (a b : Bool) (Q : Type 0) → (a || b) ≡ true → (a ≡ true → Q) → (b ≡ true → Q) → Q
or_cases true b Q p f g = f refl
or_cases false b Q p f g = g p

equal : (P : ℕ → Type 0) (c k : ℕ) → (c == k) ≡ true → P k → P c
equal P c k p h = subst P (sym (eqb-true c k p)) h

white-cases : (P : ℕ → Type 0) (c : ℕ) → is_white c ≡ true → P 0x20 → P 0x09 → P 0x0A → P 0x0D → P c
white-cases P c p p1 p2 p3 p4 = or_cases _ _ (P c) p
    (λ p. or_cases _ _ (P c) p (λ p. or_cases _ _ (P c) p (λ p. equal P c 0x20 p p1) (λ p. equal P c 0x09 p p2)) (λ p. equal P c 0x0A p p3)) (λ p. equal P c 0x0D p p4)

e-cases : (P : ℕ → Type 0) (c : ℕ) → is_e c ≡ true → P 0x65 → P 0x45 → P c
e-cases P c p p1 p2 = or_cases _ _ (P c) p (λ p. equal P c 0x65 p p1) (λ p. equal P c 0x45 p p2)

sign-cases : (P : ℕ → Type 0) (c : ℕ) → is_sign c ≡ true → P 0x2D → P 0x2B → P c
sign-cases P c p p1 p2 = or_cases _ _ (P c) p (λ p. equal P c 0x2D p p1) (λ p. equal P c 0x2B p p2)

-- a digit is no white space, and no other byte that is no digit
digit-not_white : (c : ℕ) → is_digit1-9 c ≡ true → is_white c ≡ false
digit-not_white c d = unless (is_white c) (λ w. white-cases (λ c. is_digit1-9 c ≡ true → is_white c ≡ false) c w (λ h. cc) (λ h. cc) (λ h. cc) (λ h. cc) d)

digit-not_byte : (k c : ℕ) → is_digit1-9 k ≡ false → is_digit1-9 c ≡ true → (c == k) ≡ false
digit-not_byte k c f d = unless (c == k) (λ p. equal (λ c. is_digit1-9 c ≡ true → (c == k) ≡ false) c k p (λ h. cc) d)

-- the first byte of a value
Value-first : (P : ℕ → Type 0) (c n : ℕ) (t r : List ℕ) → ((c : ℕ) → is_digit1-9 c ≡ true → P c) → P 0x66 → P 0x6E → P 0x74 → P 0x30 → P 0x2D → P 0x22 → P 0x5B → P 0x7B → Value (c ∷ t) n r → P c
Value-first P c n t r pd pf pn pt p0 pm pq pa po (is_false (byte w)) = pf
Value-first P c n t r pd pf pn pt p0 pm pq pa po (is_null (byte w)) = pn
Value-first P c n t r pd pf pn pt p0 pm pq pa po (is_true (byte w)) = pt
Value-first P c n t r pd pf pn pt p0 pm pq pa po (number (positive (zero_int f))) = p0
Value-first P c n t r pd pf pn pt p0 pm pq pa po (number (positive (int d ds f))) = pd c d
Value-first P c n t r pd pf pn pt p0 pm pq pa po (number (negative u)) = pm
Value-first P c n t r pd pf pn pt p0 pm pq pa po (string cs) = pq
Value-first P c n t r pd pf pn pt p0 pm pq pa po (empty_array w) = pa
Value-first P c n t r pd pf pn pt p0 pm pq pa po (array es) = pa
Value-first P c n t r pd pf pn pt p0 pm pq pa po (empty_object w) = po
Value-first P c n t r pd pf pn pt p0 pm pq pa po (object ms) = po

-- the first byte after a value
After-first : (P : ℕ → Type 0) (c n : ℕ) (t : List ℕ) (σ : List Bool) → ((c : ℕ) → is_white c ≡ true → P c) → P 0x2C → P 0x5D → P 0x7D → After n σ (c ∷ t) → P c
After-first P c n t [] pw p1 p2 p3 (white p w) = pw c p
After-first P c n t (false ∷ σ) pw p1 p2 p3 (r, end_array (white p w), a) = pw c p
After-first P c n t (false ∷ σ) pw p1 p2 p3 (r, end_array no_white, a) = p2
After-first P c n t (false ∷ σ) pw p1 p2 p3 (r, next_element (white p w) es, a) = pw c p
After-first P c n t (false ∷ σ) pw p1 p2 p3 (r, next_element no_white es, a) = p1
After-first P c n t (true ∷ σ) pw p1 p2 p3 (r, end_object (white p w), a) = pw c p
After-first P c n t (true ∷ σ) pw p1 p2 p3 (r, end_object no_white, a) = p3
After-first P c n t (true ∷ σ) pw p1 p2 p3 (r, next_member (white p w) ms, a) = pw c p
After-first P c n t (true ∷ σ) pw p1 p2 p3 (r, next_member no_white ms, a) = p1

end_forth : (n c : ℕ) (t : List ℕ) (σ : List Bool) → After n σ (c ∷ t) → In (end n σ c) t
end_forth n c t [] (white p w) = yes _ p (within w)
end_forth n c t (false ∷ σ) (r, end_array (white p w), a) = yes _ p (within (r, end_array w, a))
end_forth n c t (false ∷ σ) (r, end_array no_white, a) = within a
end_forth n c t (false ∷ σ) (r, next_element (white p w) es, a) = yes _ p (within (r, next_element w es, a))
end_forth n c t (false ∷ σ) (r, next_element no_white (element {s = s} {u = u} w v m), a) = within (s, u, w, v, (r, m, a))
end_forth n c t (true ∷ σ) (r, end_object (white p w), a) = yes _ p (within (r, end_object w, a))
end_forth n c t (true ∷ σ) (r, end_object no_white, a) = within a
end_forth n c t (true ∷ σ) (r, next_member (white p w) ms, a) = yes _ p (within (r, next_member w ms, a))
end_forth n c t (true ∷ σ) (r, next_member no_white (member {s = s} {u = u} {v = v} {w = x} {x = y} w1 cs w2 w3 val m), a) = within (s, u, w1, cs, (v, w2, (x, y, w3, val, (r, m, a))))

begin_forth : (n c : ℕ) (t : List ℕ) (σ : List Bool) → BeginNext n σ (c ∷ t) → In (begin n σ c) t
begin_forth n c t σ (r, is_false (byte w), a) = within (r, w, a)
begin_forth n c t σ (r, is_null (byte w), a) = within (r, w, a)
begin_forth n c t σ (r, is_true (byte w), a) = within (r, w, a)
begin_forth n c t σ (r, number (positive (zero_int f)), a) = within (r, f, a)
begin_forth n c t σ (r, number (positive (int {s = s} d ds f)), a) = yes _ d (within (s, r, ds, f, a))
begin_forth n c t σ (r, number (negative u), a) = within (r, u, a)
begin_forth n c t σ (r, string cs, a) = within (r, cs, a)
begin_forth n c t σ (r, empty_array w, a) = within (inl (r, w, a))
begin_forth n c t σ (r, array (element {s = s} {u = u} w v m), a) = within (inr (s, u, w, v, (r, m, a)))
begin_forth n c t σ (r, empty_object w, a) = within (inl (r, w, a))
begin_forth n c t σ (r, object (member {s = s} {u = u} {v = v} {w = x} {x = y} w1 cs w2 w3 val m), a) = within (inr (s, u, w1, cs, (v, w2, (x, y, w3, val, (r, m, a)))))

exponent_forth : (n c : ℕ) (t r : List ℕ) (σ : List Bool) → Exponent (c ∷ t) r → After n σ r → In (exponent_or_end n σ c) t
exponent_forth n c t r σ (exponent p w) a = yes _ p (within (r, w, a))
exponent_forth n c t r σ no_exponent a =
    no _ (After-first (λ c. is_e c ≡ false) c n t σ (λ c p. white-cases (λ c. is_e c ≡ false) c p refl refl refl refl) refl refl refl a) (end_forth n c t σ a)

fraction_forth : (n c : ℕ) (t r : List ℕ) (σ : List Bool) → Fraction (c ∷ t) r → After n σ r → In (cond (c == 0x2E) (at point n σ) (exponent_or_end n σ c)) t
fraction_forth n c t r σ (fraction {s = s} ds ex) a = within (s, r, ds, ex, a)
fraction_forth n c t r σ (no_fraction (exponent p w)) a =
    no _ (e-cases (λ c. (c == 0x2E) ≡ false) c p refl refl) (exponent_forth n c t r σ (exponent p w) a)
fraction_forth n c t r σ (no_fraction no_exponent) a =
    no _ (After-first (λ c. (c == 0x2E) ≡ false) c n t σ (λ c p. white-cases (λ c. (c == 0x2E) ≡ false) c p refl refl refl refl) refl refl refl a) (exponent_forth n c t r σ no_exponent a)

After-not_digit : (n c : ℕ) (t : List ℕ) (σ : List Bool) → After n σ (c ∷ t) → is_digit c ≡ false
After-not_digit n c t σ a = After-first (λ c. is_digit c ≡ false) c n t σ (λ c p. white-cases (λ c. is_digit c ≡ false) c p refl refl refl refl) refl refl refl a

exponent-not_digit : (n c : ℕ) (t r : List ℕ) (σ : List Bool) → Exponent (c ∷ t) r → After n σ r → is_digit c ≡ false
exponent-not_digit n c t r σ (exponent p w) a = e-cases (λ c. is_digit c ≡ false) c p refl refl
exponent-not_digit n c t r σ no_exponent a = After-not_digit n c t σ a

fraction-not_digit : (n c : ℕ) (t r : List ℕ) (σ : List Bool) → Fraction (c ∷ t) r → After n σ r → is_digit c ≡ false
fraction-not_digit n c t r σ (fraction ds ex) a = refl
fraction-not_digit n c t r σ (no_fraction ex) a = exponent-not_digit n c t r σ ex a

value_first_not_white : (c n : ℕ) (t r : List ℕ) → Value (c ∷ t) n r → is_white c ≡ false
value_first_not_white c n t r v = Value-first (λ c. is_white c ≡ false) c n t r digit-not_white refl refl refl refl refl refl refl refl v

value_first_not_end : (c n : ℕ) (t r : List ℕ) → Value (c ∷ t) n r → (c == 0x5D) ≡ false
value_first_not_end c n t r v = Value-first (λ c. (c == 0x5D) ≡ false) c n t r (λ c d. digit-not_byte 0x5D c refl d) refl refl refl refl refl refl refl refl v

pop_forth : (n : ℕ) (t : List ℕ) (σ : List Bool) → Popped n σ t → In (pop n σ) t
pop_forth n t [] h = absurd h
pop_forth n t (k ∷ σ) a = within a

pub forth : (n c : ℕ) (t : List ℕ) (m : Mode) (σ : List Bool) → Waits m n σ (c ∷ t) → In (next m n σ c) t
unfolding next
forth n c t value σ (s, r, white p w, v, a) = yes _ p (within (s, r, w, v, a))
forth n c t value σ (s, r, no_white, v, a) = no _ (value_first_not_white c n t r v) (begin_forth n c t σ (r, v, a))
forth n c t array_start σ (inl (r, white p w, a)) = yes _ p (within (inl (r, w, a)))
forth n c t array_start σ (inl (r, no_white, a)) = pop_forth n t σ a
forth n c t array_start σ (inr (s, r, white p w, v, a)) = yes _ p (within (inr (s, r, w, v, a)))
forth n c t array_start σ (inr (s, r, no_white, v, a)) =
    no _ (value_first_not_white c n t r v) (no _ (value_first_not_end c n t r v) (begin_forth n c t σ (r, v, a)))
forth n c t object_start σ (inl (r, white p w, a)) = yes _ p (within (inl (r, w, a)))
forth n c t object_start σ (inl (r, no_white, a)) = pop_forth n t σ a
forth n c t object_start σ (inr (s, r, white p w, cs, a)) = yes _ p (within (inr (s, r, w, cs, a)))
forth n c t object_start σ (inr (s, r, no_white, cs, a)) = within (r, cs, a)
forth n c t key σ (s, r, white p w, cs, a) = yes _ p (within (s, r, w, cs, a))
forth n c t key σ (s, r, no_white, cs, a) = within (r, cs, a)
forth n c t colon σ (s, white p w, v) = yes _ p (within (s, w, v))
forth n c t colon σ (s, no_white, v) = within v
forth n c t after σ a = end_forth n c t σ a
forth n c t (text k) σ (r, unescaped p cs, a) = yes _ p (within (r, cs, a))
forth n c t (text k) σ (r, escaped es, a) = within (r, es, a)
forth n c t (text true) σ (r, quote, a) = within a
forth n c t (text false) σ (r, quote, a) = within a
forth n c t (escape k) σ (r, short p cs, a) = yes _ p (within (r, cs, a))
forth n c t (escape k) σ (r, long {s = s} hs cs, a) = within (s, r, hs, cs, a)
forth n c t (hex zero k) σ (s, r, hex_digit p no_hex, cs, a) = yes _ p (within (r, cs, a))
forth n c t (hex (suc m) k) σ (s, r, hex_digit p hs, cs, a) = yes _ p (within (s, r, hs, cs, a))
forth n c t minus σ (r, zero_int f, a) = within (r, f, a)
forth n c t minus σ (r, int {s = s} p ds f, a) = yes _ p (within (s, r, ds, f, a))
forth n c t zero_digit σ (r, f, a) = fraction_forth n c t r σ f a
forth n c t digits σ (s, r, digit p ds, f, a) = yes _ p (within (s, r, ds, f, a))
forth n c t digits σ (s, r, no_digit, f, a) = no _ (fraction-not_digit n c t r σ f a) (fraction_forth n c t r σ f a)
forth n c t point σ (s, r, digits1 p ds, ex, a) = yes _ p (within (s, r, ds, ex, a))
forth n c t decimals σ (s, r, digit p ds, ex, a) = yes _ p (within (s, r, ds, ex, a))
forth n c t decimals σ (s, r, no_digit, ex, a) = no _ (exponent-not_digit n c t r σ ex a) (exponent_forth n c t r σ ex a)
forth n c t e σ (r, unsigned (digits1 p ds), a) = yes _ p (within (r, ds, a))
forth n c t e σ (r, signed p ds, a) = no _ (sign-cases (λ c. is_digit c ≡ false) c p refl refl) (yes _ p (within (r, ds, a)))
forth n c t e_sign σ (r, digits1 p ds, a) = yes _ p (within (r, ds, a))
forth n c t power σ (r, digit p ds, a) = yes _ p (within (r, ds, a))
forth n c t power σ (r, no_digit, a) = no _ (After-not_digit n c t σ a) (end_forth n c t σ a)
forth n c t t1 σ (r, byte ws, a) = within (r, ws, a)
forth n c t t2 σ (r, byte ws, a) = within (r, ws, a)
forth n c t t3 σ (r, byte no_byte, a) = within a
forth n c t f1 σ (r, byte ws, a) = within (r, ws, a)
forth n c t f2 σ (r, byte ws, a) = within (r, ws, a)
forth n c t f3 σ (r, byte ws, a) = within (r, ws, a)
forth n c t f4 σ (r, byte no_byte, a) = within a
forth n c t n1 σ (r, byte ws, a) = within (r, ws, a)
forth n c t n2 σ (r, byte ws, a) = within (r, ws, a)
forth n c t n3 σ (r, byte no_byte, a) = within a
