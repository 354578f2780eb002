-- The automaton over UTF-8: it agrees with RFC 3629's grammar.
use Rattle.std.proofs.Common.{◌≡◌, ℕ, zero, suc, ◌<◌, ◌≤◌, List, [], ◌∷◌, ◌++◌, Bool, true, false, refl, subst, arith, lit<}
use Rattle.std.specs.Prelude.{cond, ◌&&◌, nat_le}
use Rattle.std.proofs.lemmas.Bool.{leb-true, and_parts}
use Rattle.wx_json.specs.Json.{is_between}
use Rattle.wx_json.specs.Coding.{lead, code, codes}
use Rattle.wx_json.specs.Coding.{Coding}
use Rattle.wx_json.specs.Coding.{whole, wants, broken}
use Rattle.wx_json.specs.Utf8.{Tails, no_tail, tail, IsUtf8Text, utf8_1, utf8_2, utf8_3_e0, utf8_3_low, utf8_3_ed, utf8_3_high, utf8_4_f0, utf8_4, utf8_4_f4}

pub data Coded : Coding → List ℕ → Type 0 where
  at_char : {t : List ℕ} → IsUtf8Text t → Coded whole t
  inside : {low high n c : ℕ} {t r : List ℕ} → is_between low high c ≡ true → Tails n t r → IsUtf8Text r → Coded (wants low high n) (c ∷ t)

pub if_test : {b : Bool} {x y : Coding} {t : List ℕ} {Q : Type 0} → Coded (cond b x y) t → (b ≡ true → Coded x t → Q) → (Coded y t → Q) → Q
if_test {b = true} h f g = f refl h
if_test {b = false} h f g = g h

yes : {b : Bool} {x : Coding} (y : Coding) {t : List ℕ} → b ≡ true → Coded x t → Coded (cond b x y) t
yes {b = true} z p h = h
yes {b = false} z p h = cc

no : {b : Bool} (x : Coding) {y : Coding} {t : List ℕ} → b ≡ false → Coded y t → Coded (cond b x y) t
no {b = true} z p h = cc
no {b = false} z p h = h

pub bounds : (low high c : ℕ) → is_between low high c ≡ true → (low ≤ c) × (c ≤ high)
bounds low high c p = let q = and_parts (nat_le low c) (nat_le c high) p in (leb-true low c q.0, leb-true c high q.1)

-- a byte of one range is in no range above or below it
pub unless : (b : Bool) → (b ≡ true → b ≡ false) → b ≡ false
unless true f = f refl
unless false f = refl

below : (low high low' high' c : ℕ) → is_between low high c ≡ true → high' < low → is_between low' high' c ≡ false
below low high low' high' c p h = unless (is_between low' high' c) (λ q. let a = bounds low high c p in let b = bounds low' high' c q in absurd (omega arith))

only : (k c : ℕ) (P : ℕ → Type 0) → is_between k k c ≡ true → P k → P c
only k c P p h = let b = bounds k k c p in let e : k ≡ c = omega arith in subst P e h

range_back : (low high n c : ℕ) (t : List ℕ) → Coded (code (wants low high n) c) t → Coded (wants low high n) (c ∷ t)
unfolding code
range_back low high zero c t h = if_test h (λ p x. last p x) (λ x. elim x [ ])
  where
    last : is_between low high c ≡ true → Coded whole t → Coded (wants low high zero) (c ∷ t)
    last p (at_char u) = inside p no_tail u
range_back low high (suc n) c t h = if_test h (λ p x. more t p x) (λ x. elim x [ ])
  where
    more : (t : List ℕ) → is_between low high c ≡ true → Coded (wants 0x80 0xBF n) t → Coded (wants low high (suc n)) (c ∷ t)
    more [] p x = elim x [ ]
    more (a ∷ t) p (inside q ts u) = inside p (tail q ts) u

range_forth : (low high n c : ℕ) (t : List ℕ) → Coded (wants low high n) (c ∷ t) → Coded (code (wants low high n) c) t
unfolding code
range_forth low high zero c t (inside p no_tail u) = yes _ p (at_char u)
range_forth low high (suc n) c t (inside p (tail q ts) u) = yes _ p (inside q ts u)

tails_of : (n : ℕ) (t : List ℕ) → Coded (wants 0x80 0xBF n) t → (r : List ℕ) × Tails (suc n) t r × IsUtf8Text r
tails_of n [] x = elim x [ ]
tails_of n (c ∷ t) (inside {r = r} p ts u) = (r, tail p ts, u)

of_tails : (n : ℕ) (t r : List ℕ) → Tails (suc n) t r → IsUtf8Text r → Coded (wants 0x80 0xBF n) t
of_tails n [] r x u = elim x [ ]
of_tails n (c ∷ t) r (tail p ts) u = inside p ts u

lead_back : (c : ℕ) (t : List ℕ) → Coded (lead c) t → IsUtf8Text (c ∷ t)
lead_back c t h = if_test h (λ p x. ascii p x)
    (λ h. if_test h (λ p x. let q = tails_of 0 t x in utf8_2 p q.1 q.2)
    (λ h. if_test h (λ p x. only 0xE0 c (λ c. IsUtf8Text (c ∷ t)) p (utf8_3_e0_back t x))
    (λ h. if_test h (λ p x. let q = tails_of 1 t x in utf8_3_low p q.1 q.2)
    (λ h. if_test h (λ p x. only 0xED c (λ c. IsUtf8Text (c ∷ t)) p (utf8_3_ed_back t x))
    (λ h. if_test h (λ p x. let q = tails_of 1 t x in utf8_3_high p q.1 q.2)
    (λ h. if_test h (λ p x. only 0xF0 c (λ c. IsUtf8Text (c ∷ t)) p (utf8_4_f0_back t x))
    (λ h. if_test h (λ p x. let q = tails_of 2 t x in utf8_4 p q.1 q.2)
    (λ h. if_test h (λ p x. only 0xF4 c (λ c. IsUtf8Text (c ∷ t)) p (utf8_4_f4_back t x))
    (λ x. elim x [ ])))))))))
  where
    ascii : is_between 0x00 0x7F c ≡ true → Coded whole t → IsUtf8Text (c ∷ t)
    ascii p (at_char u) = utf8_1 p u

    utf8_3_e0_back : (t : List ℕ) → Coded (wants 0xA0 0xBF 1) t → IsUtf8Text (0xE0 ∷ t)
    utf8_3_e0_back [] x = elim x [ ]
    utf8_3_e0_back (a ∷ t) (inside p ts u) = utf8_3_e0 p ts u

    utf8_3_ed_back : (t : List ℕ) → Coded (wants 0x80 0x9F 1) t → IsUtf8Text (0xED ∷ t)
    utf8_3_ed_back [] x = elim x [ ]
    utf8_3_ed_back (a ∷ t) (inside p ts u) = utf8_3_ed p ts u

    utf8_4_f0_back : (t : List ℕ) → Coded (wants 0x90 0xBF 2) t → IsUtf8Text (0xF0 ∷ t)
    utf8_4_f0_back [] x = elim x [ ]
    utf8_4_f0_back (a ∷ t) (inside p ts u) = utf8_4_f0 p ts u

    utf8_4_f4_back : (t : List ℕ) → Coded (wants 0x80 0x8F 2) t → IsUtf8Text (0xF4 ∷ t)
    utf8_4_f4_back [] x = elim x [ ]
    utf8_4_f4_back (a ∷ t) (inside p ts u) = utf8_4_f4 p ts u

lead_forth : (c : ℕ) (t : List ℕ) → IsUtf8Text (c ∷ t) → Coded (lead c) t
lead_forth c t (utf8_1 p u) = yes _ p (at_char u)
lead_forth c t (utf8_2 {r = r} p ts u) = no _ (below 0xC2 0xDF 0x00 0x7F c p (lit< tt)) (yes _ p (of_tails 0 t r ts u))
lead_forth c (a ∷ t) (utf8_3_e0 p ts u) = inside p ts u
lead_forth c t (utf8_3_low {r = r} p ts u) = no _ (below 0xE1 0xEC 0x00 0x7F c p (lit< tt)) (no _ (below 0xE1 0xEC 0xC2 0xDF c p (lit< tt)) (no _ (below 0xE1 0xEC 0xE0 0xE0 c p (lit< tt)) (yes _ p (of_tails 1 t r ts u))))
lead_forth c (a ∷ t) (utf8_3_ed p ts u) = inside p ts u
lead_forth c t (utf8_3_high {r = r} p ts u) = no _ (below 0xEE 0xEF 0x00 0x7F c p (lit< tt)) (no _ (below 0xEE 0xEF 0xC2 0xDF c p (lit< tt)) (no _ (below 0xEE 0xEF 0xE0 0xE0 c p (lit< tt)) (no _ (below 0xEE 0xEF 0xE1 0xEC c p (lit< tt)) (no _ (below 0xEE 0xEF 0xED 0xED c p (lit< tt)) (yes _ p (of_tails 1 t r ts u))))))
lead_forth c (a ∷ t) (utf8_4_f0 p ts u) = inside p ts u
lead_forth c t (utf8_4 {r = r} p ts u) = no _ (below 0xF1 0xF3 0x00 0x7F c p (lit< tt)) (no _ (below 0xF1 0xF3 0xC2 0xDF c p (lit< tt)) (no _ (below 0xF1 0xF3 0xE0 0xE0 c p (lit< tt)) (no _ (below 0xF1 0xF3 0xE1 0xEC c p (lit< tt)) (no _ (below 0xF1 0xF3 0xED 0xED c p (lit< tt)) (no _ (below 0xF1 0xF3 0xEE 0xEF c p (lit< tt)) (no _ (below 0xF1 0xF3 0xF0 0xF0 c p (lit< tt)) (yes _ p (of_tails 2 t r ts u))))))))
lead_forth c (a ∷ t) (utf8_4_f4 p ts u) = inside p ts u

-- what may follow a byte is, with the byte, what might follow before it, and the other way
pub code_back : (s : Coding) (c : ℕ) (t : List ℕ) → Coded (code s c) t → Coded s (c ∷ t)
unfolding code
code_back whole c t h = at_char (lead_back c t h)
code_back (wants low high n) c t h = range_back low high n c t h
code_back broken c t h = elim h [ ]

pub code_forth : (s : Coding) (c : ℕ) (t : List ℕ) → Coded s (c ∷ t) → Coded (code s c) t
unfolding code
code_forth whole c t (at_char u) = lead_forth c t u
code_forth (wants low high n) c t h = range_forth low high n c t h
code_forth broken c t h = elim h [ ]

pub Coded-codes_back : (b t : List ℕ) (s : Coding) → Coded (codes s b) t → Coded s (b ++ t)
Coded-codes_back [] t s h = h
Coded-codes_back (c ∷ b) t s h = code_back s c (b ++ t) (Coded-codes_back b t (code s c) h)

pub Coded-codes_forth : (b t : List ℕ) (s : Coding) → Coded s (b ++ t) → Coded (codes s b) t
Coded-codes_forth [] t s h = h
Coded-codes_forth (c ∷ b) t s h = Coded-codes_forth b t (code s c) (code_forth s c (b ++ t) h)
