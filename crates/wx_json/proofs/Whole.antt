-- The automaton over whole texts: it accepts exactly the grammar's texts, and every place that it reaches can be completed.
use Rattle.std.proofs.Common.{◌≡◌, ℕ, zero, suc, List, [], ◌∷◌, ◌++◌, Bool, true, false, refl, inl, inr, append-nil}
use Rattle.wx_json.specs.Json.{no_white, Word, no_byte, byte, no_digit, digits1, unsigned, no_exponent, no_fraction, zero_int, positive, Hexes, no_hex, hex as hex_digit, quote, short}
use Rattle.wx_json.proofs.Bounded.{Value, is_false, is_null, is_true, number, end_array, next_element, end_object, next_member, IsJsonWithin}
use Rattle.wx_json.specs.Machine.{State, dead, at, next, run, start, accepts_at, accepts}
use Rattle.wx_json.proofs.Waits.{After, ValueNext, ColonNext, KeyNext, Follows, Waits, In, within}
use Rattle.wx_json.specs.Mode.{Mode}
use Rattle.wx_json.specs.Mode.{value, array_start, object_start, key, colon, after, text, escape, hex, minus, zero_digit, digits, point, decimals, e, e_sign, power, t1, t2, t3, f1, f2, f3, f4, n1, n2, n3}
use Rattle.wx_json.proofs.Back.{back, out}
use Rattle.wx_json.proofs.Forth.{forth}

-- over a run
pub In-run_back : (b t : List ℕ) (s : State) → In (run s b) t → In s (b ++ t)
In-run_back [] t s h = h
In-run_back (c ∷ b) t (dead d) h = elim (In-run_back b t (dead d) h) [ ]
In-run_back (c ∷ b) t (at m n σ) h = within (back n c (b ++ t) m σ (In-run_back b t (next m n σ c) h))

pub In-run_forth : (b t : List ℕ) (s : State) → In s (b ++ t) → In (run s b) t
In-run_forth [] t s h = h
In-run_forth (c ∷ b) t (dead d) h = elim h [ ]
In-run_forth (c ∷ b) t (at m n σ) h = In-run_forth b t (next m n σ c) (forth n c (b ++ t) m σ (out h))

-- nothing but white space is empty
no_Value : (n : ℕ) (r : List ℕ) (Q : Type 0) → Value [] n r → Q
no_Value n r Q (is_false w) = elim w [ ]
no_Value n r Q (is_null w) = elim w [ ]
no_Value n r Q (is_true w) = elim w [ ]
no_Value n r Q (number (positive u)) = elim u [ ]

no_After : (n : ℕ) (k : Bool) (σ : List Bool) (Q : Type 0) → After n (k ∷ σ) [] → Q
no_After n false σ Q (r, end_array w, a) = elim w [ ]
no_After n false σ Q (r, next_element w es, a) = elim w [ ]
no_After n true σ Q (r, end_object w, a) = elim w [ ]
no_After n true σ Q (r, next_member w ms, a) = elim w [ ]

no_ValueNext : (n : ℕ) (σ : List Bool) (Q : Type 0) → ValueNext n σ [] → Q
no_ValueNext n σ Q (s, r, no_white, v, a) = no_Value n r Q v

no_KeyNext : (n : ℕ) (σ : List Bool) (Q : Type 0) → KeyNext n σ [] → Q
no_KeyNext n σ Q (s, r, w, cs, a) = elim w [ ]

no_ColonNext : (n : ℕ) (σ : List Bool) (Q : Type 0) → ColonNext n σ [] → Q
no_ColonNext n σ Q (s, w, v) = elim w [ ]

after_end : (n : ℕ) (σ : List Bool) → After n σ [] → accepts_at after σ ≡ true
after_end n [] a = refl
after_end n (k ∷ σ) a = no_After n k σ _ a

-- where a text may end
pub accepts-end : (n : ℕ) (m : Mode) (σ : List Bool) → Waits m n σ [] → accepts_at m σ ≡ true
accepts-end n value σ w = no_ValueNext n σ _ w
accepts-end n array_start σ (inl (r, w, a)) = elim w [ ]
accepts-end n array_start σ (inr v) = no_ValueNext n σ _ v
accepts-end n object_start σ (inl (r, w, a)) = elim w [ ]
accepts-end n object_start σ (inr v) = no_KeyNext n σ _ v
accepts-end n key σ v = no_KeyNext n σ _ v
accepts-end n colon σ v = no_ColonNext n σ _ v
accepts-end n after σ a = after_end n σ a
accepts-end n (text k) σ (r, cs, a) = elim cs [ ]
accepts-end n (escape k) σ (r, cs, a) = elim cs [ ]
accepts-end n (hex m k) σ (s, r, hs, cs, a) = elim hs [ ]
accepts-end n minus σ (r, u, a) = elim u [ ]
accepts-end n zero_digit [] w = refl
accepts-end n zero_digit (k ∷ σ) (r, no_fraction no_exponent, a) = no_After n k σ _ a
accepts-end n digits [] w = refl
accepts-end n digits (k ∷ σ) (s, r, no_digit, no_fraction no_exponent, a) = no_After n k σ _ a
accepts-end n point σ (s, r, ds, ex, a) = elim ds [ ]
accepts-end n decimals [] w = refl
accepts-end n decimals (k ∷ σ) (s, r, no_digit, no_exponent, a) = no_After n k σ _ a
accepts-end n e σ (r, unsigned ds, a) = elim ds [ ]
accepts-end n e_sign σ (r, ds, a) = elim ds [ ]
accepts-end n power [] w = refl
accepts-end n power (k ∷ σ) (r, no_digit, a) = no_After n k σ _ a
accepts-end n t1 σ (r, ws, a) = elim ws [ ]
accepts-end n t2 σ (r, ws, a) = elim ws [ ]
accepts-end n t3 σ (r, ws, a) = elim ws [ ]
accepts-end n f1 σ (r, ws, a) = elim ws [ ]
accepts-end n f2 σ (r, ws, a) = elim ws [ ]
accepts-end n f3 σ (r, ws, a) = elim ws [ ]
accepts-end n f4 σ (r, ws, a) = elim ws [ ]
accepts-end n n1 σ (r, ws, a) = elim ws [ ]
accepts-end n n2 σ (r, ws, a) = elim ws [ ]
accepts-end n n3 σ (r, ws, a) = elim ws [ ]

pub end-accepts : (n : ℕ) (m : Mode) (σ : List Bool) → accepts_at m σ ≡ true → Waits m n σ []
end-accepts n after [] h = no_white
end-accepts n zero_digit [] h = ([], no_fraction no_exponent, no_white)
end-accepts n digits [] h = ([], [], no_digit, no_fraction no_exponent, no_white)
end-accepts n decimals [] h = ([], [], no_digit, no_exponent, no_white)
end-accepts n power [] h = ([], no_digit, no_white)
end-accepts n value [] h = cc
end-accepts n array_start [] h = cc
end-accepts n object_start [] h = cc
end-accepts n key [] h = cc
end-accepts n colon [] h = cc
end-accepts n (text k) [] h = cc
end-accepts n (escape k) [] h = cc
end-accepts n (hex m k) [] h = cc
end-accepts n minus [] h = cc
end-accepts n point [] h = cc
end-accepts n e [] h = cc
end-accepts n e_sign [] h = cc
end-accepts n t1 [] h = cc
end-accepts n t2 [] h = cc
end-accepts n t3 [] h = cc
end-accepts n f1 [] h = cc
end-accepts n f2 [] h = cc
end-accepts n f3 [] h = cc
end-accepts n f4 [] h = cc
end-accepts n n1 [] h = cc
end-accepts n n2 [] h = cc
end-accepts n n3 [] h = cc
end-accepts n m (k ∷ σ) h = cc

-- A text of the grammar is one that the automaton accepts.
pub accepts-IsJson : (n : ℕ) (t : List ℕ) → IsJsonWithin n t → accepts (run (start n) t) ≡ true
accepts-IsJson n t (s, r, w, v, w2) = ends _ (In-run_forth t [] (start n) (within (rw append-nil (s, r, w, v, w2))))
  where
    ends : (s : State) → In s [] → accepts s ≡ true
    ends (dead d) h = elim h [ ]
    ends (at m n σ) (within w) = accepts-end n m σ w

pub IsJson-accepts : (n : ℕ) (t : List ℕ) → accepts (run (start n) t) ≡ true → IsJsonWithin n t
IsJson-accepts n t h = rw append-nil at (out (In-run_back t [] (start n) (ends _ h)))
  where
    ends : (s : State) → accepts s ≡ true → In s []
    ends (dead d) h = cc
    ends (at m n σ) h = within (end-accepts n m σ h)

-- A place can be completed: by these bytes.
unfoldable pub closers : List Bool → List ℕ
closers [] = []
closers (false ∷ σ) = 0x5D ∷ closers σ
closers (true ∷ σ) = 0x7D ∷ closers σ

After-closers : (n : ℕ) (σ : List Bool) → After n σ (closers σ)
unfolding closers
After-closers n [] = no_white
After-closers n (false ∷ σ) = (closers σ, end_array no_white, After-closers (suc n) σ)
After-closers n (true ∷ σ) = (closers σ, end_object no_white, After-closers (suc n) σ)

zero_next : (n : ℕ) (σ : List Bool) → ValueNext n σ (0x30 ∷ closers σ)
zero_next n σ = (0x30 ∷ closers σ, closers σ, no_white, number (positive (zero_int (no_fraction no_exponent))), After-closers n σ)

colon_next : (n : ℕ) (σ : List Bool) → ColonNext n σ (0x3A ∷ 0x30 ∷ closers σ)
colon_next n σ = (0x30 ∷ closers σ, no_white, zero_next n σ)

key_next : (n : ℕ) (σ : List Bool) → KeyNext n σ (0x22 ∷ 0x22 ∷ 0x3A ∷ 0x30 ∷ closers σ)
key_next n σ = (0x22 ∷ 0x3A ∷ 0x30 ∷ closers σ, 0x3A ∷ 0x30 ∷ closers σ, no_white, quote, colon_next n σ)

unfoldable pub follow_bytes : Bool → List Bool → List ℕ
follow_bytes true σ = 0x3A ∷ 0x30 ∷ closers σ
follow_bytes false σ = closers σ

follows_next : (k : Bool) (n : ℕ) (σ : List Bool) → Follows k n σ (follow_bytes k σ)
unfolding follow_bytes
follows_next true n σ = colon_next n σ
follows_next false n σ = After-closers n σ

unfoldable pub hex_bytes : ℕ → List ℕ → List ℕ
hex_bytes zero t = t
hex_bytes (suc m) t = 0x30 ∷ hex_bytes m t

Hexes-bytes : (m : ℕ) (t : List ℕ) → Hexes m (hex_bytes m t) t
unfolding hex_bytes
Hexes-bytes zero t = no_hex
Hexes-bytes (suc m) t = hex_digit refl (Hexes-bytes m t)

Word-append : (w t : List ℕ) → Word w (w ++ t) t
Word-append [] t = no_byte
Word-append (b ∷ w) t = byte (Word-append w t)

-- the bytes that complete a place
unfoldable pub completion : Mode → List Bool → List ℕ
completion value σ = 0x30 ∷ closers σ
completion array_start σ = 0x30 ∷ closers σ
completion object_start σ = 0x22 ∷ 0x22 ∷ 0x3A ∷ 0x30 ∷ closers σ
completion key σ = 0x22 ∷ 0x22 ∷ 0x3A ∷ 0x30 ∷ closers σ
completion colon σ = 0x3A ∷ 0x30 ∷ closers σ
completion after σ = closers σ
completion (text k) σ = 0x22 ∷ follow_bytes k σ
completion (escape k) σ = 0x6E ∷ 0x22 ∷ follow_bytes k σ
completion (hex m k) σ = hex_bytes (suc m) (0x22 ∷ follow_bytes k σ)
completion minus σ = 0x30 ∷ closers σ
completion zero_digit σ = closers σ
completion digits σ = closers σ
completion point σ = 0x30 ∷ closers σ
completion decimals σ = closers σ
completion e σ = 0x30 ∷ closers σ
completion e_sign σ = 0x30 ∷ closers σ
completion power σ = closers σ
completion t1 σ = 0x72 ∷ 0x75 ∷ 0x65 ∷ closers σ
completion t2 σ = 0x75 ∷ 0x65 ∷ closers σ
completion t3 σ = 0x65 ∷ closers σ
completion f1 σ = 0x61 ∷ 0x6C ∷ 0x73 ∷ 0x65 ∷ closers σ
completion f2 σ = 0x6C ∷ 0x73 ∷ 0x65 ∷ closers σ
completion f3 σ = 0x73 ∷ 0x65 ∷ closers σ
completion f4 σ = 0x65 ∷ closers σ
completion n1 σ = 0x75 ∷ 0x6C ∷ 0x6C ∷ closers σ
completion n2 σ = 0x6C ∷ 0x6C ∷ closers σ
completion n3 σ = 0x6C ∷ closers σ

pub completes : (m : Mode) (n : ℕ) (σ : List Bool) → Waits m n σ (completion m σ)
unfolding completion
completes value n σ = zero_next n σ
completes array_start n σ = inr (zero_next n σ)
completes object_start n σ = inr (key_next n σ)
completes key n σ = key_next n σ
completes colon n σ = colon_next n σ
completes after n σ = After-closers n σ
completes (text k) n σ = (follow_bytes k σ, quote, follows_next k n σ)
completes (escape k) n σ = (follow_bytes k σ, short refl quote, follows_next k n σ)
completes (hex m k) n σ = (0x22 ∷ follow_bytes k σ, follow_bytes k σ, Hexes-bytes (suc m) (0x22 ∷ follow_bytes k σ), quote, follows_next k n σ)
completes minus n σ = (closers σ, zero_int (no_fraction no_exponent), After-closers n σ)
completes zero_digit n σ = (closers σ, no_fraction no_exponent, After-closers n σ)
completes digits n σ = (closers σ, closers σ, no_digit, no_fraction no_exponent, After-closers n σ)
completes point n σ = (closers σ, closers σ, digits1 refl no_digit, no_exponent, After-closers n σ)
completes decimals n σ = (closers σ, closers σ, no_digit, no_exponent, After-closers n σ)
completes e n σ = (closers σ, unsigned (digits1 refl no_digit), After-closers n σ)
completes e_sign n σ = (closers σ, digits1 refl no_digit, After-closers n σ)
completes power n σ = (closers σ, no_digit, After-closers n σ)
completes t1 n σ = (closers σ, Word-append (0x72 ∷ 0x75 ∷ 0x65 ∷ []) (closers σ), After-closers n σ)
completes t2 n σ = (closers σ, Word-append (0x75 ∷ 0x65 ∷ []) (closers σ), After-closers n σ)
completes t3 n σ = (closers σ, Word-append (0x65 ∷ []) (closers σ), After-closers n σ)
completes f1 n σ = (closers σ, Word-append (0x61 ∷ 0x6C ∷ 0x73 ∷ 0x65 ∷ []) (closers σ), After-closers n σ)
completes f2 n σ = (closers σ, Word-append (0x6C ∷ 0x73 ∷ 0x65 ∷ []) (closers σ), After-closers n σ)
completes f3 n σ = (closers σ, Word-append (0x73 ∷ 0x65 ∷ []) (closers σ), After-closers n σ)
completes f4 n σ = (closers σ, Word-append (0x65 ∷ []) (closers σ), After-closers n σ)
completes n1 n σ = (closers σ, Word-append (0x75 ∷ 0x6C ∷ 0x6C ∷ []) (closers σ), After-closers n σ)
completes n2 n σ = (closers σ, Word-append (0x6C ∷ 0x6C ∷ []) (closers σ), After-closers n σ)
completes n3 n σ = (closers σ, Word-append (0x6C ∷ []) (closers σ), After-closers n σ)
