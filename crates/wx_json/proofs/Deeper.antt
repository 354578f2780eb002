-- With more room the automaton goes the same way, and further where it failed for want of room.
use Rattle.std.proofs.Common.{◌≡◌, ℕ, zero, suc, ◌<◌, List, [], ◌∷◌, Bool, true, false, refl, arith}
use Rattle.std.specs.Prelude.{cond}
use Rattle.wx_json.specs.Machine.{State, dead, at, push, pop, pop_array, pop_object, comma, begin, end, exponent_or_end, follow, next, run}
use Rattle.wx_json.specs.Mode.{Mode}
use Rattle.wx_json.specs.Mode.{value, array_start, object_start, key, colon, after, text, escape, hex, minus, zero_digit, digits, point, decimals, e, e_sign, power, t1, t2, t3, f1, f2, f3, f4, n1, n2, n3}

pub data Deeper : State → State → Type 0 where
  deeper : {m : Mode} {n k : ℕ} {σ : List Bool} → n < k → Deeper (at m n σ) (at m k σ)
  opened : {m : Mode} {k : ℕ} {σ : List Bool} → Deeper (dead true) (at m k σ)
  failed : Deeper (dead false) (dead false)

deeper_cond : (b : Bool) {x x' y y' : State} → Deeper x x' → Deeper y y' → Deeper (cond b x y) (cond b x' y')
deeper_cond true p q = p
deeper_cond false p q = q

module _ (n k : ℕ) (lt : n < k) where
  goes : (m : Mode) (σ : List Bool) → Deeper (at m n σ) (at m k σ)
  goes m σ = deeper lt

  pop_deeper : (σ : List Bool) → Deeper (pop n σ) (pop k σ)
  pop_deeper [] = failed
  pop_deeper (j ∷ σ) = deeper (omega arith)

  pop_array_deeper : (σ : List Bool) → Deeper (pop_array n σ) (pop_array k σ)
  pop_array_deeper [] = failed
  pop_array_deeper (false ∷ σ) = deeper (omega arith)
  pop_array_deeper (true ∷ σ) = failed

  pop_object_deeper : (σ : List Bool) → Deeper (pop_object n σ) (pop_object k σ)
  pop_object_deeper [] = failed
  pop_object_deeper (false ∷ σ) = failed
  pop_object_deeper (true ∷ σ) = deeper (omega arith)

  comma_deeper : (σ : List Bool) → Deeper (comma n σ) (comma k σ)
  comma_deeper [] = failed
  comma_deeper (false ∷ σ) = goes value (false ∷ σ)
  comma_deeper (true ∷ σ) = goes key (true ∷ σ)

push_deeper : (n k : ℕ) → n < k → (m : Mode) (j : Bool) (σ : List Bool) → Deeper (push m j n σ) (push m j k σ)
push_deeper n zero lt m j σ = absurd (omega arith)
push_deeper zero (suc k) lt m j σ = opened
push_deeper (suc n) (suc k) lt m j σ = deeper (omega arith)

module _ (n k : ℕ) (lt : n < k) (σ : List Bool) (c : ℕ) where
  to : (m : Mode) → Deeper (at m n σ) (at m k σ)
  to m = goes n k lt m σ

  end_deeper : Deeper (end n σ c) (end k σ c)
  end_deeper = deeper_cond _ (to after) (deeper_cond _ (comma_deeper n k lt σ) (deeper_cond _ (pop_array_deeper n k lt σ) (deeper_cond _ (pop_object_deeper n k lt σ) failed)))

  begin_deeper : Deeper (begin n σ c) (begin k σ c)
  begin_deeper = deeper_cond _ (to digits) (deeper_cond _ (to (text false)) (deeper_cond _ (push_deeper n k lt array_start false σ)
      (deeper_cond _ (push_deeper n k lt object_start true σ) (deeper_cond _ (to minus) (deeper_cond _ (to zero_digit) (deeper_cond _ (to t1)
      (deeper_cond _ (to f1) (deeper_cond _ (to n1) failed))))))))

  exponent_deeper : Deeper (exponent_or_end n σ c) (exponent_or_end k σ c)
  exponent_deeper = deeper_cond _ (to e) end_deeper

  pub next_deeper : (m : Mode) → Deeper (next m n σ c) (next m k σ c)
  unfolding next
  next_deeper value = deeper_cond _ (to value) begin_deeper
  next_deeper array_start = deeper_cond _ (to array_start) (deeper_cond _ (pop_deeper n k lt σ) begin_deeper)
  next_deeper object_start = deeper_cond _ (to object_start) (deeper_cond _ (pop_deeper n k lt σ) (deeper_cond _ (to (text true)) failed))
  next_deeper key = deeper_cond _ (to key) (deeper_cond _ (to (text true)) failed)
  next_deeper colon = deeper_cond _ (to colon) (deeper_cond _ (to value) failed)
  next_deeper after = end_deeper
  next_deeper (text j) = deeper_cond _ (to (text j)) (deeper_cond _ (to (follow j)) (deeper_cond _ (to (escape j)) failed))
  next_deeper (escape j) = deeper_cond _ (to (text j)) (deeper_cond _ (to (hex 3 j)) failed)
  next_deeper (hex zero j) = deeper_cond _ (to (text j)) failed
  next_deeper (hex (suc i) j) = deeper_cond _ (to (hex i j)) failed
  next_deeper minus = deeper_cond _ (to digits) (deeper_cond _ (to zero_digit) failed)
  next_deeper zero_digit = deeper_cond _ (to point) exponent_deeper
  next_deeper digits = deeper_cond _ (to digits) (deeper_cond _ (to point) exponent_deeper)
  next_deeper point = deeper_cond _ (to decimals) failed
  next_deeper decimals = deeper_cond _ (to decimals) exponent_deeper
  next_deeper e = deeper_cond _ (to power) (deeper_cond _ (to e_sign) failed)
  next_deeper e_sign = deeper_cond _ (to power) failed
  next_deeper power = deeper_cond _ (to power) end_deeper
  next_deeper t1 = deeper_cond _ (to t2) failed
  next_deeper t2 = deeper_cond _ (to t3) failed
  next_deeper t3 = deeper_cond _ (to after) failed
  next_deeper f1 = deeper_cond _ (to f2) failed
  next_deeper f2 = deeper_cond _ (to f3) failed
  next_deeper f3 = deeper_cond _ (to f4) failed
  next_deeper f4 = deeper_cond _ (to after) failed
  next_deeper n1 = deeper_cond _ (to n2) failed
  next_deeper n2 = deeper_cond _ (to n3) failed
  next_deeper n3 = deeper_cond _ (to after) failed

-- over a run that does not fail
dead_run : (b : List ℕ) (d : Bool) → run (dead d) b ≡ dead d
dead_run [] d = refl
dead_run (c ∷ b) d = dead_run b d

alive : (m : Mode) (n : ℕ) (σ : List Bool) (s s' : State) → Deeper s s' → s ≡ at m n σ → (k : ℕ) × (n < k) × (s' ≡ at m k σ)
alive m n σ (at p i τ) (at q k υ) (deeper lt) eq =
    let a : p ≡ m = cc in let b : i ≡ n = cc in let d : τ ≡ σ = cc in (k, omega (arith, b), cc)
alive m n σ (at p i τ) (dead d) h eq = elim h [ ]
alive m n σ (dead true) s' opened eq = cc
alive m n σ (dead false) s' failed eq = cc

pub run_deeper : (b : List ℕ) (s s' : State) → Deeper s s' → (m : Mode) (n : ℕ) (σ : List Bool)
    → run s b ≡ at m n σ → (k : ℕ) × (n < k) × (run s' b ≡ at m k σ)
run_deeper [] s s' h m n σ eq = alive m n σ s s' h eq
run_deeper (c ∷ b) (dead d) s' h m n σ eq = let z : run (dead d) b ≡ dead d = dead_run b d in cc
run_deeper (c ∷ b) (at p i τ) (at q k υ) (deeper lt) m n σ eq = run_deeper b _ _ (next_deeper i k lt τ c p) m n σ eq
run_deeper (c ∷ b) (at p i τ) (dead d) h m n σ eq = elim h [ ]
