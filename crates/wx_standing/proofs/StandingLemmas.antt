-- What is kept of endpoints and hosts, behind what a turn does to it.
use Rattle.std.proofs.Common.{◌≡◌, ℕ, zero, suc, ◌+◌, ◌-◌, ◌==◌, ◌<◌, cond, Bool, true, false, List, [], ◌∷◌, ◌++◌, refl, ap, sym, subst, ◌∙◌, arith}
use Rattle.std.specs.Prelude.{◌&&◌, ◌||◌, not, nat_le, All, reverse}
use Rattle.std.proofs.lemmas.List.{reverse-append}
use Rattle.std.proofs.lemmas.List.Elements.{All-nil, All-cons, All-append}
use Rattle.wx_machine.specs.declared.entries.Who.{Who}
use Rattle.wx_machine.specs.declared.entries.Who.TheVariants.{Context, Host}
use Rattle.wx_machine.specs.declared.entries.Entry.{Entry}
use Rattle.wx_standing.specs.declared.standing.TheConstants.{ENTRY_LIMIT}
use Rattle.wx_standing.specs.declared.standing.Standing.{Standing}
use Rattle.wx_standing.specs.Standings.{by_endpoint, by_host, is_last, made_by, has_last, is_spent, NobodyIsSpent, standing_at, TellEach, IsKept, is_out, AreAlike, HasCounted, is_out_of, all_below}

-- ---- alike

pub alike_refl : (rows : List Standing) → AreAlike rows rows
alike_refl rows = λ n. (refl, refl)

pub alike_then : (a b c : List Standing) → AreAlike a b → AreAlike b c → AreAlike a c
alike_then a b c p q = λ n. ((q n).0 ∙ (p n).0, (q n).1 ∙ (p n).1)

told_alike : (by : ℕ → Who → Bool) (past : List Entry) (old new : List Standing) → AreAlike old new → TellEach by past old → TellEach by past new
told_alike by past old new alike told = λ n. ((alike n).0 ∙ (told n).0, (alike n).1 ∙ (told n).1)

pub kept_alike : (past : List Entry) (stop after : Bool) (es es' hs hs' : List Standing) → AreAlike es es' → AreAlike hs hs' → (after ≡ false → stop ≡ false)
    → IsKept past stop es hs → IsKept past after es' hs'
kept_alike past stop after es es' hs hs' e h on kept = record {
  endpoints_told = told_alike by_endpoint past es es' e kept.endpoints_told;
  hosts_told = told_alike by_host past hs hs' h kept.hosts_told;
  unspent = λ go. kept.unspent (on go);
}

pub or_off : (a b : Bool) → (a || b) ≡ false → (a ≡ false) × (b ≡ false)
or_off true b e = absurd cc
or_off false b e = (refl, e)

-- ---- one entry more

less_one : (limit made more : ℕ) → limit - made - more ≡ limit - (made + more)
less_one limit made more = omega arith

told_counted : (by : ℕ → Who → Bool) (past : List Entry) (e : Entry) (old new : List Standing) → HasCounted (λ n. by n e.who) (is_last e.call) old new
    → TellEach by past old → TellEach by (e ∷ past) new
told_counted by past e old new counted told = λ n. (
  (counted n).0 ∙ (ap (λ left. left - cond (by n e.who) 1 0) (told n).0 ∙ less_one ENTRY_LIMIT (made_by (by n) past) (cond (by n e.who) 1 0)),
  (counted n).1 ∙ ap (λ b. b || (by n e.who && is_last e.call)) (told n).1,
)

none_left : (made : ℕ) → nat_le ENTRY_LIMIT made ≡ ((ENTRY_LIMIT - made) == 0)
none_left made = grind arith

-- one that is told so is spent where nothing is left to it
spent_is_out : (by : Who → Bool) (past : List Entry) (row : Standing) → row.left ≡ ENTRY_LIMIT - made_by by past → row.ended ≡ has_last by past → is_spent by past ≡ is_out row
spent_is_out by past row left ended = ap (λ b. b && not (has_last by past)) (none_left (made_by by past))
    ∙ sym (ap (λ left. (left == 0) && not row.ended) left ∙ ap (λ b. ((ENTRY_LIMIT - made_by by past) == 0) && not b) ended)

or_none : (b : Bool) → (b || false) ≡ b
or_none true = refl
or_none false = refl

and_none : (a : Bool) → (a && false) ≡ false
and_none true = refl
and_none false = refl

no_more : (n : ℕ) → n + 0 ≡ n
no_more n = omega arith

-- an entry of another
spent_of_another : (by : Who → Bool) (e : Entry) (past : List Entry) → by e.who ≡ false → is_spent by past ≡ false → is_spent by (e ∷ past) ≡ false
spent_of_another by e past other unspent =
    ap (λ b. nat_le ENTRY_LIMIT (made_by by past + cond b 1 0) && not (has_last by past || (b && is_last e.call))) other
    ∙ (ap (λ b. nat_le ENTRY_LIMIT (made_by by past + 0) && not b) (or_none (has_last by past))
    ∙ (ap (λ m. nat_le ENTRY_LIMIT m && not (has_last by past)) (no_more (made_by by past)) ∙ unspent))

-- whose entry it is: number n, or another
module _ (e : Entry) (past : List Entry) (es hs : List Standing) where
  endpoint_unspent : (who : Who) → e.who ≡ who → is_out_of who es hs ≡ false → TellEach by_endpoint (e ∷ past) es → NobodyIsSpent past → (n : ℕ) → is_spent (by_endpoint n) (e ∷ past) ≡ false
  endpoint_unspent (Host h) is out told before n = spent_of_another (by_endpoint n) e past (ap (by_endpoint n) is) (before.endpoints n)
  endpoint_unspent (Context c) is out told before n = split (c.0 == n) refl
    where
      split : (b : Bool) → (c.0 == n) ≡ b → is_spent (by_endpoint n) (e ∷ past) ≡ false
      split false other = spent_of_another (by_endpoint n) e past (ap (by_endpoint n) is ∙ other) (before.endpoints n)
      split true same =
          let at : n ≡ c.0 = grind (arith, same) in
          spent_is_out (by_endpoint n) (e ∷ past) (standing_at es n) (told n).0 (told n).1 ∙ (ap (λ k. is_out (standing_at es k)) at ∙ out)

  host_unspent : (who : Who) → e.who ≡ who → is_out_of who es hs ≡ false → TellEach by_host (e ∷ past) hs → NobodyIsSpent past → (n : ℕ) → is_spent (by_host n) (e ∷ past) ≡ false
  host_unspent (Context c) is out told before n = spent_of_another (by_host n) e past (ap (by_host n) is) (before.hosts n)
  host_unspent (Host h) is out told before n = split (h.0 == n) refl
    where
      split : (b : Bool) → (h.0 == n) ≡ b → is_spent (by_host n) (e ∷ past) ≡ false
      split false other = spent_of_another (by_host n) e past (ap (by_host n) is ∙ other) (before.hosts n)
      split true same =
          let at : n ≡ h.0 = grind (arith, same) in
          spent_is_out (by_host n) (e ∷ past) (standing_at hs n) (told n).0 (told n).1 ∙ (ap (λ k. is_out (standing_at hs k)) at ∙ out)

-- an entry was counted
pub kept_counted : (past : List Entry) (e : Entry) (stop after : Bool) (es es' hs hs' : List Standing) → HasCounted (λ n. by_endpoint n e.who) (is_last e.call) es es'
    → HasCounted (λ n. by_host n e.who) (is_last e.call) hs hs' → after ≡ (stop || is_out_of e.who es' hs')
    → IsKept past stop es hs → IsKept (e ∷ past) after es' hs'
kept_counted past e stop after es es' hs hs' ce ch is kept =
    let te = told_counted by_endpoint past e es es' ce kept.endpoints_told in
    let th = told_counted by_host past e hs hs' ch kept.hosts_told in
    record {
      endpoints_told = te;
      hosts_told = th;
      unspent = λ go.
          let off = or_off stop (is_out_of e.who es' hs') (sym is ∙ go) in
          record {
            endpoints = endpoint_unspent e past es' hs' e.who refl off.1 te (kept.unspent off.0);
            hosts = host_unspent e past es' hs' e.who refl off.1 th (kept.unspent off.0);
          };
    }

-- a turn with an entry: room was made, it was counted, and the turn was ended
pub kept_made : (before after : List Entry) (e : Entry) (stop stop1 stop2 quiet : Bool) (es es1 es2 es3 hs hs1 hs2 hs3 : List Standing) → after ≡ before ++ e ∷ []
    → AreAlike es es1 → AreAlike hs hs1 → HasCounted (λ n. by_endpoint n e.who) (is_last e.call) es1 es2 → HasCounted (λ n. by_host n e.who) (is_last e.call) hs1 hs2
    → stop1 ≡ (stop || is_out_of e.who es2 hs2) → AreAlike es2 es3 → AreAlike hs2 hs3 → stop2 ≡ (stop1 || quiet)
    → IsKept (reverse before) stop es hs → IsKept (reverse after) stop2 es3 hs3
kept_made before after e stop stop1 stop2 quiet es es1 es2 es3 hs hs1 hs2 hs3 grown a1 b1 ce ch is1 a3 b3 is2 kept =
    let k1 = kept_alike (reverse before) stop stop es es1 hs hs1 a1 b1 (λ on. on) kept in
    let k2 = kept_counted (reverse before) e stop stop1 es1 es2 hs1 hs2 ce ch is1 k1 in
    let k3 = kept_alike (e ∷ reverse before) stop1 stop2 es2 es3 hs2 hs3 a3 b3 (λ on. (or_off stop1 quiet (sym is2 ∙ on)).0) k2 in
    subst (λ past. IsKept past stop2 es3 hs3) (sym (ap reverse grown ∙ reverse-append before (e ∷ []))) k3

-- a turn without one
pub kept_none : (before after : List Entry) (stop stop' : Bool) (es es' hs hs' : List Standing) → after ≡ before → AreAlike es es' → AreAlike hs hs' → (stop' ≡ false → stop ≡ false)
    → IsKept (reverse before) stop es hs → IsKept (reverse after) stop' es' hs'
kept_none before after stop stop' es es' hs hs' same a b on kept =
    subst (λ past. IsKept past stop' es' hs') (ap reverse (sym same)) (kept_alike (reverse before) stop stop' es es' hs hs' a b on kept)

-- ---- tests of each number below

below_split : (n k : ℕ) → k < suc n → (k == n) ≡ false → k < n
below_split n k less other = grind (arith, other)

last_of_all : (n : ℕ) (test : ℕ → Bool) (k : ℕ) → (b : Bool) → (k == n) ≡ b → test k ≡ false → ((k == n) ≡ false → all_below n test ≡ false) → (all_below n test && test n) ≡ false
last_of_all n test k true same off before = let at : n ≡ k = grind (arith, same) in ap (λ b. all_below n test && b) (ap test at ∙ off) ∙ and_none (all_below n test)
last_of_all n test k false other off before = ap (λ b. b && test n) (before other)

-- one that fails the test
pub all_but_one : (n k : ℕ) (test : ℕ → Bool) → k < n → test k ≡ false → all_below n test ≡ false
all_but_one zero k test less off = absurd (omega arith)
all_but_one (suc n) k test less off = last_of_all n test k (k == n) refl off (λ other. all_but_one n k test (below_split n k less other) off)

-- ---- lists

pub all_more : {A : Type 0} (P : A → Type 0) (xs : List A) (x : A) → All P xs → P x → All P (xs ++ x ∷ [])
all_more P xs x all is = All-append P xs (x ∷ []) all (All-cons P x [] is (All-nil P))
