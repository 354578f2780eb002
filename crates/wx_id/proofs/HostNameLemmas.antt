-- The scan of a host name against its grammar.
use Rattle.std.proofs.Common.{◌≡◌, ℕ, zero, suc, ◌+◌, ◌-◌, ◌<◌, ◌≤◌, ◌∷◌, ◌++◌, List, [], length, take, get_or, refl, Bool, true, false, Option, Some, None, arith, ap, sym, ◌∙◌, inl, inr}
use Rattle.std.specs.Prelude.{◌↔◌, IfSome, IsNone, ◌||◌, IsTrue}
use Rattle.std.specs.List.{list_all}
use Rattle.std.specs.Str.{IsUtf8}
use Rattle.std.proofs.lemmas.Bool.{cases_Bool, cond-true, cond-false}
use Rattle.std.proofs.lemmas.Bool.Decides.{nat_tests}
use Rattle.std.proofs.lemmas.List.Sums.{AllPass-from_list_all}
use Rattle.std.proofs.lemmas.Str.{IsUtf8-from_ascii}
use Rattle.std.proofs.lemmas.Str.Ascii.{IsAscii-from_all}
use Rattle.wx_id.specs.HostNames.{is_word_byte, is_dot, dots_stand_apart, is_host_name, IsHostNameFault, may_stand, fault_from, host_name_fault}

-- what a host name owes after its first n bytes
record Owes (n : ℕ) (edge : Bool) (text : List ℕ) : Type 0 where
  fits : n + length text ≤ 250
  bytes : list_all (λ b. is_word_byte b || is_dot b) text ≡ true
  apart : dots_stand_apart edge text ≡ true

not_empty : (text : List ℕ) → dots_stand_apart true text ≡ true → 1 ≤ length text
not_empty [] h = grind arith
not_empty (b ∷ rest) h = omega arith

stands : (n : ℕ) (edge : Bool) (b : ℕ) (rest : List ℕ) → Owes n edge (b ∷ rest) → may_stand n edge b ≡ true
stands n edge b rest o =
    let fits = o.fits in
    let bytes = o.bytes in
    let apart = o.apart in
    let behind : is_dot b ≡ true → 1 ≤ length rest = λ d. not_empty rest (grind (arith, nat_tests)) in
    grind (arith, nat_tests)

owes_rest : (n : ℕ) (edge : Bool) (b : ℕ) (rest : List ℕ) → Owes n edge (b ∷ rest) → Owes (suc n) (is_dot b) rest
owes_rest n edge b rest o =
    let fits = o.fits in
    let bytes = o.bytes in
    let apart = o.apart in
    record { fits = omega arith; bytes = grind (arith, nat_tests); apart = grind (arith, nat_tests) }

owes_more : (n : ℕ) (edge : Bool) (b : ℕ) (rest : List ℕ) → may_stand n edge b ≡ true → Owes (suc n) (is_dot b) rest → Owes n edge (b ∷ rest)
owes_more n edge b rest s o =
    let fits = o.fits in
    let bytes = o.bytes in
    let apart = o.apart in
    record { fits = omega arith; bytes = grind (arith, nat_tests); apart = grind (arith, nat_tests) }

no_fault-from_owes : (n : ℕ) (edge : Bool) (text : List ℕ) → Owes n edge text → fault_from n edge text ≡ None
no_fault-from_owes n true [] o = let apart = o.apart in grind arith
no_fault-from_owes n false [] o = refl
no_fault-from_owes n edge (b ∷ rest) o =
    cond-true (may_stand n edge b) _ _ (stands n edge b rest o) ∙ no_fault-from_owes (suc n) (is_dot b) rest (owes_rest n edge b rest o)

short : (n : ℕ) (edge : Bool) (b : ℕ) → may_stand n edge b ≡ true → n < 250
short n edge b s = grind (arith, nat_tests)

owes-from_no_fault : (n : ℕ) (edge : Bool) (text : List ℕ) → n ≤ 250 → fault_from n edge text ≡ None → Owes n edge text
owes-from_no_fault n true [] le h = grind arith
owes-from_no_fault n false [] le h = record { fits = omega arith; bytes = refl; apart = refl }
owes-from_no_fault n edge (b ∷ rest) le h =
    elim (cases_Bool (may_stand n edge b)) [
      | inl s ↦ owes_more n edge b rest s (owes-from_no_fault (suc n) (is_dot b) rest (short n edge b s) (sym (cond-true (may_stand n edge b) _ _ s) ∙ h))
      | inr s ↦ let e = sym (cond-false (may_stand n edge b) (fault_from (suc n) (is_dot b) rest) (Some n) s) ∙ h in grind arith
    ]

pub host_name_from_no_fault : (text : List ℕ) → host_name_fault text ≡ None → is_host_name text ≡ true
host_name_from_no_fault text h =
    let o = owes-from_no_fault 0 true text (omega arith) h in
    let fits = o.fits in
    let bytes = o.bytes in
    let apart = o.apart in
    let some = not_empty text apart in
    grind (arith, nat_tests)

pub no_fault_from_host_name : (text : List ℕ) → is_host_name text ≡ true → host_name_fault text ≡ None
no_fault_from_host_name text h =
    no_fault-from_owes 0 true text record { fits = grind (arith, nat_tests); bytes = grind (arith, nat_tests); apart = grind (arith, nat_tests) }

le-more : (n k : ℕ) → n ≤ n + k
le-more n k = omega arith

-- the scan never looks back
fault_ahead : (n : ℕ) (edge : Bool) (text : List ℕ) (p : ℕ) → fault_from n edge text ≡ Some p → (n ≤ p) × (p ≤ n + length text)
fault_ahead n true [] p h = let e : n ≡ p = grind arith in (omega arith, omega arith)
fault_ahead n false [] p h = absurd (let e = h in grind arith)
fault_ahead n edge (b ∷ rest) p h =
    elim (cases_Bool (may_stand n edge b)) [
      | inl s ↦
          let ahead = fault_ahead (suc n) (is_dot b) rest p (sym (cond-true (may_stand n edge b) _ (Some n) s) ∙ h) in
          (omega arith, omega arith)
      | inr s ↦
          let e : n ≡ p = let h' = sym (cond-false (may_stand n edge b) (fault_from (suc n) (is_dot b) rest) (Some n) s) ∙ h in grind arith in
          (omega arith, omega arith)
    ]

-- what follows a byte that may not stand changes nothing
fault-cut : (n : ℕ) (edge : Bool) (text : List ℕ) (k : ℕ) → fault_from n edge text ≡ Some (n + k) → k < length text
    → (c : List ℕ) → fault_from n edge (take (suc k) text ++ c) ≡ Some (n + k)
fault-cut n edge [] k h le c = absurd (omega arith)
fault-cut n edge (b ∷ rest) zero h le c =
    elim (cases_Bool (may_stand n edge b)) [
      | inl s ↦
          let ahead = fault_ahead (suc n) (is_dot b) rest (n + 0) (sym (cond-true (may_stand n edge b) _ (Some n) s) ∙ h) in
          absurd (omega arith)
      | inr s ↦ cond-false (may_stand n edge b) _ (Some n) s ∙ ap Some (omega arith)
    ]
fault-cut n edge (b ∷ rest) (suc k) h le c =
    elim (cases_Bool (may_stand n edge b)) [
      | inl s ↦
          let e : n + suc k ≡ suc n + k = omega arith in
          cond-true (may_stand n edge b) _ (Some n) s
          ∙ fault-cut (suc n) (is_dot b) rest k (sym (cond-true (may_stand n edge b) _ (Some n) s) ∙ h ∙ ap Some e) (omega arith) c
          ∙ ap Some (sym e)
      | inr s ↦
          let e : n ≡ n + suc k = let h' = sym (cond-false (may_stand n edge b) (fault_from (suc n) (is_dot b) rest) (Some n) s) ∙ h in grind arith in
          absurd (omega arith)
    ]

-- a letter ends what stops at an edge
ending : (n : ℕ) (edge : Bool) → (edge ≡ true → n < 250) → (c : List ℕ) × (fault_from n edge c ≡ None)
ending n true room = let le : n < 250 = room refl in (97 ∷ [], cond-true (may_stand n true 97) _ _ (grind (arith, nat_tests)))
ending n false room = ([], refl)

edge_room : (n : ℕ) (edge : Bool) (b : ℕ) → may_stand n edge b ≡ true → is_dot b ≡ true → suc n < 250
edge_room n edge b s d = grind (arith, nat_tests)

-- the bytes up to the fault begin a text without one
fault-front : (n : ℕ) (edge : Bool) (text : List ℕ) (k : ℕ) → fault_from n edge text ≡ Some (n + k) → (edge ≡ true → n < 250)
    → (j : ℕ) → j ≤ k → (c : List ℕ) × (fault_from n edge (take j text ++ c) ≡ None)
fault-front n edge text k h room zero le = ending n edge room
fault-front n edge [] k h room (suc j) le =
    let ahead = fault_ahead n edge [] (n + k) h in absurd (omega arith)
fault-front n edge (b ∷ rest) k h room (suc j) le =
    elim (cases_Bool (may_stand n edge b)) [
      | inl s ↦
          let ahead = fault_ahead (suc n) (is_dot b) rest (n + k) (sym (cond-true (may_stand n edge b) _ (Some n) s) ∙ h) in
          let e : n + k ≡ suc n + (k - 1) = omega arith in
          let found = fault-front (suc n) (is_dot b) rest (k - 1) (sym (cond-true (may_stand n edge b) _ (Some n) s) ∙ h ∙ ap Some e) (edge_room n edge b s) j (omega arith) in
          (found.0, cond-true (may_stand n edge b) _ (Some n) s ∙ found.1)
      | inr s ↦
          let e : n ≡ n + k = let h' = sym (cond-false (may_stand n edge b) (fault_from (suc n) (is_dot b) rest) (Some n) s) ∙ h in grind arith in
          absurd (omega arith)
    ]

pub is_host_name_fault : (text : List ℕ) (p : ℕ) → host_name_fault text ≡ Some p → IsHostNameFault text p
is_host_name_fault text p h =
    let ahead = fault_ahead 0 true text p h in
    let h' : host_name_fault text ≡ Some (0 + p) = h ∙ ap Some (omega arith) in
    record {
      within = omega arith;
      least = λ q le. let found = fault-front 0 true text p h' (λ _. omega arith) q le in
          (found.0, host_name_from_no_fault (take q text ++ found.0) found.1);
      begins_none = λ short begins. let none = no_fault_from_host_name (take (p + 1) text ++ begins.0) begins.1 in
          let some = fault-cut 0 true text p h' short begins.0 in
          let e : p + 1 ≡ suc p = omega arith in
          let none' = rw e at none in
          cc;
      is_none = λ _ name. let none = no_fault_from_host_name text name in cc;
    }

pub IfSome-host_name_fault : (r : Option ℕ) (text : List ℕ) → r ≡ host_name_fault text → IfSome r (λ p. IsHostNameFault text p)
IfSome-host_name_fault (Some p) text h = is_host_name_fault text p (sym h)
IfSome-host_name_fault None text h = tt

pub IsNone-host_name_fault : (r : Option ℕ) (text : List ℕ) → r ≡ host_name_fault text → IsNone r ↔ IsTrue (is_host_name text)
IsNone-host_name_fault (Some p) text h = (λ none. absurd (grind arith), λ name. let none = no_fault_from_host_name text name in absurd (cc))
IsNone-host_name_fault None text h = (λ _. host_name_from_no_fault text (sym h), λ _. refl)

byte_is_ascii : (b : ℕ) → (is_word_byte b || is_dot b) ≡ true → b < 128
byte_is_ascii b h = grind (arith, nat_tests)

pub host_names_are_utf8 : (text : List ℕ) → is_host_name text ≡ true → IsUtf8 text
host_names_are_utf8 text h =
    let all : list_all (λ b. is_word_byte b || is_dot b) text ≡ true = grind (arith, nat_tests) in
    let pass = AllPass-from_list_all (λ b. is_word_byte b || is_dot b) text all in
    IsUtf8-from_ascii text (IsAscii-from_all text (λ k d within. byte_is_ascii (get_or text k d) (pass k d within)))
