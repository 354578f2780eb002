-- How many entries two pumps can make.
use Rattle.std.proofs.Common.{◌≡◌, ℕ, ◌+◌, ◌<◌, ◌≤◌, List, [], ◌∷◌, ◌++◌, Bool, true, false, cond, refl, ap, ◌∙◌, sym, subst, arith}
use Rattle.std.proofs.lemmas.List.{append-nil}
use Rattle.wx_id.specs.declared.numbers.HostNo.{HostNo}
use Rattle.wx_machine.specs.declared.entries.Entry.{Entry}
use Rattle.wx_machine.specs.Words.{is_by_host}
use Rattle.wx_desk.specs.History.{Seen, entries_in}
use Rattle.wx_host_slot.specs.Journals.{entries_of}
use Rattle.wx_pump.specs.Pumps.{Paced, begins, goes_on, halts, comes, makes}
use Rattle.wx_pump.specs.Paces.{IsBelowLimit, AreBoth, EntriesAreFew}

paced_most : (most : ℕ) (h : HostNo) (going : List Entry → Type 0) (past : List Entry) (xs : List Seen) (n : ℕ) → Paced most h going past xs n → n ≤ most
paced_most most h going past [] _ begins = omega arith
paced_most most h going past xs _ (goes_on g p) = omega arith
paced_most most h going past xs _ (halts p) = omega arith
paced_most most h going past (s ∷ xs) n (comes own p) = paced_most most h going past xs n p
paced_most most h going past (s ∷ xs) n (makes own by p) = let le = paced_most most h going past xs (n + 1) p in omega (arith, le)

by_one : (b : Bool) → cond b 1 0 ≤ 1
by_one true = omega arith
by_one false = omega arith

counts_none : (b : Bool) → b ≡ false → cond b 1 0 ≤ 0
counts_none true e = absurd cc
counts_none false e = omega arith

same_entries : (h : HostNo) (xs ys : List Seen) → AreBoth h xs ys → entries_in xs ≡ entries_in ys
same_entries h [] [] b = refl
same_entries h (x ∷ xs) (y ∷ ys) (b, e, n) = ap (λ z. z ∷ entries_in xs) e ∙ ap (λ zs. y.entry ∷ zs) (same_entries h xs ys b)
same_entries h [] (y ∷ ys) b = absurd b
same_entries h (x ∷ xs) [] b = absurd b

-- what both may still make fits below the bound with what was made
paced_both : (h : HostNo) (xs ys : List Seen) (m n : ℕ) → Paced 2 h (IsBelowLimit h) [] xs m → Paced 1 h (IsBelowLimit h) [] ys n → AreBoth h xs ys → entries_of h (entries_in xs ++ []) + m + n ≤ 65538
paced_both h [] [] _ _ begins begins b = omega arith
paced_both h xs ys _ n (goes_on g p) q b =
    let le = paced_most 1 h (IsBelowLimit h) [] ys n q in
    let few : entries_of h (entries_in xs ++ []) < 65536 = g in
    omega (arith, few, le)
paced_both h xs ys _ n (halts p) q b = let le = paced_both h xs ys _ n p q b in omega (arith, le)
paced_both h xs ys m _ p (goes_on g q) b =
    let le = paced_most 2 h (IsBelowLimit h) [] xs m p in
    let F : List Entry → Type 0 = λ es. entries_of h (es ++ []) < 65536 in
    let few = subst F (sym (same_entries h xs ys b)) g in
    omega (arith, few, le)
paced_both h xs ys m _ p (halts q) b = let le = paced_both h xs ys m _ p q b in omega (arith, le)
paced_both h (x ∷ xs) (y ∷ ys) m n (comes own p) (comes their q) (b, e, none) =
    let le = paced_both h xs ys m n p q b in
    let zero_ = counts_none (is_by_host x.entry.who h) (none own their) in
    omega (arith, le, zero_)
paced_both h (x ∷ xs) (y ∷ ys) m n (comes own p) (makes their to q) (b, e, none) = let le = paced_both h xs ys m (n + 1) p q b in let one = by_one (is_by_host x.entry.who h) in omega (arith, le, one)
paced_both h (x ∷ xs) (y ∷ ys) m n (makes own by p) (comes their q) (b, e, none) = let le = paced_both h xs ys (m + 1) n p q b in let one = by_one (is_by_host x.entry.who h) in omega (arith, le, one)
paced_both h (x ∷ xs) (y ∷ ys) m n (makes own by p) (makes their to q) (b, e, none) = let le = paced_both h xs ys (m + 1) (n + 1) p q b in let one = by_one (is_by_host x.entry.who h) in omega (arith, le, one)
paced_both h [] (y ∷ ys) m n p q b = absurd b
paced_both h (x ∷ xs) [] m n p q b = absurd b

pub entries_few : EntriesAreFew
entries_few h xs ys m n p q b =
    let le = paced_both h xs ys m n p q b in
    let F : List Entry → Type 0 = λ es. entries_of h es ≤ 65538 in
    subst F (append-nil (entries_in xs)) (omega (arith, le))
