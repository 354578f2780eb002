-- A piece is taken part by part.
use Rattle.std.proofs.Common.{◌≡◌, ℕ, ◌+◌, ◌-◌, ◌<◌, ◌≤◌, List, [], ◌∷◌, length, take, drop, get_or, refl, ap, ◌∙◌, sym, arith}
use Rattle.std.proofs.lemmas.Bool.{le-leb}
use Rattle.wx_json.specs.States.{went, entered}
use Rattle.wx_json.specs.Check.{Progress, failed, advance, advances}
use Rattle.wx_json.specs.declared.JsonFault.{JsonFault}
use Rattle.wx_json.proofs.Laws.{run-joined, run-more}
use Rattle.std.proofs.lemmas.List.{length-drop, drop-drop, get_or-drop}

-- the part from i to j, then the part from j to e
pub joined : (old mid new : Progress) (piece : List ℕ) (i j e : ℕ) → i ≤ j → j ≤ e → mid ≡ advances old (take (j - i) (drop i piece)) → new ≡ advances mid (take (e - j) (drop j piece))
    → new ≡ advances old (take (e - i) (drop i piece))
joined old mid new piece i j e a b first second =
    let n : (e - i) - (j - i) ≡ e - j = omega arith in
    let start : i + (j - i) ≡ j = omega arith in
    let rest : drop (j - i) (drop i piece) ≡ drop j piece = drop-drop (j - i) i piece ∙ ap (λ k. drop k piece) start in
    run-joined old mid new (drop i piece) (j - i) (e - i) (omega arith) first (second ∙ ap (λ k. advances mid (take k (drop j piece))) (sym n) ∙ ap (λ t. advances mid (take ((e - i) - (j - i)) t)) (sym rest))

-- the part from i to e, then the byte at e
pub one_more : (old mid new : Progress) (piece : List ℕ) (i e : ℕ) → i ≤ e → e < length piece → mid ≡ advances old (take (e - i) (drop i piece)) → new ≡ advance mid (get_or piece e 0)
    → new ≡ advances old (take (e + 1 - i) (drop i piece))
one_more old mid new piece i e a b first second =
    let n : e - i + 1 ≡ e + 1 - i = omega arith in
    let here : i + (e - i) ≡ e = omega arith in
    run-more old mid new (drop i piece) (e - i) (omega (arith, length-drop i piece)) first (second ∙ ap (λ k. advance mid (get_or piece k 0)) (sym here) ∙ ap (advance mid) (sym (get_or-drop i piece (e - i) 0)))
    ∙ ap (λ k. advances old (take k (drop i piece))) n

failed-advances : (f : JsonFault) (t : List ℕ) → advances (failed f) t ≡ failed f
failed-advances f [] = refl
failed-advances f (c ∷ t) = failed-advances f t

pub stays : (p : Progress) (f : JsonFault) (t : List ℕ) → p ≡ failed f → p ≡ advances p t
stays p f t e = e ∙ sym (failed-advances f t) ∙ ap (λ p. advances p t) (sym e)

pub entered-went : (x : ℕ) (p : Progress) → 64 ≤ x → entered x p ≡ went x p
unfolding entered
entered-went x p high = rw (le-leb 0x40 x high) refl
