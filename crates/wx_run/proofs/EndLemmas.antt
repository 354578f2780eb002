-- How cursors tell the end of a run.
use Rattle.std.proofs.Common.{◌≡◌, ℕ, zero, suc, ◌+◌, cond, arith, Bool, true, false, List, [], ◌∷◌, Some, refl, sym, ap, ◌∙◌, subst}
use Rattle.std.specs.Prelude.{slice_get, not, ◌&&◌, nat_le}
use Rattle.wx_id.specs.declared.numbers.ContextNo.{ContextNo}
use Rattle.wx_machine.specs.declared.entries.Entry.{Entry}
use Rattle.wx_script.specs.declared.script.Command.{Command}
use Rattle.wx_script.specs.Places.{is_left, place_of}
use Rattle.wx_script.specs.Ends.{numbered, script_has_ended, IsDone, is_spent, spent_from, spent_of, entries_by, entry_limit}
use Rattle.wx_script.proofs.LeftLemmas.{end_is_left}
use Rattle.wx_endpoint.specs.Turn.{CursorState}
use Rattle.wx_run.specs.Cursors.{cursor_of, cursors_from, AreBehind, is_spent_at, first_spent_in, all_left}

-- ---- spent

is_spent-cursor_of : (s : List Command) (c : ContextNo) (past : List Entry) → is_spent s c past ≡ is_spent_at (cursor_of s c past)
is_spent-cursor_of s c past = ap (λ b. nat_le entry_limit (entries_by c past) && not b) (end_is_left past (place_of s c past))

spent_from-cursors : (ss : List (List Command)) (n : ℕ) (past : List Entry) → spent_from n ss past ≡ first_spent_in n (cursors_from ss n past)
spent_from-cursors [] n past = refl
spent_from-cursors (s ∷ ss) n past =
    ap (λ b. cond b (Some n) (spent_from (n + 1) ss past)) (is_spent-cursor_of s (numbered n) past)
    ∙ ap (λ o. cond (is_spent_at (cursor_of s (numbered n) past)) (Some n) o) (spent_from-cursors ss (n + 1) past)

-- cursors that stand behind the journal tell who is spent
pub spent_behind : (scripts : List (List Command)) (ps : List CursorState) (past : List Entry) → AreBehind scripts ps past → spent_of scripts past ≡ first_spent_in 0 ps
spent_behind scripts ps past behind = spent_from-cursors scripts 0 past ∙ ap (first_spent_in 0) (sym behind)

-- ---- done

both_true : (a b : Bool) → (a && b) ≡ true → (a ≡ true) × (b ≡ true)
both_true true b is = (refl, is)
both_true false b is = absurd cc

ended_from : (ss : List (List Command)) (n k m : ℕ) (s : List Command) (past : List Entry) → all_left (cursors_from ss n past) ≡ true → slice_get ss k ≡ Some s → m ≡ n + k → script_has_ended s (numbered m) past ≡ true
ended_from [] n k m s past all is at = absurd cc
ended_from (x ∷ ss) n zero m s past all is at =
    let same : x ≡ s = cc in
    let here : n ≡ m = omega arith in
    let first : script_has_ended x (numbered n) past ≡ true =
    end_is_left past (place_of x (numbered n) past) ∙ (both_true (is_left (place_of x (numbered n) past)) (all_left (cursors_from ss (n + 1) past)) all).0 in
    subst (λ m. script_has_ended s (numbered m) past ≡ true) here (subst (λ s. script_has_ended s (numbered n) past ≡ true) same first)
ended_from (x ∷ ss) n (suc k) m s past all is at =
    let next : m ≡ n + 1 + k = omega arith in
    ended_from ss (n + 1) k m s past (both_true (is_left (place_of x (numbered n) past)) (all_left (cursors_from ss (n + 1) past)) all).1 is next

left_from : (ss : List (List Command)) (n : ℕ) (past : List Entry) → ((k m : ℕ) (s : List Command) → slice_get ss k ≡ Some s → m ≡ n + k → script_has_ended s (numbered m) past ≡ true) → all_left (cursors_from ss n past) ≡ true
left_from [] n past ended = refl
left_from (s ∷ ss) n past ended =
    let first : is_left (place_of s (numbered n) past) ≡ true = sym (end_is_left past (place_of s (numbered n) past)) ∙ ended 0 n s refl (omega arith) in
    let rest : all_left (cursors_from ss (n + 1) past) ≡ true = left_from ss (n + 1) past (λ k m x is at. ended (suc k) m x is (omega (arith, at))) in
    ap (λ b. b && all_left (cursors_from ss (n + 1) past)) first ∙ rest

-- cursors that stand behind the journal tell whether every script has ended
pub done_behind : (scripts : List (List Command)) (ps : List CursorState) (past : List Entry) → AreBehind scripts ps past → all_left ps ≡ true → IsDone scripts past
done_behind scripts ps past behind all c s is = ended_from scripts 0 c c s past (ap all_left (sym behind) ∙ all) is (omega arith)

pub left_behind : (scripts : List (List Command)) (ps : List CursorState) (past : List Entry) → AreBehind scripts ps past → IsDone scripts past → all_left ps ≡ true
left_behind scripts ps past behind done =
    ap all_left behind ∙ left_from scripts 0 past (λ k m s is at. let here : k ≡ m = omega (arith, at) in subst (λ m. script_has_ended s (numbered m) past ≡ true) here (done k s is))
