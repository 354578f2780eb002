-- A run has one end.
use Rattle.std.proofs.Common.{◌≡◌, ℕ, zero, suc, ◌+◌, ◌<◌, arith, cond, Bool, true, false, List, [], ◌∷◌, Some, None, refl, sym, ap, ◌∙◌}
use Rattle.std.specs.declared.option.Option.{Option}
use Rattle.std.specs.Prelude.{slice_get, not, ◌&&◌, nat_le}
use Rattle.wx_id.specs.declared.numbers.HostNo.{HostNo}
use Rattle.wx_machine.specs.declared.entries.Entry.{Entry}
use Rattle.wx_machine.specs.Words.{has_ended}
use Rattle.wx_host_slot.specs.Journals.{entries_of}
use Rattle.wx_host_slot.specs.Slots.{host_limit}
use Rattle.wx_script.specs.declared.script.Command.{Command}
use Rattle.wx_script.specs.declared.scene.SpentWho.TheVariants.{Endpoint, Host}
use Rattle.wx_script.specs.Ends.{numbered, script_has_ended, IsDone, is_spent, spent_from, spent_of, entries_by, entry_limit}
use Rattle.wx_run.specs.declared.outcome.RunEnd.{RunEnd}
use Rattle.wx_run.specs.declared.outcome.RunEnd.TheVariants.{Done, Stalled, Spent}
use Rattle.wx_run.specs.Hosts.{host_numbered, is_host_spent, spent_host_from, spent_host, HaveEnded}
use Rattle.wx_run.specs.Run.{HasEnd}

and_false : (b : Bool) → (b && false) ≡ false
and_false true = refl
and_false false = refl

unspent_from : (scripts : List (List Command)) (n : ℕ) (past : List Entry) → ((i : ℕ) (script : List Command) → slice_get scripts i ≡ Some script → script_has_ended script (numbered (n + i)) past ≡ true) → spent_from n scripts past ≡ None
unspent_from [] n past ended = refl
unspent_from (script ∷ scripts) n past ended =
    let here : n ≡ n + 0 = omega arith in
    let first : is_spent script (numbered n) past ≡ false =
    ap (λ b. nat_le entry_limit (entries_by (numbered n) past) && not b) (ap (λ m. script_has_ended script (numbered m) past) here ∙ ended 0 script refl)
    ∙ and_false (nat_le entry_limit (entries_by (numbered n) past)) in
    ap (λ b. cond b (Some n) (spent_from (n + 1) scripts past)) first
    ∙ unspent_from scripts (n + 1) past (λ i other at.
    let same : n + 1 + i ≡ n + suc i = omega arith in
    ap (λ m. script_has_ended other (numbered m) past) same ∙ ended (suc i) other at)

-- where every script has ended no endpoint is spent
done_unspent : (scripts : List (List Command)) (past : List Entry) → IsDone scripts past → spent_of scripts past ≡ None
done_unspent scripts past done = unspent_from scripts 0 past (λ i script at.
    let same : 0 + i ≡ i = omega arith in
    ap (λ m. script_has_ended script (numbered m) past) same ∙ done i script at)

hosts_unspent_from : (count n : ℕ) (past : List Entry) → ((h : HostNo) → h.0 < n + count → has_ended past h ≡ true) → spent_host_from count n past ≡ None
hosts_unspent_from zero n past ended = refl
hosts_unspent_from (suc count) n past ended =
    let first : is_host_spent past (host_numbered n) ≡ false =
    ap (λ b. nat_le host_limit (entries_of (host_numbered n) past) && not b) (ended (host_numbered n) (omega arith))
    ∙ and_false (nat_le host_limit (entries_of (host_numbered n) past)) in
    ap (λ b. cond b (Some (host_numbered n)) (spent_host_from count (n + 1) past)) first
    ∙ hosts_unspent_from count (n + 1) past (λ h below. ended h (omega (arith, below)))

-- where every host has ended none is spent
ended_unspent : (past : List Entry) → HaveEnded past → spent_host past ≡ None
ended_unspent past ended = hosts_unspent_from _ 0 past (λ h below. ended h (omega (arith, below)))

never : {A : Type 0} {o : Option A} {x : A} → o ≡ None → o ≡ Some x → ⊥
never none some = let impossible = sym none ∙ some in cc

same_some : {A : Type 0} {o : Option A} {x y : A} → o ≡ Some x → o ≡ Some y → x ≡ y
same_some first second = let both = sym first ∙ second in cc

pub one_end : (scripts : List (List Command)) (past : List Entry) (one other : RunEnd) → HasEnd scripts past one → HasEnd scripts past other → one ≡ other
one_end scripts past Done Done a b = refl
one_end scripts past Done Stalled a b = absurd (b.0.unended a.0)
one_end scripts past Done (Spent (Endpoint n)) a b = absurd (never (done_unspent scripts past a.0) b)
one_end scripts past Done (Spent (Host h)) a b = absurd (never (ended_unspent past a.1) b.1)
one_end scripts past Stalled Done a b = absurd (a.0.unended b.0)
one_end scripts past Stalled Stalled a b = refl
one_end scripts past Stalled (Spent (Endpoint n)) a b = absurd (never a.0.unspent b)
one_end scripts past Stalled (Spent (Host h)) a b = absurd (never (ended_unspent past a.1) b.1)
one_end scripts past (Spent (Endpoint n)) Done a b = absurd (never (done_unspent scripts past b.0) a)
one_end scripts past (Spent (Endpoint n)) Stalled a b = absurd (never b.0.unspent a)
one_end scripts past (Spent (Endpoint n)) (Spent (Endpoint m)) a b = ap (λ k. Spent (Endpoint k)) (same_some a b)
one_end scripts past (Spent (Endpoint n)) (Spent (Host h)) a b = absurd (never b.0 a)
one_end scripts past (Spent (Host h)) Done a b = absurd (never (ended_unspent past b.1) a.1)
one_end scripts past (Spent (Host h)) Stalled a b = absurd (never (ended_unspent past b.1) a.1)
one_end scripts past (Spent (Host h)) (Spent (Endpoint n)) a b = absurd (never a.0 b)
one_end scripts past (Spent (Host h)) (Spent (Host g)) a b = ap (λ k. Spent (Host k)) (same_some a.1 b.1)
