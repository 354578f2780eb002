-- The contexts of a legal journal have distinct numbers, and so have the receivers of a call.
use Rattle.std.proofs.Common.{◌≡◌, ◌+◌, ◌<◌, List, [], ◌∷◌, ◌++◌, refl, ap, sym, ◌∙◌, Bool, true, false, cond, not, arith, append-nil, subst, length, ◌≤◌}
use Rattle.std.specs.Prelude.{filter, ◌&&◌, ◌||◌, reverse, option_to_list}
use Rattle.std.proofs.lemmas.Bool.{and_parts, true≢false, not-true, false_from_ne_true}
use Rattle.std.proofs.lemmas.List.{length-append}
use Rattle.std.proofs.lemmas.List.Folds.{list_any-append}
use Rattle.wx_id.specs.Contexts.{are_distinct, is_among, same_context}
use Rattle.wx_id.specs.declared.numbers.ContextNo.{ContextNo}
use Rattle.wx_context.specs.declared.contexts.Target.{Target}
use Rattle.wx_external.specs.World.{WorldLists}
use Rattle.wx_machine.specs.declared.sorts.Sort.{Sort}
use Rattle.wx_machine.specs.declared.entries.Who.{Who}
use Rattle.wx_machine.specs.declared.entries.Call.{Call}
use Rattle.wx_machine.specs.declared.entries.Answer.{Answer}
use Rattle.wx_machine.specs.declared.entries.Entry.{Entry}
use Rattle.wx_machine.specs.Words.{EachAfter, contexts, numbers, numbers_of, brought, is_enter, is_receiver, receivers_of, is_live}
use Rattle.wx_machine.specs.Words.{reaches_from, context_of, listens_of, hosts, starts, FollowsMachine, answer_after, may_make}
use Rattle.wx_machine.specs.declared.entries.Who.TheVariants.{Context as ByContext, Host as ByHost}
use Rattle.wx_machine.specs.declared.entries.Call.TheVariants.{Enter}
use Rattle.wx_laws.proofs.Newest.{reverse-push}
use Rattle.wx_broker.specs.Steps.{KeepsNumbers}
use Rattle.wx_broker.proofs.LivesLater.{among_passing}
use Rattle.wx_broker.proofs.TestsLater.{and_false, or_false, same_self, same_back, same_is}

-- the number that an entry gives
abbrev pub next : List Entry → ContextNo
next past = record { 0 = contexts past }

new_number : (world : WorldLists) (past : List Entry) (who : Who) (call : Call) (answer : Answer) → may_make past who call ≡ true → answer ≡ answer_after world past who call → numbers_of (brought who call answer) ≡ cond (is_enter call) (next past ∷ []) []
new_number world past (ByContext d) (Enter x) answer may h = rw h refl
new_number world past (ByHost g) (Enter x) answer may h = absurd (true≢false (sym may))
new_number world past who call answer may h = refl

-- the numbers after one more entry
pub numbers_grow : (world : WorldLists) (past : List Entry) (e : Entry) → FollowsMachine world past e → numbers (e ∷ past) ≡ numbers past ++ cond (is_enter e.call) (next past ∷ []) []
numbers_grow world past e follows = ap (λ ns. numbers past ++ ns) (new_number world past e.who e.call e.answer follows.may follows.answered)

-- each number is below the count
pub numbers_below : (world : WorldLists) (past : List Entry) → EachAfter (FollowsMachine world) past → (d : ContextNo) → is_among (numbers past) d ≡ true → d.0 < contexts past
numbers_below world [] legal d h = absurd (true≢false (sym h))
numbers_below world (e ∷ past) legal d h =
    by (numbers_below world past legal.0 d) (is_enter e.call) (is_among (numbers past) d) refl (sym (list_any-append (λ x. same_context x d) (numbers past) _) ∙ ap (λ ns. is_among ns d) (sym (numbers_grow world past e legal.1)) ∙ h)
  where
    by : (is_among (numbers past) d ≡ true → d.0 < contexts past) → (b a : Bool) → is_among (numbers past) d ≡ a → (a || is_among (cond b (next past ∷ []) []) d) ≡ true → d.0 < cond b 1 0 + contexts past
    by before true true is h = let low : d.0 < contexts past = before is in omega (arith, low)
    by before true false is h = let same : contexts past ≡ d.0 = same_is (contexts past) d.0 (sym (or_false _) ∙ h) in omega (arith, same)
    by before false true is h = let low : d.0 < contexts past = before is in omega (arith, low)
    by before false false is h = absurd (true≢false (sym h))

distinct_push : (xs : List ContextNo) (y : ContextNo) → are_distinct xs ≡ true → is_among xs y ≡ false → are_distinct (xs ++ y ∷ []) ≡ true
distinct_push [] y apart none = refl
distinct_push (x ∷ xs) y apart none =
    let parts : (not (is_among xs x) ≡ true) × (are_distinct xs ≡ true) = and_parts _ _ apart in
    by (same_context x y) refl (distinct_push xs y parts.1) parts.0 none
  where
    by : (s : Bool) → same_context x y ≡ s → (is_among xs y ≡ false → are_distinct (xs ++ y ∷ []) ≡ true) → not (is_among xs x) ≡ true → (s || is_among xs y) ≡ false → (not (is_among (xs ++ y ∷ []) x) && are_distinct (xs ++ y ∷ [])) ≡ true
    by true same rest first none = absurd (true≢false none)
    by false same rest first none =
        ap (λ b. not b && are_distinct (xs ++ y ∷ [])) (list_any-append (λ d. same_context d x) xs (y ∷ []))
        ∙ ap (λ s. not (is_among xs x || (s || false)) && are_distinct (xs ++ y ∷ [])) (same_back y.0 x.0 ∙ same)
        ∙ ap (λ b. not b && are_distinct (xs ++ y ∷ [])) (or_false (is_among xs x))
        ∙ ap (λ b. b && are_distinct (xs ++ y ∷ [])) first
        ∙ rest none

numbers_distinct : (world : WorldLists) (past : List Entry) → EachAfter (FollowsMachine world) past → are_distinct (numbers past) ≡ true
numbers_distinct world [] legal = refl
numbers_distinct world (e ∷ past) legal = ap are_distinct (numbers_grow world past e legal.1) ∙ by (numbers_distinct world past legal.0) (is_enter e.call)
  where
    fresh : is_among (numbers past) (next past) ≡ false
    fresh = false_from_ne_true _ (λ h. let low : contexts past < contexts past = numbers_below world past legal.0 (next past) h in absurd (omega (arith, low)))

    by : are_distinct (numbers past) ≡ true → (b : Bool) → are_distinct (numbers past ++ cond b (next past ∷ []) []) ≡ true
    by before true = distinct_push (numbers past) (next past) before fresh
    by before false = ap are_distinct (append-nil (numbers past)) ∙ before

distinct_filter : (p : ContextNo → Bool) (xs : List ContextNo) → are_distinct xs ≡ true → are_distinct (filter p xs) ≡ true
distinct_filter p [] apart = refl
distinct_filter p (x ∷ xs) apart =
    let parts : (not (is_among xs x) ≡ true) × (are_distinct xs ≡ true) = and_parts _ _ apart in
    by (p x) (distinct_filter p xs parts.1) (among_passing p xs x ∙ ap (λ b. p x && b) (not-true _ parts.0) ∙ and_false (p x))
  where
    by : (b : Bool) → are_distinct (filter p xs) ≡ true → is_among (filter p xs) x ≡ false → are_distinct (cond b (x ∷ filter p xs) (filter p xs)) ≡ true
    by true rest none = rw (none, rest) refl
    by false rest none = rest

-- the receivers of a call are distinct
pub receivers_distinct : (world : WorldLists) (past : List Entry) (c : ContextNo) (target : Target) (sort : Sort) → EachAfter (FollowsMachine world) past → are_distinct (receivers_of past c target sort) ≡ true
receivers_distinct world past c target sort legal = distinct_filter (is_receiver past c target sort) (numbers past) (numbers_distinct world past legal)

-- and the caller is none of them
pub caller_apart : (past : List Entry) (c : ContextNo) (target : Target) (sort : Sort) → is_among (receivers_of past c target sort) c ≡ false
caller_apart past c target sort =
    among_passing (is_receiver past c target sort) (numbers past) c
    ∙ ap (λ b. ((not b && is_live past c) && reaches_from (context_of past c) target sort (context_of past c) (listens_of past c)) && is_among (numbers past) c) (same_self c.0)

-- one more entry takes no number back
pub numbers_kept : (journal : List Entry) (e : Entry) → KeepsNumbers journal (journal ++ e ∷ [])
numbers_kept journal e = record {
  contexts_stay = rw (reverse-push journal e) (omega arith);
  hosts_stay = rw (reverse-push journal e) (subst (λ n. length (hosts (reverse journal)) ≤ n) (sym (length-append (hosts (reverse journal)) (option_to_list (starts (reverse journal) e)))) (omega arith));
}
