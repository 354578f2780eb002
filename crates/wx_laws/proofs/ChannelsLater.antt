-- Channels and their ends, one entry later.
use Rattle.std.proofs.Common.{◌≡◌, ℕ, suc, ◌+◌, List, [], ◌∷◌, ◌++◌, length, refl, ap, sym, ◌∙◌, Bool, true, false, cond, not, arith, subst}
use Rattle.std.specs.Prelude.{Option, Some, None, ◌||◌, ◌&&◌, is_some, option_to_list, slice_get, filter, ◌==◌}
use Rattle.std.specs.Option.{option_or}
use Rattle.std.proofs.lemmas.Bool.Decides.{Decides-eqb}
use Rattle.std.proofs.lemmas.Option.{slice_get_past}
use Rattle.wx_id.proofs.ContextLemmas.{same_context_is}
use Rattle.wx_machine.proofs.Lists.{get_options}
use Rattle.wx_id.specs.Contexts.{is_among, same_context}
use Rattle.wx_id.specs.declared.numbers.ContextNo.{ContextNo}
use Rattle.wx_context.specs.declared.contexts.Context.{Context}
use Rattle.wx_context.specs.declared.contexts.Target.{Target}
use Rattle.wx_machine.specs.declared.sorts.Sort.{Sort}
use Rattle.wx_machine.specs.declared.entries.Entry.{Entry}
use Rattle.wx_machine.specs.Words.{is_there, if_numbered, enters, context_of, numbers, numbers_of, has_left, reaches_from}
use Rattle.wx_machine.specs.Words.{listens_of, is_receiver, receivers_of, Ends, opens, channels, channel, end_in}
use Rattle.wx_laws.proofs.Newest.{came_more}

pub length_options : {X : Type 0} (xs : List X) (o : Option X) → length (xs ++ option_to_list o) ≡ cond (is_some o) (length xs + 1) (length xs)
length_options [] None = refl
length_options [] (Some x) = refl
length_options (y ∷ xs) None = ap suc (length_options xs None)
length_options (y ∷ xs) (Some x) = ap suc (length_options xs (Some x)) ∙ omega arith

-- how many channels there are after one more entry
pub channels_more : (e : Entry) (past : List Entry) → length (channels (e ∷ past)) ≡ cond (is_some (opens past e)) (length (channels past) + 1) (length (channels past))
channels_more e past = length_options (channels past) (opens past e)

answer_or : {X Y : Type 0} (F : Option X → Y) (o p : Option X) (b : Bool) → (b ≡ true → o ≡ None) → F (option_or o (cond b p None)) ≡ cond (b && is_some p) (F p) (F o)
answer_or F o None true h = rw (h refl) refl
answer_or F o (Some ends) true h = rw (h refl) refl
answer_or F None p false h = refl
answer_or F (Some ends) p false h = refl

-- what is asked of place k of a list with one more element, if it has one
pub place_more : {X Y : Type 0} (F : Option X → Y) (xs : List X) (o : Option X) (k : ℕ) → F (slice_get (xs ++ option_to_list o) k) ≡ cond ((length xs == k) && is_some o) (F o) (F (slice_get xs k))
place_more F xs o k =
    ap F (get_options xs o k)
    ∙ answer_or F (slice_get xs k) o (length xs == k) (λ h. at_end (eqb_is (length xs) k h))
  where
    eqb_is : (m n : ℕ) → (m == n) ≡ true → m ≡ n
    eqb_is m n h = (Decides-eqb m n).0 h

    at_end : length xs ≡ k → slice_get xs k ≡ None
    at_end h = subst (λ (n : ℕ). slice_get xs n ≡ None) h (slice_get_past xs (length xs) (omega arith))

-- what is asked of channel k after one more entry
pub channel_more : {Y : Type 0} (F : Option Ends → Y) (e : Entry) (past : List Entry) (k : ℕ) → F (channel (e ∷ past) k) ≡ cond ((length (channels past) == k) && is_some (opens past e)) (F (opens past e)) (F (channel past k))
channel_more F e past k = place_more F (channels past) (opens past e) k

-- what a context is to channel k after one more entry
pub end_more : (e : Entry) (past : List Entry) (k : ℕ) (c : ContextNo) → end_in (channel (e ∷ past) k) c ≡ cond ((length (channels past) == k) && is_some (opens past e)) (end_in (opens past e) c) (end_in (channel past k) c)
end_more e past k c = channel_more (λ o. end_in o c) e past k

among_or : (xs ys : List ContextNo) (c : ContextNo) → is_among (xs ++ ys) c ≡ (is_among xs c || is_among ys c)
among_or [] ys c = refl
among_or (x ∷ xs) ys c = elim (same_context x c) as (λ b. (b || is_among (xs ++ ys) c) ≡ ((b || is_among xs c) || is_among ys c)) [ true ↦ refl | false ↦ among_or xs ys c ]

numbered : (c : ContextNo) (o : Option (ContextNo × Context)) → is_there (if_numbered c o) ≡ is_among (numbers_of o) c
numbered c None = refl
numbered c (Some p) = elim (same_context p.0 c) as (λ b. is_there (cond b (Some p.1) None) ≡ (b || false)) [ true ↦ refl | false ↦ refl ]

-- a context that came in has a number that was given
pub came_numbered : (past : List Entry) (c : ContextNo) → is_there (context_of past c) ≡ is_among (numbers past) c
came_numbered [] c = refl
came_numbered (e ∷ past) c =
    came_more e past c
    ∙ ap (λ b. b || is_there (if_numbered c (enters e))) (came_numbered past c)
    ∙ ap (λ b. is_among (numbers past) c || b) (numbered c (enters e))
    ∙ sym (among_or (numbers past) (numbers_of (enters e)) c)

among_filter : (p : ContextNo → Bool) (xs : List ContextNo) (c : ContextNo) → is_among (filter p xs) c ≡ (p c && is_among xs c)
among_filter p [] c = elim (p c) as (λ b. false ≡ (b && false)) [ true ↦ refl | false ↦ refl ]
among_filter p (x ∷ xs) c = by_test (among_filter p xs c) (same_context x c) refl (p x) refl
  where
    by_test : is_among (filter p xs) c ≡ (p c && is_among xs c) → (s : Bool) → same_context x c ≡ s → (q : Bool) → p x ≡ q → is_among (cond q (x ∷ filter p xs) (filter p xs)) c ≡ (p c && (s || is_among xs c))
    by_test rest true same true here = rw (same, ← same_context_is x c same, here) refl
    by_test rest true same false here = rw (rest, ← same_context_is x c same, here) refl
    by_test rest false same true here = rw same rest
    by_test rest false same false here = rest

-- whom the receivers are among
pub is_among_receivers : (past : List Entry) (o : ContextNo) (target : Target) (sort : Sort) (c : ContextNo) → is_among (receivers_of past o target sort) c ≡ is_receiver past o target sort c
is_among_receivers past o target sort c =
    among_filter (is_receiver past o target sort) (numbers past) c
    ∙ ap (λ b. is_receiver past o target sort c && b) (sym (came_numbered past c))
    ∙ given_there (not (same_context c o)) (is_there (context_of past c)) (not (has_left past c)) (reaches_from (context_of past o) target sort (context_of past c) (listens_of past c))
  where
    given_there : (a b d n : Bool) → (((a && (b && d)) && n) && b) ≡ ((a && (b && d)) && n)
    given_there true true true true = refl
    given_there true true true false = refl
    given_there true true false n = refl
    given_there true false d n = refl
    given_there false b d n = refl
