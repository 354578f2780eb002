-- The receivers that the roster tells are those that the journal says.
use Rattle.std.proofs.Common.{◌≡◌, ℕ, ◌+◌, List, [], ◌∷◌, ◌++◌, length, map, refl, ap, sym, ◌∙◌, Bool, true, false, cond, not, arith, append-nil, zero-add}
use Rattle.std.specs.Prelude.{Option, Some, None, filter, ◌&&◌}
use Rattle.std.specs.Prelude.{slice_get}
use Rattle.std.specs.Option.{option_map}
use Rattle.std.specs.List.{list_any, range_with_len}
use Rattle.std.proofs.lemmas.List.FromFn.{map-range_with_len_more}
use Rattle.std.proofs.lemmas.Option.{same_Some}
use Rattle.wx_id.specs.Contexts.{same_context}
use Rattle.wx_id.specs.declared.numbers.ContextNo.{ContextNo}
use Rattle.wx_context.specs.declared.contexts.Context.{Context}
use Rattle.wx_context.specs.declared.contexts.Target.{Target}
use Rattle.wx_context.specs.declared.contexts.Listens.{Listens}
use Rattle.wx_external.specs.World.{WorldLists}
use Rattle.wx_machine.specs.declared.sorts.Sort.{Sort}
use Rattle.wx_machine.specs.declared.entries.Answer.{Answer}
use Rattle.wx_machine.specs.declared.entries.Answer.TheVariants.{NoReceiver}
use Rattle.wx_machine.specs.declared.entries.Entry.{Entry}
use Rattle.wx_machine.specs.Words.{context_of, contexts, is_enter, is_live, is_receiver, listens_of, numbers, reaches_from, receivers_of, where_heard}
use Rattle.wx_laws.specs.Legal.{IsLegalPast}
use Rattle.wx_roster.specs.declared.roster.Member.{Member}
use Rattle.wx_roster.specs.Members.{hears_from, is_live_in, is_receiver_in, numbered, numbers_in, receivers_in}
use Rattle.wx_roster.proofs.Filters.{filter_same}
use Rattle.wx_broker.proofs.NumbersLater.{numbers_grow}
use Rattle.wx_broker.specs.Told.{HasContexts}

numbers_rise : (world : WorldLists) (past : List Entry) → IsLegalPast world past → numbers past ≡ map numbered (range_with_len 0 (contexts past))
numbers_rise world [] legal = refl
numbers_rise world (e ∷ past) legal =
    numbers_grow world past e legal.1
    ∙ ap (λ ns. ns ++ cond (is_enter e.call) (numbered (contexts past) ∷ []) []) (numbers_rise world past legal.0)
    ∙ by (contexts past) (is_enter e.call)
  where
    by : (n : ℕ) (b : Bool) → (map numbered (range_with_len 0 n) ++ cond b (numbered n ∷ []) []) ≡ map numbered (range_with_len 0 (cond b 1 0 + n))
    by n true =
        let more : n + 1 ≡ 1 + n = omega arith in
        sym (map-range_with_len_more numbered 0 n n (zero-add n)) ∙ ap (λ (k : ℕ). map numbered (range_with_len 0 k)) more
    by n false =
        let same : n ≡ 0 + n = sym (zero-add n) in
        append-nil (map numbered (range_with_len 0 n)) ∙ ap (λ (k : ℕ). map numbered (range_with_len 0 k)) same

receiver_is : (past : List Entry) (members : List Member) (c : ContextNo) (target : Target) (sort : Sort) → HasContexts past members → (d : ContextNo) → is_receiver_in members c target sort d ≡ is_receiver past c target sort d
receiver_is past members c target sort told d =
    ap (λ x. not (same_context d c) && hears_from x target sort (slice_get members d.0)) (told.came c)
    ∙ by (context_of past c) (same_context d c) (slice_get members d.0) (context_of past d) (is_live past d) (listens_of past d) (told.came d) (told.live d) (told.listens d)
  where
    by : (x : Option Context) (s : Bool) (o : Option Member) (y : Option Context) (b : Bool) (l : Listens) → option_map (λ m. m.context) o ≡ y → is_live_in o ≡ b → (b ≡ true → option_map (λ m. m.listens) o ≡ Some l) → (not s && hears_from x target sort o) ≡ ((not s && b) && reaches_from x target sort y l)
    by x true o y b l came live listens = refl
    by x false None y b l came live listens = rw (← live) refl
    by x false (Some m) y true l came live listens = let heard : m.listens ≡ l = same_Some m.listens l (listens refl) in rw (live, ← came, heard) refl
    by x false (Some m) y false l came live listens = rw live refl

-- the roster has the receivers that the journal says
pub receivers_are : (world : WorldLists) (past : List Entry) (members : List Member) (c : ContextNo) (target : Target) (sort : Sort) → IsLegalPast world past → HasContexts past members → length members ≡ contexts past → receivers_in members c target sort ≡ receivers_of past c target sort
receivers_are world past members c target sort legal told count =
    filter_same (is_receiver_in members c target sort) (is_receiver past c target sort) (receiver_is past members c target sort told) (numbers_in members)
    ∙ ap (λ ns. filter (is_receiver past c target sort) ns) (ap (λ (k : ℕ). map numbered (range_with_len 0 k)) count ∙ sym (numbers_rise world past legal))

-- that answer, where the list has a receiver
heard_are : (xs : List ContextNo) (a : Answer) → where_heard xs a ≡ cond (list_any (λ _. true) xs) a NoReceiver
heard_are [] a = refl
heard_are (x ∷ xs) a = refl

-- that answer, where the roster has a receiver
pub heard_as : (world : WorldLists) (past : List Entry) (members : List Member) (c : ContextNo) (target : Target) (sort : Sort) → IsLegalPast world past → HasContexts past members → length members ≡ contexts past → (b : Bool) → b ≡ list_any (λ _. true) (receivers_in members c target sort) → (a : Answer) → cond b a NoReceiver ≡ where_heard (receivers_of past c target sort) a
heard_as world past members c target sort legal told count b is a =
    ap (λ t. cond t a NoReceiver) is
    ∙ ap (λ xs. cond (list_any (λ _. true) xs) a NoReceiver) (receivers_are world past members c target sort legal told count)
    ∙ sym (heard_are (receivers_of past c target sort) a)
