-- What the check of a pipe reads in a journal, oldest entry first, as the laws say it of a past, newest first.
use Rattle.std.proofs.Common.{◌≡◌, ℕ, ◌==◌, Bool, true, false, ◌&&◌, cond, List, [], ◌∷◌, ◌++◌, Option, Some, None, map, refl, ap, ◌∙◌, sym, append_assoc}
use Rattle.std.specs.Prelude.{reverse, filter, option_to_list}
use Rattle.std.specs.Option.{option_or}
use Rattle.std.proofs.lemmas.List.{append-nil, map-append, reverse-append}
use Rattle.std.proofs.lemmas.List.Elements.{filter-append}
use Rattle.wx_id.specs.declared.numbers.ContextNo.{ContextNo}
use Rattle.wx_id.specs.declared.events.Event.{Event}
use Rattle.wx_machine.specs.declared.entries.Who.{Who}
use Rattle.wx_machine.specs.declared.entries.Call.{Call}
use Rattle.wx_machine.specs.declared.entries.Answer.{Answer}
use Rattle.wx_machine.specs.declared.entries.Entry.{Entry}
use Rattle.wx_machine.specs.declared.entries.Who.TheVariants.{Context as ByContext, Host as ByHost}
use Rattle.wx_machine.specs.declared.entries.Call.TheVariants.{Take}
use Rattle.wx_machine.specs.declared.entries.Answer.TheVariants.{Event as Told}
use Rattle.wx_machine.specs.Words.{event_in, is_by, taken}
use Rattle.wx_laws.specs.PrefixLaw.{is_message, messages}
use Rattle.wx_pipe.specs.Pipe.{opener_in, native_opener, posted_in, posted_texts, message_in, messages_taken}

or_or : {A : Type 0} (o p q : Option A) → option_or o (option_or p q) ≡ option_or (option_or o p) q
or_or None p q = refl
or_or (Some x) p q = refl

or_none : {A : Type 0} (o : Option A) → option_or o None ≡ o
or_none None = refl
or_none (Some x) = refl

opener-append : (k : ℕ) (xs ys : List Entry)
    → native_opener k (xs ++ ys) ≡ option_or (native_opener k xs) (native_opener k ys)
opener-append k [] ys = refl
opener-append k (e ∷ xs) ys =
    ap (option_or (opener_in k e.who e.call e.answer)) (opener-append k xs ys)
    ∙ or_or (opener_in k e.who e.call e.answer) (native_opener k xs) (native_opener k ys)

-- who opened a channel, one entry later
pub opener_later : (k : ℕ) (e : Entry) (past : List Entry) → native_opener k (reverse (e ∷ past))
    ≡ option_or (native_opener k (reverse past)) (opener_in k e.who e.call e.answer)
opener_later k e past =
    ap (native_opener k) (reverse-append (e ∷ []) past) ∙ opener-append k (reverse past) (e ∷ [])
    ∙ ap (option_or (native_opener k (reverse past))) (or_none (opener_in k e.who e.call e.answer))

posted-append : (c : ContextNo) (k : ℕ) (xs ys : List Entry)
    → posted_texts c k (xs ++ ys) ≡ posted_texts c k xs ++ posted_texts c k ys
posted-append c k [] ys = refl
posted-append c k (e ∷ xs) ys =
    let new = option_to_list (posted_in c k e.who e.call e.answer) in
    ap (λ l. new ++ l) (posted-append c k xs ys) ∙ sym (append_assoc new (posted_texts c k xs) (posted_texts c k ys))

-- what a context posted, one entry later
pub posted_later : (c : ContextNo) (k : ℕ) (e : Entry) (past : List Entry) → posted_texts c k (reverse (e ∷ past))
    ≡ posted_texts c k (reverse past) ++ option_to_list (posted_in c k e.who e.call e.answer)
posted_later c k e past =
    ap (posted_texts c k) (reverse-append (e ∷ []) past) ∙ posted-append c k (reverse past) (e ∷ [])
    ∙ ap (λ l. posted_texts c k (reverse past) ++ l) (append-nil (option_to_list (posted_in c k e.who e.call e.answer)))

messages-append : (c : ContextNo) (k : ℕ) (xs ys : List Entry)
    → messages_taken c k (xs ++ ys) ≡ messages_taken c k xs ++ messages_taken c k ys
messages-append c k [] ys = refl
messages-append c k (e ∷ xs) ys =
    let new = option_to_list (message_in c k e.who e.call e.answer) in
    ap (λ l. new ++ l) (messages-append c k xs ys) ∙ sym (append_assoc new (messages_taken c k xs) (messages_taken c k ys))

no_event : (call : Call) (answer : Answer) → event_in call answer false ≡ []
no_event Take (Told event) = refl
no_event _ _ = refl

message_is : (c : ContextNo) (k : ℕ) (who : Who) (call : Call) (answer : Answer)
    → option_to_list (message_in c k who call answer) ≡ messages k (event_in call answer (is_by who c))
message_is c k (ByContext b) Take (Told event) = parts (b.0 == c.0) (is_message k event.kind) refl
  where
    parts : (mine of : Bool) → is_message k event.kind ≡ of → option_to_list (cond (mine && of) (Some event.entry) None)
        ≡ messages k (event_in Take (Told event) mine)
    parts true true is = rw is refl
    parts true false is = rw is refl
    parts false of is = refl
message_is c k (ByHost h) call answer = ap (messages k) (sym (no_event call answer))
message_is c k _ _ _ = refl

of_both : (k : ℕ) (xs ys : List Event) → messages k (xs ++ ys) ≡ messages k xs ++ messages k ys
of_both k xs ys =
    ap (map (λ event. event.entry)) (filter-append (λ (event : Event). is_message k event.kind) xs ys)
    ∙ map-append (λ event. event.entry) (filter (λ (event : Event). is_message k event.kind) xs) (filter (λ (event : Event). is_message k event.kind) ys)

-- the messages that a context took
pub messages_are : (past : List Entry) (c : ContextNo) (k : ℕ)
    → messages_taken c k (reverse past) ≡ messages k (taken past c)
messages_are [] c k = refl
messages_are (e ∷ past) c k =
    ap (messages_taken c k) (reverse-append (e ∷ []) past) ∙ messages-append c k (reverse past) (e ∷ [])
    ∙ ap (λ l. messages_taken c k (reverse past) ++ l) (append-nil (option_to_list (message_in c k e.who e.call e.answer))
    ∙ message_is c k e.who e.call e.answer)
    ∙ ap (λ l. l ++ messages k (event_in e.call e.answer (is_by e.who c))) (messages_are past c k)
    ∙ sym (of_both k (taken past c) (event_in e.call e.answer (is_by e.who c)))
