-- Steps at a host's desk, one after the other.
use Rattle.std.proofs.Common.{◌≡◌, ℕ, List, [], ◌∷◌, ◌++◌, cond, refl, ap, ◌∙◌, sym, subst, append_assoc}
use Rattle.std.proofs.lemmas.List.{append-nil, map-append}
use Rattle.wx_machine.specs.declared.entries.Call.{Call}
use Rattle.wx_machine.specs.declared.entries.Reason.{Reason}
use Rattle.wx_machine.specs.declared.entries.Answer.{Answer}
use Rattle.wx_machine.specs.declared.entries.Entry.{Entry}
use Rattle.wx_machine.specs.declared.entries.Call.TheVariants.{HostEnded}
use Rattle.wx_desk.specs.History.{Seen, entries_in, AreOthers, calls_in, EachOwn}
use Rattle.wx_desk.specs.Desks.{HostDeskState, past_of, MakesNone, MakesOne, own_entry}
use Rattle.wx_desk.proofs.HistoryLemmas.{others_first, others_rest, past_grown, none_twice, none_then_one}
use Rattle.wx_host_launch.specs.Steps.{Ends, FindsText}
use Rattle.wx_host_launch.specs.Halves.{text_of_take, texts_of_takes, text_said, texts_said}

-- Entries of others

pub calls-none : (xs : List Seen) → AreOthers xs → calls_in xs ≡ []
calls-none [] h = refl
calls-none (x ∷ xs) h = ap (λ b. cond b (x.entry.call ∷ []) [] ++ calls_in xs) (others_first x xs h) ∙ calls-none xs (others_rest x xs h)

pub said-none : (xs : List Seen) → AreOthers xs → texts_said xs ≡ []
said-none [] h = refl
said-none (x ∷ xs) h =
    ap (λ b. texts_said xs ++ cond b (text_said x.entry.call) []) (others_first x xs h) ∙ append-nil (texts_said xs) ∙ said-none xs (others_rest x xs h)

pub taken-none : (past : List Entry) (xs : List Seen) → AreOthers xs → texts_of_takes past xs ≡ []
taken-none past [] h = refl
taken-none past (x ∷ xs) h =
    ap (λ b. texts_of_takes past xs ++ cond b (text_of_take past x.entry.call x.entry.answer) []) (others_first x xs h)
    ∙ append-nil (texts_of_takes past xs)
    ∙ taken-none past xs (others_rest x xs h)

pub each-none : (P : List Entry → Call → Type 0) (past : List Entry) (xs : List Seen) → AreOthers xs → EachOwn P past xs
each-none P past [] h = tt
each-none P past (x ∷ xs) h = let e = others_first x xs h in (each-none P past xs (others_rest x xs h), λ own. absurd cc)

-- Two stretches of entries

pub calls-append : (xs ys : List Seen) → calls_in (xs ++ ys) ≡ calls_in xs ++ calls_in ys
calls-append [] ys = refl
calls-append (x ∷ xs) ys = ap (λ cs. cond x.own (x.entry.call ∷ []) [] ++ cs) (calls-append xs ys) ∙ sym (append_assoc (cond x.own (x.entry.call ∷ []) []) (calls_in xs) (calls_in ys))

pub said-append : (xs ys : List Seen) → texts_said (xs ++ ys) ≡ texts_said ys ++ texts_said xs
said-append [] ys = sym (append-nil (texts_said ys))
said-append (x ∷ xs) ys = ap (λ ts. ts ++ cond x.own (text_said x.entry.call) []) (said-append xs ys) ∙ append_assoc (texts_said ys) (texts_said xs) (cond x.own (text_said x.entry.call) [])

pub taken-append : (past : List Entry) (xs ys : List Seen) → texts_of_takes past (xs ++ ys) ≡ texts_of_takes past ys ++ texts_of_takes past xs
taken-append past [] ys = sym (append-nil (texts_of_takes past ys))
taken-append past (x ∷ xs) ys = ap (λ ts. ts ++ cond x.own (text_of_take past x.entry.call x.entry.answer) []) (taken-append past xs ys) ∙ append_assoc (texts_of_takes past ys) (texts_of_takes past xs) (cond x.own (text_of_take past x.entry.call x.entry.answer) [])

pub each-append : (P : List Entry → Call → Type 0) (past : List Entry) (xs ys : List Seen) → EachOwn P (entries_in ys ++ past) xs → EachOwn P past ys → EachOwn P past (xs ++ ys)
each-append P past [] ys h k = k
each-append P past (x ∷ xs) ys (h, own) k =
    let before : entries_in (xs ++ ys) ++ past ≡ entries_in xs ++ (entries_in ys ++ past) = ap (λ es. es ++ past) (map-append (λ (s : Seen). s.entry) xs ys) ∙ append_assoc (entries_in xs) (entries_in ys) past in
    let Q : List Entry → Type 0 = λ es. P es x.entry.call in
    (each-append P past xs ys h k, λ is. subst Q (sym before) (own is))

-- Steps

pub none_then_ends : (a b c : HostDeskState) (reason : Reason) (answer : Answer) → MakesNone a b → Ends b c reason answer → Ends a c reason answer
none_then_ends a b c reason answer h k = record { one = none_then_one a b c (HostEnded reason) answer h k.one; none_left = k.none_left }

pub none_then_text : (a b c : HostDeskState) → MakesNone a b → FindsText b c → FindsText a c
none_then_text a b c h k = record { others = none_twice a b c h k.others; text_left = k.text_left }

-- What came in between

-- The entries that came in between two states of a desk: the calls of its own among them, the texts that they took, given
-- the journal, and the texts that they said. Each of its own has the property.
pub record Stretch (P : List Entry → Call → Type 0) (old new : HostDeskState) (calls : List Call) (taken : List Entry → List (List ℕ)) (said : List (List ℕ)) : Type 0 where
  pub more : List Seen
  pub seen : new.history ≡ more ++ old.history
  pub calls_are : calls_in more ≡ calls
  pub taken_are : (past : List Entry) → texts_of_takes past more ≡ taken past
  pub said_are : texts_said more ≡ said
  pub each : EachOwn P (past_of old) more

pub stretch_none : (P : List Entry → Call → Type 0) (old between new : HostDeskState) → MakesNone old between → new.history ≡ between.history → Stretch P old new [] (λ past. []) []
stretch_none P old between new none same = record {
  more = none.others;
  seen = same ∙ none.seen;
  calls_are = calls-none none.others none.none_own;
  taken_are = λ past. taken-none past none.others none.none_own;
  said_are = said-none none.others none.none_own;
  each = each-none P (past_of old) none.others none.none_own;
}

pub stretch_own : (P : List Entry → Call → Type 0) (old between new : HostDeskState) (call : Call) (answer : Answer) → MakesNone old between → new.history ≡ own_entry between call answer ∷ between.history → P (past_of between) call
    → Stretch P old new (call ∷ []) (λ past. text_of_take past call answer) (text_said call)
stretch_own P old between new call answer none made h =
    let own = own_entry between call answer in
    let Q : List Entry → Type 0 = λ es. P es call in
    record {
      more = own ∷ none.others;
      seen = made ∙ ap (λ xs. own ∷ xs) none.seen;
      calls_are = ap (λ cs. call ∷ cs) (calls-none none.others none.none_own);
      taken_are = λ past. ap (λ ts. ts ++ text_of_take past call answer) (taken-none past none.others none.none_own);
      said_are = ap (λ ts. ts ++ text_said call) (said-none none.others none.none_own);
      each = (each-none P (past_of old) none.others none.none_own, λ is. subst Q (past_grown old between none) h);
    }

pub stretch_twice : (P : List Entry → Call → Type 0) (a b c : HostDeskState) (cs ds : List Call) (t u : List Entry → List (List ℕ)) (x y : List (List ℕ)) → Stretch P a b cs t x → Stretch P b c ds u y → Stretch P a c (ds ++ cs) (λ past. t past ++ u past) (x ++ y)
stretch_twice P a b c cs ds t u x y h k = record {
  more = k.more ++ h.more;
  seen = k.seen ∙ ap (λ xs. k.more ++ xs) h.seen ∙ sym (append_assoc k.more h.more a.history);
  calls_are = calls-append k.more h.more ∙ ap (λ zs. zs ++ calls_in h.more) k.calls_are ∙ ap (λ zs. ds ++ zs) h.calls_are;
  taken_are = λ past. taken-append past k.more h.more ∙ ap (λ zs. zs ++ texts_of_takes past k.more) (h.taken_are past) ∙ ap (λ zs. t past ++ zs) (k.taken_are past);
  said_are = said-append k.more h.more ∙ ap (λ zs. zs ++ texts_said k.more) h.said_are ∙ ap (λ zs. x ++ zs) k.said_are;
  each = each-append P (past_of a) k.more h.more (subst (λ es. EachOwn P es k.more) (ap entries_in h.seen ∙ map-append (λ (s : Seen). s.entry) h.more a.history) k.each) h.each;
}
