-- The laws of messaging, by the places of a journal.
use Rattle.std.proofs.Common.{◌≡◌, ℕ, suc, zero, ◌<◌, List, [], ◌∷◌, ◌++◌, length, take, refl, ap, sym, ◌∙◌, Bool, true, false, cond, not, arith, subst, append_assoc}
use Rattle.std.specs.Prelude.{Option, Some, None, is_some, ◌&&◌, filter, reverse}
use Rattle.std.specs.Option.{option_or}
use Rattle.std.proofs.lemmas.List.{reverse-append, length-reverse, length-append}
use Rattle.wx_laws.proofs.Numbers.{eqb_refl, eqb_below, eqb_above}
use Rattle.wx_id.specs.declared.numbers.ContextNo.{ContextNo}
use Rattle.wx_id.specs.declared.numbers.HostNo.{HostNo}
use Rattle.wx_id.specs.declared.events.EventKind.TheVariants.{Disconnected}
use Rattle.wx_external.specs.World.{WorldLists}
use Rattle.wx_machine.specs.declared.entries.Entry.{Entry}
use Rattle.wx_machine.specs.Words.{is_live, channel, end_in, ends_channel, closed_at, is_closed, closes, on, side_of, IsLegal}
use Rattle.wx_laws.specs.Legal.{IsLegalPast}
use Rattle.wx_laws.specs.ClosingLaw.{are_across, is_disconnected}
use Rattle.wx_laws.specs.Keeping.{before, IsEntry, told, is_at, KeepsChannel, KeepsRequest, KeepsHost, KeepsRefusals, LegalKeepsLaws}
use Rattle.wx_laws.proofs.Pasts.{legal_before}
use Rattle.wx_laws.proofs.Messages.{takes_in_order_lem, takes_texts_in_order_lem}
use Rattle.wx_laws.proofs.HostTexts.{hosts_take_in_order_lem, hosts_take_texts_in_order_lem}
use Rattle.wx_laws.proofs.Closings.{tells_the_other_side_lem, tells_no_more_lem, stays_pending_lem, stays_behind_closing_lem}
use Rattle.wx_laws.proofs.Settlements.{answers_once_lem, tells_one_outcome_lem, tells_the_asker_lem}
use Rattle.wx_laws.proofs.Refusals.{refuses_connects_lem, refuses_native_connects_lem}

-- a journal, newest first, in two parts round entry i
abbrev Split : List Entry → ℕ → Entry → Type 0
Split journal i e = (later : List Entry) × (reverse journal ≡ later ++ e ∷ before journal i) × (length (before journal i) ≡ i)

parts : (journal : List Entry) (i : ℕ) (e : Entry) → IsEntry journal i e → (rest : List Entry) × (journal ≡ take i journal ++ e ∷ rest) × (length (take i journal) ≡ i)
parts [] i e h = absurd (cc)
parts (x ∷ xs) zero e h = let same : x ≡ e = cc in (xs, ap (λ y. y ∷ xs) same, refl)
parts (x ∷ xs) (suc i) e h = let t = parts xs i e h in (t.0, ap (λ l. x ∷ l) t.1, ap suc t.2)

split : (journal : List Entry) (i : ℕ) (e : Entry) → IsEntry journal i e → Split journal i e
split journal i e h =
    let t = parts journal i e h in (
      reverse t.0,
      ap reverse t.1 ∙ reverse-append (take i journal) (e ∷ t.0) ∙ ap (λ l. l ++ reverse (take i journal)) (reverse-append (e ∷ []) t.0) ∙ simp append_assoc,
      length-reverse (take i journal) ∙ t.2,
    )

legal_at : (world : WorldLists) (journal : List Entry) (i : ℕ) (e : Entry) → IsLegal world journal → IsEntry journal i e → IsLegalPast world (e ∷ before journal i)
legal_at world journal i e legal h =
    let s = split journal i e h in legal_before world s.0 (e ∷ before journal i) (subst (λ (l : List Entry). IsLegalPast world l) s.1 legal)

-- the closing entry of a channel is one of those before
closed_below : (past : List Entry) (k n : ℕ) → closed_at past k ≡ Some n → n < length past
closed_below [] k n h = absurd (cc)
closed_below (e ∷ past) k n h = pick (closed_at past k) (ends_channel past e k) h (closed_below past k n)
  where
    pick : (o : Option ℕ) (b : Bool) → option_or o (cond b (Some (length past)) None) ≡ Some n → (o ≡ Some n → n < length past) → n < suc (length past)
    pick None true h rest = let same : length past ≡ n = cc in omega arith
    pick None false h rest = absurd (cc)
    pick (Some m) b h rest = let q : n < length past = rest h in omega arith

-- an entry closes a channel where it is the closing entry of the whole journal
closes_at : (later past : List Entry) (e : Entry) (k : ℕ) → closes past e k ≡ is_at (closed_at (later ++ e ∷ past) k) (length past)
closes_at [] past e k = pick (closed_at past k) refl (ends_channel past e k)
  where
    pick : (o : Option ℕ) → closed_at past k ≡ o → (b : Bool) → (not (is_some o) && b) ≡ is_at (option_or o (cond b (Some (length past)) None)) (length past)
    pick None is true = sym (eqb_refl (length past))
    pick None is false = refl
    pick (Some m) is b = sym (eqb_below m (length past) (closed_below past k m is))
closes_at (x ∷ later) past e k =
    closes_at later past e k ∙ pick (closed_at (later ++ e ∷ past) k) (ends_channel (later ++ e ∷ past) x k)
  where
    pick : (o : Option ℕ) (b : Bool) → is_at o (length past) ≡ is_at (option_or o (cond b (Some (length (later ++ e ∷ past))) None)) (length past)
    pick None true = sym (eqb_above (length (later ++ e ∷ past)) (length past) (omega (arith, length-append later (e ∷ past))))
    pick None false = refl
    pick (Some m) b = refl

-- what was closed by then is closed at the end
closed_then : (later past : List Entry) (k n : ℕ) → closed_at (later ++ past) k ≡ Some n → n < length past → is_closed past k ≡ true
closed_then [] past k n h l = rw h refl
closed_then (x ∷ later) past k n h l = pick (closed_at (later ++ past) k) refl (ends_channel (later ++ past) x k) h (λ q. closed_then later past k n q l)
  where
    pick : (o : Option ℕ) → closed_at (later ++ past) k ≡ o → (b : Bool) → option_or o (cond b (Some (length (later ++ past))) None) ≡ Some n → (closed_at (later ++ past) k ≡ Some n → is_closed past k ≡ true) → is_closed past k ≡ true
    pick None is true h rest = let same : length (later ++ past) ≡ n = cc in absurd (omega (arith, length-append later past))
    pick None is false h rest = absurd (cc)
    pick (Some m) is b h rest = rest (is ∙ h)

-- after its closing entry a channel is closed
closed_before : (journal : List Entry) (k i n : ℕ) (e : Entry) → closed_at (reverse journal) k ≡ Some n → n < i → Split journal i e → is_closed (before journal i) k ≡ true
closed_before journal k i n e closed below s =
    let whole : (s.0 ++ e ∷ []) ++ before journal i ≡ reverse journal = (simp append_assoc) ∙ sym s.1 in
    let at : closed_at ((s.0 ++ e ∷ []) ++ before journal i) k ≡ Some n = ap (λ (l : List Entry). closed_at l k) whole ∙ closed in
    let less : n < length (before journal i) = subst (λ (m : ℕ). n < m) (sym s.2) below in
    closed_then (s.0 ++ e ∷ []) (before journal i) k n at less

pub keeps_channel : (world : WorldLists) (journal : List Entry) (k : ℕ) → IsLegal world journal → KeepsChannel journal k (closed_at (reverse journal) k)
keeps_channel world journal k legal = record {
  in_order = λ c. takes_in_order_lem world (reverse journal) c k legal;
  texts_in_order = λ c. takes_texts_in_order_lem world (reverse journal) c k legal;
  to_the_other_side = λ i e c h. to_the_other_side_at i e c h (split journal i e h);
  no_more = λ i n e c h closed below. tells_no_more_lem world (before journal i) e c k (legal_at world journal i e legal h) (closed_before journal k i n e closed below (split journal i e h));
  stays = λ c h. stays_pending_lem (reverse journal) c k h;
  stays_behind = λ i n e c h closed below. stays_behind_closing_lem world (before journal i) e c k (legal_at world journal i e legal h) (closed_before journal k i n e closed below (split journal i e h));
}
  where
    to_the_other_side_at : (i : ℕ) (e : Entry) (c : ContextNo) → IsEntry journal i e → Split journal i e
        → filter (is_disconnected k) (told journal i e c)
        ≡ on (is_at (closed_at (reverse journal) k) i && (are_across (side_of (channel (before journal i) k) e.who) (end_in (channel (before journal i) k) c) && is_live (before journal i) c)) (Disconnected (record { 0 = k }))
    to_the_other_side_at i e c h s =
        let same : closes (before journal i) e k ≡ is_at (closed_at (reverse journal) k) i =
        closes_at s.0 (before journal i) e k
        ∙ ap (λ (n : ℕ). is_at (closed_at (s.0 ++ e ∷ before journal i) k) n) s.2
        ∙ ap (λ (l : List Entry). is_at (closed_at l k) i) (sym s.1) in
        tells_the_other_side_lem world (before journal i) e c k (legal_at world journal i e legal h)
        ∙ ap (λ (b : Bool). on (b && (are_across (side_of (channel (before journal i) k) e.who) (end_in (channel (before journal i) k) c) && is_live (before journal i) c)) (Disconnected (record { 0 = k }))) same

pub keeps_request : (world : WorldLists) (journal : List Entry) (r : ℕ) → IsLegal world journal → KeepsRequest journal r
keeps_request world journal r legal = record {
  answered_once = answers_once_lem world (reverse journal) r legal;
  one_outcome = λ c. tells_one_outcome_lem world (reverse journal) c r legal;
  to_the_asker = λ i e c h. tells_the_asker_lem (before journal i) e c r;
}

keeps_host : (world : WorldLists) (journal : List Entry) (h : HostNo) → IsLegal world journal → KeepsHost journal h
keeps_host world journal h legal = record {
  in_order = hosts_take_in_order_lem world (reverse journal) h legal;
  texts_in_order = hosts_take_texts_in_order_lem world (reverse journal) h legal;
}

keeps_refusals : (world : WorldLists) (journal : List Entry) → IsLegal world journal → KeepsRefusals world journal
keeps_refusals world journal legal = record {
  connects = λ i c target name answer h live. refuses_connects_lem world (before journal i) c target name answer (legal_at world journal i _ legal h) live;
  native_connects = λ i c name answer h live. refuses_native_connects_lem world (before journal i) c name answer (legal_at world journal i _ legal h) live;
}

pub legal_keeps_laws : LegalKeepsLaws
legal_keeps_laws world journal legal = record {
  channels = λ k. keeps_channel world journal k legal;
  requests = λ r. keeps_request world journal r legal;
  hosts = λ h. keeps_host world journal h legal;
  refusals = keeps_refusals world journal legal;
}
