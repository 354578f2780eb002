-- What a turn of the lock is at a desk over a seat.
use Rattle.std.proofs.Common.{◌≡◌, ℕ, zero, suc, ◌+◌, ◌-◌, ◌≤◌, ◌==◌, cond, Bool, true, false, List, [], ◌∷◌, ◌++◌, length, refl, ap, sym, ◌∙◌, subst, arith, append_assoc, length-append, eq-eqb, Option, Some, None}
use Rattle.std.specs.Prelude.{reverse, take, drop, Result, IfOk}
use Rattle.std.proofs.lemmas.List.{reverse-append, append-nil, map-append}
use Rattle.std.proofs.lemmas.List.Elements.{All-nil, All-cons, All-append}
use Rattle.wx_id.specs.declared.numbers.ContextNo.{ContextNo}
use Rattle.wx_id.specs.declared.numbers.EntryNo.{EntryNo}
use Rattle.wx_id.specs.declared.texts.NoMemory.{NoMemory}
use Rattle.wx_external.specs.World.{WorldLists}
use Rattle.wx_machine.specs.declared.entries.Who.{Who}
use Rattle.wx_machine.specs.declared.entries.Who.TheVariants.{Context}
use Rattle.wx_machine.specs.declared.entries.Call.{Call}
use Rattle.wx_machine.specs.declared.entries.Call.TheVariants.{Take}
use Rattle.wx_machine.specs.declared.entries.Answer.{Answer}
use Rattle.wx_machine.specs.declared.entries.Entry.{Entry}
use Rattle.wx_machine.specs.Words.{FollowsMachine, EachAfter, text_of}
use Rattle.wx_turn.specs.declared.view.Element.{Element}
use Rattle.wx_turn.specs.declared.view.View.{View}
use Rattle.wx_turn.specs.History.{marks, own, element}
use Rattle.wx_turn.specs.Works.{entries}
use Rattle.wx_turn.specs.Entries.{entries-append}
use Rattle.wx_turn.specs.Turns.{IsTurn}
use Rattle.wx_turn.proofs.Histories.{own_append, own_here, marks_more}
use Rattle.wx_desk.specs.History.{Seen, entries_in, seen_by, AreOthers}
use Rattle.wx_desk.specs.Desks.{DeskState, past_of, IsKnown, IsSound, MakesNone, MakesOne, own_entry}
use Rattle.wx_desk.proofs.OverLemmas.{entries_in-seen_by, known_later}
use Rattle.wx_endpoint.specs.Steps.{TakesReady, FindsNone}
use Rattle.wx_shared.specs.Seats.{put, grown, history_of, world_or_none, desk_at}
use Rattle.wx_shared.specs.declared.taking.Taken.TheVariants.{Nothing, Took}
use Rattle.wx_shared.specs.Works.{entry_by, past_in, TakesIn}

-- ---- histories

pub grown_append : (n : ℕ) (h : List Seen) (xs ys : List (Element Entry)) → grown n h (xs ++ ys) ≡ grown n (grown n h xs) ys
grown_append n h [] ys = refl
grown_append n h (x ∷ xs) ys = grown_append n (put (x.by == n) x.entry h) xs ys

-- a history behind entries of others
pub record Splits (new h : List Seen) : Type 0 where
  pub others : List Seen
  pub none_own : AreOthers others
  pub seen : new ≡ others ++ h

not_own : (n : ℕ) (x : Element Entry) (xs : List (Element Entry)) → own n (x ∷ xs) ≡ [] → ((x.by == n) ≡ false) × (own n xs ≡ [])
not_own n x xs e = (elim (x.by == n) as (λ b. cond b (x.entry ∷ own n xs) (own n xs) ≡ [] → (b ≡ false) × (own n xs ≡ [])) [ true ↦ (λ q. absurd cc) | false ↦ (λ q. (refl, q)) ]) e

abbrev is_own : Seen → Type 0
is_own s = s.own ≡ false

-- turns of other seats
pub others_of : (n : ℕ) (h : List Seen) (es : List (Element Entry)) → own n es ≡ [] → Splits (grown n h es) h
others_of n h [] none = record { others = []; none_own = All-nil is_own; seen = refl }
others_of n h (x ∷ xs) none =
    let apart = not_own n x xs none in
    go (x.by == n) apart.0 x.entry (others_of n (put (x.by == n) x.entry h) xs apart.1)
  where
    go : (b : Bool) → b ≡ false → (m : Option Entry) → Splits (grown n (put b m h) xs) (put b m h) → Splits (grown n (put b m h) xs) h
    go b is None r = r
    go b is (Some e) r =
        let s : Seen = record { own = b; entry = e } in
        record { others = r.others ++ s ∷ []; none_own = All-append is_own r.others (s ∷ []) r.none_own (All-cons is_own s [] is (All-nil is_own)); seen = r.seen ∙ sym (append_assoc r.others (s ∷ []) h) }

-- the journal of a history over a seat is the entries of its marks
pub grown_entries : (n : ℕ) (h : List Seen) (es : List (Element Entry)) → entries_in (grown n h es) ≡ past_in (marks es) ++ entries_in h
grown_entries n h [] = refl
grown_entries n h (x ∷ xs) = go (x.by == n) x.entry (grown_entries n (put (x.by == n) x.entry h) xs)
  where
    go : (b : Bool) (m : Option Entry) → entries_in (grown n (put b m h) xs) ≡ past_in (marks xs) ++ entries_in (put b m h)
        → entries_in (grown n (put b m h) xs) ≡ past_in (m ∷ marks xs) ++ entries_in h
    go b None q = q
    go b (Some e) q = q ∙ (sym (append_assoc (past_in (marks xs)) (e ∷ []) (entries_in h)) ∙ ap (λ l. l ++ entries_in h) (sym (reverse-append (e ∷ []) (entries (marks xs)))))

-- ---- behind the opening

drop_more : {A : Type 0} (k : ℕ) (xs ys : List A) → k ≤ length xs → drop k (xs ++ ys) ≡ drop k xs ++ ys
drop_more zero xs ys le = refl
drop_more (suc k) [] ys le = absurd (omega arith)
drop_more (suc k) (x ∷ xs) ys le = drop_more k xs ys (omega arith)

take_more : {A : Type 0} (k : ℕ) (xs ys : List A) → k ≤ length xs → take k (xs ++ ys) ≡ take k xs
take_more zero xs ys le = refl
take_more (suc k) [] ys le = absurd (omega arith)
take_more (suc k) (x ∷ xs) ys le = ap (λ l. x ∷ l) (take_more k xs ys (omega arith))

pub take_drop : {A : Type 0} (k : ℕ) (xs : List A) → take k xs ++ drop k xs ≡ xs
take_drop zero xs = refl
take_drop (suc k) [] = refl
take_drop (suc k) (x ∷ xs) = ap (λ l. x ∷ l) (take_drop k xs)

pub entries_of_two : (xs ys : List (Element Entry)) → entries (marks (xs ++ ys)) ≡ entries (marks xs) ++ entries (marks ys)
entries_of_two xs ys = ap entries (map-append (λ (e : Element Entry). e.entry) xs ys) ∙ entries-append (marks xs) (marks ys)

pub history_more : (k : ℕ) (who : Who) (n : ℕ) (xs ys : List (Element Entry)) → k ≤ length xs → history_of k who n (xs ++ ys) ≡ grown n (history_of k who n xs) ys
history_more k who n xs ys le =
    let base : List Seen = seen_by who (past_in (marks (take k xs))) in
    ap (λ l. grown n (seen_by who (past_in (marks l))) (drop k (xs ++ ys))) (take_more k xs ys le)
    ∙ (ap (grown n base) (drop_more k xs ys le) ∙ grown_append n base (drop k xs) ys)

pub history_entries : (k : ℕ) (who : Who) (n : ℕ) (es : List (Element Entry)) → entries_in (history_of k who n es) ≡ past_in (marks es)
history_entries k who n es =
    let front : List Entry = entries (marks (take k es)) in
    let back : List Entry = entries (marks (drop k es)) in
    grown_entries n (seen_by who (reverse front)) (drop k es)
    ∙ (ap (λ l. reverse back ++ l) (entries_in-seen_by who (reverse front))
    ∙ (sym (reverse-append front back) ∙ ap reverse (sym (entries_of_two (take k es) (drop k es)) ∙ ap (λ l. entries (marks l)) (take_drop k es))))

nothing_more : (us vs : List (Option Entry)) → us ++ vs ≡ us → vs ≡ []
nothing_more [] vs e = e
nothing_more (u ∷ us) vs e = nothing_more us vs (cc e)

known_more : (xs past : List Entry) (who : Who) → IsKnown past who → IsKnown (xs ++ past) who
known_more [] past who known = known
known_more (x ∷ xs) past who known = known_later x (xs ++ past) who (known_more xs past who known)

past_found : (es : List (Element Entry)) (e : Option Entry) → e ≡ None → past_in (marks es ++ e ∷ []) ≡ past_in (marks es)
past_found es e none = ap (λ m. past_in (marks es ++ m ∷ [])) none ∙ ap reverse (entries-append (marks es) (None ∷ []) ∙ append-nil (entries (marks es)))

-- ---- one turn

module _ {n : ℕ} {v w : View Entry WorldLists} {R : WorldLists → List (Option Entry) → Option Entry → Type 0} where
  same_world : (t : IsTurn n v w R) → world_or_none w.fixed ≡ world_or_none v.fixed
  same_world t = ap world_or_none (t.fixed_is.1 ∙ sym t.fixed_is.0)

  pub longer : (k : ℕ) → k ≤ length v.history → (t : IsTurn n v w R) → k ≤ length t.before
  longer k le t = let l = ap length t.later.1 in omega (arith, length-append v.history t.later.0)

  -- the opening is there still
  pub opening_stays : (k : ℕ) → k ≤ length v.history → (t : IsTurn n v w R) → k ≤ length w.history
  opening_stays k le t = let l = longer k le t in let m = ap length t.history in omega (arith, length-append t.before (element n t.mark ∷ []))

  -- at most one step was made
  pub one_step : (t : IsTurn n v w R) → 65536 - length (own n v.history) ≤ 65536 - length (own n w.history) + 1
  one_step t =
      let here = ap length (own_here n t.before t.mark) in
      let same = ap length t.own_same in
      let now = ap (λ (l : List (Element Entry)). length (own n l)) t.history in
      omega (arith, length-append (own n t.before) (t.mark ∷ []))

module _ {A : Type 0} (as_who : A → Who) (k : ℕ) (who : A) {n : ℕ} {v w : View Entry WorldLists} {R : WorldLists → List (Option Entry) → Option Entry → Type 0} where
  -- what the turns of others made
  meanwhile : k ≤ length v.history → (t : IsTurn n v w R) → Splits (history_of k (as_who who) n t.before) (history_of k (as_who who) n v.history)
  meanwhile le t =
      let rest = t.later.0 in
      let none : own n rest ≡ [] = nothing_more (own n v.history) (own n rest) (sym (own_append n v.history rest) ∙ (ap (own n) t.later.1 ∙ t.own_same)) in
      let s = others_of n (history_of k (as_who who) n v.history) rest none in
      record { others = s.others; none_own = s.none_own; seen = ap (history_of k (as_who who) n) (sym t.later.1) ∙ (history_more k (as_who who) n v.history rest le ∙ s.seen) }

  -- the desk as the turn found it
  abbrev pub found_desk : IsTurn n v w R → DeskState A as_who
  found_desk t = record { who = who; world = world_or_none w.fixed; history = history_of k (as_who who) n t.before; alone = false }

  pub found : k ≤ length v.history → (t : IsTurn n v w R) → MakesNone (desk_at as_who k who n v) (found_desk t)
  found le t = let s = meanwhile le t in record { others = s.others; none_own = s.none_own; none_came = (λ is. absurd cc); seen = s.seen; same_who = refl; same_world = same_world t; same_alone = refl }

  seen_then : k ≤ length v.history → (t : IsTurn n v w R) → history_of k (as_who who) n w.history ≡ put true t.mark (history_of k (as_who who) n t.before)
  seen_then le t = ap (history_of k (as_who who) n) t.history ∙ (history_more k (as_who who) n t.before (element n t.mark ∷ []) (longer k le t) ∙ ap (λ b. put b t.mark (history_of k (as_who who) n t.before)) (eq-eqb n n refl))

  -- the turn left no entry
  pub marked_none : k ≤ length v.history → (t : IsTurn n v w R) → t.mark ≡ None → MakesNone (desk_at as_who k who n v) (desk_at as_who k who n w)
  marked_none le t none =
      let s = meanwhile le t in
      record { others = s.others; none_own = s.none_own; none_came = (λ is. absurd cc); seen = seen_then le t ∙ (ap (λ m. put true m (history_of k (as_who who) n t.before)) none ∙ s.seen); same_who = refl; same_world = same_world t; same_alone = refl }

  pub made_then : k ≤ length v.history → (t : IsTurn n v w R) (call : Call) (answer : Answer) → t.mark ≡ Some (entry_by (as_who who) call answer)
      → desk_at as_who k who n w ≡ record (found_desk t) { history = own_entry (found_desk t) call answer ∷ history_of k (as_who who) n t.before }
  made_then le t call answer is =
      ap (λ (h : List Seen). record { who = who; world = world_or_none w.fixed; history = h; alone = false }) (seen_then le t ∙ ap (λ m. put true m (history_of k (as_who who) n t.before)) is)

  -- the turn left an entry
  abbrev pub marked_one : k ≤ length v.history → (t : IsTurn n v w R) (call : Call) (answer : Answer) → t.mark ≡ Some (entry_by (as_who who) call answer)
      → MakesOne (desk_at as_who k who n v) (desk_at as_who k who n w) call answer
  marked_one le t call answer is = record { between = found_desk t; others = found le t; made = made_then le t call answer is }

  -- the journal behind a turn
  past_then : (t : IsTurn n v w R) → past_of (desk_at as_who k who n w) ≡ past_in (marks t.before ++ t.mark ∷ [])
  past_then t = history_entries k (as_who who) n w.history ∙ ap past_in (ap marks t.history ∙ marks_more t.before (element n t.mark))

  -- behind a turn that made no entry the journal is the one that it found
  pub past_same : (t : IsTurn n v w R) → t.mark ≡ None → past_of (desk_at as_who k who n w) ≡ past_in (marks t.before)
  past_same t none = past_then t ∙ past_found t.before t.mark none

  -- the journal grew by what came in
  pub past_grows : k ≤ length v.history → (t : IsTurn n v w R) → past_of (desk_at as_who k who n w) ≡ past_in (marks (t.later.0 ++ element n t.mark ∷ [])) ++ past_of (desk_at as_who k who n v)
  past_grows le t =
      let tail = t.later.0 ++ element n t.mark ∷ [] in
      let all : w.history ≡ v.history ++ tail = t.history ∙ (ap (λ l. l ++ element n t.mark ∷ []) (sym t.later.1) ∙ append_assoc v.history t.later.0 (element n t.mark ∷ [])) in
      ap (λ l. entries_in (history_of k (as_who who) n l)) all ∙ (ap entries_in (history_more k (as_who who) n v.history tail le) ∙ grown_entries n (history_of k (as_who who) n v.history) tail)

  -- a journal that is legal behind the turn leaves the desk sound
  pub sound_then : k ≤ length v.history → (t : IsTurn n v w R) → EachAfter (FollowsMachine t.fixed) (past_in (marks t.before ++ t.mark ∷ [])) → IsSound (desk_at as_who k who n v) → IsSound (desk_at as_who k who n w)
  sound_then le t legal sound =
      let world : world_or_none w.fixed ≡ t.fixed = ap world_or_none t.fixed_is.1 in
      record {
        legal = subst (λ (world : WorldLists). EachAfter (FollowsMachine world) (past_of (desk_at as_who k who n w))) (sym world) (subst (EachAfter (FollowsMachine t.fixed)) (sym (past_then t)) legal);
        known = subst (λ past. IsKnown past (as_who who)) (sym (past_grows le t)) (known_more (past_in (marks (t.later.0 ++ element n t.mark ∷ []))) (past_of (desk_at as_who k who n v)) (as_who who) sound.known);
      }

  pub copies : (e : EntryNo) (copy : Result (Option (List ℕ)) NoMemory) (t : IsTurn n v w R) → t.mark ≡ None → IfOk copy (λ text. text ≡ text_of (past_in (marks t.before)) e) → IfOk copy (λ text. text ≡ text_of (past_of (desk_at as_who k who n w)) e)
  copies e copy t none is = rw (past_same t none) is

module _ (k : ℕ) (c : ContextNo) {n : ℕ} {v w : View Entry WorldLists} where
  pub finds_none : k ≤ length v.history → (t : IsTurn n v w (λ f h e. TakesIn c f h e Nothing)) → FindsNone (desk_at Context k c n v) (desk_at Context k c n w)
  finds_none le t = record { others = marked_none Context k c le t t.related.is.0; none_pending = rw (past_same Context k c t t.related.is.0) t.related.is.1 }

  pub takes_ready : k ≤ length v.history → (answer : Answer) (t : IsTurn n v w (λ f h e. TakesIn c f h e (Took answer))) → TakesReady (desk_at Context k c n v) (desk_at Context k c n w) answer
  takes_ready le answer t =
      record { one = marked_one Context k c le t Take answer t.related.is.0; pending = rw (history_entries k (Context c) n t.before) t.related.is.1 }
