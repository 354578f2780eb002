-- Each step keeps the rule of the lock.
use Rattle.std.proofs.Common.{◌≡◌, ◌≢◌, ℕ, zero, suc, ◌+◌, ◌%◌, ◌^◌, ◌<◌, ◌≤◌, List, [], ◌∷◌, ◌++◌, map, length, get_or, set, refl, ap, sym, ◌∙◌, subst, ⊎_elim, arith, length-append, Option, Some, None}
use mathlib.Core.List.{IsPrefix}
use mathlib.Core.Logic.{dite}
use mathlib.Core.Option.{none, some, some-ne-none, some-injective}
use mathlib.Core.Option as maybe
use native.Mathlib.Decide.{ℕ_discrete}
use lib.ListN.{get_elem?}
use Rattle.atomic_table.specs.Table.{State, Me, step, Act, keeps, takes, gives, stepped, rest, Allows, Splits, Joins, opening, Seen}
use Rattle.atomic_table.proofs.Lists.{at_set, set_else, set_again}
use Rattle.wx_turn.specs.declared.view.Element.{Element}
use Rattle.wx_turn.specs.declared.view.View.{View}
use Rattle.wx_turn.specs.declared.view.Stage.{Stage}
use Rattle.wx_turn.specs.declared.view.Stage.TheVariants.{Rests, Waits, Acts, Closes}
use Rattle.wx_turn.specs.History.{marks, own, element}
use Rattle.std.specs.List.{AllByRecursion}
use Rattle.wx_turn.specs.Turns.{AreDistinct, IsTurn}
use Rattle.wx_turn.specs.Rule.{ticket_count, numbers_of, HasTicket, StageFits, NumberFits, ViewFits, LockRule}
use Rattle.wx_turn.specs.History.{Keeps}
use Rattle.wx_turn.specs.Steps.{SeatState, Draws, Looks, GivesBack, EndsTurn, after_turn}
use Rattle.wx_turn.specs.Steps.{BeginsTurn}
use Rattle.wx_turn.proofs.Histories.{put, put_here, put_else, total_more, total_few, prefix_self, prefix_more, each_map, each_names, own_here, own_else, marks_more}

-- what holds of each seat once one has a new view
pub seats_stay : {V : Type 0} (K : ℕ → V → Type 0) (vs : List V) (me : ℕ) (w : V) → K me w → ((j : ℕ) (d : V) → j ≢ me → get_elem? vs j ≡ some d → K j d)
    → (j : ℕ) (d : V) → get_elem? (set vs me w) j ≡ some d → K j d
seats_stay {V} K vs me w mine others j d e = ⊎_elim (λ (t : (j ≡ me) × (w ≡ d)). subst (λ (x : ℕ × V). K x.0 x.1) (λ i. (sym t.0 i, t.1 i)) mine)
    (λ (t : (j ≢ me) × (get_elem? vs j ≡ some d)). others j d t.0 t.1) (at_set vs me j w d e)

abbrev some_or : {S : Type 0} → S → Option S → S
some_or d None = d
some_or d (Some x) = x

-- the value in the slot that was taken last
abbrev value_or : {S : Type 0} → S → List (ℕ × Option S) → S
value_or d [] = d
value_or d (p ∷ ps) = some_or d p.1

abbrev slot_or : {S : Type 0} → Option S → List (ℕ × Option S) → Option S
slot_or d [] = d
slot_or d (p ∷ ps) = p.1

pub set_at : {A : Type 0} (l : List A) (i : ℕ) (a b : A) → get_elem? l i ≡ some a → get_elem? (set l i b) i ≡ some b
set_at [] i a b e = absurd (some-ne-none a (sym e))
set_at (x ∷ xs) zero a b e = refl
set_at (x ∷ xs) (suc i) a b e = set_at xs i a b e

module _ {E : Type 0} (log : List (Element E)) where
  -- the seat `me` has drawn the ticket w0, for the number n
  stage_drawn : (tickets : ℕ) (owner : ℕ → ℕ) (acting : maybe.Option ℕ) (me j : ℕ) (history : List (Element E)) (stage : Stage) → StageFits log tickets owner acting j history stage → StageFits log (tickets + 1) (put owner tickets me) acting j history stage
  stage_drawn tickets owner acting me j history Rests ok = tt
  stage_drawn tickets owner acting me j history (Waits t) ok = let lt = ok.2 in (put_else owner tickets me t (λ e. omega arith) ∙ ok.0, ok.1, omega arith)
  stage_drawn tickets owner acting me j history (Acts t) ok = let lt = ok.2 in (put_else owner tickets me t (λ e. omega arith) ∙ ok.0, ok.1, omega arith, ok.3, ok.4)
  stage_drawn tickets owner acting me j history (Closes t) ok = let lt = ok.2 in (put_else owner tickets me t (λ e. omega arith) ∙ ok.0, ok.1, omega arith, ok.3)

  number_drawn : (seats : ℕ) (keeper drawn : ℕ → ℕ) (n c j : ℕ) (history : List (Element E)) (stage : Stage) (o : Option ℕ) → keeper n ≢ j → NumberFits log seats keeper drawn j history stage o → NumberFits log seats keeper (put drawn n c) j history stage o
  number_drawn seats keeper drawn n c j history stage None other ok = ok
  number_drawn seats keeper drawn n c j history stage (Some m) other ok = (ok.0, ok.1, ok.2, put_else drawn n c m (λ e. other (sym (ap keeper e) ∙ ok.1)) ∙ ok.3)

  stage_begun : (tickets : ℕ) (owner : ℕ → ℕ) (acting : maybe.Option ℕ) (me j : ℕ) (history : List (Element E)) (stage : Stage) → acting ≡ none → StageFits log tickets owner acting j history stage → StageFits log tickets owner (some me) j history stage
  stage_begun tickets owner acting me j history Rests free ok = tt
  stage_begun tickets owner acting me j history (Waits t) free ok = ok
  stage_begun tickets owner acting me j history (Acts t) free ok = absurd (some-ne-none j (sym ok.3 ∙ free))
  stage_begun tickets owner acting me j history (Closes t) free ok = ok

  -- the seat has seen all, and is served
  number_begun : (seats : ℕ) (keeper drawn : ℕ → ℕ) (j t : ℕ) (history : List (Element E)) (o : Option ℕ) → NumberFits log seats keeper drawn j history (Waits t) o → NumberFits log seats keeper drawn j log (Acts t) o
  number_begun seats keeper drawn j t history None ok = absurd cc
  number_begun seats keeper drawn j t history (Some n) ok = (ok.0, ok.1, refl, ok.3 ∙ ap (λ (l : List (Option E)). length l + 1) (sym ok.2))

  -- another seat than j has added the mark e for the number n
  stage_gave : (tickets : ℕ) (owner : ℕ → ℕ) (me j n : ℕ) (e : Option E) (history : List (Element E)) (stage : Stage) → owner (length log) ≡ me → j ≢ me → StageFits log tickets owner (some me) j history stage → StageFits (log ++ element n e ∷ []) tickets owner none j history stage
  stage_gave tickets owner me j n e history Rests is other ok = tt
  stage_gave tickets owner me j n e history (Waits t) is other ok =
      let apart : length log ≢ t = λ q. other (sym ok.0 ∙ (ap owner (sym q) ∙ is)) in let le = ok.1 in (ok.0, omega (arith, length-append log (element n e ∷ [])), ok.2)
  stage_gave tickets owner me j n e history (Acts t) is other ok = absurd (other (some-injective j me (sym ok.3)))
  stage_gave tickets owner me j n e history (Closes t) is other ok = absurd (other (sym ok.0 ∙ (ap owner ok.1 ∙ is)))

  number_gave : (seats : ℕ) (keeper drawn : ℕ → ℕ) (j n : ℕ) (e : Option E) (history : List (Element E)) (stage : Stage) (o : Option ℕ) → keeper n ≢ j → NumberFits log seats keeper drawn j history stage o → NumberFits (log ++ element n e ∷ []) seats keeper drawn j history stage o
  number_gave seats keeper drawn j n e history stage None other ok = ok
  number_gave seats keeper drawn j n e history stage (Some m) other ok = (ok.0, ok.1, own_else n m log e (λ q. other (ap keeper (sym q) ∙ ok.1)) ∙ ok.2, ok.3)

module _ {E : Type 0} where
  -- a turn by the number n leaves what was kept for other numbers
  joins_served : (seats j n : ℕ) (keeper : ℕ → ℕ) (log : List (Element E)) (e : Option E) (joins : List (ℕ × List (Option E)))
      → AllByRecursion (λ p. p.0 ≢ n) joins → AllByRecursion (λ p. (p.0 < seats) × (keeper p.0 ≡ j) × (own p.0 log ≡ p.1)) joins
      → AllByRecursion (λ p. (p.0 < seats) × (keeper p.0 ≡ j) × (own p.0 (log ++ element n e ∷ []) ≡ p.1)) joins
  joins_served seats j n keeper log e [] other ok = tt
  joins_served seats j n keeper log e (p ∷ ps) other ok = ((ok.0.0, ok.0.1, own_else n p.0 log e other.0 ∙ ok.0.2), joins_served seats j n keeper log e ps other.1 ok.1)

  keeps_more : (n : ℕ) (log : List (Element E)) (e : Option E) (joins : List (ℕ × List (Option E))) → AllByRecursion (λ p. p.0 ≢ n) joins → Keeps log joins → Keeps (log ++ element n e ∷ []) joins
  keeps_more n log e [] other ok = tt
  keeps_more n log e (p ∷ ps) other ok = (own_else n p.0 log e other.0 ∙ ok.0, keeps_more n log e ps other.1 ok.1)

  others_kept : (seats j n : ℕ) (keeper : ℕ → ℕ) (log : List (Element E)) (joins : List (ℕ × List (Option E))) → keeper n ≢ j
      → AllByRecursion (λ p. (p.0 < seats) × (keeper p.0 ≡ j) × (own p.0 log ≡ p.1)) joins → AllByRecursion (λ p. p.0 ≢ n) joins
  others_kept seats j n keeper log [] other ok = tt
  others_kept seats j n keeper log (p ∷ ps) other ok = ((λ q. other (ap keeper (sym q) ∙ ok.0.1)), others_kept seats j n keeper log ps other ok.1)

module _ {S E F : Type 0} (stands : S → List (Option E) → Type 0) (fixed_of : S → F) (fixed : F) where
  abbrev pub V : Type 0
  V = View E F

  abbrev pub St : Type 0
  St = State (Option S) V

  abbrev pub Rule : St → Type 0
  Rule = LockRule stands fixed_of fixed

  -- word 0 has room
  pub room : (s : St) (r : Rule s) → r.tickets < 562949953421312
  room s r = let few = total_few r.drawn 65537 r.seats r.few in let all = r.ticket_sum in let seat_limit = r.seat_limit in omega arith

  -- the seat's number, with what is known of it
  pub numbered : (s : St) (r : Rule s) (id : ℕ) (v : V) (n : ℕ) (g : Stage) → get_elem? r.views id ≡ some v → v.number ≡ Some n → v.stage ≡ g
      → (n < r.seats) × (r.keeper n ≡ id) × (own n r.log ≡ own n v.history) × (r.drawn n ≡ length (own n v.history) + ticket_count g)
  numbered s r id v n g at num is = let P : Option ℕ → Stage → Type 0 = λ o z. NumberFits r.log r.seats r.keeper r.drawn id v.history z o in
      subst (λ (x : Option ℕ × Stage). P x.0 x.1) (λ i. (num i, is i)) (r.each id v at).number

  pub staged : (s : St) (r : Rule s) (id : ℕ) (v : V) (g : Stage) → get_elem? r.views id ≡ some v → v.stage ≡ g → StageFits r.log r.tickets r.owner r.acting id v.history g
  staged s r id v g at is = subst (StageFits r.log r.tickets r.owner r.acting id v.history) is (r.each id v at).stage

  -- another seat that is served stays so
  pub still_in_use : (views : List V) (acting : maybe.Option ℕ) (owner : ℕ → ℕ) (n id : ℕ) (v w : V) (g : Stage) → get_elem? views id ≡ some v → v.stage ≡ g → g ≢ Acts n
      → ((i : ℕ) → acting ≡ some i → (owner n ≡ i) × ((d : V) × (get_elem? views i ≡ some d) × (d.stage ≡ Acts n)))
      → (i : ℕ) → acting ≡ some i → (owner n ≡ i) × ((d : V) × (get_elem? (set views id w) i ≡ some d) × (d.stage ≡ Acts n))
  still_in_use views acting owner n id v w g at is other users i h =
      let u = users i h in
      let apart : i ≢ id = λ e. let there : get_elem? views id ≡ some u.1.0 = subst (λ (k : ℕ). get_elem? views k ≡ some u.1.0) e u.1.1 in
      let same : v ≡ u.1.0 = some-injective v u.1.0 (sym at ∙ there) in other (sym is ∙ (ap (λ (z : V). z.stage) same ∙ u.1.2)) in
      (u.0, (u.1.0, set_else views id i w apart ∙ u.1.1, u.1.2))

  -- each ticket that waits is still had, where the seat id keeps those that it has
  pub still_live : (views : List V) (owner : ℕ → ℕ) (low low' high id : ℕ) (v w : V) → low ≤ low' → get_elem? views id ≡ some v → ((t : ℕ) → low' ≤ t → HasTicket t v.stage → HasTicket t w.stage)
      → ((t : ℕ) → low ≤ t → t < high → (d : V) × (get_elem? views (owner t) ≡ some d) × HasTicket t d.stage)
      → (t : ℕ) → low' ≤ t → t < high → (d : V) × (get_elem? (set views id w) (owner t) ≡ some d) × HasTicket t d.stage
  still_live views owner low low' high id v w less at keep live t le lt = dite (ℕ_discrete (owner t) id)
      (λ e. let u = live t (omega arith) lt in
      let one : u.0 ≡ v = some-injective u.0 v (sym u.1 ∙ (ap (get_elem? views) e ∙ at)) in
      (w, subst (λ (k : ℕ). get_elem? (set views id w) k ≡ some w) (sym e) (set_at views id v w at), keep t le (subst (λ (z : V). HasTicket t z.stage) one u.2)))
      (λ ne. let u = live t (omega arith) lt in (u.0, set_else views id (owner t) w ne ∙ u.1, u.2))

  -- who is served has a ticket that was drawn
  pub in_use_drawn : (s : St) (r : Rule s) (i : ℕ) → r.acting ≡ some i → length r.log < r.tickets
  in_use_drawn s r i h = let u = r.in_use i h in let g = staged s r i u.1.0 (Acts (length r.log)) u.1.1 u.1.2 in g.2

  pub draw_keeps : (slots id : ℕ) (me : SeatState S E F) (n : ℕ) → me.0.number ≡ Some n → me.0.stage ≡ Rests → length (own n me.0.history) ≤ 65536
      → Allows Rule slots id me 0 (λ k. (k + 1) % 2 ^ 64) (Draws (step slots 0 1 0 none) me)
  draw_keeps slots id me n num rests few s r deep at lt =
      let v : V = me.0 in
      let P : St → Type 0 = λ s. get_elem? s.views id ≡ some v
      → (w : V) × (a : Act (Option S)) × Rattle.atomic_table.specs.Table.Valid s.homes me.1 a × Rule (stepped s 0 ((get_or s.words 0 0 + 1) % 2 ^ 64) id me.1 w a)
      × Draws (step slots 0 1 0 none) me (get_or s.words 0 0) (w, Rattle.atomic_table.specs.Table.carried_after me.1 a) in
      let body : P (record { words = r.tickets ∷ length r.log ∷ r.seats ∷ []; homes = r.home ∷ []; views = r.views }) = λ here.
      let w : V = record v { stage = Waits r.tickets } in
      let ok = r.each id v here in
      let mine = numbered s r id v n Rests here num rests in
      let fits = room s r in
      let next : (r.tickets + 1) % 2 ^ 64 ≡ r.tickets + 1 = omega arith in
      let count : r.drawn n ≤ 65536 = let c = mine.3 in omega arith in
      let drawn : ℕ → ℕ = put r.drawn n (r.drawn n + 1) in
      let owner : ℕ → ℕ = put r.owner r.tickets id in (
        w,
        keeps,
        tt,
        record {
          log = r.log;
          tickets = r.tickets + 1;
          seats = r.seats;
          home = r.home;
          views = set r.views id w;
          owner = owner;
          keeper = r.keeper;
          drawn = drawn;
          acting = r.acting;
          is = λ i. record { words = next i ∷ length r.log ∷ r.seats ∷ []; homes = r.home ∷ []; views = set r.views id w };
          seat_limit = r.seat_limit;
          ticket_sum = total_more r.drawn n r.seats mine.0 ∙ ap (λ (k : ℕ). k + 1) r.ticket_sum;
          few = λ m. dite (ℕ_discrete m n) (λ e. let h : drawn m ≡ r.drawn n + 1 = subst (λ (k : ℕ). put r.drawn n (r.drawn n + 1) k ≡ r.drawn n + 1) (sym e) (put_here r.drawn n (r.drawn n + 1)) in omega arith)
              (λ e. let h : drawn m ≡ r.drawn m = put_else r.drawn n (r.drawn n + 1) m e in let f = r.few m in omega arith);
          fresh = λ m h. let f = r.fresh m h in (put_else r.drawn n (r.drawn n + 1) m (λ e. let l = mine.0 in omega arith) ∙ f.0, f.1);
          turns = let l = r.turns in omega arith;
          at_home = r.at_home;
          in_use = λ i h. let u = still_in_use r.views r.acting r.owner (length r.log) id v w Rests here rests (λ e. cc) r.in_use i h in
              let below = in_use_drawn s r i h in (put_else r.owner r.tickets id (length r.log) (λ e. omega arith) ∙ u.0, u.1);
          live = λ t le lt. dite (ℕ_discrete t r.tickets)
              (λ e. let Q : ℕ → Type 0 = λ k. (d : V) × (get_elem? (set r.views id w) (put r.owner r.tickets id k) ≡ some d) × HasTicket k d.stage in
              subst Q (sym e) (w, subst (λ (k : ℕ). get_elem? (set r.views id w) k ≡ some w) (sym (put_here r.owner r.tickets id)) (set_at r.views id v w here), refl))
              (λ ne. let q = still_live r.views r.owner (length r.log) (length r.log) r.tickets id v w (omega arith) here (λ k _ has. absurd (subst (HasTicket k) rests has)) r.live t le (omega arith) in
              (q.0, ap (get_elem? (set r.views id w)) (put_else r.owner r.tickets id t ne) ∙ q.1, q.2));
          each = seats_stay (ViewFits fixed r.log (r.tickets + 1) r.seats owner r.keeper drawn r.acting) r.views id w
              (record {
                same = ok.same;
                history = ok.history;
                other_history = ok.other_history;
                number = subst (NumberFits r.log r.seats r.keeper drawn id v.history (Waits r.tickets)) (sym num)
                    (mine.0, mine.1, mine.2, put_here r.drawn n (r.drawn n + 1) ∙ ap (λ (k : ℕ). k + 1) (mine.3 ∙ omega arith));
                joins = ok.joins;
                distinct = ok.distinct;
                known_seats = ok.known_seats;
                stage = (put_here r.owner r.tickets id, r.turns, omega arith);
              })
              (λ j d other there. let o = r.each j d there in record {
                same = o.same;
                history = o.history;
                other_history = o.other_history;
                number = number_drawn r.log r.seats r.keeper r.drawn n (r.drawn n + 1) j d.history d.stage d.number (λ e. other (sym e ∙ mine.1)) o.number;
                joins = o.joins;
                distinct = o.distinct;
                known_seats = o.known_seats;
                stage = stage_drawn r.log r.tickets r.owner r.acting id j d.history d.stage o.stage;
              });
        },
        refl,
      ) in
      subst P (sym r.is) body at

  -- a step that changes no view leaves the rule
  pub same_views : (s : St) (r : Rule s) (id : ℕ) (v : V) → get_elem? r.views id ≡ some v → Rule (record { words = r.tickets ∷ length r.log ∷ r.seats ∷ []; homes = r.home ∷ []; views = set r.views id v })
  same_views s r id v at = subst (λ (vs : List V). Rule (record { words = r.tickets ∷ length r.log ∷ r.seats ∷ []; homes = r.home ∷ []; views = vs })) (sym (set_again r.views id v at)) (subst Rule r.is r)

  -- where a seat has the ticket whose turn it is, and is not served, no other is
  pub none_served : (s : St) (r : Rule s) (id t : ℕ) (v : V) (g : Stage) → get_elem? r.views id ≡ some v → v.stage ≡ g → g ≢ Acts (length r.log) → r.owner t ≡ id → length r.log ≡ t → r.acting ≡ none
  none_served s r id t v g at is other owns e = go r.acting refl
    where
      go : (h : maybe.Option ℕ) → r.acting ≡ h → r.acting ≡ none
      go none is' = is'
      go (some i) is' =
          let u = r.in_use i is' in
          let same : i ≡ id = sym u.0 ∙ (ap r.owner e ∙ owns) in
          let there : get_elem? r.views id ≡ some u.1.0 = subst (λ (k : ℕ). get_elem? r.views k ≡ some u.1.0) same u.1.1 in
          let one : v ≡ u.1.0 = some-injective v u.1.0 (sym at ∙ there) in
          absurd (other (sym is ∙ (ap (λ (z : V). z.stage) one ∙ u.1.2)))

  pub joins_keeps : (seats j : ℕ) (keeper : ℕ → ℕ) (log : List (Element E)) (joins : List (ℕ × List (Option E))) → AllByRecursion (λ p. (p.0 < seats) × (keeper p.0 ≡ j) × (own p.0 log ≡ p.1)) joins → Keeps log joins
  joins_keeps seats j keeper log joins ok = each_map (λ (p : ℕ × List (Option E)). (p.0 < seats) × (keeper p.0 ≡ j) × (own p.0 log ≡ p.1)) (λ (p : ℕ × List (Option E)). own p.0 log ≡ p.1) joins (λ p h. h.2) ok

  pub look_keeps : (slots id : ℕ) (me : SeatState S E F) (t : ℕ) → me.0.stage ≡ Waits t → Allows Rule slots id me 1 (λ k. k) (Looks stands fixed_of (step slots 1 0 0 none) me)
  look_keeps slots id me t waits s r deep at lt =
      let v : V = me.0 in
      let P : St → Type 0 = λ s. get_elem? s.views id ≡ some v
      → (w : V) × (a : Act (Option S)) × Rattle.atomic_table.specs.Table.Valid s.homes me.1 a × Rule (stepped s 1 (get_or s.words 1 0) id me.1 w a)
      × Looks stands fixed_of (step slots 1 0 0 none) me (get_or s.words 1 0) (w, Rattle.atomic_table.specs.Table.carried_after me.1 a) in
      let body : P (record { words = r.tickets ∷ length r.log ∷ r.seats ∷ []; homes = r.home ∷ []; views = r.views }) = λ here. dite (ℕ_discrete (length r.log) t)
      (λ e.
      let mine = staged s r id v (Waits t) here waits in
      let free = none_served s r id t v (Waits t) here waits (λ odd. cc) mine.0 e in
      let x = r.at_home free in
      let ok = r.each id v here in
      let fits = room s r in
      let w : V = record v { history = r.log; stage = Acts t } in (
        w,
        takes 0 (Some x.0),
        ap some x.1,
        record {
          log = r.log;
          tickets = r.tickets;
          seats = r.seats;
          home = none;
          views = set r.views id w;
          owner = r.owner;
          keeper = r.keeper;
          drawn = r.drawn;
          acting = some id;
          is = refl;
          seat_limit = r.seat_limit;
          ticket_sum = r.ticket_sum;
          few = r.few;
          fresh = r.fresh;
          turns = r.turns;
          at_home = λ h. absurd (some-ne-none id h);
          in_use = λ i h. let Q : ℕ → Type 0 = λ k. (r.owner (length r.log) ≡ k) × ((d : V) × (get_elem? (set r.views id w) k ≡ some d) × (d.stage ≡ Acts (length r.log))) in
              subst Q (some-injective id i h) (ap r.owner e ∙ mine.0, (w, set_at r.views id v w here, ap (λ (k : ℕ). Acts k) (sym e)));
          live = still_live r.views r.owner (length r.log) (length r.log) r.tickets id v w (omega arith) here (λ k _ has. subst (HasTicket k) waits has) r.live;
          each = seats_stay (ViewFits fixed r.log r.tickets r.seats r.owner r.keeper r.drawn (some id)) r.views id w
              (record {
                same = ok.same;
                history = prefix_self r.log;
                other_history = ok.other_history;
                number = number_begun r.log r.seats r.keeper r.drawn id t v.history v.number (subst (λ (z : Stage). NumberFits r.log r.seats r.keeper r.drawn id v.history z v.number) waits ok.number);
                joins = ok.joins;
                distinct = ok.distinct;
                known_seats = ok.known_seats;
                stage = (mine.0, sym e, mine.2, refl, refl);
              })
              (λ j d other there. let o = r.each j d there in record {
                same = o.same;
                history = o.history;
                other_history = o.other_history;
                number = o.number;
                joins = o.joins;
                distinct = o.distinct;
                known_seats = o.known_seats;
                stage = stage_begun r.log r.tickets r.owner r.acting id j d.history d.stage free o.stage;
              });
        },
        (λ t' is. let one : t' ≡ t = cc (is, waits) in (
          (λ found. (
            x.0,
            record {
              view = let q : Stage → V = λ g. record v { history = r.log; stage = g } in ap (λ (k : ℕ). q (Acts k)) (sym one);
              slots = refl;
              later = ok.history;
              stands_for = x.2;
              fixed = λ f h. x.3 ∙ sym (ok.same f h);
              own_same = λ n h. let m = numbered s r id v n (Waits t) here h waits in m.2;
              joins_same = joins_keeps r.seats id r.keeper r.log v.joins ok.joins;
              distinct = ok.distinct;
              long = (found, (let below = mine.2 in omega arith));
            },
          )),
          (λ miss. absurd (miss (e ∙ sym one))),
        )),
      ))
      (λ miss. (v, keeps, tt, same_views s r id v here, (λ t' is. let one : t' ≡ t = cc (is, waits) in ((λ found. absurd (miss (found ∙ one))), (λ _. refl))))) in
      subst P (sym r.is) body at

  pub serve_keeps : (slots id : ℕ) (me : SeatState S E F) (n t : ℕ) (x : S) (e : Option E) (f : F) → me.0.number ≡ Some n → me.0.stage ≡ Acts t → me.1 ≡ (0, Some x) ∷ []
      → stands x (marks me.0.history ++ e ∷ []) → me.0.fixed ≡ Some f → fixed_of x ≡ f
      → Allows Rule slots id me 1 (λ _. t + 1) (GivesBack stands fixed_of (step slots 1 (t + 1) 0 none) me)
  serve_keeps slots id me n t x e f num serves slot st fix same =
      let v : V = me.0 in
      let W : List (ℕ × Option S) → Type 0 = λ c. Allows Rule slots id (v, c) 1 (λ _. t + 1) (GivesBack stands fixed_of (step slots 1 (t + 1) 0 none) (v, c)) in
      let there : W ((0, Some x) ∷ []) = λ s r deep at lt.
      let c : List (ℕ × Option S) = (0, Some x) ∷ [] in
      let P : St → Type 0 = λ s. get_elem? s.views id ≡ some v
      → (w : V) × (a : Act (Option S)) × Rattle.atomic_table.specs.Table.Valid s.homes c a × Rule (stepped s 1 (t + 1) id c w a)
      × GivesBack stands fixed_of (step slots 1 (t + 1) 0 none) (v, c) (get_or s.words 1 0) (w, Rattle.atomic_table.specs.Table.carried_after c a) in
      let body : P (record { words = r.tickets ∷ length r.log ∷ r.seats ∷ []; homes = r.home ∷ []; views = r.views }) = λ here.
      let el : Element E = element n e in
      let ok = r.each id v here in
      let mine = staged s r id v (Acts t) here serves in
      let nums = numbered s r id v n (Acts t) here num serves in
      let all : v.history ≡ r.log = mine.4 in
      let next : t + 1 ≡ length (r.log ++ el ∷ []) = let q = mine.1 in omega (arith, length-append r.log (el ∷ [])) in
      let apart : AreDistinct (n ∷ map (λ (p : ℕ × List (Option E)). p.0) v.joins) = subst (λ (o : Option ℕ). AreDistinct (numbers_of o v.joins)) num ok.distinct in
      let w : V = record v { history = v.history ++ el ∷ []; stage = Rests } in
      let owns : r.owner (length r.log) ≡ id = ap r.owner (sym mine.1) ∙ mine.0 in (
        w,
        gives,
        tt,
        record {
          log = r.log ++ el ∷ [];
          tickets = r.tickets;
          seats = r.seats;
          home = some (Some x);
          views = set r.views id w;
          owner = r.owner;
          keeper = r.keeper;
          drawn = r.drawn;
          acting = none;
          is = λ i. record { words = r.tickets ∷ next i ∷ r.seats ∷ []; homes = some (Some x) ∷ []; views = set r.views id w };
          seat_limit = r.seat_limit;
          ticket_sum = r.ticket_sum;
          few = r.few;
          fresh = λ m h. let q = r.fresh m h in (q.0, own_else n m r.log e (λ z. let l = nums.0 in omega arith) ∙ q.1);
          turns = let q = mine.1 in let l = mine.2 in omega arith;
          at_home = λ _. (x, refl, subst (stands x) (ap (λ (l : List (Element E)). marks l ++ e ∷ []) all ∙ sym (marks_more r.log el)) st, same ∙ ok.same f fix);
          in_use = λ i h. absurd (some-ne-none i (sym h));
          live = still_live r.views r.owner (length r.log) (length (r.log ++ el ∷ [])) r.tickets id v w (omega (arith, length-append r.log (el ∷ []))) here
              (λ k le has. let same : t ≡ k = subst (HasTicket k) serves has in let q = mine.1 in absurd (omega (arith, length-append r.log (el ∷ [])))) r.live;
          each = seats_stay (ViewFits fixed (r.log ++ el ∷ []) r.tickets r.seats r.owner r.keeper r.drawn none) r.views id w
              (record {
                same = ok.same;
                history = subst (λ (l : List (Element E)). IsPrefix (l ++ el ∷ []) (r.log ++ el ∷ [])) (sym all) (prefix_self (r.log ++ el ∷ []));
                other_history = prefix_more v.other_history r.log (el ∷ []) ok.other_history;
                number = subst (NumberFits (r.log ++ el ∷ []) r.seats r.keeper r.drawn id (v.history ++ el ∷ []) Rests) (sym num)
                    (nums.0, nums.1, ap (λ (l : List (Element E)). own n (l ++ el ∷ [])) (sym all), (let k = nums.3 in let h = ap length (own_here n v.history e) in omega (arith, length-append (own n v.history) (e ∷ []))));
                joins = joins_served r.seats id n r.keeper r.log e v.joins (each_names (λ m. m ≢ n) v.joins apart.0) ok.joins;
                distinct = ok.distinct;
                known_seats = ok.known_seats;
                stage = tt;
              })
              (λ j d other there. let o = r.each j d there in let aside : r.keeper n ≢ j = λ q. other (sym q ∙ nums.1) in record {
                same = o.same;
                history = prefix_more d.history r.log (el ∷ []) o.history;
                other_history = prefix_more d.other_history r.log (el ∷ []) o.other_history;
                number = number_gave r.log r.seats r.keeper r.drawn j n e d.history d.stage d.number aside o.number;
                joins = joins_served r.seats j n r.keeper r.log e d.joins (others_kept r.seats j n r.keeper r.log d.joins aside o.joins) o.joins;
                distinct = o.distinct;
                known_seats = o.known_seats;
                stage = stage_gave r.log r.tickets r.owner id j n e d.history d.stage owns other (subst (λ (h : maybe.Option ℕ). StageFits r.log r.tickets r.owner h j d.history d.stage) mine.3 o.stage);
              });
        },
        (λ n' x' is put. let one : n' ≡ n = cc (is, num) in let two : x ≡ x' = ap (value_or x) put in
            (e, subst (λ (z : S). stands z (marks v.history ++ e ∷ [])) two st, (let Q : ℕ → SeatState S E F = λ k. (record v { history = v.history ++ element k e ∷ []; stage = Rests }, []) in ap Q (sym one)))),
      ) in
      subst P (sym r.is) body at in
      subst W (sym slot) there

module _ {S E F : Type 0} (stands : S → List (Option E) → Type 0) (fixed_of : S → F) where
  -- the slot holds the value x
  pub taken : (now after : SeatState S E F) (t : ℕ) (x : S) (o : Option S) → BeginsTurn stands fixed_of now after t x → after.1 ≡ (0, o) ∷ rest after.1 → o ≡ Some x
  taken now after t x o b e = sym (ap (slot_or (Some x)) (sym b.slots ∙ e))

  pub begun : (old now after new : SeatState S E F) (t : ℕ) (x r : S) (o : Option S) → o ≡ Some r → now ≡ old → old.1 ≡ [] → BeginsTurn stands fixed_of now after t x → after.1 ≡ (0, o) ∷ rest after.1
      → new ≡ (after.0, (0, None) ∷ rest after.1) → (new.1 ≡ (0, None) ∷ []) × BeginsTurn stands fixed_of old (new.0, (0, Some r) ∷ []) t r
  begun old now after new t x r o some_r same bare b had is =
      let e : after.1 ≡ (0, Some r) ∷ rest after.1 = had ∙ ap (λ (z : Option S). (0, z) ∷ rest after.1) some_r in
      let one : x ≡ r = ap (value_or x) (sym b.slots ∙ e) in
      let none_left : rest after.1 ≡ [] = ap rest b.slots ∙ (ap (λ (m : SeatState S E F). m.1) same ∙ bare) in
      let slots : after.1 ≡ (0, Some r) ∷ [] = e ∙ ap (λ (l : List (ℕ × Option S)). (0, Some r) ∷ l) none_left in
      let first : BeginsTurn stands fixed_of old after t x = subst (λ (m : SeatState S E F). BeginsTurn stands fixed_of m after t x) same b in
      let second : BeginsTurn stands fixed_of old after t r = subst (λ (z : S). BeginsTurn stands fixed_of old after t z) one first in
      let third : BeginsTurn stands fixed_of old (after.0, (0, Some r) ∷ []) t r = subst (λ (l : List (ℕ × Option S)). BeginsTurn stands fixed_of old (after.0, l) t r) slots second in (
        ap (λ (m : SeatState S E F). m.1) is ∙ ap (λ (l : List (ℕ × Option S)). (0, None) ∷ l) none_left,
        subst (λ (v : View E F). BeginsTurn stands fixed_of old (v, (0, Some r) ∷ []) t r) (sym (ap (λ (m : SeatState S E F). m.0) is)) third,
      )

  -- the value was put back, and stands for the mark e more
  pub finished : ((x : S) (h : List (Option E)) (d e : Option E) → stands x (h ++ d ∷ []) → stands x (h ++ e ∷ []) → d ≡ e)
      → (old now new : SeatState S E F) (x : S) → now ≡ (old.0, (0, Some x) ∷ rest old.1) → old.1 ≡ (0, None) ∷ [] → EndsTurn stands fixed_of now new
      → (n : ℕ) (e : Option E) → old.0.number ≡ Some n → stands x (marks old.0.history ++ e ∷ []) → new ≡ (after_turn old.0 n e, [])
  finished last old now new x is empty told n e num ok =
      let bare : now ≡ (old.0, (0, Some x) ∷ []) = is ∙ ap (λ (l : List (ℕ × Option S)). (old.0, (0, Some x) ∷ rest l)) empty in
      let told' : EndsTurn stands fixed_of (old.0, (0, Some x) ∷ []) new = subst (λ (m : SeatState S E F). EndsTurn stands fixed_of m new) bare told in
      let got = told' n x num refl in
      let one : got.0 ≡ e = last x (marks old.0.history) got.0 e got.1 ok in
      got.2 ∙ ap (λ (d : Option E). let w : SeatState S E F = (after_turn old.0 n d, []) in w) one

  -- after the work, the value can be put back
  pub acted : (relates : F → List (Option E) → Option E → Type 0) (p0 p1 p2 : SeatState S E F) (n t : ℕ) (x y : S) (f : F) → p1 ≡ (record p0.0 { stage = Waits t }, p0.1)
      → BeginsTurn stands fixed_of p1 (p2.0, (0, Some x) ∷ []) t x → p0.0.number ≡ Some n → p0.0.fixed ≡ Some f
      → ((h : List (Option E)) → stands x h → (e : Option E) × stands y (h ++ e ∷ []) × (fixed_of y ≡ fixed_of x) × relates (fixed_of x) h e)
      → (p2.0.stage ≡ Acts t) × (t < 562949953421312) × ((m : ℕ) × (e : Option E) × (p2.0.number ≡ Some m) × stands y (marks p2.0.history ++ e ∷ []) × (p2.0.fixed ≡ Some (fixed_of y)))
  acted relates p0 p1 p2 n t x y f drawn b num fix act =
      let q : SeatState S E F = (record p0.0 { stage = Waits t }, p0.1) in
      let b' : BeginsTurn stands fixed_of q (p2.0, (0, Some x) ∷ []) t x = subst (λ (m : SeatState S E F). BeginsTurn stands fixed_of m (p2.0, (0, Some x) ∷ []) t x) drawn b in
      let a = act (marks p2.0.history) b'.stands_for in
      let same : fixed_of y ≡ f = a.2 ∙ b'.fixed f fix in (
        ap (λ (v : View E F). v.stage) b'.view,
        b'.long.1,
        (n, a.0, ap (λ (v : View E F). v.number) b'.view ∙ num, a.1, ap (λ (v : View E F). v.fixed) b'.view ∙ (fix ∙ ap (λ (z : F). Some z) (sym same))),
      )

  pub turned : (relates : F → List (Option E) → Option E → Type 0) (p0 p1 p2 p3 : SeatState S E F) (n t : ℕ) (x y : S) (f : F) → p1 ≡ (record p0.0 { stage = Waits t }, p0.1)
      → BeginsTurn stands fixed_of p1 (p2.0, (0, Some x) ∷ []) t x → p0.0.number ≡ Some n → p0.0.fixed ≡ Some f
      → ((h : List (Option E)) → stands x h → (e : Option E) × stands y (h ++ e ∷ []) × (fixed_of y ≡ fixed_of x) × relates (fixed_of x) h e)
      → ((m : ℕ) (e : Option E) → p2.0.number ≡ Some m → stands y (marks p2.0.history ++ e ∷ []) → p3 ≡ (after_turn p2.0 m e, []))
      → IsTurn n p0.0 p3.0 relates × (p3.1 ≡ []) × (p3.0.stage ≡ Rests) × (p3.0.number ≡ Some n) × (length (own n p3.0.history) ≡ length (own n p0.0.history) + 1)
  turned relates p0 p1 p2 p3 n t x y f drawn b num fix act done =
      let q : SeatState S E F = (record p0.0 { stage = Waits t }, p0.1) in
      let b' : BeginsTurn stands fixed_of q (p2.0, (0, Some x) ∷ []) t x = subst (λ (m : SeatState S E F). BeginsTurn stands fixed_of m (p2.0, (0, Some x) ∷ []) t x) drawn b in
      let a = act (marks p2.0.history) b'.stands_for in
      let num2 : p2.0.number ≡ Some n = ap (λ (v : View E F). v.number) b'.view ∙ num in
      let end = done n a.0 num2 a.1 in
      let w : View E F = after_turn p2.0 n a.0 in
      let same : fixed_of x ≡ f = b'.fixed f fix in
      let kept2 : p2.0.joins ≡ p0.0.joins = ap (λ (v : View E F). v.joins) b'.view in
      let own_is : own n p2.0.history ≡ own n p0.0.history = b'.own_same n num in
      let apart : AreDistinct (n ∷ map (λ (p : ℕ × List (Option E)). p.0) p0.0.joins) = subst (λ (o : Option ℕ). AreDistinct (numbers_of o p0.0.joins)) num b'.distinct in
      let tells : IsTurn n p0.0 w relates = record {
        before = p2.0.history;
        mark = a.0;
        later = b'.later;
        own_same = own_is;
        history = refl;
        fixed = f;
        fixed_is = (fix, ap (λ (v : View E F). v.fixed) b'.view ∙ fix);
        related = subst (λ (z : F). relates z (marks p2.0.history) a.0) same a.3;
        joins = kept2;
        joins_same = subst (Keeps (p2.0.history ++ element n a.0 ∷ [])) (sym kept2) (keeps_more n p2.0.history a.0 p0.0.joins (each_names (λ m. m ≢ n) p0.0.joins apart.0) b'.joins_same);
        distinct = subst (λ (k : List (ℕ × List (Option E))). AreDistinct (n ∷ map (λ (p : ℕ × List (Option E)). p.0) k)) (sym kept2) apart;
        known_seats = ap (λ (v : View E F). v.known_seats) b'.view;
      } in
      let all : IsTurn n p0.0 w relates × (w.stage ≡ Rests) × (w.number ≡ Some n) × (length (own n w.history) ≡ length (own n p0.0.history) + 1)
      = (tells, refl, num2, (let h = ap length (own_here n p2.0.history a.0) in let k = ap length own_is in omega (arith, length-append (own n p2.0.history) (a.0 ∷ [])))) in
      let moved = subst (λ (v : View E F). IsTurn n p0.0 v relates × (v.stage ≡ Rests) × (v.number ≡ Some n) × (length (own n v.history) ≡ length (own n p0.0.history) + 1)) (sym (ap (λ (m : SeatState S E F). m.0) end)) all in
      (moved.0, ap (λ (m : SeatState S E F). m.1) end, moved.1, moved.2, moved.3)

pub some_of : {A : Type 0} (o : Option A) → o ≢ None → (a : A) × (o ≡ Some a)
some_of None lacks = absurd (lacks refl)
some_of (Some a) lacks = (a, refl)
