-- The steps that split, number, join and close keep the rule of the lock.
use Rattle.std.proofs.Common.{◌≡◌, ◌≢◌, ℕ, zero, suc, ◌+◌, ◌<◌, ◌≤◌, ◌==◌, List, [], ◌∷◌, ◌++◌, map, length, get_or, set, refl, ap, sym, ◌∙◌, subst, ⊎_elim, arith, Option, Some, None}
use mathlib.Core.List.{IsPrefix, map-append}
use mathlib.Core.Logic.{dite}
use mathlib.Core.Option.{none, some, some-ne-none, some-injective}
use native.Mathlib.Decide.{ℕ_discrete}
use lib.ListN.{get_elem?}
use prog.Atomic.{either}
use Rattle.atomic_table.specs.Table.{State, step, Act, keeps, stepped, Valid, carried_after, Allows, Splits, Joins, opening, Seen, Final}
use Rattle.atomic_table.proofs.Lists.{set_else, set_again, at_snoc, at_longer, exchanged}
use Rattle.wx_turn.specs.declared.view.Element.{Element}
use Rattle.wx_turn.specs.declared.view.View.{View}
use Rattle.wx_turn.specs.declared.view.Stage.{Stage}
use Rattle.wx_turn.specs.declared.view.Stage.TheVariants.{Rests, Waits, Closes}
use Rattle.wx_turn.specs.History.{marks, own}
use Rattle.std.specs.List.{AllByRecursion, Contains}
use Rattle.wx_turn.specs.Turns.{AreDistinct, with_joined, unnumbered_view, first_view, IsJoin, IsWholeHistory}
use Rattle.wx_turn.specs.Rule.{ticket_count, numbers_of, numbers, HasTicket, StageFits, NumberFits, JoinsFit, ViewFits, LockRule}
use Rattle.wx_turn.specs.History.{Keeps}
use Rattle.wx_turn.specs.Steps.{holdings_of, holdings, joined_view, spent_view, SeatState, SeesAll, Numbers, Learns, Counts, LooksLast}
use Rattle.wx_turn.proofs.Histories.{put, put_here, put_else, moved, moved_hit, moved_miss, prefix_self, each_map, each_append, own_none, made_below, distinct_append, each_apart}
use Rattle.wx_turn.proofs.Numbers.{contains_each}
use Rattle.wx_turn.proofs.TurnSteps.{seats_stay, numbered, staged, still_in_use, still_live, same_views, none_served, joins_keeps}

module _ {E : Type 0} (log : List (Element E)) where
  -- the number w2 went to the seat `me`
  number_wider : (seats : ℕ) (keeper drawn : ℕ → ℕ) (me j : ℕ) (history : List (Element E)) (stage : Stage) (o : Option ℕ) → NumberFits log seats keeper drawn j history stage o → NumberFits log (suc seats) (put keeper seats me) drawn j history stage o
  number_wider seats keeper drawn me j history stage None ok = ok
  number_wider seats keeper drawn me j history stage (Some n) ok = let lt = ok.0 in (omega arith, put_else keeper seats me n (λ e. omega arith) ∙ ok.1, ok.2, ok.3)

  joins_wider : (seats : ℕ) (keeper : ℕ → ℕ) (me j : ℕ) (joins : List (ℕ × List (Option E))) → JoinsFit log seats keeper j joins → JoinsFit log (suc seats) (put keeper seats me) j joins
  joins_wider seats keeper me j [] ok = tt
  joins_wider seats keeper me j (p ∷ ps) ok = ((let lt = ok.0.0 in omega arith, (let lt = ok.0.0 in put_else keeper seats me p.0 (λ e. omega arith) ∙ ok.0.1), ok.0.2), joins_wider seats keeper me j ps ok.1)

  -- the numbers of the seat `from` went to the seat `to`
  number_moved : (seats : ℕ) (keeper drawn : ℕ → ℕ) (from to j : ℕ) (history : List (Element E)) (stage : Stage) (o : Option ℕ) → j ≢ from → NumberFits log seats keeper drawn j history stage o → NumberFits log seats (moved keeper from to) drawn j history stage o
  number_moved seats keeper drawn from to j history stage None other ok = ok
  number_moved seats keeper drawn from to j history stage (Some n) other ok = (ok.0, moved_miss keeper from to n (λ e. other (sym ok.1 ∙ e)) ∙ ok.1, ok.2, ok.3)

  joins_moved : (seats : ℕ) (keeper : ℕ → ℕ) (from to j : ℕ) (joins : List (ℕ × List (Option E))) → j ≢ from → JoinsFit log seats keeper j joins → JoinsFit log seats (moved keeper from to) j joins
  joins_moved seats keeper from to j [] other ok = tt
  joins_moved seats keeper from to j (p ∷ ps) other ok = ((ok.0.0, moved_miss keeper from to p.0 (λ e. other (sym ok.0.1 ∙ e)) ∙ ok.0.1, ok.0.2), joins_moved seats keeper from to j ps other ok.1)

  joins_taken : (seats : ℕ) (keeper : ℕ → ℕ) (from to : ℕ) (joins : List (ℕ × List (Option E))) → JoinsFit log seats keeper from joins → JoinsFit log seats (moved keeper from to) to joins
  joins_taken seats keeper from to [] ok = tt
  joins_taken seats keeper from to (p ∷ ps) ok = ((ok.0.0, moved_hit keeper from to p.0 ok.0.1, ok.0.2), joins_taken seats keeper from to ps ok.1)

  holdings_taken : (seats : ℕ) (keeper drawn : ℕ → ℕ) (from to : ℕ) (history : List (Element E)) (stage : Stage) (o : Option ℕ) (joins : List (ℕ × List (Option E))) → NumberFits log seats keeper drawn from history stage o → JoinsFit log seats keeper from joins
      → JoinsFit log seats (moved keeper from to) to (holdings_of o history joins)
  holdings_taken seats keeper drawn from to history stage None joins ok k = joins_taken seats keeper from to joins k
  holdings_taken seats keeper drawn from to history stage (Some n) joins ok k = ((ok.0, moved_hit keeper from to n ok.1, ok.2), joins_taken seats keeper from to joins k)

  names_kept : (seats : ℕ) (keeper : ℕ → ℕ) (i : ℕ) (joins : List (ℕ × List (Option E))) → JoinsFit log seats keeper i joins → AllByRecursion (λ n. (n < seats) × (keeper n ≡ i)) (map (λ p. p.0) joins)
  names_kept seats keeper i [] k = tt
  names_kept seats keeper i (p ∷ ps) k = ((k.0.0, k.0.1), names_kept seats keeper i ps k.1)

  -- the seat i has each of its numbers
  pub numbers_kept : (seats : ℕ) (keeper drawn : ℕ → ℕ) (i : ℕ) (history : List (Element E)) (stage : Stage) (o : Option ℕ) (joins : List (ℕ × List (Option E))) → NumberFits log seats keeper drawn i history stage o → JoinsFit log seats keeper i joins
      → AllByRecursion (λ n. (n < seats) × (keeper n ≡ i)) (numbers_of o joins)
  numbers_kept seats keeper drawn i history stage None joins ok k = names_kept seats keeper i joins k
  numbers_kept seats keeper drawn i history stage (Some n) joins ok k = ((ok.0, ok.1), names_kept seats keeper i joins k)

  number_closed : (seats : ℕ) (keeper drawn : ℕ → ℕ) (j t : ℕ) (history : List (Element E)) (o : Option ℕ) → NumberFits log seats keeper drawn j history (Waits t) o → NumberFits log seats keeper drawn j log (Closes t) o
  number_closed seats keeper drawn j t history None ok = absurd cc
  number_closed seats keeper drawn j t history (Some n) ok = (ok.0, ok.1, refl, ok.3 ∙ ap (λ (l : List (Option E)). length l + 1) (sym ok.2))

  -- a seat with a number has seen all
  pub number_learned : (seats : ℕ) (keeper drawn : ℕ → ℕ) (j : ℕ) (history : List (Element E)) (stage : Stage) (o : Option ℕ) → NumberFits log seats keeper drawn j history stage o → NumberFits log seats keeper drawn j log stage o
  number_learned seats keeper drawn j history stage None ok = ok
  number_learned seats keeper drawn j history stage (Some n) ok = (ok.0, ok.1, refl, ok.3 ∙ ap (λ (l : List (Option E)). length l + ticket_count stage) (sym ok.2))

module _ {E : Type 0} where
  names_holdings : (o : Option ℕ) (history : List (Element E)) (joins : List (ℕ × List (Option E))) → map (λ p. p.0) (holdings_of o history joins) ≡ numbers_of o joins
  names_holdings None history joins = refl
  names_holdings (Some n) history joins = refl

  numbers_append : (o : Option ℕ) (xs ys : List (ℕ × List (Option E))) → numbers_of o (xs ++ ys) ≡ numbers_of o xs ++ map (λ p. p.0) ys
  numbers_append None xs ys = map-append (λ p. p.0) xs ys
  numbers_append (Some n) xs ys = ap (λ zs. n ∷ zs) (map-append (λ p. p.0) xs ys)

module _ {S E F : Type 0} (stands : S → List (Option E) → Type 0) (fixed_of : S → F) (fixed : F) where
  pub split_keeps : (id : ℕ) (v : View E F) → Splits (LockRule stands fixed_of fixed) id v v (unnumbered_view v)
  split_keeps id v s r at =
      let P : State (Option S) (View E F) → Type 0 = λ s. get_elem? s.views id ≡ some v → LockRule stands fixed_of fixed (record { words = s.words; homes = s.homes; views = set s.views id v ++ unnumbered_view v ∷ [] }) in
      let body : P (record { words = r.tickets ∷ length r.log ∷ r.seats ∷ []; homes = r.home ∷ []; views = r.views }) = λ here.
      let ok = r.each id v here in
      let fresh_seat : (j : ℕ) → ViewFits fixed r.log r.tickets r.seats r.owner r.keeper r.drawn r.acting j (unnumbered_view v) = λ j. record { same = ok.same; history = ok.history; other_history = (r.log, refl); number = refl; joins = tt; distinct = tt; stage = tt; known_seats = ok.known_seats } in
      let all : LockRule stands fixed_of fixed (record { words = r.tickets ∷ length r.log ∷ r.seats ∷ []; homes = r.home ∷ []; views = r.views ++ unnumbered_view v ∷ [] }) = record {
        log = r.log;
        tickets = r.tickets;
        seats = r.seats;
        home = r.home;
        views = r.views ++ unnumbered_view v ∷ [];
        owner = r.owner;
        keeper = r.keeper;
        drawn = r.drawn;
        acting = r.acting;
        is = refl;
        seat_limit = r.seat_limit;
        ticket_sum = r.ticket_sum;
        few = r.few;
        fresh = r.fresh;
        turns = r.turns;
        at_home = r.at_home;
        in_use = λ i h. let u = r.in_use i h in (u.0, (u.1.0, at_longer r.views (unnumbered_view v ∷ []) i u.1.0 u.1.1, u.1.2));
        live = λ t le lt. let u = r.live t le lt in (u.0, at_longer r.views (unnumbered_view v ∷ []) (r.owner t) u.0 u.1, u.2);
        each = λ j d there. ⊎_elim (λ (e : get_elem? r.views j ≡ some d). r.each j d e)
            (λ (e : unnumbered_view v ≡ d). subst (ViewFits fixed r.log r.tickets r.seats r.owner r.keeper r.drawn r.acting j) e (fresh_seat j)) (at_snoc r.views (unnumbered_view v) d j there);
      } in
      subst (λ (vs : List (View E F)). LockRule stands fixed_of fixed (record { words = r.tickets ∷ length r.log ∷ r.seats ∷ []; homes = r.home ∷ []; views = vs ++ unnumbered_view v ∷ [] })) (sym (set_again r.views id v here)) all in
      subst P (sym r.is) body at

  pub number_keeps : (slots id : ℕ) (me : SeatState S E F) (old new : ℕ) → me.0.number ≡ None → me.0.joins ≡ [] → me.0.stage ≡ Rests → old < 4294967296 → new ≡ old + 1
      → Allows (LockRule stands fixed_of fixed) slots id me 2 (λ n. either (n == old) new n) (Numbers stands fixed_of (step slots 2 old new none) me)
  number_keeps slots id me old new none_yet bare rests small next s r deep at lt =
      let v : View E F = me.0 in
      let P : State (Option S) (View E F) → Type 0 = λ s. get_elem? s.views id ≡ some v
      → (w : View E F) × (a : Act (Option S)) × Valid s.homes me.1 a × LockRule stands fixed_of fixed (stepped s 2 (either (get_or s.words 2 0 == old) new (get_or s.words 2 0)) id me.1 w a)
      × Numbers stands fixed_of (step slots 2 old new none) me (get_or s.words 2 0) (w, carried_after me.1 a) in
      let body : P (record { words = r.tickets ∷ length r.log ∷ r.seats ∷ []; homes = r.home ∷ []; views = r.views }) = λ here.
      let c : State (Option S) (View E F) = record { words = r.tickets ∷ length r.log ∷ r.seats ∷ []; homes = r.home ∷ []; views = r.views } in
      let G : ℕ → Type 0 = λ k. (w : View E F) × (a : Act (Option S)) × Valid c.homes me.1 a × LockRule stands fixed_of fixed (stepped c 2 k id me.1 w a)
      × Numbers stands fixed_of (step slots 2 old new none) me r.seats (w, carried_after me.1 a) in
      let hit : r.seats ≡ old → G new = λ e.
      let ok = r.each id v here in
      let w : View E F = record v { number = Some r.seats } in
      let f = r.fresh r.seats (omega arith) in
      let mine_none : own r.seats v.history ≡ [] = own_none r.seats v.history r.log ok.history f.1 in
      let wide : new ≡ suc r.seats = omega arith in (
        w,
        keeps,
        tt,
        record {
          log = r.log;
          tickets = r.tickets;
          seats = suc r.seats;
          home = r.home;
          views = set r.views id w;
          owner = r.owner;
          keeper = put r.keeper r.seats id;
          drawn = r.drawn;
          acting = r.acting;
          is = λ i. record { words = r.tickets ∷ length r.log ∷ wide i ∷ []; homes = r.home ∷ []; views = set r.views id w };
          seat_limit = omega arith;
          ticket_sum = let t = r.ticket_sum in let z = f.0 in omega arith;
          few = r.few;
          fresh = λ n le. r.fresh n (omega arith);
          turns = r.turns;
          at_home = r.at_home;
          in_use = still_in_use stands fixed_of fixed r.views r.acting r.owner (length r.log) id v w Rests here rests (λ odd. cc) r.in_use;
          live = still_live stands fixed_of fixed r.views r.owner (length r.log) (length r.log) r.tickets id v w (omega arith) here (λ k _ has. has) r.live;
          each = seats_stay (ViewFits fixed r.log r.tickets (suc r.seats) r.owner (put r.keeper r.seats id) r.drawn r.acting) r.views id w
              (record {
                same = ok.same;
                history = ok.history;
                other_history = ok.other_history;
                number = (omega arith, put_here r.keeper r.seats id, f.1 ∙ sym mine_none, f.0 ∙ sym (ap (λ (x : List (Option E) × Stage). length x.0 + ticket_count x.1) (λ i. (mine_none i, rests i))));
                joins = joins_wider r.log r.seats r.keeper id id v.joins ok.joins;
                distinct = (subst (λ (k : List (ℕ × List (Option E))). AllByRecursion (λ m. m ≢ r.seats) (map (λ (p : ℕ × List (Option E)). p.0) k) × AreDistinct (map (λ (p : ℕ × List (Option E)). p.0) k)) (sym bare) (tt, tt));
                stage = ok.stage;
                known_seats = (let q = ok.known_seats in omega arith);
              })
              (λ j d other there. let o = r.each j d there in record {
                same = o.same;
                history = o.history;
                other_history = o.other_history;
                number = number_wider r.log r.seats r.keeper r.drawn id j d.history d.stage d.number o.number;
                joins = joins_wider r.log r.seats r.keeper id j d.joins o.joins;
                distinct = o.distinct;
                known_seats = (let q = o.known_seats in omega arith);
                stage = o.stage;
              });
        },
        ((λ _. (refl, mine_none)), (λ odd. absurd (odd e))),
      ) in
      exchanged r.seats old new G hit (λ miss. (v, keeps, tt, same_views stands fixed_of fixed s r id v here, ((λ e. absurd (miss e)), (λ _. refl)))) in
      subst P (sym r.is) body at

  pub join_keeps : (id : ℕ) (v : View E F) (other : ℕ) (w : View E F) → v.stage ≡ Rests → w.stage ≡ Rests → Joins (LockRule stands fixed_of fixed) id v other w (joined_view v w) spent_view
  join_keeps id v other w rests rests2 s r at apart at2 =
      let P : State (Option S) (View E F) → Type 0 = λ s. get_elem? s.views id ≡ some v → get_elem? (set s.views id (joined_view v w)) other ≡ some w
      → LockRule stands fixed_of fixed (record { words = s.words; homes = s.homes; views = set (set s.views id (joined_view v w)) other spent_view }) in
      let body : P (record { words = r.tickets ∷ length r.log ∷ r.seats ∷ []; homes = r.home ∷ []; views = r.views }) = λ here there.
      let was : get_elem? r.views other ≡ some w = sym (set_else r.views id other (joined_view v w) apart) ∙ there in
      let ok = r.each id v here in
      let ok2 = r.each other w was in
      let keeper : ℕ → ℕ = moved r.keeper other id in
      let K : ℕ → View E F → Type 0 = ViewFits fixed r.log r.tickets r.seats r.owner keeper r.drawn r.acting in
      let back : id ≢ other = λ e. apart (sym e) in
      let mine = numbers_kept r.log r.seats r.keeper r.drawn id v.history v.stage v.number v.joins ok.number ok.joins in
      let theirs = numbers_kept r.log r.seats r.keeper r.drawn other w.history w.stage w.number w.joins ok2.number ok2.joins in
      let separate = each_apart r.keeper id other (numbers v) (numbers w) back
      (each_map (λ n. (n < r.seats) × (r.keeper n ≡ id)) (λ n. r.keeper n ≡ id) (numbers v) (λ n h. h.1) mine) (each_map (λ n. (n < r.seats) × (r.keeper n ≡ other)) (λ n. r.keeper n ≡ other) (numbers w) (λ n h. h.1) theirs) in
      record {
        log = r.log;
        tickets = r.tickets;
        seats = r.seats;
        home = r.home;
        views = set (set r.views id (joined_view v w)) other spent_view;
        owner = r.owner;
        keeper = keeper;
        drawn = r.drawn;
        acting = r.acting;
        is = refl;
        seat_limit = r.seat_limit;
        ticket_sum = r.ticket_sum;
        few = r.few;
        fresh = r.fresh;
        turns = r.turns;
        at_home = r.at_home;
        in_use = still_in_use stands fixed_of fixed (set r.views id (joined_view v w)) r.acting r.owner (length r.log) other w spent_view Rests there rests2 (λ odd. cc)
            (still_in_use stands fixed_of fixed r.views r.acting r.owner (length r.log) id v (joined_view v w) Rests here rests (λ odd. cc) r.in_use);
        live = still_live stands fixed_of fixed (set r.views id (joined_view v w)) r.owner (length r.log) (length r.log) r.tickets other w spent_view (omega arith) there (λ k _ has. subst (HasTicket k) rests2 has)
            (still_live stands fixed_of fixed r.views r.owner (length r.log) (length r.log) r.tickets id v (joined_view v w) (omega arith) here (λ k _ has. has) r.live);
        each = seats_stay K (set r.views id (joined_view v w)) other spent_view
            (record { same = λ f h. absurd cc; history = (r.log, refl); other_history = (r.log, refl); number = refl; joins = tt; distinct = tt; stage = tt; known_seats = omega arith })
            (λ j d not_other set_there. seats_stay (λ j d. j ≢ other → K j d) r.views id (joined_view v w)
            (λ _. record {
              same = ok.same;
              history = ok.history;
              other_history = ok2.history;
              number = number_moved r.log r.seats r.keeper r.drawn other id id v.history v.stage v.number back ok.number;
              joins = each_append (λ (p : ℕ × List (Option E)). (p.0 < r.seats) × (keeper p.0 ≡ id) × (own p.0 r.log ≡ p.1)) v.joins (holdings w) (joins_moved r.log r.seats r.keeper other id id v.joins back ok.joins)
                  (holdings_taken r.log r.seats r.keeper r.drawn other id w.history w.stage w.number w.joins ok2.number ok2.joins);
              distinct = subst AreDistinct (sym (numbers_append v.number v.joins (holdings w) ∙ ap (λ ns. numbers v ++ ns) (names_holdings w.number w.history w.joins)))
                  (distinct_append (numbers v) (numbers w) ok.distinct ok2.distinct separate);
              known_seats = ok.known_seats;
              stage = ok.stage;
            })
            (λ j d other2 there2 not_other. let o = r.each j d there2 in record {
              same = o.same;
              history = o.history;
              other_history = o.other_history;
              number = number_moved r.log r.seats r.keeper r.drawn other id j d.history d.stage d.number not_other o.number;
              joins = joins_moved r.log r.seats r.keeper other id j d.joins not_other o.joins;
              distinct = o.distinct;
              known_seats = o.known_seats;
              stage = o.stage;
            })
            j d set_there not_other);
      } in
      subst P (sym r.is) body at at2

  pub learn_keeps : (slots id : ℕ) (me : SeatState S E F) → me.0.stage ≡ Rests → Allows (LockRule stands fixed_of fixed) slots id me 1 (λ k. k) (Learns stands fixed_of (step slots 1 0 0 none) me)
  learn_keeps slots id me rests s r deep at lt =
      let v : View E F = me.0 in
      let P : State (Option S) (View E F) → Type 0 = λ s. get_elem? s.views id ≡ some v
      → (w : View E F) × (a : Act (Option S)) × Valid s.homes me.1 a × LockRule stands fixed_of fixed (stepped s 1 (get_or s.words 1 0) id me.1 w a)
      × Learns stands fixed_of (step slots 1 0 0 none) me (get_or s.words 1 0) (w, carried_after me.1 a) in
      let body : P (record { words = r.tickets ∷ length r.log ∷ r.seats ∷ []; homes = r.home ∷ []; views = r.views }) = λ here.
      let ok = r.each id v here in
      let w : View E F = record v { history = r.log; other_history = [] } in (
        w,
        keeps,
        tt,
        record {
          log = r.log;
          tickets = r.tickets;
          seats = r.seats;
          home = r.home;
          views = set r.views id w;
          owner = r.owner;
          keeper = r.keeper;
          drawn = r.drawn;
          acting = r.acting;
          is = refl;
          seat_limit = r.seat_limit;
          ticket_sum = r.ticket_sum;
          few = r.few;
          fresh = r.fresh;
          turns = r.turns;
          at_home = r.at_home;
          in_use = still_in_use stands fixed_of fixed r.views r.acting r.owner (length r.log) id v w Rests here rests (λ odd. cc) r.in_use;
          live = still_live stands fixed_of fixed r.views r.owner (length r.log) (length r.log) r.tickets id v w (omega arith) here (λ k _ has. has) r.live;
          each = seats_stay (ViewFits fixed r.log r.tickets r.seats r.owner r.keeper r.drawn r.acting) r.views id w
              (record {
                same = ok.same;
                history = prefix_self r.log;
                other_history = (r.log, refl);
                number = number_learned r.log r.seats r.keeper r.drawn id v.history v.stage v.number ok.number;
                joins = ok.joins;
                distinct = ok.distinct;
                known_seats = ok.known_seats;
                stage = subst (StageFits r.log r.tickets r.owner r.acting id r.log) (sym rests) tt;
              })
              (λ j d other there. r.each j d there);
        },
        (
          refl,
          record {
            view = refl;
            later = ok.history;
            other_later = ok.other_history;
            own_same = λ n h. let m = numbered stands fixed_of fixed s r id v n Rests here h rests in m.2;
            joins_same = joins_keeps stands fixed_of fixed r.seats id r.keeper r.log v.joins ok.joins;
            distinct = ok.distinct;
          },
        ),
      ) in
      subst P (sym r.is) body at

  pub count_keeps : (slots id : ℕ) (me : SeatState S E F) → me.0.stage ≡ Rests → Allows (LockRule stands fixed_of fixed) slots id me 2 (λ k. k) (Counts stands fixed_of (step slots 2 0 0 none) me)
  count_keeps slots id me rests s r deep at lt =
      let v : View E F = me.0 in
      let P : State (Option S) (View E F) → Type 0 = λ s. get_elem? s.views id ≡ some v
      → (w : View E F) × (a : Act (Option S)) × Valid s.homes me.1 a × LockRule stands fixed_of fixed (stepped s 2 (get_or s.words 2 0) id me.1 w a)
      × Counts stands fixed_of (step slots 2 0 0 none) me (get_or s.words 2 0) (w, carried_after me.1 a) in
      let body : P (record { words = r.tickets ∷ length r.log ∷ r.seats ∷ []; homes = r.home ∷ []; views = r.views }) = λ here.
      let ok = r.each id v here in
      let w : View E F = record v { known_seats = r.seats } in (
        w,
        keeps,
        tt,
        record {
          log = r.log;
          tickets = r.tickets;
          seats = r.seats;
          home = r.home;
          views = set r.views id w;
          owner = r.owner;
          keeper = r.keeper;
          drawn = r.drawn;
          acting = r.acting;
          is = refl;
          seat_limit = r.seat_limit;
          ticket_sum = r.ticket_sum;
          few = r.few;
          fresh = r.fresh;
          turns = r.turns;
          at_home = r.at_home;
          in_use = still_in_use stands fixed_of fixed r.views r.acting r.owner (length r.log) id v w Rests here rests (λ odd. cc) r.in_use;
          live = still_live stands fixed_of fixed r.views r.owner (length r.log) (length r.log) r.tickets id v w (omega arith) here (λ k _ has. has) r.live;
          each = seats_stay (ViewFits fixed r.log r.tickets r.seats r.owner r.keeper r.drawn r.acting) r.views id w
              (record {
                same = ok.same;
                history = ok.history;
                other_history = ok.other_history;
                number = ok.number;
                joins = ok.joins;
                distinct = ok.distinct;
                known_seats = omega arith;
                stage = ok.stage;
              })
              (λ j d other there. r.each j d there);
        },
        (r.seat_limit, ok.known_seats, refl),
      ) in
      subst P (sym r.is) body at

  pub look_last_keeps : (slots id : ℕ) (me : SeatState S E F) (t : ℕ) → me.0.stage ≡ Waits t → Allows (LockRule stands fixed_of fixed) slots id me 1 (λ k. k) (LooksLast stands fixed_of (step slots 1 0 0 none) me)
  look_last_keeps slots id me t waits s r deep at lt =
      let v : View E F = me.0 in
      let P : State (Option S) (View E F) → Type 0 = λ s. get_elem? s.views id ≡ some v
      → (w : View E F) × (a : Act (Option S)) × Valid s.homes me.1 a × LockRule stands fixed_of fixed (stepped s 1 (get_or s.words 1 0) id me.1 w a)
      × LooksLast stands fixed_of (step slots 1 0 0 none) me (get_or s.words 1 0) (w, carried_after me.1 a) in
      let body : P (record { words = r.tickets ∷ length r.log ∷ r.seats ∷ []; homes = r.home ∷ []; views = r.views }) = λ here. dite (ℕ_discrete (length r.log) t)
      (λ e.
      let ok = r.each id v here in
      let mine = staged stands fixed_of fixed s r id v (Waits t) here waits in
      let w : View E F = record v { history = r.log; stage = Closes t } in (
        w,
        keeps,
        tt,
        record {
          log = r.log;
          tickets = r.tickets;
          seats = r.seats;
          home = r.home;
          views = set r.views id w;
          owner = r.owner;
          keeper = r.keeper;
          drawn = r.drawn;
          acting = r.acting;
          is = refl;
          seat_limit = r.seat_limit;
          ticket_sum = r.ticket_sum;
          few = r.few;
          fresh = r.fresh;
          turns = r.turns;
          at_home = r.at_home;
          in_use = still_in_use stands fixed_of fixed r.views r.acting r.owner (length r.log) id v w (Waits t) here waits (λ odd. cc) r.in_use;
          live = still_live stands fixed_of fixed r.views r.owner (length r.log) (length r.log) r.tickets id v w (omega arith) here (λ k _ has. subst (HasTicket k) waits has) r.live;
          each = seats_stay (ViewFits fixed r.log r.tickets r.seats r.owner r.keeper r.drawn r.acting) r.views id w
              (record {
                same = ok.same;
                history = prefix_self r.log;
                other_history = ok.other_history;
                number = number_closed r.log r.seats r.keeper r.drawn id t v.history v.number (subst (λ (z : Stage). NumberFits r.log r.seats r.keeper r.drawn id v.history z v.number) waits ok.number);
                joins = ok.joins;
                distinct = ok.distinct;
                known_seats = ok.known_seats;
                stage = (mine.0, sym e, mine.2, refl);
              })
              (λ j d other there. r.each j d there);
        },
        (λ t' is. let one : t' ≡ t = cc (is, waits) in (
          (λ found. (
            (let q : Stage → SeatState S E F = λ g. (record v { history = r.log; stage = g }, me.1) in ap (λ (k : ℕ). q (Closes k)) (sym one)),
            ok.history,
            λ n h. let m = numbered stands fixed_of fixed s r id v n (Waits t) here h waits in m.2,
          )),
          (λ miss. absurd (miss (e ∙ sym one))),
        )),
      ))
      (λ miss. (v, keeps, tt, same_views stands fixed_of fixed s r id v here, (λ t' is. let one : t' ≡ t = cc (is, waits) in ((λ found. absurd (miss (found ∙ one))), (λ _. refl))))) in
      subst P (sym r.is) body at

  -- what is known of the table once it is closed, by the seat that has the last ticket
  pub record ClosedFacts (count n : ℕ) (v : View E F) (slots : List (Option S)) : Type 0 where
    pub value : S
    pub there : get_elem? slots 0 ≡ some (Some value)
    pub stands_for : stands value (marks v.history)
    pub fixed_is : (f : F) → v.fixed ≡ Some f → fixed_of value ≡ f
    pub joins_same : Keeps v.history v.joins
    pub distinct : AreDistinct (n ∷ map (λ p. p.0) v.joins)
    pub below : AllByRecursion (λ m. m < count) (n ∷ map (λ p. p.0) v.joins)
    pub made : AllByRecursion (λ e. e.by < count) v.history
    pub few : count ≤ 4294967296
    pub known_seats : v.known_seats ≤ count

  pub closed_facts : (words : List ℕ) (slots : List (Option S)) (id : ℕ) (v : View E F) (n t count : ℕ) → v.stage ≡ Closes t → v.number ≡ Some n → get_elem? words 2 ≡ some count → Final (Seen (LockRule stands fixed_of fixed) id v) words slots → ClosedFacts count n v slots
  closed_facts words slots id v n t count closed num there end =
      let s = end.0 in
      let r = end.1.0 in
      let at = end.1.1 in
      let is = end.2 in
      let home = end.4 in
      let here : get_elem? r.views id ≡ some v = subst (λ (z : State (Option S) (View E F)). get_elem? z.views id ≡ some v) r.is at in
      let ok = r.each id v here in
      let mine = staged stands fixed_of fixed s r id v (Closes t) here closed in
      let free = none_served stands fixed_of fixed s r id t v (Closes t) here closed (λ odd. cc) mine.0 (sym mine.1) in
      let x = r.at_home free in
      let all : v.history ≡ r.log = mine.3 in
      let counted : get_elem? s.words 2 ≡ some r.seats = subst (λ (z : State (Option S) (View E F)). get_elem? z.words 2 ≡ some r.seats) (sym r.is) refl in
      let two : r.seats ≡ count = some-injective r.seats count (sym counted ∙ (ap (λ (ws : List ℕ). get_elem? ws 2) is ∙ there)) in
      let at_home : get_elem? s.homes 0 ≡ some (some (Some x.0)) = subst (λ (z : State (Option S) (View E F)). get_elem? z.homes 0 ≡ some (some (Some x.0))) (sym r.is) (ap some x.1) in
      let mine_all : AllByRecursion (λ m. m < r.seats) (numbers v) = each_map (λ m. (m < r.seats) × (r.keeper m ≡ id)) (λ m. m < r.seats) (numbers v) (λ m h. h.0) (numbers_kept r.log r.seats r.keeper r.drawn id v.history v.stage v.number v.joins ok.number ok.joins) in
      let made : AllByRecursion (λ (e : Element E). e.by < r.seats) r.log = made_below r.seats r.log (λ m le. let f = r.fresh m le in f.1) in
      record {
        value = x.0;
        there = home 0 (Some x.0) at_home;
        stands_for = subst (λ (l : List (Element E)). stands x.0 (marks l)) (sym all) x.2;
        fixed_is = λ f h. x.3 ∙ sym (ok.same f h);
        joins_same = subst (λ (l : List (Element E)). Keeps l v.joins) (sym all) (joins_keeps stands fixed_of fixed r.seats id r.keeper r.log v.joins ok.joins);
        distinct = subst (λ (o : Option ℕ). AreDistinct (numbers_of o v.joins)) num ok.distinct;
        below = subst (λ (z : ℕ × Option ℕ). AllByRecursion (λ m. m < z.0) (numbers_of z.1 v.joins)) (λ i. (two i, num i)) mine_all;
        made = let two_all : (r.seats, r.log) ≡ (count, v.history) = cc (two, all) in subst (λ (z : ℕ × List (Element E)). AllByRecursion (λ (e : Element E). e.by < z.0) z.1) two_all made;
        few = let f = r.seat_limit in omega arith;
        known_seats = let f = ok.known_seats in omega arith;
      }

module _ {S E F : Type 0} (stands : S → List (Option E) → Type 0) (fixed_of : S → F) where
  starts : (f : F) (i : ℕ) (v : View E F) → get_elem? (first_view {E = E} f ∷ []) i ≡ some v → ViewFits f [] 0 1 (λ _. 0) (λ _. 0) (λ _. 0) none i v
  starts f zero v e =
      let is : first_view f ≡ v = some-injective (first_view f) v e in
      subst (ViewFits f [] 0 1 (λ _. 0) (λ _. 0) (λ _. 0) none 0) is (record {
        same = λ g h. sym (cc h);
        history = ([], refl);
        other_history = ([], refl);
        number = (omega arith, refl, refl, refl);
        joins = tt;
        distinct = (tt, tt);
        known_seats = omega arith;
        stage = tt;
      })
  starts f (suc i) v e = absurd (some-ne-none v (sym e))

  pub first_keeps : (x : S) → stands x [] → LockRule stands fixed_of (fixed_of x) (opening (0 ∷ 0 ∷ 1 ∷ []) (Some x ∷ []) (first_view (fixed_of x)))
  first_keeps x empty = record {
    log = [];
    tickets = 0;
    seats = 1;
    home = some (Some x);
    views = first_view (fixed_of x) ∷ [];
    owner = λ _. 0;
    keeper = λ _. 0;
    drawn = λ _. 0;
    acting = none;
    is = refl;
    seat_limit = omega arith;
    ticket_sum = refl;
    few = λ n. omega arith;
    fresh = λ n h. (refl, refl);
    turns = omega arith;
    at_home = λ _. (x, refl, empty, refl);
    in_use = λ i h. absurd (some-ne-none i (sym h));
    live = λ t le lt. absurd (omega arith);
    each = starts (fixed_of x);
  }

module _ {S E F : Type 0} (stands : S → List (Option E) → Type 0) (fixed_of : S → F) where
  pub joined : (v w : View E F) (now new : SeatState S E F) (n m : ℕ) → now ≡ (joined_view v w, []) → (new.1 ≡ now.1) × SeesAll now.0 new.0 → v.number ≡ Some n → w.number ≡ Some m
      → IsJoin n m v w new.0 × (new.1 ≡ []) × (new.0.stage ≡ v.stage) × (new.0.number ≡ v.number) × (new.0.fixed ≡ v.fixed)
  joined v w now new n m is told num num2 =
      let u : View E F = joined_view v w in
      let l : SeesAll u new.0 = subst (λ (z : SeatState S E F). SeesAll z.0 new.0) is told.1 in
      let taken : new.0.joins ≡ v.joins ++ (m, own m w.history) ∷ w.joins = ap (λ (z : View E F). z.joins) l.view ∙ ap (λ (o : Option ℕ). v.joins ++ holdings_of o w.history w.joins) num2 in
      let kept' : new.0.joins ≡ v.joins ++ holdings w = ap (λ (z : View E F). z.joins) l.view in (
        record {
          later = l.later;
          other_later = l.other_later;
          own_same = l.own_same n num;
          fixed = ap (λ (z : View E F). z.fixed) l.view;
          joins = taken;
          joins_same = subst (Keeps new.0.history) (sym kept') l.joins_same;
          distinct = subst (λ (x : Option ℕ × List (ℕ × List (Option E))). AreDistinct (numbers_of x.0 x.1)) (λ i. (num i, sym kept' i)) l.distinct;
          known_seats = ap (λ (z : View E F). z.known_seats) l.view;
        },
        told.0 ∙ ap (λ (z : SeatState S E F). z.1) is,
        ap (λ (z : View E F). z.stage) l.view,
        ap (λ (z : View E F). z.number) l.view,
        ap (λ (z : View E F). z.fixed) l.view,
      )

module _ {S E F : Type 0} where
  -- the same, said of the view before the loop
  pub lasts : (old now new : SeatState S E F) (t : ℕ) → now ≡ old → old.1 ≡ [] → (new ≡ (record now.0 { history = new.0.history; stage = Closes t }, now.1)) × IsPrefix now.0.history new.0.history × ((n : ℕ) → now.0.number ≡ Some n → own n new.0.history ≡ own n now.0.history)
      → (new ≡ (record old.0 { history = new.0.history; stage = Closes t }, [])) × IsPrefix old.0.history new.0.history × ((n : ℕ) → old.0.number ≡ Some n → own n new.0.history ≡ own n old.0.history)
  lasts old now new t same bare told =
      let q = subst (λ (z : SeatState S E F). (new ≡ (record z.0 { history = new.0.history; stage = Closes t }, z.1)) × IsPrefix z.0.history new.0.history × ((n : ℕ) → z.0.number ≡ Some n → own n new.0.history ≡ own n z.0.history)) same told in
      (q.0 ∙ (let G : List (ℕ × Option S) → SeatState S E F = λ l. (record old.0 { history = new.0.history; stage = Closes t }, l) in ap G bare), q.1, q.2)

module _ {S E F : Type 0} (stands : S → List (Option E) → Type 0) (fixed_of : S → F) (fixed : F) where
  -- the view once the last ticket is served
  pub last_view : (p0 p1 p2 : SeatState S E F) (n t : ℕ) → p1 ≡ (record p0.0 { stage = Waits t }, p0.1) → p2 ≡ (record p1.0 { history = p2.0.history; stage = Closes t }, []) → p0.0.number ≡ Some n → (p2.0.stage ≡ Closes t) × (p2.0.number ≡ Some n)
  last_view p0 p1 p2 n t drawn is num = (ap (λ (m : SeatState S E F). m.0.stage) is, ap (λ (m : SeatState S E F). m.0.number) is ∙ (ap (λ (m : SeatState S E F). m.0.number) drawn ∙ num))

  pub ended : (p0 p1 p2 : SeatState S E F) (n t count : ℕ) (f : F) (slots : List (Option S)) (x : S) → p1 ≡ (record p0.0 { stage = Waits t }, p0.1)
      → (p2 ≡ (record p1.0 { history = p2.0.history; stage = Closes t }, [])) × IsPrefix p1.0.history p2.0.history × ((m : ℕ) → p1.0.number ≡ Some m → own m p2.0.history ≡ own m p1.0.history)
      → p0.0.number ≡ Some n → p0.0.fixed ≡ Some f → ClosedFacts stands fixed_of fixed count n p2.0 slots → get_elem? slots 0 ≡ some (Some x)
      → (h : List (Element E)) × stands x (marks h) × (p0.0.fixed ≡ Some (fixed_of x)) × IsWholeHistory count n p0.0 h
  ended p0 p1 p2 n t count f slots x drawn is num fix shut at =
      let one : shut.value ≡ x = let two : Some shut.value ≡ Some x = some-injective (Some shut.value) (Some x) (sym shut.there ∙ at) in cc two in
      let fix2 : p2.0.fixed ≡ Some f = ap (λ (m : SeatState S E F). m.0.fixed) is.0 ∙ (ap (λ (m : SeatState S E F). m.0.fixed) drawn ∙ fix) in
      let same : fixed_of shut.value ≡ f = shut.fixed_is f fix2 in
      let kept2 : p2.0.joins ≡ p0.0.joins = ap (λ (m : SeatState S E F). m.0.joins) is.0 ∙ ap (λ (m : SeatState S E F). m.0.joins) drawn in
      let least2 : p2.0.known_seats ≡ p0.0.known_seats = ap (λ (m : SeatState S E F). m.0.known_seats) is.0 ∙ ap (λ (m : SeatState S E F). m.0.known_seats) drawn in
      let seen1 : p1.0.history ≡ p0.0.history = ap (λ (m : SeatState S E F). m.0.history) drawn in
      let num1 : p1.0.number ≡ Some n = ap (λ (m : SeatState S E F). m.0.number) drawn ∙ num in
      let distinct : AreDistinct (with_joined n p0.0.joins) = subst (λ (k : List (ℕ × List (Option E))). AreDistinct (with_joined n k)) kept2 shut.distinct in
      let below : AllByRecursion (λ m. m < count) (with_joined n p0.0.joins) = subst (λ (k : List (ℕ × List (Option E))). AllByRecursion (λ m. m < count) (with_joined n k)) kept2 shut.below in (
        p2.0.history,
        subst (λ (z : S). stands z (marks p2.0.history)) one shut.stands_for,
        fix ∙ ap (λ (z : F). Some z) (sym same ∙ ap fixed_of one),
        record {
          later = subst (λ (l : List (Element E)). IsPrefix l p2.0.history) seen1 is.1;
          own_same = is.2 n num1 ∙ ap (own n) seen1;
          joins_same = subst (Keeps p2.0.history) kept2 shut.joins_same;
          distinct = distinct;
          below = below;
          made_below = shut.made;
          made_by = λ long. each_map (λ (e : Element E). e.by < count) (λ (e : Element E). Contains (with_joined n p0.0.joins) e.by) p2.0.history
              (λ e lt. contains_each count e.by (with_joined n p0.0.joins) distinct below long lt) shut.made;
          seat_limit = shut.few;
          known_seats = subst (λ (k : ℕ). k ≤ count) least2 shut.known_seats;
        },
      )
