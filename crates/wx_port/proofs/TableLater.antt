-- What a change of one place of the slab does to the channels.
use Rattle.std.proofs.Common.{◌≡◌, ◌≢◌, ◌⊎◌, ℕ, suc, zero, is_some, inl, inr, ◌+◌, ◌<◌, List, [], ◌∷◌, ◌++◌, length, set, refl, ap, sym, ◌∙◌, Bool, true, false, cond, not, arith, subst, map, ⊎_elim, rules, filter}
use Rattle.std.specs.Prelude.{Option, Some, None, slice_get, IfSome, ◌&&◌, IsTrue, ◌==◌}
use Rattle.std.specs.Option.{option_map, IsSomeAnd}
use Rattle.std.proofs.lemmas.Option.{same_Some, none-some, slice_get-map}
use Rattle.std.proofs.lemmas.List.{map-set, map-append}
use Rattle.std.proofs.lemmas.Bool.{cases_eq, false≢true}
use Rattle.std.proofs.lemmas.Bool.Decides.{nat_tests}
use Rattle.slab.specs.Slab.{Slab, get, Updates}
use Rattle.wx_id.specs.declared.numbers.ContextNo.{ContextNo}
use Rattle.wx_id.specs.declared.events.End.TheVariants.{Opener}
use Rattle.wx_port.specs.declared.table.Row.{Row}
use Rattle.wx_port.specs.declared.table.Open.{Open}
use Rattle.wx_port.specs.Port.{Port, closed, opened, without, with_live, is_open_port, live_of}
use Rattle.wx_id.specs.Contexts.{same_context, is_other}
use Rattle.wx_id.proofs.ListLemmas.{set_here, set_there, set_is, set_same, set_twice, push_cases}
use Rattle.wx_port.specs.Table.{fewer, place_of, number_of, found, cleared, port_with, port_in, ports_of, IsTable}

pub map-same : {A B : Type 0} (f g : A → B) (xs : List A) → ((j : ℕ) (y : A) → slice_get xs j ≡ Some y → g y ≡ f y) → map g xs ≡ map f xs
map-same f g [] h = refl
map-same f g (y ∷ ys) h = rw (h 0 y refl) (ap (λ l. f y ∷ l) (map-same f g ys (λ j w at. h (suc j) w at)))

-- a list where only the element at k changes, under a function that changes only there
pub map-set_but : {A B : Type 0} (f g : A → B) (xs : List A) (k : ℕ) (x : A) → ((j : ℕ) (y : A) → j ≢ k → slice_get xs j ≡ Some y → g y ≡ f y) → map g (set xs k x) ≡ set (map f xs) k (g x)
map-set_but f g [] k x h = refl
map-set_but f g (y ∷ ys) zero x h = ap (λ l. g x ∷ l) (map-same f g ys (λ j z at. h (suc j) z (omega arith) at))
map-set_but f g (y ∷ ys) (suc k) x h =
    rw (h 0 y (omega arith) refl) (ap (λ l. f y ∷ l) (map-set_but f g ys k x (λ j z other at. h (suc j) z (omega (arith, other)) at)))

-- two open channels have two places
pub apart : (slab : Slab Open) (rows : List Row) (k j p q : ℕ) → IsTable slab rows → place_of (slice_get rows k) ≡ Some p → place_of (slice_get rows j) ≡ Some q → j ≢ k → q ≢ p
apart slab rows k j p q table at_k at_j other same =
    other (same_Some j k (sym (table.held j q at_j) ∙ ap (λ r. number_of (get slab r)) same ∙ table.held k p at_k))

-- another channel is found as before
pub elsewhere : (slab slab' : Slab Open) (rows : List Row) (k p : ℕ) (slot : Option Open) → IsTable slab rows → place_of (slice_get rows k) ≡ Some p → Updates slab slab' p slot → (j : ℕ) (row : Row) → j ≢ k → slice_get rows j ≡ Some row → port_in slab' row ≡ port_in slab row
elsewhere slab slab' rows k p slot table at updates j row other is = by row.place refl
  where
    by : (place : Option ℕ) → row.place ≡ place → port_in slab' row ≡ port_in slab row
    by None h = rw h refl
    by (Some q) h = rw h (ap (port_with row) (updates.others q (apart slab rows k j p q table at (rw is h) other)))

pub close_table : (slab slab' : Slab Open) (rows : List Row) (k p : ℕ) (slot : Option Open) (row : Row) → IsTable slab rows → place_of (slice_get rows k) ≡ Some p → Updates slab slab' p slot → row.place ≡ None → IsTable slab' (set rows k row)
close_table slab slab' rows k p slot row table at updates gone = record {
  held = λ j q h. ⊎_elim
      (λ (same : j ≡ k). own (slice_get (set rows k row) j) (λ y is. set_is rows k row y (rw same at is)) q h)
      (λ (other : j ≢ k).
      let before : place_of (slice_get rows j) ≡ Some q = rw (set_there rows k j row other) at h in
      ap number_of (updates.others q (apart slab rows k j p q table at before other)) ∙ table.held j q before)
      (cases_eq j k);
}
  where
    own : {X : Type 0} (o : Option Row) → ((y : Row) → o ≡ Some y → y ≡ row) → (q : ℕ) → place_of o ≡ Some q → X
    own None is q h = absurd (none-some q h)
    own (Some y) is q h = absurd (none-some q (sym gone ∙ ap (λ r. r.place) (sym (is y refl)) ∙ h))

pub close_ports : (slab slab' : Slab Open) (rows : List Row) (k p : ℕ) (slot : Option Open) (row : Row) → IsTable slab rows → place_of (slice_get rows k) ≡ Some p → Updates slab slab' p slot → ports_of slab' (set rows k row) ≡ set (ports_of slab rows) k (port_in slab' row)
close_ports slab slab' rows k p slot row table at updates =
    map-set_but (port_in slab) (port_in slab') rows k row (λ j y other is. elsewhere slab slab' rows k p slot table at updates j y other is)

-- what a place in the list of channels has
pub port_at : (slab : Slab Open) (rows : List Row) (k : ℕ) → slice_get (ports_of slab rows) k ≡ option_map (port_in slab) (slice_get rows k)
port_at slab rows k = slice_get-map (port_in slab) rows k

pub closing_lem : (slab slab' : Slab Open) (rows rows' : List Row) (k p : ℕ) → IsTable slab rows → place_of (slice_get rows k) ≡ Some p → Updates slab slab' p None → IfSome (slice_get rows k) (λ row. rows' ≡ set rows k (cleared row)) → IsTable slab' rows' × IfSome (slice_get (ports_of slab rows) k) (λ port. ports_of slab' rows' ≡ set (ports_of slab rows) k (closed port))
closing_lem slab slab' rows rows' k p table at updates is = rw (port_at slab rows k) (by (slice_get rows k) refl)
  where
    by : (o : Option Row) → slice_get rows k ≡ o → IsTable slab' rows' × IfSome (option_map (port_in slab) o) (λ port. ports_of slab' rows' ≡ set (ports_of slab rows) k (closed port))
    by None e = absurd (none-some p (rw e at at))
    by (Some row) e =
        let new : rows' ≡ set rows k (cleared row) = rw e at is in
        rw new (
          close_table slab slab' rows k p None (cleared row) table at updates refl,
          close_ports slab slab' rows k p None (cleared row) table at updates ∙ ap (λ q. set (ports_of slab rows) k q) (sym (same row (found slab row.place))),
        )
      where
        same : (row : Row) (o : Option Open) → closed (port_with row o) ≡ port_with row None
        same row None = refl
        same row (Some o) = refl

-- a channel is open exactly where it has a place
pub open_is : (slab : Slab Open) (rows : List Row) (k : ℕ) → IsTable slab rows → is_open_port (slice_get (ports_of slab rows) k) ≡ is_some (place_of (slice_get rows k))
open_is slab rows k table = rw (port_at slab rows k) (by (slice_get rows k) (λ p h. table.held k p h))
  where
    by : (o : Option Row) → ((p : ℕ) → place_of o ≡ Some p → number_of (get slab p) ≡ Some k) → is_open_port (option_map (port_in slab) o) ≡ is_some (place_of o)
    by None h = refl
    by (Some row) h = at row.place h
      where
        with_some : (o : Option Open) → number_of o ≡ Some k → is_open_port (Some (port_with row o)) ≡ true
        with_some None h = absurd (none-some k h)
        with_some (Some o) h = refl

        at : (place : Option ℕ) → ((p : ℕ) → place ≡ Some p → number_of (get slab p) ≡ Some k) → is_open_port (Some (port_with row (found slab place))) ≡ is_some place
        at None h = refl
        at (Some p) h = with_some (get slab p) (h p refl)

-- what has a place is a row
pub row_of : (o : Option Row) (q : ℕ) → place_of o ≡ Some q → (row : Row) × (o ≡ Some row) × (row.place ≡ Some q)
row_of None q h = absurd (none-some q h)
row_of (Some row) q h = (row, refl, h)

-- a vacant place is no channel's
pub not_vacant : (slab : Slab Open) (rows : List Row) (j p q : ℕ) → IsTable slab rows → get slab p ≡ None → place_of (slice_get rows j) ≡ Some q → q ≢ p
not_vacant slab rows j p q table vacant at same = none-some j (ap number_of (sym vacant) ∙ ap (λ r. number_of (get slab r)) (sym same) ∙ table.held j q at)

pub open_table : (slab slab' : Slab Open) (rows : List Row) (p : ℕ) (o : Open) (row : Row) → IsTable slab rows → get slab p ≡ None → Updates slab slab' p (Some o) → o.number ≡ length rows → row.place ≡ Some p → IsTable slab' (rows ++ row ∷ [])
open_table slab slab' rows p o row table vacant updates number place = record {
  held = λ j q h.
      let r = row_of (slice_get (rows ++ row ∷ []) j) q h in
      ⊎_elim
      (λ (before : slice_get rows j ≡ Some r.0).
      let at : place_of (slice_get rows j) ≡ Some q = rw before r.2 in
      ap number_of (updates.others q (not_vacant slab rows j p q table vacant at)) ∙ table.held j q at)
      (λ (last : (j ≡ length rows) × (r.0 ≡ row)).
      let same : q ≡ p = same_Some q p (sym r.2 ∙ ap (λ r. r.place) last.1 ∙ place) in
      ap (λ x. number_of (get slab' x)) same ∙ ap number_of updates.changed ∙ ap (λ n. Some n) (number ∙ sym last.0))
      (push_cases rows row j r.0 r.1);
}

pub open_ports : (slab slab' : Slab Open) (rows : List Row) (p : ℕ) (o : Open) (row : Row) → IsTable slab rows → get slab p ≡ None → Updates slab slab' p (Some o) → row.place ≡ Some p → o.live.items ≡ row.receivers.items → ports_of slab' (rows ++ row ∷ []) ≡ ports_of slab rows ++ opened row.opener row.receivers.items ∷ []
open_ports slab slab' rows p o row table vacant updates place live =
    map-append (port_in slab') rows (row ∷ [])
    ∙ ap (λ l. l ++ port_in slab' row ∷ []) (map-same (port_in slab) (port_in slab') rows (λ j y is. there y y.place refl j is))
    ∙ ap (λ x. ports_of slab rows ++ x ∷ []) here
  where
    there : (y : Row) (at : Option ℕ) → y.place ≡ at → (j : ℕ) → slice_get rows j ≡ Some y → port_in slab' y ≡ port_in slab y
    there y None h j is = rw h refl
    there y (Some q) h j is = rw h (ap (port_with y) (updates.others q (not_vacant slab rows j p q table vacant (rw is h))))

    here : port_in slab' row ≡ opened row.opener row.receivers.items
    here = rw place (rw updates.changed (ap (λ l. record { opener = row.opener; receivers = row.receivers.items; live = l; is_open = true }) live))

-- the slab has another value at the place of channel k, of the same number, without receiver c
pub fewer_lem : (slab slab' : Slab Open) (rows : List Row) (k p : ℕ) (c : ContextNo) → IsTable slab rows → place_of (slice_get rows k) ≡ Some p → IfSome (get slab p) (λ o. Updates slab slab' p (get slab' p)) → IfSome (get slab p) (λ o. IsSomeAnd (get slab' p) (λ n. (n.number ≡ o.number) × (n.live.items ≡ filter (is_other c) o.live.items))) → IsTable slab' rows × IfSome (slice_get (ports_of slab rows) k) (λ port. ports_of slab' rows ≡ set (ports_of slab rows) k (fewer c port))
fewer_lem slab slab' rows k p c table at updates live = by (slice_get rows k) refl (get slab p) refl (get slab' p) refl
  where
    by : (r : Option Row) → slice_get rows k ≡ r → (o : Option Open) → get slab p ≡ o → (n : Option Open) → get slab' p ≡ n → IsTable slab' rows × IfSome (slice_get (ports_of slab rows) k) (λ port. ports_of slab' rows ≡ set (ports_of slab rows) k (fewer c port))
    by None e o eo n en = absurd (none-some p (rw e at at))
    by (Some row) e None eo n en = absurd (none-some k (ap number_of (sym eo) ∙ table.held k p at))
    by (Some row) e (Some o) eo None en = absurd (rw (eo, en) at live)
    by (Some row) e (Some o) eo (Some n) en =
        let up : Updates slab slab' p (get slab' p) = rw eo at updates in
        let place : row.place ≡ Some p = rw e at at in
        let made : (n.number ≡ o.number) × (n.live.items ≡ filter (is_other c) o.live.items) = rw (eo, en) at live in
        let was : port_in slab row ≡ port_with row (Some o) = rw place (ap (port_with row) eo) in
        let now : port_in slab' row ≡ port_with row (Some n) = rw place (ap (port_with row) en) in (
          record {
            held = λ j q h. ⊎_elim
                (λ (same : j ≡ k).
                let q_is : q ≡ p = same_Some q p (sym h ∙ ap (λ i. place_of (slice_get rows i)) same ∙ at) in
                ap (λ x. number_of (get slab' x)) q_is ∙ ap number_of en ∙ ap (λ x. Some x) made.0 ∙ ap number_of (sym eo) ∙ table.held k p at ∙ ap (λ x. Some x) (sym same))
                (λ (other : j ≢ k). ap number_of (up.others q (apart slab rows k j p q table at h other)) ∙ table.held j q h)
                (cases_eq j k);
          },
          rw (port_at slab rows k) (rw e (
              ap (ports_of slab') (sym (set_same rows k row e))
              ∙ map-set_but (port_in slab) (port_in slab') rows k row (λ j y other is. elsewhere slab slab' rows k p (get slab' p) table at up j y other is)
              ∙ ap (λ x. set (ports_of slab rows) k x) (now ∙ ap (λ l. record { opener = row.opener; receivers = row.receivers.items; live = l; is_open = true }) made.1 ∙ ap (fewer c) (sym was)))),
        )

abbrev pub is_none_of : List ContextNo → Bool
is_none_of [] = true
is_none_of (d ∷ ds) = false

-- a channel that another opened is not c's
pub other_opener : (o : Option Port) (opener c : ContextNo) → IfSome o (λ port. opener ≡ port.opener) → same_context opener c ≡ false → IfSome o (λ port. same_context port.opener c ≡ false)
other_opener None opener c is other = tt
other_opener (Some port) opener c is other = rw is at other

-- the last receiver goes, and then the channel is closed
pub last_gone : (ports two three : List Port) (k : ℕ) (c : ContextNo) → IfSome (slice_get ports k) (λ port. same_context port.opener c ≡ false) → IfSome (slice_get ports k) (λ port. two ≡ set ports k (fewer c port)) → live_of (slice_get two k) ≡ [] → IfSome (slice_get two k) (λ port. three ≡ set two k (closed port)) → is_open_port (slice_get ports k) ≡ true → IfSome (slice_get ports k) (λ port. three ≡ set ports k (without c port)) × (is_open_port (slice_get three k) ≡ false)
last_gone ports two three k c apart made empty then live = by (slice_get ports k) refl
  where
    by : (o : Option Port) → slice_get ports k ≡ o → IfSome o (λ port. three ≡ set ports k (without c port)) × (is_open_port (slice_get three k) ≡ false)
    by None e = absurd (false≢true (rw e at live))
    by (Some port) e =
        let made' : two ≡ set ports k (fewer c port) = rw e at made in
        let at_two : slice_get two k ≡ Some (fewer c port) = ap (λ l. slice_get l k) made' ∙ set_here ports k (fewer c port) port e in
        let then' : three ≡ set two k (closed (fewer c port)) = rw at_two at then in
        let none : filter (is_other c) port.live ≡ [] = rw at_two at empty in
        let other : same_context port.opener c ≡ false = rw e at apart in (
          then' ∙ ap (λ l. set l k (closed port)) made' ∙ set_twice ports k (fewer c port) (closed port) ∙ ap (set ports k) (sym (rw other (rw none refl))),
          ap (λ l. is_open_port (slice_get l k)) then' ∙ ap is_open_port (set_here two k (closed port) (fewer c port) at_two),
        )

-- a receiver goes, and others are left
pub one_gone : (ports two : List Port) (k : ℕ) (c : ContextNo) → IfSome (slice_get ports k) (λ port. same_context port.opener c ≡ false) → is_open_port (slice_get ports k) ≡ true → IfSome (slice_get ports k) (λ port. two ≡ set ports k (fewer c port)) → is_none_of (live_of (slice_get two k)) ≡ false → IfSome (slice_get ports k) (λ port. two ≡ set ports k (without c port)) × (is_open_port (slice_get two k) ≡ true)
one_gone ports two k c apart live made some = by (slice_get ports k) refl
  where
    by : (o : Option Port) → slice_get ports k ≡ o → IfSome o (λ port. two ≡ set ports k (without c port)) × (is_open_port (slice_get two k) ≡ true)
    by None e = absurd (false≢true (rw e at live))
    by (Some port) e =
        let made' : two ≡ set ports k (fewer c port) = rw e at made in
        let at_two : slice_get two k ≡ Some (fewer c port) = ap (λ l. slice_get l k) made' ∙ set_here ports k (fewer c port) port e in
        let some' : is_none_of (filter (is_other c) port.live) ≡ false = rw at_two at some in
        let other : same_context port.opener c ≡ false = rw e at apart in
        let live' : port.is_open ≡ true = rw e at live in (
          made' ∙ ap (set ports k) (sym (rw other (left port (filter (is_other c) port.live) live' some'))),
          ap is_open_port at_two ∙ live',
        )
      where
        left : (port : Port) (l : List ContextNo) → port.is_open ≡ true → is_none_of l ≡ false → with_live port l ≡ record { opener = port.opener; receivers = port.receivers; live = l; is_open = port.is_open }
        left port [] h n = absurd (false≢true (sym n))
        left port (d ∷ ds) h n = rw h refl

pub none_of : (l : List ContextNo) → (length l == 0) ≡ true → l ≡ []
none_of [] h = refl
none_of (d ∷ ds) h = grind (arith, nat_tests)

pub some_of : (l : List ContextNo) → (length l == 0) ≡ false → is_none_of l ≡ false
some_of [] h = grind (arith, nat_tests)
some_of (d ∷ ds) h = refl

-- an open channel has a place
pub no_place : (slab : Slab Open) (rows : List Row) (k : ℕ) → IsTable slab rows → is_open_port (slice_get (ports_of slab rows) k) ≡ true → place_of (slice_get rows k) ≡ None → ⊥
no_place slab rows k table open_now none = false≢true (sym (ap is_some none) ∙ sym (open_is slab rows k table) ∙ open_now)
