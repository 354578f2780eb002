-- The lists of numbers by context: what stays when room is made, and what an opening and a closing make of them.
use Rattle.std.proofs.Common.{◌≡◌, ◌≢◌, ◌⊎◌, ⊎_elim, ℕ, suc, zero, ◌+◌, ◌<◌, ◌≤◌, List, [], ◌∷◌, ◌++◌, length, map, filter, set, get_or, take, refl, ap, sym, ◌∙◌, Bool, true, false, cond, is_some, arith}
use Rattle.std.specs.Prelude.{Option, Some, None, slice_get, IfSome, ◌||◌, ◌&&◌, ◌==◌, if◌then◌else◌}
use Rattle.std.specs.Option.{option_map, IsSomeAnd}
use Rattle.std.proofs.lemmas.Bool.{cases_eq, false≢true, true≢false, eqb-true, eq-eqb}
use Rattle.std.proofs.Math.Dec.{eqb-suc-suc, eqb-suc-zero, eqb-zero-suc}
use Rattle.std.proofs.lemmas.Option.{none-some, same_Some, slice_get_within, slice_get-map}
use Rattle.std.proofs.lemmas.List.{append-nil, take_more}
use Rattle.wx_id.specs.declared.numbers.ContextNo.{ContextNo}
use Rattle.wx_id.specs.Contexts.{same_context, is_among, is_other}
use Rattle.wx_id.specs.ByContext.{EachHas, Changed}
use Rattle.wx_id.proofs.ByContextLemmas.{among_more, other_is}
use Rattle.wx_id.proofs.ListLemmas.{set_here, set_there}
use Rattle.wx_port.specs.Port.{Port, opened, closed, is_end, with_live, without, left_by}
use Rattle.wx_port.specs.Numbers.{NumbersState, has_number, with_number, MayFollow, list_in, room_in, AreStill, is_end_at, AreOf, AreOwn}
use Rattle.wx_port.proofs.NumbersLater.{has_more}

pub still_self : (own : List NumbersState) → AreStill own own
still_self own = record { numbers = λ d. refl; room = λ d. omega arith }

pub still_then : (a b c : List NumbersState) → AreStill a b → AreStill b c → AreStill a c
still_then a b c p q = record {
  numbers = λ d. q.numbers d ∙ p.numbers d;
  room = λ d. let one : room_in (slice_get a d) ≤ room_in (slice_get b d) = p.room d in let two : room_in (slice_get b d) ≤ room_in (slice_get c d) = q.room d in omega (arith, one, two);
}

-- one more list that has no numbers
pub still_push : (own : List NumbersState) (s : NumbersState) → s.list ≡ [] → AreStill own (own ++ s ∷ [])
still_push own s none = record { numbers = numbers own; room = room own }
  where
    numbers : (xs : List NumbersState) (d : ℕ) → list_in (slice_get (xs ++ s ∷ []) d) ≡ list_in (slice_get xs d)
    numbers [] zero = none
    numbers [] (suc d) = refl
    numbers (x ∷ xs) zero = refl
    numbers (x ∷ xs) (suc d) = numbers xs d

    room : (xs : List NumbersState) (d : ℕ) → room_in (slice_get xs d) ≤ room_in (slice_get (xs ++ s ∷ []) d)
    room [] zero = omega arith
    room [] (suc d) = omega arith
    room (x ∷ xs) zero = omega arith
    room (x ∷ xs) (suc d) = room xs d

-- one list has more room
pub still_at : (own : List NumbersState) (k : ℕ) (s s' : NumbersState) → s ≡ get_or own k s → s'.list ≡ s.list → s.room ≤ s'.room → AreStill own (set own k s')
still_at own k s s' at same more = record { numbers = numbers own k at; room = room own k at }
  where
    numbers : (xs : List NumbersState) (k : ℕ) → s ≡ get_or xs k s → (d : ℕ) → list_in (slice_get (set xs k s') d) ≡ list_in (slice_get xs d)
    numbers [] k at d = refl
    numbers (x ∷ xs) zero at zero = same ∙ ap (λ (y : NumbersState). y.list) at
    numbers (x ∷ xs) zero at (suc d) = refl
    numbers (x ∷ xs) (suc k) at zero = refl
    numbers (x ∷ xs) (suc k) at (suc d) = numbers xs k at d

    room : (xs : List NumbersState) (k : ℕ) → s ≡ get_or xs k s → (d : ℕ) → room_in (slice_get xs d) ≤ room_in (slice_get (set xs k s') d)
    room [] k at d = omega arith
    room (x ∷ xs) zero at zero = let same_room : s.room ≡ x.room = ap (λ (y : NumbersState). y.room) at in omega (arith, same_room, more)
    room (x ∷ xs) zero at (suc d) = omega arith
    room (x ∷ xs) (suc k) at zero = omega arith
    room (x ∷ xs) (suc k) at (suc d) = room xs k at d

-- the list at a place has room once it was made
pub room_at : (own : List NumbersState) (k : ℕ) (s : NumbersState) → k < length own → 0 < s.room → 0 < room_in (slice_get (set own k s) k)
room_at [] k s within room = absurd (omega (arith, within))
room_at (x ∷ xs) zero s within room = room
room_at (x ∷ xs) (suc k) s within room = room_at xs k s (omega (arith, within)) room

-- the contexts that the loop has come to have room
pub room_each : (of : List ContextNo) (i : ℕ) (c : ContextNo) (mid new : List NumbersState) → i < length of → AreStill mid new → ((d : ContextNo) → is_among (take i of) d ≡ true → 0 < room_in (slice_get mid d.0)) → 0 < room_in (slice_get new (get_or of i c).0) → (d : ContextNo) → is_among (take (i + 1) of) d ≡ true → 0 < room_in (slice_get new d.0)
room_each of i c mid new within still before here d among =
    by (is_among (take i of) d) refl (same_context (get_or of i c) d) refl (sym (among_more (take i of) (get_or of i c) d) ∙ ap (λ l. is_among l d) (sym (take_more of i c within)) ∙ among)
  where
    by : (a : Bool) → is_among (take i of) d ≡ a → (s : Bool) → same_context (get_or of i c) d ≡ s → (a || s) ≡ true → 0 < room_in (slice_get new d.0)
    by true is s same h =
        let had : 0 < room_in (slice_get mid d.0) = before d is in
        let kept : room_in (slice_get mid d.0) ≤ room_in (slice_get new d.0) = still.room d.0 in
        omega (arith, had, kept)
    by false is true same h = rw (← eqb-true (get_or of i c).0 d.0 same) here
    by false is false same h = absurd (false≢true h)

-- room stays
pub room_still : (of : List ContextNo) (mid new : List NumbersState) → AreStill mid new → ((d : ContextNo) → is_among of d ≡ true → 0 < room_in (slice_get mid d.0)) → (d : ContextNo) → is_among of d ≡ true → 0 < room_in (slice_get new d.0)
room_still of mid new still had d among =
    let was : 0 < room_in (slice_get mid d.0) = had d among in
    let kept : room_in (slice_get mid d.0) ≤ room_in (slice_get new d.0) = still.room d.0 in
    omega (arith, was, kept)

-- an end is that of a channel that was opened
pub end_within : (ports : List Port) (k : ℕ) (c : ContextNo) → is_end_at (slice_get ports k) c ≡ true → k < length ports
end_within ports k c h = by (slice_get ports k) refl h
  where
    by : (o : Option Port) → slice_get ports k ≡ o → is_end_at o c ≡ true → k < length ports
    by None at h = absurd (false≢true h)
    by (Some port) at h = slice_get_within ports k port at

-- the next number may follow where there is room
pub may_follow : (ports : List Port) (own : List NumbersState) (c : ContextNo) → AreOwn ports own → 0 < room_in (slice_get own c.0) → IsSomeAnd (slice_get own c.0) (MayFollow (length ports))
may_follow ports own c are room = by (slice_get own c.0) (are.each c) room
  where
    by : (o : Option NumbersState) → AreOf ports c (list_in o) → 0 < room_in o → IsSomeAnd o (MayFollow (length ports))
    by None of room = absurd (omega (arith, room))
    by (Some s) of room = record {
      room = room;
      above = λ n has. let within : n < length ports = end_within ports n c (sym (of n) ∙ has) in omega (arith, within);
    }

-- where room was made, each context has the numbers that it had
pub own_still : (ports : List Port) (own new : List NumbersState) → AreOwn ports own → AreStill own new → AreOwn ports new
own_still ports own new are still = record { each = λ c k. rw (still.numbers c.0) (are.each c k) }

-- a channel that is opened is one more of its ends
pub own_opened : (ports : List Port) (own one two : List NumbersState) (opener : ContextNo) (receivers : List ContextNo) (n : ℕ) → is_among receivers opener ≡ false → AreOwn ports own → (0 < room_in (slice_get own opener.0)) → ((d : ContextNo) → is_among receivers d ≡ true → 0 < room_in (slice_get own d.0)) → n ≡ length ports → Changed (with_number n) receivers own one → Changed (with_number n) (opener ∷ []) one two → AreOwn (ports ++ opened opener receivers ∷ []) two
own_opened ports own one two opener receivers n alone are opener_room room number first second = record {
  each = λ d k. rw (list_after d) (has_after (list_in (slice_get own d.0)) (is_end port d) k ∙ ap (λ b. b || ((n == k) && is_end port d)) (are.each d k) ∙ sym (end_after ports d k number));
}
  where
    port : Port
    port = opened opener receivers

    end_after : (xs : List Port) (d : ContextNo) (k : ℕ) → n ≡ length xs → is_end_at (slice_get (xs ++ port ∷ []) k) d ≡ (is_end_at (slice_get xs k) d || ((n == k) && is_end port d))
    end_after xs d k e = rw e (at xs k)
      where
        at : (xs : List Port) (k : ℕ) → is_end_at (slice_get (xs ++ port ∷ []) k) d ≡ (is_end_at (slice_get xs k) d || ((length xs == k) && is_end port d))
        at [] zero = refl
        at [] (suc k) = rw (eqb-zero-suc k) refl
        at (x ∷ xs) zero = rw (eqb-suc-zero (length xs)) (cut (is_end x d))
          where
            cut : (b : Bool) → b ≡ (b || false)
            cut true = refl
            cut false = refl
        at (x ∷ xs) (suc k) = rw (eqb-suc-suc (length xs) k) (at xs k)

    has_after : (ns : List ℕ) (b : Bool) (k : ℕ) → has_number (ns ++ cond b (n ∷ []) []) k ≡ (has_number ns k || ((n == k) && b))
    has_after ns true k = has_more ns n k ∙ ap (λ t. has_number ns k || t) (cut (n == k))
      where
        cut : (b : Bool) → b ≡ (b && true)
        cut true = refl
        cut false = refl
    has_after ns false k = ap (λ l. has_number l k) (append-nil ns) ∙ cut (has_number ns k) (n == k)
      where
        cut : (b t : Bool) → b ≡ (b || (t && false))
        cut true t = refl
        cut false true = refl
        cut false false = refl

    list_after : (d : ContextNo) → list_in (slice_get two d.0) ≡ list_in (slice_get own d.0) ++ cond (is_end port d) (n ∷ []) []
    list_after d =
        by (slice_get own d.0) refl (same_context opener d) refl (is_among receivers d) refl (second d ∙ ap (option_map (λ x. cond (is_among (opener ∷ []) d) (with_number n x) x)) (first d))
      where
        by : (o : Option NumbersState) → slice_get own d.0 ≡ o → (s : Bool) → same_context opener d ≡ s → (r : Bool) → is_among receivers d ≡ r → slice_get two d.0 ≡ option_map (λ x. cond (same_context opener d || false) (with_number n x) x) (option_map (λ x. cond (is_among receivers d) (with_number n x) x) (slice_get own d.0)) → list_in (slice_get two d.0) ≡ list_in (slice_get own d.0) ++ cond (same_context opener d || is_among receivers d) (n ∷ []) []
        by o at true same true among is = absurd (true≢false (sym among ∙ ap (λ (m : ℕ). is_among receivers (record { 0 = m })) (sym (eqb-true opener.0 d.0 same)) ∙ alone))
        by None at true same false among is =
            let empty : 0 < 0 = let h : 0 < room_in (slice_get own d.0) = rw (← eqb-true opener.0 d.0 same) opener_room in rw at at h in
            absurd (omega (arith, empty))
        by None at false same true among is =
            let empty : 0 < 0 = let h : 0 < room_in (slice_get own d.0) = room d among in rw at at h in
            absurd (omega (arith, empty))
        by None at false same false among is = rw (is, at, same, among) refl
        by (Some x) at true same false among is = rw (is, at, same, among) refl
        by (Some x) at false same true among is = rw (is, at, same, among) refl
        by (Some x) at false same false among is = rw (is, at, same, among) (sym (append-nil x.list))

-- where no channel has other ends, each context has the numbers of its channels still
pub own_kept : (ports ports' : List Port) (own : List NumbersState) → ((k : ℕ) (c : ContextNo) → is_end_at (slice_get ports' k) c ≡ is_end_at (slice_get ports k) c) → AreOwn ports own → AreOwn ports' own
own_kept ports ports' own same are = record { each = λ c k. are.each c k ∙ sym (same k c) }

-- one channel is changed, and keeps its ends
pub own_set : (ports ports' : List Port) (own : List NumbersState) (k : ℕ) (change : Port → Port) → ((port : Port) (c : ContextNo) → is_end (change port) c ≡ is_end port c) → is_some (slice_get ports k) ≡ true → IfSome (slice_get ports k) (λ port. ports' ≡ set ports k (change port)) → AreOwn ports own → AreOwn ports' own
own_set ports ports' own k change keeps there made are = by (slice_get ports k) refl there made
  where
    by : (o : Option Port) → slice_get ports k ≡ o → is_some o ≡ true → IfSome o (λ port. ports' ≡ set ports k (change port)) → AreOwn ports' own
    by None at there made = absurd (false≢true there)
    by (Some port) at there made = rw made (own_kept ports (set ports k (change port)) own same are)
      where
        same : (j : ℕ) (c : ContextNo) → is_end_at (slice_get (set ports k (change port)) j) c ≡ is_end_at (slice_get ports j) c
        same j c = ⊎_elim
            (λ (here : j ≡ k). rw here (ap (λ o. is_end_at o c) (set_here ports k (change port) port at) ∙ keeps port c ∙ ap (λ o. is_end_at o c) (sym at)))
            (λ (other : j ≢ k). ap (λ o. is_end_at o c) (set_there ports k j (change port) other))
            (cases_eq j k)

pub closed_ends : (port : Port) (c : ContextNo) → is_end (closed port) c ≡ is_end port c
closed_ends port c = refl

pub without_ends : (d : ContextNo) (port : Port) (c : ContextNo) → is_end (without d port) c ≡ is_end port c
without_ends d port c = by (same_context port.opener d) refl
  where
    live : (cs : List ContextNo) → is_end (with_live port cs) c ≡ is_end port c
    live [] = refl
    live (x ∷ cs) = refl

    by : (b : Bool) → same_context port.opener d ≡ b → is_end (without d port) c ≡ is_end port c
    by true e = rw e refl
    by false e = rw e (live (filter (is_other d) port.live))

pub left_ends : (d : ContextNo) (port : Port) (c : ContextNo) → is_end (left_by d port) c ≡ is_end port c
left_ends d port c = by (port.is_open && is_end port d) refl
  where
    by : (b : Bool) → (port.is_open && is_end port d) ≡ b → is_end (left_by d port) c ≡ is_end port c
    by true e = rw e (without_ends d port c)
    by false e = rw e refl

-- all channels are left by d, and keep their ends
pub own_left : (ports : List Port) (own : List NumbersState) (d : ContextNo) → AreOwn ports own → AreOwn (map (left_by d) ports) own
own_left ports own d are = own_kept ports (map (left_by d) ports) own same are
  where
    by : (c : ContextNo) (o : Option Port) → is_end_at (option_map (left_by d) o) c ≡ is_end_at o c
    by c None = refl
    by c (Some port) = left_ends d port c

    same : (k : ℕ) (c : ContextNo) → is_end_at (slice_get (map (left_by d) ports) k) c ≡ is_end_at (slice_get ports k) c
    same k c = ap (λ o. is_end_at o c) (slice_get-map (left_by d) ports k) ∙ by c (slice_get ports k)
