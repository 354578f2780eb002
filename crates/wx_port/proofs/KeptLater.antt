-- What holds of the channels and of each context's own numbers, call by call.
use Rattle.std.proofs.Common.{◌≡◌, ◌<◌, ℕ, List, [], ◌∷◌, ◌++◌, length, set, map, refl, ap, sym, ◌∙◌, Bool, true, false, is_some, subst}
use Rattle.std.specs.Prelude.{Option, Some, None, IfSome, slice_get, ◌||◌, ◌==◌}
use Rattle.std.specs.Option.{option_map, IsSomeAnd}
use Rattle.std.proofs.lemmas.Bool.{false≢true, eqb-true}
use Rattle.std.proofs.lemmas.Iterator.Adapters.{option_map_id}
use Rattle.wx_id.specs.declared.numbers.ContextNo.{ContextNo}
use Rattle.wx_id.specs.Contexts.{same_context, is_among, are_distinct}
use Rattle.wx_id.specs.ByContext.{EachHas, Changed}
use Rattle.wx_port.specs.Port.{Port, IsSound, closed, is_end, is_live_end, is_open_port, left_by, live_of, opened, without}
use Rattle.wx_port.specs.Numbers.{NumbersState, MayFollow, with_number, room_in, AreOf, AreStill, IsKept, list_in}
use Rattle.wx_port.proofs.OwnLater.{may_follow, own_still, own_opened, own_set, own_left, closed_ends, without_ends}
use Rattle.wx_port.proofs.SoundLater.{sound_push, sound_opened, sound_after, sound_closed, sound_without, sound_all_left}

pub kept_none : IsKept [] []
kept_none = record { sound = λ k. tt; own = record { each = λ c k. refl } }

-- where room is made
pub kept_still : (ports : List Port) (own new : List NumbersState) → IsKept ports own → AreStill own new → IsKept ports new
kept_still ports own new kept still = record { sound = kept.sound; own = own_still ports own new kept.own still }

-- where a channel is opened
pub kept_opened : (ports ports' : List Port) (own one two : List NumbersState) (opener : ContextNo) (receivers : List ContextNo) (n : ℕ) → are_distinct receivers ≡ true → is_among receivers opener ≡ false → IsKept ports own → 0 < room_in (slice_get own opener.0) → ((d : ContextNo) → is_among receivers d ≡ true → 0 < room_in (slice_get own d.0)) → n ≡ length ports → ports' ≡ ports ++ opened opener receivers ∷ [] → Changed (with_number n) receivers own one → Changed (with_number n) (opener ∷ []) one two → IsKept ports' two
kept_opened ports ports' own one two opener receivers n distinct alone kept opener_room room number grown first second = rw grown (record {
  sound = sound_push ports (opened opener receivers) kept.sound (sound_opened opener receivers distinct alone);
  own = own_opened ports own one two opener receivers n alone kept.own opener_room room number first second;
})

open_some : (o : Option Port) → is_open_port o ≡ true → is_some o ≡ true
open_some None h = absurd (false≢true h)
open_some (Some port) h = refl

pub live_some : (o : Option Port) (c : ContextNo) → is_live_end o c ≡ true → is_some o ≡ true
live_some None c h = absurd (false≢true h)
live_some (Some port) c h = refl

-- the channel that was opened last has all its receivers
pub live_opened : (ports ports' : List Port) (opener : ContextNo) (receivers live : List ContextNo) (n : ℕ) → n ≡ length ports → ports' ≡ ports ++ opened opener receivers ∷ [] → live ≡ live_of (slice_get ports' n) → live ≡ receivers
live_opened ports ports' opener receivers live n number grown is =
    is ∙ ap (λ l. live_of (slice_get l n)) grown ∙ ap (λ m. live_of (slice_get (ports ++ opened opener receivers ∷ []) m)) number ∙ ap live_of (last ports)
  where
    last : (xs : List Port) → slice_get (xs ++ opened opener receivers ∷ []) (length xs) ≡ Some (opened opener receivers)
    last [] = refl
    last (x ∷ xs) = last xs

-- its number may follow in the lists of its receivers
pub receivers_follow : (ports : List Port) (own : List NumbersState) (receivers live : List ContextNo) (n : ℕ) → IsKept ports own → ((d : ContextNo) → is_among receivers d ≡ true → 0 < room_in (slice_get own d.0)) → n ≡ length ports → live ≡ receivers → EachHas (MayFollow n) live own
receivers_follow ports own receivers live n kept room number is d among =
    rw number (may_follow ports own d kept.own (room d (sym (ap (λ l. is_among l d) is) ∙ among)))

-- and then in that of its opener
pub opener_follows : (ports : List Port) (own one : List NumbersState) (opener : ContextNo) (receivers live : List ContextNo) (n : ℕ) → IsKept ports own → is_among receivers opener ≡ false → 0 < room_in (slice_get own opener.0) → n ≡ length ports → live ≡ receivers → Changed (with_number n) live own one → EachHas (MayFollow n) (opener ∷ []) one
opener_follows ports own one opener receivers live n kept alone room number is first d among =
    subst (λ (m : ℕ). IsSomeAnd (slice_get one m) (MayFollow n)) (eqb-true opener.0 d.0 (is_it (same_context opener d) among))
    (subst (λ o. IsSomeAnd o (MayFollow n)) (sym same) (rw number (may_follow ports own opener kept.own room)))
  where
    is_it : (s : Bool) → (s || false) ≡ true → s ≡ true
    is_it true h = refl
    is_it false h = h

    same : slice_get one opener.0 ≡ slice_get own opener.0
    same = first opener ∙ rw (ap (λ l. is_among l opener) is ∙ alone) (option_map_id (slice_get own opener.0))

-- where one is closed
pub kept_closed : (ports ports' : List Port) (own : List NumbersState) (k : ℕ) → IsKept ports own → is_open_port (slice_get ports k) ≡ true → IfSome (slice_get ports k) (λ port. ports' ≡ set ports k (closed port)) → IsKept ports' own
kept_closed ports ports' own k kept open_now made = record {
  sound = sound_after ports ports' k closed sound_closed kept.sound (open_some (slice_get ports k) open_now) made;
  own = own_set ports ports' own k closed closed_ends (open_some (slice_get ports k) open_now) made kept.own;
}

-- where a live end drops one
pub kept_without : (ports ports' : List Port) (own : List NumbersState) (k : ℕ) (c : ContextNo) → IsKept ports own → is_live_end (slice_get ports k) c ≡ true → IfSome (slice_get ports k) (λ port. ports' ≡ set ports k (without c port)) → IsKept ports' own
kept_without ports ports' own k c kept live made = record {
  sound = sound_after ports ports' k (without c) (sound_without c) kept.sound (live_some (slice_get ports k) c live) made;
  own = own_set ports ports' own k (without c) (without_ends c) (live_some (slice_get ports k) c live) made kept.own;
}

-- where a context leaves
pub kept_left : (ports ports' : List Port) (own : List NumbersState) (c : ContextNo) → IsKept ports own → ports' ≡ map (left_by c) ports → IsKept ports' own
kept_left ports ports' own c kept made = rw made (record { sound = sound_all_left ports c kept.sound; own = own_left ports own c kept.own })

-- the numbers of a context are those of its channels
pub own_of : (ports : List Port) (own : List NumbersState) (c : ContextNo) (ns : List ℕ) → IsKept ports own → ns ≡ list_in (slice_get own c.0) → AreOf ports c ns
own_of ports own c ns kept is = rw is (kept.own.each c)
