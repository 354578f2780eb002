-- What a call on the channels is to the requests that are kept as them.
use Rattle.std.proofs.Common.{◌≡◌, ◌≢◌, ℕ, ◌<◌, List, [], ◌∷◌, ◌++◌, suc, zero, length, filter, map, set, refl, ap, sym, ◌∙◌, Bool, true, false, not, cond, is_some, rules, arith, subst}
use Rattle.std.specs.Prelude.{Option, Some, None, slice_get, IfSome, ◌||◌, ◌&&◌, ◌==◌, if◌then◌else◌}
use Rattle.std.specs.Option.{option_map}
use Rattle.std.proofs.lemmas.Option.{slice_get-map}
use Rattle.std.proofs.lemmas.List.{length-map, map-append, map-set}
use Rattle.std.proofs.Math.Dec.{eqb-suc-zero}
use Rattle.std.proofs.lemmas.Bool.{false≢true, true≢false}
use Rattle.wx_id.specs.declared.numbers.ContextNo.{ContextNo}
use Rattle.wx_id.specs.declared.events.End.{End}
use Rattle.wx_id.specs.declared.events.End.TheVariants.{Opener, Receiver, Neither}
use Rattle.wx_id.specs.Contexts.{same_context, is_among, is_other}
use Rattle.wx_id.proofs.ContextLemmas.{same_context_is}
use Rattle.wx_id.proofs.ListLemmas.{set_here}
use Rattle.wx_port.specs.Port as ports_spec
use Rattle.wx_port.specs.Port.{Port, IsSound, closed, opened, end_of, is_end, is_live_end, is_open_port, live_of, with_live}
use Rattle.wx_one_shot.specs.declared.requests.Standing.{Standing}
use Rattle.wx_one_shot.specs.declared.requests.Standing.TheVariants.{Open, Late, Stranger}
use Rattle.wx_one_shot.specs.Requests.{Request, asked, settled, still_open_at, without, left_by, is_settled_at, is_unsettled_at, standing_at, concerns_at}
use Rattle.wx_one_shot.specs.Kept.{request_of, requests_of}
use Rattle.wx_port.proofs.KeptLater.{live_some}

-- the request of a number
pub request_at : (ports : List Port) (k : ℕ) → slice_get (requests_of ports) k ≡ option_map request_of (slice_get ports k)
request_at ports k = slice_get-map request_of ports k

-- one channel is changed, so one request is
pub request_changed : (ports ports' : List Port) (k : ℕ) (on_port : Port → Port) (change : Request → Request) → IfSome (slice_get ports k) (λ port. request_of (on_port port) ≡ change (request_of port)) → IfSome (slice_get ports k) (λ port. ports' ≡ set ports k (on_port port)) → IfSome (slice_get (requests_of ports) k) (λ request. requests_of ports' ≡ set (requests_of ports) k (change request))
request_changed ports ports' k on_port change same made = rw (request_at ports k) (by (slice_get ports k) same made)
  where
    by : (o : Option Port) → IfSome o (λ port. request_of (on_port port) ≡ change (request_of port)) → IfSome o (λ port. ports' ≡ set ports k (on_port port)) → IfSome (option_map request_of o) (λ request. requests_of ports' ≡ set (requests_of ports) k (change request))
    by None same made = tt
    by (Some port) same made = rw made (map-set request_of ports k (on_port port) ∙ ap (set (requests_of ports) k) same)

-- a channel that is there and closed is a request that is settled
pub settled_is : (ports : List Port) (k : ℕ) → is_some (slice_get ports k) ≡ true → is_settled_at (slice_get (requests_of ports) k) ≡ not (is_open_port (slice_get ports k))
settled_is ports k there = rw (request_at ports k) (by (slice_get ports k) there)
  where
    by : (o : Option Port) → is_some o ≡ true → is_settled_at (option_map request_of o) ≡ not (is_open_port o)
    by None h = absurd (false≢true h)
    by (Some port) h = refl

stranger_not_open : Stranger ≡ Open → ⊥
stranger_not_open h = search rules

late_not_open : Late ≡ Open → ⊥
late_not_open h = search rules

-- what a context is to a request by what it is to the channel, and whether it is live
abbrev pub standing_by : End → Bool → Standing
standing_by Receiver live = cond live Open Late
standing_by Opener live = Stranger
standing_by Neither live = Stranger

twice : (b : Bool) → not (not b) ≡ b
twice true = refl
twice false = refl

-- an unsettled request is an open channel
pub open_is : (ports : List Port) (k : ℕ) → is_unsettled_at (slice_get (requests_of ports) k) ≡ is_open_port (slice_get ports k)
open_is ports k = rw (request_at ports k) (by (slice_get ports k))
  where
    by : (o : Option Port) → is_unsettled_at (option_map request_of o) ≡ is_open_port o
    by None = refl
    by (Some port) = twice port.is_open

-- it concerns the live ends of the channel
pub concerns_is : (ports : List Port) (k : ℕ) (c : ContextNo) → concerns_at (slice_get (requests_of ports) k) c ≡ is_live_end (slice_get ports k) c
concerns_is ports k c = rw (request_at ports k) (by (slice_get ports k))
  where
    by : (o : Option Port) → concerns_at (option_map request_of o) c ≡ is_live_end o c
    by None = refl
    by (Some port) = ap (λ b. b && (same_context port.opener c || is_among port.live c)) (twice port.is_open)

-- what is settled is closed
pub closed_is : (ports : List Port) (k : ℕ) → IfSome (slice_get ports k) (λ port. request_of (closed port) ≡ settled (request_of port))
closed_is ports k = by (slice_get ports k)
  where
    by : (o : Option Port) → IfSome o (λ port. request_of (closed port) ≡ settled (request_of port))
    by None = tt
    by (Some port) = refl

live_is : (port : Port) (cs : List ContextNo) → port.is_open ≡ true → request_of (with_live port cs) ≡ record { asker = port.opener; receivers = port.receivers; still_open = cs; is_settled = length cs == 0 }
live_is port [] h = refl
live_is port (x ∷ cs) h = rw (h, eqb-suc-zero (length cs)) refl

-- a receiver that may reply is a live end, and is not the asker
open_end : (p : Port) (c : ContextNo) → IsSound p → standing_at (Some (request_of p)) c ≡ Open → (p.is_open ≡ true) × (is_among p.live c ≡ true) × (same_context p.opener c ≡ false)
open_end p c sound standing = by (is_among p.receivers c) refl p.is_open refl (is_among p.live c) refl
  where
    other : is_among p.receivers c ≡ true → (s : Bool) → same_context p.opener c ≡ s → s ≡ false
    other among false e = refl
    other among true e = absurd (true≢false (sym among ∙ ap (is_among p.receivers) (sym (same_context_is p.opener c e)) ∙ sound.opener))

    by : (r : Bool) → is_among p.receivers c ≡ r → (b : Bool) → p.is_open ≡ b → (l : Bool) → is_among p.live c ≡ l → (p.is_open ≡ true) × (is_among p.live c ≡ true) × (same_context p.opener c ≡ false)
    by true among true e true f = (e, f, other among (same_context p.opener c) refl)
    by false among b e l f = absurd (stranger_not_open (rw among at standing))
    by true among false e l f = absurd (late_not_open (rw (among, e) at standing))
    by true among true e false f = absurd (late_not_open (rw (among, e, f) at standing))

-- it drops its end
pub without_is : (ports : List Port) (k : ℕ) (c : ContextNo) → IfSome (slice_get ports k) IsSound → standing_at (slice_get (requests_of ports) k) c ≡ Open → IfSome (slice_get ports k) (λ p. request_of (ports_spec.without c p) ≡ without c (request_of p))
without_is ports k c sound standing = by (slice_get ports k) sound (rw (request_at ports k) at standing)
  where
    by : (o : Option Port) → IfSome o IsSound → standing_at (option_map request_of o) c ≡ Open → IfSome o (λ p. request_of (ports_spec.without c p) ≡ without c (request_of p))
    by None sound standing = tt
    by (Some p) sound standing =
        let end = open_end p c sound standing in
        rw (end.2) (live_is p (filter (is_other c) p.live) end.0)

-- and was a live end
pub standing_live : (ports : List Port) (k : ℕ) (c : ContextNo) → IfSome (slice_get ports k) IsSound → standing_at (slice_get (requests_of ports) k) c ≡ Open → is_live_end (slice_get ports k) c ≡ true
standing_live ports k c sound standing = by (slice_get ports k) sound (rw (request_at ports k) at standing)
  where
    by : (o : Option Port) → IfSome o IsSound → standing_at (option_map request_of o) c ≡ Open → is_live_end o c ≡ true
    by None sound standing = absurd (stranger_not_open standing)
    by (Some p) sound standing =
        let end = open_end p c sound standing in
        rw (end.0, end.1, end.2) refl

-- what c is to the channel says what it is to the request
pub standing_is : (ports : List Port) (k : ℕ) (c : ContextNo) (live : List ContextNo) → IfSome (slice_get ports k) IsSound → live ≡ live_of (slice_get ports k) → (is_open_port (slice_get ports k) ≡ false → live ≡ []) → standing_at (slice_get (requests_of ports) k) c ≡ standing_by (end_of (slice_get ports k) c) (is_among live c)
standing_is ports k c live sound is shut = rw (request_at ports k) (by (slice_get ports k) sound is shut)
  where
    by : (o : Option Port) → IfSome o IsSound → live ≡ live_of o → (is_open_port o ≡ false → live ≡ []) → standing_at (option_map request_of o) c ≡ standing_by (end_of o c) (is_among live c)
    by None sound is shut = refl
    by (Some p) sound is shut = among (is_among p.receivers c) refl (same_context p.opener c) refl
      where
        may : (b : Bool) → p.is_open ≡ b → cond (not (not p.is_open) && is_among p.live c) Open Late ≡ cond (is_among live c) Open Late
        may true e = rw (e, is) refl
        may false e = rw (e, shut e) refl

        among : (r : Bool) → is_among p.receivers c ≡ r → (s : Bool) → same_context p.opener c ≡ s → standing_at (Some (request_of p)) c ≡ standing_by (end_of (Some p) c) (is_among live c)
        among true e true f = absurd (true≢false (sym e ∙ ap (is_among p.receivers) (sym (same_context_is p.opener c f)) ∙ sound.opener))
        among true e false f = rw (e, f) (may p.is_open refl)
        among false e true f = rw (e, f) refl
        among false e false f = rw (e, f) refl

-- a channel that is left is a request that is left
left_one : (c opener : ContextNo) (receivers live : List ContextNo) (b : Bool) → request_of (ports_spec.left_by c (record { opener = opener; receivers = receivers; live = live; is_open = b })) ≡ left_by c (request_of (record { opener = opener; receivers = receivers; live = live; is_open = b }))
left_one c opener receivers live false = refl
left_one c opener receivers live true = by (same_context opener c) refl (is_among receivers c) refl
  where
    p : Port
    p = record { opener = opener; receivers = receivers; live = live; is_open = true }

    by : (s : Bool) → same_context opener c ≡ s → (r : Bool) → is_among receivers c ≡ r → request_of (ports_spec.left_by c p) ≡ left_by c (request_of p)
    by true f r g = rw f refl
    by false f true g = rw (f, g) (live_is p (filter (is_other c) live) refl)
    by false f false g = rw (f, g) refl

-- all channels are left, so all requests are
pub left_is : (c : ContextNo) (ports : List Port) → requests_of (map (ports_spec.left_by c) ports) ≡ map (left_by c) (requests_of ports)
left_is c [] = refl
left_is c (p ∷ ports) = rw (left_is c ports, left_one c p.opener p.receivers p.live p.is_open) refl

-- who is no receiver of the channel is a stranger to the request
pub standing_other : (e : End) (live : Bool) → e ≢ Receiver → Stranger ≡ standing_by e live
standing_other Receiver live h = absurd (h refl)
standing_other Opener live h = refl
standing_other Neither live h = refl

-- there are as many
pub count_is : (ports : List Port) → length (requests_of ports) ≡ length ports
count_is ports = length-map ports request_of

-- a channel that is opened is a request that is asked
pub asked_is : (ports ports' : List Port) (asker : ContextNo) (receivers : List ContextNo) → ports' ≡ ports ++ opened asker receivers ∷ [] → requests_of ports' ≡ requests_of ports ++ asked asker receivers ∷ []
asked_is ports ports' asker receivers grown = ap requests_of grown ∙ map-append request_of ports (opened asker receivers ∷ [])

-- its opener is the asker
pub asker_is : (ports : List Port) (k : ℕ) (c : ContextNo) → IfSome (slice_get ports k) (λ port. c ≡ port.opener) → IfSome (slice_get (requests_of ports) k) (λ request. c ≡ request.asker)
asker_is ports k c is = rw (request_at ports k) (by (slice_get ports k) is)
  where
    by : (o : Option Port) → IfSome o (λ port. c ≡ port.opener) → IfSome (option_map request_of o) (λ request. c ≡ request.asker)
    by None is = tt
    by (Some port) is = is

-- one that has been given out is there
pub within_there : (ports : List Port) (k : ℕ) → k < length (requests_of ports) → is_some (slice_get ports k) ≡ true
within_there ports k within = there ports k (subst (λ n. k < n) (count_is ports) within)
  where
    there : (ports : List Port) (k : ℕ) → k < length ports → is_some (slice_get ports k) ≡ true
    there [] k h = absurd (omega (arith, h))
    there (port ∷ ports) zero h = refl
    there (port ∷ ports) (suc k) h = there ports k (omega (arith, h))

-- its live receivers may still reply
pub still_open_is : (ports : List Port) (k : ℕ) → still_open_at (slice_get (requests_of ports) k) ≡ live_of (slice_get ports k)
still_open_is ports k = rw (request_at ports k) (by (slice_get ports k))
  where
    by : (o : Option Port) → still_open_at (option_map request_of o) ≡ live_of o
    by None = refl
    by (Some port) = refl

-- a channel that a live end dropped is there still
pub still_there : (ports ports' : List Port) (k : ℕ) (c : ContextNo) (change : Port → Port) → is_live_end (slice_get ports k) c ≡ true → IfSome (slice_get ports k) (λ port. ports' ≡ set ports k (change port)) → is_some (slice_get ports' k) ≡ true
still_there ports ports' k c change live made = by (slice_get ports k) refl (live_some (slice_get ports k) c live) made
  where
    by : (o : Option Port) → slice_get ports k ≡ o → is_some o ≡ true → IfSome o (λ port. ports' ≡ set ports k (change port)) → is_some (slice_get ports' k) ≡ true
    by None at there made = absurd (false≢true there)
    by (Some port) at there made = ap (λ l. is_some (slice_get l k)) made ∙ ap is_some (set_here ports k (change port) port at)
