-- The leave of a context, channel by channel.
use Rattle.std.proofs.Common.{◌≡◌, ◌≢◌, ℕ, ◌+◌, ◌<◌, ◌≤◌, List, [], ◌∷◌, ◌++◌, length, map, filter, set, get_or, take, refl, ap, sym, ◌∙◌, Bool, true, false, cond, subst}
use Rattle.std.specs.Prelude.{Option, Some, None, slice_get, IfSome, not, ◌||◌, ◌&&◌, ◌==◌, if◌then◌else◌}
use Rattle.std.specs.Option.{option_map}
use Rattle.std.proofs.lemmas.Bool.{false≢true, eqb-true}
use Rattle.std.proofs.lemmas.Iterator.Adapters.{option_map_id}
use Rattle.std.proofs.lemmas.Option.{slice_get-map}
use Rattle.std.proofs.lemmas.List.{take_all, take_more}
use Rattle.wx_id.specs.declared.numbers.ContextNo.{ContextNo}
use Rattle.wx_id.specs.Contexts.{same_context, is_among, is_other}
use Rattle.wx_id.proofs.ByContextLemmas.{other_is}
use Rattle.wx_id.proofs.ListLemmas.{set_here, set_there, read_alike}
use Rattle.wx_port.specs.Port.{Port, closed, is_end, is_open_port, with_live, without, left_by}
use Rattle.wx_port.specs.Numbers.{has_number, is_end_at, AreOf}
use Rattle.wx_port.proofs.NumbersLater.{has_more, has_read}
use Rattle.wx_port.proofs.OwnLater.{left_ends}

-- the channels of these numbers are left
abbrev pub LeftAt : ContextNo → List ℕ → List Port → List Port → Type 0
LeftAt c ns start ports = (j : ℕ) → slice_get ports j ≡ option_map (λ port. cond (has_number ns j) (left_by c port) port) (slice_get start j)

pub left_none : (c : ContextNo) (ports : List Port) → LeftAt c [] ports ports
left_none c ports j = sym (option_map_id (slice_get ports j))

filter_twice : (c : ContextNo) (cs : List ContextNo) → filter (is_other c) (filter (is_other c) cs) ≡ filter (is_other c) cs
filter_twice c [] = refl
filter_twice c (x ∷ cs) = by (is_other c x) refl (filter_twice c cs)
  where
    by : (b : Bool) → is_other c x ≡ b → filter (is_other c) (filter (is_other c) cs) ≡ filter (is_other c) cs → filter (is_other c) (filter (is_other c) (x ∷ cs)) ≡ filter (is_other c) (x ∷ cs)
    by true e rest = rw e (rw e (ap (λ l. x ∷ l) rest))
    by false e rest = rw e rest

-- who leaves an open channel of which it is an end drops it, and any other stays
left_as : (c : ContextNo) (port : Port) (b : Bool) → (port.is_open && is_end port c) ≡ b → left_by c port ≡ (if b then without c port else port)
left_as c port b e = ap (λ t. if t then without c port else port) e

without_as : (c : ContextNo) (port : Port) (s : Bool) → same_context port.opener c ≡ s → without c port ≡ (if s then closed port else with_live port (filter (is_other c) port.live))
without_as c port s e = ap (λ t. if t then closed port else with_live port (filter (is_other c) port.live)) e

-- a channel without c among its live receivers is left as it is
none_left : (c : ContextNo) (port : Port) (cs : List ContextNo) → filter (is_other c) cs ≡ cs → same_context port.opener c ≡ false → left_by c (with_live port cs) ≡ with_live port cs
none_left c port [] same other = refl
none_left c port (x ∷ cs) same other = by (q.is_open && is_end q c) refl
  where
    q : Port
    q = record { opener = port.opener; receivers = port.receivers; live = x ∷ cs; is_open = port.is_open }

    by : (b : Bool) → (q.is_open && is_end q c) ≡ b → left_by c q ≡ q
    by false e = left_as c q false e
    by true e = left_as c q true e ∙ without_as c q false other ∙ ap (with_live q) same

-- who has left a channel leaves it no further
pub left_twice : (c : ContextNo) (port : Port) → left_by c (left_by c port) ≡ left_by c port
left_twice c port = by (port.is_open && is_end port c) refl
  where
    ended : (s : Bool) → same_context port.opener c ≡ s → left_by c (without c port) ≡ without c port
    ended true e = let w = without_as c port true e in ap (left_by c) w ∙ sym w
    ended false e = let w = without_as c port false e in ap (left_by c) w ∙ none_left c port (filter (is_other c) port.live) (filter_twice c port.live) e ∙ sym w

    by : (b : Bool) → (port.is_open && is_end port c) ≡ b → left_by c (left_by c port) ≡ left_by c port
    by false e = ap (left_by c) (left_as c port false e)
    by true e = let l = left_as c port true e in ap (left_by c) l ∙ ended (same_context port.opener c) refl ∙ sym l

-- one more channel is left
pub left_more : (c : ContextNo) (ns : List ℕ) (k : ℕ) (start ports ports' : List Port) → LeftAt c ns start ports → ((j : ℕ) → slice_get ports' j ≡ option_map (λ port. cond (k == j) (left_by c port) port) (slice_get ports j)) → LeftAt c (ns ++ k ∷ []) start ports'
left_more c ns k start ports ports' left changed j =
    changed j ∙ ap (option_map (λ port. cond (k == j) (left_by c port) port)) (left j) ∙ rw (has_more ns k j) (by (slice_get start j) (has_number ns j) (k == j))
  where
    by : (o : Option Port) (h s : Bool) → option_map (λ port. cond s (left_by c port) port) (option_map (λ port. cond h (left_by c port) port) o) ≡ option_map (λ port. cond (h || s) (left_by c port) port) o
    by None h s = refl
    by (Some port) true true = ap (λ p. Some p) (left_twice c port)
    by (Some port) true false = refl
    by (Some port) false true = refl
    by (Some port) false false = refl

-- a channel that is left keeps its ends
pub end_still : (c : ContextNo) (own : List ℕ) (i : ℕ) (start ports : List Port) → AreOf start c own → i < length own → LeftAt c (take i own) start ports → is_end_at (slice_get ports (get_or own i 0)) c ≡ true
end_still c own i start ports of within left =
    ap (λ o. is_end_at o c) (left (get_or own i 0)) ∙ by (slice_get start (get_or own i 0)) (has_number (take i own) (get_or own i 0)) ∙ sym (of (get_or own i 0)) ∙ has_read own i 0 within
  where
    by : (o : Option Port) (b : Bool) → is_end_at (option_map (λ port. cond b (left_by c port) port) o) c ≡ is_end_at o c
    by None b = refl
    by (Some port) true = left_ends c port c
    by (Some port) false = refl

-- once its own channels are left, c has left them all
pub left_all : (c : ContextNo) (own : List ℕ) (start ports : List Port) → AreOf start c own → LeftAt c own start ports → ports ≡ map (left_by c) start
left_all c own start ports of left = read_alike ports (map (left_by c) start) (λ j. left j ∙ rw (of j) (by (slice_get start j)) ∙ sym (slice_get-map (left_by c) start j))
  where
    stays : (port : Port) (t : Bool) → is_end port c ≡ t → cond t (left_by c port) port ≡ left_by c port
    stays port true e = refl
    stays port false e = rw e (shut port.is_open)
      where
        shut : (b : Bool) → port ≡ (if b && false then without c port else port)
        shut true = refl
        shut false = refl

    by : (o : Option Port) → option_map (λ port. cond (is_end_at o c) (left_by c port) port) o ≡ option_map (left_by c) o
    by None = refl
    by (Some port) = ap (λ p. Some p) (stays port (is_end port c) refl)

pub left_step : (c : ContextNo) (own : List ℕ) (i : ℕ) (start ports ports' : List Port) → i < length own → LeftAt c (take i own) start ports → ((j : ℕ) → slice_get ports' j ≡ option_map (λ port. cond (get_or own i 0 == j) (left_by c port) port) (slice_get ports j)) → LeftAt c (take (i + 1) own) start ports'
left_step c own i start ports ports' within left changed = rw (take_more own i 0 within) (left_more c (take i own) (get_or own i 0) start ports ports' left changed)

pub left_end : (c : ContextNo) (own : List ℕ) (i : ℕ) (start ports : List Port) → length own ≤ i → AreOf start c own → LeftAt c (take i own) start ports → ports ≡ map (left_by c) start
left_end c own i start ports past of left = left_all c own start ports of (subst (λ ns. LeftAt c ns start ports) (take_all i own past) left)

-- one channel is left
pub left_here : (c : ContextNo) (k : ℕ) (ports ports' : List Port) → IfSome (slice_get ports k) (λ port. ports' ≡ set ports k (without c port)) → is_open_port (slice_get ports k) ≡ true → is_end_at (slice_get ports k) c ≡ true → (j : ℕ) → slice_get ports' j ≡ option_map (λ port. cond (k == j) (left_by c port) port) (slice_get ports j)
left_here c k ports ports' made open_now end_is j = by (slice_get ports k) refl made open_now end_is
  where
    by : (o : Option Port) → slice_get ports k ≡ o → IfSome o (λ port. ports' ≡ set ports k (without c port)) → is_open_port o ≡ true → is_end_at o c ≡ true → slice_get ports' j ≡ option_map (λ port. cond (k == j) (left_by c port) port) (slice_get ports j)
    by None at made open_now end_is = absurd (false≢true open_now)
    by (Some port) at made open_now end_is = ap (λ l. slice_get l j) made ∙ here (k == j) refl
      where
        here : (s : Bool) → (k == j) ≡ s → slice_get (set ports k (without c port)) j ≡ option_map (λ port. cond s (left_by c port) port) (slice_get ports j)
        here true e = rw (← eqb-true k j e) (set_here ports k (without c port) port at ∙ sym (rw at (rw (open_now, end_is) refl)))
        here false e = set_there ports k j (without c port) (other_is k j e) ∙ sym (option_map_id (slice_get ports j))

-- one that is closed stays
pub stays_here : (c : ContextNo) (k : ℕ) (ports : List Port) → is_open_port (slice_get ports k) ≡ false → (j : ℕ) → slice_get ports j ≡ option_map (λ port. cond (k == j) (left_by c port) port) (slice_get ports j)
stays_here c k ports shut j = by (k == j) refl (slice_get ports j) refl
  where
    by : (s : Bool) → (k == j) ≡ s → (o : Option Port) → slice_get ports j ≡ o → o ≡ option_map (λ port. cond s (left_by c port) port) o
    by s e None at = refl
    by false e (Some port) at = refl
    by true e (Some port) at =
        let h : port.is_open ≡ false = rw (ap (slice_get ports) (eqb-true k j e) ∙ at) at shut in
        rw h refl
