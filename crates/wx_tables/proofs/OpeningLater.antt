-- What the opening of a channel makes of the mailboxes.
use Rattle.std.proofs.Common.{◌≡◌, ℕ, suc, zero, ◌+◌, ◌<◌, ◌≤◌, List, [], ◌∷◌, ◌++◌, length, refl, ap, sym, ◌∙◌, Bool, true, false, cond, arith, subst, append-nil}
use Rattle.std.specs.Prelude.{Option, Some, None, IsSome, slice_get, Result, Ok, Err, OnOk, is_err, ◌||◌, ◌&&◌}
use Rattle.std.specs.Option.{option_map, IsSomeAnd}
use Rattle.std.specs.List.{sum_by}
use Rattle.std.proofs.lemmas.List.Sums.{sum_by_push}
use Rattle.std.proofs.lemmas.Option.{none-some, slice_get-map}
use Rattle.std.proofs.Math.Bool.{or-false}
use Rattle.std.proofs.lemmas.Bool.{false≢true, true≢false, eqb-true}
use Rattle.wx_id.proofs.ListLemmas.{read_alike}
use Rattle.wx_id.specs.declared.numbers.ContextNo.{ContextNo}
use Rattle.wx_id.specs.declared.events.Event.{Event}
use Rattle.wx_port.specs.Port.{Port, opened, live_of}
use Rattle.wx_id.specs.Contexts.{same_context, is_among}
use Rattle.wx_one_shot.specs.Requests.{Request, asked, still_open_at}
use Rattle.wx_mailbox.specs.Mailbox.{MailboxState, connected, told, owing, IsRoomier}
use Rattle.wx_id.specs.ByContext.{EachHas, Changed}
use Rattle.wx_mailbox.specs.Mailboxes.{AreRoomier}
use Rattle.wx_tables.specs.State.{owes, awaits, owed_in, AreOwed, queue_in, queues_in}
use Rattle.wx_tables.specs.Ending.{heard, EachQueue, told_each}
use Rattle.wx_tables.specs.Opening.{AreThere, begun, Begun}

mailbox_there : (o : Option MailboxState) → IsSome (option_map queue_in o) → IsSomeAnd o (λ b. 0 ≤ b.room)
mailbox_there None h = absurd (false≢true h)
mailbox_there (Some b) h = omega arith

pub receivers_there : (opener : ContextNo) (to : List ContextNo) (boxes : List MailboxState) → AreThere (opener ∷ to) (queues_in boxes) → EachHas (λ b. 0 ≤ b.room) to boxes
receivers_there opener to boxes there d among = mailbox_there (slice_get boxes d.0) (subst IsSome (slice_get-map queue_in boxes d.0) (there d (rw among (by (same_context opener d)))))
  where
    by : (s : Bool) → (s || true) ≡ true
    by true = refl
    by false = refl

pub opener_there : (opener : ContextNo) (to : List ContextNo) (old boxes : List MailboxState) → AreThere (opener ∷ to) (queues_in old) → AreRoomier old boxes → EachHas (λ b. 0 ≤ b.room) (opener ∷ []) boxes
opener_there opener to old boxes there more d among = by (slice_get old d.0) refl (mailbox_there (slice_get old d.0) (subst IsSome (slice_get-map queue_in old d.0) (there d (rw (sym (or-false (same_context opener d)) ∙ among) refl))))
  where
    with : (b : MailboxState) (o : Option MailboxState) → IsSomeAnd o (IsRoomier b) → IsSomeAnd o (λ b. 0 ≤ b.room)
    with b None h = absurd h
    with b (Some x) h = omega arith

    by : (o : Option MailboxState) → slice_get old d.0 ≡ o → IsSomeAnd o (λ b. 0 ≤ b.room) → IsSomeAnd (slice_get boxes d.0) (λ b. 0 ≤ b.room)
    by None at h = absurd h
    by (Some b) at h = with b (slice_get boxes d.0) (more.each d.0 b at)

-- room alone changes neither the kept places nor the queues
same_at : (P : Option MailboxState → Option MailboxState → Type 0) → P None None → ((a b : MailboxState) → IsRoomier a b → P (Some a) (Some b)) → (old new : List MailboxState) → AreRoomier old new → (d : ℕ) → P (slice_get old d) (slice_get new d)
same_at P none some old new more d = by (slice_get old d) refl
  where
    past : {A B : Type 0} (xs : List A) (ys : List B) → length ys ≡ length xs → (d : ℕ) → slice_get xs d ≡ None → slice_get ys d ≡ None
    past [] [] e d h = refl
    past [] (y ∷ ys) e d h = absurd (omega (arith, e))
    past (x ∷ xs) [] e d h = absurd (omega (arith, e))
    past (x ∷ xs) (y ∷ ys) e zero h = absurd (none-some x (sym h))
    past (x ∷ xs) (y ∷ ys) e (suc d) h = past xs ys (omega (arith, e)) d h

    with : (a : MailboxState) (o : Option MailboxState) → IsSomeAnd o (IsRoomier a) → P (Some a) o
    with a None h = absurd h
    with a (Some b) h = some a b h

    by : (o : Option MailboxState) → slice_get old d ≡ o → P o (slice_get new d)
    by None at = rw (past old new more.count d at) none
    by (Some a) at = with a (slice_get new d) (more.each d a at)

pub roomier_owed : (ports : List Port) (requests : List Request) (old new : List MailboxState) → AreOwed ports requests old → AreRoomier old new → AreOwed ports requests new
roomier_owed ports requests old new owed more = record { each = λ d. same_at (λ a b. owed_in b ≡ owed_in a) refl (λ a b h. h.owed) old new more d.0 ∙ owed.each d }

pub roomier_queues : (old new : List MailboxState) → AreRoomier old new → queues_in new ≡ queues_in old
roomier_queues old new more = read_alike (queues_in new) (queues_in old) (λ d. slice_get-map queue_in new d ∙ same_at (λ a b. option_map queue_in b ≡ option_map queue_in a) refl (λ a b h. ap Some h.events) old new more d ∙ sym (slice_get-map queue_in old d))

last : {A : Type 0} (xs : List A) (x : A) → slice_get (xs ++ x ∷ []) (length xs) ≡ Some x
last [] x = refl
last (y ∷ ys) x = last ys x

-- the channel that was opened last, and the request that was asked last
pub last_live : (ports ports' : List Port) (port : Port) (k : ℕ) → k ≡ length ports → ports' ≡ ports ++ port ∷ [] → live_of (slice_get ports' k) ≡ port.live
last_live ports ports' port k at grown = ap (λ l. live_of (slice_get l k)) grown ∙ ap (λ n. live_of (slice_get (ports ++ port ∷ []) n)) at ∙ ap live_of (last ports port)

pub last_open : (requests requests' : List Request) (request : Request) (r : ℕ) → r ≡ length requests → requests' ≡ requests ++ request ∷ [] → still_open_at (slice_get requests' r) ≡ request.still_open
last_open requests requests' request r at grown = ap (λ l. still_open_at (slice_get l r)) grown ∙ ap (λ n. still_open_at (slice_get (requests ++ request ∷ []) n)) at ∙ ap still_open_at (last requests request)

-- the two changes of the mailboxes are the opening
pub begun_by : (change : MailboxState → MailboxState) (opener : ContextNo) (receivers : List ContextNo) (old mid new : List MailboxState) → is_among receivers opener ≡ false → Changed change receivers old mid → Changed owing (opener ∷ []) mid new → Begun change opener receivers old new
begun_by change opener receivers old mid new apart first second d = second d ∙ rw (first d) (by (slice_get old d.0) (same_context opener d) (is_among receivers d) (λ h. ap (λ (n : ℕ). is_among receivers (record { 0 = n })) (sym (eqb-true opener.0 d.0 h)) ∙ apart))
  where
    by : (o : Option MailboxState) (s a : Bool) → (s ≡ true → a ≡ false) → option_map (λ b. cond (s || false) (owing b) b) (option_map (λ b. cond a (change b) b) o) ≡ option_map (begun change s a) o
    by None s a h = refl
    by (Some b) true true h = absurd (true≢false (h refl))
    by (Some b) true false h = refl
    by (Some b) false true h = refl
    by (Some b) false false h = refl

pub opener_not_told : (opener : ContextNo) (receivers : List ContextNo) → is_among receivers opener ≡ false → (d : ContextNo) → is_among (opener ∷ []) d ≡ true → is_among receivers d ≡ false
opener_not_told opener receivers apart d h = ap (λ (n : ℕ). is_among receivers (record { 0 = n })) (sym (eqb-true opener.0 d.0 (sym (or-false (same_context opener d)) ∙ h))) ∙ apart

-- the mailboxes keep what is due once a channel is opened
pub owed_begun : (ports ports' : List Port) (requests : List Request) (old new : List MailboxState) (opener : ContextNo) (receivers : List ContextNo) (e : Event) → AreOwed ports requests old → EachHas (λ b. 0 < b.room) (opener ∷ []) old → EachHas (λ b. 1 < b.room) receivers old → Begun (connected e) opener receivers old new → ports' ≡ ports ++ opened opener receivers ∷ [] → AreOwed ports' requests new
owed_begun ports ports' requests old new opener receivers e owed at_opener at_receivers told grown = rw grown (record {
  each = λ d.
      let sums : sum_by (owes d) (ports ++ opened opener receivers ∷ []) ≡ sum_by (owes d) ports + owes d (opened opener receivers) = sum_by_push (owes d) ports (opened opener receivers) in
      ap owed_in (told d) ∙ by d (slice_get old d.0) (same_context opener d) refl (is_among receivers d) refl (at_opener d) (at_receivers d) (sum_by (owes d) ports) (sum_by (owes d) (ports ++ opened opener receivers ∷ [])) (sum_by (awaits d) requests) (owed.each d) sums;
})
  where
    by : (d : ContextNo) (o : Option MailboxState) (s : Bool) → same_context opener d ≡ s → (a : Bool) → is_among receivers d ≡ a → ((same_context opener d || false) ≡ true → IsSomeAnd o (λ b. 0 < b.room)) → (is_among receivers d ≡ true → IsSomeAnd o (λ b. 1 < b.room)) → (n m r : ℕ) → owed_in o ≡ n + r → m ≡ n + cond {A = ℕ} (true && (same_context opener d || is_among receivers d)) 1 0 → owed_in (option_map (begun (connected e) s a) o) ≡ m + r
    by d None true is a among at_o at_r n m r h sums = absurd (at_o (rw is refl))
    by d None false is true among at_o at_r n m r h sums = absurd (at_r among)
    by d None false is false among at_o at_r n m r h sums = let s : m ≡ n + 0 = rw (is, among) at sums in omega (arith, h, s)
    by d (Some b) true is a among at_o at_r n m r h sums = let s : m ≡ n + 1 = rw is at sums in omega (arith, h, s)
    by d (Some b) false is true among at_o at_r n m r h sums = let s : m ≡ n + 1 = rw (is, among) at sums in omega (arith, h, s)
    by d (Some b) false is false among at_o at_r n m r h sums = let s : m ≡ n + 0 = rw (is, among) at sums in omega (arith, h, s)

-- the mailboxes keep what is due once a request is asked
pub owed_asked : (ports : List Port) (requests requests' : List Request) (old new : List MailboxState) (asker : ContextNo) (receivers : List ContextNo) (e : Event) → AreOwed ports requests old → EachHas (λ b. 0 < b.room) (asker ∷ []) old → Begun (told e) asker receivers old new → requests' ≡ requests ++ asked asker receivers ∷ [] → AreOwed ports requests' new
owed_asked ports requests requests' old new asker receivers e owed at_asker begun_so grown = rw grown (record {
  each = λ d.
      let sums : sum_by (awaits d) (requests ++ asked asker receivers ∷ []) ≡ sum_by (awaits d) requests + awaits d (asked asker receivers) = sum_by_push (awaits d) requests (asked asker receivers) in
      ap owed_in (begun_so d) ∙ by d (slice_get old d.0) (same_context asker d) refl (is_among receivers d) (at_asker d) (sum_by (owes d) ports) (sum_by (awaits d) requests) (sum_by (awaits d) (requests ++ asked asker receivers ∷ [])) (owed.each d) sums;
})
  where
    by : (d : ContextNo) (o : Option MailboxState) (s : Bool) → same_context asker d ≡ s → (a : Bool) → ((same_context asker d || false) ≡ true → IsSomeAnd o (λ b. 0 < b.room)) → (p n m : ℕ) → owed_in o ≡ p + n → m ≡ n + cond {A = ℕ} (true && same_context asker d) 1 0 → owed_in (option_map (begun (told e) s a) o) ≡ p + m
    by d None true is a at_o p n m h sums = absurd (at_o (rw is refl))
    by d None false is a at_o p n m h sums = let s : m ≡ n + 0 = rw is at sums in omega (arith, h, s)
    by d (Some b) true is a at_o p n m h sums = let s : m ≡ n + 1 = rw is at sums in omega (arith, h, s)
    by d (Some b) false is true at_o p n m h sums = let s : m ≡ n + 0 = rw is at sums in omega (arith, h, s)
    by d (Some b) false is false at_o p n m h sums = let s : m ≡ n + 0 = rw is at sums in omega (arith, h, s)

pub queues_begun : (change : MailboxState → MailboxState) (opener : ContextNo) (receivers : List ContextNo) (e : Event) (old new : List MailboxState) → ((b : MailboxState) → (change b).events ≡ b.events ++ e ∷ []) → is_among receivers opener ≡ false → Begun change opener receivers old new → EachQueue (told_each receivers e) (queues_in old) (queues_in new)
queues_begun change opener receivers e old new tells apart begun_so d =
    slice_get-map queue_in new d.0 ∙ ap (option_map queue_in) (begun_so d)
    ∙ by (slice_get old d.0) (same_context opener d) (is_among receivers d) (λ h. ap (λ (n : ℕ). is_among receivers (record { 0 = n })) (sym (eqb-true opener.0 d.0 h)) ∙ apart)
    ∙ ap (option_map (told_each receivers e d)) (sym (slice_get-map queue_in old d.0))
  where
    by : (o : Option MailboxState) (s a : Bool) → (s ≡ true → a ≡ false) → option_map queue_in (option_map (begun change s a) o) ≡ option_map (λ queue. heard a e queue) (option_map queue_in o)
    by None s a h = refl
    by (Some b) true true h = absurd (true≢false (h refl))
    by (Some b) true false h = ap Some (sym (append-nil b.events))
    by (Some b) false true h = ap Some (tells b)
    by (Some b) false false h = ap Some (sym (append-nil b.events))

-- what holds of a success holds where there is no error
pub ok_holds : {A B P : Type 0} (r : Result A B) → OnOk r P → is_err r ≡ false → P
ok_holds (Ok a) h e = h
ok_holds (Err b) h e = absurd (true≢false e)

pub on_ok : {A B P Q : Type 0} (r : Result A B) → (P → Q) → OnOk r P → OnOk r Q
on_ok (Ok a) f h = f h
on_ok (Err b) f h = tt

-- a context that came in has a queue
pub one_there : (c : ContextNo) (queues : List (List Event)) → c.0 < length queues → AreThere (c ∷ []) queues
one_there c queues within d among = by (same_context c d) refl among
  where
    there : (xs : List (List Event)) (k : ℕ) → k < length xs → IsSome (slice_get xs k)
    there [] k h = absurd (omega (arith, h))
    there (x ∷ xs) zero h = refl
    there (x ∷ xs) (suc k) h = there xs k (omega (arith, h))

    by : (s : Bool) → same_context c d ≡ s → (s || false) ≡ true → IsSome (slice_get queues d.0)
    by true same h = rw (← eqb-true c.0 d.0 same) (there queues c.0 within)
    by false same h = absurd (false≢true h)

-- where nobody is told the queues are as they were
pub none_told : (e : Event) (old new : List (List Event)) → EachQueue (told_each [] e) old new → new ≡ old
none_told e old new told = read_alike new old (λ d. told (record { 0 = d }) ∙ by (slice_get old d))
  where
    by : (o : Option (List Event)) → option_map (λ queue. queue ++ []) o ≡ o
    by None = refl
    by (Some queue) = ap Some (append-nil queue)
