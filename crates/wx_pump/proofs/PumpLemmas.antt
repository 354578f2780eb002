-- Entries that a pump made at its desk, after others.
use Rattle.std.proofs.Common.{◌≡◌, ℕ, ◌+◌, List, [], ◌∷◌, ◌++◌, Bool, true, false, cond, refl, ap, ◌∙◌, sym, subst, append_assoc}
use Rattle.std.specs.Prelude.{option_to_list}
use Rattle.std.proofs.lemmas.Bool.{true≢false}
use Rattle.std.proofs.lemmas.List.{map-append, append_cancel_right}
use Rattle.wx_id.specs.declared.numbers.HostNo.{HostNo}
use Rattle.wx_external.specs.World.{WorldLists}
use Rattle.wx_machine.specs.declared.entries.Who.{Who}
use Rattle.wx_machine.specs.declared.entries.Call.{Call}
use Rattle.wx_machine.specs.declared.entries.Answer.{Answer}
use Rattle.wx_machine.specs.declared.entries.Entry.{Entry}
use Rattle.wx_machine.specs.declared.entries.Who.TheVariants.{Host as ByHost}
use Rattle.wx_machine.specs.declared.entries.Call.TheVariants.{HostTake}
use Rattle.wx_machine.specs.declared.entries.Answer.TheVariants.{Text as HasText}
use Rattle.wx_machine.specs.Words.{FollowsMachine, EachAfter, is_host_end, answer_after}
use Rattle.wx_desk.specs.History.{Seen, entries_in, AreOthers, calls_in}
use Rattle.wx_desk.specs.Desks.{HostDeskState, past_of, MakesNone, MakesOne, own_entry}
use Rattle.wx_desk.proofs.HistoryLemmas.{others_first, others_rest}
use Rattle.wx_desk.proofs.TextLemmas.{text_stays}
use Rattle.wx_host_launch.specs.Halves.{text_of_take, texts_of_takes, NoneEnds}
use Rattle.wx_host_launch.proofs.HostLemmas.{taken_short}
use Rattle.wx_host_launch.proofs.StepLemmas.{calls-none, calls-append}
use Rattle.wx_pump.specs.Pumps.{is_last, is_over, Paced, begins, goes_on, halts, comes, makes, TextsStay}

-- Calls, of which none is an end

pub none_ends_append : (cs ds : List Call) → NoneEnds cs → NoneEnds ds → NoneEnds (cs ++ ds)
none_ends_append [] ds h k = k
none_ends_append (c ∷ cs) ds (e, h) k = (e, none_ends_append cs ds h k)

pub none_ends_both : (xs ys : List Seen) → NoneEnds (calls_in xs) → NoneEnds (calls_in ys) → NoneEnds (calls_in (xs ++ ys))
none_ends_both xs ys h k = subst NoneEnds (sym (calls-append xs ys)) (none_ends_append (calls_in xs) (calls_in ys) h k)

pub past_between : (a b : HostDeskState) (more : List Seen) → b.history ≡ more ++ a.history → past_of b ≡ entries_in more ++ past_of a
past_between a b more e = ap entries_in e ∙ map-append (λ (s : Seen). s.entry) more a.history

-- What came in: entries of others alone, or one own entry after them

pub are_quiet : (b c : HostDeskState) (more : List Seen) → MakesNone b c → c.history ≡ more ++ b.history → AreOthers more
are_quiet b c more none seen = subst AreOthers (sym (append_cancel_right more none.others b.history (sym seen ∙ none.seen))) none.none_own

pub record IsOne (more : List Seen) (s : Seen) : Type 0 where
  pub others : List Seen
  pub is : more ≡ s ∷ others
  pub none_own : AreOthers others

pub one_made : (b c : HostDeskState) (call : Call) (answer : Answer) (one : MakesOne b c call answer) → c.history ≡ (own_entry one.between call answer ∷ one.others.others) ++ b.history
one_made b c call answer one = ap (λ (d : HostDeskState). d.history) one.made ∙ ap (λ xs. own_entry one.between call answer ∷ xs) one.others.seen

pub is_one : (b c : HostDeskState) (call : Call) (answer : Answer) (more : List Seen) (one : MakesOne b c call answer) → c.history ≡ more ++ b.history → IsOne more (own_entry one.between call answer)
is_one b c call answer more one seen =
    let own = own_entry one.between call answer in
    record { others = one.others.others; is = append_cancel_right more (own ∷ one.others.others) b.history (sym seen ∙ one_made b c call answer one); none_own = one.others.none_own }

pub paced_others : (most : ℕ) (h : HostNo) (going : List Entry → Type 0) (past : List Entry) (xs more : List Seen) (n : ℕ) → AreOthers xs → Paced most h going past more n → Paced most h going past (xs ++ more) n
paced_others most h going past [] more n none p = p
paced_others most h going past (x ∷ xs) more n none p = comes (others_first x xs none) (paced_others most h going past xs more n (others_rest x xs none) p)

pub over_others : (xs more : List Seen) → AreOthers xs → is_over (xs ++ more) ≡ is_over more
over_others [] more none = refl
over_others (x ∷ xs) more none = ap (λ b. cond b (is_last x.entry.call x.entry.answer) (is_over (xs ++ more))) (others_first x xs none) ∙ over_others xs more (others_rest x xs none)

pub paced_one : (most : ℕ) (h : HostNo) (going : List Entry → Type 0) (past : List Entry) (came more : List Seen) (s : Seen) (n : ℕ) → IsOne came s → s.own ≡ true → s.entry.who ≡ ByHost h → Paced most h going past more (n + 1) → Paced most h going past (came ++ more) n
paced_one most h going past came more s n one own by p =
    let P : List Seen → Type 0 = λ xs. Paced most h going past (xs ++ more) n in
    subst P (sym one.is) (makes own by (paced_others most h going past one.others more (n + 1) one.none_own p))

pub over_one : (came more : List Seen) (s : Seen) → IsOne came s → s.own ≡ true → is_over (came ++ more) ≡ is_last s.entry.call s.entry.answer
over_one came more s one own = ap (λ xs. is_over (xs ++ more)) one.is ∙ ap (λ b. cond b (is_last s.entry.call s.entry.answer) (is_over (one.others ++ more))) own

pub ends_one : (came : List Seen) (s : Seen) → IsOne came s → s.own ≡ true → is_host_end s.entry.call ≡ false → NoneEnds (calls_in came)
ends_one came s one own not =
    let e : calls_in came ≡ s.entry.call ∷ [] = ap calls_in one.is ∙ ap (λ b. cond b (s.entry.call ∷ []) [] ++ calls_in one.others) own ∙ ap (λ cs. s.entry.call ∷ cs) (calls-none one.others one.none_own) in
    subst NoneEnds (sym e) (not, tt)

-- What was taken, as the journal told it then

-- the texts that the takes at this desk were answered with, each as its own past has it
abbrev pub taken_in : List Entry → List Seen → List (List ℕ)
taken_in past [] = []
taken_in past (s ∷ more) = taken_in past more ++ cond s.own (text_of_take (entries_in more ++ past) s.entry.call s.entry.answer) []

text_later : (world : WorldLists) (h : HostNo) (past later : List Entry) (who : Who) (call : Call) (answer : Answer) → EachAfter (FollowsMachine world) past → who ≡ ByHost h → answer ≡ answer_after world past who call → text_of_take (later ++ past) call answer ≡ text_of_take past call answer
text_later world h past later who HostTake (HasText n) legal by is =
    let short = taken_short world past h n legal (is ∙ ap (λ w. answer_after world past w HostTake) by) in
    ap option_to_list (text_stays later past n short.text short.carried ∙ sym short.carried)
text_later world h past later who _ _ legal by is = refl

where_own : (b : Bool) (x y : List (List ℕ)) → (b ≡ true → x ≡ y) → cond b x [] ≡ cond b y []
where_own true x y e = e refl
where_own false x y e = refl

taken_step : (past later : List Entry) (s : Seen) (more : List Seen) → ((then : List Entry) → texts_of_takes (then ++ (entries_in more ++ past)) more ≡ taken_in past more)
    → (s.own ≡ true → (then : List Entry) → text_of_take (then ++ (entries_in more ++ past)) s.entry.call s.entry.answer ≡ text_of_take (entries_in more ++ past) s.entry.call s.entry.answer)
    → texts_of_takes (later ++ (entries_in (s ∷ more) ++ past)) (s ∷ more) ≡ taken_in past (s ∷ more)
taken_step past later s more before now =
    let Q : List Entry = entries_in more ++ past in
    let then : List Entry = later ++ s.entry ∷ [] in
    let T : List Entry → List (List ℕ) = λ p. texts_of_takes p (s ∷ more) in
    sym (ap T (append_assoc later (s.entry ∷ []) Q))
    ∙ ap (λ ts. ts ++ cond s.own (text_of_take (then ++ Q) s.entry.call s.entry.answer) []) (before then)
    ∙ ap (λ ts. taken_in past more ++ ts) (where_own s.own (text_of_take (then ++ Q) s.entry.call s.entry.answer) (text_of_take Q s.entry.call s.entry.answer) (λ own. now own then))

pub taken_later : (world : WorldLists) (most : ℕ) (h : HostNo) (going : List Entry → Type 0) (past : List Entry) (more : List Seen) (n : ℕ) → Paced most h going past more n → EachAfter (FollowsMachine world) (entries_in more ++ past) → (later : List Entry) → texts_of_takes (later ++ (entries_in more ++ past)) more ≡ taken_in past more
taken_later world most h going past [] n p legal later = refl
taken_later world most h going past (s ∷ more) _ (goes_on g p) legal later = taken_later world most h going past (s ∷ more) _ p legal later
taken_later world most h going past (s ∷ more) _ (halts p) legal later = taken_later world most h going past (s ∷ more) _ p legal later
taken_later world most h going past (s ∷ more) n (comes other p) legal later =
    taken_step past later s more (λ then. taken_later world most h going past more n p legal.0 then) (λ own. absurd (true≢false (sym own ∙ other)))
taken_later world most h going past (s ∷ more) n (makes own by p) legal later =
    taken_step past later s more (λ then. taken_later world most h going past more (n + 1) p legal.0 then)
    (λ is then. text_later world h (entries_in more ++ past) then s.entry.who s.entry.call s.entry.answer legal.0 by legal.1.answered)

-- what a pump took is told the same by every later journal
pub texts_stay : (most : ℕ) (h : HostNo) (going : List Entry → Type 0) (old new : HostDeskState) (more : List Seen) (n : ℕ) → new.history ≡ more ++ old.history → EachAfter (FollowsMachine new.world) (past_of new) → Paced most h going (past_of old) more n → TextsStay (past_of new) more
texts_stay most h going old new more n seen legal p =
    let is : past_of new ≡ entries_in more ++ past_of old = past_between old new more seen in
    let same = taken_later new.world most h going (past_of old) more n p (subst (EachAfter (FollowsMachine new.world)) is legal) in
    subst (λ past. TextsStay past more) (sym is) (λ later. same later ∙ sym (same []))

-- the host's own entry, as its desk's
pub by_its_host : (a b between : HostDeskState) → MakesNone b between → b.who ≡ a.who → ByHost between.who ≡ ByHost a.who
by_its_host a b between none who = ap ByHost (none.same_who ∙ who)

-- How a pump goes on that has not come to its end

pub record GoesOn (most : ℕ) (h : HostNo) (going : List Entry → Type 0) (past : List Entry) (more : List Seen) (left : ℕ) : Type 0 where
  pub paced : Paced most h going past more left
  pub none_end : NoneEnds (calls_in more)
  pub not_over : is_over more ≡ false

pub on_begins : (most : ℕ) (h : HostNo) (going : List Entry → Type 0) (past : List Entry) → GoesOn most h going past [] 0
on_begins most h going past = record { paced = begins; none_end = tt; not_over = refl }

pub on_others : (most : ℕ) (h : HostNo) (going : List Entry → Type 0) (past : List Entry) (came more : List Seen) (n : ℕ) → AreOthers came → GoesOn most h going past more n → GoesOn most h going past (came ++ more) n
on_others most h going past came more n none on = record {
  paced = paced_others most h going past came more n none on.paced;
  none_end = none_ends_both came more (subst NoneEnds (sym (calls-none came none)) tt) on.none_end;
  not_over = over_others came more none ∙ on.not_over;
}

pub on_one : (most : ℕ) (h : HostNo) (going : List Entry → Type 0) (past : List Entry) (came more : List Seen) (s : Seen) (n : ℕ) → IsOne came s → s.own ≡ true → s.entry.who ≡ ByHost h → is_host_end s.entry.call ≡ false → is_last s.entry.call s.entry.answer ≡ false → GoesOn most h going past more (n + 1) → GoesOn most h going past (came ++ more) n
on_one most h going past came more s n one own by not last on = record {
  paced = paced_one most h going past came more s n one own by on.paced;
  none_end = none_ends_both came more (ends_one came s one own not) on.none_end;
  not_over = over_one came more s one own ∙ last;
}

pub on_asked : (most : ℕ) (h : HostNo) (going : List Entry → Type 0) (past : List Entry) (more : List Seen) (n : ℕ) → going (entries_in more ++ past) → GoesOn most h going past more n → GoesOn most h going past more most
on_asked most h going past more n known on = record { paced = goes_on known on.paced; none_end = on.none_end; not_over = on.not_over }
