-- What a host that has ended worked for is over.
use Rattle.std.proofs.Common.{◌≡◌, ℕ, suc, zero, ◌<◌, ◌≤◌, List, [], ◌∷◌, ◌++◌, length, refl, ap, ◌∙◌, Bool, true, false, arith, subst}
use Rattle.std.specs.Prelude.{Option, Some, None, slice_get, ◌&&◌, ◌||◌}
use Rattle.std.proofs.lemmas.Bool.{false≢true, ltb-true}
use Rattle.std.proofs.lemmas.Option.{none-some}
use Rattle.wx_id.specs.declared.numbers.HostNo.{HostNo}
use Rattle.wx_external.specs.World.{WorldLists}
use Rattle.wx_machine.specs.declared.entries.Who.{Who}
use Rattle.wx_machine.specs.declared.entries.Who.TheVariants.{Context as ByContext, Host as ByHost}
use Rattle.wx_machine.specs.declared.entries.Call.{Call}
use Rattle.wx_machine.specs.declared.entries.Call.TheVariants.{HostEnded}
use Rattle.wx_machine.specs.declared.entries.Answer.{Answer}
use Rattle.wx_machine.specs.declared.entries.Entry.{Entry}
use Rattle.wx_machine.specs.declared.entries.Reason.{Reason}
use Rattle.wx_machine.specs.declared.work.Work.{Work}
use Rattle.wx_machine.specs.declared.work.Work.TheVariants.{Channel as ForChannel, Request as ForRequest}
use Rattle.wx_machine.specs.Words.{ends_channel, ends_request, has_ended, hosts, is_by_host, is_closed, is_for_channel, is_for_request, is_host_end, is_over, is_settled}
use Rattle.wx_machine.specs.Words.{may_make, Start, starts, work_in, work_of}
use Rattle.wx_laws.specs.Legal.{IsLegalPast}
use Rattle.wx_broker.proofs.PortsLater.{closed_more, ended_entry}
use Rattle.wx_broker.proofs.RequestsLater.{settled_more}
use Rattle.wx_broker.proofs.TestsLater.{outside, same_is, same_self}
use Rattle.std.specs.Option.{option_to_list}

-- what stands in a list stands there in a longer one
pub there_still : {X : Type 0} (xs ys : List X) (k : ℕ) (x : X) → slice_get xs k ≡ Some x → slice_get (xs ++ ys) k ≡ Some x
there_still [] ys k x h = absurd (none-some x h)
there_still (y ∷ xs) ys zero x h = h
there_still (y ∷ xs) ys (suc k) x h = there_still xs ys k x h

work_stays : (e : Entry) (past : List Entry) (h : HostNo) (work : Work) → work_of past h ≡ Some work → work_of (e ∷ past) h ≡ Some work
work_stays e past h work works = by (slice_get (hosts past) h.0) refl works
  where
    by : (o : Option Start) → slice_get (hosts past) h.0 ≡ o → work_in o ≡ Some work → work_of (e ∷ past) h ≡ Some work
    by None is w = absurd (none-some work w)
    by (Some start) is w = ap work_in (there_still (hosts past) (option_to_list (starts past e)) h.0 start is) ∙ w

or_true : (a : Bool) → (a || true) ≡ true
or_true true = refl
or_true false = refl

-- what is over stays over
over_stays : (e : Entry) (past : List Entry) (work : Work) → is_over past (Some work) ≡ true → is_over (e ∷ past) (Some work) ≡ true
over_stays e past (ForChannel k) over = closed_more e past k.0 ∙ ap (λ b. b || ends_channel past e k.0) over
over_stays e past (ForRequest r) over = settled_more e past r.0 ∙ ap (λ b. b || ends_request past e r.0) over

-- the end of a host ends what it works for
ends_work : (past : List Entry) (h : HostNo) (reason : Reason) (answer : Answer) (work : Work) → work_of past h ≡ Some work → is_over (ended_entry h reason answer ∷ past) (Some work) ≡ true
ends_work past h reason answer (ForChannel k) works =
    closed_more (ended_entry h reason answer) past k.0
    ∙ ap (λ b. is_closed past k.0 || b) (ap (is_for_channel k.0) works ∙ same_self k.0)
    ∙ or_true (is_closed past k.0)
ends_work past h reason answer (ForRequest r) works =
    settled_more (ended_entry h reason answer) past r.0
    ∙ ap (λ b. is_settled past r.0 || b) (ap (is_for_request r.0) works ∙ same_self r.0)
    ∙ or_true (is_settled past r.0)

-- a host whose number was given out works for something
given_works : (past : List Entry) (h : HostNo) (P : Type 0) → h.0 < length (hosts past) → ((work : Work) → work_of past h ≡ Some work → P) → P
given_works past h P given then_so = by (slice_get (hosts past) h.0) refl
  where
    by : (o : Option Start) → slice_get (hosts past) h.0 ≡ o → P
    by None is = let end : length (hosts past) ≤ h.0 = outside (hosts past) h.0 is in absurd (omega (arith, given, end))
    by (Some start) is = then_so start.work (ap work_in is)

work_over : (past : List Entry) (h : HostNo) (P : Type 0) → is_over past (work_of past h) ≡ true → ((work : Work) → work_of past h ≡ Some work → is_over past (Some work) ≡ true → P) → P
work_over past h P over then_so = by (work_of past h) refl over
  where
    by : (o : Option Work) → work_of past h ≡ o → is_over past o ≡ true → P
    by None is o = absurd (false≢true o)
    by (Some work) is o = then_so work is o

ends_now : (past : List Entry) (who : Who) (call : Call) (answer : Answer) (h : HostNo) → let e : Entry = record { who = who; call = call; answer = answer } in may_make past who call ≡ true → (is_host_end call && is_by_host who h) ≡ true → is_over (e ∷ past) (work_of (e ∷ past) h) ≡ true
ends_now past (ByHost g) (HostEnded reason) answer h may now =
    let e : Entry = ended_entry g reason answer in
    let same : g.0 ≡ h.0 = same_is g.0 h.0 now in
    let one : g ≡ h = ap (λ (m : ℕ). record { 0 = m }) same in
    let given : g.0 < length (hosts past) = ltb-true g.0 (length (hosts past)) may in
    subst (λ (x : HostNo). is_over (e ∷ past) (work_of (e ∷ past) x) ≡ true) one
    (given_works past g (is_over (e ∷ past) (work_of (e ∷ past) g) ≡ true) given
    (λ work works. ap (is_over (e ∷ past)) (work_stays e past g work works) ∙ ends_work past g reason answer work works))
ends_now past (ByContext c) (HostEnded reason) answer h may now = absurd (false≢true now)
ends_now past who call answer h may now = absurd (false≢true now)

-- where a host has ended, what it worked for is over
pub ended_over : (world : WorldLists) (past : List Entry) (h : HostNo) → IsLegalPast world past → has_ended past h ≡ true → is_over past (work_of past h) ≡ true
ended_over world [] h legal ended = absurd (false≢true ended)
ended_over world (e ∷ past) h legal ended = by (has_ended past h) refl ended (λ before. ended_over world past h legal.0 before)
  where
    by : (b : Bool) → has_ended past h ≡ b → (b || (is_host_end e.call && is_by_host e.who h)) ≡ true → (has_ended past h ≡ true → is_over past (work_of past h) ≡ true) → is_over (e ∷ past) (work_of (e ∷ past) h) ≡ true
    by true before now was =
        work_over past h (is_over (e ∷ past) (work_of (e ∷ past) h) ≡ true) (was before)
        (λ work works over. ap (is_over (e ∷ past)) (work_stays e past h work works) ∙ over_stays e past work over)
    by false before now was = ends_now past e.who e.call e.answer h legal.1.may now
