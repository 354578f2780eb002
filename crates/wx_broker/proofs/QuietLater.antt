-- What waits after a call that tells nobody anything.
use Rattle.std.proofs.Common.{◌≡◌, List, [], ◌∷◌, ◌++◌, refl, Bool, true, false}
use Rattle.std.specs.Prelude.{reverse}
use Rattle.std.proofs.lemmas.Bool.{false≢true}
use Rattle.wx_id.specs.declared.numbers.ContextNo.{ContextNo}
use Rattle.wx_id.specs.declared.events.Event.{Event}
use Rattle.wx_external.specs.World.{WorldLists}
use Rattle.wx_machine.specs.declared.entries.Who.{Who}
use Rattle.wx_machine.specs.declared.entries.Who.TheVariants.{Context as ByContext, Host as ByHost}
use Rattle.wx_machine.specs.declared.entries.Call.{Call}
use Rattle.wx_machine.specs.declared.entries.Call.TheVariants.{HostTake, Listen, Take}
use Rattle.wx_machine.specs.declared.entries.Answer.{Answer}
use Rattle.wx_machine.specs.declared.entries.Entry.{Entry}
use Rattle.wx_machine.specs.Words.{delivered, FollowsMachine}
use Rattle.wx_port.specs.Port.{Port}
use Rattle.wx_one_shot.specs.Requests.{Request}
use Rattle.wx_laws.specs.Legal.{IsLegalPast}
use Rattle.wx_broker.specs.Tables.{IsKept}
use Rattle.wx_broker.proofs.KeptLater.{kept_quiet}
use Rattle.wx_broker.specs.Told.{HasPending}
use Rattle.wx_broker.proofs.PendingLater.{keeps_all, pending_same}

-- a listen, or a take of a host
abbrev pub is_unheard : Call → Bool
is_unheard (Listen l) = true
is_unheard HostTake = true
is_unheard _ = false

-- one of these, or a take of a context
abbrev pub is_tableless : Call → Bool
is_tableless Take = true
is_tableless call = is_unheard call

unheard_keeps : (call : Call) (answer : Answer) → is_unheard call ≡ true → keeps_all call answer ≡ true
unheard_keeps (Listen l) answer h = refl
unheard_keeps HostTake answer h = refl
unheard_keeps _ answer h = absurd (false≢true h)

unheard_tells : (past : List Entry) (who : Who) (call : Call) (answer : Answer) (d : ContextNo) → is_unheard call ≡ true → delivered past (record { who = who; call = call; answer = answer }) d ≡ []
unheard_tells past (ByContext c) (Listen l) answer d h = refl
unheard_tells past (ByHost g) (Listen l) answer d h = refl
unheard_tells past (ByContext c) HostTake answer d h = refl
unheard_tells past (ByHost g) HostTake answer d h = refl
unheard_tells past who _ answer d h = absurd (false≢true h)

-- what waits after a listen or a take of a host is what waited, whatever it is answered
pub pending_quiet : (world : WorldLists) (past : List Entry) (e : Entry) (queues : List (List Event)) → IsLegalPast world (e ∷ past) → is_unheard e.call ≡ true → HasPending past queues → HasPending (e ∷ past) queues
pending_quiet world past e queues legal h waits =
    pending_same world past e queues legal waits (unheard_keeps e.call e.answer h) (λ d. unheard_tells past e.who e.call e.answer d h)

-- the journal is legal and the tables tell it, after a listen or a take, whatever it is answered
pub kept_unheard : (world : WorldLists) (journal : List Entry) (e : Entry) (ports : List Port) (rows : List Request) → IsKept world journal ports rows → FollowsMachine world (reverse journal) e → is_tableless e.call ≡ true → IsKept world (journal ++ e ∷ []) ports rows
kept_unheard world journal e ports rows kept follows h = by e.who e.call e.answer follows h
  where
    by : (who : Who) (call : Call) (answer : Answer) → let now : Entry = record { who = who; call = call; answer = answer } in FollowsMachine world (reverse journal) now → is_tableless call ≡ true → IsKept world (journal ++ now ∷ []) ports rows
    by who Take answer follows h = kept_quiet world journal _ (record { who = who; call = Take; answer = answer }) ports rows kept follows refl refl
    by who (Listen l) answer follows h = kept_quiet world journal _ (record { who = who; call = Listen l; answer = answer }) ports rows kept follows refl refl
    by who HostTake answer follows h = kept_quiet world journal _ (record { who = who; call = HostTake; answer = answer }) ports rows kept follows refl refl
    by who call answer follows h = absurd (false≢true h)
