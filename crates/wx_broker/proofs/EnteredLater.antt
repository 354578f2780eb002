-- What waits in the queues once a context has come in.
use Rattle.std.proofs.Common.{◌≡◌, List, [], ◌∷◌, ◌++◌, length, refl, ap, sym, ◌∙◌, Bool, true, false, cond, arith, subst}
use Rattle.std.specs.Prelude.{IfSome, Some, slice_get, ◌&&◌, ◌==◌}
use Rattle.wx_id.specs.declared.numbers.ContextNo.{ContextNo}
use Rattle.wx_id.specs.declared.events.Event.{Event}
use Rattle.wx_context.specs.declared.contexts.Context.{Context}
use Rattle.wx_external.specs.World.{WorldLists}
use Rattle.wx_machine.specs.declared.entries.Who.TheVariants.{Context as ByContext}
use Rattle.wx_machine.specs.declared.entries.Call.TheVariants.{Enter}
use Rattle.wx_machine.specs.declared.entries.Answer.TheVariants.{Entered}
use Rattle.wx_machine.specs.declared.entries.Entry.{Entry}
use Rattle.wx_machine.specs.Words.{contexts, pending}
use Rattle.wx_laws.specs.Legal.{IsLegalPast}
use Rattle.wx_laws.proofs.ChannelsLater.{place_more}
use Rattle.wx_broker.proofs.TestsLater.{same_is}
use Rattle.wx_broker.specs.Told.{HasPending}
use Rattle.wx_broker.proofs.PendingLater.{pending_same}
use Rattle.wx_broker.proofs.StrangersLater.{new_is_strange, none_pending}

-- the entry in which a context came in with number c
abbrev pub enter_entry : ContextNo → Context → Entry
enter_entry c x = record { who = ByContext c; call = Enter x; answer = Entered c }

-- a queue more has what is pending for a context that has not come in
pub pending_more : (world : WorldLists) (past : List Entry) (queues queues' : List (List Event)) → IsLegalPast world past → HasPending past queues → length queues ≡ contexts past → queues' ≡ queues ++ [] ∷ [] → HasPending past queues'
pending_more world past queues queues' legal waits count grown d stays =
    subst (λ o. IfSome o (λ queue. queue ≡ pending past d)) (sym at) (by (length queues == d.0) refl)
  where
    at : slice_get queues' d.0 ≡ cond ((length queues == d.0) && true) (Some []) (slice_get queues d.0)
    at = ap (λ l. slice_get l d.0) grown ∙ place_more (λ o. o) queues (Some []) d.0

    by : (b : Bool) → (length queues == d.0) ≡ b → IfSome (cond (b && true) (Some []) (slice_get queues d.0)) (λ queue. queue ≡ pending past d)
    by true same =
        let here : length queues ≡ d.0 = same_is (length queues) d.0 same in
        sym (none_pending world past d legal (new_is_strange world past d legal (omega (arith, here, count))))
    by false same = waits d stays

-- and what is pending stays where one comes in
pub pending_entered : (world : WorldLists) (past : List Entry) (c : ContextNo) (x : Context) (queues : List (List Event)) → IsLegalPast world (enter_entry c x ∷ past) → HasPending past queues → HasPending (enter_entry c x ∷ past) queues
pending_entered world past c x queues legal waits = pending_same world past (enter_entry c x) queues legal waits refl (λ d. refl)
