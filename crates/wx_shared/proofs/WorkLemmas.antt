-- What a call of the broker is as a turn of the lock.
use Rattle.std.proofs.Common.{◌≡◌, ℕ, ◌+◌, List, [], ◌∷◌, ◌++◌, refl, sym, subst, ◌∙◌, Bool, true, false, Option, Some, None}
use Rattle.wx_id.specs.declared.numbers.ContextNo.{ContextNo}
use Rattle.wx_external.specs.World.{WorldLists}
use Rattle.wx_machine.specs.declared.entries.Who.{Who}
use Rattle.wx_machine.specs.declared.entries.Who.TheVariants.{Context}
use Rattle.wx_machine.specs.declared.entries.Call.{Call}
use Rattle.wx_machine.specs.declared.entries.Call.TheVariants.{Take}
use Rattle.wx_machine.specs.declared.entries.Answer.{Answer}
use Rattle.wx_machine.specs.declared.entries.Entry.{Entry}
use Rattle.wx_machine.specs.Words.{FollowsMachine, IsLegal, EachAfter}
use Rattle.std.specs.Prelude.{reverse, ◌||◌}
use Rattle.std.proofs.lemmas.Bool.{false≢true}
use Rattle.wx_broker.specs.State.{BrokerState}
use Rattle.wx_broker.specs.Steps.{Appends, Stays}
use Rattle.wx_turn.specs.Works.{entries, StandsFor}
use Rattle.wx_turn.specs.Entries.{one_entry_more, nothing_more}
use Rattle.wx_shared.specs.declared.taking.Taken.{Taken}
use Rattle.wx_shared.specs.declared.taking.Taken.TheVariants.{Nothing, Took, Refused}
use Rattle.wx_shared.specs.Works.{entry_by, past_in, IsMade, MarksCall, IsTaken, MarksTake, LeavesLegal}

-- where it is not told to stop, it is not over
pub none_over : (flag over stop : Bool) → stop ≡ (flag || over) → stop ≡ false → over ≡ false
none_over true over stop is on = absurd (false≢true (sym on ∙ is))
none_over false over stop is on = sym is ∙ on

-- a turn of which this is said, and what its mark is
abbrev pub Leaves : (Option Entry → Type 0) → BrokerState → BrokerState → ℕ → List (Option Entry) → Type 0
Leaves said old new turns h =
    (mark : Option Entry) × StandsFor new.entries turns (h ++ mark ∷ []) × (new.world ≡ old.world) × LeavesLegal (said mark) old.world h mark

module _ (old new : BrokerState) (turns : ℕ) (h : List (Option Entry)) where
  legal_then : (mark : Option Entry) → entries (h ++ mark ∷ []) ≡ new.entries → IsLegal new.world new.entries → new.world ≡ old.world → EachAfter (FollowsMachine old.world) (past_in (h ++ mark ∷ []))
  legal_then mark is legal same =
      subst (λ (world : WorldLists). EachAfter (FollowsMachine world) (past_in (h ++ mark ∷ []))) same (subst (λ (es : List Entry). EachAfter (FollowsMachine new.world) (reverse es)) (sym is) legal)

  -- nothing was changed
  pub leaves_none : (said : Option Entry → Type 0) → StandsFor old.entries turns h → IsLegal new.world new.entries → Stays old new → said None → Leaves said old new (turns + 1) h
  leaves_none said stands legal stays is =
      let f = nothing_more old.entries new.entries turns h stays.same_entries stands in
      (None, f, stays.same_world, record { is = is; legal = legal_then None f.0 legal stays.same_world })

  -- an entry was appended
  pub leaves_one : (said : Option Entry → Type 0) (who : Who) (call : Call) (answer : Answer) → StandsFor old.entries turns h → IsLegal new.world new.entries → Appends old new who call answer
      → said (Some (entry_by who call answer)) → Leaves said old new (turns + 1) h
  leaves_one said who call answer stands legal appends is =
      let f = one_entry_more old.entries new.entries turns h (entry_by who call answer) appends.grown stands in
      (Some (entry_by who call answer), f, appends.same_world, record { is = is; legal = legal_then (Some (entry_by who call answer)) f.0 legal appends.same_world })

  pub leaves_made : (who : Who) (call after : Option Call) (answer : Option Answer) → StandsFor old.entries turns h → IsLegal new.world new.entries → IsMade old new who call after answer
      → Leaves (λ mark. MarksCall who call after mark answer) old new (turns + 1) h
  leaves_made who (Some call) after (Some answer) stands legal made = leaves_one (λ mark. MarksCall who (Some call) after mark (Some answer)) who call answer stands legal made refl
  leaves_made who None after (Some answer) stands legal made = absurd made
  leaves_made who (Some call) after None stands legal made = leaves_none (λ mark. MarksCall who (Some call) after mark None) stands legal made.0 (refl, made.1)
  leaves_made who None after None stands legal made = leaves_none (λ mark. MarksCall who None after mark None) stands legal made.0 (refl, made.1)

  pub leaves_taken : (c : ContextNo) (taken : Taken) → StandsFor old.entries turns h → IsLegal new.world new.entries → IsTaken old new c taken → Leaves (λ mark. MarksTake c h mark taken) old new (turns + 1) h
  leaves_taken c Nothing stands legal is = leaves_none (λ mark. MarksTake c h mark Nothing) stands legal is.0 (refl, rw stands.0 is.1)
  leaves_taken c (Took answer) stands legal is = leaves_one (λ mark. MarksTake c h mark (Took answer)) (Context c) Take answer stands legal is.0 (refl, rw stands.0 is.1)
  leaves_taken c Refused stands legal is = leaves_none (λ mark. MarksTake c h mark Refused) stands legal is refl
