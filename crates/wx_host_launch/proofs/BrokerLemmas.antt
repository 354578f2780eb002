-- What a call of a broker is at a host's desk over it.
use Rattle.std.proofs.Common.{◌≡◌, ℕ, ◌<◌, List, [], ◌∷◌, length, Bool, true, false, Some, None, IfOk, OnErr, IsTrue, refl, sym, subst, ◌∙◌, Bor}
use Rattle.std.specs.Prelude.{Result, Option, reverse, IsSome, IfSome, is_some, option_copied}
use Rattle.std.proofs.lemmas.Bool.{false≢true}
use Rattle.wx_id.specs.declared.numbers.HostNo.{HostNo}
use Rattle.wx_id.specs.declared.numbers.EntryNo.{EntryNo}
use Rattle.wx_machine.specs.declared.entries.Who.TheVariants.{Host}
use Rattle.wx_machine.specs.declared.entries.Call.{Call}
use Rattle.wx_machine.specs.declared.entries.Reason.{Reason}
use Rattle.wx_machine.specs.declared.entries.Answer.{Answer}
use Rattle.wx_machine.specs.Words.{FollowsMachine, may_make, is_host_ready, EachAfter, hosts, next_text}
use Rattle.wx_machine.specs.declared.entries.Call.TheVariants.{HostTake, HostEnded}
use Rattle.wx_machine.specs.declared.entries.Answer.TheVariants.{Text as HasText}
use Rattle.wx_broker.specs.State.{BrokerState}
use Rattle.wx_broker.specs.Steps.{Appends, Stays}
use Rattle.wx_desk.specs.Desks.{HostDeskState, IsSound, MakesOne}
use Rattle.wx_desk.specs.BrokerDesks.{desk_over, has_lent}
use Rattle.wx_desk.specs.declared.broker_desk.BrokerDesk.{BrokerDesk}
use Rattle.wx_desk.proofs.HistoryLemmas.{makes_none}
use Rattle.wx_desk.proofs.OverLemmas.{past_over, legal_over, known_over, makes_one, made_one, sound_after, lent_after, lent_later}
use Rattle.wx_host_launch.specs.Steps.{lent_by, TakesNews, FindsNoNews, Ends, FindsText}
use Rattle.wx_host_launch.proofs.HostLemmas.{taken_short}

-- the desk of host h over a broker
abbrev pub host_over : HostNo → BrokerState → HostDeskState
host_over h broker = desk_over Host h broker

module _ (desk : BrokerDesk) where
  pub started : IsSound (host_over desk.host desk.broker) → desk.host.0 < length (hosts (reverse desk.broker.entries))
  started sound = known_over Host desk.host desk.broker sound

  pub finds_no_news : is_host_ready (reverse desk.broker.entries) desk.host ≡ false → FindsNoNews (host_over desk.host desk.broker) (host_over desk.host desk.broker)
  finds_no_news not_ready = record {
    others = makes_none (host_over desk.host desk.broker);
    not_ready = subst (λ past. is_host_ready past desk.host ≡ false) (sym (past_over Host desk.host desk.broker)) not_ready;
  }

  pub finds_text : IsSome (next_text (reverse desk.broker.entries) desk.host) → FindsText (host_over desk.host desk.broker) (host_over desk.host desk.broker)
  finds_text left = record {
    others = makes_none (host_over desk.host desk.broker);
    text_left = subst (λ past. IsSome (next_text past desk.host)) (sym (past_over Host desk.host desk.broker)) left;
  }

module _ (desk : BrokerDesk) (new : BrokerState) where
  pub takes_news : (answer : Answer) → is_host_ready (reverse desk.broker.entries) desk.host ≡ true → Appends desk.broker new (Host desk.host) HostTake answer
      → TakesNews (host_over desk.host desk.broker) (host_over desk.host new) answer
  takes_news answer ready appends = record {
    one = makes_one Host desk.host desk.broker new HostTake answer appends;
    ready = subst (λ past. is_host_ready past desk.host ≡ true) (sym (past_over Host desk.host desk.broker)) ready;
  }

  pub ends_over : (reason : Reason) (answer : Answer) → next_text (reverse desk.broker.entries) desk.host ≡ None → Appends desk.broker new (Host desk.host) (HostEnded reason) answer
      → Ends (host_over desk.host desk.broker) (host_over desk.host new) reason answer
  ends_over reason answer none appends = record {
    one = makes_one Host desk.host desk.broker new (HostEnded reason) answer appends;
    none_left = subst (λ past. next_text past desk.host ≡ None) (sym (past_over Host desk.host desk.broker)) none;
  }

  -- the text that a take names stands in the journal
  pub lent_taken : (answer : Answer) → IsSound (host_over desk.host desk.broker) → Appends desk.broker new (Host desk.host) HostTake answer → has_lent new (lent_by answer) ≡ true
  lent_taken (HasText n) sound appends =
      let short = taken_short desk.broker.world (reverse desk.broker.entries) desk.host n (legal_over Host desk.host desk.broker sound) appends.answered in
      lent_later (Host desk.host) desk.broker new (Some n) HostTake (HasText n) appends (subst IsSome (sym short.carried) refl)
  lent_taken _ sound appends = refl

module _ {E : Type 0} (desk : BrokerDesk) (new : BrokerState) (call : Call) (r : Result Answer E) where
  pub makes : IfOk r (λ answer. Appends desk.broker new (Host desk.host) call answer) → IfOk r (λ answer. MakesOne (host_over desk.host desk.broker) (host_over desk.host new) call answer)
  makes appends = made_one Host desk.host desk.broker new call r appends

  pub stays_sound : IsTrue (may_make (reverse desk.broker.entries) (Host desk.host) call) → IsSound (host_over desk.host desk.broker)
      → IfOk r (λ answer. Appends desk.broker new (Host desk.host) call answer) → OnErr r (Stays desk.broker new) → IsSound (host_over desk.host new)
  stays_sound may sound appends stays = sound_after Host desk.host desk.broker new call r may sound appends stays

  -- what the desk lends stands on
  pub lends_on : IfOk r (λ answer. Appends desk.broker new (Host desk.host) call answer) → OnErr r (Stays desk.broker new) → has_lent new desk.lent ≡ true
  lends_on appends stays = lent_after (Host desk.host) desk.broker new desk.lent call r appends stays desk.kept

-- what is asked of the next text
pub is_left : (found next : Option EntryNo) → found ≡ next → is_some found ≡ true → IsSome next
is_left found next same is = subst IsSome same is

none_in : (o : Option EntryNo) → is_some o ≡ false → o ≡ None
none_in None is = refl
none_in (Some e) is = absurd (false≢true (sym is))

pub none_left : (found next : Option EntryNo) → found ≡ next → is_some found ≡ false → next ≡ None
none_left found next same is = sym same ∙ none_in found is

pub if_carried : (r : Option (Bor (List ℕ))) (known : Option (List ℕ)) → option_copied r ≡ known → IfSome r (λ text. known ≡ Some text.now)
if_carried None known is = tt
if_carried (Some text) known is = sym is
