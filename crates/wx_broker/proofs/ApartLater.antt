-- The opener of a channel is none of its receivers, and the asker of a request is none of those whom it was sent to.
use Rattle.std.proofs.Common.{◌≡◌, ℕ, List, [], ◌∷◌, length, refl, ap, sym, ◌∙◌, Bool, true, false, cond, not, subst}
use Rattle.std.specs.Prelude.{Option, Some, None, is_some, ◌&&◌, ◌==◌}
use Rattle.wx_id.specs.Contexts.{is_among}
use Rattle.wx_id.specs.declared.numbers.ContextNo.{ContextNo}
use Rattle.wx_context.specs.declared.contexts.Target.{Target}
use Rattle.wx_machine.specs.declared.sorts.Sort.{Sort}
use Rattle.wx_machine.specs.declared.sorts.Sort.TheVariants.{Connection, Message}
use Rattle.wx_machine.specs.declared.entries.Who.{Who}
use Rattle.wx_machine.specs.declared.entries.Who.TheVariants.{Context as ByContext}
use Rattle.wx_machine.specs.declared.entries.Call.{Call}
use Rattle.wx_machine.specs.declared.entries.Call.TheVariants.{Connect, ConnectNative, Send, SendNative}
use Rattle.wx_machine.specs.declared.entries.Answer.{Answer}
use Rattle.wx_machine.specs.declared.entries.Answer.TheVariants.{Channel as OnChannel, Request as OnRequest}
use Rattle.wx_machine.specs.declared.entries.Entry.{Entry}
use Rattle.wx_machine.specs.Words.{asked_by, asks, channel, channels, Ends, is_receiver, numbers, opened_by, opens, Parties, receivers_of, request, requests}
use Rattle.wx_laws.proofs.ChannelsLater.{channel_more, place_more}
use Rattle.wx_broker.proofs.LivesLater.{among_passing}
use Rattle.wx_broker.proofs.TestsLater.{not_not, same_self}

abbrev opener_apart : Option Ends → Bool
opener_apart None = true
opener_apart (Some ends) = not (is_among ends.receivers ends.opener)

abbrev asker_apart : Option Parties → Bool
asker_apart None = true
asker_apart (Some parties) = not (is_among parties.receivers parties.asker)

not_receiver : (past : List Entry) (c : ContextNo) (target : Target) (sort : Sort) → not (is_among (receivers_of past c target sort) c) ≡ true
not_receiver past c target sort =
    let own : is_receiver past c target sort c ≡ false = rw (same_self c.0) refl in
    ap not (among_passing (is_receiver past c target sort) (numbers past) c ∙ ap (λ b. b && is_among (numbers past) c) own)

opened_apart : (past : List Entry) (who : Who) (call : Call) (answer : Answer) → opener_apart (opened_by past who call answer) ≡ true
opened_apart past (ByContext c) (Connect target name) (OnChannel k) = not_receiver past c target Connection
opened_apart past (ByContext c) (ConnectNative name) (OnChannel k) = refl
opened_apart past who call answer = refl

asked_apart : (past : List Entry) (who : Who) (call : Call) (answer : Answer) → asker_apart (asked_by past who call answer) ≡ true
asked_apart past (ByContext c) (Send target text) (OnRequest r) = not_receiver past c target Message
asked_apart past (ByContext c) (SendNative name text) (OnRequest r) = refl
asked_apart past who call answer = refl

channel_apart : (past : List Entry) (k : ℕ) → opener_apart (channel past k) ≡ true
channel_apart [] k = refl
channel_apart (e ∷ past) k = channel_more opener_apart e past k ∙ by (channel_apart past k) ((length (channels past) == k) && is_some (opens past e))
  where
    by : opener_apart (channel past k) ≡ true → (b : Bool) → cond b (opener_apart (opens past e)) (opener_apart (channel past k)) ≡ true
    by old true = opened_apart past e.who e.call e.answer
    by old false = old

request_apart : (past : List Entry) (r : ℕ) → asker_apart (request past r) ≡ true
request_apart [] r = refl
request_apart (e ∷ past) r = place_more asker_apart (requests past) (asks past e) r ∙ by (request_apart past r) ((length (requests past) == r) && is_some (asks past e))
  where
    by : asker_apart (request past r) ≡ true → (b : Bool) → cond b (asker_apart (asks past e)) (asker_apart (request past r)) ≡ true
    by old true = asked_apart past e.who e.call e.answer
    by old false = old

-- the opener of a channel is none of its receivers
pub ends_apart : (past : List Entry) (k : ℕ) (ends : Ends) → channel past k ≡ Some ends → is_among ends.receivers ends.opener ≡ false
ends_apart past k ends at = sym (not_not (is_among ends.receivers ends.opener)) ∙ ap not (subst (λ o. opener_apart o ≡ true) at (channel_apart past k))

-- the asker of a request is none of those whom it was sent to
pub parties_apart : (past : List Entry) (r : ℕ) (parties : Parties) → request past r ≡ Some parties → is_among parties.receivers parties.asker ≡ false
parties_apart past r parties at = sym (not_not (is_among parties.receivers parties.asker)) ∙ ap not (subst (λ o. asker_apart o ≡ true) at (request_apart past r))
