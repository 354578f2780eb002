-- Requests and their receivers, one entry later.
use Rattle.std.proofs.Common.{◌≡◌, ℕ, ◌+◌, List, ◌∷◌, length, cond}
use Rattle.std.specs.Prelude.{◌&&◌, is_some, ◌==◌}
use Rattle.wx_id.specs.declared.numbers.ContextNo.{ContextNo}
use Rattle.wx_machine.specs.declared.entries.Entry.{Entry}
use Rattle.wx_machine.specs.Words.{asks, requests, request, is_asker, is_asked, has_open}
use Rattle.wx_laws.proofs.ChannelsLater.{length_options, place_more}

-- how many requests there are after one more entry
pub requests_more : (e : Entry) (past : List Entry) → length (requests (e ∷ past)) ≡ cond (is_some (asks past e)) (length (requests past) + 1) (length (requests past))
requests_more e past = length_options (requests past) (asks past e)

-- who made request r, whom it was sent to, and who may still reply, after one more entry
pub asker_more : (e : Entry) (past : List Entry) (r : ℕ) (c : ContextNo) → is_asker (request (e ∷ past) r) c ≡ cond ((length (requests past) == r) && is_some (asks past e)) (is_asker (asks past e) c) (is_asker (request past r) c)
asker_more e past r c = place_more (λ o. is_asker o c) (requests past) (asks past e) r

pub asked_more : (e : Entry) (past : List Entry) (r : ℕ) (c : ContextNo) → is_asked (request (e ∷ past) r) c ≡ cond ((length (requests past) == r) && is_some (asks past e)) (is_asked (asks past e) c) (is_asked (request past r) c)
asked_more e past r c = place_more (λ o. is_asked o c) (requests past) (asks past e) r

pub has_open_more : (now : List Entry) (e : Entry) (past : List Entry) (r : ℕ) → has_open now r (request (e ∷ past) r) ≡ cond ((length (requests past) == r) && is_some (asks past e)) (has_open now r (asks past e)) (has_open now r (request past r))
has_open_more now e past r = place_more (has_open now r) (requests past) (asks past e) r
