-- A report is there where its channel or request is, and tells the entry that settled the request.
use Rattle.std.proofs.Common.{◌≡◌, ℕ, List, [], ◌∷◌, length, refl, ap, sym, ◌∙◌, Bool, true, false, cond}
use Rattle.std.specs.Prelude.{Option, Some, None, ◌&&◌, is_some, ◌==◌}
use Rattle.std.specs.Option.{option_or, option_map}
use Rattle.wx_id.specs.declared.numbers.EntryNo.{EntryNo}
use Rattle.wx_machine.specs.declared.entries.Entry.{Entry}
use Rattle.wx_machine.specs.Words.{opens, channels, channel, asks, requests, request, ends_request, settled_at}
use Rattle.wx_laws.proofs.ChannelsLater.{place_more}
use Rattle.wx_reports.specs.declared.requests.Settled.{Settled}
use Rattle.wx_id.specs.Numbers.{entry_no}
use Rattle.wx_reports.specs.Reports.{opened_at, asked_at, settlement, way}

some_or : (o : Option EntryNo) (n : EntryNo) (b t : Bool) → is_some (option_or o (cond (b && t) (Some n) None)) ≡ cond (b && t) t (is_some o)
some_or None n true true = refl
some_or None n true false = refl
some_or None n false t = refl
some_or (Some m) n true true = refl
some_or (Some m) n true false = refl
some_or (Some m) n false t = refl

-- channel k is there where an entry opened it
pub is_opened : (past : List Entry) (k : ℕ) → is_some (opened_at past k) ≡ is_some (channel past k)
is_opened [] k = refl
is_opened (e ∷ past) k =
    some_or (opened_at past k) (entry_no (length past)) (length (channels past) == k) (is_some (opens past e))
    ∙ ap (cond ((length (channels past) == k) && is_some (opens past e)) (is_some (opens past e))) (is_opened past k)
    ∙ sym (place_more is_some (channels past) (opens past e) k)

-- request r is there where an entry made it
pub is_made : (past : List Entry) (r : ℕ) → is_some (asked_at past r) ≡ is_some (request past r)
is_made [] r = refl
is_made (e ∷ past) r =
    some_or (asked_at past r) (entry_no (length past)) (length (requests past) == r) (is_some (asks past e))
    ∙ ap (cond ((length (requests past) == r) && is_some (asks past e)) (is_some (asks past e))) (is_made past r)
    ∙ sym (place_more is_some (requests past) (asks past e) r)

number_or : (o : Option (EntryNo × Settled)) (b : Bool) (n : ℕ) (w : Settled) → option_map (λ (s : EntryNo × Settled). s.0.0) (option_or o (cond b (Some (entry_no n, w)) None)) ≡ option_or (option_map (λ (s : EntryNo × Settled). s.0.0) o) (cond b (Some n) None)
number_or None true n w = refl
number_or None false n w = refl
number_or (Some s) b n w = refl

-- the entry of the settlement is the one that settled the request
pub is_settled_there : (past : List Entry) (r : ℕ) → option_map (λ (s : EntryNo × Settled). s.0.0) (settlement past r) ≡ settled_at past r
is_settled_there [] r = refl
is_settled_there (e ∷ past) r =
    number_or (settlement past r) (ends_request past e r) (length past) (way (request past r) e.who e.call)
    ∙ ap (λ o. option_or o (cond (ends_request past e r) (Some (length past)) None)) (is_settled_there past r)
