-- What ends a channel, and live receivers, one entry later.
use Rattle.std.proofs.Common.{◌≡◌, ℕ, List, ◌∷◌, length, ap, ◌∙◌, Bool, cond}
use Rattle.std.specs.Prelude.{◌||◌, ◌&&◌, is_some, filter, ◌==◌}
use Rattle.std.specs.List.{list_any}
use Rattle.std.proofs.lemmas.List.Elements.{filter-append}
use Rattle.std.proofs.lemmas.List.Folds.{list_any-append}
use Rattle.wx_id.specs.declared.numbers.ContextNo.{ContextNo}
use Rattle.wx_machine.specs.declared.entries.Entry.{Entry}
use Rattle.wx_machine.specs.Words.{numbers, numbers_of, enters, opens, channels, channel, has_live}
use Rattle.wx_laws.proofs.ChannelsLater.{channel_more}

-- some of those that pass, among the numbers after one more entry
pub some_more : (q p : ContextNo → Bool) (e : Entry) (past : List Entry) → list_any q (filter p (numbers (e ∷ past))) ≡ (list_any q (filter p (numbers past)) || list_any q (filter p (numbers_of (enters e))))
some_more q p e past =
    ap (list_any q) (filter-append p (numbers past) (numbers_of (enters e))) ∙ list_any-append q (filter p (numbers past)) (filter p (numbers_of (enters e)))

pub has_live_more : (now : List Entry) (e : Entry) (past : List Entry) (k : ℕ) → has_live now (channel (e ∷ past) k) ≡ cond ((length (channels past) == k) && is_some (opens past e)) (has_live now (opens past e)) (has_live now (channel past k))
has_live_more now e past k = channel_more (has_live now) e past k
