-- Whether a journal tells that a native channel gave its opener only what it posted on it, in order.
use Rattle.std.specs.Prelude.{ℕ, List, [], ◌∷◌, ◌++◌, Bool, true, false, ◌&&◌, ◌==◌, cond}
use Rattle.std.specs.Prelude.{Option, Some, None, option_to_list, slice_get}
use Rattle.std.specs.Option.{option_or, option_map, option_and_then}
use Rattle.std.specs.Str.{bytes_eq}
use Rattle.wx_id.specs.declared.numbers.ContextNo.{ContextNo}
use Rattle.wx_id.specs.declared.numbers.EntryNo.{EntryNo}
use Rattle.wx_machine.specs.declared.entries.Who.{Who}
use Rattle.wx_machine.specs.declared.entries.Who.TheVariants.{Context as ByContext}
use Rattle.wx_machine.specs.declared.entries.Call.{Call}
use Rattle.wx_machine.specs.declared.entries.Call.TheVariants.{ConnectNative, Post, Take}
use Rattle.wx_machine.specs.declared.entries.Answer.{Answer}
use Rattle.wx_machine.specs.declared.entries.Answer.TheVariants.{Channel as OnChannel, Posted, Event as Told}
use Rattle.wx_machine.specs.declared.entries.Entry.{Entry}
use Rattle.wx_machine.specs.Words.{text_in}
use Rattle.wx_laws.specs.PrefixLaw.{is_message}

-- who opens native channel k by an entry: its answer has that number
abbrev pub opener_in : ℕ → Who → Call → Answer → Option ContextNo
opener_in k (ByContext c) (ConnectNative name) (OnChannel j) = cond (j.0 == k) (Some c) None
opener_in k _ _ _ = None

-- who opened it by the first such entry
abbrev pub native_opener : ℕ → List Entry → Option ContextNo
native_opener k [] = None
native_opener k (e ∷ more) = option_or (opener_in k e.who e.call e.answer) (native_opener k more)

-- the text that context c posts on channel k by an entry
abbrev pub posted_in : ContextNo → ℕ → Who → Call → Answer → Option (List ℕ)
posted_in c k (ByContext b) (Post j text) Posted = cond ((b.0 == c.0) && (j.0 == k)) (Some text) None
posted_in c k _ _ _ = None

-- the texts that it posted on it, the first first
abbrev pub posted_texts : ContextNo → ℕ → List Entry → List (List ℕ)
posted_texts c k [] = []
posted_texts c k (e ∷ more) = option_to_list (posted_in c k e.who e.call e.answer) ++ posted_texts c k more

-- the entry of the message of channel k that context c takes by an entry
abbrev pub message_in : ContextNo → ℕ → Who → Call → Answer → Option EntryNo
message_in c k (ByContext b) Take (Told event) = cond ((b.0 == c.0) && is_message k event.kind) (Some event.entry) None
message_in c k _ _ _ = None

-- the entries of those that it took, the first first
abbrev pub messages_taken : ContextNo → ℕ → List Entry → List EntryNo
messages_taken c k [] = []
messages_taken c k (e ∷ more) = option_to_list (message_in c k e.who e.call e.answer) ++ messages_taken c k more

-- the text that an entry of the journal carries
abbrev pub text_at : List Entry → EntryNo → Option (List ℕ)
text_at journal n = option_and_then (λ entry. text_in entry.call) (slice_get journal n.0)

abbrev pub is_text : Option (List ℕ) → List ℕ → Bool
is_text None posted = false
is_text (Some text) posted = bytes_eq text posted

-- the texts of these entries are the first of those that were posted
abbrev pub are_first : List Entry → List EntryNo → List (List ℕ) → Bool
are_first journal [] posted = true
are_first journal (n ∷ taken) [] = false
are_first journal (n ∷ taken) (text ∷ posted) = is_text (text_at journal n) text && are_first journal taken posted

-- nothing where the journal has no native channel k; else whether the texts that its opener took on it are the first of
-- those that it posted on it
abbrev pub pipe_check : ℕ → List Entry → Option Bool
pipe_check k journal = option_map (λ c. are_first journal (messages_taken c k journal) (posted_texts c k journal))
    (native_opener k journal)
