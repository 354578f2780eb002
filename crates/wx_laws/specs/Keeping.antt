-- The laws of messaging by the places of a journal, oldest entry first.
use Rattle.std.specs.Prelude.{◌≡◌, ℕ, ◌<◌, List, [], ◌∷◌, ◌++◌, map, Bool, true, false, not, ◌&&◌, ◌||◌, ◌==◌, Option, Some, None, option_to_list, filter, reverse, slice_get, take}
use Rattle.wx_id.specs.declared.numbers.ContextNo.{ContextNo}
use Rattle.wx_id.specs.declared.numbers.HostNo.{HostNo}
use Rattle.wx_id.specs.declared.events.EventKind.{EventKind}
use Rattle.wx_id.specs.declared.events.EventKind.TheVariants.{Disconnected, Replied, Closed}
use Rattle.wx_context.specs.declared.contexts.Target.{Target}
use Rattle.wx_external.specs.World.{WorldLists}
use Rattle.wx_machine.specs.declared.entries.Answer.{Answer}
use Rattle.wx_machine.specs.declared.entries.Entry.{Entry}
use Rattle.wx_machine.specs.Words.{context_of, is_by, is_live, receivers_of, channel, end_in, request, is_asker, work_of, texts_taken, closed_at}
use Rattle.wx_machine.specs.Words.{settled_at, on, side_of, tells, event_in, taken, is_of, pending, IsLegal, gate_for, native_gate_for}
use Rattle.wx_machine.specs.declared.entries.Who.TheVariants.{Context as ByContext}
use Rattle.wx_machine.specs.declared.entries.Call.TheVariants.{Connect, ConnectNative}
use Rattle.wx_machine.specs.declared.sorts.Sort.TheVariants.{Connection}
use Rattle.wx_laws.specs.Prefix.{IsPrefix}
use Rattle.wx_laws.specs.RefusalLaw.{is_refusal, is_bad_or_forbidden, is_nobody, is_open}
use Rattle.wx_laws.specs.SettlementLaw.{answers, answers_to, is_outcome, outcomes, closes_request}
use Rattle.wx_laws.specs.ClosingLaw.{are_across, is_disconnected, has_disconnected, of_channel, is_not_in, untaken}
use Rattle.wx_laws.specs.PrefixLaw.{messages, given, given_texts, texts, for_work}

-- the entries before entry i, newest first
abbrev pub before : List Entry → ℕ → List Entry
before journal i = reverse (take i journal)

-- entry i of the journal is e
abbrev pub IsEntry : List Entry → ℕ → Entry → Type 0
IsEntry journal i e = slice_get journal i ≡ Some e

-- what entry i, which is e, tells context c
abbrev pub told : List Entry → ℕ → Entry → ContextNo → List EventKind
told journal i e c = tells (before journal i) e c

-- the place is i
abbrev pub is_at : Option ℕ → ℕ → Bool
is_at None i = false
is_at (Some n) i = n == i

-- the laws of channel k, whose closing entry is given
pub record KeepsChannel (journal : List Entry) (k : ℕ) (closed : Option ℕ) : Type 0 where
  -- the messages that a context took on it are the first of those that the other side gave
  pub in_order : (c : ContextNo) → IsPrefix (messages k (taken (reverse journal) c))
      (given (reverse journal) k (end_in (channel (reverse journal) k) c))
  -- so are their texts
  pub texts_in_order : (c : ContextNo)
      → IsPrefix (texts (reverse journal) (messages k (taken (reverse journal) c)))
      (map Some (given_texts (reverse journal) k (end_in (channel (reverse journal) k) c)))
  -- that it is disconnected is told by its closing entry alone: once to each live end of the other side, and to nobody
  -- else
  pub to_the_other_side : (i : ℕ) (e : Entry) (c : ContextNo) → IsEntry journal i e
      → filter (is_disconnected k) (told journal i e c)
      ≡ on (is_at closed i && (are_across (side_of (channel (before journal i) k) e.who)
      (end_in (channel (before journal i) k) c) && is_live (before journal i) c)) (Disconnected (record { 0 = k }))
  -- after its closing entry nothing is told of it
  pub no_more : (i n : ℕ) (e : Entry) (c : ContextNo) → IsEntry journal i e → closed ≡ Some n → n < i
      → filter (is_of k) (told journal i e c) ≡ []
  -- what was delivered on it and not taken is pending for each context that did not itself disconnect it
  pub stays : (c : ContextNo) → has_disconnected (reverse journal) c k ≡ false
      → of_channel k (pending (reverse journal) c) ≡ of_channel k (untaken (reverse journal) c)
  -- after its closing entry only what a context takes leaves what is pending of it for that context
  pub stays_behind : (i n : ℕ) (e : Entry) (c : ContextNo) → IsEntry journal i e → closed ≡ Some n → n < i
      → of_channel k (pending (e ∷ before journal i) c) ≡ filter (is_not_in (event_in e.call e.answer (is_by e.who c)))
      (of_channel k (pending (before journal i) c))

-- the laws of request r
pub record KeepsRequest (journal : List Entry) (r : ℕ) : Type 0 where
  -- at most one entry answers it, the one that settles it
  pub answered_once : IsPrefix (answers_to (reverse journal) r) (option_to_list (settled_at (reverse journal) r))
  -- at most one outcome is delivered, by the entry that settles it
  pub one_outcome : (c : ContextNo) → IsPrefix (map (λ event. event.entry.0) (outcomes (reverse journal) c r))
      (option_to_list (settled_at (reverse journal) r))
  -- its asker alone is told: that it was replied to, by the entry that answers it, and that it is closed, by the entry
  -- that leaves it without a reply
  pub to_the_asker : (i : ℕ) (e : Entry) (c : ContextNo) → IsEntry journal i e
      → filter (is_outcome r) (told journal i e c)
      ≡ on (is_asker (request (before journal i) r) c && answers (before journal i) e r) (Replied (record { 0 = r }))
      ++ on (is_asker (request (before journal i) r) c && closes_request (before journal i) e r)
      (Closed (record { 0 = r }))

-- the laws of host h
pub record KeepsHost (journal : List Entry) (h : HostNo) : Type 0 where
  -- the entries whose texts it took are the first of those with texts for its work
  pub in_order : IsPrefix (texts_taken (reverse journal) h) (for_work (reverse journal) (work_of (reverse journal) h))
  -- so are the texts
  pub texts_in_order : IsPrefix (texts (reverse journal) (texts_taken (reverse journal) h))
      (texts (reverse journal) (for_work (reverse journal) (work_of (reverse journal) h)))

-- the laws of connections
pub record KeepsRefusals (world : WorldLists) (journal : List Entry) : Type 0 where
  -- a connect of a live context is refused exactly where the gate says that the target is bad or forbidden, or the
  -- target reaches nobody
  pub connects : (i : ℕ) (c : ContextNo) (target : Target) (name : List ℕ) (answer : Answer)
      → IsEntry journal i (record { who = ByContext c; call = Connect target name; answer = answer })
      → is_live (before journal i) c ≡ true
      → is_refusal answer ≡ (is_bad_or_forbidden (gate_for world (context_of (before journal i) c) target)
      || is_nobody (receivers_of (before journal i) c target Connection))
  -- a native connect of a live context is refused exactly where the native gate is not open
  pub native_connects : (i : ℕ) (c : ContextNo) (name : List ℕ) (answer : Answer)
      → IsEntry journal i (record { who = ByContext c; call = ConnectNative name; answer = answer })
      → is_live (before journal i) c ≡ true
      → is_refusal answer ≡ not (is_open (native_gate_for world (context_of (before journal i) c) name))

-- the laws of messaging hold in the journal: of each channel, with the entry that closed it, of each request, of each
-- host, and of its connections
pub record KeepsLaws (world : WorldLists) (journal : List Entry) : Type 0 where
  pub channels : (k : ℕ) → KeepsChannel journal k (closed_at (reverse journal) k)
  pub requests : (r : ℕ) → KeepsRequest journal r
  pub hosts : (h : HostNo) → KeepsHost journal h
  pub refusals : KeepsRefusals world journal

-- every legal journal keeps the laws of messaging
abbrev pub LegalKeepsLaws : Type 0
LegalKeepsLaws = (world : WorldLists) (journal : List Entry) → IsLegal world journal → KeepsLaws world journal
