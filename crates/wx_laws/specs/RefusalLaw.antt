-- The refusal law: which connections are refused.
use Rattle.std.specs.Prelude.{List, [], ◌∷◌, ℕ, Bool, false, true, not, ◌||◌, ◌≡◌}
use Rattle.wx_id.specs.declared.numbers.ContextNo.{ContextNo}
use Rattle.wx_context.specs.declared.contexts.Target.{Target}
use Rattle.wx_external.specs.World.{WorldLists}
use Rattle.wx_external.specs.declared.gates.Verdict.{Verdict}
use Rattle.wx_external.specs.declared.native.NativeVerdict.{NativeVerdict}
use Rattle.wx_machine.specs.declared.entries.Answer.{Answer}
use Rattle.wx_machine.specs.declared.entries.Entry.{Entry}
use Rattle.wx_machine.specs.Words.{context_of, is_live, receivers_of, gate_for, native_gate_for}
use Rattle.wx_machine.specs.declared.entries.Who.TheVariants.{Context as ByContext}
use Rattle.wx_machine.specs.declared.entries.Call.TheVariants.{Connect, ConnectNative}
use Rattle.wx_machine.specs.declared.entries.Answer.TheVariants.{Channel as OnChannel}
use Rattle.wx_machine.specs.declared.sorts.Sort.TheVariants.{Connection}
use Rattle.wx_laws.specs.Legal.{IsLegalPast}
use Rattle.wx_external.specs.declared.gates.Verdict.TheVariants as gate
use Rattle.wx_external.specs.declared.native.NativeVerdict.TheVariants as native

-- the answer gives no channel
abbrev pub is_refusal : Answer → Bool
is_refusal (OnChannel k) = false
is_refusal _ = true

-- the gate says that the target is bad, or that it is forbidden
abbrev pub is_bad_or_forbidden : Verdict → Bool
is_bad_or_forbidden (gate.Open external) = false
is_bad_or_forbidden gate.BadTarget = true
is_bad_or_forbidden (gate.Forbidden rule) = true

abbrev pub is_nobody : List ContextNo → Bool
is_nobody [] = true
is_nobody (c ∷ cs) = false

-- a connect of a live context is refused exactly where the gate says that the target is bad or forbidden, or the
-- target reaches nobody
abbrev pub RefusesConnects : Type 0
RefusesConnects =
    (world : WorldLists) (past : List Entry) (c : ContextNo) (target : Target) (name : List ℕ) (answer : Answer)
    → IsLegalPast world (record { who = ByContext c; call = Connect target name; answer = answer } ∷ past)
    → is_live past c ≡ true
    → is_refusal answer ≡ (is_bad_or_forbidden (gate_for world (context_of past c) target)
    || is_nobody (receivers_of past c target Connection))

-- the native gate is open
abbrev pub is_open : NativeVerdict → Bool
is_open (native.Open place) = true
is_open _ = false

-- a native connect of a live context is refused exactly where the native gate is not open
abbrev pub RefusesNativeConnects : Type 0
RefusesNativeConnects =
    (world : WorldLists) (past : List Entry) (c : ContextNo) (name : List ℕ) (answer : Answer)
    → IsLegalPast world (record { who = ByContext c; call = ConnectNative name; answer = answer } ∷ past)
    → is_live past c ≡ true
    → is_refusal answer ≡ not (is_open (native_gate_for world (context_of past c) name))
