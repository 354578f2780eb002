-- Which connections are refused.
use Rattle.std.proofs.Common.{◌≡◌, List, [], ◌∷◌, length, refl, ap, ◌∙◌, not}
use Rattle.std.specs.Prelude.{◌||◌}
use Rattle.wx_id.specs.declared.numbers.ContextNo.{ContextNo}
use Rattle.wx_id.specs.declared.numbers.ChannelNo.{ChannelNo}
use Rattle.wx_external.specs.declared.gates.Verdict.{Verdict}
use Rattle.wx_external.specs.declared.native.NativeVerdict.{NativeVerdict}
use Rattle.wx_machine.specs.Words.{context_of, receivers_of, channels, gate_for, where_open, native_gate_for, where_native, where_heard}
use Rattle.wx_machine.specs.declared.entries.Answer.TheVariants.{Channel as OnChannel}
use Rattle.wx_machine.specs.declared.sorts.Sort.TheVariants.{Connection}
use Rattle.wx_laws.specs.RefusalLaw.{is_refusal, is_bad_or_forbidden, is_nobody, RefusesConnects, is_open, RefusesNativeConnects}
use Rattle.wx_external.specs.declared.gates.Verdict.TheVariants as gate
use Rattle.wx_external.specs.declared.native.NativeVerdict.TheVariants as native

-- an open gate gives a channel where somebody hears, and no other verdict gives one
of_verdict : (v : Verdict) (cs : List ContextNo) (k : ChannelNo) → is_refusal (where_open v (where_heard cs (OnChannel k))) ≡ (is_bad_or_forbidden v || is_nobody cs)
of_verdict (gate.Open external) [] k = refl
of_verdict (gate.Open external) (c ∷ cs) k = refl
of_verdict gate.BadTarget cs k = refl
of_verdict (gate.Forbidden rule) cs k = refl

pub refuses_connects_lem : RefusesConnects
refuses_connects_lem world past c target name answer legal live =
    ap is_refusal legal.1.answered
    ∙ rw live (of_verdict (gate_for world (context_of past c) target) (receivers_of past c target Connection) (record { 0 = length (channels past) }))

-- the native gate gives a channel where it is open
of_native : (v : NativeVerdict) (k : ChannelNo) → is_refusal (where_native v (OnChannel k)) ≡ not (is_open v)
of_native (native.Open place) k = refl
of_native native.BadTarget k = refl
of_native native.NoPermission k = refl
of_native native.BadHostName k = refl
of_native native.HostNotFound k = refl
of_native native.HostForbidden k = refl

pub refuses_native_connects_lem : RefusesNativeConnects
refuses_native_connects_lem world past c name answer legal live =
    ap is_refusal legal.1.answered ∙ rw live (of_native (native_gate_for world (context_of past c) name) (record { 0 = length (channels past) }))
