-- Each channel finds the host that works for it.
use Rattle.std.proofs.Common.{◌≡◌, ◌<◌, ℕ, List, [], ◌∷◌, ◌++◌, length, refl, ap, sym, ◌∙◌, Bool, true, false, cond, arith, IsTrue}
use Rattle.std.specs.Prelude.{Option, Some, None, IfSome, slice_get, ◌==◌}
use Rattle.std.specs.Option.{option_or}
use Rattle.std.proofs.lemmas.Bool.{false≢true}
use Rattle.std.proofs.lemmas.Bool.Decides.{nat_tests}
use Rattle.std.proofs.lemmas.Option.{slice_get_within}
use Rattle.wx_id.specs.declared.numbers.HostNo.{HostNo}
use Rattle.wx_machine.specs.Words.{is_for_channel}
use Rattle.wx_machine.proofs.Lists.{get_options}
use Rattle.wx_native_hosts.specs.Hosts.{HostState, work_in, is_the, AreFound}

-- the host that is found was started
pub found_within : (hosts : List HostState) (find : ℕ → Option HostNo) (k : ℕ) (o : Option HostNo) → AreFound hosts find → o ≡ find k → IfSome o (λ h. h.0 < length hosts)
found_within hosts find k None found is = tt
found_within hosts find k (Some g) found is = by (slice_get hosts g.0) refl (found.each k g ∙ ap (λ o. is_the o g) (sym is) ∙ itself g.0)
  where
    itself : (n : ℕ) → (n == n) ≡ true
    itself n = grind (arith, nat_tests)

    by : (o : Option HostState) → slice_get hosts g.0 ≡ o → is_for_channel k (work_in (slice_get hosts g.0)) ≡ true → g.0 < length hosts
    by None at h = absurd (false≢true (sym (ap (λ o. is_for_channel k (work_in o)) at) ∙ h))
    by (Some host) at h = slice_get_within hosts g.0 host at

-- one more host is found by its channel, for which no other works
pub found_more : (hosts : List HostState) (host : HostState) (find find' : ℕ → Option HostNo) (n : HostNo) → n.0 ≡ length hosts → AreFound hosts find → ((k : ℕ) (h : HostNo) → IsTrue (is_for_channel k (work_in (Some host))) → is_for_channel k (work_in (slice_get hosts h.0)) ≡ false) → ((k : ℕ) → find' k ≡ cond (is_for_channel k (work_in (Some host))) (Some n) (find k)) → AreFound (hosts ++ host ∷ []) find'
found_more hosts host find find' n last found new noted = record {
  each = λ k h.
      ap (λ o. is_for_channel k (work_in o)) (get_options hosts (Some host) h.0)
      ∙ by k h (slice_get hosts h.0) refl (found.each k h) (length hosts == h.0) refl (is_for_channel k (work_in (Some host))) refl
      ∙ sym (ap (λ o. is_the o h) (noted k));
}
  where
    not_last : (h : HostNo) → h.0 < length hosts → (n.0 == h.0) ≡ false
    not_last h within = rw last (grind (arith, nat_tests))

    by : (k : ℕ) (h : HostNo) (o : Option HostState) → slice_get hosts h.0 ≡ o → is_for_channel k (work_in (slice_get hosts h.0)) ≡ is_the (find k) h → (b : Bool) → (length hosts == h.0) ≡ b → (w : Bool) → is_for_channel k (work_in (Some host)) ≡ w → is_for_channel k (work_in (option_or o (cond b (Some host) None))) ≡ is_the (cond w (Some n) (find k)) h
    by k h (Some x) at before b e false w = sym (ap (λ o. is_for_channel k (work_in o)) at) ∙ before
    by k h (Some x) at before b e true w = sym (ap (λ o. is_for_channel k (work_in o)) at) ∙ new k h w ∙ sym (not_last h (slice_get_within hosts h.0 x at))
    by k h None at before true e true w = w ∙ sym (ap (λ m. m == h.0) last ∙ e)
    by k h None at before true e false w = w ∙ sym (ap (λ o. is_for_channel k (work_in o)) at) ∙ before
    by k h None at before false e true w = sym (ap (λ m. m == h.0) last ∙ e)
    by k h None at before false e false w = sym (ap (λ o. is_for_channel k (work_in o)) at) ∙ before
