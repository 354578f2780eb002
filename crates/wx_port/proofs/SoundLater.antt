-- Channels stay sound.
use Rattle.std.proofs.Common.{◌≡◌, ◌≢◌, ◌⊎◌, ⊎_elim, ℕ, map, List, [], ◌∷◌, ◌++◌, length, filter, set, refl, ap, sym, ◌∙◌, Bool, true, false, is_some, subst}
use Rattle.std.specs.Prelude.{Option, Some, None, IfSome, slice_get, ◌||◌, ◌&&◌, if◌then◌else◌}
use Rattle.std.specs.Option.{option_map}
use Rattle.std.proofs.lemmas.Option.{slice_get-map}
use Rattle.std.proofs.lemmas.Bool.{false≢true, true≢false, cases_eq}
use Rattle.wx_id.specs.declared.numbers.ContextNo.{ContextNo}
use Rattle.wx_id.specs.Contexts.{same_context, is_among, is_other, are_distinct}
use Rattle.wx_id.proofs.ListLemmas.{set_there, set_is, push_cases}
use Rattle.wx_port.specs.Port.{Port, IsSound, closed, opened, is_end, is_live_end, left_by, with_live, without}
use Rattle.wx_port.specs.Numbers.{is_end_at, AreSound}
use Rattle.wx_port.proofs.SoundLemmas.{among_others, others_distinct}

sound_of : (ports : List Port) (k : ℕ) (port : Port) → AreSound ports → slice_get ports k ≡ Some port → IsSound port
sound_of ports k port all at = let h : IfSome (Some port) IsSound = rw at at (all k) in h

all_by : (ports : List Port) → ((k : ℕ) (port : Port) → slice_get ports k ≡ Some port → IsSound port) → AreSound ports
all_by ports each k = by (slice_get ports k) refl
  where
    by : (o : Option Port) → slice_get ports k ≡ o → IfSome o IsSound
    by None at = tt
    by (Some port) at = each k port at

pub sound_push : (ports : List Port) (port : Port) → AreSound ports → IsSound port → AreSound (ports ++ port ∷ [])
sound_push ports port all sound =
    all_by (ports ++ port ∷ []) (λ k x at. ⊎_elim (λ before. sound_of ports k x all before) (λ (last : (k ≡ length ports) × (x ≡ port)). rw last.1 sound) (push_cases ports port k x at))

sound_set : (ports : List Port) (k : ℕ) (port : Port) → AreSound ports → IsSound port → AreSound (set ports k port)
sound_set ports k port all sound = all_by (set ports k port) (λ j x at. ⊎_elim
    (λ (same : j ≡ k). let e : x ≡ port = set_is ports k port x (rw same at at) in rw e sound)
    (λ (other : j ≢ k). sound_of ports j x all (sym (set_there ports k j port other) ∙ at))
    (cases_eq j k))

pub sound_opened : (opener : ContextNo) (receivers : List ContextNo) → are_distinct receivers ≡ true → is_among receivers opener ≡ false → IsSound (opened opener receivers)
sound_opened opener receivers apart alone = record { opener = alone; receivers = apart; live = apart; within = λ c h. h; closed = λ h. absurd (true≢false h) }

pub sound_closed : (port : Port) → IsSound port → IsSound (closed port)
sound_closed port sound = record { opener = sound.opener; receivers = sound.receivers; live = refl; within = λ c h. absurd (false≢true h); closed = λ h. refl }

pub sound_without : (c : ContextNo) (port : Port) → IsSound port → IsSound (without c port)
sound_without c port sound = by (same_context port.opener c) refl
  where
    live : (cs : List ContextNo) → filter (is_other c) port.live ≡ cs → IsSound (with_live port cs)
    live [] e = sound_closed port sound
    live (x ∷ cs) e = record {
      opener = sound.opener;
      receivers = sound.receivers;
      live = subst (λ l. are_distinct l ≡ true) e (others_distinct c port.live sound.live);
      within = λ d h. sound.within d (among_others c d port.live (subst (λ l. is_among l d ≡ true) (sym e) h));
      closed = λ gone. sym e ∙ ap (filter (is_other c)) (sound.closed gone);
    }

    by : (b : Bool) → same_context port.opener c ≡ b → IsSound (without c port)
    by true e = rw e (sound_closed port sound)
    by false e = rw e (live (filter (is_other c) port.live) refl)

sound_left : (c : ContextNo) (port : Port) → IsSound port → IsSound (left_by c port)
sound_left c port sound = by (port.is_open && is_end port c) refl
  where
    by : (b : Bool) → (port.is_open && is_end port c) ≡ b → IsSound (left_by c port)
    by true e = rw e (sound_without c port sound)
    by false e = rw e sound

-- one channel is changed into a sound one
pub sound_after : (ports ports' : List Port) (k : ℕ) (change : Port → Port) → ((port : Port) → IsSound port → IsSound (change port)) → AreSound ports → is_some (slice_get ports k) ≡ true → IfSome (slice_get ports k) (λ port. ports' ≡ set ports k (change port)) → AreSound ports'
sound_after ports ports' k change keeps all there made = by (slice_get ports k) refl there made
  where
    by : (o : Option Port) → slice_get ports k ≡ o → is_some o ≡ true → IfSome o (λ port. ports' ≡ set ports k (change port)) → AreSound ports'
    by None at there made = absurd (false≢true there)
    by (Some port) at there made = rw made (sound_set ports k (change port) all (keeps port (sound_of ports k port all at)))

-- all channels are left by c
pub sound_all_left : (ports : List Port) (c : ContextNo) → AreSound ports → AreSound (map (left_by c) ports)
sound_all_left ports c all k = rw (slice_get-map (left_by c) ports k) (by (slice_get ports k) (all k))
  where
    by : (o : Option Port) → IfSome o IsSound → IfSome (option_map (left_by c) o) IsSound
    by None h = tt
    by (Some port) h = sound_left c port h

-- a live end is an end
pub live_end : (ports : List Port) (k : ℕ) (c : ContextNo) → AreSound ports → is_live_end (slice_get ports k) c ≡ true → is_end_at (slice_get ports k) c ≡ true
live_end ports k c all live = by (slice_get ports k) (all k) live
  where
    either : (port : Port) → IsSound port → (s r : Bool) → same_context port.opener c ≡ s → is_among port.live c ≡ r → (s || r) ≡ true → is_end port c ≡ true
    either port sound true r e f h = rw e refl
    either port sound false true e f h = rw (e, sound.within c f) refl
    either port sound false false e f h = absurd (false≢true h)

    open_one : (port : Port) (b : Bool) → port.is_open ≡ b → is_live_end (Some port) c ≡ true → (same_context port.opener c || is_among port.live c) ≡ true
    open_one port true e h = rw e at h
    open_one port false e h = absurd (false≢true (rw e at h))

    by : (o : Option Port) → IfSome o IsSound → is_live_end o c ≡ true → is_end_at o c ≡ true
    by None sound h = absurd (false≢true h)
    by (Some port) sound h = either port sound (same_context port.opener c) (is_among port.live c) refl refl (open_one port port.is_open refl h)
