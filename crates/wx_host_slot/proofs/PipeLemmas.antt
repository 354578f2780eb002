-- What a child's pipe carried in all.
use Rattle.std.proofs.Common.{◌≡◌, ℕ, List, [], ◌∷◌, ◌++◌, take, Bool, true, false, Option, Some, None, refl, ap, ◌∙◌, sym, subst, arith, append_assoc}
use Rattle.std.proofs.lemmas.Bool.{true≢false}
use Rattle.std.proofs.lemmas.List.{append-nil}
use Rattle.wx_native_frame.specs.Frames.{frame}
use Rattle.wx_native_frame.specs.Splits.{frames, AllFit, IsSplit}
use Rattle.wx_native_frame.proofs.FrameLaws.{short_under_way}
use Rattle.wx_machine.specs.declared.entries.TheConstants.{LONGEST_SAID}
use Rattle.wx_outside.specs.Sink.{added}
use Rattle.wx_host_launch.specs.Halves.{Sends, whole, in_part}
use Rattle.wx_host_launch.specs.Pipes.{Stream, Gives}
use Rattle.wx_host_launch.proofs.KeepsLemmas.{ReadsOn}
use Rattle.wx_host_launch.specs.Records.{Program, Writing}
use Rattle.wx_host_slot.specs.Slots.{PipesTold}

-- What was sent

pub frames-append : (ts us : List (List ℕ)) → frames (ts ++ us) ≡ frames ts ++ frames us
frames-append [] us = refl
frames-append (t ∷ ts) us = ap (λ x. frame t ++ x) (frames-append ts us) ∙ sym (append_assoc (frame t) (frames ts) (frames us))

-- where nothing stopped, whole frames were sent
pub sent_whole : (failed : Type 0) (texts : List (List ℕ)) (bytes : List ℕ) (stopped : Bool) → Sends failed texts bytes stopped → stopped ≡ false → bytes ≡ frames texts
sent_whole failed texts bytes stopped (whole e) is = e
sent_whole failed texts bytes true (in_part f before last n t e) is = absurd (true≢false is)

-- what was sent before was the frames of these texts
pub sent_after : (failed lastly : Type 0) (taken texts : List (List ℕ)) (bytes : List ℕ) (stopped : Bool) → (failed → lastly) → Sends failed texts bytes stopped → Sends lastly (taken ++ texts) (frames taken ++ bytes) true
sent_after failed lastly taken texts bytes stopped f (whole e) = whole (ap (λ x. frames taken ++ x) e ∙ sym (frames-append taken texts))
sent_after failed lastly taken texts bytes true f (in_part rose before last n t e) =
    in_part (f rose) (taken ++ before) last n (ap (λ x. taken ++ x) t ∙ sym (append_assoc taken before (last ∷ [])))
    (ap (λ x. frames taken ++ x) e ∙ sym (append_assoc (frames taken) (frames before) (take n (frame last))) ∙ ap (λ x. x ++ take n (frame last)) (sym (frames-append taken before)))

pub pipes_sent : (writing : Option Writing) (program : Option Program) (taken texts : List (List ℕ)) (read : List ℕ) (sent now : Option (List ℕ)) (stream : Option Stream) (bytes : List ℕ) → now ≡ added sent bytes → bytes ≡ frames texts
    → PipesTold writing program taken read sent stream → PipesTold writing program (taken ++ texts) read now stream
pipes_sent (Some w) (Some p) taken texts read (Some sent) now (Some stream) bytes is whole_ told =
    let N : Option (List ℕ) → Type 0 = λ n. PipesTold (Some w) (Some p) (taken ++ texts) read n (Some stream) in
    subst N (sym is) (ap (λ x. x ++ bytes) told.0 ∙ ap (λ x. frames taken ++ x) whole_ ∙ sym (frames-append taken texts), told.1, told.2)
pipes_sent None (Some p) taken texts read None now None bytes is whole_ told =
    let N : Option (List ℕ) → Type 0 = λ n. PipesTold None (Some p) (taken ++ texts) read n None in
    subst N (sym is) tt
pipes_sent _ _ taken texts read _ now _ bytes is whole_ told = absurd told

-- What was read

pub whole_split : (said : List (List ℕ)) → AllFit LONGEST_SAID said → IsSplit LONGEST_SAID (frames said) said []
whole_split said fit = record { fit = fit; stream_is = sym (append-nil (frames said)); no_frame = (short_under_way [] LONGEST_SAID (omega arith)).no_frame }

AllFit-both : (ts us : List (List ℕ)) → AllFit LONGEST_SAID ts → AllFit LONGEST_SAID us → AllFit LONGEST_SAID (ts ++ us)
AllFit-both [] us h k = k
AllFit-both (t ∷ ts) us (j, le, h) k = (j, le, AllFit-both ts us h k)

-- what was read in all splits as what was read before, and what was read on
pub split_on : (read rest bytes : List ℕ) (said texts : List (List ℕ)) (left : List ℕ) → IsSplit LONGEST_SAID read said rest → AllFit LONGEST_SAID texts → (on : ReadsOn rest bytes texts left) → IsSplit LONGEST_SAID (read ++ bytes) (said ++ texts) on.whole
split_on read rest bytes said texts left split fit on = record {
  fit = AllFit-both said texts split.fit fit;
  stream_is =
      ap (λ x. x ++ bytes) split.stream_is
      ∙ append_assoc (frames said) rest bytes
      ∙ ap (λ x. frames said ++ x) on.is
      ∙ sym (append_assoc (frames said) (frames texts) on.whole)
      ∙ ap (λ x. x ++ on.whole) (sym (frames-append said texts));
  no_frame = on.no_frame;
}

pub pipes_read : (writing : Option Writing) (program : Option Program) (taken : List (List ℕ)) (read : List ℕ) (sent : Option (List ℕ)) (stream now : Option Stream) (bytes : List ℕ) → Gives stream now bytes
    → PipesTold writing program taken read sent stream → PipesTold writing program taken (read ++ bytes) sent now
pipes_read (Some w) (Some p) taken read (Some sent) (Some old) (Some new) bytes given told = (
  told.0,
  given.read ∙ ap (λ x. x ++ bytes) told.1,
  told.2 ∙ ap (λ x. old.read ++ x) given.coming ∙ sym (append_assoc old.read bytes new.coming) ∙ ap (λ x. x ++ new.coming) (sym given.read),
)
pipes_read (Some w) (Some p) taken read (Some sent) (Some old) None bytes given told = absurd given
pipes_read None (Some p) taken read None None None bytes given told = tt
pipes_read None (Some p) taken read None None (Some new) bytes given told = absurd given
pipes_read _ _ taken read _ _ now bytes given told = absurd told
