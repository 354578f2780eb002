-- The frames of texts, of which another's are a front.
use Rattle.std.proofs.Common.{◌≡◌, ℕ, ◌+◌, ◌<◌, ◌≤◌, ◌^◌, true, List, [], ◌∷◌, ◌++◌, length, take, drop, Option, Some, None, refl, ap, ◌∙◌, sym, subst, arith, append_assoc, length-append, take-append-drop}
use Rattle.std.proofs.lemmas.List.{append-nil}
use Rattle.wx_native_frame.specs.Frames.{frame, length_bytes}
use Rattle.wx_native_frame.specs.Splits.{frames, AllFit}
use Rattle.wx_native_frame.proofs.Lengths.{length-length_bytes}
use Rattle.wx_machine.specs.declared.entries.TheConstants.{LONGEST, LONGEST_SAID}
use Rattle.wx_outside.specs.Sink.{added}
use Rattle.wx_laws.specs.Prefix.{IsPrefix}
use Rattle.wx_host_launch.specs.Halves.{Sends, whole, in_part}
use Rattle.wx_host_launch.specs.Pipes.{Stream, Gives}
use Rattle.wx_host_kit.proofs.EndLemmas.{same_front, one_bytes}
use Rattle.wx_host_kit.proofs.ServeLemmas.{echoed}
use Rattle.wx_pipe_laws.specs.EchoIsGood.{IsEcho}
use Rattle.wx_pipe_laws.proofs.Texts.{AllShort}

frames-append : (ts us : List (List ℕ)) → frames (ts ++ us) ≡ frames ts ++ frames us
frames-append [] us = refl
frames-append (t ∷ ts) us = ap (λ x. frame t ++ x) (frames-append ts us) ∙ sym (append_assoc (frame t) (frames ts) (frames us))

-- what was sent of texts is a front of their frames
pub sent_first : (failed : Type 0) (texts : List (List ℕ)) (bytes : List ℕ) → Sends failed texts bytes true
    → IsPrefix bytes (frames texts)
sent_first failed texts bytes (whole is) = ([], sym (append-nil (frames texts)) ∙ ap (λ x. x ++ []) (sym is))
sent_first failed texts bytes (in_part f before last n are is) =
    let all : frames texts ≡ frames before ++ (frame last ++ []) = ap frames are ∙ frames-append before (last ∷ []) in
    let cut : frame last ++ [] ≡ take n (frame last) ++ drop n (frame last) = append-nil (frame last)
    ∙ sym (take-append-drop n (frame last)) in (
      drop n (frame last),
      all ∙ ap (λ x. frames before ++ x) cut
          ∙ sym (append_assoc (frames before) (take n (frame last)) (drop n (frame last))) ∙ ap (λ x. x ++ drop n (frame last)) (sym is),
    )

no_frame_in_nothing : (u x : List ℕ) → [] ≡ frame u ++ x → ⊥
no_frame_in_nothing u x is =
    omega (arith, ap length is, length-append (frame u) x, length-append (length_bytes (length u)) u, length-length_bytes (length u))

-- texts whose frames are in front of the frames of others are the first of these
pub texts_first : (us ts : List (List ℕ)) (rest : List ℕ) → AllFit LONGEST_SAID us → AllShort ts
    → frames ts ≡ frames us ++ rest → IsPrefix us ts
texts_first [] ts rest fit short is = (ts, refl)
texts_first (u ∷ us) [] rest fit short is =
    absurd (no_frame_in_nothing u (frames us ++ rest) (is ∙ append_assoc (frame u) (frames us) rest))
texts_first (u ∷ us) (t ∷ ts) rest fit short is =
    let few = fit.1 in
    let less = short.0 in
    let same = same_front t u (frames ts) (frames us ++ rest) (omega arith) (omega arith)
    (is ∙ append_assoc (frame u) (frames us) rest) in
    let more = texts_first us ts rest fit.2 short.1 same.1 in
    (more.0, ap (λ x. x ∷ ts) same.0 ∙ ap (λ l. u ∷ l) more.1)

-- what the echo wrote is a front of what it read
pub echo_front : (read written : List ℕ) → IsEcho read written → IsPrefix written read
echo_front read written e =
    let h = echoed e.old e.new e.before e.now e.end e.served in
    let S : List ℕ → Stream = λ x. record { read = x; coming = e.unread } in
    let G : Option Stream → Option Stream → Type 0 = λ a b. Gives a b h.bytes in
    let G1 : Option Stream → Type 0 = λ a. Gives a e.new.stream h.bytes in
    let G2 : Option Stream → Type 0 = λ b. Gives (Some (record { read = []; coming = e.coming })) b h.bytes in
    let moved : Gives (Some (record { read = []; coming = e.coming })) (Some (S read)) h.bytes = subst G2 e.reads (subst G1 e.begins h.given) in
    let out : Some written ≡ added (Some []) (frames h.texts ++ h.part) = sym e.writes ∙ h.sent ∙ ap (λ s. added s (frames h.texts ++ h.part)) e.empty in
    let is : written ≡ frames h.texts ++ h.part = cc in
    (h.behind, moved.read ∙ h.front ∙ ap (λ x. x ++ h.behind) (sym is))
