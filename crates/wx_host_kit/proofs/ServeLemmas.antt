-- Serving, frame by frame and piece by piece.
use Rattle.std.proofs.Common.{◌≡◌, ℕ, ◌+◌, ◌<◌, ◌≤◌, ◌==◌, zero, suc, Bool, true, false, List, [], ◌∷◌, ◌++◌, length, take, drop, Option, Some, None, refl, ap, ◌∙◌, sym, subst, arith, append_assoc, length-drop, drop-drop, drop_of_length-le, take-append-drop}
use Rattle.std.specs.Prelude.{IfSome, MatchOption}
use Rattle.std.specs.Option.{option_to_list}
use Rattle.std.proofs.lemmas.List.{append-nil, take_all}
use Rattle.std.proofs.Math.Dec.{eqb-suc-zero}
use Rattle.wx_json.specs.Text.{IsJsonText}
use Rattle.wx_native_frame.specs.Frames.{Unfinished, frame, IsFrame, IsUnderWay, EndsFrame}
use Rattle.wx_native_frame.specs.Splits.{frames, AllFit, IsSplit}
use Rattle.wx_native_frame.proofs.Lengths.{append_take-drop}
use Rattle.wx_native_frame.proofs.FrameLaws.{short_under_way}
use Rattle.wx_native_frame.proofs.SplitLaws.{split_nothing, split_frame}
use Rattle.wx_outside.specs.Sink.{added}
use Rattle.wx_host_launch.specs.Pipes.{InState, OutState, Gives}
use Rattle.wx_host_launch.proofs.PipeLemmas.{added_twice}
use Rattle.wx_host_launch.proofs.ReadingLemmas.{gives_nothing, gives_more}
use Rattle.wx_host_launch.proofs.TurnLemmas.{added_nothing}
use Rattle.wx_host_kit.specs.declared.KitEnd.{KitEnd}
use Rattle.wx_host_kit.specs.declared.KitEnd.TheVariants.{Exited, TooLong, BadJson, Cut, ReplyTooLong, ReadFailed, WriteFailed, NoMemory}
use Rattle.wx_host_kit.specs.Kit.{Reply, replies, longest_read, longest_reply, IsKitEnd, IsServed}
use Rattle.wx_host_kit.specs.Echoes.{EchoLaw}
use Rattle.wx_host_kit.specs.Serving.{IsReplyEnd, Replied, IsServing, IsOver, ReadsOn}

-- One text more

one_more : (limit : ℕ) (ts : List (List ℕ)) (t : List ℕ) → AllFit limit ts → IsJsonText t → length t ≤ limit → AllFit limit (ts ++ t ∷ []) × (frames ts ++ frame t ≡ frames (ts ++ t ∷ []))
one_more limit ts t fit json fits =
    let start : IsSplit limit (frames ts) ts [] = record { fit = fit; stream_is = sym (append-nil (frames ts)); no_frame = (split_nothing limit).no_frame } in
    let h = split_frame limit (frames ts) ts [] (frame t) t start (record { json = json; fits = fits; bytes_are = refl }) in
    (h.fit, h.stream_is ∙ append-nil (frames (ts ++ t ∷ [])))

one_or_none : (limit : ℕ) (ts : List (List ℕ)) (o : Option (List ℕ)) → AllFit limit ts → AllFit limit (option_to_list o) → AllFit limit (ts ++ option_to_list o) × (frames ts ++ frames (option_to_list o) ≡ frames (ts ++ option_to_list o))
one_or_none limit ts None fit h = let P : List (List ℕ) → Type 0 = λ x. AllFit limit x × (frames ts ++ [] ≡ frames x) in subst P (sym (append-nil ts)) (fit, append-nil (frames ts))
one_or_none limit ts (Some t) fit h = let m = one_more limit ts t fit h.0 h.1 in (m.0, ap (λ x. frames ts ++ x) (append-nil (frame t)) ∙ m.1)

replies_more : (reply : Reply) (ts : List (List ℕ)) (t : List ℕ) → replies reply (ts ++ t ∷ []) ≡ replies reply ts ++ option_to_list (reply t)
replies_more reply [] t = append-nil (option_to_list (reply t))
replies_more reply (u ∷ us) t = ap (λ x. option_to_list (reply u) ++ x) (replies_more reply us t) ∙ sym (append_assoc (option_to_list (reply u)) (replies reply us) (option_to_list (reply t)))

sent_more : (s m n : Option (List ℕ)) (a b : List ℕ) → m ≡ added s a → n ≡ added m b → n ≡ added s (a ++ b)
sent_more s m n a b is to = to ∙ ap (λ x. added x b) is ∙ added_twice s a b

-- A frame of a piece

-- the frame that a step handed out
pub frame_of : (reader : Unfinished) (piece t left : List ℕ) (used : ℕ) (o : Option (List ℕ)) → reader.limit ≡ longest_read → o ≡ Some t → IfSome o (λ t. EndsFrame reader.limit reader.bytes piece used t × (left ≡ [])) → EndsFrame longest_read reader.bytes piece used t × (left ≡ [])
frame_of reader piece t left used o is found h =
    let L : ℕ → Type 0 = λ l. EndsFrame l reader.bytes piece used t in
    let P : Option (List ℕ) → Type 0 = λ x. IfSome x (λ t. EndsFrame reader.limit reader.bytes piece used t × (left ≡ [])) in
    let here : EndsFrame reader.limit reader.bytes piece used t × (left ≡ []) = subst P found h in
    (subst L is here.0, here.1)

hand_is : (b piece t : List ℕ) (used : ℕ) → EndsFrame longest_read b piece used t → b ++ piece ≡ frame t ++ drop used piece
hand_is b piece t used ends = sym (append_take-drop b piece used) ∙ ap (λ x. x ++ drop used piece) ends.frame.bytes_are

-- a frame that ends in a piece uses a byte of it
pub some_used : (b piece t : List ℕ) (used : ℕ) → IsUnderWay b longest_read → EndsFrame longest_read b piece used t → 0 < used
some_used b piece t zero u ends =
    let F : List ℕ → Type 0 = λ x. IsFrame longest_read x t in
    absurd (u.no_frame (length b) t (subst F (append-nil b ∙ sym (take_all (length b) b (omega arith))) ends.frame))
some_used b piece t (suc n) u ends = omega arith

-- behind a reply that was written the kit serves on
pub serves_on : (reply : Reply) (bytes b piece t : List ℕ) (used : ℕ) (before mid now : InState) → IsServing reply bytes (b ++ piece) before mid → EndsFrame longest_read b piece used t → Replied reply t mid now None → mid.faults ≤ now.faults → IsServing reply bytes (drop used piece) before now
serves_on reply bytes b piece t used before mid now h ends (sent, fit) le =
    let more = replies_more reply h.texts t in
    let one = one_more longest_read h.texts t h.answered.texts_fit ends.frame.json ends.frame.fits in
    let all = one_or_none longest_reply (replies reply h.texts) (reply t) h.answered.replies_fit fit in
    let P : List (List ℕ) → Type 0 = λ x. AllFit longest_reply x in
    let a = h.later in
    record {
      texts = h.texts ++ t ∷ [];
      answered = record {
        bytes_are = h.answered.bytes_are ∙ ap (λ x. frames h.texts ++ x) (hand_is b piece t used ends) ∙ sym (append_assoc (frames h.texts) (frame t) (drop used piece)) ∙ ap (λ x. x ++ drop used piece) one.1;
        texts_fit = one.0;
        replies_fit = subst P (sym more) all.0;
      };
      sent = sent_more before.sent mid.sent now.sent (frames (replies reply h.texts)) (frames (option_to_list (reply t))) h.sent sent ∙ ap (added before.sent) (all.1 ∙ ap frames (sym more));
      later = omega arith;
    }

cause_at_reply : (reply : Reply) (rest part t behind : List ℕ) (old new : OutState) (before mid now : InState) (end : KitEnd) → before.faults ≤ mid.faults → rest ≡ frame t ++ behind → IsJsonText t → length t ≤ longest_read → IsReplyEnd reply t part mid now end → IsKitEnd reply rest part old new before now end
cause_at_reply reply rest part t behind old new before mid now (ReplyTooLong n) le is json fits (none, long, (next, replied, size)) = (none, long, (next, record { text = t; behind = behind; rest_is = is; json = json; fits = fits; is = replied }, size))
cause_at_reply reply rest part t behind old new before mid now WriteFailed le is json fits (rose, (next, replied, short, front)) = (omega arith, (next, record { text = t; behind = behind; rest_is = is; json = json; fits = fits; is = replied }, short, front))
cause_at_reply reply rest part t behind old new before mid now NoMemory le is json fits h = h
cause_at_reply reply rest part t behind old new before mid now Exited le is json fits h = absurd h
cause_at_reply reply rest part t behind old new before mid now (TooLong n) le is json fits h = absurd h
cause_at_reply reply rest part t behind old new before mid now (BadJson f) le is json fits h = absurd h
cause_at_reply reply rest part t behind old new before mid now (Cut n) le is json fits h = absurd h
cause_at_reply reply rest part t behind old new before mid now ReadFailed le is json fits h = absurd h

-- a reply at which the kit ends
pub over_at_reply : (reply : Reply) (bytes b piece t : List ℕ) (used : ℕ) (old new : OutState) (before mid now : InState) (end : KitEnd) → IsServing reply bytes (b ++ piece) before mid → EndsFrame longest_read b piece used t → Replied reply t mid now (Some end) → IsOver reply bytes old new before now end
over_at_reply reply bytes b piece t used old new before mid now end h ends (part, sent, why) =
    record {
      texts = h.texts;
      rest = b ++ piece;
      answered = h.answered;
      part = part;
      sent = sent_more before.sent mid.sent now.sent (frames (replies reply h.texts)) part h.sent sent;
      cause = cause_at_reply reply (b ++ piece) part t (drop used piece) old new before mid now end h.later (hand_is b piece t used ends) ends.frame.json ends.frame.fits why;
    }

-- an end at what is in hand
pub over_at_hand : (reply : Reply) (bytes hand : List ℕ) (old new : OutState) (before now : InState) (end : KitEnd) → IsServing reply bytes hand before now → IsKitEnd reply hand [] old new before now end → IsOver reply bytes old new before now end
over_at_hand reply bytes hand old new before now end h why =
    record { texts = h.texts; rest = hand; answered = h.answered; part = []; sent = h.sent ∙ ap (added before.sent) (sym (append-nil (frames (replies reply h.texts)))); cause = why }

-- Over a piece

-- What is known within a piece, of which so much was used.
pub record IsWithin (reply same_reply : Reply) (start reader : Unfinished) (piece : List ℕ) (at : ℕ) (first now : InState) : Type 0 where
  pub same : same_reply ≡ reply
  pub inside : at ≤ length piece
  pub limit : reader.limit ≡ longest_read
  pub under_way : IsUnderWay reader.bytes longest_read
  pub serves : (bytes : List ℕ) (before : InState) → IsServing reply bytes (start.bytes ++ piece) before first → IsServing reply bytes (reader.bytes ++ drop at piece) before now

pub nothing_under_way : (left : List ℕ) → left ≡ [] → IsUnderWay left longest_read
nothing_under_way left e = let P : List ℕ → Type 0 = λ x. IsUnderWay x longest_read in subst P (sym e) (short_under_way [] longest_read (omega arith))

-- within a piece another frame was answered, or none, or the kit ended
pub within_next : (reply other same_reply : Reply) (start reader after : Unfinished) (piece rest : List ℕ) (at n : ℕ) (first mid now : InState) → IsWithin reply other start reader piece at first mid → rest ≡ drop at piece → same_reply ≡ other → after.limit ≡ longest_read → (0 < n) × (n ≤ length rest) × (after.bytes ≡ []) → ((bytes : List ℕ) (before : InState) → IsServing other bytes (reader.bytes ++ rest) before mid → IsServing other bytes (drop n rest) before now) → IsWithin reply same_reply start after piece (at + n) first now
within_next reply other same_reply start reader after piece rest at n first mid now w is same limit (some, few, none) h =
    let long : length rest ≡ length (drop at piece) = ap length is in
    let size = length-drop at piece in
    let inside = w.inside in
    record {
      same = same ∙ w.same;
      inside = omega arith;
      limit = limit;
      under_way = nothing_under_way after.bytes none;
      serves = λ bytes before so.
          let P : List ℕ → Type 0 = λ x. IsServing reply bytes x before now in
          let back : drop n rest ≡ after.bytes ++ drop (at + n) piece = ap (drop n) is ∙ drop-drop n at piece ∙ ap (λ x. x ++ drop (at + n) piece) (sym none) in
          subst P back (serves bytes before (w.serves bytes before so));
    }
  where
    serves : (bytes : List ℕ) (before : InState) → IsServing reply bytes (reader.bytes ++ drop at piece) before mid → IsServing reply bytes (drop n rest) before now
    serves bytes before so =
        let R : Reply → Type 0 = λ x. (bytes : List ℕ) (before : InState) → IsServing x bytes (reader.bytes ++ rest) before mid → IsServing x bytes (drop n rest) before now in
        let P : List ℕ → Type 0 = λ x. IsServing reply bytes (reader.bytes ++ x) before mid in
        subst R w.same h bytes before (subst P (sym is) so)

-- a fact of what is served, of the rest of a piece and of the handler as it stands, is one of the whole piece
pub within_last : (reply other : Reply) (start reader : Unfinished) (piece rest : List ℕ) (at : ℕ) (first mid : InState) (T : Reply → List ℕ → InState → Type 0) → IsWithin reply other start reader piece at first mid → rest ≡ drop at piece → ((bytes : List ℕ) (before : InState) → IsServing other bytes (reader.bytes ++ rest) before mid → T other bytes before) → (bytes : List ℕ) (before : InState) → IsServing reply bytes (start.bytes ++ piece) before first → T reply bytes before
within_last reply other start reader piece rest at first mid T w is h bytes before so =
    let R : Reply → Type 0 = λ x. (bytes : List ℕ) (before : InState) → IsServing x bytes (reader.bytes ++ rest) before mid → T x bytes before in
    let P : List ℕ → Type 0 = λ x. IsServing reply bytes (reader.bytes ++ x) before mid in
    subst R w.same h bytes before (subst P (sym is) (w.serves bytes before so))

-- behind the last byte of a piece
pub within_all : (reply other : Reply) (start reader : Unfinished) (piece : List ℕ) (at : ℕ) (first now : InState) → IsWithin reply other start reader piece at first now → length piece ≤ at → (bytes : List ℕ) (before : InState) → IsServing reply bytes (start.bytes ++ piece) before first → IsUnderWay reader.bytes longest_read × IsServing reply bytes reader.bytes before now
within_all reply other start reader piece at first now w le bytes before so =
    let P : List ℕ → Type 0 = λ x. IsServing reply bytes x before now in
    (w.under_way, subst P (ap (λ x. reader.bytes ++ x) (drop_of_length-le piece le) ∙ append-nil reader.bytes) (w.serves bytes before so))

-- Piece by piece

-- an end behind all that was read
pub served : (reply : Reply) (reader : Unfinished) (old mid new : OutState) (before now : InState) (end : KitEnd) → ReadsOn reply reader old mid before now → Gives mid.stream new.stream [] → IsKitEnd reply reader.bytes [] old new before now end → IsServed reply old new before now end
served reply reader old mid new before now end so given why =
    let G : List ℕ → Type 0 = λ x. Gives old.stream new.stream x in
    let over = over_at_hand reply so.bytes reader.bytes old new before now end so.serving why in
    record {
      bytes = so.bytes;
      given = subst G (append-nil so.bytes) (gives_more old.stream mid.stream new.stream so.bytes [] so.given given);
      texts = over.texts;
      rest = over.rest;
      answered = over.answered;
      part = over.part;
      sent = over.sent;
      cause = over.cause;
    }

-- a read that gave bytes did not end the input
pub same_end : (was ended : Bool) (n : ℕ) → 0 < n → ended ≡ (n == 0) → (was ≡ true → n ≡ 0) → ended ≡ was
same_end true ended n some is none = let e = none refl in absurd (omega arith)
same_end false ended zero some is none = absurd (omega arith)
same_end false ended (suc n) some is none = is ∙ eqb-suc-zero n

-- what a piece comes to that was read
pub piece_read : (reply : Reply) (reader after : Unfinished) (piece : List ℕ) (old mid new : OutState) (before now later : InState) (r : Option KitEnd) → ReadsOn reply reader old mid before now → Gives mid.stream new.stream piece → mid.faults ≤ new.faults → new.ended ≡ mid.ended → after.limit ≡ longest_read
    → ((bytes : List ℕ) (before : InState) → IsServing reply bytes (reader.bytes ++ piece) before now → MatchOption r (IsUnderWay after.bytes longest_read × IsServing reply bytes after.bytes before later) (λ end. (old new : OutState) → IsOver reply bytes old new before later end))
    → MatchOption r (ReadsOn reply after old new before later) (IsServed reply old new before later)
piece_read reply reader after piece old mid new before now later r so given le ended limit h =
    by_end r (h (so.bytes ++ piece) before whole)
  where
    whole : IsServing reply (so.bytes ++ piece) (reader.bytes ++ piece) before now
    whole = record {
      texts = so.serving.texts;
      answered = record {
        bytes_are = ap (λ x. x ++ piece) so.serving.answered.bytes_are ∙ append_assoc (frames so.serving.texts) reader.bytes piece;
        texts_fit = so.serving.answered.texts_fit;
        replies_fit = so.serving.answered.replies_fit;
      };
      sent = so.serving.sent;
      later = so.serving.later;
    }

    all_given : Gives old.stream new.stream (so.bytes ++ piece)
    all_given = gives_more old.stream mid.stream new.stream so.bytes piece so.given given

    by_end : (r : Option KitEnd) → MatchOption r (IsUnderWay after.bytes longest_read × IsServing reply (so.bytes ++ piece) after.bytes before later) (λ end. (old new : OutState) → IsOver reply (so.bytes ++ piece) old new before later end) → MatchOption r (ReadsOn reply after old new before later) (IsServed reply old new before later)
    by_end None (under_way, serving) = let a = so.later in record { limit = limit; under_way = under_way; bytes = so.bytes ++ piece; given = all_given; serving = serving; later = omega arith; same_end = ended ∙ so.same_end }
    by_end (Some end) over = let o = over old new in record { bytes = so.bytes ++ piece; given = all_given; texts = o.texts; rest = o.rest; answered = o.answered; part = o.part; sent = o.sent; cause = o.cause }

-- before the first read nothing was read, and nothing written
pub begins : (reply : Reply) (reader : Unfinished) (old : OutState) (before : InState) → reader.limit ≡ longest_read → reader.bytes ≡ [] → ReadsOn reply reader old old before before
begins reply reader old before is none =
    record {
      limit = is;
      under_way = nothing_under_way reader.bytes none;
      bytes = [];
      given = gives_nothing old.stream;
      serving = record { texts = []; answered = record { bytes_are = sym none; texts_fit = tt; replies_fit = tt }; sent = added_nothing before.sent; later = omega arith };
      later = omega arith;
      same_end = refl;
    }

-- the same under another name of the handler's meaning
pub once_more : (reply other : Reply) (reader after : Unfinished) (old mid new : OutState) (before now later : InState) (r : Option KitEnd) → other ≡ reply → ReadsOn reply reader old mid before now → ((old : OutState) (before : InState) → ReadsOn other reader old mid before now → MatchOption r (ReadsOn other after old new before later) (IsServed other old new before later)) → MatchOption r (ReadsOn reply after old new before later) (IsServed reply old new before later)
once_more reply other reader after old mid new before now later r e so h =
    let R : Reply → Type 0 = λ x. ReadsOn x reader old mid before now in
    let M : Reply → Type 0 = λ x. MatchOption r (ReadsOn x after old new before later) (IsServed x old new before later) in
    subst M e (h old before (subst R (sym e) so))

-- The echo

abbrev echo : Reply
echo = λ text. Some text

echo_replies : (ts : List (List ℕ)) → replies echo ts ≡ ts
echo_replies [] = refl
echo_replies (t ∷ ts) = ap (λ x. t ∷ x) (echo_replies ts)

-- only a failed write leaves a part of a frame
no_part : (reply : Reply) (rest part : List ℕ) (old new : OutState) (before now : InState) (end : KitEnd) → IsKitEnd reply rest part old new before now end → (end ≡ WriteFailed → ⊥) → part ≡ []
no_part reply rest part old new before now Exited h n = h.0
no_part reply rest part old new before now (TooLong len) h n = h.0
no_part reply rest part old new before now (BadJson f) h n = h.0
no_part reply rest part old new before now (Cut have) h n = h.0
no_part reply rest part old new before now (ReplyTooLong len) h n = h.0
no_part reply rest part old new before now ReadFailed h n = h.0
no_part reply rest part old new before now WriteFailed h n = absurd (n refl)
no_part reply rest part old new before now NoMemory h n = h

-- the part of a frame that the echo wrote is a front of the rest that it read
part_front : (rest part : List ℕ) (old new : OutState) (before now : InState) (end : KitEnd)
    → IsKitEnd echo rest part old new before now end → (behind : List ℕ) × (rest ≡ part ++ behind)
part_front rest part old new before now WriteFailed (rose, (next, at, short, (n, is))) =
    let same : at.text ≡ next = cc in
    let whole : rest ≡ take n (frame next) ++ (drop n (frame next) ++ at.behind) = at.rest_is
    ∙ ap (λ t. frame t ++ at.behind) same ∙ ap (λ x. x ++ at.behind) (sym (take-append-drop n (frame next)))
    ∙ append_assoc (take n (frame next)) (drop n (frame next)) at.behind in
    (drop n (frame next) ++ at.behind, whole ∙ ap (λ x. x ++ (drop n (frame next) ++ at.behind)) (sym is))
part_front rest part old new before now Exited h = (rest, ap (λ x. x ++ rest) (sym h.0))
part_front rest part old new before now (TooLong len) h = (rest, ap (λ x. x ++ rest) (sym h.0))
part_front rest part old new before now (BadJson f) h = (rest, ap (λ x. x ++ rest) (sym h.0))
part_front rest part old new before now (Cut have) h = (rest, ap (λ x. x ++ rest) (sym h.0))
part_front rest part old new before now (ReplyTooLong len) h = (rest, ap (λ x. x ++ rest) (sym h.0))
part_front rest part old new before now ReadFailed h = (rest, ap (λ x. x ++ rest) (sym h.0))
part_front rest part old new before now NoMemory h = (rest, ap (λ x. x ++ rest) (sym h))

-- what a kit wrote that serves by the echo
pub echoed : EchoLaw
echoed old new before now end h =
    let front = part_front h.rest h.part old new before now end h.cause in
    record {
      bytes = h.bytes;
      given = h.given;
      texts = h.texts;
      rest = h.rest;
      read = h.answered.bytes_are;
      fit = h.answered.texts_fit;
      part = h.part;
      sent = h.sent ∙ ap (λ ts. added before.sent (frames ts ++ h.part)) (echo_replies h.texts);
      whole = no_part echo h.rest h.part old new before now end h.cause;
      behind = front.0;
      front = h.answered.bytes_are ∙ ap (λ x. frames h.texts ++ x) front.1
          ∙ sym (append_assoc (frames h.texts) h.part front.0);
    }
