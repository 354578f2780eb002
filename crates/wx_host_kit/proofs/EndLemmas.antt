-- What a kit read decides its end.
use Rattle.std.proofs.Common.{◌≡◌, ℕ, ◌<◌, ◌≤◌, ◌^◌, Bool, true, false, List, [], ◌∷◌, ◌++◌, length, take, Option, Some, None, refl, ap, ◌∙◌, sym, subst, arith, append_assoc}
use Rattle.std.specs.Option.{option_to_list}
use Rattle.std.proofs.lemmas.Bool.{false≢true}
use Rattle.std.proofs.lemmas.List.{append_cancel_left}
use Rattle.wx_json.specs.Text.{IsJsonText}
use Rattle.wx_json.proofs.OneFault.{one}
use Rattle.wx_native_frame.specs.Frames.{length_bytes, told_length, frame, IsFrame, IsTrouble, IsUnderWay}
use Rattle.wx_native_frame.specs.Splits.{frames, AllFit}
use Rattle.wx_native_frame.specs.declared.FrameFault.{FrameFault}
use Rattle.wx_native_frame.specs.declared.FrameFault.TheVariants as fault
use Rattle.wx_native_frame.proofs.Lengths.{told-length_bytes, take_seam}
use Rattle.wx_native_frame.proofs.FrameLaws.{short_under_way, trouble_no_frame}
use Rattle.wx_native_frame.proofs.SplitLaws.{one_trouble}
use Rattle.wx_host_launch.specs.Pipes.{Stream, InState, OutState, Gives}
use Rattle.wx_host_kit.specs.declared.KitEnd.{KitEnd}
use Rattle.wx_host_kit.specs.declared.KitEnd.TheVariants.{Exited, TooLong, BadJson, Cut, ReplyTooLong, ReadFailed, WriteFailed, NoMemory}
use Rattle.wx_host_kit.specs.Kit.{Reply, replies, longest_read, longest_reply, IsNextReply, IsKitEnd}
use Rattle.wx_host_kit.specs.Ends.{is_by_input, OneEnd}
use Rattle.wx_host_kit.specs.Serving.{end_of_fault}

-- Where a kit stops

-- a text that a kit answers: it and its reply are within their limits
abbrev IsAnswered : Reply → List ℕ → Type 0
IsAnswered reply t = IsJsonText t × (length t ≤ longest_read) × AllFit longest_reply (option_to_list (reply t))

-- no frame of such a text stands in front
abbrev IsStop : Reply → List ℕ → Type 0
IsStop reply rest = (t behind : List ℕ) → IsAnswered reply t → rest ≡ frame t ++ behind → ⊥

-- frames in front of the same bytes are the same
pub same_front : (t u x y : List ℕ) → length t < 2 ^ 32 → length u < 2 ^ 32 → frame t ++ x ≡ frame u ++ y
    → (t ≡ u) × (x ≡ y)
same_front t u x y small less e =
    let n = length t in
    let m = length u in
    let parts : length_bytes n ++ (t ++ x) ≡ length_bytes m ++ (u ++ y) = sym (append_assoc (length_bytes n) t x) ∙ e
    ∙ append_assoc (length_bytes m) u y in
    let long : n ≡ m = sym (told-length_bytes n (t ++ x) small) ∙ ap told_length parts
    ∙ told-length_bytes m (u ++ y) less in
    let behind : t ++ x ≡ u ++ y = append_cancel_left (length_bytes m) (t ++ x) (u ++ y)
    (ap (λ i. length_bytes i ++ (t ++ x)) (sym long) ∙ parts) in
    let same : t ≡ u = sym (take_seam m t x long) ∙ ap (take m) behind ∙ take_seam m u y refl in
    (same, append_cancel_left u x y (ap (λ v. v ++ x) (sym same) ∙ behind))

reply_fits : (limit : ℕ) (o : Option (List ℕ)) (ts : List (List ℕ)) → AllFit limit (option_to_list o ++ ts)
    → AllFit limit (option_to_list o) × AllFit limit ts
reply_fits limit None ts h = (tt, h)
reply_fits limit (Some t) ts h = ((h.0, h.1, tt), h.2)

-- two kits that stop within the same bytes stop at the same place
one_stop : (reply : Reply) (ts us : List (List ℕ)) (r q : List ℕ) → AllFit longest_read ts → AllFit longest_read us
    → AllFit longest_reply (replies reply ts) → AllFit longest_reply (replies reply us) → IsStop reply r → IsStop reply q
    → frames ts ++ r ≡ frames us ++ q → r ≡ q
one_stop reply [] [] r q ft fu at au sr sq e = e
one_stop reply [] (u ∷ us) r q ft fu at au sr sq e =
    absurd (sr u (frames us ++ q) (fu.0, fu.1, (reply_fits longest_reply (reply u) (replies reply us) au).0)
    (e ∙ append_assoc (frame u) (frames us) q))
one_stop reply (t ∷ ts) [] r q ft fu at au sr sq e =
    absurd (sq t (frames ts ++ r) (ft.0, ft.1, (reply_fits longest_reply (reply t) (replies reply ts) at).0)
    (sym e ∙ append_assoc (frame t) (frames ts) r))
one_stop reply (t ∷ ts) (u ∷ us) r q ft fu at au sr sq e =
    let few = ft.1 in
    let less = fu.1 in
    let same = same_front t u (frames ts ++ r) (frames us ++ q) (omega arith) (omega arith)
    (sym (append_assoc (frame t) (frames ts) r) ∙ e ∙ append_assoc (frame u) (frames us) q) in
    one_stop reply ts us r q ft.2 fu.2 (reply_fits longest_reply (reply t) (replies reply ts) at).1
    (reply_fits longest_reply (reply u) (replies reply us) au).1 sr sq same.1

-- Why it ends there

-- the end where the input has ended behind these bytes
abbrev end_behind : List ℕ → KitEnd
end_behind [] = Exited
end_behind (b ∷ bytes) = Cut (length (b ∷ bytes))

-- why a kit ends at this rest
data Why (reply : Reply) (rest : List ℕ) (ended : Bool) (end : KitEnd) : Type 0 where
  at_end : ended ≡ true → IsUnderWay rest longest_read → end ≡ end_behind rest → Why reply rest ended end
  at_fault : (f : FrameFault) → IsTrouble rest longest_read f → end ≡ end_of_fault f → Why reply rest ended end
  at_reply : (next : List ℕ) → longest_reply < length next → IsNextReply reply rest next → end ≡ ReplyTooLong (length next)
      → Why reply rest ended end
  at_read : ended ≡ false → IsUnderWay rest longest_read → end ≡ ReadFailed → Why reply rest ended end

cut_is : (rest : List ℕ) → 0 < length rest → Cut (length rest) ≡ end_behind rest
cut_is [] some = absurd (omega arith)
cut_is (b ∷ rest) some = refl

why : (reply : Reply) (rest part : List ℕ) (old new : OutState) (before now : InState) (end : KitEnd) → old.ended ≡ false
    → is_by_input end ≡ true → IsKitEnd reply rest part old new before now end → Why reply rest new.ended end
why reply rest part old new before now Exited on by (none, (over, come), is) =
    let U : List ℕ → Type 0 = λ r. IsUnderWay r longest_read in
    at_end over (subst U (sym is) (short_under_way [] longest_read (omega arith))) (sym (ap end_behind is))
why reply rest part old new before now (Cut have) on by (none, (over, come), under, is, some) =
    at_end over under (ap Cut is ∙ cut_is rest (omega arith))
why reply rest part old new before now (TooLong n) on by (none, trouble) = at_fault (fault.TooLong n) trouble refl
why reply rest part old new before now (BadJson f) on by (none, trouble) = at_fault (fault.BadJson f) trouble refl
why reply rest part old new before now (ReplyTooLong n) on by (none, long, (next, at, is)) =
    at_reply next (omega arith) at (ap ReplyTooLong is)
why reply rest part old new before now ReadFailed on by (none, under, rose, same) = at_read (same ∙ on) under refl
why reply rest part old new before now WriteFailed on by h = absurd (false≢true by)
why reply rest part old new before now NoMemory on by h = absurd (false≢true by)

no_answered : (reply : Reply) (rest : List ℕ) → ((i : ℕ) (t : List ℕ) → ¬ IsFrame longest_read (take i rest) t)
    → IsStop reply rest
no_answered reply rest none t behind (json, fits, short) e =
    none (length (frame t)) t (record {
      json = json;
      fits = fits;
      bytes_are = ap (take (length (frame t))) e ∙ take_seam (length (frame t)) (frame t) behind refl;
    })

no_reply_fits : (reply : Reply) (rest next : List ℕ) → longest_reply < length next → IsNextReply reply rest next
    → IsStop reply rest
no_reply_fits reply rest next long at t behind (json, fits, short) e =
    let less = at.fits in
    let same = same_front t at.text behind at.behind (omega arith) (omega arith) (sym e ∙ at.rest_is) in
    let P : Option (List ℕ) → Type 0 = λ o. AllFit longest_reply (option_to_list o) in
    let h : AllFit longest_reply (next ∷ []) = subst P (ap reply same.0 ∙ at.is) short in
    let few = h.1 in
    omega arith

stops : (reply : Reply) (rest : List ℕ) (ended : Bool) (end : KitEnd) → Why reply rest ended end → IsStop reply rest
stops reply rest ended end (at_end over under is) = no_answered reply rest under.no_frame
stops reply rest ended end (at_fault f trouble is) =
    no_answered reply rest (trouble_no_frame rest longest_read f (omega arith) trouble)
stops reply rest ended end (at_reply next long at is) = no_reply_fits reply rest next long at
stops reply rest ended end (at_read on under is) = no_answered reply rest under.no_frame

-- a reply is to a frame in front, which what is under way and what is in trouble do not have
no_next : (reply : Reply) (rest next : List ℕ) → IsNextReply reply rest next
    → ((i : ℕ) (t : List ℕ) → ¬ IsFrame longest_read (take i rest) t) → ⊥
no_next reply rest next at none =
    none (length (frame at.text)) at.text (record {
      json = at.json;
      fits = at.fits;
      bytes_are = ap (take (length (frame at.text))) at.rest_is
          ∙ take_seam (length (frame at.text)) (frame at.text) at.behind refl;
    })

one_next : (reply : Reply) (rest next other : List ℕ) → IsNextReply reply rest next → IsNextReply reply rest other
    → next ≡ other
one_next reply rest next other h k =
    let few = h.fits in
    let less = k.fits in
    let same = same_front h.text k.text h.behind k.behind (omega arith) (omega arith) (sym h.rest_is ∙ k.rest_is) in
    cc

one_why : (reply : Reply) (rest : List ℕ) (ended : Bool) (end other : KitEnd) → Why reply rest ended end
    → Why reply rest ended other → end ≡ other
one_why reply rest ended end other (at_end a u e) (at_end b v f) = e ∙ sym f
one_why reply rest ended end other (at_end a u e) (at_fault g t f) = absurd (u.no_trouble g t)
one_why reply rest ended end other (at_end a u e) (at_reply n l t f) = absurd (no_next reply rest n t u.no_frame)
one_why reply rest ended end other (at_end a u e) (at_read b v f) = absurd (false≢true (sym b ∙ a))
one_why reply rest ended end other (at_fault g t e) (at_end b v f) = absurd (v.no_trouble g t)
one_why reply rest ended end other (at_fault g t e) (at_fault k s f) =
    e ∙ ap end_of_fault (one_trouble one rest longest_read g k t s) ∙ sym f
one_why reply rest ended end other (at_fault g t e) (at_reply n l s f) =
    absurd (no_next reply rest n s (trouble_no_frame rest longest_read g (omega arith) t))
one_why reply rest ended end other (at_fault g t e) (at_read b v f) = absurd (v.no_trouble g t)
one_why reply rest ended end other (at_reply n l t e) (at_end b v f) = absurd (no_next reply rest n t v.no_frame)
one_why reply rest ended end other (at_reply n l t e) (at_fault g s f) =
    absurd (no_next reply rest n t (trouble_no_frame rest longest_read g (omega arith) s))
one_why reply rest ended end other (at_reply n l t e) (at_reply m k s f) =
    e ∙ ap (λ x. ReplyTooLong (length x)) (one_next reply rest n m t s) ∙ sym f
one_why reply rest ended end other (at_reply n l t e) (at_read b v f) = absurd (no_next reply rest n t v.no_frame)
one_why reply rest ended end other (at_read a u e) (at_end b v f) = absurd (false≢true (sym a ∙ b))
one_why reply rest ended end other (at_read a u e) (at_fault g t f) = absurd (u.no_trouble g t)
one_why reply rest ended end other (at_read a u e) (at_reply n l t f) = absurd (no_next reply rest n t u.no_frame)
one_why reply rest ended end other (at_read a u e) (at_read b v f) = e ∙ sym f

-- The law

pub one_bytes : (old : Stream) (new : Option Stream) (x y : List ℕ) → Gives (Some old) new x → Gives (Some old) new y → x ≡ y
one_bytes old None x y g h = absurd g
one_bytes old (Some new) x y g h = append_cancel_left old.read x y (sym g.read ∙ h.read)

pub one_end : OneEnd
one_end reply old new before now first last end other fresh b c h k =
    let G : List ℕ → Option Stream → Type 0 = λ x s. Gives s new.stream x in
    let same = one_bytes fresh.stream new.stream h.bytes k.bytes (subst (G h.bytes) fresh.told h.given)
    (subst (G k.bytes) fresh.told k.given) in
    let w = why reply h.rest h.part old new before now end fresh.on b h.cause in
    let v = why reply k.rest k.part old new first last other fresh.on c k.cause in
    let rest : h.rest ≡ k.rest = one_stop reply h.texts k.texts h.rest k.rest h.answered.texts_fit k.answered.texts_fit
    h.answered.replies_fit k.answered.replies_fit (stops reply h.rest new.ended end w)
    (stops reply k.rest new.ended other v) (sym h.answered.bytes_are ∙ same ∙ k.answered.bytes_are) in
    let W : List ℕ → Type 0 = λ r. Why reply r new.ended other in
    one_why reply h.rest new.ended end other w (subst W (sym rest) v)
