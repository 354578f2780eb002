-- Reading, piece by piece.
use Rattle.std.proofs.Common.{◌≡◌, ℕ, ◌+◌, ◌<◌, ◌≤◌, zero, suc, List, [], ◌∷◌, ◌++◌, length, take, drop, Option, Some, None, refl, ap, ◌∙◌, sym, subst, arith, inl, inr, append_assoc, length-append}
use Rattle.std.specs.Prelude.{IfSome, IfNone, option_map}
use Rattle.std.proofs.lemmas.Bool.{cases_lt}
use Rattle.std.proofs.lemmas.List.{append-nil, take_all, length-take}
use Rattle.wx_json.specs.Text.{IsJsonText}
use Rattle.wx_native_frame.specs.Frames.{Unfinished, told_length, IsFrame, IsTrouble, IsTroubleFirst, IsUnderWay, EndsFrame, StopsAt}
use Rattle.wx_native_frame.specs.Frames.{too_long}
use Rattle.wx_native_frame.specs.declared.FrameFault.{FrameFault}
use Rattle.wx_native_frame.specs.declared.FrameFault.TheVariants as fault
use Rattle.wx_native_frame.proofs.Empty.{empty_unfinished}
use Rattle.wx_native_frame.proofs.Lengths.{told-append, append_take-drop}
use Rattle.wx_native_frame.proofs.FrameLaws.{frame-length, frame-told, short_no_trouble, trouble_no_frame}
use Rattle.wx_native_frame.proofs.StepLaws.{stops_first}
use Rattle.wx_native_frame.proofs.SplitLaws.{end_no_trouble}
use Rattle.wx_machine.specs.declared.entries.Reason.{Reason}
use Rattle.wx_machine.specs.declared.entries.Reason.TheVariants.{StartFailed, ReadFailed, WriteFailed, TooLong, BadJson, Cut, Exited, Closed}
use Rattle.wx_machine.specs.declared.entries.TheConstants.{LONGEST_SAID}
use Rattle.wx_outside.specs.Causes.{Rose}
use Rattle.wx_host_launch.specs.Pipes.{Stream, OutState, Gives}
use Rattle.wx_host_launch.specs.Reading.{IsReadingEnd, Keeps, all, to_trouble, heard_of, HasNoFrame, Came, IsRead, IsWithinFrame}
use Rattle.wx_host_launch.specs.declared.reading.Heard.{Heard}
use Rattle.wx_host_launch.specs.declared.reading.Heard.TheVariants.{Text, Ends, NoMemory}

-- Frames

-- no text is empty
some_text : (t : List ℕ) → IsJsonText t → 0 < length t
some_text t j = elim (cases_lt 0 (length t)) [ inl lt ↦ lt | inr le ↦ absurd (empty_unfinished.faulty (let P : List ℕ → Type 0 = IsJsonText in subst P (none t (omega arith)) j)) ]
  where
    none : (x : List ℕ) → length x ≡ 0 → x ≡ []
    none [] e = refl
    none (y ∷ ys) e = absurd (omega arith)

-- a piece within a frame is used whole
all_used : (b p t : List ℕ) (used : ℕ) → IsWithinFrame b (length p) → EndsFrame LONGEST_SAID b p used t → used ≡ length p
all_used b p t used w h =
    let long = frame-length LONGEST_SAID (b ++ take used p) t h.frame in
    let tells = frame-told LONGEST_SAID (b ++ take used p) t (omega arith) h.frame in
    let some = some_text t h.frame.json in
    let inside = h.inside in
    elim (cases_lt (length b) 4) [
      | inl lt ↦ let most = w.head lt in absurd (omega (arith, length-append b (take used p), length-take used p))
      | inr le ↦ let most = w.text le in omega (arith, length-append b (take used p), length-take used p, told-append b (take used p) le)
    ]

whole_frame : (limit : ℕ) (b p t : List ℕ) (used : ℕ) → limit ≡ LONGEST_SAID → IsWithinFrame b (length p) → EndsFrame limit b p used t → IsFrame LONGEST_SAID (b ++ p) t
whole_frame limit b p t used is w h =
    let L : ℕ → Type 0 = λ l. EndsFrame l b p used t in
    let e = subst L is h in
    let P : List ℕ → Type 0 = λ x. IsFrame LONGEST_SAID (b ++ x) t in
    subst P (take_all used p (omega (arith, all_used b p t used w e))) e.frame

-- the bytes of a length alone are no frame
no_short_frame : (r : List ℕ) → length r ≤ 4 → (i : ℕ) (t : List ℕ) → ¬ IsFrame LONGEST_SAID (take i r) t
no_short_frame r short i t h = let some = some_text t h.json in omega (arith, frame-length LONGEST_SAID (take i r) t h, length-take i r)

-- what a good step comes to
pub stepped : (limit after : ℕ) (b p left : List ℕ) (used : ℕ) (old new : OutState) (o : Option (List ℕ)) → limit ≡ LONGEST_SAID → after ≡ LONGEST_SAID → IsWithinFrame b (length p) → 0 < length p → IfSome o (λ t. EndsFrame limit b p used t × (left ≡ [])) → IfNone o ((used ≡ length p) × (left ≡ b ++ p) × IsUnderWay left after)
    → Came b (b ++ p) left old new (option_map Text o)
stepped limit after b p left used old new None is same w more some none =
    let L : ℕ → Type 0 = λ l. IsUnderWay left l in
    let P : List ℕ → Type 0 = λ x. IsUnderWay x LONGEST_SAID in
    (subst P none.1 (subst L same none.2), none.1, omega (arith, length-append b p))
stepped limit after b p left used old new (Some t) is same w more some none = (whole_frame limit b p t used is w some.0, some.1)

-- What stays in hand

-- what a reader that stops has in hand
keeps_to_trouble : (b p left : List ℕ) (f : FrameFault) → IsTroubleFirst b LONGEST_SAID → StopsAt LONGEST_SAID b p f left → Keeps (b ++ p) left
keeps_to_trouble b p left f first h =
    to_trouble f (drop h.upto p) (sym (append_take-drop b p h.upto) ∙ ap (λ x. x ++ drop h.upto p) (sym h.left_is)) h.trouble h.kept (stops_first LONGEST_SAID b p left f h first)

-- what a fault comes to
pub stopped : (limit : ℕ) (b p left : List ℕ) (old new : OutState) (f : FrameFault) → limit ≡ LONGEST_SAID → IsTroubleFirst b LONGEST_SAID → ((f ≡ fault.NoMemory → ⊥) → StopsAt limit b p f left) → (f ≡ fault.NoMemory → length b + length p ≤ 4)
    → Came b (b ++ p) left old new (Some (heard_of f))
stopped limit b p left old new (fault.TooLong n) is first stops short =
    let L : ℕ → Type 0 = λ l. StopsAt l b p (fault.TooLong n) left in
    let h = subst L is (stops (λ e. cc)) in (h.trouble, keeps_to_trouble b p left (fault.TooLong n) first h, trouble_no_frame (b ++ p) LONGEST_SAID (fault.TooLong n) (omega arith) h.trouble)
stopped limit b p left old new (fault.BadJson f) is first stops short =
    let L : ℕ → Type 0 = λ l. StopsAt l b p (fault.BadJson f) left in
    let h = subst L is (stops (λ e. cc)) in (h.trouble, keeps_to_trouble b p left (fault.BadJson f) first h, trouble_no_frame (b ++ p) LONGEST_SAID (fault.BadJson f) (omega arith) h.trouble)
stopped limit b p left old new fault.NoMemory is first stops short =
    let most = short refl in
    no_short_frame (b ++ p) (omega (arith, length-append b p))

-- Trouble that was found before

pub trouble_is_long : (b : List ℕ) (f : FrameFault) → IsTrouble b LONGEST_SAID f → 4 ≤ length b
trouble_is_long b f h = elim (cases_lt (length b) 4) [ inl lt ↦ absurd (short_no_trouble b LONGEST_SAID f lt h) | inr le ↦ le ]

pub not_found_again : (limit after used : ℕ) (b left : List ℕ) (o : Option (List ℕ)) → limit ≡ LONGEST_SAID → after ≡ LONGEST_SAID → ((f : FrameFault) × IsTrouble b LONGEST_SAID f) → IfSome o (λ t. EndsFrame limit b [] used t × (left ≡ [])) → IfNone o ((used ≡ 0) × (left ≡ b ++ []) × IsUnderWay left after) → ⊥
not_found_again limit after used b left None is same (f, h) some none =
    let P : List ℕ → Type 0 = λ x. IsTrouble x LONGEST_SAID f in
    let L : ℕ → Type 0 = λ l. IsUnderWay left l in
    (subst L same none.2).no_trouble f (subst P (sym (none.1 ∙ append-nil b)) h)
not_found_again limit after used b left (Some t) is same (f, h) some none =
    let P : List ℕ → Type 0 = λ x. IsTrouble x LONGEST_SAID f in
    let L : ℕ → Type 0 = λ l. EndsFrame l b [] used t in
    end_no_trouble LONGEST_SAID b [] used t f (omega arith) (subst L is some.0) (subst P (sym (append-nil b)) h)

take_nothing : (n : ℕ) (xs : List ℕ) → xs ≡ [] → take n xs ≡ []
take_nothing zero xs e = refl
take_nothing (suc n) [] e = refl
take_nothing (suc n) (x ∷ xs) e = absurd cc

stays : (limit : ℕ) (b left : List ℕ) (f : FrameFault) → StopsAt limit b [] f left → left ≡ b
stays limit b left f h = h.left_is ∙ ap (λ x. b ++ x) (take_nothing h.upto [] refl) ∙ append-nil b

-- what was found before is found again, and nothing comes in
pub again : (limit : ℕ) (b left : List ℕ) (old new : OutState) (f : FrameFault) → limit ≡ LONGEST_SAID → ((g : FrameFault) × IsTrouble b LONGEST_SAID g) → IsTroubleFirst b LONGEST_SAID → ((f ≡ fault.NoMemory → ⊥) → StopsAt limit b [] f left) → (f ≡ fault.NoMemory → length b < 4)
    → Came b b left old new (Some (heard_of f)) × (left ≡ b)
again limit b left old new f is (g, h) first stops short =
    let P : List ℕ → Type 0 = λ x. Came b x left old new (Some (heard_of f)) in
    let long = trouble_is_long b g h in
    let some : f ≡ fault.NoMemory → ⊥ = λ e. let few = short e in omega arith in
    (subst P (append-nil b) (stopped limit b [] left old new f is first stops (λ e. absurd (some e))), stays limit b left f (stops some))

-- One read

-- with what is wanted, or less, no byte behind a frame comes in
pub within : (r : Unfinished) (more wanted : ℕ) → r.limit ≡ LONGEST_SAID → IsUnderWay r.bytes LONGEST_SAID → more ≤ wanted → (length r.bytes < 4 → wanted + length r.bytes ≡ 4) → (4 ≤ length r.bytes → IsUnderWay r.bytes r.limit → wanted + length r.bytes ≡ 4 + told_length r.bytes) → IsWithinFrame r.bytes more
within r more wanted is u le head text = record {
  head = λ lt. let e = head lt in omega arith;
  text = λ long. let L : ℕ → Type 0 = λ l. IsUnderWay r.bytes l in let e = text long (subst L (sym is) u) in omega arith;
}

pub within_less : (b : List ℕ) (n m : ℕ) → n ≤ m → IsWithinFrame b m → IsWithinFrame b n
within_less b n m le w = record { head = λ lt. let e = w.head lt in omega arith; text = λ long. let e = w.text long in omega arith }

-- of bytes under way some are wanted
pub some_wanted : (r : Unfinished) (wanted : ℕ) → r.limit ≡ LONGEST_SAID → IsUnderWay r.bytes LONGEST_SAID → (wanted ≡ 0 → (f : FrameFault) × IsTrouble r.bytes r.limit f) → 0 < wanted
some_wanted r wanted is u none = elim (cases_lt 0 wanted) [ inl lt ↦ lt | inr le ↦ let (f, h) = none (omega arith) in let L : ℕ → Type 0 = λ l. IsTrouble r.bytes l f in absurd (u.no_trouble f (subst L is h)) ]

-- bytes under way are fewer than those of the longest frame
pub under_way_short : (r : Unfinished) (wanted : ℕ) → r.limit ≡ LONGEST_SAID → 0 < wanted → (0 < wanted → IsUnderWay r.bytes r.limit) → (4 ≤ length r.bytes → IsUnderWay r.bytes r.limit → wanted + length r.bytes ≡ 4 + told_length r.bytes) → length r.bytes < 1048580
under_way_short r wanted is some under_way text = elim (cases_lt (length r.bytes) 4) [
  | inl lt ↦ omega arith
  | inr le ↦ elim (cases_lt r.limit (told_length r.bytes)) [
    | inl big ↦ absurd ((under_way some).no_trouble (fault.TooLong (told_length r.bytes)) (too_long le refl big))
    | inr fits ↦ let e = text le (under_way some) in omega (arith, is)
  ]
]

-- a read that gives nothing, as it failed or as the output has ended
pub read_nothing : (reader after : Unfinished) (old new : OutState) (reason : Reason) → after ≡ reader → reader.limit ≡ LONGEST_SAID → IsUnderWay reader.bytes LONGEST_SAID → Gives old.stream new.stream [] → old.faults ≤ new.faults → IsReadingEnd reader.bytes old new reason
    → IsRead reader after old new (Some (Ends reason))
read_nothing reader after old new reason same is u given later h =
    let P : List ℕ → Type 0 = λ x. IsReadingEnd x old new reason × Keeps x reader.bytes × HasNoFrame x in
    let R : Unfinished → Type 0 = λ x. IsRead reader x old new (Some (Ends reason)) in
    subst R (sym same) (record { bytes = []; given = given; later = later; limit = is; came = subst P (sym (append-nil reader.bytes)) (h, all u.no_trouble, u.no_frame) })

-- an output that did not move
pub gives_nothing : (s : Option Stream) → Gives s s []
gives_nothing None = tt
gives_nothing (Some s) = record { read = sym (append-nil s.read); coming = refl }

pub gives_same : (a b : Option Stream) → b ≡ a → Gives a b []
gives_same a b e = let P : Option Stream → Type 0 = λ s. Gives a s [] in subst P (sym e) (gives_nothing a)

-- Many reads

-- What was read so far stands behind what the reader began with.
pub record ReadSoFar (start now : Unfinished) (old new : OutState) : Type 0 where
  pub bytes : List ℕ
  pub given : Gives old.stream new.stream bytes
  pub later : old.faults ≤ new.faults
  pub limit : now.limit ≡ LONGEST_SAID
  pub bytes_are : now.bytes ≡ start.bytes ++ bytes

pub begins : (start : Unfinished) (output : OutState) → start.limit ≡ LONGEST_SAID → ReadSoFar start start output output
begins start output is = record { bytes = []; given = gives_nothing output.stream; later = omega arith; limit = is; bytes_are = sym (append-nil start.bytes) }

pub gives_more : (a b c : Option Stream) (x y : List ℕ) → Gives a b x → Gives b c y → Gives a c (x ++ y)
gives_more None None None x y g h = tt
gives_more (Some a) (Some b) (Some c) x y g h = record { read = h.read ∙ ap (λ r. r ++ y) g.read ∙ append_assoc a.read x y; coming = g.coming ∙ ap (λ r. x ++ r) h.coming ∙ sym (append_assoc x y c.coming) }
gives_more None None (Some c) x y g h = absurd h
gives_more None (Some b) c x y g h = absurd g
gives_more (Some a) None c x y g h = absurd g
gives_more (Some a) (Some b) None x y g h = absurd h

rose_from : (a b c : ℕ) → a ≤ b → Rose b c → Rose a c
rose_from a b c le h = omega arith

end_from : (r : List ℕ) (old between new : OutState) (reason : Reason) → old.faults ≤ between.faults → IsReadingEnd r between new reason → IsReadingEnd r old new reason
end_from r old between new StartFailed le h = h
end_from r old between new ReadFailed le h = (rose_from old.faults between.faults new.faults le h.0, h.1)
end_from r old between new WriteFailed le h = h
end_from r old between new (TooLong n) le h = h
end_from r old between new (BadJson place kind) le h = h
end_from r old between new (Cut have) le h = h
end_from r old between new Exited le h = h
end_from r old between new Closed le h = h

came_from : (b c x r left : List ℕ) (old between new : OutState) (heard : Option Heard) → c ≡ b ++ x → old.faults ≤ between.faults → Came c r left between new heard → Came b r left old new heard
came_from b c x r left old between new None e le h = let longer = h.2 in (h.0, h.1, omega (arith, ap length e, length-append b x))
came_from b c x r left old between new (Some (Text t)) e le h = h
came_from b c x r left old between new (Some (Ends reason)) e le h = (end_from r old between new reason le h.0, h.1, h.2)
came_from b c x r left old between new (Some NoMemory) e le h = h

-- what one read more came to is what all came to
pub reads_on : (start now after : Unfinished) (old between new : OutState) (heard : Option Heard) → ReadSoFar start now old between → IsRead now after between new heard → IsRead start after old new heard
reads_on start now after old between new heard so h =
    let whole : now.bytes ++ h.bytes ≡ start.bytes ++ (so.bytes ++ h.bytes) = ap (λ x. x ++ h.bytes) so.bytes_are ∙ append_assoc start.bytes so.bytes h.bytes in
    let P : List ℕ → Type 0 = λ r. Came start.bytes r after.bytes old new heard in
    let a = so.later in
    let b = h.later in
    record {
      bytes = so.bytes ++ h.bytes;
      given = gives_more old.stream between.stream new.stream so.bytes h.bytes so.given h.given;
      later = omega arith;
      limit = h.limit;
      came = subst P whole (came_from start.bytes now.bytes so.bytes (now.bytes ++ h.bytes) after.bytes old between new heard so.bytes_are so.later h.came);
    }

-- and where it came to nothing yet, reading goes on
pub goes_on : (start now after : Unfinished) (old between new : OutState) → ReadSoFar start now old between → IsRead now after between new None → ReadSoFar start after old new × (length now.bytes < length after.bytes)
goes_on start now after old between new so h =
    let all = reads_on start now after old between new None so h in
    let longer = h.came.2 in (
      record { bytes = all.bytes; given = all.given; later = all.later; limit = all.limit; bytes_are = all.came.1 },
      omega (arith, ap length h.came.1),
    )

-- what was found before ends it
pub ends_again : (start now after : Unfinished) (old new : OutState) (heard : Heard) → ReadSoFar start now old new → after ≡ now → ((a b : OutState) → Came now.bytes now.bytes after.bytes a b (Some heard)) → IsRead start after old new (Some heard)
ends_again start now after old new heard so same h =
    let P : List ℕ → Type 0 = λ r. Came now.bytes r after.bytes new new (Some heard) in
    reads_on start now after old new new (Some heard) so (record { bytes = []; given = gives_nothing new.stream; later = omega arith; limit = ap (λ (u : Unfinished). u.limit) same ∙ so.limit; came = subst P (sym (append-nil now.bytes)) (h new new) })

-- A reader

-- a reader has no whole frame in hand, and at once what trouble there is
pub in_hand : (r : Unfinished) (wanted : ℕ) → r.limit ≡ LONGEST_SAID → (wanted ≡ 0 → (f : FrameFault) × IsTrouble r.bytes r.limit f) → (0 < wanted → IsUnderWay r.bytes r.limit) → IsTroubleFirst r.bytes r.limit → HasNoFrame r.bytes × Keeps r.bytes r.bytes
in_hand r wanted is none some first = elim (cases_lt 0 wanted) [
  | inl lt ↦ let L : ℕ → Type 0 = λ l. IsUnderWay r.bytes l in let u = subst L is (some lt) in (u.no_frame, all u.no_trouble)
  | inr le ↦
      let (f, h) = none (omega arith) in
      let L : ℕ → Type 0 = λ l. IsTrouble r.bytes l f in
      let t = subst L is h in
      (trouble_no_frame r.bytes LONGEST_SAID f (omega arith) t, to_trouble f [] (sym (append-nil r.bytes)) t t (subst (IsTroubleFirst r.bytes) is first))
]
