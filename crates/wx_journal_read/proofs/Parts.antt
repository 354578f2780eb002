-- Who makes a call, targets and contexts are read as they are spelled.
use Rattle.std.proofs.Common.{◌≡◌, ℕ, ◌^◌, ◌<◌, Bool, true, false, ◌&&◌, cond, List, [], ◌∷◌, ◌++◌, length, take, drop, Option, Some, None, refl, sym, subst, append_assoc, arith, length-append}
use Rattle.std.specs.Prelude.{IsTrue, codes, decimal, ◌==◌, nat_lt}
use Rattle.std.specs.Char.{is_ascii_digit}
use Rattle.std.specs.List.{list_all}
use Rattle.std.specs.Str.{all_ascii_digits, is_utf8}
use Rattle.std.proofs.lemmas.Bool.{and_parts, eqb-true, le-ltb}
use Rattle.std.proofs.lemmas.Bool.Decides.{nat_tests}
use Rattle.std.proofs.lemmas.List.{take_at, drop_at, take-append-drop}
use Rattle.std.proofs.lemmas.Option.{cond_some}
use Rattle.std.proofs.lemmas.Fmt.{digits_decimal, decimal_nonempty}
use Rattle.wx_id.specs.Ids.{is_id_letter, is_extension_id}
use Rattle.wx_id.specs.declared.numbers.FrameId.{FrameId}
use Rattle.wx_json.specs.Test.{is_json_text}
use Rattle.wx_json.specs.Text.{IsJsonText}
use Rattle.wx_json.proofs.TestLaws.{is_json_text-exact}
use Rattle.wx_context.specs.Paths.{is_page_path}
use Rattle.wx_context.specs.declared.contexts.Context.TheVariants.{Page, Content, Web}
use Rattle.wx_context.specs.declared.contexts.Target.TheVariants.{Own, Other, Tab}
use Rattle.wx_context.specs.declared.contexts.Listens.{Listens}
use Rattle.wx_machine.specs.declared.entries.Who.{Who}
use Rattle.wx_machine.specs.declared.entries.Who.TheVariants.{Context as ByContext, Host as ByHost}
use Rattle.wx_journal_text.specs.Text.{sized, who_text, frame_text, target_text, context_text, flag, listens_text}
use Rattle.wx_id.specs.Options.{where_so}
use Rattle.wx_journal_read.specs.Reading.{Reader, behind, sized_at, both_at}
use Rattle.wx_journal_read.specs.Fits.{is_url, WhoFits, FrameFits, TargetFits, ContextFits}
use Rattle.wx_journal_read.specs.Grammar.{n32, n64, sp, id_at, who_at, frame_at, target_at, page_at, content_at, web_at, context_at, flag_at, listens_at, who_rows, frame_rows, target_rows, context_rows, flag_rows}
use Rattle.wx_journal_read.proofs.Fields.{Reads, ends_number, number_reads, sized_reads, own}
use Rattle.wx_journal_read.proofs.Combined.{behind_again, Both, both_text, both_reads, choice_takes, just_row, mapped_row, row_again}

abbrev pub Below : ℕ → ℕ → Type 0
Below limit n = n < limit

abbrev pub Passes : (List ℕ → Bool) → List ℕ → Type 0
Passes good t = IsTrue (good t)

pub num64 : Reads decimal (Below (2 ^ 64)) n64
num64 = number_reads (2 ^ 64) (omega arith)

pub num32 : Reads decimal (Below (2 ^ 32)) n32
num32 = number_reads (2 ^ 32) (omega arith)

not_none : {A : Type 0} (b : Bool) (r : Option A) (y : A) → cond b None r ≡ Some y → r ≡ Some y
not_none true r y e = absurd cc
not_none false r y e = e

id_reads : Reads (λ (id : List ℕ). id) (Passes is_extension_id) id_at
unfolding id_at
id_reads = record {
  takes = λ bytes y e.
      let some : where_so (is_extension_id (take 32 bytes)) (take 32 bytes, drop 32 bytes) ≡ Some y = not_none (nat_lt (length bytes) 32) _ y e in
      let q = cond_some _ _ _ some in
      subst (λ (y : List ℕ × List ℕ). IsTrue (is_extension_id y.0) × (bytes ≡ y.0 ++ y.1)) q.1 (q.0, sym (take-append-drop 32 bytes));
  again = λ id rest fits short ends.
      let last : (length id == 32) ≡ true = (and_parts (list_all is_id_letter id) (length id == 32) fits).1 in
      let len : length id ≡ 32 = eqb-true _ _ last in
      let long : nat_lt (length (id ++ rest)) 32 ≡ false = le-ltb _ _ (omega (arith, length-append id rest)) in
      rw (long, take_at id rest 32 len, drop_at id rest 32 len, fits) refl;
}

pub who_reads : Reads who_text WhoFits who_at
unfolding who_at behind
who_reads = record {
  takes = choice_takes who_text WhoFits who_rows (
    mapped_row (codes "c") (λ n. ByContext (record { 0 = n })) num64 (λ n h. h) (λ n. refl),
    (mapped_row (codes "h") (λ n. ByHost (record { 0 = n })) num64 (λ n h. h) (λ n. refl), tt),
  );
  again = again;
}
  where
    again : (x : Who) (rest : List ℕ) → WhoFits x → length (who_text x ++ rest) < 2 ^ 64 → IsTrue (ends_number rest) → who_at (who_text x ++ rest) ≡ Some (x, rest)
    again (ByContext c) rest fits short ends = row_again who_text who_at (codes "c") (λ n. ByContext (record { 0 = n })) num64 (λ bytes. refl) (λ n. refl) c.0 rest fits short ends
    again (ByHost h) rest fits short ends = row_again who_text who_at (codes "h") (λ n. ByHost (record { 0 = n })) num64 (λ bytes. refl) (λ n. refl) h.0 rest fits short ends

no_star : (ds rest : List ℕ) → 0 < length ds → all_ascii_digits ds ≡ true → behind (codes "*") (ds ++ rest) ≡ None
unfolding behind
no_star [] rest some digits = absurd (omega arith)
no_star (c ∷ ds) rest some digits =
    elim (is_ascii_digit c) as (λ t. is_ascii_digit c ≡ t → (t && all_ascii_digits ds) ≡ true → cond (42 == c) (Some (ds ++ rest)) None ≡ None) [
      | true ↦ λ is d. let other : (42 == c) ≡ false = grind (arith, nat_tests) in rw other refl
      | false ↦ λ is d. absurd cc
    ] refl digits

pub frame_reads : Reads frame_text FrameFits frame_at
unfolding frame_at behind
frame_reads = record {
  takes = choice_takes frame_text FrameFits frame_rows (
    just_row (codes "*") None tt refl,
    (mapped_row [] (λ n. Some (record { 0 = n })) num32 (λ n h. h) (λ n. refl), tt),
  );
  again = again;
}
  where
    again : (x : Option FrameId) (rest : List ℕ) → FrameFits x → length (frame_text x ++ rest) < 2 ^ 64 → IsTrue (ends_number rest) → frame_at (frame_text x ++ rest) ≡ Some (x, rest)
    again None rest fits short ends = refl
    again (Some f) rest fits short ends =
        let big : f.0 < 2 ^ 64 = omega arith in
        let star = no_star (decimal f.0) rest (decimal_nonempty f.0 big) (digits_decimal own f.0 big) in
        rw (star, num32.again f.0 rest fits short ends) refl

tab_reads : Reads (both_text sp decimal frame_text) (Both (Below (2 ^ 32)) FrameFits) (both_at sp n32 frame_at)
tab_reads = both_reads sp num32 frame_reads (λ b rest h. refl)

abbrev pub Again : {A : Type 0} → (A → List ℕ) → (A → Type 0) → Reader A → Type 0
Again {A} text Fits read = (x : A) (rest : List ℕ) → Fits x → length (text x ++ rest) < 2 ^ 64 → IsTrue (ends_number rest) → read (text x ++ rest) ≡ Some (x, rest)

target_again : Again target_text TargetFits target_at
unfolding target_at behind
target_again Own rest fits short ends = refl
target_again (Other id) rest fits short ends = row_again target_text target_at (codes "ext ") Other id_reads (λ bytes. refl) (λ p. refl) id rest fits short ends
target_again (Tab tab frame) rest fits short ends = row_again target_text target_at (codes "tab ") (λ p. Tab (record { 0 = p.0 }) p.1) tab_reads (λ bytes. refl) (λ p. refl) (tab.0, frame) rest fits short ends

pub target_reads : Reads target_text TargetFits target_at
unfolding target_at
target_reads = record {
  takes = choice_takes target_text TargetFits target_rows (
    just_row (codes "own") Own tt refl,
    (
      mapped_row (codes "ext ") Other id_reads (λ p h. h) (λ p. refl),
      (mapped_row (codes "tab ") (λ p. Tab (record { 0 = p.0 }) p.1) tab_reads (λ p h. h) (λ p. refl), tt),
    ),
  );
  again = target_again;
}

-- contexts

path_reads : Reads sized (Passes is_page_path) (sized_at is_page_path)
path_reads = sized_reads is_page_path

url_reads : Reads sized (Passes is_url) (sized_at is_url)
url_reads = sized_reads is_url

pub name_reads : Reads sized (Passes is_utf8) (sized_at is_utf8)
name_reads = sized_reads is_utf8

pub json_reads : Reads sized IsJsonText (sized_at is_json_text)
json_reads =
    let passes = sized_reads is_json_text in
    record {
      takes = λ bytes y e. let t = passes.takes bytes y e in ((is_json_text-exact y.0).0 t.0, t.1);
      again = λ t rest fits short ends. passes.again t rest ((is_json_text-exact t).1 fits) short ends;
    }

page_reads : Reads (both_text sp (λ (id : List ℕ). id) sized) (Both (Passes is_extension_id) (Passes is_page_path)) (both_at sp id_at (sized_at is_page_path))
page_reads = both_reads sp id_reads path_reads (λ b rest h. refl)

web_reads : Reads (both_text sp decimal (both_text sp decimal sized)) (Both (Below (2 ^ 32)) (Both (Below (2 ^ 32)) (Passes is_url))) (both_at sp n32 (both_at sp n32 (sized_at is_url)))
web_reads = both_reads sp num32 (both_reads sp num32 url_reads (λ b rest h. refl)) (λ b rest h. refl)

content_reads : Reads (both_text sp (λ (id : List ℕ). id) (both_text sp decimal (both_text sp decimal sized))) (Both (Passes is_extension_id) (Both (Below (2 ^ 32)) (Both (Below (2 ^ 32)) (Passes is_url)))) (both_at sp id_at (both_at sp n32 (both_at sp n32 (sized_at is_url))))
content_reads = both_reads sp id_reads web_reads (λ b rest h. refl)

context_again : Again context_text ContextFits context_at
unfolding context_at page_at content_at web_at behind
context_again (Page ext path) rest fits short ends = row_again context_text context_at (codes "page ") (λ p. Page p.0 p.1) page_reads (λ bytes. refl) (λ p. refl) (ext, path) rest fits short ends
context_again (Content ext tab frame url) rest fits short ends = row_again context_text context_at (codes "content ") (λ p. Content p.0 (record { 0 = p.1.0 }) (record { 0 = p.1.1.0 }) p.1.1.1) content_reads (λ bytes. refl) (λ p. refl) (ext, (tab.0, (frame.0, url))) rest fits short ends
context_again (Web tab frame url) rest fits short ends = row_again context_text context_at (codes "web ") (λ p. Web (record { 0 = p.0 }) (record { 0 = p.1.0 }) p.1.1) web_reads (λ bytes. refl) (λ p. refl) (tab.0, (frame.0, url)) rest fits short ends

pub context_reads : Reads context_text ContextFits context_at
unfolding context_at page_at content_at web_at
context_reads = record {
  takes = choice_takes context_text ContextFits context_rows (
    mapped_row (codes "page ") (λ p. Page p.0 p.1) page_reads (λ p h. h) (λ p. refl),
    (
      mapped_row (codes "content ") (λ p. Content p.0 (record { 0 = p.1.0 }) (record { 0 = p.1.1.0 }) p.1.1.1) content_reads (λ p h. h) (λ p. refl),
      (mapped_row (codes "web ") (λ p. Web (record { 0 = p.0 }) (record { 0 = p.1.0 }) p.1.1) web_reads (λ p h. h) (λ p. refl), tt),
    ),
  );
  again = context_again;
}

-- what is listened to

abbrev flag_text : List ℕ → Bool → List ℕ
flag_text letter on = flag on letter

abbrev pub Any : {A : Type 0} → A → Type 0
Any x = Unit {0}

flag_reads : (letter : List ℕ) → ((rest : List ℕ) → behind letter (45 ∷ rest) ≡ None) → Reads (flag_text letter) Any (flag_at letter)
unfolding flag_at behind
flag_reads letter differs = record {
  takes = choice_takes (flag_text letter) Any (flag_rows letter) (just_row letter true tt refl, (just_row (codes "-") false tt refl, tt));
  again = again;
}
  where
    again : Again (flag_text letter) Any (flag_at letter)
    again true rest fits short ends = rw (behind_again letter rest) refl
    again false rest fits short ends = rw (differs rest) refl

abbrev flags_text : Bool × (Bool × (Bool × Bool)) → List ℕ
flags_text = both_text [] (flag_text (codes "c")) (both_text [] (flag_text (codes "m")) (both_text [] (flag_text (codes "C")) (flag_text (codes "M"))))

no_digit : (letter : List ℕ) → ((rest : List ℕ) → IsTrue (ends_number (letter ++ rest))) → (on : Bool) (rest : List ℕ) → IsTrue (ends_number (flag_text letter on ++ rest))
no_digit letter h true rest = h rest
no_digit letter h false rest = refl

flags_reads : Reads flags_text (Both Any (Both Any (Both Any Any))) (both_at [] (flag_at (codes "c")) (both_at [] (flag_at (codes "m")) (both_at [] (flag_at (codes "C")) (flag_at (codes "M")))))
unfolding behind
flags_reads =
    both_reads [] (flag_reads (codes "c") (λ rest. refl))
    (both_reads [] (flag_reads (codes "m") (λ rest. refl))
    (both_reads [] (flag_reads (codes "C") (λ rest. refl)) (flag_reads (codes "M") (λ rest. refl))
    (λ b rest h. no_digit (codes "M") (λ rest. refl) b rest))
    (λ b rest h. rw append_assoc (no_digit (codes "C") (λ rest. refl) b.0 (flag_text (codes "M") b.1 ++ rest))))
    (λ b rest h. rw append_assoc (no_digit (codes "m") (λ rest. refl) b.0 (both_text [] (flag_text (codes "C")) (flag_text (codes "M")) b.1 ++ rest)))

listens_takes : (bytes : List ℕ) (y : Listens × List ℕ) → listens_at bytes ≡ Some y → Unit {0} × (bytes ≡ listens_text y.0 ++ y.1)
unfolding listens_at
listens_takes bytes y e = let r = mapped_row {text = listens_text} {Fits = Any} [] (λ p. record { connect = p.0; message = p.1.0; external_connect = p.1.1.0; external_message = p.1.1.1 }) flags_reads (λ p h. tt) (λ p. refl) in r.row bytes y e

pub listens_reads : Reads listens_text Any listens_at
unfolding listens_at
listens_reads = record {
  takes = listens_takes;
  again = λ l rest fits short ends. row_again listens_text listens_at [] (λ p. record { connect = p.0; message = p.1.0; external_connect = p.1.1.0; external_message = p.1.1.1 }) flags_reads (λ bytes. refl) (λ p. refl) (l.connect, (l.message, (l.external_connect, l.external_message))) rest (tt, (tt, (tt, tt))) short ends;
}
