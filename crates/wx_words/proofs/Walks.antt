-- What a simple command of clap makes of words that are operands.
use Rattle.std.proofs.Common.{◌≡◌, ap₂, arith, ◌==◌, ℕ, Bool, true, false, List, [], ◌∷◌, Option, None, refl, sym, ap, true≢false}
use Rattle.std.proofs.lemmas.Bool.{eqb-true}
use Rattle.std.specs.Str.{bytes_eq}
use Rattle.clap.specs.Lexer.{long_of, short_of}
use Rattle.std.specs.Prelude.{is_some}
use Rattle.clap.specs.Walk.{Held, Rule, Text, Walk, arg_by_index, finished, first_of, idle, nothing_held, rows_after, settled, to_positional, value, walk, walked}
use Rattle.clap.specs.Simple.{App, Shape, built, entered}
use Rattle.clap.specs.Kinds.{Kinds, or_else}
use Rattle.clap.specs.Faults.{check_fault, defaults_fault, entered_fault, settle_fault, step_fault, turn_fault, walk_fault}
use Rattle.wx_words.specs.Words.{is_operand, is_rounds}

-- an operand is neither `--` nor a long or short flag
pub record IsPlain (word : Text) : Type 0 where
  pub dashes : bytes_eq word (45 ∷ 45 ∷ []) ≡ false
  pub long : long_of word ≡ None
  pub short : short_of word ≡ None

plain_byte : (b : ℕ) (bs : Text) → (b == 45) ≡ false → IsPlain (b ∷ bs)
plain_byte b bs differs = record { dashes = rw differs refl; long = rw differs refl; short = rw differs refl }

pub operand_plain : (word : Text) → is_operand word ≡ true → IsPlain word
operand_plain [] is = record { dashes = refl; long = refl; short = refl }
operand_plain (b ∷ []) is = one_byte (b == 45) refl
  where
    one_byte : (t : Bool) → (b == 45) ≡ t → IsPlain (b ∷ [])
    one_byte false differs = plain_byte b [] differs
    one_byte true same = rw (eqb-true b 45 same) (record { dashes = refl; long = refl; short = refl })
operand_plain (b ∷ c ∷ bs) is = more_bytes (b == 45) refl
  where
    more_bytes : (t : Bool) → (b == 45) ≡ t → IsPlain (b ∷ c ∷ bs)
    more_bytes false differs = plain_byte b (c ∷ bs) differs
    more_bytes true same = absurd (true≢false (sym (rw same at is)))

-- the walk stands between two words, and nothing waits for a value
abbrev pub between : Held → ℕ → Walk
between held position = record { held = held; waiting = idle; position = position; is_trailing = false; stopped = None }

pub operand_turn : (s : Shape) (held : Held) (position : ℕ) (word : Text) → IsPlain word → turn_fault s [] (between held position) word ≡ step_fault s position held value
operand_turn s held position word is = rw (is.dashes, is.long, is.short) refl

pub operand_walked : (rules : List Rule) (held : Held) (position : ℕ) (word : Text) → IsPlain word → walked rules [] (between held position) word ≡ to_positional rules (arg_by_index rules position) word (between held position) held
unfolding walked
operand_walked rules held position word is = rw (is.dashes, is.long, is.short) refl

-- the faults of a walk that begins with an operand
pub operand_faults : (s : Shape) (held : Held) (position : ℕ) (word : Text) (rest : List Text) → IsPlain word
    → walk_fault s [] (between held position) (word ∷ rest)
    ≡ or_else (step_fault s position held value) (walk_fault s [] (to_positional s.rules (arg_by_index s.rules position) word (between held position) held) rest)
unfolding walk_fault
operand_faults s held position word rest is =
    ap₂ or_else (operand_turn s held position word is) (ap (λ (w : Walk). walk_fault s [] w rest) (operand_walked s.rules held position word is))

-- an operand is not the flag
pub operand_no_flag : (word : Text) → is_operand word ≡ true → is_rounds word ≡ false
operand_no_flag [] is = refl
operand_no_flag (b ∷ []) is = grind arith
operand_no_flag (b ∷ c ∷ bs) is = no_flag (b == 45) refl
  where
    no_flag : (t : Bool) → (b == 45) ≡ t → is_rounds (b ∷ c ∷ bs) ≡ false
    no_flag false differs = rw differs refl
    no_flag true same = absurd (true≢false (sym (rw same at is)))

-- what follows the walk of a command whose subcommands are these
abbrev pub behind_walk : App → Walk → Kinds
behind_walk a w =
    or_else (entered_fault a w.stopped)
    (or_else (settle_fault a.top.rules a.top.args_override_self w.held)
    (or_else (defaults_fault (settled a.top.rules w.held).rows a.top.rules)
    (check_fault a.top (finished a.top.rules w.held) (is_some (entered a w.stopped)))))

-- the faults of a reader at the words behind the command's name
abbrev pub faults_at : App → List Text → Kinds
faults_at reader words = or_else (walk_fault (built reader).top [] (between nothing_held 1) words) (behind_walk (built reader) (walk (built reader).top.rules [] nothing_held words))

-- what a reader finds there under a name
abbrev pub found_at : App → Text → List Text → Option Text
found_at reader id words = first_of id (rows_after (built reader).top.rules [] words)
