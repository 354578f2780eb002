-- Faults that are computed.
use Rattle.std.proofs.Common.{◌≡◌, Err, refl, arith}
use Rattle.std.specs.Prelude.{codes}
use Rattle.wx_journal_read.specs.declared.fault.JournalKind.TheVariants.{Head, Line}
use Rattle.wx_journal_read.specs.Reading.{behind, number_at, digits_of, after_digits}
use Rattle.wx_journal_read.specs.Grammar.{who_at, call_at, answer_at, channel_event_at, request_event_at, target_answer_at, post_answer_at, common_answer_at, entry_at, entries_at}
use Rattle.wx_journal_read.specs.Faults.{IsFault}
use Rattle.wx_journal_read.specs.Whole.{journal_at}
use Rattle.wx_journal_read.proofs.Journals.{fault_is}

without_line_feed : journal_at (codes "wx journal 1 chrome\nc0 take -> empty") ≡ Err (record { place = 20; kind = Line })
unfolding journal_at entries_at entry_at who_at number_at digits_of after_digits behind call_at answer_at channel_event_at request_event_at target_answer_at post_answer_at common_answer_at
without_line_feed = refl

with_leading_zero : journal_at (codes "wx journal 1 chrome\nc00 take -> empty\n") ≡ Err (record { place = 20; kind = Line })
unfolding journal_at entries_at entry_at who_at number_at digits_of after_digits behind
with_leading_zero = refl

without_head : journal_at (codes "c0 take -> empty\n") ≡ Err (record { place = 0; kind = Head })
unfolding journal_at behind
without_head = refl

pub line_feed : IsFault (codes "wx journal 1 chrome\nc0 take -> empty") (record { place = 20; kind = Line })
line_feed = fault_is (codes "wx journal 1 chrome\nc0 take -> empty") _ (omega arith) without_line_feed

pub leading_zero : IsFault (codes "wx journal 1 chrome\nc00 take -> empty\n") (record { place = 20; kind = Line })
leading_zero = fault_is (codes "wx journal 1 chrome\nc00 take -> empty\n") _ (omega arith) with_leading_zero

pub head_line : IsFault (codes "c0 take -> empty\n") (record { place = 0; kind = Head })
head_line = fault_is (codes "c0 take -> empty\n") _ (omega arith) without_head
