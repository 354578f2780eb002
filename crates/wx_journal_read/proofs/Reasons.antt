-- The reasons of a host's end are read as they are spelled.
use Rattle.std.proofs.Common.{◌^◌, refl}
use Rattle.std.specs.Prelude.{codes, decimal}
use Rattle.wx_json.specs.declared.JsonKind.TheVariants.{Syntax, Utf8, TooDeep, Ends}
use Rattle.wx_machine.specs.declared.entries.Reason.TheVariants as reason
use Rattle.wx_journal_text.specs.Text.{json_kind_text, reason_text}
use Rattle.wx_journal_read.specs.Reading.{behind, both_at}
use Rattle.wx_journal_read.specs.Fits.{ReasonFits}
use Rattle.wx_journal_read.specs.Grammar.{n64, sp, json_kind_rows, json_kind_at, reason_rows, frame_reason_rows, end_reason_rows, reason_at, frame_reason_at, end_reason_at}
use Rattle.wx_journal_read.proofs.Fields.{Reads}
use Rattle.wx_journal_read.proofs.Combined.{Both, both_text, both_reads, choice_takes, choice_or_takes, Taking, just_row, mapped_row, row_again}
use Rattle.wx_journal_read.proofs.Parts.{Below, Any, Again, num64, num32}

json_kind_again : Again json_kind_text Any json_kind_at
unfolding json_kind_at behind
json_kind_again Syntax rest fits short ends = refl
json_kind_again Utf8 rest fits short ends = refl
json_kind_again TooDeep rest fits short ends = refl
json_kind_again Ends rest fits short ends = refl

json_kind_takes : Taking json_kind_text Any json_kind_at
unfolding json_kind_at
json_kind_takes = choice_takes json_kind_text Any json_kind_rows (just_row (codes "syntax") Syntax tt refl, (just_row (codes "utf8") Utf8 tt refl, (just_row (codes "too_deep") TooDeep tt refl, (just_row (codes "ends") Ends tt refl, tt))))

pub json_kind_reads : Reads json_kind_text Any json_kind_at
json_kind_reads = record { takes = json_kind_takes; again = json_kind_again }

bad_json_reads : Reads (both_text sp decimal json_kind_text) (Both (Below (2 ^ 64)) Any) (both_at sp n64 json_kind_at)
bad_json_reads = both_reads sp num64 json_kind_reads (λ b rest h. refl)

reason_again : Again reason_text ReasonFits reason_at
unfolding reason_at frame_reason_at end_reason_at behind
reason_again reason.StartFailed rest fits short ends = refl
reason_again reason.ReadFailed rest fits short ends = refl
reason_again (reason.TooLong len) rest fits short ends = row_again reason_text reason_at (codes "too_long ") reason.TooLong num32 (λ bytes. refl) (λ p. refl) len rest fits short ends
reason_again (reason.BadJson place kind) rest fits short ends = row_again reason_text reason_at (codes "bad_json ") (λ p. reason.BadJson p.0 p.1) bad_json_reads (λ bytes. refl) (λ p. refl) (place, kind) rest (fits, tt) short ends
reason_again (reason.Cut have) rest fits short ends = row_again reason_text reason_at (codes "cut ") reason.Cut num64 (λ bytes. refl) (λ p. refl) have rest fits short ends
reason_again reason.WriteFailed rest fits short ends = refl
reason_again reason.Exited rest fits short ends = refl
reason_again reason.Closed rest fits short ends = refl

end_reason_takes : Taking reason_text ReasonFits end_reason_at
unfolding end_reason_at
end_reason_takes = choice_takes reason_text ReasonFits end_reason_rows (just_row (codes "write_failed") reason.WriteFailed tt refl, (just_row (codes "exited") reason.Exited tt refl, (just_row (codes "closed") reason.Closed tt refl, tt)))

frame_reason_takes : Taking reason_text ReasonFits frame_reason_at
unfolding frame_reason_at
frame_reason_takes = choice_or_takes reason_text ReasonFits frame_reason_rows end_reason_at (mapped_row (codes "too_long ") reason.TooLong num32 (λ p h. h) (λ p. refl), (mapped_row (codes "bad_json ") (λ p. reason.BadJson p.0 p.1) bad_json_reads (λ p h. h.0) (λ p. refl), (mapped_row (codes "cut ") reason.Cut num64 (λ p h. h) (λ p. refl), tt))) end_reason_takes

reason_takes : Taking reason_text ReasonFits reason_at
unfolding reason_at
reason_takes = choice_or_takes reason_text ReasonFits reason_rows frame_reason_at (just_row (codes "start_failed") reason.StartFailed tt refl, (just_row (codes "read_failed") reason.ReadFailed tt refl, tt)) frame_reason_takes

pub reason_reads : Reads reason_text ReasonFits reason_at
reason_reads = record { takes = reason_takes; again = reason_again }
