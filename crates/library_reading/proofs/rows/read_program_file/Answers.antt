use Rattle.std.proofs.Common.{codes, ap, sym, ◌∙◌, chars}
use Rattle.program_config.specs.Files.{programs_of}
use Rattle.library_reading.specs.Inside.{file_answer}
use Rattle.library_reading.specs.Log.{said}
use Rattle.library_reading.specs.Rows.{file_told}
use Rattle.library_reading.proofs.AskedLaws.{is_failure}
use Rattle.library_reading.proofs.RowLaws.{rows_reached, rows_lost, rows_cut, rows_found}
use Rattle.library_reading.proofs.TextLaws.{unread_is}
use Rattle.library_reading.proofs.rows.read_program_file.Goals as goal

pub returns-in_err-ask_file : goal.returns-in_err-ask_file
returns-in_err-ask_file g c = rows_cut _ _ _ _ _ _ _ _ _ _ _ c.in_err-ask_file.ensures (is_failure _ _ c.from_residual.ensures.1)

pub returns-in_err-say-in-Refused : goal.returns-in_err-say-in-Refused
returns-in_err-say-in-Refused g c =
    rows_lost _ _ _ _ _ _ _ _ _ _ _ c.in_ok-ask_file.ensures (is_failure _ _ c.from_residual-in_err-say-in-Refused.ensures.1)

pub returns-in-Absent : goal.returns-in-Absent
returns-in-Absent g c =
    rows_reached _ _ _ _ _ _ _ _ _ _ _ c.in_ok-ask_file.ensures
    (ap (λ z. file_told programs_of c.args.logs.now (chars c.args.path.now) (file_answer z)) c.in-Absent.is
    ∙ ap (λ z. record { rows = z; log = c.args.logs.now }) (sym c.new.ensures))

pub returns-in-Found : goal.returns-in-Found
returns-in-Found g c =
    rows_reached _ _ _ _ _ _ _ _ _ _ _ c.in_ok-ask_file.ensures
    (rows_found programs_of c.args.logs.now (chars c.args.path.now) (λ rows. record { rows = rows; log = c.programs_told.new.logs }) _ _ _ _
    (ap file_answer c.in-Found.is) c.deref.ensures.value c.programs_told.ensures)

pub returns-in_ok-say-in-Refused : goal.returns-in_ok-say-in-Refused
returns-in_ok-say-in-Refused g c =
    rows_reached _ _ _ _ _ _ _ _ _ _ _ c.in_ok-ask_file.ensures
    (ap (λ z. file_told programs_of c.args.logs.now (chars c.args.path.now) (file_answer z)) c.in-Refused.is
    ∙ ap (λ z. record { rows = z; log = said c.args.logs.now (chars c.args.path.now) (codes "BadConfig") }) (sym c.new-in-Refused.ensures)
    ∙ ap (λ z. record { rows = c.new-in-Refused.result; log = said c.args.logs.now (chars c.args.path.now) z }) (sym unread_is)
    ∙ ap (λ z. record { rows = c.new-in-Refused.result; log = z }) (sym c.in_ok-say-in-Refused.ensures))
