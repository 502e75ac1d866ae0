-- `answer::sheet::read_sheet` meets its contract: its tests are those of `is_sheet`.
use mathlib.Core.Path.{sym, ap, ◌∙◌}
use Rattle.answer.specs.Numbers.{case_of}
use Rattle.answer.proofs.Reading.{read_sheet, read_no_sheet, other_length, tested}
use Rattle.answer.proofs.sheet.read_sheet.Goals as goal

pub returns-then-sheet-ne-SHEET_LENGTH : goal.returns-then-sheet-ne-SHEET_LENGTH
returns-then-sheet-ne-SHEET_LENGTH c = sym (read_no_sheet _ (other_length _ c.if-sheet-ne-SHEET_LENGTH.true))

pub returns-then-body_at-body_length : goal.returns-then-body_at-body_length
returns-then-body_at-body_length c =
    let at = c.from-body_at.ensures ∙ c.number_at.ensures.value in
    let long = c.from-body_length.ensures ∙ c.number_at-2.ensures.value in
    c.answer.ensures ∙ ap case_of c.numbers_at-numbers.ensures
    ∙ sym (read_sheet _ (tested _ _ _ _ _ _ c.if-sheet-ne-SHEET_LENGTH.false at long c.numbers_at-numbers.ensures c.fit.ensures c.if-body_at-body_length.true))

pub returns-else-body_at-body_length : goal.returns-else-body_at-body_length
returns-else-body_at-body_length c =
    let at = c.from-body_at.ensures ∙ c.number_at.ensures.value in
    let long = c.from-body_length.ensures ∙ c.number_at-2.ensures.value in
    sym (read_no_sheet _ (tested _ _ _ _ _ _ c.if-sheet-ne-SHEET_LENGTH.false at long c.numbers_at-numbers.ensures c.fit.ensures c.if-body_at-body_length.false))
