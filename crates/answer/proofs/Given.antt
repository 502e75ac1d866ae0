-- The answers that the reader gives are those whose numbers fit, and it gives each for its own sheet.
-- Assumes nothing.
use mathlib.Core.Path.{◌≡◌, sym, ap, ◌∙◌}
use mathlib.Core.Bool.{true, false≢true}
use mathlib.Core.List.{[], ◌∷◌}
use native.Mathlib.Omega.{arith}
use Rattle.little_endian.specs.Number.{number_at, bytes_of}
use Rattle.little_endian.proofs.Widths.{there}
use Rattle.answer.specs.declared.Answer.{Answer}
use Rattle.answer.specs.declared.Numbers.{Numbers}
use Rattle.answer.specs.Numbers.{four, numbers_of, case_of}
use Rattle.answer.specs.Table.{fit_named, fit}
use Rattle.answer.specs.Sheet.{two_each, in_order, laid_out, numbers_at, sheet_of, is_sheet, read_of, Given}
use Rattle.answer.proofs.Fitting.{named_again, has-row, held}
use Rattle.answer.proofs.Reading.{read_sheet, parts, verdict, standing}
use Rattle.answer.proofs.TwoBytes.{each-bytes}

-- Numbers that fit stand on their sheet again.
laid_numbers : (n : Numbers) → fit n ≡ true → numbers_at (laid_out n) ≡ n
unfolding bytes_of
laid_numbers n h =
    let small = (held n h).0 in
    let row = has-row n h in
    let event = there 2 n.event (two_each (4 ∷ 8 ∷ [])) (two_each (n.partner ∷ n.peak ∷ n.code ∷ [])) (omega arith) in
    let partner = there 2 n.partner (two_each (4 ∷ 8 ∷ n.event ∷ [])) (two_each (n.peak ∷ n.code ∷ [])) (omega arith) in
    let peak = there 2 n.peak (two_each (4 ∷ 8 ∷ n.event ∷ n.partner ∷ [])) (two_each (n.code ∷ [])) (omega arith) in
    let code = there 2 n.code (two_each (4 ∷ 8 ∷ n.event ∷ n.partner ∷ n.peak ∷ [])) [] (omega arith) in
    λ i. four (code i) (event i) (partner i) (peak i)

pub reads : (a : Answer) → fit (numbers_of a) ≡ true → read_of (sheet_of a) ≡ a
unfolding is_sheet number_at bytes_of
reads a h =
    let numbers = laid_numbers (numbers_of a) h in
    read_sheet (sheet_of a) (ap fit numbers ∙ h) ∙ ap case_of numbers ∙ named_again a

pub given-fits : (a : Answer) → Given a → fit (numbers_of a) ≡ true
given-fits a (s, bytes, h, no_none) = ap fit (standing s a h no_none) ∙ (parts s (verdict s a h no_none)).3

-- The reader gives every answer whose numbers fit: for its own sheet.
pub fits-given : (a : Answer) → fit (numbers_of a) ≡ true → Given a
unfolding fit fit_named
fits-given a h = (sheet_of a, each-bytes (in_order (numbers_of a)), reads a h, λ e. false≢true (ap (λ (b : Answer). fit (numbers_of b)) (sym e) ∙ h))
