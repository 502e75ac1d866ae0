-- `answer::sheet::write_sheet` meets its contract: its test is `is_written`, and the copy leaves the sheet and the bytes past it.
use mathlib.Core.Path.{sym, ◌∙◌}
use Rattle.answer.proofs.Writing.{written, not_written, tested, copied}
use Rattle.answer.proofs.sheet.write_sheet.Goals as goal

pub returns-then-out-fit : goal.returns-then-out-fit
returns-then-out-fit c =
    let done = written _ _ (tested _ _ _ _ _ c.numbers-numbers.ensures c.fit.ensures c.if-out-fit.true) in
    let put =
    copied c.args.answer _ _ c.args.out.now c.numbers-numbers.ensures
    (c.copy_from_slice.ensures.after ∙ c.laid_out-sheet.ensures) in
    record {
      value = sym done.0;
      out_after = put ∙ sym done.1;
    }

pub returns-else-out-fit : goal.returns-else-out-fit
returns-else-out-fit c =
    let kept = not_written _ _ (tested _ _ _ _ _ c.numbers-numbers.ensures c.fit.ensures c.if-out-fit.false) in
    record {
      value = sym kept.0;
      out_after = sym kept.1;
    }
