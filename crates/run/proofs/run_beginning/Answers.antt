-- `run_beginning` meets its contract: what the file's beginning says is told by `open`.
use Rattle.run.specs.Running.{lent}
use Rattle.run.proofs.Answers.{shape_refused, not-lent, told}
use Rattle.run.proofs.run_beginning.Goals as goal

pub returns-in-Err : goal.returns-in-Err
returns-in-Err c =
    let a = c.args in
    let promised = told a.beginning.now a.total (shape_refused a.beginning.now a.total (lent a.global.now a.shared.now a.loads.now) _ c.in-Err.ensures) in
    record {
      of_a_file = promised.0;
      ran = promised.1;
    }

pub returns-then-header-global : goal.returns-then-header-global
returns-then-header-global c =
    let a = c.args in
    let promised = told a.beginning.now a.total (rw c.in-Ok.ensures c.run_lent.ensures) in
    record {
      of_a_file = promised.0;
      ran = promised.1;
    }

pub returns-else-header-global : goal.returns-else-header-global
returns-else-header-global c =
    let a = c.args in
    let file = c.in-Ok.file in
    let other = rw c.header-header.ensures.value at c.if-header-global.false in
    let promised = told a.beginning.now a.total (rw c.in-Ok.ensures (not-lent file.header file.items (lent a.global.now a.shared.now a.loads.now) other)) in
    record {
      of_a_file = promised.0;
      ran = promised.1;
    }
