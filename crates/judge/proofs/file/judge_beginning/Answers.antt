-- `file::judge_beginning` meets its contract: what the file's beginning says is told by `open`.
use mathlib.Core.Path.{sym, ◌∙◌}
use Rattle.judge.proofs.Beginnings.{told_contents, told}
use Rattle.judge.proofs.file.judge_beginning.Goals as goal

pub returns-in-Err : goal.returns-in-Err
returns-in-Err c =
    let a = c.args in
    let promised = told a.beginning.now a.total _ (sym (told_contents a.beginning.now a.total _ c.in-Err.ensures)) in
    record {
      of_a_file = promised.0;
      value = promised.1;
    }

pub returns-in-Ok : goal.returns-in-Ok
returns-in-Ok c =
    let a = c.args in
    let promised =
    told a.beginning.now a.total _ (c.judge_file.ensures ∙ sym (told_contents a.beginning.now a.total _ c.in-Ok.ensures)) in
    record {
      of_a_file = promised.0;
      value = promised.1;
    }
