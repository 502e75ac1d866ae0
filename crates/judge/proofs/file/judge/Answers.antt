-- `file::judge` meets its contract.
use mathlib.Core.Path.{◌∙◌}
use Rattle.judge.proofs.Beginnings.{whole-answers}
use Rattle.judge.proofs.file.judge.Goals as goal

pub returns : goal.returns
returns c = c.judge_beginning.ensures.value ∙ whole-answers _
