-- `answering::is_refusal` meets its contract.
use mathlib.Core.Path.{ap, ◌∙◌}
use Rattle.answer.specs.Table.{fit}
use Rattle.judge.proofs.Telling.{refusal_if_fits}
use Rattle.judge.proofs.answering.is_refusal.Goals as goal

pub returns-in_default : goal.returns-in_default
returns-in_default c = c.fit-fits.ensures ∙ ap fit c.numbers.ensures ∙ refusal_if_fits _ c.in_default.not-Accepted
