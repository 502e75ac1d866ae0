-- `State::opening` meets its contract.
use mathlib.Core.Path.{sym, ◌∙◌}
use Rattle.rules.specs.Closing.{groups}
use Rattle.rules.specs.Peak.{peak}
use Rattle.judge.proofs.Telling.{opened_so, opening_promised}
use Rattle.judge.proofs.State.opening.Goals as goal

pub returns-then-are_memory_lengths : goal.returns-then-are_memory_lengths
unfolding groups peak
returns-then-are_memory_lengths c =
    let lengths = sym c.are_memory_lengths.ensures ∙ c.if-are_memory_lengths.true in
    let promised = opening_promised _ _ (opened_so _ _ lengths) in
    record {
      value = promised.0;
      as_left = promised.1;
    }

pub returns-else-are_memory_lengths : goal.returns-else-are_memory_lengths
returns-else-are_memory_lengths c =
    let lengths = sym c.are_memory_lengths.ensures ∙ c.if-are_memory_lengths.false in
    let promised = opening_promised _ _ (c.ended.ensures ∙ opened_so _ _ lengths) in
    record {
      value = promised.0;
      as_left = promised.1;
    }
