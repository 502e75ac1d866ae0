-- `file::judge_file` meets its contract: after each turn the state and the places are as the judge leaves them for the items
-- so far.
use mathlib.Core.Path.{◌≡◌}
use mathlib.Core.List.{◌++◌}
use Rattle.rules.specs.Answers.{lengths_in}
use Rattle.judge.specs.AsLeft.{AsLeft}
use Rattle.judge.proofs.file.judge_file.Given as goal

abbrev pub invariant-loop-item : goal.invariant-loop-item
invariant-loop-item l =
    (goal.iterator-loop-item).can_next l.item-iterator × (goal.iterator-loop-item).is_finite l.item-iterator
    × (l.yielded ++ l.item-iterator ≡ l.file.items)
    × AsLeft (lengths_in l.file.header) l.yielded l.state l.ranges l.marks
