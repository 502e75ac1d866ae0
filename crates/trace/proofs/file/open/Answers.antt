-- `trace::open` meets its contract: a file that is formed holds its table, and says what its shape makes of it.
use Rattle.std.proofs.Common.{rules}
use mathlib.Core.Path.{sym, ap, ◌∙◌}
use Rattle.answer.specs.Table.{event_limit}
use Rattle.trace.specs.Beginning.{held_contents, held_of}
use Rattle.trace.proofs.Shapes.{counted}
use Rattle.trace.proofs.file.open.Goals as goal

pub invariant_of-result : goal.invariant_of-result
invariant_of-result c =
    let known = counted event_limit _ _ c.in_ok-header.header (sym c.shape_of.ensures ∙ c.in_ok-header.was) in
    record { counted = known.0; few = known.1; held = known.2 }

pub returns-in_err-header : goal.returns-in_err-header
unfolding held_of
returns-in_err-header c = rw (← c.shape_of.ensures, c.in_err-header.was) (search rules)

pub returns : goal.returns
unfolding held_of
returns c = ap (held_contents c.args.beginning.now) (sym c.shape_of.ensures ∙ c.in_ok-header.was)
