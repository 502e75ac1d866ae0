-- `trace::items::check` meets its contract: what the file's beginning says is told by `open`.
use Rattle.std.proofs.Common.{rules}
use mathlib.Core.Path.{sym, ap, ◌∙◌}
use Rattle.trace.specs.Beginning.{checked_file, check_of}
use Rattle.trace.proofs.items.check.Goals as goal

pub returns-in_err-file : goal.returns-in_err-file
unfolding check_of
returns-in_err-file c = rw c.in_err-file.ensures (search rules)

pub returns : goal.returns
unfolding check_of
returns c = c.check_items.ensures ∙ sym (ap checked_file c.in_ok-file.ensures)
