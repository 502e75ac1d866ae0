-- `trace::items::entry_of` meets its contract: the kind and the body length of an entry that is held.
use native.Mathlib.Omega.{arith}
use borrow.Author.Tests.{le-leb, lt-leb}
use Prim.Native.Nat.{◌+◌}
use lib.ListN.{length}
use Rattle.trace.specs.File.{entry_at}
use Rattle.trace.specs.Beginning.{entry_in}
use Rattle.trace.proofs.items.entry_of.Goals as goal

pub returns-then-at-beginning : goal.returns-then-at-beginning
unfolding entry_in
returns-then-at-beginning c =
    rw (
      c.from.ensures,
      c.number_at.ensures.value,
      c.entry_at-at.ensures,
      le-leb (entry_at c.args.event + 4) (length c.args.beginning.now) (omega arith),
    )

pub returns-else-at-beginning : goal.returns-else-at-beginning
unfolding entry_in
returns-else-at-beginning c =
    rw (lt-leb (entry_at c.args.event + 4) (length c.args.beginning.now) (omega arith))
