-- `File::header` meets its contract: there is an item for each event.
use mathlib.Core.Path.{sym, ap, ◌∙◌}
use lib.ListN.{length}
use Rattle.trace.specs.Beginning.{Listed, held_item_in}
use Rattle.trace.proofs.Faults.{length-first}
use Rattle.trace.proofs.file.File.header.Goals as goal

pub returns-clause-item_each : goal.returns-clause-item_each
returns-clause-item_each c =
    let fields = c.self.inside in
    ap (λ (l : Listed). length l.items) (sym c.self.view_is) ∙ length-first (held_item_in fields.beginning.now) fields.header.events
