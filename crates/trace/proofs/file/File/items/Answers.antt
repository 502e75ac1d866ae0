-- `File::items` meets its contract: the walk starts at the first body, and all is left.
use mathlib.Core.Path.{ap, ◌∙◌}
use native.Mathlib.Omega.{arith}
use Rattle.trace.specs.File.{body_lengths}
use Rattle.trace.specs.Beginning.{Listed, held_item_in}
use Rattle.trace.proofs.Entries.{all_left}
use Rattle.trace.proofs.Faults.{length-first}
use Rattle.trace.proofs.file.File.items.Goals as goal

pub invariant_of-result : goal.invariant_of-result
unfolding body_lengths
invariant_of-result c = record {
  table = c.self.invariant;
  starts = omega (arith, c.entry_at.ensures);
  near = omega (arith, c.entry_at.ensures);
}

pub returns-clause-all : goal.returns-clause-all
returns-clause-all c =
    let fields = c.self.inside in
    all_left fields.beginning.now fields.header.events ∙ ap (λ (l : Listed). l.items) c.self.view_is

pub returns-clause-few : goal.returns-clause-few
returns-clause-few c =
    let fields = c.self.inside in
    let each = length-first (held_item_in fields.beginning.now) fields.header.events in
    rw (all_left fields.beginning.now fields.header.events) (omega (arith, each, c.self.invariant.few))
