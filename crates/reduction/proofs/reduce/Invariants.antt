-- `reduce` meets its contract: the elements still to be combined make of the bytes so far what is promised.
use Rattle.std.proofs.Common.{◌≡◌, ◌*◌, ◌-◌, ◌/◌, length}
use Rattle.effect.specs.Element.{is_signed, combined, combine}
use Rattle.reduction.proofs.Elements.{combined_from}
use Rattle.reduction.proofs.reduce.Given as goal

abbrev pub invariant-loop-index : goal.invariant-loop-index
invariant-loop-index l =
    (length l.destination ≡ length l.initial.destination)
    × (combined_from 4 (combined l.operation (is_signed l.element) 4) l.source (l.index * 4) (length l.initial.destination / 4 - l.index) l.destination
    ≡ combine 4 (combined l.operation (is_signed l.element) 4) l.initial.destination l.source)
