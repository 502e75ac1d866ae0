-- `reduce_at` meets its contract.
use Rattle.std.proofs.Common.{◌∙◌}
use Rattle.reduction.proofs.Elements.{element-at}
use Rattle.reduction.proofs.reduce_at.Goals as goal

pub returns : goal.returns
returns c =
    let a = c.args in
    let d = c.number_at.ensures in
    let x = c.number_at-2.ensures in
    let d-is = d.value ∙ element-at 4 a.at a.destination.now (rw (← d.value) d.small) in
    let x-is = x.value ∙ element-at 4 a.at a.source.now (rw (← x.value) x.small) in
    rw (c.put.ensures, c.from.ensures, c.combined-number.ensures, d-is, x-is)
