-- `reduce` meets its contract: the elements still to be combined make of the bytes so far what is promised.
use Rattle.std.proofs.Common.{◌≡◌, suc, ◌+◌, ◌*◌, ◌-◌, ◌/◌, ◌≤◌, length, sym, ap, ◌∙◌, arith}
use Rattle.effect.specs.Element.{is_signed, combined}
use Rattle.reduction.proofs.Elements.{combined_from, one_more}
use Rattle.reduction.proofs.reduce.Goals as goal

pub loop-index-preserved : goal.loop-index-preserved
loop-index-preserved c =
    let loop = c.loop-index in
    let f = combined c.args.operation (is_signed c.args.element) 4 in
    let xs = c.args.source.now in
    let count = length c.args.destination.now / 4 in
    let at = loop.index * 4 in
    let fits : at + 4 ≤ length loop.destination = omega (arith, loop.invariant.0, c.loop-index-test.true) in
    let next : (loop.index + 1) * 4 ≡ at + 4 = omega arith in
    let left : count - loop.index ≡ suc (count - (loop.index + 1)) = omega (arith, c.loop-index-test.true) in (
      omega (arith, loop.invariant.0),
      ap (λ n. combined_from 4 f xs n (count - (loop.index + 1)) c.reduce_at.new.destination) next
          ∙ ap (combined_from 4 f xs (at + 4) (count - (loop.index + 1))) c.reduce_at.ensures
          ∙ one_more 4 f xs at (count - (loop.index + 1)) loop.destination fits
          ∙ ap (λ n. combined_from 4 f xs at n loop.destination) (sym left)
          ∙ loop.invariant.1,
    )
