-- `laid_out` meets its contract: each number is put in two bytes, in the definition's order.
use Rattle.answer.proofs.Writing.{filled}
use Rattle.answer.proofs.sheet.laid_out.Goals as goal

pub returns : goal.returns
returns c =
    rw (
      ← c.from.ensures,
      ← c.from-2.ensures,
      ← c.from-3.ensures,
      ← c.from-4.ensures,
    )
    (filled _ _ _ _ _ _ _ _ _ _ _ _ c.put.ensures c.put-2.ensures c.put-3.ensures c.put-4.ensures c.put-5.ensures c.put-6.ensures)
