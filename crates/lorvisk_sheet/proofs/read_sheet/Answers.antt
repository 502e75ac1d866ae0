use Rattle.std.proofs.Common.{arith, ◌∙◌}
use Rattle.lorvisk_sheet.proofs.Reading.{whole_input, longer}
use Rattle.lorvisk_sheet.proofs.read_sheet.Goals as goal
use Rattle.lorvisk_sheet.proofs.read_sheet.Goals.{then-more-eq0, else-more-eq0}

pub returns : goal.returns
returns g c =
    let first = c.in_ok-got.ensures in
    let second = c.in_ok-more.ensures in
    elim c.if-more-eq0.branch [
      | then-more-eq0 w ↦
          let none = w.if-more-eq0.true in
          whole_input _ _ _ _ _ _ _ _ first.bytes second.bytes.0 none (second.bytes.1 none (omega (arith, c.read.auto.buf)))
          (w.result-is ∙ w.read_sheet.ensures)
      | else-more-eq0 w ↦
          rw w.result-is
          (longer _ _ _ _ _ _ (c.read_full.auto.bytes) first.within first.bytes first.ended second.bytes.0 (omega (arith, w.if-more-eq0.false, second.bound.1)))
    ]
