use Rattle.std.proofs.Common.{rules, sym, subst}
use Rattle.std.specs.Io.KnownBytes.{Consumes}
use Rattle.std.proofs.KnownBytes.{Consumes-trans}
use Rattle.lorvisk_sheet.proofs.Reading.{read_behind}
use Rattle.lorvisk_sheet.proofs.read_full.Goals as goal

pub loop-got-preserved : goal.loop-got-preserved
loop-got-preserved g c =
    let known = c.loop-got.invariant in
    record {
      within = search rules;
      read = subst (Consumes _ _) (sym (read_behind _ _ _ _ _ known.within c.in_ok-count.ensures.bound.0)) (Consumes-trans _ _ _ _ _ known.read c.in_ok-count.ensures.bytes.0);
    }
