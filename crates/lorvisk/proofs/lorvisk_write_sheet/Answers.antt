-- `lorvisk_write_sheet` meets its contract: the writer's answer says whether it has written.
use mathlib.Core.Path.{◌≡◌, refl, ap, ◌∙◌}
use mathlib.Core.Bool.{Bool, true, false}
use Rattle.answer.specs.declared.Answer.{Answer}
use Rattle.answer.specs.Sheet.{is_written, write_leaves}
use Rattle.answer.proofs.Writing.{written, not_written}
use Rattle.lorvisk.proofs.lorvisk_write_sheet.Goals as goal

pub returns : goal.returns
returns c =
    record {
      value = go (is_written c.unpack.result c.args.out.now) refl ∙ ap (λ (a : Answer). is_written a c.args.out.now) c.unpack.ensures;
      out_after = c.write_sheet-said.ensures.out_after ∙ ap (λ (a : Answer). write_leaves a c.args.out.now) c.unpack.ensures;
    }
  where
    go : (t : Bool) → is_written c.unpack.result c.args.out.now ≡ t → c.eq.result ≡ is_written c.unpack.result c.args.out.now
    go true e = rw e (rw (c.write_sheet-said.ensures.value ∙ (written c.unpack.result c.args.out.now e).0) at c.eq.ensures)
    go false e = rw e (rw (c.write_sheet-said.ensures.value ∙ (not_written c.unpack.result c.args.out.now e).0) at c.eq.ensures)
