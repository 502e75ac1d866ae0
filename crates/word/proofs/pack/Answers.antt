-- `word::pack` meets its contract: a sheet that was all zero holds the answer's body, or is zero still.
use Prim.Native.Nat.{ℕ}
use mathlib.Core.Path.{ap, ◌∙◌}
use mathlib.Core.List.{List}
use Rattle.little_endian.specs.Number.{number_at}
use Rattle.word.specs.Word.{turned, packed}
use Rattle.word.proofs.Words.{written_body, turned_left}
use Rattle.word.proofs.pack.Goals as goal

pub returns : goal.returns
unfolding packed
returns c =
    let body = c.number_at-body.ensures in
    c.rotate_left.ensures
    ∙ turned_left _ body.small
    ∙ ap (turned 16 48)
    (body.value ∙ ap (λ (sheet : List ℕ). number_at 8 sheet 4) c.write_sheet.ensures.out_after ∙ written_body _)
