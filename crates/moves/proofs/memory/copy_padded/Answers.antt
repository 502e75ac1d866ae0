-- `copy_padded` meets its contract.
use Rattle.std.proofs.Common.{rules}
use mathlib.Core.Path.{ap}
use mathlib.Core.List.{◌++◌}
use lib.ListN.{length, drop}
use Rattle.moves.proofs.Parts.{padded-back}
use Rattle.moves.proofs.memory.copy_padded.Goals as goal

pub returns : goal.returns
returns c =
    padded-back c.args.source.now c.args.destination.now _ _ c.requires
    (ap (λ copied. copied ++ drop (length c.args.source.now) c.args.destination.now) c.copy_all.ensures)
    (c.fill.ensures.after (λ y clone. search rules))
