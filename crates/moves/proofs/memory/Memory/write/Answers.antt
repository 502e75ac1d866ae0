-- `Memory::write` meets its contract.
use mathlib.Core.Path.{ap, ◌∙◌}
use Rattle.effect.specs.Memory.{write}
use Rattle.moves.proofs.Parts.{copy-back}
use Rattle.moves.proofs.memory.Memory.write.Goals as goal

pub returns-clause-written : goal.returns-clause-written
returns-clause-written g c =
    let m = c.args.self.now.bytes.now in
    let source = c.args.source.now in
    let start = c.offset-start.ensures in
    copy-back m source _ _ (rw start c.requires) c.copy_all.ensures ∙ ap (λ at. write m at source) start
