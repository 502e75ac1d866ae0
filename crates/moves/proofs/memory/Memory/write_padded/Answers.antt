-- `Memory::write_padded` meets its contract.
use Prim.Native.Nat.{◌+◌, ◌≤◌}
use mathlib.Core.Path.{ap₂, ◌∙◌}
use lib.ListN.{length}
use Rattle.effect.specs.Memory.{write}
use Rattle.effect.specs.Effect.{padded}
use Rattle.moves.proofs.Parts.{length-read, part-changed, length-padded}
use Rattle.moves.proofs.memory.Memory.write_padded.Goals as goal

pub returns-clause-written : goal.returns-clause-written
returns-clause-written g c =
    let m = c.args.self.now.bytes.now in
    let source = c.args.source.now in
    let start = c.offset-start.ensures in
    let fits : c.offset-start.result + c.args.size ≤ length m = rw start c.requires.0 in
    let long = length-read m c.offset-start.result c.args.size fits in
    part-changed (λ part. padded (length part) source) m _ _ c.args.size fits (length-padded source _ ∙ long) c.copy_padded.ensures
    ∙ ap₂ (λ at size. write m at (padded size source)) start long
