-- `Memory::reduce` meets its contract.
use Prim.Native.Nat.{◌+◌, ◌≤◌}
use mathlib.Core.Path.{ap, ◌∙◌}
use lib.ListN.{length}
use Rattle.effect.specs.Memory.{read, write}
use Rattle.effect.specs.Element.{reduce}
use Rattle.reduction.proofs.Elements.{length-reduce}
use Rattle.moves.proofs.Parts.{length-read, part-changed}
use Rattle.moves.proofs.memory.Memory.reduce.Goals as goal

pub returns-clause-combined : goal.returns-clause-combined
returns-clause-combined g c =
    let a = c.args in
    let m = a.self.now.bytes.now in
    let source = a.source.now in
    let at = c.offset-start.result in
    let start = c.offset-start.ensures in
    let fits : at + length source ≤ length m = rw start c.requires.0 in
    let long = length-read m at (length source) fits in
    let reduced = length-reduce a.operation a.element (read m at (length source)) source (rw long c.requires.1) in
    part-changed (λ part. reduce a.operation a.element part source) m _ at (length source) fits (reduced ∙ long) c.reduce.ensures
    ∙ ap (λ at. write m at (reduce a.operation a.element (read m at (length source)) source)) start
