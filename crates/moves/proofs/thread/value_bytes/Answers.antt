-- `thread::value_bytes` meets its contract.
use mathlib.Core.Path.{ap, ◌∙◌}
use lib.Seq.{sets}
use Rattle.little_endian.specs.Number.{bytes_of}
use Rattle.moves.proofs.Values.{value_put}
use Rattle.moves.proofs.thread.value_bytes.Goals as goal

pub returns : goal.returns
returns c =
    let a = c.args in
    c.put-2.ensures ∙ ap (λ l. sets l 8 (bytes_of 8 a.high)) c.put.ensures ∙ value_put a.low a.high
