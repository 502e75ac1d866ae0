-- `word::unpack` meets its contract: the bytes that it puts are a sheet's table and those of the word's body.
use native.Mathlib.Omega.{arith}
use mathlib.Core.Path.{ap, ◌∙◌}
use lib.Seq.{sets}
use Rattle.little_endian.specs.Number.{bytes_of}
use Rattle.answer.specs.Sheet.{read_of}
use Rattle.word.specs.Word.{sheet_with, unpacked}
use Rattle.word.proofs.Words.{put_body, turned_right}
use Rattle.word.proofs.unpack.Goals as goal

pub returns : goal.returns
unfolding unpacked
returns c =
    let table = c.put-2.ensures ∙ ap (λ s. sets s 2 (bytes_of 2 8)) c.put.ensures in
    let body = c.rotate_right-body.ensures ∙ turned_right c.args.word (omega arith) in
    let sheet = c.put-3.ensures ∙ ap (λ s. sets s 4 (bytes_of 8 c.rotate_right-body.result)) table in
    c.read_sheet.ensures ∙ ap read_of (sheet ∙ put_body c.rotate_right-body.result ∙ ap sheet_with body)
