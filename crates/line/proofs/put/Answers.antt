use Rattle.std.proofs.Common.{◌≡◌, ◌+◌, ◌<◌, length, refl, sym, ap, ◌∙◌, arith}
use Rattle.line.specs.Text.{decimal_of}
use Rattle.line.proofs.Digits.{decimal_of-decimal}
use Rattle.line.proofs.Lines.{put_line}
use Rattle.line.proofs.put.Goals as goal

pub returns-clause-past : goal.returns-clause-past
returns-clause-past c =
    rw (c.as_bytes-digits.ensures.value ∙ c.format.ensures.text ∙ decimal_of-decimal c.args.number (omega arith)) refl

pub returns-clause-laid : goal.returns-clause-laid
returns-clause-laid c =
    let digits = c.as_bytes-digits.result.now in
    let text : digits ≡ decimal_of c.args.number =
    c.as_bytes-digits.ensures.value ∙ c.format.ensures.text ∙ decimal_of-decimal c.args.number (omega arith) in
    let room : c.args.at + length digits < length c.args.line.now = omega (arith, ap length c.as_bytes-digits.ensures.value) in
    rw (c.copy_from_slice.ensures.after ∙ text)
    (put_line c.args.line.now c.args.at (length digits) (decimal_of c.args.number) c.args.end room (sym (ap length text)))
