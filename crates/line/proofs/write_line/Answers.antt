use Rattle.std.proofs.Common.{arith}
use Rattle.line.proofs.Lines.{line_alone}
use Rattle.line.proofs.write_line.Goals as goal

pub returns : goal.returns
returns g c =
    let laid = c.lay_out-length.ensures in
    let line = line_alone c.args.numbers.now _ _ _ (omega arith) laid.value laid.out_after in
    rw line at c.write_all.ensures.bytes
