use Rattle.std.proofs.Common.{rules}
use Rattle.line.proofs.Lines.{with_room, without-room}
use Rattle.line.proofs.lay_out.Goals as goal

pub returns-then-numbers-out : goal.returns-then-numbers-out
returns-then-numbers-out c =
    let put = c.put_all.ensures in
    let laid = with_room _ _ _ _ c.if-numbers-out.true put.value put.out_after in
    record { value = laid.0; out_after = laid.1; prefix_len = search rules }

pub returns-else-numbers-out : goal.returns-else-numbers-out
returns-else-numbers-out c =
    let left = without-room _ _ c.if-numbers-out.false in
    record { value = left.0; out_after = left.1; prefix_len = search rules }
