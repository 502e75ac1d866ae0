use Rattle.std.proofs.Common.{◌≡◌, ◌++◌, length, drop, ap, rules}
use Rattle.line.proofs.Lines.{no_room_for_name, no_room_for_numbers, all_laid}
use Rattle.line.proofs.lay_out_named.Goals as goal

pub returns-then-out-name : goal.returns-then-out-name
returns-then-out-name c =
    let left = no_room_for_name _ _ _ c.if-out-name.true in
    record { value = left.0; out_after = left.1; prefix_len = search rules }

pub returns-then-out-start : goal.returns-then-out-start
returns-then-out-start c =
    let left = no_room_for_numbers _ _ _ c.if-out-start.true in
    record { value = left.0; out_after = left.1; prefix_len = search rules }

pub returns : goal.returns
returns c =
    let name = c.args.name.now in
    let rest = drop (length name) c.args.out.now in
    let copy : c.copy_from_slice.new.self ++ rest ≡ name ++ rest = ap (λ l. l ++ rest) c.copy_from_slice.ensures.after in
    let laid = c.lay_out.ensures in
    let all = all_laid name _ _ _ _ _ c.if-out-name.false c.if-out-start.false copy laid.value laid.out_after laid.prefix_len.0 in
    record { value = all.0; out_after = all.1.0; prefix_len = all.1.1 }
