-- `run_lent` meets its contract: all is judged and the room is checked before any event acts.
use mathlib.Core.Path.{ap}
use Rattle.answer.specs.Codes.{code_of}
use Rattle.run.specs.Running.{lent}
use Rattle.run.proofs.Answers.{no_acceptance, lent-lengths, lent-refused, lent_no_room, lent-run}
use Rattle.run.proofs.run_lent.Goals as goal

pub returns-in_default : goal.returns-in_default
returns-in_default c =
    let a = c.args in
    let file = a.file.now in
    let before = lent a.global.now a.shared.now a.loads.now in
    let judged = c.judge_file-answer in
    lent-refused file.header file.items before (lent-lengths file.header before c.requires) judged.result judged.ensures (no_acceptance judged.result c.in_default.not-Accepted)

pub returns-then-loads-load_bytes : goal.returns-then-loads-load_bytes
returns-then-loads-load_bytes c =
    let a = c.args in
    let file = a.file.now in
    let before = lent a.global.now a.shared.now a.loads.now in
    let judged = c.judge_file-answer in
    let over = rw c.load_bytes.ensures at c.if-loads-load_bytes.true in
    rw (← c.header.ensures.item_each)
    (lent_no_room file.header file.items before (lent-lengths file.header before c.requires) judged.result judged.ensures (ap code_of c.in-Accepted.is) over)

pub returns : goal.returns
returns c =
    let a = c.args in
    let file = a.file.now in
    let before = lent a.global.now a.shared.now a.loads.now in
    let judged = c.judge_file-answer in
    let fits = rw c.load_bytes.ensures at c.if-loads-load_bytes.false in
    lent-run file.header file.items before (lent-lengths file.header before c.requires) judged.result judged.ensures (ap code_of c.in-Accepted.is) fits _ c.act_all.ensures
