-- `clashes` meets its contract.
use Rattle.std.proofs.Common.{rules, tests}
use Rattle.operations.specs.Clash.{clash_of}
use Rattle.operations.proofs.Ranges.{same_test}
use Rattle.operations.proofs.clash.clashes.Goals as goal

pub returns-then-may_share : goal.returns-then-may_share
unfolding clash_of
returns-then-may_share c = search rules

pub returns-then-written_in : goal.returns-then-written_in
unfolding clash_of
returns-then-written_in c =
    let a = c.args in
    let same = same_test c.overlap.result a.event.writes a.operation.writes c.overlap.ensures in
    search (rules, tests)

pub returns : goal.returns
unfolding clash_of
returns c =
    let a = c.args in
    let writes = same_test c.overlap-2.result a.event.writes a.operation.reads c.overlap-2.ensures in
    let reads = same_test c.overlap-3.result a.event.reads a.operation.writes c.overlap-3.ensures in
    search (rules, tests)
