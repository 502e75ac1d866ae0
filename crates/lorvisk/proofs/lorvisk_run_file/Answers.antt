-- `lorvisk_run_file` meets its contract.
use Rattle.lorvisk.specs.Boundary.{RanAs}
use Rattle.lorvisk.proofs.lorvisk_run_file.Goals as goal

pub returns : goal.returns
unfolding RanAs
returns c =
    let ran = c.run in
    (ran.result, c.pack.ensures, ran.ensures)
