-- `run` meets its contract: the whole file is a beginning of itself.
use Rattle.answer.specs.Table.{event_limit}
use Rattle.trace.proofs.Held.{held_whole_lem}
use Rattle.run.proofs.run.Goals as goal

pub returns : goal.returns
returns c =
    let f = c.args.file.now in
    rw (← held_whole_lem event_limit f) c.run_beginning.ensures.ran
