-- `move_bytes` meets its contract: each arm does what the definition says of its event.
use native.Mathlib.Omega.{arith}
use mathlib.Core.Path.{ap, ap₂, ◌∙◌}
use lib.ListN.{length, length-take}
use Rattle.effect.specs.Memory.{read, write}
use Rattle.effect.specs.Element.{reduce}
use Rattle.moves.proofs.Parts.{length-read}
use Rattle.moves.proofs.Acting.{load_fits, store-fits, copy-fits, bulk-copy-fits, reduction-fits}
use Rattle.moves.proofs.move_bytes.Goals as goal

pub load-requires-clause-size_in_bounds : goal.load-requires-clause-size_in_bounds
load-requires-clause-size_in_bounds c = load_fits _ _ _ (rw c.in-Load.is at c.requires.faultless)

pub store-requires : goal.store-requires
store-requires c =
    let fits = store-fits _ _ _ _ _ (rw c.in-Store.is at c.requires.faultless) in
    record {
      size_in_bounds = fits.0;
      size_bound = fits.1;
    }

pub part-requires : goal.part-requires
part-requires c = rw c.bytes_read.ensures (copy-fits _ _ _ _ _ _ (rw c.in-Copy.is at c.requires.faultless)).2

pub write_padded-requires : goal.write_padded-requires
write_padded-requires c =
    let fits = copy-fits _ _ _ _ _ _ (rw c.in-Copy.is at c.requires.faultless) in
    (fits.0, rw (c.part.ensures, length-take, c.bytes_read.ensures) (omega (arith, fits.1)))

pub part-requires-in-BulkCopy : goal.part-requires-in-BulkCopy
part-requires-in-BulkCopy c some = (bulk-copy-fits _ _ _ _ (rw c.in-BulkCopy.is at c.requires.faultless)).1

pub write-requires : goal.write-requires
write-requires c =
    let fits = bulk-copy-fits _ _ _ _ (rw c.in-BulkCopy.is at c.requires.faultless) in
    rw (c.part-in-BulkCopy.ensures, length-take) (omega (arith, fits.0))

pub part-requires-in-BulkReduction : goal.part-requires-in-BulkReduction
part-requires-in-BulkReduction c some = (reduction-fits _ _ _ _ _ _ (rw c.in-BulkReduction.is at c.requires.faultless)).1

pub reduce-requires : goal.reduce-requires
reduce-requires c =
    let arm = c.in-BulkReduction in
    let fits = reduction-fits _ _ _ _ _ _ (rw arm.is at c.requires.faultless) in
    rw (c.part-in-BulkReduction.ensures, length-read c.args.shared.now.bytes.now arm.src.0 arm.size fits.1) (fits.0, fits.2)

pub returns-in-BulkReduction-clause-global_after : goal.returns-in-BulkReduction-clause-global_after
returns-in-BulkReduction-clause-global_after c =
    let arm = c.in-BulkReduction in
    let memory = c.args.global.now.bytes.now in
    let fits = reduction-fits _ _ _ _ _ _ (rw arm.is at c.requires.faultless) in
    let source = c.part-in-BulkReduction.ensures in
    let long = ap length source ∙ length-read c.args.shared.now.bytes.now arm.src.0 arm.size fits.1 in
    rw arm.is
    (c.reduce.ensures.combined
    ∙ ap₂ (λ size source. write memory arm.dst.0 (reduce arm.operation arm.element (read memory arm.dst.0 size) source)) long source)
