-- What an event is to the table of open operations.
use Rattle.std.specs.Prelude.{ℕ, ◌+◌}
use Rattle.event.specs.declared.Address.{Address}
use Rattle.event.specs.declared.Address.TheVariants.{Global, Shared}
use Rattle.event.specs.declared.ElementType.{ElementType}
use Rattle.event.specs.declared.Event.{Event}
use Rattle.event.specs.declared.Event.TheVariants as event
use Rattle.event.specs.declared.Operation.{Operation}
use Rattle.event.specs.Fields.{operation_number, type_number}
use Rattle.event.specs.Copies.{bytes_read}
use Rattle.operations.specs.declared.Chain.{Chain}
use Rattle.operations.specs.declared.Chain.TheVariants.{Copies, Bulk}
use Rattle.operations.specs.declared.Memory.TheVariants as memory
use Rattle.operations.specs.declared.Range.{Range}
use Rattle.operations.specs.declared.Record.{Record}
use Rattle.operations.specs.declared.Wait.{Wait}
use Rattle.operations.specs.Tag.{memory_digit, chain_digit, tag_of}
use Rattle.parts.specs.declared.GroupsMade.{GroupsMade}
use Rattle.parts.specs.declared.Part.{Part}
use Rattle.parts.specs.declared.Part.TheVariants as part

-- A non-bulk copy writes shared memory and is closed by its own chain; a bulk operation writes global memory.
abbrev pub copy_tag : ℕ
copy_tag = tag_of (memory_digit memory.Shared) (chain_digit Copies) 0 0

abbrev pub bulk_tag : ℕ
bulk_tag = tag_of (memory_digit memory.Global) (chain_digit Bulk) 0 0

abbrev pub reduction_tag : Operation → ElementType → ℕ
reduction_tag operation element =
    tag_of (memory_digit memory.Global) (chain_digit Bulk) (1 + operation_number operation) (type_number element)

abbrev pub bytes : ℕ → ℕ → Range
bytes start length = record { start = start; length = length }

-- The record of an event that touches no byte yet.
abbrev pub blank : ℕ → ℕ → ℕ → Record
blank event commits tag =
    record { writes = bytes 0 0; reads = bytes 0 0; event = event; commits = commits; tag = tag }

abbrev pub access_part : ℕ → Range → Range → ℕ → Part
access_part number writes reads tag =
    part.Access (record { writes = writes; reads = reads; event = number; commits = 0; tag = tag })

-- A load from global memory writes nothing and has the tag of a copy, which reads there too; the others have theirs likewise.
abbrev pub load_part : ℕ → Address → ℕ → Part
load_part number (Global at) size = access_part number (bytes 0 0) (bytes at.0 size) copy_tag
load_part number (Shared at) size = access_part number (bytes 0 0) (bytes at.0 size) bulk_tag

abbrev pub store_part : ℕ → Address → ℕ → Part
store_part number (Global at) size = access_part number (bytes at.0 size) (bytes 0 0) bulk_tag
store_part number (Shared at) size = access_part number (bytes at.0 size) (bytes 0 0) copy_tag

abbrev pub operation_part : ℕ → ℕ → Range → Range → ℕ → Part
operation_part number commits writes reads tag =
    part.Operation (record { writes = writes; reads = reads; event = number; commits = commits; tag = tag })

-- How many groups the chain has made, the same with one more, and a wait that leaves so many of its newest groups open.
abbrev pub groups_in : Chain → GroupsMade → ℕ
groups_in Copies made = made.copies
groups_in Bulk made = made.bulk

abbrev pub committed : Chain → GroupsMade → GroupsMade
committed Copies made = record { copies = made.copies + 1; bulk = made.bulk }
committed Bulk made = record { copies = made.copies; bulk = made.bulk + 1 }

abbrev pub wait_on : Chain → GroupsMade → ℕ → Wait
wait_on chain made newest = record { chain = chain_digit chain; commits = groups_in chain made; newest = newest }

abbrev pub wait_part : Chain → GroupsMade → ℕ → Part
wait_part chain made newest = part.Wait made (wait_on chain made newest)

-- What event `number` is, before which the chains have made these groups.
abbrev pub part_of : ℕ → GroupsMade → Event → Part
part_of number made (event.Load address size) = load_part number address size
part_of number made (event.Store address size low high) = store_part number address size
part_of number made (event.Copy dst src cp_size mode cache) =
    operation_part number made.copies (bytes dst.0 cp_size) (bytes src.0 (bytes_read mode cp_size)) copy_tag
part_of number made event.Commit = part.Commit (committed Copies made)
part_of number made (event.Wait newest) = part.Wait made (wait_on Copies made newest)
part_of number made event.WaitAll = part.Wait (committed Copies made) (wait_on Copies (committed Copies made) 0)
part_of number made (event.BulkCopy dst src size) =
    operation_part number made.bulk (bytes dst.0 size) (bytes src.0 size) bulk_tag
part_of number made (event.BulkReduction dst src size operation element) =
    operation_part number made.bulk (bytes dst.0 size) (bytes src.0 size) (reduction_tag operation element)
part_of number made event.BulkCommit = part.Commit (committed Bulk made)
part_of number made (event.BulkWait newest) = part.Wait made (wait_on Bulk made newest)
