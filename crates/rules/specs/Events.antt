-- What an event, or the operation that it starts, does, and the accesses that it makes.
use Rattle.std.specs.Prelude.{ℕ, List, get_or}
use Rattle.event.specs.declared.Address.{Address}
use Rattle.event.specs.declared.Address.TheVariants as address
use Rattle.event.specs.declared.Event.{Event}
use Rattle.event.specs.declared.Event.TheVariants.{Load, Store, Copy, Commit, Wait, WaitAll, BulkCopy, BulkReduction, BulkCommit, BulkWait}
use Rattle.event.specs.Fields.{value_bytes}
use Rattle.event.specs.Copies.{bytes_read}
use Rattle.event.specs.Addresses.{offset_of}
use Rattle.effect.specs.Memory.{Space, Global, Shared}
use Rattle.effect.specs.Access.{Access}
use Rattle.effect.specs.Effect.{Effect, nothing, load, store, copy, bulk_copy, bulk_reduction, accesses_of}

abbrev pub memory_of : Address → Space
memory_of (address.Global at) = Global
memory_of (address.Shared at) = Shared

abbrev pub effect_of : Event → Effect
effect_of (Load address size) = load (memory_of address) (offset_of address) size
effect_of (Store address size low high) = store (memory_of address) (offset_of address) size (value_bytes low high)
effect_of (Copy dst src cp_size mode cache) = copy dst.0 src.0 (bytes_read mode cp_size) cp_size
effect_of Commit = nothing
effect_of (Wait n) = nothing
effect_of WaitAll = nothing
effect_of (BulkCopy dst src size) = bulk_copy dst.0 src.0 size
effect_of (BulkReduction dst src size operation element) = bulk_reduction dst.0 src.0 size operation element
effect_of BulkCommit = nothing
effect_of (BulkWait n) = nothing

abbrev pub accesses : Event → List Access
accesses e = accesses_of (effect_of e)

-- Event i of a list, counted from 0. (Past the end stands a commit, which has no access and closes nothing.)
abbrev pub event_at : List Event → ℕ → Event
event_at es i = get_or es i Commit
