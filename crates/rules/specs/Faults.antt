-- Memory lengths, and what can be wrong with an item of a list by itself: codes 5 to 9.
use Rattle.std.specs.Prelude.{ℕ, ◌+◌, ◌%◌, Bool, true, false, ◌&&◌, ◌||◌, List, [], ◌∷◌, leb, Option, None, Some, Ok, Err}
use Rattle.std.specs.Option.{option_or}
use Rattle.little_endian.specs.Number.{is_zero}
use Rattle.answer.specs.declared.Answer.{Answer}
use Rattle.answer.specs.declared.Answer.TheVariants as answer
use Rattle.event.specs.declared.Event.{Event}
use Rattle.event.specs.declared.Event.TheVariants.{Load, Store, Copy, Commit, Wait, WaitAll, BulkCopy, BulkReduction, BulkCommit, BulkWait}
use Rattle.event.specs.Fields.{allowed}
use Rattle.event.specs.Addresses.{offset_of}
use Rattle.decoder.specs.Item.{Item}
use Rattle.decoder.specs.Kinds.{refusal_of}
use Rattle.trace.specs.File.{is_memory_length}
use Rattle.effect.specs.Memory.{Space, Global, Shared}
use Rattle.effect.specs.Access.{Access}
use Rattle.rules.specs.declared.Lengths.{Lengths}
use Rattle.rules.specs.Events.{accesses}

-- Neither is over 65,536 (4).
abbrev pub are_memory_lengths : Lengths → Bool
are_memory_lengths lengths = is_memory_length lengths.global && is_memory_length lengths.shared

abbrev pub length_of : Lengths → Space → ℕ
length_of lengths Global = lengths.global
length_of lengths Shared = lengths.shared

abbrev pub multiple_of : ℕ → ℕ → Bool
multiple_of size at = is_zero (at % size)

-- Alignment: thread accesses to their size, copies to cp-size at both ends whatever the mode, bulk to 16 at both ends.
unfoldable pub aligned : Event → Bool
aligned (Load address size) = multiple_of size (offset_of address)
aligned (Store address size low high) = multiple_of size (offset_of address)
aligned (Copy dst src cp_size mode cache) = multiple_of cp_size dst.0 && multiple_of cp_size src.0
aligned Commit = true
aligned (Wait n) = true
aligned WaitAll = true
aligned (BulkCopy dst src size) = multiple_of 16 dst.0 && multiple_of 16 src.0
aligned (BulkReduction dst src size operation element) = multiple_of 16 dst.0 && multiple_of 16 src.0
aligned BulkCommit = true
aligned (BulkWait n) = true

-- Range: every byte read or written lies inside its memory; a source of which no byte is read has no range check. Addresses
-- never wrap.
abbrev pub inside : Lengths → Access → Bool
inside lengths x = is_zero x.size || leb (x.start + x.size) (length_of lengths x.space)

abbrev pub all_inside : Lengths → List Access → Bool
all_inside lengths [] = true
all_inside lengths (x ∷ xs) = inside lengths x && all_inside lengths xs

unfoldable pub in_range : Lengths → Event → Bool
in_range lengths e = all_inside lengths (accesses e)

-- The event gets none of 7 to 9.
abbrev pub faultless : Lengths → Event → Bool
faultless lengths e = allowed e && aligned e && in_range lengths e

-- A check gives its refusal, or none where it passes.
abbrev pub unless : Bool → Answer → Option Answer
unless true refusal = None
unless false refusal = Some refusal

-- The first check of a list that refuses.
abbrev pub first_of : List (Option Answer) → Option Answer
first_of [] = None
first_of (check ∷ checks) = option_or check (first_of checks)

-- The checks 7 to 9 of event j, in order.
abbrev pub checks_alone : Lengths → ℕ → Event → List (Option Answer)
checks_alone lengths j e =
    unless (allowed e) (answer.FieldNotAllowed j)
    ∷ unless (aligned e) (answer.Misaligned j)
    ∷ unless (in_range lengths e) (answer.OutOfRange j)
    ∷ []

-- The fault of item j, if it has one.
abbrev pub fault_of : Lengths → ℕ → Item → Option Answer
fault_of lengths j (Ok e) = first_of (checks_alone lengths j e)
fault_of lengths j (Err undecoded) = Some (refusal_of j (Err undecoded))
