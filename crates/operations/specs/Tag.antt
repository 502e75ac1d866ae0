-- The tag of a record: four parts, each a digit of base 16.
use Rattle.std.specs.Prelude.{ℕ, ◌+◌, ◌*◌, ◌/◌, ◌%◌, Bool, not, ◌&&◌, eqb}
use Rattle.operations.specs.declared.Chain.{Chain}
use Rattle.operations.specs.declared.Chain.TheVariants.{Copies, Bulk}
use Rattle.operations.specs.declared.Memory.{Memory}
use Rattle.operations.specs.declared.Memory.TheVariants.{Shared, Global}

-- The digits of the two memories, and of the two chains.
abbrev pub memory_digit : Memory → ℕ
memory_digit Shared = 0
memory_digit Global = 1

abbrev pub chain_digit : Chain → ℕ
chain_digit Copies = 0
chain_digit Bulk = 1

-- The memory that is written, the chain that closes it, and, of a reduction, its operation (from 1 on) and its type.
abbrev pub tag_of : ℕ → ℕ → ℕ → ℕ → ℕ
tag_of written chain operation element = written + 16 * chain + 256 * operation + 4096 * element

abbrev pub written_in : ℕ → ℕ
written_in tag = tag % 16

abbrev pub chain_in : ℕ → ℕ
chain_in tag = tag / 16 % 16

-- Operation and type together; 0 is no reduction.
abbrev pub reduction_in : ℕ → ℕ
reduction_in tag = tag / 256

-- Two reductions of one operation and one type.
abbrev pub tags_may_share : ℕ → ℕ → Bool
tags_may_share tag other = not (eqb (reduction_in tag) 0) && eqb (reduction_in tag) (reduction_in other)
