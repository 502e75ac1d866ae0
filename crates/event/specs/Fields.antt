-- Which fields an event may have.
use Rattle.std.specs.Prelude.{ℕ, ◌%◌, Bool, true, not, ◌&&◌, ◌||◌, List, [], ◌∷◌, ◌++◌, leb, eqb, drop}
use Rattle.little_endian.specs.Number.{is_zero, within, bytes_of}
use Rattle.event.specs.declared.Cache.{Cache}
use Rattle.event.specs.declared.Cache.TheVariants.{Ca, Cg}
use Rattle.event.specs.declared.ElementType.{ElementType}
use Rattle.event.specs.declared.ElementType.TheVariants.{B32, U32, S32}
use Rattle.event.specs.declared.Event.{Event}
use Rattle.event.specs.declared.Event.TheVariants.{Load, Store, Copy, Commit, Wait, WaitAll, BulkCopy, BulkReduction, BulkCommit, BulkWait}
use Rattle.event.specs.declared.Mode.{Mode}
use Rattle.event.specs.declared.Mode.TheVariants.{Plain, SourceSize, SourceIgnored}
use Rattle.event.specs.declared.Operation.{Operation}
use Rattle.event.specs.declared.Operation.TheVariants.{And, Or, Xor, Add, Min, Max}

-- Thread sizes: 1, 2, 4, 8, 16.
abbrev pub is_thread_size : ℕ → Bool
is_thread_size size = eqb size 1 || eqb size 2 || eqb size 4 || eqb size 8 || eqb size 16

-- Copy: cp-size 4, 8 or 16.
abbrev pub is_copy_size : ℕ → Bool
is_copy_size cp_size = eqb cp_size 4 || eqb cp_size 8 || eqb cp_size 16

-- Bulk size: a multiple of 16, not zero.
abbrev pub is_bulk_size : ℕ → Bool
is_bulk_size size = not (is_zero size) && is_zero (size % 16)

abbrev pub all_zero : List ℕ → Bool
all_zero [] = true
all_zero (b ∷ bs) = is_zero b && all_zero bs

-- A store's 16 value bytes.
abbrev pub value_bytes : ℕ → ℕ → List ℕ
value_bytes low high = bytes_of 8 low ++ bytes_of 8 high

-- Those past size are zero.
unfoldable pub is_value : ℕ → ℕ → ℕ → Bool
is_value size low high = all_zero (drop size (value_bytes low high))

-- The src-size that is given is at most cp-size.
abbrev pub is_mode : Mode → ℕ → Bool
is_mode Plain cp_size = true
is_mode (SourceSize src_size) cp_size = leb src_size cp_size
is_mode SourceIgnored cp_size = true

-- .cg goes only with cp-size 16.
abbrev pub is_cache : Cache → ℕ → Bool
is_cache Ca cp_size = true
is_cache Cg cp_size = eqb cp_size 16

-- Operations 0 and, 1 or, 2 xor, 3 add, 4 min, 5 max.
abbrev pub operation_number : Operation → ℕ
operation_number And = 0
operation_number Or = 1
operation_number Xor = 2
operation_number Add = 3
operation_number Min = 4
operation_number Max = 5

-- Types 0 b32, 1 u32, 2 s32.
abbrev pub type_number : ElementType → ℕ
type_number B32 = 0
type_number U32 = 1
type_number S32 = 2

-- Document 01's valid pairs: 0 to 2 with b32, 3 to 5 with u32 or s32.
abbrev pub pair_of_01 : ℕ → ℕ → Bool
pair_of_01 operation element = leb operation 2 && is_zero element || within 3 5 operation && within 1 2 element

abbrev pub is_pair : Operation → ElementType → Bool
is_pair operation element = pair_of_01 (operation_number operation) (type_number element)

unfoldable pub allowed : Event → Bool
allowed (Load address size) = is_thread_size size
allowed (Store address size low high) = is_thread_size size && is_value size low high
allowed (Copy dst src cp_size mode cache) = is_copy_size cp_size && is_mode mode cp_size && is_cache cache cp_size
allowed Commit = true
allowed (Wait n) = true
allowed WaitAll = true
allowed (BulkCopy dst src size) = is_bulk_size size
allowed (BulkReduction dst src size operation element) = is_bulk_size size && is_pair operation element
allowed BulkCommit = true
allowed (BulkWait n) = true
