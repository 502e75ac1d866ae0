-- The kind and the body that an event has in a file.
use Rattle.std.specs.Prelude.{ℕ, ◌^◌, ◌<◌, List, [], ◌∷◌, ◌++◌}
use Rattle.little_endian.specs.Number.{bytes_of}
use Rattle.event.specs.declared.Address.{Address}
use Rattle.event.specs.declared.Address.TheVariants.{Global, Shared}
use Rattle.event.specs.declared.Cache.{Cache}
use Rattle.event.specs.declared.Cache.TheVariants.{Ca, Cg}
use Rattle.event.specs.declared.Event.{Event}
use Rattle.event.specs.declared.Event.TheVariants.{Load, Store, Copy, Commit, Wait, WaitAll, BulkCopy, BulkReduction, BulkCommit, BulkWait}
use Rattle.event.specs.declared.Mode.{Mode}
use Rattle.event.specs.declared.Mode.TheVariants.{Plain, SourceSize, SourceIgnored}
use Rattle.event.specs.Fields.{value_bytes, operation_number, type_number}
use Rattle.event.specs.Addresses.{offset_of}

abbrev pub kind_of : Event → ℕ
kind_of (Load address size) = 1
kind_of (Store address size low high) = 2
kind_of (Copy dst src cp_size mode cache) = 16
kind_of Commit = 17
kind_of (Wait n) = 18
kind_of WaitAll = 19
kind_of (BulkCopy dst src size) = 32
kind_of (BulkReduction dst src size operation element) = 33
kind_of BulkCommit = 34
kind_of (BulkWait n) = 35

-- Space 0 global, 1 shared.
abbrev pub space_of : Address → ℕ
space_of (Global at) = 0
space_of (Shared at) = 1

-- Mode 0 plain, 1 src-size given, 2 source ignored; in modes 0 and 2 the src-size field is zero.
abbrev pub mode_number : Mode → ℕ
mode_number Plain = 0
mode_number (SourceSize src_size) = 1
mode_number SourceIgnored = 2

abbrev pub src_size_of : Mode → ℕ
src_size_of Plain = 0
src_size_of (SourceSize src_size) = src_size
src_size_of SourceIgnored = 0

-- Cache 0 (.ca) or 1 (.cg).
abbrev pub cache_number : Cache → ℕ
cache_number Ca = 0
cache_number Cg = 1

abbrev pub thread : Address → ℕ → List ℕ
thread address size = space_of address ∷ size ∷ 0 ∷ 0 ∷ bytes_of 4 (offset_of address)

abbrev pub three_fours : ℕ → ℕ → ℕ → List ℕ → List ℕ
three_fours a b c rest = bytes_of 4 a ++ (bytes_of 4 b ++ (bytes_of 4 c ++ rest))

unfoldable pub body_of : Event → List ℕ
body_of (Load address size) = thread address size
body_of (Store address size low high) = thread address size ++ value_bytes low high
body_of (Copy dst src cp_size mode cache) =
    three_fours dst.0 src.0 (src_size_of mode) (cp_size ∷ mode_number mode ∷ cache_number cache ∷ 0 ∷ [])
body_of Commit = []
body_of (Wait n) = bytes_of 4 n
body_of WaitAll = []
body_of (BulkCopy dst src size) = three_fours dst.0 src.0 size []
body_of (BulkReduction dst src size operation element) =
    three_fours dst.0 src.0 size (operation_number operation ∷ type_number element ∷ 0 ∷ 0 ∷ [])
body_of BulkCommit = []
body_of (BulkWait n) = bytes_of 4 n

-- Each number of the event is one of the width that it has in the code: 4 bytes, a store's two halves 8.
abbrev pub Fits : Event → Type 0
Fits (Load address size) = offset_of address < 256 ^ 4
Fits (Store address size low high) = (offset_of address < 256 ^ 4) × (low < 256 ^ 8) × (high < 256 ^ 8)
Fits (Copy dst src cp_size mode cache) = (dst.0 < 256 ^ 4) × (src.0 < 256 ^ 4) × (src_size_of mode < 256 ^ 4)
Fits Commit = Unit
Fits (Wait n) = n < 256 ^ 4
Fits WaitAll = Unit
Fits (BulkCopy dst src size) = (dst.0 < 256 ^ 4) × (src.0 < 256 ^ 4) × (size < 256 ^ 4)
Fits (BulkReduction dst src size operation element) = (dst.0 < 256 ^ 4) × (src.0 < 256 ^ 4) × (size < 256 ^ 4)
Fits BulkCommit = Unit
Fits (BulkWait n) = n < 256 ^ 4
