-- The body of an allowed event decodes as that event.
-- Assumes nothing.
use Prim.Native.Nat.{ℕ, ◌^◌, ◌<◌}
use mathlib.Core.Path.{◌≡◌, refl}
use mathlib.Core.Bool.{true, ◌&&◌, ◌||◌}
use mathlib.Core.List.{List, [], ◌∷◌, ◌++◌}
use lib.Dec.{leb, eqb}
use borrow.Author.Tests.{le-leb}
use Rattle.little_endian.specs.Number.{is_zero, number_at, bytes_of}
use Rattle.little_endian.proofs.Widths.{there}
use Rattle.event.specs.declared.Address.{Address}
use Rattle.event.specs.declared.Address.TheVariants.{Global, Shared}
use Rattle.event.specs.declared.Cache.{Cache}
use Rattle.event.specs.declared.Cache.TheVariants.{Ca, Cg}
use Rattle.event.specs.declared.Event.{Event}
use Rattle.event.specs.declared.Event.TheVariants.{Load, Store, Copy, Commit, Wait, WaitAll, BulkCopy, BulkReduction, BulkCommit, BulkWait}
use Rattle.std.specs.Prelude.{Ok}
use Rattle.event.specs.declared.Mode.{Mode}
use Rattle.event.specs.declared.Mode.TheVariants.{Plain, SourceSize, SourceIgnored}
use Rattle.event.specs.Fields.{value_bytes, operation_number, type_number, allowed}
use Rattle.event.specs.Addresses.{offset_of}
use Rattle.event.proofs.Numbers.{few-operations, few-types}
use Rattle.decoder.specs.Bodies.{checked, address_in, thread_meant, mode_of, cache_of}
use Rattle.decoder.specs.Kinds.{of_length, decode_of}
use Rattle.decoder.specs.Encoding.{mode_number, src_size_of, cache_number, thread, three_fours, kind_of, body_of, Fits}
use Rattle.decoder.proofs.Numbers.{operation-back, type_back}

-- An allowed event with a meaning for each byte is what its body says.
decoded : (e : Event) → allowed e ≡ true → checked true e ≡ Ok e
unfolding checked
decoded e h = rw h

-- Load and store begin alike.
address_back : (address : Address) (size : ℕ) (rest : List ℕ) → offset_of address < 256 ^ 4
    → address_in (thread address size ++ rest) ≡ address
unfolding bytes_of
address_back (Global at) size rest fits = rw (there 4 at.0 (0 ∷ size ∷ 0 ∷ 0 ∷ []) rest fits)
address_back (Shared at) size rest fits = rw (there 4 at.0 (1 ∷ size ∷ 0 ∷ 0 ∷ []) rest fits)

thread_meant_lem : (address : Address) (size : ℕ) (rest : List ℕ) → thread_meant (thread address size ++ rest) ≡ true
thread_meant_lem (Global at) size rest = refl
thread_meant_lem (Shared at) size rest = refl

-- Three numbers of four bytes, one behind the other.
module _ (a b c : ℕ) (rest : List ℕ) (first : a < 256 ^ 4) (second : b < 256 ^ 4) (third : c < 256 ^ 4) where
  three_back : (number_at 4 (three_fours a b c rest) 0 ≡ a) × (number_at 4 (three_fours a b c rest) 4 ≡ b) × (number_at 4 (three_fours a b c rest) 8 ≡ c)
  unfolding bytes_of
  three_back = (
    there 4 a [] (bytes_of 4 b ++ (bytes_of 4 c ++ rest)) first,
    there 4 b (bytes_of 4 a) (bytes_of 4 c ++ rest) second,
    there 4 c (bytes_of 4 a ++ bytes_of 4 b) rest third,
  )

copy-back : (mode : Mode) → mode_of (mode_number mode) (src_size_of mode) ≡ mode
unfolding mode_of
copy-back Plain = refl
copy-back (SourceSize src_size) = refl
copy-back SourceIgnored = refl

mode_meant : (mode : Mode) → (leb (mode_number mode) 2 && (eqb (mode_number mode) 1 || is_zero (src_size_of mode))) ≡ true
mode_meant Plain = refl
mode_meant (SourceSize src_size) = refl
mode_meant SourceIgnored = refl

cache_back : (cache : Cache) → cache_of (cache_number cache) ≡ cache
cache_back Ca = refl
cache_back Cg = refl

cache_meant : (cache : Cache) → leb (cache_number cache) 1 ≡ true
cache_meant Ca = refl
cache_meant Cg = refl

pub decodes : (e : Event) → Fits e → allowed e ≡ true → decode_of (kind_of e) (body_of e) ≡ Ok e
unfolding decode_of of_length body_of bytes_of
decodes (Load address size) fits h =
    rw (thread_meant_lem address size [], address_back address size [] fits) (decoded (Load address size) h)
decodes (Store address size low high) fits h =
    rw (
      thread_meant_lem address size (value_bytes low high),
      address_back address size (value_bytes low high) fits.0,
      there 8 low (thread address size) (bytes_of 8 high) fits.1,
      there 8 high (thread address size ++ bytes_of 8 low) [] fits.2,
    )
    (decoded (Store address size low high) h)
decodes (Copy dst src cp_size mode cache) fits h =
    let three = three_back dst.0 src.0 (src_size_of mode) (cp_size ∷ mode_number mode ∷ cache_number cache ∷ 0 ∷ []) fits.0 fits.1 fits.2 in
    rw (three.0, three.1, three.2, mode_meant mode, cache_meant cache, copy-back mode, cache_back cache)
    (decoded (Copy dst src cp_size mode cache) h)
decodes Commit fits h = refl
decodes (Wait n) fits h = rw (there 4 n [] [] fits)
decodes WaitAll fits h = refl
decodes (BulkCopy dst src size) fits h =
    let three = three_back dst.0 src.0 size [] fits.0 fits.1 fits.2 in
    rw (three.0, three.1, three.2) (decoded (BulkCopy dst src size) h)
decodes (BulkReduction dst src size operation element) fits h =
    let three = three_back dst.0 src.0 size (operation_number operation ∷ type_number element ∷ 0 ∷ 0 ∷ []) fits.0 fits.1 fits.2 in
    let known = le-leb (operation_number operation) 5 (few-operations operation) in
    let typed = le-leb (type_number element) 2 (few-types element) in
    rw (three.0, three.1, three.2, operation-back operation, known, type_back element, typed) (decoded (BulkReduction dst src size operation element) h)
decodes BulkCommit fits h = refl
decodes (BulkWait n) fits h = rw (there 4 n [] [] fits)
