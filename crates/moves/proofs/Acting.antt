-- What each event does, kind by kind, and what it asks of the memories.
-- Assumes nothing.
use Prim.Native.Nat.{ℕ, ◌+◌, ◌-◌, ◌%◌, ◌≤◌, ◌<◌}
use native.Mathlib.Omega.{arith}
use mathlib.Core.Path.{◌≡◌, sym, ap₂}
use mathlib.Core.Bool.{true}
use mathlib.Core.Logic.{⊎_elim}
use mathlib.Core.List.{List, [], ◌∷◌}
use borrow.Rule.Slice.PartMut.{put_mid}
use lib.ListN.{length}
use lib.Dec.{leb}
use borrow.Author.Tests.{eqb-true, leb-true}
use Rattle.little_endian.specs.Number.{is_zero}
use Rattle.little_endian.proofs.Tests.{both, all_three, or_cases}
use Rattle.event.specs.declared.Address.{Address}
use Rattle.event.specs.declared.Cache.{Cache}
use Rattle.event.specs.declared.ElementType.{ElementType}
use Rattle.event.specs.declared.Event.{Event}
use Rattle.event.specs.declared.Event.TheVariants.{Load, Store, Copy, BulkCopy, BulkReduction}
use Rattle.event.specs.declared.GlobalAddress.{GlobalAddress}
use Rattle.event.specs.declared.Mode.{Mode}
use Rattle.event.specs.declared.Operation.{Operation}
use Rattle.event.specs.declared.SharedAddress.{SharedAddress}
use Rattle.event.specs.Fields.{is_thread_size, is_copy_size, is_bulk_size, is_value, is_mode, is_cache, is_pair, allowed}
use Rattle.event.specs.Copies.{bytes_read}
use Rattle.event.specs.Addresses.{offset_of}
use Rattle.event.proofs.Sizes.{copy-size, thread-size, bulk-size, reads_less}
use Rattle.effect.specs.Memory.{Global, Shared, read}
use Rattle.effect.specs.Access.{Access, reading, writing}
use Rattle.rules.specs.Events.{memory_of, accesses}
use Rattle.rules.specs.declared.Lengths.{Lengths}
use Rattle.rules.specs.Faults.{length_of, aligned, inside, all_inside, in_range, faultless}
use Rattle.moves.specs.Acting.{Memories, memories, alone, acted}
use Rattle.moves.proofs.Parts.{part-back}

-- ---- an event without fault keeps to the memories
module _ (lengths : Lengths) where
  -- an access of some bytes ends within its memory
  ends : (x : Access) → inside lengths x ≡ true → 0 < x.size → x.start + x.size ≤ length_of lengths x.space
  ends x h some =
      ⊎_elim
      (λ e. absurd (omega (arith, eqb-true x.size 0 e)))
      (λ l. leb-true (x.start + x.size) (length_of lengths x.space) l)
      (or_cases (is_zero x.size) (leb (x.start + x.size) (length_of lengths x.space)) h)

  first_ends : (x : Access) (xs : List Access) → all_inside lengths (x ∷ xs) ≡ true → 0 < x.size
      → x.start + x.size ≤ length_of lengths x.space
  first_ends x xs h = ends x (both (inside lengths x) (all_inside lengths xs) h).0

  second_ends : (x y : Access) (xs : List Access) → all_inside lengths (x ∷ y ∷ xs) ≡ true → 0 < y.size
      → y.start + y.size ≤ length_of lengths y.space
  second_ends x y xs h = first_ends y xs (both (inside lengths x) (all_inside lengths (y ∷ xs)) h).1

  parts : (e : Event) → faultless lengths e ≡ true → (allowed e ≡ true) × (all_inside lengths (accesses e) ≡ true)
  unfolding in_range
  parts e h = let p = all_three (allowed e) (aligned e) (in_range lengths e) h in (p.0, p.2)

  pub load_fits : (at : Address) (size : ℕ) → faultless lengths (Load at size) ≡ true
      → offset_of at + size ≤ length_of lengths (memory_of at)
  unfolding allowed
  load_fits at size h =
      let p = parts (Load at size) h in
      first_ends (reading (memory_of at) (offset_of at) size) [] p.1 (thread-size size p.0).0

  pub store-fits : (at : Address) (size low high : ℕ) → faultless lengths (Store at size low high) ≡ true
      → (offset_of at + size ≤ length_of lengths (memory_of at)) × (size ≤ 16)
  unfolding allowed
  store-fits at size low high h =
      let p = parts (Store at size low high) h in
      let sized = thread-size size (both (is_thread_size size) (is_value size low high) p.0).0 in
      (first_ends (writing (memory_of at) (offset_of at) size) [] p.1 sized.0, sized.1)

  pub copy-fits : (dst : SharedAddress) (src : GlobalAddress) (cp_size : ℕ) (mode : Mode) (cache : Cache)
      → faultless lengths (Copy dst src cp_size mode cache) ≡ true
      → (dst.0 + cp_size ≤ lengths.shared) × (bytes_read mode cp_size ≤ cp_size)
      × (0 < bytes_read mode cp_size → src.0 + bytes_read mode cp_size ≤ lengths.global)
  unfolding allowed
  copy-fits dst src cp_size mode cache h =
      let p = parts (Copy dst src cp_size mode cache) h in
      let q = all_three (is_copy_size cp_size) (is_mode mode cp_size) (is_cache cache cp_size) p.0 in
      let to = writing Shared dst.0 cp_size in
      let from = reading Global src.0 (bytes_read mode cp_size) in
      let sized = copy-size cp_size q.0 in
      let some : 0 < cp_size = omega arith in
      (first_ends to (from ∷ []) p.1 some, reads_less mode cp_size q.1, second_ends to from [] p.1)

  bulk-ends : (dst : GlobalAddress) (src : SharedAddress) (size : ℕ) → 0 < size
      → all_inside lengths (accesses (BulkCopy dst src size)) ≡ true
      → (dst.0 + size ≤ lengths.global) × (src.0 + size ≤ lengths.shared)
  bulk-ends dst src size some h =
      let to = writing Global dst.0 size in
      let from = reading Shared src.0 size in
      (first_ends to (from ∷ []) h some, second_ends to from [] h some)

  pub bulk-copy-fits : (dst : GlobalAddress) (src : SharedAddress) (size : ℕ) → faultless lengths (BulkCopy dst src size) ≡ true
      → (dst.0 + size ≤ lengths.global) × (src.0 + size ≤ lengths.shared)
  unfolding allowed
  bulk-copy-fits dst src size h =
      let p = parts (BulkCopy dst src size) h in bulk-ends dst src size (bulk-size size p.0).0 p.1

  pub reduction-fits : (dst : GlobalAddress) (src : SharedAddress) (size : ℕ) (operation : Operation) (element : ElementType)
      → faultless lengths (BulkReduction dst src size operation element) ≡ true
      → (dst.0 + size ≤ lengths.global) × (src.0 + size ≤ lengths.shared) × (size % 4 ≡ 0)
  unfolding allowed
  reduction-fits dst src size operation element h =
      let p = parts (BulkReduction dst src size operation element) h in
      let sized = bulk-size size (both (is_bulk_size size) (is_pair operation element) p.0).0 in
      let e = bulk-ends dst src size sized.0 p.1 in
      (e.0, e.1, sized.1)

-- ---- what it leaves
-- what it reads is appended to the record
pub appends : (e : Event) (m : Memories) (global shared read : List ℕ) (size : ℕ) → length read ≡ size
    → m.filled + size ≤ length m.loads
    → global ≡ (alone e m).global → shared ≡ (alone e m).shared → read ∷ [] ≡ (alone e m).loaded
    → memories global shared (put_mid m.filled (m.filled + size - m.filled) m.loads read) (m.filled + size) ≡ acted e m
unfolding acted
appends e m global shared read size long room g s l =
    rw (← g, ← s, ← l)
    (ap₂ (λ loads n. memories global shared loads (m.filled + n)) (part-back m.loads read m.filled size room long) (sym long))
