-- The shape of a file, by the checks that it passes.
-- Assumes nothing.
use Prim.Native.Nat.{ℕ, ◌≤◌, ◌<◌}
use mathlib.Core.Path.{◌≡◌, refl, sym, ap}
use mathlib.Core.Bool.{Bool, true, false, ◌&&◌, false≢true}
use mathlib.Core.List.{List}
use mathlib.Core.Logic.{◌⊎◌, inl, inr}
use native.Mathlib.Omega.{arith}
use lib.Dec.{leb}
use lib.ListN.{length}
use borrow.Author.Tests.{le-leb, lt-leb, leb-true}
use Rattle.little_endian.proofs.Tests.{both}
use Rattle.answer.specs.declared.Answer.{Answer}
use Rattle.answer.specs.declared.Answer.TheVariants.{WrongShape, TooManyEvents, WrongMemoryLength}
use Rattle.trace.specs.declared.Header.{Header}
use Rattle.trace.specs.File.{Shape}
use Rattle.std.specs.Prelude.{Ok, Err}
use Rattle.trace.specs.File.{events_in, header_in, entry_at, is_shape, is_memory_length, first, shape_of}

abbrev is_formed : Shape → Bool
is_formed (Ok header) = true
is_formed (Err answer) = false

-- What comes after a check is the shape only where the check passes.
passed : (t : Bool) (answer : Answer) (later : Shape) (h : Header) → first t answer later ≡ Ok h
    → (t ≡ true) × (later ≡ Ok h)
passed true answer later h e = (refl, e)
passed false answer later h e = absurd (false≢true (ap is_formed e))

header_of : (h g : Header) → ◌≡◌ {A = Shape} (Ok h) (Ok g) → h ≡ g
header_of h g e = cc

module _ (limit total : ℕ) (f : List ℕ) where
  pub not-headed : (length f < 12) ⊎ ((12 ≤ length f) × (total < length f)) → shape_of limit f total ≡ Err WrongShape
  unfolding shape_of
  not-headed (inl short) = rw (lt-leb 12 (length f) short)
  not-headed (inr long) = rw (le-leb 12 (length f) long.0, lt-leb (length f) total long.1)

  pub too_many : 12 ≤ length f → length f ≤ total → limit < events_in f → shape_of limit f total ≡ Err TooManyEvents
  unfolding shape_of
  too_many held within many = rw (le-leb 12 (length f) held, le-leb (length f) total within, lt-leb (events_in f) limit many)

  -- With the events within the limit, the shape is told by two tests.
  pub by_tests : (h : Header) (shape memories : Bool) → 12 ≤ length f → length f ≤ total → h ≡ header_in f → h.events ≤ limit
      → shape ≡ is_shape f total
      → (is_memory_length h.global && is_memory_length h.shared) ≡ memories
      → first shape WrongShape (first memories WrongMemoryLength (Ok h)) ≡ shape_of limit f total
  unfolding shape_of
  by_tests h shape memories held within header few s m =
      let few' : events_in f ≤ limit = rw header at few in
      rw (le-leb 12 (length f) held, le-leb (length f) total within, le-leb (events_in f) limit few', s, ← m, header)

  -- A file that is formed has passed every check.
  pub formed : (h : Header) → shape_of limit f total ≡ Ok h
      → (h ≡ header_in f) × (events_in f ≤ limit) × (is_shape f total ≡ true)
  unfolding shape_of
  formed h e =
      let headed = passed (leb 12 (length f) && leb (length f) total) WrongShape _ h e in
      let few = passed (leb (events_in f) limit) TooManyEvents _ h headed.1 in
      let shaped = passed (is_shape f total) WrongShape _ h few.1 in
      let memories = passed (is_memory_length (header_in f).global && is_memory_length (header_in f).shared) WrongMemoryLength _ h shaped.1 in
      (header_of h (header_in f) (sym memories.1), leb-true (events_in f) limit few.0, shaped.0)

-- The table of a file that has its shape is held.
pub table_held : (f : List ℕ) (total : ℕ) → is_shape f total ≡ true → entry_at (events_in f) ≤ length f
unfolding is_shape
table_held f total h = leb-true (entry_at (events_in f)) (length f) (both (leb (entry_at (events_in f)) (length f)) _ h).0

-- What a caller may count on, once the file is formed.
pub counted : (limit total : ℕ) (f : List ℕ) (h : Header) → shape_of limit f total ≡ Ok h
    → (h.events ≡ events_in f) × (h.events ≤ limit) × (entry_at h.events ≤ length f)
counted limit total f h e =
    let p = formed limit total f h e in
    let same = ap (λ (g : Header). g.events) p.0 in
    let held = table_held f total p.2 in
    (same, omega (arith, p.1), omega arith)
