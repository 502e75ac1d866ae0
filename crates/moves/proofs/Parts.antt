-- A part of a memory is lent and comes back; what a copy puts into it.
-- Assumes nothing.
use Prim.Native.Nat.{ℕ, ◌+◌, ◌-◌, ◌≤◌}
use native.Mathlib.Nat.{add_comm}
use native.Mathlib.Omega.{arith}
use mathlib.Core.Path.{◌≡◌, refl, sym, ap, ap₂, ◌∙◌}
use mathlib.Core.List.{List, [], ◌++◌, append_assoc, append-nil}
use lib.ListN.{length, take, drop, replicate, length-take, length-drop, length-append, length-replicate, drop_of_length-le, replicate-append-replicate}
use lib.Seq.{sets-eq, drop-drop, take-append-add, take_at}
use borrow.Rule.Slice.PartMut.{put_mid}
use Rattle.effect.specs.Memory.{read, write}
use Rattle.effect.specs.Effect.{padded}

-- in range, as much is read as is asked for
pub length-read : (m : List ℕ) (at size : ℕ) → at + size ≤ length m → length (read m at size) ≡ size
length-read m at size fits = rw (length-take, length-drop) (omega arith)

-- the part from `at` to `at + size` is what is read there
pub part-read : (m : List ℕ) (at size : ℕ) → take (at + size - at) (drop at m) ≡ read m at size
part-read m at size = let k : at + size - at ≡ size = omega arith in ap (λ n. take n (drop at m)) k

-- back with other bytes, as many, it makes the memory with these written
pub part-back : (m new : List ℕ) (at size : ℕ) → at + size ≤ length m → length new ≡ size
    → put_mid at (at + size - at) m new ≡ write m at new
part-back m new at size fits e =
    let k : at + size - at ≡ length new = omega arith in
    let fits' : at + length new ≤ length m = omega arith in
    ap (λ n. put_mid at n m new) k
    ∙ rw (drop-drop (length new) at m) (sym (sets-eq new m at fits' ∙ append_assoc (take at m) new (drop (at + length new) m)))

-- so with what is made of the part
pub part-changed : (f : List ℕ → List ℕ) (m changed : List ℕ) (at size : ℕ) → at + size ≤ length m
    → length (f (read m at size)) ≡ size → changed ≡ f (take (at + size - at) (drop at m))
    → put_mid at (at + size - at) m changed ≡ write m at (f (read m at size))
part-changed f m changed at size fits long e =
    let made = e ∙ ap f (part-read m at size) in
    part-back m changed at size fits (ap length made ∙ long) ∙ ap (write m at) made

-- so does a copy to the part
pub copy-back : (m source copied : List ℕ) (at : ℕ) → at + length source ≤ length m → copied ≡ source
    → put_mid at (at + length source - at) m copied ≡ write m at source
copy-back m source copied at fits e = part-back m copied at (length source) fits (ap length e) ∙ ap (write m at) e

-- bytes not read are zero
padded-is : (bytes : List ℕ) (rest size : ℕ) → length bytes + rest ≡ size → bytes ++ replicate rest 0 ≡ padded size bytes
padded-is bytes rest size e =
    sym (rw (
      ← e,
      take-append-add,
      add_comm (length bytes) rest,
      ← replicate-append-replicate {A = ℕ} rest (length bytes) 0,
      take_at {A = ℕ} (replicate rest 0) (replicate (length bytes) 0) rest (length-replicate rest 0),
    ))

-- `size` bytes are written, however many are read
pub length-padded : (bytes : List ℕ) (size : ℕ) → length (padded size bytes) ≡ size
length-padded bytes size = rw (length-take, length-append, length-replicate) (omega arith)

-- a copy, and zeros for the rest
pub padded-back : (source destination copied zeros : List ℕ) → length source ≤ length destination
    → copied ≡ source ++ drop (length source) destination
    → zeros ≡ replicate (length (take (length copied - length source) (drop (length source) copied))) 0
    → put_mid (length source) (length copied - length source) copied zeros ≡ padded (length destination) source
padded-back source destination copied zeros fits e z =
    ap₂ (λ first rest. first ++ (zeros ++ rest)) first none
    ∙ ap (λ l. source ++ l) (append-nil zeros ∙ z ∙ ap (λ k. replicate k 0) rest)
    ∙ padded-is source (length destination - length source) (length destination) (omega arith)
  where
    long : length copied ≡ length destination
    long = rw (e, length-append, length-drop) (omega arith)

    first : take (length source) copied ≡ source
    first = rw e (take_at source (drop (length source) destination) (length source) refl)

    none : drop (length copied - length source) (drop (length source) copied) ≡ []
    none =
        drop_of_length-le (drop (length source) copied) {i = length copied - length source}
        (rw length-drop (omega arith))

    rest : length (take (length copied - length source) (drop (length source) copied)) ≡ length destination - length source
    rest = rw (length-take, length-drop) (omega (arith, long))
