-- What the definitions of the sheet's writer come to, by the outcome of its test.
-- Assumes nothing.
use Prim.Native.Nat.{ℕ, ◌≤◌}
use mathlib.Core.Path.{◌≡◌, refl, sym, ap, ◌∙◌}
use mathlib.Core.Bool.{Bool, true, false, ◌&&◌}
use mathlib.Core.List.{List, [], ◌∷◌, ◌++◌}
use native.Mathlib.Omega.{arith}
use lib.Dec.{leb}
use lib.ListN.{length, drop, replicate}
use lib.Seq.{sets}
use borrow.Author.Tests.{leb-true}
use Rattle.little_endian.specs.Number.{bytes_of}
use Rattle.little_endian.proofs.Tests.{both}
use Rattle.answer.specs.declared.Answer.{Answer}
use Rattle.answer.specs.declared.Answer.TheVariants.{NotWritten}
use Rattle.answer.specs.declared.Numbers.{Numbers}
use Rattle.answer.specs.Numbers.{numbers_of}
use Rattle.answer.specs.Table.{fit}
use Rattle.answer.specs.Sheet.{two_each, laid_out, sheet_of, is_written, done, write_answer, write_leaves}

pub never : NotWritten ≡ done → ⊥
never h = let other : ◌≡◌ {A = ℕ} 12 1 = ap (λ (a : Answer). (numbers_of a).code) h in omega arith

module _ (answer : Answer) (out : List ℕ) where
  pub written : is_written answer out ≡ true
      → (write_answer answer out ≡ done) × (write_leaves answer out ≡ sheet_of answer ++ drop 12 out)
  unfolding write_answer write_leaves
  written h = (rw h, rw h)

  pub not_written : is_written answer out ≡ false → (write_answer answer out ≡ NotWritten) × (write_leaves answer out ≡ out)
  unfolding write_answer write_leaves
  not_written h = (rw h, rw h)

  -- What the test says.
  pub parts : is_written answer out ≡ true → (12 ≤ length out) × (fit (numbers_of answer) ≡ true)
  unfolding is_written
  parts h =
      let t = both (leb 12 (length out)) (fit (numbers_of answer)) h in
      (leb-true 12 (length out) t.0, t.1)

  -- Only a test that held lets the writer answer that it has written.
  pub tested-true : write_answer answer out ≡ done → is_written answer out ≡ true
  tested-true h = go (is_written answer out) refl
    where
      go : (t : Bool) → is_written answer out ≡ t → is_written answer out ≡ true
      go true e = e
      go false e = absurd (never (sym (not_written e).0 ∙ h))

  -- The test as the writer makes it, on the numbers that it has.
  pub tested : (n : Numbers) (fits t : Bool) → n ≡ numbers_of answer → fits ≡ fit n → (leb 12 (length out) && fits) ≡ t → is_written answer out ≡ t
  unfolding is_written
  tested n fits t m f e = rw (← m, ← f) e

-- A copy of the whole sheet leaves the sheet, and the bytes past it.
pub copied : (answer : Answer) (n : Numbers) (sheet out : List ℕ) → n ≡ numbers_of answer → sheet ≡ laid_out n
    → sheet ++ drop 12 out ≡ sheet_of answer ++ drop 12 out
copied answer n sheet out m h = rw (h, m)

-- Numbers that are put in two bytes each, one after another, fill a sheet.
pub filled : (at long event partner peak code : ℕ) (s t u v w x : List ℕ)
    → s ≡ sets (replicate 12 0) 0 (bytes_of 2 at) → t ≡ sets s 2 (bytes_of 2 long)
    → u ≡ sets t 4 (bytes_of 2 event) → v ≡ sets u 6 (bytes_of 2 partner)
    → w ≡ sets v 8 (bytes_of 2 peak) → x ≡ sets w 10 (bytes_of 2 code)
    → x ≡ two_each (at ∷ long ∷ event ∷ partner ∷ peak ∷ code ∷ [])
unfolding bytes_of
filled at long event partner peak code s t u v w x a b c d e f = rw (f, e, d, c, b, a)
