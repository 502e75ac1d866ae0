-- What the definition of the sheet's reader comes to, by the outcome of its test.
-- Assumes nothing.
use Prim.Native.Nat.{ℕ}
use mathlib.Core.Path.{◌≡◌, refl, sym, ap, ◌∙◌}
use mathlib.Core.Bool.{Bool, true, false, ◌&&◌}
use mathlib.Core.List.{List}
use lib.Dec.{eqb}
use lib.ListN.{length}
use borrow.Author.Tests.{eq-eqb, ne_eqb, eqb-true}
use Rattle.little_endian.proofs.Tests.{both, all_three}
use Rattle.answer.specs.declared.Answer.{Answer}
use Rattle.answer.specs.declared.Answer.TheVariants.{NoVerdict}
use Rattle.answer.specs.declared.Numbers.{Numbers}
use Rattle.answer.specs.Numbers.{numbers_of, case_of}
use Rattle.answer.specs.Table.{fit}
use Rattle.answer.specs.Sheet.{two_at, numbers_at, is_sheet, read_of}
use Rattle.answer.proofs.Fitting.{held}

module _ (s : List ℕ) where
  pub read_sheet : is_sheet s ≡ true → read_of s ≡ case_of (numbers_at s)
  unfolding read_of
  read_sheet h = rw h

  pub read_no_sheet : is_sheet s ≡ false → read_of s ≡ NoVerdict
  unfolding read_of
  read_no_sheet h = rw h

  pub other_length : (length s ≡ 12 → ⊥) → is_sheet s ≡ false
  unfolding is_sheet
  other_length h = rw (ne_eqb (length s) 12 h)

  -- The test as the reader makes it, on numbers that it has read.
  pub tested : (at long : ℕ) (n : Numbers) (fits t : Bool) → length s ≡ 12
      → at ≡ two_at s 0 → long ≡ two_at s 2 → n ≡ numbers_at s → fits ≡ fit n
      → (eqb at 4 && eqb long 8 && fits) ≡ t → is_sheet s ≡ t
  unfolding is_sheet
  tested at long n fits t h a l m f e = rw (eq-eqb (length s) 12 h, ← a, ← l, ← m, ← f) e

  -- What a sheet's test says.
  pub parts : is_sheet s ≡ true → (length s ≡ 12) × (two_at s 0 ≡ 4) × (two_at s 2 ≡ 8) × (fit (numbers_at s) ≡ true)
  unfolding is_sheet
  parts h =
      let t = both (eqb (length s) 12) (eqb (two_at s 0) 4 && eqb (two_at s 2) 8 && fit (numbers_at s)) h in
      let u = all_three (eqb (two_at s 0) 4) (eqb (two_at s 2) 8) (fit (numbers_at s)) t.1 in
      (eqb-true (length s) 12 t.0, eqb-true (two_at s 0) 4 u.0, eqb-true (two_at s 2) 8 u.1, u.2)

  -- Only a sheet reads as a verdict.
  pub verdict : (a : Answer) → read_of s ≡ a → (a ≡ NoVerdict → ⊥) → is_sheet s ≡ true
  verdict a h no_none = go (is_sheet s) refl
    where
      go : (t : Bool) → is_sheet s ≡ t → is_sheet s ≡ true
      go true e = e
      go false e = absurd (no_none (sym h ∙ read_no_sheet e))

  -- The numbers on a sheet are those of the answer that it reads as.
  pub numbers-read : is_sheet s ≡ true → numbers_of (read_of s) ≡ numbers_at s
  numbers-read h = ap numbers_of (read_sheet h) ∙ (held (numbers_at s) (parts h).3).1

  pub standing : (a : Answer) → read_of s ≡ a → (a ≡ NoVerdict → ⊥) → numbers_of a ≡ numbers_at s
  standing a h no_none = ap numbers_of (sym h) ∙ numbers-read (verdict a h no_none)
