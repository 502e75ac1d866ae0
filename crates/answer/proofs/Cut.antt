-- A sheet cut short, the rest zero: before its code it is no sheet, in its code and past it the sheet itself.
-- Assumes nothing.
use Prim.Native.Nat.{ℕ, zero, suc, ◌-◌, ◌/◌, ◌%◌, ◌≤◌, ◌<◌}
use mathlib.Core.Path.{◌≡◌, refl}
use mathlib.Core.Logic.{⊎_elim}
use mathlib.Core.Bool.{false, and-false}
use mathlib.Core.List.{List, [], ◌∷◌, ◌++◌}
use native.Mathlib.Omega.{arith}
use native.Mathlib.Nat.{not-suc-le-zero, le_of_suc-le-suc, eq-or-lt_of_le}
use lib.ListN.{get_or, take, replicate}
use Rattle.little_endian.specs.Number.{number_at, bytes_of}
use Rattle.answer.specs.declared.Numbers.{Numbers}
use Rattle.answer.specs.Table.{fit_named, fit}
use Rattle.answer.specs.Sheet.{two_each, laid_out, numbers_at, is_sheet}
use Rattle.answer.specs.Theorems.{cut}

-- Past a cut all is zero.
zeros : (m i : ℕ) → ◌≡◌ {A = ℕ} (get_or (replicate m 0) i 0) 0
zeros zero i = refl
zeros (suc m) zero = refl
zeros (suc m) (suc i) = zeros m i

past-cut : (k : ℕ) (s : List ℕ) (m i : ℕ) → k ≤ i → get_or (take k s ++ replicate m 0) i 0 ≡ 0
past-cut zero s m i h = zeros m i
past-cut (suc k) [] m i h = zeros m i
past-cut (suc k) (x ∷ s) m zero h = absurd (not-suc-le-zero h)
past-cut (suc k) (x ∷ s) m (suc i) h = past-cut k s m i (le_of_suc-le-suc h)

no_code : (n : Numbers) → n.code ≡ 0 → fit n ≡ false
unfolding fit fit_named
no_code n h = rw h

-- Before its code a cut leaves no code, and so no sheet.
pub cut_before_code : (k : ℕ) (s : List ℕ) → k ≤ 10 → is_sheet (cut k s) ≡ false
unfolding is_sheet number_at
cut_before_code k s h =
    let low : get_or (cut k s) 10 0 ≡ 0 = past-cut k s (12 - k) 10 h in
    let high : get_or (cut k s) 11 0 ≡ 0 = past-cut k s (12 - k) 11 (omega arith) in
    rw (no_code (numbers_at (cut k s)) (omega arith)) (simp and-false)

-- The code's second byte is zero, so that a cut there takes nothing.
cut_in_code : (n : Numbers) → n.code < 256 → cut 11 (laid_out n) ≡ laid_out n
unfolding bytes_of
cut_in_code n h =
    let second : 0 ≡ n.code / 256 % 256 = omega arith in
    λ i. two_each (4 ∷ 8 ∷ n.event ∷ n.partner ∷ n.peak ∷ []) ++ (n.code % 256 ∷ second i ∷ [])

pub cut_after_code : (n : Numbers) → n.code < 256 → (k : ℕ) → 11 ≤ k → k ≤ 12 → cut k (laid_out n) ≡ laid_out n
unfolding bytes_of
cut_after_code n h k low high =
    ⊎_elim (λ (e : 11 ≡ k). rw (← e) (cut_in_code n h)) (λ (m : 11 < k). let e : k ≡ 12 = omega arith in rw e)
    (eq-or-lt_of_le low)
