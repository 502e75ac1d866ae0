-- A reduction element by element, over the width of an element.
-- Assumes nothing.
use Rattle.std.proofs.Common.{◌≡◌, ℕ, suc, ◌+◌, ◌%◌, ◌<◌, ◌≤◌, List, ◌++◌, length, take, drop, sym, refl, ap, ◌∙◌, ap₂, append_assoc, mod-eq_of_lt, arith, length-append, length-take-le, drop-drop, take_at, drop_at}
use lib.Seq.{sets, sets-eq}
use Rattle.little_endian.specs.Number.{number_at, bytes_of}
use Rattle.little_endian.proofs.Widths.{number-drop, length-bytes}
use Rattle.event.specs.declared.ElementType.{ElementType}
use Rattle.event.specs.declared.ElementType.TheVariants.{B32, U32, S32}
use Rattle.event.specs.declared.Operation.{Operation}
use Rattle.effect.specs.Element.{bound, width, element_in, combine_first, reduce}
use Rattle.effect.proofs.Elements.{length-combine_first}

-- ---- the element that starts at an index
pub element-at : (w at : ℕ) (bytes : List ℕ) → number_at w bytes at < bound w → number_at w bytes at ≡ element_in w (drop at bytes)
element-at w at bytes small =
    let here : at + 0 ≡ at = omega arith in
    sym (ap (λ n. n % bound w) (number-drop w at bytes 0 ∙ ap (number_at w bytes) here) ∙ mod-eq_of_lt small)

-- four bytes each
pub width_four : (element : ElementType) → width element ≡ 4
width_four B32 = refl
width_four U32 = refl
width_four S32 = refl

-- bytes that are whole elements stay as many
pub length-reduce : (operation : Operation) (element : ElementType) (ds xs : List ℕ) → length ds % 4 ≡ 0
    → length (reduce operation element ds xs) ≡ length ds
length-reduce operation element ds xs whole = rw (length-combine_first, width_four element) (omega arith)

-- ---- one more
module _ (w : ℕ) (f : ℕ → ℕ → ℕ) (xs : List ℕ) where
  -- the bytes ds when, from an index on, n elements are still to be combined
  abbrev pub combined_from : ℕ → ℕ → List ℕ → List ℕ
  combined_from at n ds = take at ds ++ combine_first w f n (drop at ds) (drop at xs)

  pub one_more : (at n : ℕ) (ds : List ℕ) → at + w ≤ length ds
      → combined_from (at + w) n (sets ds at (bytes_of w (f (element_in w (drop at ds)) (element_in w (drop at xs)))))
      ≡ combined_from at (suc n) ds
  one_more at n ds fits =
      rw (whole, before, after, append_assoc, ← drop-drop w at ds, ← drop-drop w at xs)
    where
      element : List ℕ
      element = bytes_of w (f (element_in w (drop at ds)) (element_in w (drop at xs)))

      front : length (take at ds ++ element) ≡ at + w
      front = length-append (take at ds) element ∙ ap₂ ◌+◌ (length-take-le at ds (omega arith)) (length-bytes w _)

      whole : sets ds at element ≡ (take at ds ++ element) ++ drop (at + w) ds
      whole =
          let fits' : at + length element ≤ length ds = omega (arith, length-bytes w (f (element_in w (drop at ds)) (element_in w (drop at xs)))) in
          sets-eq element ds at fits' ∙ ap (λ n. (take at ds ++ element) ++ drop (at + n) ds) (length-bytes w _)

      before : take (at + w) ((take at ds ++ element) ++ drop (at + w) ds) ≡ take at ds ++ element
      before = take_at (take at ds ++ element) (drop (at + w) ds) (at + w) front

      after : drop (at + w) ((take at ds ++ element) ++ drop (at + w) ds) ≡ drop (at + w) ds
      after = drop_at (take at ds ++ element) (drop (at + w) ds) (at + w) front
