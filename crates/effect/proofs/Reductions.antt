-- Reductions of one operation and one type commute: each is a run of updates of single elements, and these commute.
-- Assumes nothing.
use Prim.Native.Nat.{ℕ, zero, suc, ◌+◌, ◌-◌, ◌*◌, ◌/◌, ◌≤◌, ◌<◌}
use native.Mathlib.Nat.{suc-mul, div-mul-le_self, mul-le-mul_right}
use native.Mathlib.Decide.{dec_lt}
use native.Mathlib.Omega.{arith}
use mathlib.Core.Path.{◌≡◌, refl, sym, ◌∙◌, ap, ap₂}
use mathlib.Core.Logic.{◌⊎◌, inl, inr, by_cases}
use mathlib.Core.List.{List, ◌++◌}
use lib.ListN.{length, take, drop, length-take, length-drop}
use lib.Seq.{length-sets, drop-drop}
use Rattle.little_endian.specs.Number.{bytes_of}
use Rattle.little_endian.proofs.Widths.{length-bytes}
use Rattle.effect.specs.Element.{bound, element_in, combine_first, combine}
use Rattle.effect.specs.Memory.{read, write}
use Rattle.effect.proofs.Memories.{read-write, write-write, write-over, drop-write, write-append, drop-take-add, Apart}
use Rattle.effect.proofs.Elements.{element_lt, element-take, element-bytes, AnyOrder}

-- the address is that of an element
abbrev pub Multiple : ℕ → ℕ → Type 0
Multiple w at = (k : ℕ) × (at ≡ k * w)

module _ (w : ℕ) where
  next : {at : ℕ} → Multiple w at → Multiple w (at + w)
  next (k, e) = (suc k, omega (arith, suc-mul k w))

  -- two elements are one or share no byte
  one_or_apart : (p q : ℕ) → Multiple w p → Multiple w q → (p ≡ q) ⊎ Apart p w q w
  one_or_apart p q (i, e) (j, e') =
      by_cases (dec_lt i j) (λ h. inr (λ b f g k l. omega (arith, suc-mul i w, mul-le-mul_right w h)))
      (λ n. by_cases (dec_lt j i) (λ h. inr (λ b f g k l. omega (arith, suc-mul j w, mul-le-mul_right w h)))
      (λ n'. let same : i ≡ j = omega arith in inl (e ∙ rw same (sym e'))))

module _ (w : ℕ) (f : ℕ → ℕ → ℕ) where
  abbrev updated : List ℕ → ℕ → ℕ → List ℕ
  updated m at x = bytes_of w (f (element_in w (drop at m)) x)

  -- the element at address `at` is combined with x
  abbrev update : List ℕ → ℕ → ℕ → List ℕ
  update m at x = write m at (updated m at x)

  -- the n elements from address `at` on are combined with those of the bytes xs
  abbrev updates : ℕ → List ℕ → ℕ → List ℕ → List ℕ
  updates zero m at xs = m
  updates (suc n) m at xs = updates n (update m at (element_in w xs)) (at + w) (drop w xs)

  -- n elements are combined of `size` bytes, and `rest` bytes are left
  as_updates : (n rest : ℕ) (m : List ℕ) (at size : ℕ) (xs : List ℕ) → size ≡ n * w + rest
      → write m at (combine_first w f n (read m at size) xs) ≡ updates n m at xs
  as_updates zero rest m at size xs e = refl
  as_updates (suc n) rest m at size xs e =
      let x = element_in w xs in
      let xs' = drop w xs in
      let size' = n * w + rest in
      let m' = update m at x in
      let e' : size ≡ w + size' = omega (arith, suc-mul n w) in
      let head : element_in w (read m at size) ≡ element_in w (drop at m) = element-take w size (drop at m) (omega arith) in
      let tail : drop w (read m at size) ≡ read m (at + w) size' = ap (λ k. drop w (take k (drop at m))) e'
      ∙ drop-take-add w size' (drop at m) ∙ ap (take size') (drop-drop w at m) in
      let same : read m' (at + w) size' ≡ read m (at + w) size' = read-write (updated m at x) m (at + w) size' at
      (simp length-bytes (λ i a b c d. omega arith)) in
      ap₂ (λ d r. write m at (bytes_of w (f d x) ++ combine_first w f n r xs')) head (tail ∙ sym same)
      ∙ write-append (updated m at x) (combine_first w f n (read m' (at + w) size') xs') m at
      ∙ ap (λ k. write m' (at + k) (combine_first w f n (read m' (at + w) size') xs'))
      (length-bytes w (f (element_in w (drop at m)) x))
      ∙ as_updates n rest m' (at + w) size' xs' refl

  module _ (law : AnyOrder (bound w) f) (pos : 0 < w) where
    update_twice : (m : List ℕ) (at x y : ℕ) → at + w ≤ length m → x < bound w
        → update (update m at x) at y ≡ write m at (bytes_of w (f (f (element_in w (drop at m)) x) y))
    update_twice m at x y h hx =
        let d = f (element_in w (drop at m)) x in
        let small : d < bound w = law.below (element_in w (drop at m)) x (element_lt w (drop at m)) hx in
        ap (λ r. write (update m at x) at (bytes_of w (f r y)))
        (rw (drop-write (bytes_of w d) m at (rw length-bytes h)) (element-bytes w d _ small))
        ∙ write-over (bytes_of w d) (bytes_of w (f d y)) m at (simp length-bytes)

    -- an element is what it was, if all is written elsewhere
    element-apart : (bs m : List ℕ) (at to : ℕ) → Apart at w to (length bs)
        → element_in w (drop at (write m to bs)) ≡ element_in w (drop at m)
    element-apart bs m at to d =
        sym (element-take w w (drop at (write m to bs)) (omega arith))
        ∙ ap (element_in w) (read-write bs m at w to d)
        ∙ element-take w w (drop at m) (omega arith)

    update_apart : (m : List ℕ) (p q x y : ℕ) → Apart p w q w → update (update m p x) q y ≡ update (update m q y) p x
    update_apart m p q x y d =
        ap (λ r. write (update m p x) q (bytes_of w (f r y)))
        (element-apart (updated m p x) m q p (simp length-bytes (λ i f g h k. d i h k f g)))
        ∙ write-write (updated m q y) (updated m p x) m p q (simp length-bytes d)
        ∙ ap (λ r. write (update m q y) p (bytes_of w (f r x)))
        (sym (element-apart (updated m q y) m p q (simp length-bytes d)))

    swap-update : (m : List ℕ) (p q x y : ℕ) → Multiple w p → Multiple w q → p + w ≤ length m → x < bound w
        → y < bound w
        → update (update m p x) q y ≡ update (update m q y) p x
    swap-update m p q x y mp mq h hx hy = go (one_or_apart w p q mp mq)
      where
        go : (p ≡ q) ⊎ Apart p w q w → update (update m p x) q y ≡ update (update m q y) p x
        go (inl e) =
            rw (← e) (update_twice m p x y h hx ∙ ap (λ n. write m p (bytes_of w n))
            (law.swap (element_in w (drop p m)) x y (element_lt w (drop p m)) hx hy) ∙ sym (update_twice m p y x h hy))
        go (inr d) = update_apart m p q x y d

    update-updates : (n : ℕ) (m : List ℕ) (p q : ℕ) (xs : List ℕ) (y : ℕ) → Multiple w p → Multiple w q
        → n * w ≤ length m - p → y < bound w
        → update (updates n m p xs) q y ≡ updates n (update m q y) p xs
    update-updates zero m p q xs y mp mq h hy = refl
    update-updates (suc n) m p q xs y mp mq h hy =
        let x = element_in w xs in
        update-updates n (update m p x) (p + w) q (drop w xs) y (next w mp) mq
        (rw length-sets (omega (arith, suc-mul n w))) hy
        ∙ ap (λ l. updates n l (p + w) (drop w xs))
        (swap-update m p q x y mp mq (omega (arith, suc-mul n w)) (element_lt w xs) hy)

    updates-updates : (k n : ℕ) (m : List ℕ) (p q : ℕ) (xs ys : List ℕ) → Multiple w p → Multiple w q
        → n * w ≤ length m - p → k * w ≤ length m - q
        → updates k (updates n m p xs) q ys ≡ updates n (updates k m q ys) p xs
    updates-updates zero n m p q xs ys mp mq hp hq = refl
    updates-updates (suc k) n m p q xs ys mp mq hp hq =
        let y = element_in w ys in
        ap (λ l. updates k l (q + w) (drop w ys)) (update-updates n m p q xs y mp mq hp (element_lt w ys))
        ∙ updates-updates k n (update m q y) p (q + w) xs (drop w ys) mp (next w mq) (rw length-sets hp)
        (rw length-sets (omega (arith, suc-mul k w)))

    -- the memory after a reduction
    abbrev reduced : List ℕ → ℕ → ℕ → List ℕ → List ℕ
    reduced m at size xs = write m at (combine w f (read m at size) xs)

    -- how many elements it combines
    abbrev count : List ℕ → ℕ → ℕ → ℕ
    count m at size = length (read m at size) / w

    count_le : (m : List ℕ) (at size : ℕ) → (count m at size * w ≤ size) × (count m at size * w ≤ length m - at)
    count_le m at size =
        let h = simp (length-take, length-drop) at (div-mul-le_self (length (read m at size)) w) in
        simp (length-take, length-drop) (omega (arith, h), omega (arith, h))

    count_same : (m m' : List ℕ) (at size : ℕ) → length m' ≡ length m → count m' at size ≡ count m at size
    count_same m m' at size e = simp (length-take, length-drop, e)

    reduced-updates : (m : List ℕ) (at size : ℕ) (xs : List ℕ)
        → reduced m at size xs ≡ updates (count m at size) m at xs
    reduced-updates m at size xs =
        as_updates (count m at size) (size - count m at size * w) m at size xs (omega (arith, (count_le m at size).0))

    twice-reduced : (m : List ℕ) (p n : ℕ) (xs : List ℕ) (q k : ℕ) (ys : List ℕ)
        → reduced (reduced m p n xs) q k ys ≡ updates (count m q k) (updates (count m p n) m p xs) q ys
    twice-reduced m p n xs q k ys =
        reduced-updates (reduced m p n xs) q k ys
        ∙ ap₂ (λ c l. updates c l q ys)
        (count_same m (reduced m p n xs) q k (length-sets m p (combine w f (read m p n) xs)))
        (reduced-updates m p n xs)

    pub reductions_commute : (m : List ℕ) (p n : ℕ) (xs : List ℕ) (q k : ℕ) (ys : List ℕ) → Multiple w p → Multiple w q
        → reduced (reduced m p n xs) q k ys ≡ reduced (reduced m q k ys) p n xs
    reductions_commute m p n xs q k ys mp mq =
        twice-reduced m p n xs q k ys
        ∙ updates-updates (count m q k) (count m p n) m p q xs ys mp mq (count_le m p n).1 (count_le m q k).1
        ∙ sym (twice-reduced m q k ys p n xs)
