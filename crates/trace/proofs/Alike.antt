-- Two lists of items that are the same up to the first that does not decode.
-- Assumes nothing.
use Prim.Native.Nat.{ℕ, zero, suc, ◌<◌}
use mathlib.Core.Path.{◌≡◌, refl, sym, ap, ap₂, ◌∙◌}
use mathlib.Core.Bool.{Bool, true, false, ◌&&◌}
use mathlib.Core.List.{◌∷◌, [], ◌++◌}
use native.Mathlib.Omega.{arith}
use Rattle.decoder.specs.Item.{Item}
use Rattle.decoder.specs.Kinds.{refusal_of, is_decoded}
use Rattle.trace.specs.File.{Shape}
use Rattle.std.specs.Prelude.{Err}
use Rattle.trace.specs.File.{first_items}
use Rattle.trace.specs.Beginning.{or_fault}
use Rattle.trace.proofs.Faults.{all_decoded, all_append, found}

module _ (a b : ℕ → Item) where
  -- Where items of the one decode, the other's next item is the same.
  abbrev pub Following : ℕ → Type 0
  Following n = (i : ℕ) → i < n → all_decoded (first_items a i) ≡ true → b i ≡ a i

  -- So far they are the same and decode, or they are the same up to one that does not.
  pub data Alike (n : ℕ) : Type 0 where
    same : first_items b n ≡ first_items a n → all_decoded (first_items a n) ≡ true → Alike n
    up_to : (k : ℕ) → k < n → first_items b k ≡ first_items a k → all_decoded (first_items a k) ≡ true
        → b k ≡ a k → is_decoded (a k) ≡ false → Alike n

  pub one-more-same : (n : ℕ) → first_items b n ≡ first_items a n → b n ≡ a n → first_items b (suc n) ≡ first_items a (suc n)
  unfolding first_items
  one-more-same n e q = ap₂ (λ l x. l ++ x ∷ []) e q

  pub alike : (n : ℕ) → Following n → Alike n
  unfolding first_items
  alike zero follows = same refl refl
  alike (suc n) follows = by_way (alike n (λ i l. follows i (omega arith)))
    where
      by_item : first_items b n ≡ first_items a n → all_decoded (first_items a n) ≡ true → b n ≡ a n
          → (t : Bool) → is_decoded (a n) ≡ t → Alike (suc n)
      by_item e d q true h =
          same (one-more-same n e q) (all_append (first_items a n) (a n ∷ []) ∙ ap₂ (λ s t. s && (t && true)) d h)
      by_item e d q false h = up_to n (omega arith) e d q h

      by_way : Alike n → Alike (suc n)
      by_way (same e d) = by_item e d (follows n (omega arith) d) (is_decoded (a n)) refl
      by_way (up_to k l e d q h) = up_to k (omega arith) e d q h

  -- So they have the same first fault.
  pub same-fault : (n : ℕ) (s : Shape) → Following n → or_fault 0 (first_items b n) s ≡ or_fault 0 (first_items a n) s
  same-fault n s follows = by_way (alike n follows)
    where
      by_way : Alike n → or_fault 0 (first_items b n) s ≡ or_fault 0 (first_items a n) s
      by_way (same e d) = ap (λ l. or_fault 0 l s) e
      by_way (up_to k l e d q h) =
          found b k n s l (ap all_decoded e ∙ d) (ap is_decoded q ∙ h)
          ∙ ap (λ item. Err (refusal_of k item)) q
          ∙ sym (found a k n s l d h)
