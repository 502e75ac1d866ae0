-- The first item of a list that does not decode.
-- Assumes nothing.
use Prim.Native.Nat.{ℕ, zero, suc, ◌+◌, ◌-◌, ◌<◌}
use mathlib.Core.Path.{◌≡◌, refl, sym, ap, ◌∙◌}
use mathlib.Core.Bool.{Bool, true, false, ◌&&◌, and_assoc}
use mathlib.Core.List.{List, [], ◌∷◌, ◌++◌, append_assoc, append-nil}
use native.Mathlib.Omega.{arith}
use native.Mathlib.Nat.{add-zero, zero-add, add-suc}
use lib.ListN.{length, length-append}
use Rattle.little_endian.proofs.Tests.{both}
use Rattle.decoder.specs.Item.{Item}
use Rattle.trace.specs.File.{Shape}
use Rattle.std.specs.Prelude.{Err}
use Rattle.trace.specs.File.{first_items}
use Rattle.decoder.specs.Kinds.{refusal_of, is_decoded}
use Rattle.trace.specs.Beginning.{or_fault}

-- Every item of a list decodes.
abbrev pub all_decoded : List Item → Bool
all_decoded [] = true
all_decoded (item ∷ items) = is_decoded item && all_decoded items

pub all_append : (xs ys : List Item) → all_decoded (xs ++ ys) ≡ (all_decoded xs && all_decoded ys)
all_append [] ys = refl
all_append (x ∷ xs) ys = rw (and_assoc, all_append xs ys)

-- Past items that decode, the search goes on.
goes_on_lem : (i : ℕ) (xs ys : List Item) (s : Shape) → all_decoded xs ≡ true
    → or_fault i (xs ++ ys) s ≡ or_fault (i + length xs) ys s
goes_on_lem i [] ys s h = rw add-zero
goes_on_lem i (x ∷ xs) ys s h =
    let t = both (is_decoded x) (all_decoded xs) h in
    let on : i + suc (length xs) ≡ i + 1 + length xs = omega arith in
    rw (t.0, on) (goes_on_lem (i + 1) xs ys s t.1)

pub length-first : (item : ℕ → Item) (i : ℕ) → length (first_items item i) ≡ i
unfolding first_items
length-first item zero = refl
length-first item (suc i) = rw (length-append, length-first item i) (omega arith)

-- More items stand behind the first.
pub further : (item : ℕ → Item) (i d : ℕ) → (rest : List Item) × (first_items item (i + d) ≡ first_items item i ++ rest)
unfolding first_items
further item i zero = ([], rw (add-zero, append-nil))
further item i (suc d) =
    let (rest, e) = further item i d in
    (rest ++ item (i + d) ∷ [], rw (add-suc i d, e, append_assoc))

-- The search comes to the first item that does not decode.
pub found : (item : ℕ → Item) (i n : ℕ) (s : Shape) → i < n → all_decoded (first_items item i) ≡ true → is_decoded (item i) ≡ false
    → or_fault 0 (first_items item n) s ≡ Err (refusal_of i (item i))
unfolding first_items
found item i n s h decoded fault =
    let (rest, e) = further item (suc i) (n - suc i) in
    let all : suc i + (n - suc i) ≡ n = omega arith in
    let split : first_items item n ≡ first_items item i ++ item i ∷ rest =
    ap (first_items item) (sym all) ∙ e ∙ append_assoc (first_items item i) (item i ∷ []) rest in
    let here : 0 + length (first_items item i) ≡ i = rw (length-first item i) (zero-add i) in
    rw (split, goes_on_lem 0 (first_items item i) (item i ∷ rest) s decoded, here, fault)
