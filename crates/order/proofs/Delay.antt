-- An order with the actions that pass a test delayed: first those that fail it, then those that pass, as they stood.
-- Assumes nothing.
use mathlib.Core.Path.{◌≡◌, refl, sym, ◌∙◌, ap}
use mathlib.Core.Logic.{⊎_elim}
use mathlib.Core.Bool.{Bool, true, false, not, true≢false}
use mathlib.Mathlib.Data.Bool.Basic.{dichotomy}
use mathlib.Core.List.Memᴰ
use mathlib.Core.List.{List, [], ◌∷◌, ◌++◌}
use Rattle.order.specs.Order.{◌∈◌, Before, first, later, Once, SameActions}
use Rattle.order.proofs.Before.{across, before-append-left, before_append_right, Placed, in_first, in_both, in_second, placed}

module _ {A : Type 0} where
  -- x in front of o, where the test t of x passed
  abbrev with_head : Bool → A → List A → List A
  with_head true x o = x ∷ o
  with_head false x o = o

  under_head : (t : Bool) (x : A) {a : A} {o : List A} → a ∈ o → a ∈ with_head t x o
  under_head true x m = Memᴰ.tail m
  under_head false x m = m

  before_under_head : (t : Bool) (x : A) {a b : A} {o : List A} → Before a b o → Before a b (with_head t x o)
  before_under_head true x h = later h
  before_under_head false x h = h

  module _ (p : A → Bool) where
    -- the actions of an order that pass the test p
    abbrev keep : List A → List A
    keep [] = []
    keep (x ∷ o) = with_head (p x) x (keep o)

    in_keep : {a : A} {o : List A} → p a ≡ true → a ∈ o → a ∈ keep o
    in_keep pa (Memᴰ.head e) = rw (ap p (sym e) ∙ pa) (Memᴰ.head e)
    in_keep pa (Memᴰ.tail {x = x} m) = under_head (p x) x (in_keep pa m)

    before_in_keep : {a b : A} {o : List A} → p a ≡ true → p b ≡ true → Before a b o → Before a b (keep o)
    before_in_keep pa pb (first e m) = rw (ap p (sym e) ∙ pa) (first e (in_keep pb m))
    before_in_keep pa pb (later {x = x} h) = before_under_head (p x) x (before_in_keep pa pb h)

    kept : {a : A} (o : List A) → a ∈ keep o → (a ∈ o) × (p a ≡ true)
    kept [] m = absurd (Memᴰ.not-nil m)
    kept {a} (x ∷ o) m = at_head (p x) refl m (kept o)
      where
        deeper : (a ∈ o) × (p a ≡ true) → (a ∈ (x ∷ o)) × (p a ≡ true)
        deeper k = (Memᴰ.tail k.0, k.1)

        at_head : (t : Bool) → p x ≡ t → a ∈ with_head t x (keep o) → (a ∈ keep o → (a ∈ o) × (p a ≡ true))
            → (a ∈ (x ∷ o)) × (p a ≡ true)
        at_head true px (Memᴰ.head e) below = (Memᴰ.head e, ap p e ∙ px)
        at_head true px (Memᴰ.tail k) below = deeper (below k)
        at_head false px k below = deeper (below k)

    before-kept : {a b : A} (o : List A) → Before a b (keep o) → Before a b o
    before-kept [] h = h
    before-kept {a} {b} (x ∷ o) h = at_head (p x) h (before-kept o)
      where
        at_head : (t : Bool) → Before a b (with_head t x (keep o)) → (Before a b (keep o) → Before a b o)
            → Before a b (x ∷ o)
        at_head true (first e m) below = first e (kept o m).0
        at_head true (later k) below = later (below k)
        at_head false k below = later (below k)

  module _ (p : A → Bool) where
    abbrev fails : A → Bool
    fails x = not (p x)

    abbrev pub delay : List A → List A
    delay o = keep fails o ++ keep p o

    pub delay-once : {o : List A} → Once o → Once (delay o)
    delay-once {o} once a h = by_place (placed (keep fails o) h)
      where
        by_place : Placed a a (keep fails o) (keep p o) → ⊥
        by_place (in_first k) = once a (before-kept fails o k)
        by_place (in_both l m) = true≢false (sym (kept fails o l).1 ∙ ap not (kept p o m).1)
        by_place (in_second k) = once a (before-kept p o k)

    pub delay-all : (o : List A) → SameActions o (delay o)
    delay-all o a = (
      λ m. ⊎_elim
          (λ pa. Memᴰ.append_left (keep p o) (in_keep fails (ap not pa) m))
          (λ pa. Memᴰ.append_right (keep fails o) (in_keep p pa m))
          (dichotomy (p a)),
      λ m. ⊎_elim (λ k. (kept fails o k).0) (λ k. (kept p o k).0) (Memᴰ.append_cases (keep fails o) m),
    )

    -- a comes before b in the delayed order: a was not delayed and b was, or neither was, or both
    pub delay-passes : {a b : A} {o : List A} → p a ≡ false → p b ≡ true → a ∈ o → b ∈ o → Before a b (delay o)
    delay-passes pa pb l m = across (in_keep fails (ap not pa) l) (in_keep p pb m)

    pub delay-stays : {a b : A} {o : List A} → p a ≡ p b → Before a b o → Before a b (delay o)
    delay-stays {a} {b} {o} same h = by_test (p b) refl
      where
        by_test : (t : Bool) → p b ≡ t → Before a b (delay o)
        by_test true pb = before_append_right (keep fails o) (before_in_keep p (same ∙ pb) pb h)
        by_test false pb = before-append-left (keep p o) (before_in_keep fails (ap not (same ∙ pb)) (ap not pb) h)
