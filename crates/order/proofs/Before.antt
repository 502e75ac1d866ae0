-- Laws of `Before`: on any order, on one with no action twice, and on two orders put together.
-- Assumes nothing.
use mathlib.Core.Path.{◌≡◌, sym, ◌∙◌}
use mathlib.Core.Logic.{◌≢◌, ◌⊎◌, inl, inr, ⊎_map}
use mathlib.Core.List.Memᴰ
use mathlib.Core.List.{List, [], ◌∷◌, ◌++◌}
use Rattle.order.specs.Order.{◌∈◌, Before, first, later, Once}

module _ {A : Type 0} where
  pub first_in : {a b : A} {o : List A} → Before a b o → a ∈ o
  first_in (first e m) = Memᴰ.head e
  first_in (later h) = Memᴰ.tail (first_in h)

  pub second_in : {a b : A} {o : List A} → Before a b o → b ∈ o
  second_in (first e m) = Memᴰ.tail m
  second_in (later h) = Memᴰ.tail (second_in h)

  pub not_nil : {a b : A} → ¬ Before a b []
  not_nil h = elim h [ ]

  -- an order's head is not in its tail, and its tail has no action twice
  pub head_once : {x : A} {o : List A} → Once (x ∷ o) → {a : A} → a ≡ x → ¬ (a ∈ o)
  head_once once {a} e m = once a (first e m)

  pub tail_once : {x : A} {o : List A} → Once (x ∷ o) → Once o
  tail_once once a h = once a (later h)

  pub transitive : {a b c : A} {o : List A} → Once o → Before a b o → Before b c o → Before a c o
  transitive once (first e m) (first f k) = absurd (head_once once f m)
  transitive once (first e m) (later k) = first e (second_in k)
  transitive once (later h) (first f k) = absurd (head_once once f (second_in h))
  transitive once (later h) (later k) = later (transitive (tail_once once) h k)

  pub asymmetric : {a b : A} {o : List A} → Once o → Before a b o → ¬ Before b a o
  asymmetric {a} once h k = once a (transitive once h k)

  -- of two actions of an order one comes before the other
  pub total : {a b : A} {o : List A} → a ≢ b → a ∈ o → b ∈ o → Before a b o ⊎ Before b a o
  total ne (Memᴰ.head e) (Memᴰ.head f) = absurd (ne (e ∙ sym f))
  total ne (Memᴰ.head e) (Memᴰ.tail m) = inl (first e m)
  total ne (Memᴰ.tail l) (Memᴰ.head f) = inr (first f l)
  total ne (Memᴰ.tail l) (Memᴰ.tail m) = ⊎_map later later (total ne l m)

  -- two orders put together: the actions of the first come before those of the second
  pub across : {a b : A} {o p : List A} → a ∈ o → b ∈ p → Before a b (o ++ p)
  across {o = o} (Memᴰ.head {xs = xs} e) m = first e (Memᴰ.append_right xs m)
  across (Memᴰ.tail l) m = later (across l m)

  pub before-append-left : {a b : A} {o : List A} (p : List A) → Before a b o → Before a b (o ++ p)
  before-append-left p (first e m) = first e (Memᴰ.append_left p m)
  before-append-left p (later h) = later (before-append-left p h)

  pub before_append_right : {a b : A} (o : List A) {p : List A} → Before a b p → Before a b (o ++ p)
  before_append_right [] h = h
  before_append_right (x ∷ o) h = later (before_append_right o h)

  -- and the converse: where the two actions of such an order can stand
  pub data Placed (a b : A) (o p : List A) : Type 0 where
    in_first : Before a b o → Placed a b o p
    in_both : a ∈ o → b ∈ p → Placed a b o p
    in_second : Before a b p → Placed a b o p

  pub placed : {a b : A} (o : List A) {p : List A} → Before a b (o ++ p) → Placed a b o p
  placed [] h = in_second h
  placed {a} {b} (x ∷ o) {p} h = at_head h (placed o)
    where
      after_head : Placed a b o p → Placed a b (x ∷ o) p
      after_head (in_first k) = in_first (later k)
      after_head (in_both l m) = in_both (Memᴰ.tail l) m
      after_head (in_second k) = in_second k

      second_at : a ≡ x → b ∈ o ⊎ b ∈ p → Placed a b (x ∷ o) p
      second_at e (inl m) = in_first (first e m)
      second_at e (inr m) = in_both (Memᴰ.head e) m

      at_head : Before a b (x ∷ (o ++ p)) → (Before a b (o ++ p) → Placed a b o p) → Placed a b (x ∷ o) p
      at_head (first e m) below = second_at e (Memᴰ.append_cases o m)
      at_head (later k) below = after_head (below k)
