-- Two orders of the same actions have one outcome, if every two actions that they have in opposite orders commute.
-- Assumes nothing.
use mathlib.Core.Path.{◌≡◌, refl, sym, ◌∙◌, ap}
use mathlib.Core.Logic.{◌≢◌, ◌⊎◌, inl, inr, ⊎_map, ⊎_elim}
use mathlib.Core.List.Memᴰ
use mathlib.Core.List.{List, [], ◌∷◌}
use Rattle.order.specs.Order.{◌∈◌, Before, first, later, Once, SameActions, Permitted, EitherWay, runs, Commute}
use Rattle.order.proofs.Before.{head_once, tail_once, first_in}

module _ {A : Type 0} where
  -- taking a out of the order o leaves the order rest
  data TakenOut (a : A) : List A → List A → Type 0 where
    at_head : {x : A} {o : List A} → a ≡ x → TakenOut a (x ∷ o) o
    further : {x : A} {o rest : List A} → TakenOut a o rest → TakenOut a (x ∷ o) (x ∷ rest)

  take_out : {a : A} {o : List A} → a ∈ o → (rest : List A) × TakenOut a o rest
  take_out (Memᴰ.head {xs = xs} e) = (xs, at_head e)
  take_out (Memᴰ.tail {x = x} m) = let r = take_out m in (x ∷ r.0, further r.1)

  was_in : {a x : A} {o rest : List A} → TakenOut a o rest → x ∈ rest → x ∈ o
  was_in (at_head e) m = Memᴰ.tail m
  was_in (further t) (Memᴰ.head e) = Memᴰ.head e
  was_in (further t) (Memᴰ.tail m) = Memᴰ.tail (was_in t m)

  was-before : {a x y : A} {o rest : List A} → TakenOut a o rest → Before x y rest → Before x y o
  was-before (at_head e) h = later h
  was-before (further t) (first e m) = first e (was_in t m)
  was-before (further t) (later h) = later (was-before t h)

  taken_in : {a : A} {o rest : List A} → TakenOut a o rest → a ∈ o
  taken_in (at_head e) = Memᴰ.head e
  taken_in (further t) = Memᴰ.tail (taken_in t)

  taken_or_left : {a x : A} {o rest : List A} → TakenOut a o rest → x ∈ o → (x ≡ a) ⊎ (x ∈ rest)
  taken_or_left (at_head e) (Memᴰ.head f) = inl (f ∙ sym e)
  taken_or_left (at_head e) (Memᴰ.tail m) = inr m
  taken_or_left (further t) (Memᴰ.head f) = inr (Memᴰ.head f)
  taken_or_left (further t) (Memᴰ.tail m) = ⊎_map (λ e. e) Memᴰ.tail (taken_or_left t m)

  not_left : {a : A} {o rest : List A} → Once o → TakenOut a o rest → ¬ (a ∈ rest)
  not_left once (at_head e) m = head_once once e m
  not_left once (further t) (Memᴰ.head e) = head_once once e (taken_in t)
  not_left once (further t) (Memᴰ.tail m) = not_left (tail_once once) t m

  in_tail : {a x : A} {o : List A} → a ≢ x → a ∈ (x ∷ o) → a ∈ o
  in_tail ne m = ⊎_elim (λ e. absurd (ne e)) (λ k. k) (Memᴰ.cases_cons m)

  distinct : {a b : A} {o : List A} → Once o → Before a b o → a ≢ b
  distinct {b = b} once h e = once b (rw e at h)

  module _ {S : Type 0} (exec : A → S → S) where
    -- an action that commutes with all before it can as well come first
    to_front : {a : A} {o rest : List A} → TakenOut a o rest → ((x : A) → Before x a o → Commute exec x a) → (s : S)
        → runs exec o s ≡ runs exec rest (exec a s)
    to_front (at_head {o = o} e) free s = rw e
    to_front (further {x = x} {rest = rest} t) free s =
        to_front t (λ y h. free y (later h)) (exec x s) ∙ ap (runs exec rest) (free x (first refl (taken_in t)) s)

    pub one-outcome : (o₁ o₂ : List A) → Once o₁ → Once o₂ → SameActions o₁ o₂
        → ((a b : A) → Before a b o₁ → Before b a o₂ → Commute exec a b) → (s : S) → runs exec o₁ s ≡ runs exec o₂ s
    one-outcome [] [] once₁ once₂ same commute s = refl
    one-outcome (x ∷ o₁) [] once₁ once₂ same commute s = absurd (Memᴰ.not-nil ((same x).0 (Memᴰ.head refl)))
    one-outcome o₁ (a ∷ o₂) once₁ once₂ same commute s =
        let (rest, out) = take_out ((same a).1 (Memᴰ.head refl)) in
        to_front out (λ x h. commute x a h (first refl (in_tail (distinct once₁ h) ((same x).0 (first_in h))))) s
        ∙ one-outcome rest o₂ (λ x h. once₁ x (was-before out h)) (tail_once once₂) (same_rest out)
        (λ x y h k. commute x y (was-before out h) (later k)) (exec a s)
      where
        same_rest : {rest : List A} → TakenOut a o₁ rest → SameActions rest o₂
        same_rest out x = (
          λ m. in_tail (λ e. not_left once₁ out (rw e at m)) ((same x).0 (was_in out m)),
          λ m. ⊎_elim (λ e. absurd (head_once once₂ e m)) (λ k. k) (taken_or_left out ((same x).1 (Memᴰ.tail m))),
        )

    -- all permitted orders have one outcome, if every two actions that can come either way commute
    pub all-agree : (acts : List A) (must : A → A → Type 0) → ((a b : A) → EitherWay acts must a b → Commute exec a b)
        → (o₁ o₂ : List A) → Permitted acts must o₁ → Permitted acts must o₂ → (s : S)
        → runs exec o₁ s ≡ runs exec o₂ s
    all-agree acts must commute o₁ o₂ ok₁ ok₂ =
        one-outcome o₁ o₂ ok₁.once ok₂.once
        (λ a. (λ m. (ok₂.all a).0 ((ok₁.all a).1 m), λ m. (ok₁.all a).0 ((ok₂.all a).1 m)))
        (λ a b h k. commute a b (opposite h k))
      where
        opposite : {a b : A} → Before a b o₁ → Before b a o₂ → EitherWay acts must a b
        opposite h k = record {
          one_way = record { order = o₁; permitted = ok₁; before = h };
          other_way = record { order = o₂; permitted = ok₂; before = k };
        }
