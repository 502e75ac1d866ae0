-- What a test tells, and tests put together.
-- Assumes nothing.
use mathlib.Core.Path.{◌≡◌, refl, sym}
use mathlib.Core.Logic.{◌↔◌, ◌⊎◌, inl, inr, ⊎_elim}
use mathlib.Core.Bool.{Bool, true, false, not, ◌&&◌, ◌||◌, false≢true}
use mathlib.Mathlib.Data.Bool.Basic.{eq-false_of_not-eq-true}

-- the test t tells whether P
abbrev pub Tells : Bool → Type 0 → Type 0
Tells t P = (t ≡ true) ↔ P

pub itself : (t : Bool) → Tells t (t ≡ true)
itself t = (λ e. e, λ e. e)

pub and-tells : {P Q : Type 0} (x y : Bool) → Tells x P → Tells y Q → Tells (x && y) (P × Q)
and-tells true y p q = (λ e. (p.0 refl, q.0 e), λ h. q.1 h.1)
and-tells false y p q = (λ e. absurd (false≢true e), λ h. p.1 h.0)

pub or_tells : {P Q : Type 0} (x y : Bool) → Tells x P → Tells y Q → Tells (x || y) (P ⊎ Q)
or_tells true y p q = (λ e. inl (p.0 refl), λ h. refl)
or_tells false y p q = (λ e. inr (q.0 e), ⊎_elim (λ h. absurd (false≢true (p.1 h))) q.1)

pub not-tells : {P : Type 0} (x : Bool) → Tells x P → Tells (not x) (¬ P)
not-tells true p = (λ e. absurd (false≢true e), λ n. absurd (n (p.0 refl)))
not-tells false p = (λ e h. false≢true (p.1 h), λ n. refl)

-- The tests of a conjunction hold where it does.
pub both : (a b : Bool) → (a && b) ≡ true → (a ≡ true) × (b ≡ true)
both a b = (and-tells a b (itself a) (itself b)).0

pub all_three : (a b c : Bool) → (a && b && c) ≡ true → (a ≡ true) × (b ≡ true) × (c ≡ true)
all_three a b c h =
    let t = both (a && b) c h in
    let u = both a b t.0 in
    (u.0, u.1, t.1)

pub all-four : (a b c d : Bool) → (a && b && c && d) ≡ true → (a ≡ true) × (b ≡ true) × (c ≡ true) × (d ≡ true)
all-four a b c d h =
    let last = both (a && b && c) d h in
    let others = all_three a b c last.0 in
    (others.0, others.1, others.2, last.1)

pub or_cases : (s t : Bool) → (s || t) ≡ true → (s ≡ true) ⊎ (t ≡ true)
or_cases s t = (or_tells s t (itself s) (itself t)).0

pub or_left : (s t : Bool) → s ≡ true → (s || t) ≡ true
or_left s t h = (or_tells s t (itself s) (itself t)).1 (inl h)

pub or_right : (s t : Bool) → t ≡ true → (s || t) ≡ true
or_right s t h = (or_tells s t (itself s) (itself t)).1 (inr h)

-- Two tests give the same where each follows from the other.
pub equal_tests : (s t : Bool) → (s ≡ true → t ≡ true) → (t ≡ true → s ≡ true) → s ≡ t
equal_tests true t f g = sym (f refl)
equal_tests false t f g = sym (eq-false_of_not-eq-true (λ e. false≢true (g e)))
