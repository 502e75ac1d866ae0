-- Two actions of which neither must precede the other can come either way: a permitted order stays permitted if an action
-- and all that must follow it are delayed.
-- Assumes nothing.
use mathlib.Core.Path.{◌≡◌, refl, sym, ◌∙◌}
use mathlib.Core.Logic.{◌≢◌, ◌↔◌, ◌⊎◌, inl, inr, ⊎_elim}
use mathlib.Core.HLevel.{Discrete}
use mathlib.Core.Bool.{Bool, true, false, true≢false, ◌||◌, decide}
use mathlib.Mathlib.Data.Bool.Basic.{eq-false_of_not-eq-true}
use mathlib.Core.List.{List}
use Rattle.order.specs.Order.{◌∈◌, Before, SameActions, Permitted, CanPrecede, EitherWay}
use Rattle.order.specs.Theorems.{Closure}
use Rattle.order.proofs.Before.{asymmetric}
use Rattle.order.proofs.Delay.{delay, delay-once, delay-all, delay-passes, delay-stays}

module _ {A : Type 0} (eq? : Discrete A) {actions : List A} {must : A → A → Type 0} {m : A → A → Bool}
    (closure : Closure actions must m) (some : List A) (ok : Permitted actions must some) where
  -- x is a, or must follow it
  from : A → A → Bool
  from a x = decide (eq? a x) || m a x

  from-cases : (a x : A) → from a x ≡ true → (a ≡ x) ⊎ (m a x ≡ true)
  unfolding from decide
  from-cases a x h = by_cases (eq? a x) h
    where
      by_cases : (d : Dec (a ≡ x)) → (decide d || m a x) ≡ true → (a ≡ x) ⊎ (m a x ≡ true)
      by_cases (yes e) k = inl e
      by_cases (no ne) k = inr k

  from_either : (a x : A) → (a ≡ x) ⊎ (m a x ≡ true) → from a x ≡ true
  unfolding from decide
  from_either a x h = by_cases (eq? a x) h
    where
      by_cases : (d : Dec (a ≡ x)) → (a ≡ x) ⊎ (m a x ≡ true) → (decide d || m a x) ≡ true
      by_cases (yes e) k = refl
      by_cases (no ne) (inl e) = absurd (ne e)
      by_cases (no ne) (inr k) = k

  -- what must follow something that is delayed with a, is delayed with a
  from_follows : (a x y : A) → a ∈ actions → x ∈ actions → y ∈ actions → m x y ≡ true → from a x ≡ true
      → from a y ≡ true
  from_follows a x y la lx ly h f =
      from_either a y (inr (⊎_elim (λ e. rw e h) (λ k. closure.transitive a x y la lx ly k h) (from-cases a x f)))

  -- an action is in the permitted order that is given
  there : {x : A} → x ∈ actions → x ∈ some
  there {x} = (ok.all x).0

  delayed_all : (a : A) → SameActions actions (delay (from a) some)
  delayed_all a x = (λ l. (delay-all (from a) some x).0 (there l), λ l. (ok.all x).1 ((delay-all (from a) some x).1 l))

  delayed_permitted : (a : A) → a ∈ actions → Permitted actions must (delay (from a) some)
  delayed_permitted a la = record {
    once = delay-once (from a) ok.once;
    all = delayed_all a;
    keeps = λ x y lx ly xy. still x y lx ly xy (from a x) (from a y) refl refl;
  }
    where
      still : (x y : A) → x ∈ actions → y ∈ actions → must x y
          → (s t : Bool) → from a x ≡ s → from a y ≡ t → Before x y (delay (from a) some)
      still x y lx ly xy false true fx fy = delay-passes (from a) fx fy (there lx) (there ly)
      still x y lx ly xy true false fx fy =
          absurd (true≢false (sym (from_follows a x y la lx ly (closure.includes x y lx ly xy) fx) ∙ fy))
      still x y lx ly xy true true fx fy = delay-stays (from a) (fx ∙ sym fy) (ok.keeps x y lx ly xy)
      still x y lx ly xy false false fx fy = delay-stays (from a) (fx ∙ sym fy) (ok.keeps x y lx ly xy)

  -- b can come before a just where a must not come before b
  can_precede : (a b : A) → a ∈ actions → b ∈ actions → a ≢ b → CanPrecede actions must b a ↔ (m a b ≡ false)
  can_precede a b la lb ne = (cannot, can)
    where
      cannot : CanPrecede actions must b a → m a b ≡ false
      cannot c =
          eq-false_of_not-eq-true
          (λ h. asymmetric c.permitted.once (closure.kept c.order c.permitted a b la lb h) c.before)

      can : m a b ≡ false → CanPrecede actions must b a
      can h =
          let not-from : from a b ≡ false = eq-false_of_not-eq-true
          (λ f. ⊎_elim ne (λ k. true≢false (sym k ∙ h)) (from-cases a b f)) in
          record {
            order = delay (from a) some;
            permitted = delayed_permitted a la;
            before = delay-passes (from a) not-from (from_either a a (inl refl)) (there lb) (there la);
          }

  pub either_way : (a b : A) → a ∈ actions → b ∈ actions → a ≢ b
      → EitherWay actions must a b ↔ ((m a b ≡ false) × (m b a ≡ false))
  either_way a b la lb ne = (
    λ e. ((can_precede a b la lb ne).0 e.other_way, (can_precede b a lb la back).0 e.one_way),
    λ h. record { one_way = (can_precede b a lb la back).1 h.1; other_way = (can_precede a b la lb ne).1 h.0 },
  )
    where
      back : b ≢ a
      back q = ne (sym q)
