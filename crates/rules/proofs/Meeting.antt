-- The tests tell what the definitions say: accesses meet, and reductions may share a place.
-- Assumes nothing.
use Prim.Native.Nat.{ℕ, ◌+◌, ◌<◌, min, max}
use native.Mathlib.Omega.{arith}
use mathlib.Core.Path.{◌≡◌, refl, sym, ◌∙◌, ap}
use mathlib.Core.Logic.Iff
use mathlib.Core.Logic.{◌⊎◌}
use mathlib.Core.Bool.{Bool, true, ◌||◌, false≢true}
use mathlib.Core.List.{List}
use lib.ListN.{get_or}
use lib.Dec.{eqb, ltb}
use borrow.Author.Tests.{ltb-true, lt-ltb, eqb-true, eq-eqb}
use Rattle.little_endian.proofs.Tests.{Tells, and-tells, or_tells, itself}
use Rattle.event.specs.declared.ElementType.{ElementType}
use Rattle.event.specs.declared.ElementType.TheVariants.{B32}
use Rattle.event.specs.declared.Operation.{Operation}
use Rattle.event.specs.declared.Operation.TheVariants.{And}
use Rattle.event.specs.Fields.{operation_number, type_number}
use Rattle.decoder.specs.Bodies.{operations, types}
use Rattle.decoder.proofs.Numbers.{operation-back, type_back}
use Rattle.effect.specs.Memory.{Space, Global, Shared}
use Rattle.effect.specs.Access.{Access, Meet}
use Rattle.effect.specs.Effect.{Effect, nothing, load, store, copy, bulk_copy, bulk_reduction, MayShare, alike}
use Rattle.rules.specs.Search.{any_in}
use Rattle.rules.specs.Tests.{same_space, share_byte, meet, some_meet, reduction_with, same_reduction, may_share}
use Rattle.rules.proofs.Search.{SomeMember, any_tells}

-- ---- two accesses meet
space-tells : (x y : Space) → Tells (same_space x y) (x ≡ y)
space-tells Global Global = (λ e. refl, λ e. refl)
space-tells Global Shared = (λ e. absurd (false≢true e), λ e. ap (same_space Global) (sym e))
space-tells Shared Global = (λ e. absurd (false≢true e), λ e. ap (same_space Shared) (sym e))
space-tells Shared Shared = (λ e. refl, λ e. refl)

meet-tells : (x y : Access) → Tells (meet x y) (Meet x y)
meet-tells x y = Iff.trans
    (and-tells (share_byte x y) (x.writes || y.writes)
    (and-tells (same_space x.space y.space) (ltb low high) (space-tells x.space y.space)
    (ltb-true low high, lt-ltb low high))
    (or_tells x.writes y.writes (itself x.writes) (itself y.writes)))
    (there, back)
  where
    low : ℕ
    low = max x.start y.start

    high : ℕ
    high = min (x.start + x.size) (y.start + y.size)

    there : ((x.space ≡ y.space) × (low < high)) × ((x.writes ≡ true) ⊎ (y.writes ≡ true)) → Meet x y
    there ((e, h), w) = record {
      space = y.space;
      byte = low;
      in_first = record { there = e; from = omega arith; below = omega arith };
      in_second = record { there = refl; from = omega arith; below = omega arith };
      one_writes = w;
    }

    back : Meet x y → ((x.space ≡ y.space) × (low < high)) × ((x.writes ≡ true) ⊎ (y.writes ≡ true))
    back c = ((c.in_first.there ∙ sym c.in_second.there, omega arith), c.one_writes)

-- some access of the one list meets some access of the other
abbrev pub SomeMeet : List Access → List Access → Type 0
SomeMeet xs ys = SomeMember (λ x. SomeMember (Meet x) ys) xs

pub some-meet-tells : (xs ys : List Access) → Tells (some_meet xs ys) (SomeMeet xs ys)
some-meet-tells xs ys =
    any_tells (λ x. any_in (meet x) ys) (λ x. SomeMember (Meet x) ys) (λ x. any_tells (meet x) (Meet x) (meet-tells x) ys) xs

-- ---- two reductions may share
-- the numbers tell the operations and the types apart
same_operation : (o o' : Operation) → operation_number o ≡ operation_number o' → o ≡ o'
same_operation o o' e = sym (operation-back o) ∙ ap (λ n. get_or operations n And) e ∙ operation-back o'

same_type : (t t' : ElementType) → type_number t ≡ type_number t' → t ≡ t'
same_type t t' e = sym (type_back t) ∙ ap (λ n. get_or types n B32) e ∙ type_back t'

record Reduction (p : Operation → ElementType → Bool) (a : Effect) : Type 0 where
  dst : ℕ
  src : ℕ
  size : ℕ
  o : Operation
  t : ElementType
  is : a ≡ bulk_reduction dst src size o t
  passes : p o t ≡ true

reduction_with_lem : (p : Operation → ElementType → Bool) (a : Effect) → reduction_with p a ≡ true → Reduction p a
reduction_with_lem p nothing h = absurd (false≢true h)
reduction_with_lem p (load space at size) h = absurd (false≢true h)
reduction_with_lem p (store space at size value) h = absurd (false≢true h)
reduction_with_lem p (copy dst src count size) h = absurd (false≢true h)
reduction_with_lem p (bulk_copy dst src size) h = absurd (false≢true h)
reduction_with_lem p (bulk_reduction dst src size o t) h =
    record { dst = dst; src = src; size = size; o = o; t = t; is = refl; passes = h }

both : {a b : Effect} {o o' : Operation} {t t' : ElementType} {dst dst' src src' size size' : ℕ}
    → a ≡ bulk_reduction dst src size o t → b ≡ bulk_reduction dst' src' size' o' t' → o ≡ o' → t ≡ t' → MayShare a b
both p q r s = rw (p, q, r, s) alike

same-tells : (o : Operation) (t : ElementType) (o' : Operation) (t' : ElementType)
    → Tells (same_reduction o t o' t') ((o ≡ o') × (t ≡ t'))
same-tells o t o' t' =
    and-tells (eqb (operation_number o) (operation_number o')) (eqb (type_number t) (type_number t'))
    (λ h. same_operation o o' (eqb-true _ _ h), λ e. eq-eqb _ _ (ap operation_number e))
    (λ h. same_type t t' (eqb-true _ _ h), λ e. eq-eqb _ _ (ap type_number e))

pub may_share_tells : (a b : Effect) → Tells (may_share a b) (MayShare a b)
may_share_tells a b = (there, back)
  where
    there : may_share a b ≡ true → MayShare a b
    there h =
        let r = reduction_with_lem (λ o t. reduction_with (same_reduction o t) b) a h in
        let r' = reduction_with_lem (same_reduction r.o r.t) b r.passes in
        let (o, t) = (same-tells r.o r.t r'.o r'.t).0 r'.passes in
        both r.is r'.is o t

    back : {c d : Effect} → MayShare c d → may_share c d ≡ true
    back (alike {operation = o} {element = t}) = (same-tells o t o t).1 (refl, refl)

pub may_share_sym : {a b : Effect} → MayShare a b → MayShare b a
may_share_sym alike = alike
