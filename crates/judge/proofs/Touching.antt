-- Two records clash just if the events that they are of collide.
-- Assumes nothing.
use Prim.Native.Nat.{ℕ, ◌+◌, ◌*◌, ◌≤◌, min, max}
use native.Mathlib.Omega.{arith}
use mathlib.Core.Path.{◌≡◌, refl, sym}
use mathlib.Core.Logic.Iff
use mathlib.Core.Bool.{Bool, true, false, not, cond, ◌&&◌, ◌||◌, and-true, and-false, or-false, or_comm, not-and_self}
use mathlib.Core.List.{List, [], ◌∷◌}
use Rattle.std.specs.Prelude.{Option, None, Some}
use lib.Dec.{eqb}
use borrow.Author.Tests.{eqb-true, eqb-false, eq-eqb, ne_eqb, le-ltb}
use Rattle.event.specs.declared.Address.TheVariants as address
use Rattle.event.specs.declared.ElementType.{ElementType}
use Rattle.event.specs.declared.Event.{Event}
use Rattle.event.specs.declared.Event.TheVariants.{Load, Store, Copy, Commit, Wait, WaitAll, BulkCopy, BulkReduction, BulkCommit, BulkWait}
use Rattle.event.specs.declared.Operation.{Operation}
use Rattle.event.specs.Fields.{operation_number, type_number}
use Rattle.effect.specs.Memory.{Space, Global, Shared}
use Rattle.effect.specs.Access.{Access, reading, writing}
use Rattle.effect.specs.Effect.{Effect, bulk_reduction}
use Rattle.operations.specs.declared.Range.{Range}
use Rattle.operations.specs.declared.Record.{Record}
use Rattle.operations.specs.Tag.{written_in, reduction_in}
use Rattle.operations.specs.Clash.{share_byte, clash_of}
use Rattle.operations.proofs.Ranges.{share_tells, share_sym, same_test}
use Rattle.operations.proofs.Tags.{written_back, reduction-back}
use Rattle.parts.specs.declared.GroupsMade.{GroupsMade}
use Rattle.parts.specs.declared.Part.{Part}
use Rattle.parts.specs.declared.Part.TheVariants as part
use Rattle.parts.specs.Parts.{part_of}
use Rattle.event.proofs.Numbers.{few-operations}
use Rattle.rules.specs.Search.{any_in}
use Rattle.rules.specs.Events.{effect_of, accesses}
use Rattle.rules.specs.Tests.{same_space, meet, some_meet, reduction_with, same_reduction, may_share, collide}

-- The record of an event that reads or writes.
abbrev pub touch_in : Part → Option Record
touch_in (part.Access r) = Some r
touch_in (part.Operation r) = Some r
touch_in (part.Commit made) = None
touch_in (part.Wait made wait) = None

-- ---- which accesses meet
-- an access of no byte meets none
no_byte_meets : (x y : Access) → min x.size y.size ≡ 0 → meet x y ≡ false
no_byte_meets x y empty = rw (
  le-ltb (max x.start y.start) (min (x.start + x.size) (y.start + y.size)) (omega arith),
  and-false (same_space x.space y.space),
)

-- a list of two accesses, where one of no byte may be left out
data OfTwo : List Access → Access → Access → Type 0 where
  both : {x y : Access} → OfTwo (x ∷ y ∷ []) x y
  only_first : {x y : Access} → y.size ≡ 0 → OfTwo (x ∷ []) x y
  only_second : {x y : Access} → x.size ≡ 0 → OfTwo (y ∷ []) x y

-- a test that fails accesses of no byte finds in such a list what it finds in the two
module _ (p : Access → Bool) (fails : (x : Access) → x.size ≡ 0 → p x ≡ false) where
  any_of_two : {xs : List Access} {x y : Access} → OfTwo xs x y → any_in p xs ≡ (p x || p y)
  any_of_two (both {y}) = rw (or-false (p y))
  any_of_two (only_first {y} empty) = rw (fails y empty)
  any_of_two (only_second {x} {y} empty) = rw (fails x empty, or-false (p y))

-- a test that fails all accesses finds none
any_of_none : (p : Access → Bool) → ((x : Access) → p x ≡ false) → (xs : List Access) → any_in p xs ≡ false
any_of_none p fails [] = refl
any_of_none p fails (x ∷ xs) = rw (fails x, any_of_none p fails xs)

-- so two such lists meet where one of two accesses meets one of two
two_meet_two : {xs ys : List Access} {x x' y y' : Access} → OfTwo xs x x' → OfTwo ys y y'
    → some_meet xs ys ≡ (meet x y || meet x y' || (meet x' y || meet x' y'))
two_meet_two {ys} {x} {x'} first second = rw (
  any_of_two (λ x. any_in (meet x) ys) (λ x empty. any_of_none (meet x) (λ y. no_byte_meets x y (omega arith)) ys) first,
  any_of_two (meet x) (λ y empty. no_byte_meets x y (omega arith)) second,
  any_of_two (meet x') (λ y empty. no_byte_meets x' y (omega arith)) second,
)

-- ---- what a record writes in one memory and reads in the other
abbrev other : Space → Space
other Global = Shared
other Shared = Global

abbrev digit_of : Space → ℕ
digit_of Global = 1
digit_of Shared = 0

abbrev writing_in : Space → Range → Access
writing_in space range = writing space range.start range.length

abbrev reading_in : Space → Range → Access
reading_in space range = reading space range.start range.length

-- which of two ranges comes first makes no difference
share_either_way : (a b : Range) → share_byte a b ≡ share_byte b a
share_either_way a b = same_test (share_byte a b) b a (Iff.trans (share_tells a b) (share_sym, share_sym))

-- two that write the same memory meet in what both write, and others in what one writes and the other reads
module _ (writes reads writes' reads' : Range) where
  crosswise : (share_byte writes' reads || share_byte reads' writes)
      ≡ (share_byte writes reads' || share_byte reads writes')
  crosswise =
      rw (share_either_way writes' reads, share_either_way reads' writes)
      (or_comm (share_byte reads writes') (share_byte writes reads'))

  ranges-meet : (space space' : Space)
      → (meet (writing_in space' writes') (writing_in space writes)
      || meet (writing_in space' writes') (reading_in (other space) reads)
      || (meet (reading_in (other space') reads') (writing_in space writes)
      || meet (reading_in (other space') reads') (reading_in (other space) reads)))
      ≡ cond (eqb (digit_of space) (digit_of space')) (share_byte writes writes')
      (share_byte writes reads' || share_byte reads writes')
  unfolding share_byte
  ranges-meet Global Global = simp (and-true, and-false, or-false) (share_either_way writes' writes)
  ranges-meet Global Shared = simp (and-true, and-false, or-false) crosswise
  ranges-meet Shared Global = simp (and-true, and-false, or-false) crosswise
  ranges-meet Shared Shared = simp (and-true, and-false, or-false) (share_either_way writes' writes)

-- ---- which reductions may share: the number that is in the tag tells
abbrev reduction_number : Operation → ElementType → ℕ
reduction_number operation element = 1 + operation_number operation + 16 * type_number element

-- the number of an effect: 0 where it is no reduction
data Numbered : ℕ → Effect → Type 0 where
  no_reduction : {a : Effect} → ((p : Operation → ElementType → Bool) → reduction_with p a ≡ false) → Numbered 0 a
  reduction : {dst src size : ℕ} {operation : Operation} {element : ElementType}
      → Numbered (reduction_number operation element) (bulk_reduction dst src size operation element)

-- two such numbers are the same just if operation and type are
same_digits : (m n m' n' : ℕ) → m ≤ 5 → m' ≤ 5 → eqb (1 + m + 16 * n) (1 + m' + 16 * n') ≡ (eqb m' m && eqb n' n)
same_digits m n m' n' few few' = by_tests (eqb m' m) (eqb n' n) refl refl
  where
    by_tests : (s t : Bool) → eqb m' m ≡ s → eqb n' n ≡ t → eqb (1 + m + 16 * n) (1 + m' + 16 * n') ≡ (s && t)
    by_tests true true h k = eq-eqb (1 + m + 16 * n) (1 + m' + 16 * n') (omega (arith, eqb-true))
    by_tests true false h k = ne_eqb (1 + m + 16 * n) (1 + m' + 16 * n') (λ e. omega (arith, eqb-false))
    by_tests false t h k = ne_eqb (1 + m + 16 * n) (1 + m' + 16 * n') (λ e. omega (arith, eqb-false))

-- so the test of two numbers is that of the effects
numbers_share : {m n : ℕ} {a b : Effect} → Numbered m a → Numbered n b → (not (eqb m 0) && eqb m n) ≡ may_share b a
numbers_share {m} first (no_reduction never) = simp never (not-and_self (eqb m 0))
numbers_share (no_reduction never) (reduction {operation = o} {element = t}) = sym (never (same_reduction o t))
numbers_share (reduction {operation = o} {element = t}) (reduction {operation = o'} {element = t'}) =
    rw (ne_eqb (reduction_number o t) 0 (λ e. omega arith))
    (same_digits (operation_number o) (type_number t) (operation_number o') (type_number t')
    (few-operations o) (few-operations o'))

-- ---- records and events
-- a record tells of its event which memory it writes, which reduction it is, and the two accesses
data Describes (r : Record) (e : Event) : Type 0 where
  tells : (space : Space) → written_in r.tag ≡ digit_of space → Numbered (reduction_in r.tag) (effect_of e)
      → OfTwo (accesses e) (writing_in space r.writes) (reading_in (other space) r.reads) → Describes r e

-- so where two records describe two events, their test is that of the events
same-clash : {event operation : Record} {e o : Event} → Describes event e → Describes operation o
    → clash_of event operation ≡ collide o e
unfolding clash_of
same-clash {event} {operation} (tells space written number two) (tells space' written' number' two') = rw (
  numbers_share number number',
  written,
  written',
  two_meet_two two' two,
  ranges-meet event.writes event.reads operation.writes operation.reads space space',
)

-- an event has such a record, or no access
abbrev Described : Option Record → Event → Type 0
Described None e = accesses e ≡ []
Described (Some r) e = Describes r e

module _ (n : ℕ) (made : GroupsMade) where
  described : (e : Event) → Described (touch_in (part_of n made e)) e
  described (Load (address.Global at) size) = tells Shared refl (no_reduction (λ p. refl)) (only_second refl)
  described (Load (address.Shared at) size) = tells Global refl (no_reduction (λ p. refl)) (only_second refl)
  described (Store (address.Global at) size low high) = tells Global refl (no_reduction (λ p. refl)) (only_first refl)
  described (Store (address.Shared at) size low high) = tells Shared refl (no_reduction (λ p. refl)) (only_first refl)
  described (Copy dst src cp_size mode cache) = tells Shared refl (no_reduction (λ p. refl)) both
  described Commit = refl
  described (Wait newest) = refl
  described WaitAll = refl
  described (BulkCopy dst src size) = tells Global refl (no_reduction (λ p. refl)) both
  described (BulkReduction dst src size operation element) =
      let digit = 1 + operation_number operation in
      tells Global (written_back 1 1 digit (type_number element) (omega arith) (omega arith))
      (rw (reduction-back 1 1 digit (type_number element) (omega arith) (omega arith)) reduction) both
  described BulkCommit = refl
  described (BulkWait newest) = refl

-- ---- the laws
-- the record of an operation clashes with that of an event just if the two events collide
pub clash-collide : (i : ℕ) (made : GroupsMade) (o : Event) (operation : Record) → part_of i made o ≡ part.Operation operation
    → (n : ℕ) (made' : GroupsMade) (e : Event) (event : Record) → touch_in (part_of n made' e) ≡ Some event
    → clash_of event operation ≡ collide o e
clash-collide i made o operation p n made' e event q =
    same-clash (rw q at (described n made' e)) (rw p at (described i made o))

-- an event with no record collides with none
pub no_touch : (n : ℕ) (made : GroupsMade) (o e : Event) → touch_in (part_of n made e) ≡ None → collide o e ≡ false
no_touch n made o e h =
    let silent : accesses e ≡ [] = rw h at (described n made e) in
    rw (silent, any_of_none (λ x. false) (λ x. refl) (accesses o), and-false)
