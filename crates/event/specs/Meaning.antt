-- The numbers that stand for operations, types and caches.
use Rattle.std.specs.Prelude.{ℕ, List, [], ◌∷◌, Result, ok_or, slice_get}
use Rattle.event.specs.declared.Cache.{Cache}
use Rattle.event.specs.declared.Cache.TheVariants.{Ca, Cg}
use Rattle.event.specs.declared.ElementType.{ElementType}
use Rattle.event.specs.declared.ElementType.TheVariants.{B32, U32, S32}
use Rattle.event.specs.declared.Operation.{Operation}
use Rattle.event.specs.declared.Operation.TheVariants.{And, Or, Xor, Add, Min, Max}
use Rattle.event.specs.declared.meaning.NoMeaning.{NoMeaning}

-- Operations 0 and, 1 or, 2 xor, 3 add, 4 min, 5 max.
abbrev pub operations : List Operation
operations = And ∷ Or ∷ Xor ∷ Add ∷ Min ∷ Max ∷ []

-- Types 0 b32, 1 u32, 2 s32.
abbrev pub types : List ElementType
types = B32 ∷ U32 ∷ S32 ∷ []

-- Caches 0 (.ca), 1 (.cg).
abbrev pub caches : List Cache
caches = Ca ∷ Cg ∷ []

-- What a number stands for: the one of the list that it counts to, from 0 on. Past the list it has no meaning.
abbrev pub meant_by : {A : Type 0} → List A → ℕ → Result A NoMeaning
meant_by list number = ok_or (slice_get list number) (record {})
