-- The tests by which a clash is computed. Nobody has to believe them: by theorem `RightAnswer` what they answer is right.
use Rattle.std.specs.Prelude.{ℕ, suc, ◌+◌, min, max, Bool, true, false, not, ◌&&◌, ◌||◌, List, eqb, ltb}
use Rattle.event.specs.declared.ElementType.{ElementType}
use Rattle.event.specs.declared.Event.{Event}
use Rattle.event.specs.declared.Operation.{Operation}
use Rattle.event.specs.Fields.{operation_number, type_number}
use Rattle.effect.specs.Memory.{Space, Global, Shared}
use Rattle.effect.specs.Access.{Access}
use Rattle.effect.specs.Effect.{Effect, nothing, load, store, copy, bulk_copy, bulk_reduction}
use Rattle.rules.specs.Search.{any_in}
use Rattle.rules.specs.Events.{effect_of, accesses, event_at}
use Rattle.rules.specs.Closing.{is_open}

abbrev pub same_space : Space → Space → Bool
same_space Global Global = true
same_space Global Shared = false
same_space Shared Global = false
same_space Shared Shared = true

-- They share a byte: the later start is before the earlier end.
abbrev pub share_byte : Access → Access → Bool
share_byte x y =
    same_space x.space y.space && ltb (max x.start y.start) (min (x.start + x.size) (y.start + y.size))

abbrev pub meet : Access → Access → Bool
meet x y = share_byte x y && (x.writes || y.writes)

abbrev pub some_meet : List Access → List Access → Bool
some_meet xs ys = any_in (λ x. any_in (meet x) ys) xs

-- The effect is a reduction, and its operation and type pass the test.
abbrev pub reduction_with : (Operation → ElementType → Bool) → Effect → Bool
reduction_with p nothing = false
reduction_with p (load space at size) = false
reduction_with p (store space at size value) = false
reduction_with p (copy dst src count size) = false
reduction_with p (bulk_copy dst src size) = false
reduction_with p (bulk_reduction dst src size operation element) = p operation element

abbrev pub same_reduction : Operation → ElementType → Operation → ElementType → Bool
same_reduction o t o' t' = eqb (operation_number o) (operation_number o') && eqb (type_number t) (type_number t')

abbrev pub may_share : Effect → Effect → Bool
may_share a b = reduction_with (λ o t. reduction_with (same_reduction o t) b) a

-- Accesses of the two meet, and they may not share.
abbrev pub collide : Event → Event → Bool
collide e e' = not (may_share (effect_of e) (effect_of e')) && some_meet (accesses e) (accesses e')

-- Event j clashes with the earlier event i.
unfoldable pub clashes : List Event → ℕ → ℕ → Bool
clashes es i j = is_open es (suc j) i && collide (event_at es i) (event_at es j)
