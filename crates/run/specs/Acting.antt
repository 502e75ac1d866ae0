-- The events of a list act, in order.
use Rattle.std.specs.Prelude.{◌≡◌, true, List, [], ◌∷◌, Ok, Err}
use Rattle.rules.specs.declared.Lengths.{Lengths}
use Rattle.rules.specs.Faults.{faultless}
use Rattle.decoder.specs.Item.{Item}
use Rattle.moves.specs.Acting.{Memories, acted}
use Rattle.run.specs.Running.{Lent, lent}

-- The item gets none of 7 to 9, if it decodes.
abbrev pub FaultlessItem : Lengths → Item → Type 0
FaultlessItem lengths (Ok e) = faultless lengths e ≡ true
FaultlessItem lengths (Err undecoded) = Unit {0}

abbrev pub acted_item : Item → Memories → Memories
acted_item (Ok e) m = acted e m
acted_item (Err undecoded) m = m

abbrev pub acted_all : List Item → Memories → Memories
acted_all [] m = m
acted_all (item ∷ items) m = acted_all items (acted_item item m)

abbrev pub left : Memories → Lent
left m = lent m.global m.shared m.loads
