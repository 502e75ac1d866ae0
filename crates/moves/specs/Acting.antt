-- An event acts, on the two memories and the load record.
use Rattle.std.specs.Prelude.{ℕ, ◌+◌, ◌≡◌, List, [], length, get_or}
use Rattle.std.specs.Borrow.{MutBor}
use Rattle.event.specs.declared.Event.{Event}
use Rattle.effect.specs.Memory.{State, initial, write}
use Rattle.effect.specs.Effect.{does}
use Rattle.rules.specs.Events.{effect_of}
use Rattle.rules.specs.declared.Lengths.{Lengths}
use Rattle.moves.specs.declared.Lent.{Lent}

-- The two memories, and the load record with the bytes before `filled` in use.
pub record Memories : Type 0 where
  pub global : List ℕ
  pub shared : List ℕ
  pub loads : List ℕ
  pub filled : ℕ

abbrev pub memories : List ℕ → List ℕ → List ℕ → ℕ → Memories
memories global shared loads filled = record { global = global; shared = shared; loads = loads; filled = filled }

-- The memories after the event alone, as a list of one event.
abbrev pub moved : Event → List ℕ → List ℕ → State
moved e global shared = does 0 (effect_of e) (initial global shared 1)

abbrev pub alone : Event → Memories → State
alone e m = moved e m.global m.shared

-- What it has read, if it is a load.
abbrev pub read_by : Event → Memories → List ℕ
read_by e m = get_or (alone e m).loaded 0 []

-- The memories as it leaves them, and what it has read appended to the record.
unfoldable pub acted : Event → Memories → Memories
acted e m = record {
  global = (alone e m).global;
  shared = (alone e m).shared;
  loads = write m.loads m.filled (read_by e m);
  filled = m.filled + length (read_by e m);
}

-- A reference is still the one that was lent, to as many bytes.
abbrev pub IsSame : MutBor (List ℕ) → MutBor (List ℕ) → Type 0
IsSame before after = (after.ghost_name ≡ before.ghost_name) × (length after.now ≡ length before.now)

-- So is each reference of the program's own struct.
abbrev pub IsSameLoan : Lent → Lent → Type 0
IsSameLoan before after =
    IsSame before.global after.global
    × IsSame before.shared after.shared
    × IsSame before.loads after.loads

-- What the struct holds.
abbrev pub held : Lent → Memories
held l = memories l.global.now l.shared.now l.loads.now l.filled

abbrev pub lengths : Lent → Lengths
lengths l = record { global = length l.global.now; shared = length l.shared.now }
