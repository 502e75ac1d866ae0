-- The theorems of specs/Theorems.antt, and the tables of specs/Examples.antt.
-- Assumes nothing.
use mathlib.Core.Path.{refl}
use Rattle.little_endian.specs.Number.{number_at, bytes_of}
use Rattle.effect.specs.Theorems.{Commutes, ComparesAsTwosComplement}
use Rattle.effect.specs.Examples.{combinations, DocumentElements, effects, EffectsDone}
use Rattle.effect.proofs.Commute.{commute}
use Rattle.effect.proofs.TwosComplement.{rank_orders}

pub commutes : Commutes
unfolding Commutes
commutes = commute

pub compares_as_twos_complement : ComparesAsTwosComplement
unfolding ComparesAsTwosComplement
compares_as_twos_complement = rank_orders

pub document_elements : DocumentElements
unfolding DocumentElements combinations number_at bytes_of
document_elements = refl

pub effects_done : EffectsDone
unfolding EffectsDone effects number_at bytes_of
effects_done = refl
