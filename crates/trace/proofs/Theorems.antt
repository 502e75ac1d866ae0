-- The theorems of specs/Theorems.antt.
-- Assumes nothing.
use mathlib.Core.Path.{refl}
use Rattle.little_endian.specs.Number.{number_at}
use Rattle.event.specs.Fields.{allowed}
use Rattle.decoder.specs.Bodies.{checked, mode_of}
use Rattle.decoder.specs.Kinds.{of_length, decode_of}
use Rattle.trace.specs.File.{entries_zero, body_lengths, is_shape, shape_of, first_items, file_of}
use Rattle.trace.proofs.Held.{held_whole_lem, shape_decided, check_decided}
use Rattle.trace.specs.Theorems.{HeldWhole, BeginningDecides, DocumentFile}

pub held_whole : HeldWhole
unfolding HeldWhole
held_whole = held_whole_lem

pub beginning_decides : BeginningDecides
unfolding BeginningDecides
beginning_decides limit file k long = (shape_decided limit k file long, check_decided limit k file long)

pub document_file : DocumentFile
unfolding DocumentFile file_of shape_of is_shape body_lengths entries_zero first_items number_at decode_of of_length checked mode_of allowed
document_file = refl
