-- The table of specs/Traces.antt, computed from the definitions.
-- Assumes nothing.
use mathlib.Core.Path.{refl}
use Rattle.little_endian.specs.Number.{number_at, bytes_of}
use Rattle.event.specs.Fields.{is_value, allowed}
use Rattle.decoder.specs.Bodies.{checked, mode_of}
use Rattle.decoder.specs.Kinds.{of_length, decode_of}
use Rattle.trace.specs.File.{entries_zero, body_lengths, is_shape, shape_of, first_items, file_of}
use Rattle.rules.specs.Faults.{aligned, in_range}
use Rattle.rules.specs.Closing.{groups, closed_by, is_open}
use Rattle.rules.specs.Peak.{peak}
use Rattle.rules.specs.Tests.{clashes}
use Rattle.rules.specs.Answers.{judged, answer_of, answer_of_file}
use Rattle.rules.specs.Traces.{traces, K1ToK10}

pub k1_to_k10 : K1ToK10
unfolding K1ToK10 traces number_at bytes_of is_value allowed checked mode_of of_length decode_of entries_zero body_lengths is_shape shape_of first_items file_of aligned in_range groups closed_by is_open peak clashes judged answer_of answer_of_file
k1_to_k10 = refl
