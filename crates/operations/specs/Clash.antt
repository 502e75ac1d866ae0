-- Which record of the table an event clashes with.
use Rattle.std.specs.Prelude.{ℕ, ◌+◌, ◌≤◌, ◌<◌, min, max, Bool, not, cond, ◌&&◌, ◌||◌, List, Option, option_map, eqb, ltb}
use Rattle.std.specs.List.{find}
use Rattle.operations.specs.declared.Range.{Range}
use Rattle.operations.specs.declared.Record.{Record}
use Rattle.operations.specs.Tag.{written_in, tags_may_share}

-- A byte is in a range.
pub record Has (a : Range) (byte : ℕ) : Type 0 where
  pub from : a.start ≤ byte
  pub below : byte < a.start + a.length

-- Some byte is in both.
pub record ShareByte (a b : Range) : Type 0 where
  pub byte : ℕ
  pub in_first : Has a byte
  pub in_second : Has b byte

-- The test for one: the later start is before the earlier end.
unfoldable pub share_byte : Range → Range → Bool
share_byte a b = ltb (max a.start b.start) (min (a.start + a.length) (b.start + b.length))

-- Two records that write the same memory read the other one, so they can meet only in what both write; others, only in what
-- one writes and the other reads.
unfoldable pub clash_of : Record → Record → Bool
clash_of event operation =
    not (tags_may_share event.tag operation.tag)
    && cond (eqb (written_in event.tag) (written_in operation.tag))
    (share_byte event.writes operation.writes)
    (share_byte event.writes operation.reads || share_byte event.reads operation.writes)

-- The event of the first record that clashes.
abbrev pub first_clash : Record → List Record → Option ℕ
first_clash event operations = option_map (λ (operation : Record). operation.event) (find (clash_of event) operations)
