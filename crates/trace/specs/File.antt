-- The trace file: header, table and bodies.
use Rattle.std.specs.Prelude.{ℕ, zero, suc, ◌+◌, ◌*◌, Bool, true, ◌&&◌, cond, List, [], ◌∷◌, ◌++◌, leb, eqb, length, get_or, take, drop, Result, Ok, Err}
use Rattle.little_endian.specs.Number.{is_zero, number_at}
use Rattle.answer.specs.declared.Answer.{Answer}
use Rattle.answer.specs.declared.Answer.TheVariants.{WrongShape, TooManyEvents, WrongMemoryLength}
use Rattle.decoder.specs.Item.{Item}
use Rattle.trace.specs.declared.Header.{Header}
use Rattle.decoder.specs.Kinds.{decode_of}

-- Bytes 0-1: number of events n. Bytes 2-3: zero. Bytes 4-7: global length. Bytes 8-11: shared length.
abbrev pub events_in : List ℕ → ℕ
events_in f = number_at 2 f 0

abbrev pub reserved_zero : List ℕ → Bool
reserved_zero f = is_zero (number_at 2 f 2)

abbrev pub header_in : List ℕ → Header
header_in f = record { events = events_in f; global = number_at 4 f 4; shared = number_at 4 f 8 }

-- n entries of 4 bytes: kind, a zero byte, body length (2 bytes).
abbrev pub entry_at : ℕ → ℕ
entry_at i = 12 + 4 * i

abbrev pub kind_in : List ℕ → ℕ → ℕ
kind_in f i = get_or f (entry_at i) 0

abbrev pub entry_zero : List ℕ → ℕ → Bool
entry_zero f i = is_zero (get_or f (entry_at i + 1) 0)

abbrev pub body_length_in : List ℕ → ℕ → ℕ
body_length_in f i = number_at 2 f (entry_at i + 2)

-- Of the first i entries: the zero bytes are zero; the body lengths together.
unfoldable pub entries_zero : List ℕ → ℕ → Bool
entries_zero f zero = true
entries_zero f (suc i) = entries_zero f i && entry_zero f i

unfoldable pub body_lengths : List ℕ → ℕ → ℕ
body_lengths f zero = 0
body_lengths f (suc i) = body_lengths f i + body_length_in f i

-- The bodies in event order, no gaps.
abbrev pub body_start : List ℕ → ℕ → ℕ
body_start f i = entry_at (events_in f) + body_lengths f i

abbrev pub body_in : List ℕ → ℕ → List ℕ
body_in f i = take (body_length_in f i) (drop (body_start f i) f)

-- The shape is told by the file's beginning f, which holds the whole table, and the file's length.
-- That is exactly 12 + 4n + all body lengths, and the reserved bytes of header and entries are zero.
unfoldable pub is_shape : List ℕ → ℕ → Bool
is_shape f total =
    leb (entry_at (events_in f)) (length f)
    && (eqb total (body_start f (events_in f)) && reserved_zero f && entries_zero f (events_in f))

-- Each memory from 0 to 65,536 bytes.
abbrev pub is_memory_length : ℕ → Bool
is_memory_length n = leb n 65536

-- The header of a file of the right shape, or its refusal.
abbrev pub Shape : Type 0
Shape = Result Header Answer

-- A check, the answer where it fails, and the checks that follow.
abbrev pub first : Bool → Answer → Shape → Shape
first passed answer later = cond passed later (Err answer)

-- Under 12 bytes, or more first bytes than the file has bytes (2), then n over the limit (3), then other shape faults (2), then a
-- memory length (4).
unfoldable pub shape_of : ℕ → List ℕ → ℕ → Shape
shape_of limit f total =
    first (leb 12 (length f) && leb (length f) total) WrongShape
    (first (leb (events_in f) limit) TooManyEvents
    (first (is_shape f total) WrongShape
    (first (is_memory_length (header_in f).global && is_memory_length (header_in f).shared) WrongMemoryLength
    (Ok (header_in f)))))

-- The items of the first i events, in event order.
unfoldable pub first_items : (ℕ → Item) → ℕ → List Item
first_items item zero = []
first_items item (suc i) = first_items item i ++ item i ∷ []

abbrev pub item_in : List ℕ → ℕ → Item
item_in f i = decode_of (kind_in f i) (body_in f i)

-- What a file says: the refusal of its shape (2, 3, 4), or its header and an item for each event.
pub data Contents : Type 0 where
  refused : Answer → Contents
  recorded : Header → List Item → Contents

abbrev pub contents_of : List ℕ → Shape → Contents
contents_of f (Err answer) = refused answer
contents_of f (Ok header) = recorded header (first_items (item_in f) header.events)

unfoldable pub file_of : ℕ → List ℕ → Contents
file_of limit f = contents_of f (shape_of limit f (length f))
