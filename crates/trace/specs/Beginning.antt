-- What can be told of a file by its beginning and its length. Theorem `BeginningDecides` says that it is what the file says.
use Rattle.std.specs.Prelude.{ℕ, ◌+◌, ◌*◌, ◌≤◌, ◌≡◌, cond, List, [], ◌∷◌, leb, length, take, drop, Ok, Err}
use Rattle.answer.specs.Table.{event_limit}
use Rattle.decoder.specs.Item.{Item}
use Rattle.trace.specs.declared.Entry.{Entry}
use Rattle.trace.specs.declared.Header.{Header}
use Rattle.trace.specs.File.{Shape}
use Rattle.decoder.specs.Kinds.{decode_of, refusal_of, is_decoded, overlong}
use Rattle.trace.specs.File.{events_in, entry_at, kind_in, body_length_in, body_start, shape_of, first_items, Contents, refused, recorded}

-- So many first bytes are enough: the header, and for each event its entry and the longest body of any kind, for judging ends at
-- the first body that is longer.
abbrev pub enough : ℕ → ℕ
enough limit = 12 + 28 * limit

-- The entry of event i; past the beginning's end, kind 0, which no event has.
unfoldable pub entry_in : List ℕ → ℕ → Entry
entry_in f i =
    cond (leb (entry_at i + 4) (length f))
    (record { kind = kind_in f i; length = body_length_in f i })
    (record { kind = 0; length = 0 })

-- The item whose body starts at an index. A body that is not held to its end is taken for one that is longer than any kind's.
unfoldable pub held_item : List ℕ → ℕ → Entry → Item
held_item f start entry =
    cond (leb (start + entry.length) (length f))
    (decode_of entry.kind (take entry.length (drop start f)))
    (overlong entry.kind)

abbrev pub held_item_in : List ℕ → ℕ → Item
held_item_in f i = held_item f (body_start f i) (entry_in f i)

-- What the beginning f of a file of `total` bytes says of it.
abbrev pub held_contents : List ℕ → Shape → Contents
held_contents f (Err answer) = refused answer
held_contents f (Ok header) = recorded header (first_items (held_item_in f) header.events)

unfoldable pub held_of : ℕ → List ℕ → ℕ → Contents
held_of limit f total = held_contents f (shape_of limit f total)

-- The first of 5 to 7 that an item gets, with the items counted from i; the shape where all decode.
abbrev pub or_fault : ℕ → List Item → Shape → Shape
or_fault i [] shape = shape
or_fault i (item ∷ items) shape = cond (is_decoded item) (or_fault (i + 1) items shape) (Err (refusal_of i item))

-- The first of 2 to 7 that a file with these contents gets, or its header.
abbrev pub checked_file : Contents → Shape
checked_file (refused answer) = Err answer
checked_file (recorded header items) = or_fault 0 items (Ok header)

-- The same, as far as its beginning tells.
unfoldable pub check_of : ℕ → List ℕ → ℕ → Shape
check_of limit f total = checked_file (held_of limit f total)

-- ---- A file of the right shape, by its beginning f.

-- What it says: its header, and an item for each event.
pub record Listed : Type 0 where
  pub header : Header
  pub items : List Item

abbrev pub listed : List ℕ → Header → Listed
listed f header = record { header = header; items = first_items (held_item_in f) header.events }

-- Of its n events, within the limit, f holds the table.
pub record HoldsTable (f : List ℕ) (n : ℕ) : Type 0 where
  pub counted : n ≡ events_in f
  pub few : n ≤ event_limit
  pub held : entry_at n ≤ length f

-- A walk over its n items has come to event i, whose body starts there; after the last event i is n.
pub record IsAtBody (f : List ℕ) (n i start : ℕ) : Type 0 where
  pub table : HoldsTable f n
  pub starts : start ≡ body_start f i
  -- No entry's length is larger.
  pub near : start ≤ entry_at n + 4294967295 * i

-- The items that are left then.
unfoldable pub items_from : List ℕ → ℕ → ℕ → List Item
items_from f n i = drop i (first_items (held_item_in f) n)
