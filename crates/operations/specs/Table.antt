-- The table of records in the words of two places.
use Rattle.std.specs.Prelude.{ℕ, zero, suc, ◌+◌, ◌*◌, List, [], ◌∷◌, ◌++◌, length, get_or, drop}
use Rattle.std.specs.List.{flat_map}
use Rattle.operations.specs.declared.Record.{Record}

-- The four words that a record has in each place.
abbrev pub range_words : Record → List ℕ
range_words r = r.writes.start ∷ r.writes.length ∷ r.reads.start ∷ r.reads.length ∷ []

abbrev pub mark_words : Record → List ℕ
mark_words r = r.event ∷ r.commits ∷ r.tag ∷ 0 ∷ []

-- The record at index k, and the first n records, in order.
abbrev pub record_at : List ℕ → List ℕ → ℕ → Record
record_at ranges marks k = record {
  writes = record { start = get_or ranges (4 * k) 0; length = get_or ranges (4 * k + 1) 0 };
  reads = record { start = get_or ranges (4 * k + 2) 0; length = get_or ranges (4 * k + 3) 0 };
  event = get_or marks (4 * k) 0;
  commits = get_or marks (4 * k + 1) 0;
  tag = get_or marks (4 * k + 2) 0;
}

unfoldable pub records : ℕ → List ℕ → List ℕ → List Record
records zero ranges marks = []
records (suc n) ranges marks = records n ranges marks ++ record_at ranges marks n ∷ []

-- A place with these records first, and the words past them as they were.
unfoldable pub placed : (Record → List ℕ) → List Record → List ℕ → List ℕ
placed words rs place = flat_map words rs ++ drop (4 * length rs) place
