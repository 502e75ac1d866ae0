-- Places with some records first.
-- Assumes nothing.
use Prim.Native.Nat.{ℕ, zero, suc, ◌+◌, ◌*◌, ◌-◌, ◌≤◌, ◌<◌}
use native.Mathlib.Omega.{arith}
use mathlib.Core.Path.{◌≡◌, refl, sym, ap, ◌∙◌}
use mathlib.Core.List.{List, [], ◌∷◌, ◌++◌, append_assoc, append-nil}
use lib.ListN.{length, get_or, take, drop, length-append, length-drop, get_or-append}
use lib.Seq.{sets, sets-eq, take_at, drop_at, take-length, take-suc, drop-append-add, get_or-append-add, get_or-drop, drop-drop}
use Rattle.std.specs.List.{flat_map}
use Rattle.std.proofs.lemmas.List.Concat.{flat_map-append}
use Rattle.operations.specs.declared.Record.{Record}
use Rattle.operations.specs.Table.{range_words, mark_words, record_at, records, placed}

-- ---- of either place
module _ (words : Record → List ℕ) (four : (r : Record) → length (words r) ≡ 4) where
  pub length-all : (rs : List Record) → length (flat_map words rs) ≡ 4 * length rs
  length-all [] = refl
  length-all (r ∷ rs) = length-append (words r) (flat_map words rs) ∙ omega (arith, four r, length-all rs)

  pub length-placed : (rs : List Record) (place : List ℕ) → 4 * length rs ≤ length place
      → length (placed words rs place) ≡ length place
  unfolding placed
  length-placed rs place h =
      length-append (flat_map words rs) (drop (4 * length rs) place)
      ∙ omega (arith, length-all rs, length-drop (4 * length rs) place)

  -- the words past the records are those of the place
  pub past : (rs : List Record) (place : List ℕ) (m : ℕ) → 4 * length rs ≤ m
      → get_or (placed words rs place) m 0 ≡ get_or place m 0
  unfolding placed
  past rs place m h =
      let here : length (flat_map words rs) + (m - 4 * length rs) ≡ m = omega (arith, length-all rs) in
      let there : 4 * length rs + (m - 4 * length rs) ≡ m = omega arith in
      ap (λ k. get_or (placed words rs place) k 0) (sym here)
      ∙ get_or-append-add (flat_map words rs) (drop (4 * length rs) place) (m - 4 * length rs) 0
      ∙ get_or-drop (4 * length rs) place (m - 4 * length rs) 0
      ∙ ap (λ k. get_or place k 0) there

  -- one record more
  pub put_next : (rs : List Record) (r : Record) (place : List ℕ) → 4 * length rs + 4 ≤ length place
      → sets (placed words rs place) (4 * length rs) (words r) ≡ placed words (rs ++ r ∷ []) place
  unfolding placed
  put_next rs r place h =
      let n : ℕ = 4 * length rs in
      let all = flat_map words rs in
      let room : n + length (words r) ≤ length (all ++ drop n place) =
      omega (arith, four r, length-placed rs place (omega arith)) in
      let more : 4 * length (rs ++ r ∷ []) ≡ n + 4 = omega (arith, length-append rs (r ∷ [])) in
      let size : n + length (words r) ≡ length all + 4 = omega (arith, four r, length-all rs) in
      let rest : drop (n + length (words r)) (all ++ drop n place) ≡ drop (n + 4) place =
      ap (λ k. drop k (all ++ drop n place)) size ∙ drop-append-add all (drop n place) 4 ∙ drop-drop 4 n place in
      sets-eq (words r) (all ++ drop n place) n room
      ∙ rw (take_at all (drop n place) n (length-all rs), rest, more, flat_map-append words rs (r ∷ []), append-nil (words r), append_assoc all (words r) (drop (n + 4) place))

  -- they stand once
  pub again : (rs : List Record) (place : List ℕ) → placed words rs (placed words rs place) ≡ placed words rs place
  unfolding placed
  again rs place =
      ap (λ l. flat_map words rs ++ l) (drop_at (flat_map words rs) (drop (4 * length rs) place) (4 * length rs) (length-all rs))

  -- the words of a record
  word_in : (rs : List Record) (place : List ℕ) (k j : ℕ) (d : Record) → k < length rs → j < 4
      → get_or (flat_map words rs ++ place) (4 * k + j) 0 ≡ get_or (words (get_or rs k d)) j 0
  word_in [] place k j d h l = absurd (omega arith)
  word_in (r ∷ rs) place zero j d h l =
      let at : 4 * 0 + j ≡ j = omega arith in
      rw (at, append_assoc (words r) (flat_map words rs) place)
      (get_or-append (words r) (flat_map words rs ++ place) 0 j (omega (arith, four r)))
  word_in (r ∷ rs) place (suc k) j d h l =
      let at : 4 * suc k + j ≡ length (words r) + (4 * k + j) = omega (arith, four r) in
      rw (at, append_assoc (words r) (flat_map words rs) place)
      (get_or-append-add (words r) (flat_map words rs ++ place) (4 * k + j) 0 ∙ word_in rs place k j d (omega arith) l)

-- ---- of both
unfoldable pub four-ranges : (r : Record) → length (range_words r) ≡ 4
four-ranges r = refl

unfoldable pub four-marks : (r : Record) → length (mark_words r) ≡ 4
four-marks r = refl

module _ (rs : List Record) (ranges marks : List ℕ) where
  record_in_lem : (k : ℕ) (d : Record) → k < length rs
      → record_at (placed range_words rs ranges) (placed mark_words rs marks) k ≡ get_or rs k d
  unfolding placed
  record_in_lem k d h =
      rw (
        range (4 * k) 0 (omega arith) (omega arith),
        range (4 * k + 1) 1 (omega arith) (omega arith),
        range (4 * k + 2) 2 (omega arith) (omega arith),
        range (4 * k + 3) 3 (omega arith) (omega arith),
        mark (4 * k) 0 (omega arith) (omega arith),
        mark (4 * k + 1) 1 (omega arith) (omega arith),
        mark (4 * k + 2) 2 (omega arith) (omega arith),
      )
    where
      range : (m j : ℕ) → m ≡ 4 * k + j → j < 4
          → get_or (placed range_words rs ranges) m 0 ≡ get_or (range_words (get_or rs k d)) j 0
      range m j e l =
          ap (λ n. get_or (placed range_words rs ranges) n 0) e
          ∙ word_in range_words four-ranges rs (drop (4 * length rs) ranges) k j d h l

      mark : (m j : ℕ) → m ≡ 4 * k + j → j < 4
          → get_or (placed mark_words rs marks) m 0 ≡ get_or (mark_words (get_or rs k d)) j 0
      mark m j e l =
          ap (λ n. get_or (placed mark_words rs marks) n 0) e
          ∙ word_in mark_words four-marks rs (drop (4 * length rs) marks) k j d h l

  first-records : (k : ℕ) (d : Record) → k ≤ length rs
      → records k (placed range_words rs ranges) (placed mark_words rs marks) ≡ take k rs
  unfolding records
  first-records zero d h = refl
  first-records (suc k) d h = rw (first-records k d (omega arith), record_in_lem k d (omega arith)) (sym (take-suc rs k d (omega arith)))

-- So many records are read.
pub length-records : (n : ℕ) (ranges marks : List ℕ) → length (records n ranges marks) ≡ n
unfolding records
length-records zero ranges marks = refl
length-records (suc n) ranges marks =
    length-append (records n ranges marks) (record_at ranges marks n ∷ []) ∙ omega (arith, length-records n ranges marks)

-- The records of such places are these.
pub records-placed : (rs : List Record) (ranges marks : List ℕ)
    → records (length rs) (placed range_words rs ranges) (placed mark_words rs marks) ≡ rs
unfolding records
records-placed [] ranges marks = refl
records-placed (r ∷ rs) ranges marks = first-records (r ∷ rs) ranges marks (length (r ∷ rs)) r (omega arith) ∙ take-length (r ∷ rs)

-- A record past them is that of the places.
pub record_past : (rs : List Record) (ranges marks : List ℕ) (k : ℕ) → length rs ≤ k
    → record_at (placed range_words rs ranges) (placed mark_words rs marks) k ≡ record_at ranges marks k
record_past rs ranges marks k h =
    rw (
      past range_words four-ranges rs ranges (4 * k) (omega arith),
      past range_words four-ranges rs ranges (4 * k + 1) (omega arith),
      past range_words four-ranges rs ranges (4 * k + 2) (omega arith),
      past range_words four-ranges rs ranges (4 * k + 3) (omega arith),
      past mark_words four-marks rs marks (4 * k) (omega arith),
      past mark_words four-marks rs marks (4 * k + 1) (omega arith),
      past mark_words four-marks rs marks (4 * k + 2) (omega arith),
    )
