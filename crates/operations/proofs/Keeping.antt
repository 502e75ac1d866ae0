-- The records that a wait keeps, one after the other.
-- Assumes nothing.
use Prim.Native.Nat.{ℕ, suc, ◌+◌, ◌*◌, ◌≤◌}
use native.Mathlib.Omega.{arith}
use native.Mathlib.Numerals.{add-one}
use mathlib.Core.Path.{◌≡◌, refl, sym, ap, ◌∙◌}
use mathlib.Core.Bool.{Bool, true, false, cond}
use mathlib.Core.List.{List, [], ◌∷◌, ◌++◌, append-nil}
use lib.ListN.{length, length-append}
use lib.Dec.{leb}
use lib.Seq.{sets, length-sets}
use borrow.Author.Tests.{eq-eqb, ne_eqb}
use Rattle.std.proofs.lemmas.List.Elements.{filter-append}
use Rattle.operations.specs.declared.Record.{Record}
use Rattle.operations.specs.declared.Wait.{Wait}
use Rattle.operations.specs.Tag.{chain_in}
use Rattle.operations.specs.Table.{range_words, mark_words, record_at, records, placed}
use Rattle.operations.specs.Waiting.{stays_open, kept}
use Rattle.operations.proofs.Records.{put_next, record_past, four-ranges, four-marks}

-- ---- whether one stays
module _ (wait : Wait) (operation : Record) where
  pub stays-other : (chain_in operation.tag ≡ wait.chain → ⊥) → stays_open wait operation ≡ true
  unfolding stays_open
  stays-other n = rw (ne_eqb (chain_in operation.tag) wait.chain n)

  pub stays_by_count : chain_in operation.tag ≡ wait.chain
      → stays_open wait operation ≡ leb wait.commits (operation.commits + wait.newest)
  unfolding stays_open
  stays_by_count e = rw (eq-eqb (chain_in operation.tag) wait.chain e)

-- ---- which stay
abbrev pub only_if : Bool → Record → List Record
only_if t r = cond t (r ∷ []) []

module _ (wait : Wait) (ranges₀ marks₀ : List ℕ) where
  -- what is kept of the first k records
  abbrev pub kept_of : ℕ → List Record
  kept_of k = kept wait (records k ranges₀ marks₀)

  abbrev here : ℕ → Record
  here k = record_at ranges₀ marks₀ k

  next : (k : ℕ) → kept_of (suc k) ≡ kept_of k ++ only_if (stays_open wait (here k)) (here k)
  unfolding records
  next k = filter-append (stays_open wait) (records k ranges₀ marks₀) (here k ∷ [])

  -- the places when the first k records have been looked at
  pub record Closed (k stay : ℕ) (ranges marks : List ℕ) : Type 0 where
    pub fewer : stay ≤ k
    pub stays : stay ≡ length (kept_of k)
    pub ranges_long : length ranges ≡ length ranges₀
    pub marks_long : length marks ≡ length marks₀
    pub in_ranges_lem : ranges ≡ placed range_words (kept_of k) ranges₀
    pub in_marks : marks ≡ placed mark_words (kept_of k) marks₀

  pub closed-start : Closed 0 0 ranges₀ marks₀
  unfolding records placed
  closed-start = record {
    fewer = omega arith;
    stays = refl;
    ranges_long = refl;
    marks_long = refl;
    in_ranges_lem = refl;
    in_marks = refl;
  }

  -- one record more
  module _ {k stay : ℕ} {ranges marks : List ℕ} (c : Closed k stay ranges marks)
      (long-ranges : 4 * k + 4 ≤ length ranges₀) (long-marks : 4 * k + 4 ≤ length marks₀) where
    same : record_at ranges marks k ≡ here k
    same = rw (c.in_ranges_lem, c.in_marks) (record_past (kept_of k) ranges₀ marks₀ k (omega (arith, c.stays)))

    grown : (t : Bool) → stays_open wait (record_at ranges marks k) ≡ t → kept_of (k + 1) ≡ kept_of k ++ only_if t (here k)
    grown t e = ap kept_of (add-one k) ∙ next k ∙ ap (λ s. kept_of k ++ only_if s (here k)) (ap (stays_open wait) (sym same) ∙ e)

    -- it is put behind those that stay ..
    module _ (stays : stays_open wait (record_at ranges marks k) ≡ true) where
      more : stay + 1 ≡ length (kept_of (k + 1))
      more = omega (arith, c.stays, length-append (kept_of k) (here k ∷ [])) ∙ ap length (sym (grown true stays))

      moved : (words : Record → List ℕ) → ((r : Record) → length (words r) ≡ 4) → (place₀ place : List ℕ)
          → 4 * k + 4 ≤ length place₀ → place ≡ placed words (kept_of k) place₀
          → sets place (4 * stay) (words (record_at ranges marks k)) ≡ placed words (kept_of (k + 1)) place₀
      moved words four place₀ place long was =
          (λ i. sets (was i) (4 * c.stays i) (words (same i)))
          ∙ put_next words four (kept_of k) (here k) place₀ (omega (arith, c.stays))
          ∙ ap (λ rs. placed words rs place₀) (sym (grown true stays))

      pub closed-kept : Closed (k + 1) (stay + 1)
          (sets ranges (4 * stay) (range_words (record_at ranges marks k)))
          (sets marks (4 * stay) (mark_words (record_at ranges marks k)))
      closed-kept =
          let in-ranges = moved range_words four-ranges ranges₀ ranges long-ranges c.in_ranges_lem in
          let in-marks = moved mark_words four-marks marks₀ marks long-marks c.in_marks in
          record {
            fewer = omega arith;
            stays = more;
            ranges_long = length-sets ranges (4 * stay) (range_words (record_at ranges marks k)) ∙ c.ranges_long;
            marks_long = length-sets marks (4 * stay) (mark_words (record_at ranges marks k)) ∙ c.marks_long;
            in_ranges_lem = in-ranges;
            in_marks = in-marks;
          }

    -- .. or left out
    pub closed-left : stays_open wait (record_at ranges marks k) ≡ false → Closed (k + 1) stay ranges marks
    closed-left e =
        let same-kept : kept_of (k + 1) ≡ kept_of k = grown false e ∙ append-nil (kept_of k) in
        record {
          fewer = omega arith;
          stays = c.stays ∙ ap length (sym same-kept);
          ranges_long = c.ranges_long;
          marks_long = c.marks_long;
          in_ranges_lem = c.in_ranges_lem ∙ ap (λ rs. placed range_words rs ranges₀) (sym same-kept);
          in_marks = c.in_marks ∙ ap (λ rs. placed mark_words rs marks₀) (sym same-kept);
        }
