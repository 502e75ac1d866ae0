-- What an event without fault leaves, where the places hold these records.
-- Assumes nothing.
use Prim.Native.Nat.{ℕ, ◌+◌, ◌*◌, ◌≤◌}
use native.Mathlib.Omega.{arith}
use mathlib.Core.Path.{◌≡◌, sym, ap, ◌∙◌}
use mathlib.Core.List.{List, [], ◌∷◌, ◌++◌}
use lib.ListN.{length, length-append}
use lib.Seq.{sets}
use Rattle.std.specs.Prelude.{Option, None, Some}
use Rattle.answer.specs.declared.Answer.TheVariants.{Clash}
use Rattle.operations.specs.declared.Record.{Record}
use Rattle.operations.specs.Table.{range_words, mark_words, records, placed}
use Rattle.operations.specs.Waiting.{kept}
use Rattle.operations.proofs.Records.{put_next, records-placed, four-ranges, four-marks}
use Rattle.parts.specs.declared.GroupsMade.{GroupsMade}
use Rattle.parts.specs.declared.Part.{Part}
use Rattle.parts.specs.declared.Part.TheVariants as part
use Rattle.judge.specs.declared.State.{State}
use Rattle.judge.specs.AsLeft.{place_length}
use Rattle.judge.specs.Step.{After, leaving, refused_by, passed_to, clash_in, or_clash, passed_by, left_by}

-- ---- the places hold these records, one for each open operation
pub record Holds (rs : List Record) (s : State) (ranges marks : List ℕ) : Type 0 where
  pub all : s.unclosed ≡ length rs
  pub in_ranges_lem : ranges ≡ placed range_words rs ranges
  pub in_marks : marks ≡ placed mark_words rs marks

abbrev pub records_after : Part → List Record → List Record
records_after (part.Access r) rs = rs
records_after (part.Operation r) rs = rs ++ r ∷ []
records_after (part.Commit made) rs = rs
records_after (part.Wait made wait) rs = kept wait rs

abbrev pub made_after : Part → GroupsMade → GroupsMade
made_after (part.Access r) made = made
made_after (part.Operation r) made = made
made_after (part.Commit made') made = made'
made_after (part.Wait made' wait) made = made'

abbrev pub if_clash : {A : Type 0} → Option ℕ → (ℕ → A) → A → A
if_clash (Some i) clash otherwise = clash i
if_clash None clash otherwise = otherwise

-- what is left then, by the records
pub record Acted (p : Part) (rs : List Record) (s : State) (ranges marks : List ℕ) (after : After) : Type 0 where
  pub state_after : after.state
      ≡ if_clash (clash_in p rs) (λ i. refused_by s (Clash s.events i))
      (passed_to s (length (records_after p rs)) (made_after p s.made))
  pub ranges_after : after.ranges ≡ placed range_words (if_clash (clash_in p rs) (λ i. rs) (records_after p rs)) ranges
  pub marks_after : after.marks ≡ placed mark_words (if_clash (clash_in p rs) (λ i. rs) (records_after p rs)) marks

-- The first records of the places are those that they hold.
pub held-records : {rs : List Record} {s : State} {ranges marks : List ℕ} → Holds rs s ranges marks
    → records s.unclosed ranges marks ≡ rs
held-records {rs} {ranges = ranges} {marks = marks} h =
    (λ i. records (h.all i) (h.in_ranges_lem i) (h.in_marks i)) ∙ records-placed rs ranges marks

-- A record is put behind them.
put-held : (words : Record → List ℕ) → ((r : Record) → length (words r) ≡ 4)
    → (rs : List Record) (r : Record) (n : ℕ) (place : List ℕ)
    → n ≡ length rs → place ≡ placed words rs place → 4 * length rs + 4 ≤ length place
    → sets place (4 * n) (words r) ≡ placed words (rs ++ r ∷ []) place
put-held words four rs r n place count holds room =
    (λ i. sets (holds i) (4 * count i) (words r)) ∙ put_next words four rs r place room

module _ (rs : List Record) (s : State) (ranges marks : List ℕ) (h : Holds rs s ranges marks)
    (few : 4 * s.unclosed + 4 ≤ place_length) (long-ranges : place_length ≤ length ranges)
    (long-marks : place_length ≤ length marks) where
  -- a clash changes no word
  clashed : (p : Part) (i : ℕ) → clash_in p rs ≡ Some i
      → Acted p rs s ranges marks (leaving (refused_by s (Clash s.events i)) ranges marks)
  clashed p i c = record { state_after = rw c; ranges_after = rw c h.in_ranges_lem; marks_after = rw c h.in_marks }

  -- an event that passes
  passed : (p : Part) (n : ℕ) (ranges' marks' : List ℕ) → clash_in p rs ≡ None → n ≡ length (records_after p rs)
      → ranges' ≡ placed range_words (records_after p rs) ranges → marks' ≡ placed mark_words (records_after p rs) marks
      → Acted p rs s ranges marks (leaving (passed_to s n (made_after p s.made)) ranges' marks')
  passed p n ranges' marks' c count in_ranges_lem in_marks = record {
    state_after = rw c (ap (λ m. passed_to s m (made_after p s.made)) count);
    ranges_after = rw c in_ranges_lem;
    marks_after = rw c in_marks;
  }

  -- each that clashes with none
  passes : (p : Part) → clash_in p rs ≡ None → Acted p rs s ranges marks (passed_by p s ranges marks)
  passes (part.Access r) c = passed (part.Access r) s.unclosed ranges marks c h.all h.in_ranges_lem h.in_marks
  passes (part.Operation r) c =
      passed (part.Operation r) (s.unclosed + 1) _ _ c
      (ap (λ n. n + 1) h.all ∙ sym (length-append rs (r ∷ [])))
      (put-held range_words four-ranges rs r s.unclosed ranges h.all h.in_ranges_lem (omega (arith, h.all)))
      (put-held mark_words four-marks rs r s.unclosed marks h.all h.in_marks (omega (arith, h.all)))
  passes (part.Commit made) c = passed (part.Commit made) s.unclosed ranges marks c h.all h.in_ranges_lem h.in_marks
  passes (part.Wait made wait) c =
      let same = held-records h in
      passed (part.Wait made wait) (length (kept wait (records s.unclosed ranges marks))) _ _ c
      (ap (λ l. length (kept wait l)) same)
      (ap (λ l. placed range_words (kept wait l) ranges) same) (ap (λ l. placed mark_words (kept wait l) marks) same)

  by_partner : (p : Part) (q : Option ℕ) → clash_in p rs ≡ q
      → Acted p rs s ranges marks (or_clash q s ranges marks (passed_by p s ranges marks))
  by_partner p (Some i) c = clashed p i c
  by_partner p None c = passes p c

  -- so what an event leaves is told by the records that the places hold
  pub acted : (p : Part) → Acted p rs s ranges marks (left_by p s ranges marks)
  acted p = by_partner p (clash_in p (records s.unclosed ranges marks)) (sym (ap (clash_in p) (held-records h)))
