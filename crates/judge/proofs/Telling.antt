-- The opening state, and the answer that a state tells.
-- Assumes nothing.
use Prim.Native.Nat.{ℕ, suc, ◌≤◌, min}
use native.Mathlib.Omega.{arith}
use mathlib.Core.Path.{◌≡◌, refl, sym, ap, ap₂, subst, ◌∙◌}
use mathlib.Core.Bool.{Bool, true, false, cond, ◌&&◌}
use mathlib.Core.List.{List, []}
use lib.ListN.{length}
use borrow.Author.Tests.{le-leb}
use Rattle.answer.proofs.Given.{fits-given}
use Rattle.answer.specs.declared.Answer.{Answer}
use Rattle.answer.specs.declared.Answer.TheVariants.{Accepted, WrongShape, WrongMemoryLength}
use Rattle.answer.specs.declared.Answer.TheVariants as answer
use Rattle.answer.specs.Numbers.{numbers_of}
use Rattle.answer.specs.Table.{event_limit, fit_named, fit}
use Rattle.answer.specs.Sheet.{Given}
use Rattle.answer.specs.Codes.{code_of}
use Rattle.little_endian.proofs.Tests.{both}
use Rattle.decoder.specs.Item.{Item}
use Rattle.operations.specs.Table.{range_words, mark_words, placed}
use Rattle.rules.specs.declared.Lengths.{Lengths}
use Rattle.rules.specs.Faults.{are_memory_lengths}
use Rattle.rules.specs.Answers.{judged, answer_of}
use Rattle.rules.proofs.Files.{list_fits}
use Rattle.judge.specs.declared.State.{State}
use Rattle.judge.specs.AsLeft.{place_length, open_records, tracking, ended, state_of, open_of, AsLeft}
use Rattle.judge.specs.Step.{is_refusal, is_sound, opened, answer_by, answer_in}
use Rattle.std.specs.Prelude.{Option, None, Some}
use Rattle.judge.proofs.Sound.{bounded}
use Rattle.judge.proofs.Answers.{some-verdict, answer-is}
use Rattle.judge.proofs.Leaving.{How, passing, over, how, sound_tracking}

-- ---- the opening state
module _ (lengths : Lengths) where
  by_lengths : (t : Bool) → are_memory_lengths lengths ≡ t → (opened lengths ≡ state_of lengths []) × (open_of lengths [] ≡ [])
  unfolding opened state_of open_of answer_of judged open_records
  by_lengths true h = (rw h, rw h)
  by_lengths false h = (rw h, rw h)

  pub opened_so : (t : Bool) → are_memory_lengths lengths ≡ t
      → cond t (tracking lengths []) (ended lengths 0 WrongMemoryLength) ≡ opened lengths
  unfolding opened
  opened_so t h = ap (λ s. cond s (tracking lengths []) (ended lengths 0 WrongMemoryLength)) (sym h)

  pub opening-left : (ranges marks : List ℕ) → place_length ≤ length ranges → place_length ≤ length marks
      → AsLeft lengths [] (opened lengths) ranges marks
  unfolding placed
  opening-left ranges marks long-ranges long-marks =
      let (state, nothing) = by_lengths (are_memory_lengths lengths) refl in
      record {
        ranges_long = long-ranges;
        marks_long = long-marks;
        state_is = state;
        ranges_hold = sym (ap (λ rs. placed range_words rs ranges) nothing);
        marks_hold = sym (ap (λ rs. placed mark_words rs marks) nothing);
      }

  -- so a state that is this one is all that is promised of it
  pub opening_promised : (s : State) → s ≡ opened lengths
      → (s ≡ opened lengths)
      × ((ranges marks : List ℕ) → place_length ≤ length ranges → place_length ≤ length marks
      → AsLeft lengths [] s ranges marks)
  opening_promised s e = (
    e,
    λ ranges marks long-ranges long-marks.
        subst (λ t. AsLeft lengths [] t ranges marks) (sym e) (opening-left ranges marks long-ranges long-marks),
  )

-- ---- what is no acceptance is a refusal where a sheet can hold it
pub refusal_if_fits : (a : Answer) → ((events peak : ℕ) → a ≡ Accepted events peak → ⊥) → fit (numbers_of a) ≡ is_refusal a
unfolding fit fit_named
refusal_if_fits answer.NoVerdict other = refl
refusal_if_fits (Accepted events peak) other = absurd (other events peak refl)
refusal_if_fits WrongShape other = refl
refusal_if_fits answer.TooManyEvents other = refl
refusal_if_fits WrongMemoryLength other = refl
refusal_if_fits (answer.UnknownKind event) other = refl
refusal_if_fits (answer.WrongBodyLength event) other = refl
refusal_if_fits (answer.FieldNotAllowed event) other = refl
refusal_if_fits (answer.Misaligned event) other = refl
refusal_if_fits (answer.OutOfRange event) other = refl
refusal_if_fits (answer.Clash event partner) other = refl
refusal_if_fits (answer.NoRoom event) other = refl
refusal_if_fits answer.NotWritten other = refl

-- ---- the answer of a state
module _ (s : State) where
  -- it is one that the sheet's reader gives
  accepts : is_sound s ≡ true → fit (numbers_of (Accepted s.events s.peak)) ≡ true
  unfolding fit fit_named
  accepts h =
      let bounds = bounded s h in
      rw (le-leb s.events event_limit bounds.events_limited, le-leb s.peak s.events bounds.peak_most)

  none-fits : (sound : Bool) → is_sound s ≡ sound → fit (numbers_of (cond sound (Accepted s.events s.peak) WrongShape)) ≡ true
  unfolding fit fit_named
  none-fits true h = accepts h
  none-fits false h = refl

  held-fits : (refusal : Answer) (kept : Bool) → is_refusal refusal ≡ kept
      → fit (numbers_of (cond kept refusal WrongShape)) ≡ true
  unfolding fit fit_named
  held-fits refusal true h = (both _ (fit (numbers_of refusal)) h).1
  held-fits refusal false h = refl

  fits : fit (numbers_of (answer_in s)) ≡ true
  unfolding answer_in
  fits = by_refusal s.refusal
    where
      by_refusal : (o : Option Answer) → fit (numbers_of (answer_by o s)) ≡ true
      by_refusal None = none-fits (is_sound s) refl
      by_refusal (Some refusal) = held-fits refusal (is_refusal refusal) refl

  -- while nothing is refused ..
  module _ (none_refused : s.refusal ≡ None) where
    pub told_sound : is_sound s ≡ true → answer_in s ≡ Accepted s.events s.peak
    unfolding answer_in
    told_sound h = ap (λ o. answer_by o s) none_refused ∙ rw h

    pub told-odd : is_sound s ≡ false → answer_in s ≡ WrongShape
    unfolding answer_in
    told-odd h = ap (λ o. answer_by o s) none_refused ∙ rw h

  -- .. and after a refusal
  module _ (refusal : Answer) (some-refused : s.refusal ≡ Some refusal) where
    pub told-refusal : is_refusal refusal ≡ true → answer_in s ≡ refusal
    unfolding answer_in
    told-refusal h = ap (λ o. answer_by o s) some-refused ∙ rw h

    pub told_none : is_refusal refusal ≡ false → answer_in s ≡ WrongShape
    unfolding answer_in
    told_none h = ap (λ o. answer_by o s) some-refused ∙ rw h

-- of the list, where the judge left it so
pub told-left : {lengths : Lengths} {items : List Item} {s : State} {ranges marks : List ℕ} → AsLeft lengths items s ranges marks
    → answer_in s ≡ answer_of lengths items
told-left {lengths} {items} {s} {ranges} {marks} left = by_way (how left)
  where
    by_way : How lengths items s ranges marks → answer_in s ≡ answer_of lengths items
    by_way (passing es are h state in_ranges_lem in_marks) =
        ap answer_in state ∙ told_sound (tracking lengths es) refl (sound_tracking lengths es h)
        ∙ sym (ap (answer_of lengths) are ∙ answer-is lengths es h)
    by_way (over h state) =
        let verdict = some-verdict lengths items in
        let ends = ended lengths (min (length items) (suc event_limit)) (answer_of lengths items) in
        ap answer_in state
        ∙ told-refusal ends (answer_of lengths items) refl (ap₂ ◌&&◌ (le-leb _ (code_of (answer_of lengths items)) (omega arith)) (list_fits lengths items))

-- so an answer that is the state's is all that is promised of it
pub told : (s : State) (a : Answer) → a ≡ answer_in s
    → ((lengths : Lengths) (items : List Item) (ranges marks : List ℕ) → AsLeft lengths items s ranges marks
    → a ≡ answer_of lengths items)
    × ((a ≡ answer_in s) × Given a)
told s a e = (λ lengths items ranges marks left. e ∙ told-left left, (e, fits-given a (ap (λ b. fit (numbers_of b)) e ∙ fits s)))
