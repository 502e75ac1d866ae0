-- The theorems of specs/Theorems.antt.
-- Assumes nothing.
use native.Mathlib.Omega.{arith}
use mathlib.Core.Path.{◌≡◌, refl, sym, ap, subst, ◌∙◌}
use mathlib.Core.Bool.{Bool, true, false, cond, false≢true}
use mathlib.Core.List.{List, [], ◌∷◌, ◌++◌, append-nil, append_assoc}
use borrow.Author.Tests.{leb-true}
use Rattle.answer.specs.Codes.{code_of, IsAccepted}
use Rattle.std.specs.Prelude.{Option, None, Some, IsSome}
use Rattle.little_endian.proofs.Tests.{both}
use Rattle.answer.specs.declared.Answer.{Answer}
use Rattle.answer.specs.declared.Answer.TheVariants as answer
use Rattle.answer.specs.Numbers.{numbers_of}
use Rattle.answer.specs.Table.{fit}
use Rattle.answer.proofs.Given.{fits-given}
use Rattle.rules.specs.declared.Lengths.{Lengths}
use Rattle.decoder.specs.Item.{Item}
use Rattle.rules.specs.Answers.{answer_of}
use Rattle.rules.proofs.Files.{answer-recorded}
use Rattle.judge.specs.declared.State.{State}
use Rattle.judge.specs.AsLeft.{AsLeft}
use Rattle.judge.specs.Step.{is_refusal, is_sound, opened, answer_by, answer_in, counted, After, leaving, step_of}
use Rattle.judge.specs.Beginnings.{answer_of_beginning}
use Rattle.judge.specs.Theorems.{steps, StepsAnswer, StepsAnswerFiles, BeginningAnswers, GivenOfBeginnings, PlacesFit, AnyStateAnswers, FaultsShow, without, LostRefusalsShow}
use Rattle.judge.proofs.Sound.{counted-refusal}
use Rattle.judge.proofs.Beginnings.{beginning_answers_lem, beginning_fits}
use Rattle.judge.proofs.Carrying.{step_carries, step-counted}
use Rattle.judge.proofs.Leaving.{How, passing, over, how}
use Rattle.judge.proofs.Telling.{opening-left, told, told-left}

-- ---- the answers
-- steps carry on what the judge left, item by item
steps-left : {lengths : Lengths} (items before : List Item) (after : After)
    → AsLeft lengths before after.state after.ranges after.marks
    → AsLeft lengths (before ++ items) (steps items after).state (steps items after).ranges (steps items after).marks
steps-left [] before after left = rw append-nil left
steps-left {lengths} (item ∷ items) before after left =
    let next = step_of item after.state after.ranges after.marks in
    let last = steps items next in
    subst (λ l. AsLeft lengths l last.state last.ranges last.marks) (append_assoc before (item ∷ []) items)
    (steps-left items (before ++ item ∷ []) next (step_carries left item).left)

pub steps_answer : StepsAnswer
unfolding StepsAnswer
steps_answer lengths items ranges marks long-ranges long-marks =
    told-left (steps-left items [] (leaving (opened lengths) ranges marks) (opening-left lengths ranges marks long-ranges long-marks))

pub steps_answer_files : StepsAnswerFiles
unfolding StepsAnswerFiles StepsAnswer
steps_answer_files f lengths items ranges marks holds long-ranges long-marks =
    steps_answer lengths items ranges marks long-ranges long-marks ∙ sym (answer-recorded f _ items holds)

pub beginning_answers : BeginningAnswers
unfolding BeginningAnswers
beginning_answers = beginning_answers_lem

pub given_of_beginnings : GivenOfBeginnings
unfolding GivenOfBeginnings
given_of_beginnings f total = fits-given (answer_of_beginning f total) (beginning_fits f total)

-- ---- the places
pub places_fit : PlacesFit
unfolding PlacesFit
places_fit = omega arith

-- ---- states that no judge leaves
pub any_state_answers : AnyStateAnswers
unfolding AnyStateAnswers
any_state_answers s = (told s (answer_in s) refl).1.1

-- a refusal that is held, or a wrong shape, is no acceptance
not-one : (a : Answer) (kept : Bool) → is_refusal a ≡ kept → ¬ IsAccepted (cond kept a answer.WrongShape)
not-one a true h e = omega (arith, leb-true _ (code_of a) (both _ (fit (numbers_of a)) h).0, e)
not-one a false h e = omega (arith, e)

not_sound : (s : State) → is_sound s ≡ false → ¬ IsAccepted (answer_in s)
unfolding answer_in
not_sound s h = by_refusal s.refusal
  where
    by_refusal : (o : Option Answer) → ¬ IsAccepted (answer_by o s)
    by_refusal None e = omega (arith, sym (ap (λ t. code_of (cond t (answer.Accepted s.events s.peak) answer.WrongShape)) h) ∙ e)
    by_refusal (Some refusal) e = not-one refusal (is_refusal refusal) refl e

-- after a refusal nothing is accepted
some-refused : (s : State) → IsSome s.refusal → ¬ IsAccepted (answer_in s)
unfolding answer_in
some-refused s = by_refusal s.refusal
  where
    by_refusal : (o : Option Answer) → IsSome o → ¬ IsAccepted (answer_by o s)
    by_refusal None h e = absurd (false≢true h)
    by_refusal (Some refusal) h e = not-one refusal (is_refusal refusal) refl e

-- one open and a peak of 0
odd : (s : State) → s.unclosed ≡ 1 → s.peak ≡ 0 → is_sound s ≡ false
unfolding is_sound
odd s one none = rw (one, none)

pub faults_show : FaultsShow
unfolding FaultsShow
faults_show = (
  not_sound,
  some-refused,
  λ item s ranges marks stops. subst (λ (a : After). ¬ IsAccepted (answer_in a.state))
      (sym (step-counted s ranges marks item stops)) (some-refused (counted s) (counted-refusal s)),
)

pub lost_refusals_show : LostRefusalsShow
unfolding LostRefusalsShow
lost_refusals_show lengths items s ranges marks left refused = by_way (how left)
  where
    by_way : How lengths items s ranges marks → ¬ IsAccepted (answer_in (without s))
    by_way (passing es are h state in_ranges_lem in_marks) = absurd (refused (ap (λ l. code_of (answer_of lengths l)) are ∙ h))
    by_way (over h state) = not_sound (without s) (odd (without s) (ap (λ (t : State). t.unclosed) state) (ap (λ (t : State). t.peak) state))
