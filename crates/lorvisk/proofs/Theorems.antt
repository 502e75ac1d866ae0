-- The proofs of the statements in specs/Theorems.antt.
-- Assumes nothing.
use mathlib.Core.Path.{refl, sym, ap, ◌∙◌}
use Rattle.answer.specs.Theorems.{ReadsBack}
use Rattle.answer.specs.Sheet.{Given}
use Rattle.answer.proofs.Given.{fits-given}
use Rattle.answer.proofs.Theorems.{reads_back}
use Rattle.answer.proofs.Writing.{written, parts}
use Rattle.rules.specs.Answers.{answer_of_file}
use Rattle.rules.specs.Theorems.{GivenAnswer}
use Rattle.rules.proofs.Theorems.{given_answer}
use Rattle.run.specs.Theorems.{OneRun, GivenInRuns}
use Rattle.run.proofs.Theorems.{one_run, given_in_runs}
use Rattle.word.specs.Word.{packed, unpacked}
use Rattle.word.specs.Theorems.{Unpacks, OneWord, ZeroIsNoVerdict}
use Rattle.word.proofs.Theorems.{unpacks, one_word, zero_is_no_verdict}
use Rattle.lorvisk.specs.Boundary.{RanAs}
use Rattle.lorvisk.specs.Theorems.{JudgedWord, RanWord, SheetWord}

pub judged_word : JudgedWord
unfolding JudgedWord GivenAnswer Unpacks ZeroIsNoVerdict
judged_word f =
    let given = given_answer.1 f in
    ((unpacks (answer_of_file f) given).1, zero_is_no_verdict.2 (answer_of_file f) given)

pub ran_word : RanWord
unfolding RanWord RanAs GivenInRuns Unpacks ZeroIsNoVerdict OneRun
ran_word f before word after (answer, is_IsWord, ran) =
    let given : Given answer = rw ran.answers (given_in_runs.1 f before) in
    let told = ap unpacked is_IsWord ∙ (unpacks answer given).1 in (
      rw told ran,
      λ none. zero_is_no_verdict.2 answer given (sym is_IsWord ∙ none),
      λ word' after' (answer', is-word', ran').
          let one = one_run.1 f before answer answer' after after' ran ran' in
          (is_IsWord ∙ ap packed one.0 ∙ sym is-word', one.1),
    )

pub sheet_word : SheetWord
unfolding SheetWord ReadsBack OneWord
sheet_word word out h test =
    let answer = unpacked word in
    let verdict = (fits-given answer (parts answer out test).1).3 in
    ap packed (reads_back answer out (written answer out test).0) ∙ one_word word answer h refl verdict
