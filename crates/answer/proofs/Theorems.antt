-- The proofs of the statements in specs/Theorems.antt.
-- Assumes nothing.
use Prim.Native.Nat.{ℕ, ◌≤◌, ◌<◌}
use mathlib.Core.Path.{◌≡◌, refl, sym, ap, ◌∙◌}
use mathlib.Core.Bool.{Bool, true, false}
use mathlib.Core.List.{List, [], ◌∷◌}
use native.Mathlib.Omega.{arith}
use lib.ListN.{length, take, drop, length-drop}
use borrow.Author.Tests.{le-leb}
use Rattle.little_endian.specs.Number.{Bytes, number_at, bytes_of}
use Rattle.answer.specs.declared.Answer.TheVariants.{NotWritten}
use Rattle.answer.specs.Numbers.{numbers_of, case_of}
use Rattle.answer.specs.Table.{fit_named, fit}
use Rattle.answer.specs.Sheet.{two_each, two_at, laid_out, numbers_at, sheet_of, is_sheet, read_of, is_written, write_answer, write_leaves, Given}
use Rattle.answer.specs.Theorems.{cut, NumbersTellApart, ReadsTheNumbers, ReadsBack, CutSheet, OtherLengths, OneSheet, WritesWhatIsGiven, KeepsTheRest, DocumentSheets}
use Rattle.answer.proofs.Cut.{cut_before_code, cut_after_code}
use Rattle.answer.proofs.Fitting.{named_again, has-row}
use Rattle.answer.proofs.Given.{reads, given-fits, fits-given}
use Rattle.answer.proofs.Reading.{numbers-read, read_no_sheet, other_length, parts, verdict, standing}
use Rattle.answer.proofs.TwoBytes.{back}
use Rattle.answer.proofs.Writing
use Rattle.answer.proofs.Writing.{written, not_written, tested-true, never}

pub numbers_tell_apart : NumbersTellApart
unfolding NumbersTellApart
numbers_tell_apart a b h = sym (named_again a) ∙ ap case_of h ∙ named_again b

pub reads_the_numbers : ReadsTheNumbers
unfolding ReadsTheNumbers
reads_the_numbers s = (numbers-read s, read_no_sheet s)

pub reads_back : ReadsBack
unfolding ReadsBack bytes_of
reads_back a out h =
    let test = tested-true a out h in
    ap (λ (s : List ℕ). read_of (take 12 s)) (written a out test).1 ∙ reads a (Writing.parts a out test).1

pub other_lengths : OtherLengths
unfolding OtherLengths
other_lengths s h = read_no_sheet s (other_length s h)

pub document_sheets : DocumentSheets
unfolding DocumentSheets number_at read_of is_sheet fit fit_named
document_sheets = (refl, refl)

pub cut_sheet : CutSheet
unfolding CutSheet
cut_sheet a g k h =
    let fits = given-fits a g in
    let row = has-row (numbers_of a) fits in
    let small : (numbers_of a).code < 256 = omega arith in (
      λ low. read_no_sheet (cut k (sheet_of a)) (cut_before_code k (sheet_of a) low),
      λ high. ap read_of (cut_after_code (numbers_of a) small k high h) ∙ reads a fits,
    )

-- Bytes whose table is as shown are laid out from their own numbers.
laid_again : (s : List ℕ) → Bytes s → is_sheet s ≡ true → s ≡ laid_out (numbers_at s)
laid_again s bytes h =
    let t = parts s h in
    sym (back 6 0 s bytes t.0)
    ∙ λ i. two_each (t.1 i ∷ t.2 i ∷ two_at s 4 ∷ two_at s 6 ∷ two_at s 8 ∷ two_at s 10 ∷ [])

pub one_sheet : OneSheet
unfolding OneSheet
one_sheet s a bytes h no_none = laid_again s bytes (verdict s a h no_none) ∙ ap laid_out (sym (standing s a h no_none))

pub writes_what_is_given : WritesWhatIsGiven
unfolding WritesWhatIsGiven is_written
writes_what_is_given a out = (
  λ (room, given). (written a out (rw (le-leb 12 (length out) room, given-fits a given))).0,
  go (is_written a out) refl,
)
  where
    go : (t : Bool) → is_written a out ≡ t → ((12 ≤ length out) × Given a → ⊥) → write_answer a out ≡ NotWritten
    go true e h = let t = Writing.parts a out e in absurd (h (t.0, fits-given a t.1))
    go false e h = (not_written a out e).0

pub keeps_the_rest : KeepsTheRest
unfolding KeepsTheRest bytes_of
keeps_the_rest a out = go (is_written a out) refl
  where
    go : (t : Bool) → is_written a out ≡ t
        → (length (write_leaves a out) ≡ length out)
        × (drop 12 (write_leaves a out) ≡ drop 12 out)
        × (write_answer a out ≡ NotWritten → write_leaves a out ≡ out)
    go true e =
        let w = written a out e in
        let room = (Writing.parts a out e).0 in
        (rw w.1 (simp length-drop (omega arith)), rw w.1, λ h. absurd (never (sym h ∙ w.0)))
    go false e = let w = not_written a out e in (ap length w.1, ap (drop 12) w.1, λ h. w.1)
