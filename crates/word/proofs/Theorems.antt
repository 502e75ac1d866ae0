-- The proofs of the statements in specs/Theorems.antt.
-- Assumes nothing.
use Prim.Native.Nat.{ℕ, ◌+◌, ◌*◌, ◌/◌, ◌%◌, ◌^◌, ◌<◌}
use mathlib.Core.Path.{◌≡◌, refl, sym, ap, ◌∙◌}
use mathlib.Core.List.{List, [], ◌∷◌}
use native.Mathlib.Omega.{arith}
use lib.Pow.{low, high, mod-mod-pow}
use Rattle.little_endian.specs.Number.{number_at, bytes_of}
use Rattle.little_endian.proofs.Widths.{halves, bounded, there}
use Rattle.answer.specs.declared.Answer.TheVariants.{NoVerdict}
use Rattle.answer.specs.declared.Numbers.{Numbers}
use Rattle.answer.specs.Numbers.{numbers_of}
use Rattle.answer.specs.Table.{fit, fit_named}
use Rattle.answer.specs.Sheet.{two_each, in_order, two_at, sheet_of, is_sheet, read_of}
use Rattle.answer.specs.Theorems.{OneSheet}
use Rattle.answer.proofs.Given.{reads, given-fits}
use Rattle.answer.proofs.Reading.{standing}
use Rattle.answer.proofs.Theorems.{one_sheet}
use Rattle.answer.proofs.TwoBytes.{each-bytes}
use Rattle.word.specs.Word.{body_of, sheet_with, turned, packed, unpacked}
use Rattle.word.specs.Theorems.{Unpacks, OneWord, ZeroIsNoVerdict, NumbersInWord, CutWord}
use Rattle.word.proofs.Words.{body_of_lem, sheet_bytes, sheet_again, turned-back, turned_lt}

pub unpacks : Unpacks
unfolding Unpacks packed unpacked
unpacks a given =
    let fits = given-fits a given in
    let body = body_of_lem a fits in
    let small : body_of a < 2 ^ 64 = rw body (bounded 8 (sheet_of a) 4 (each-bytes (in_order (numbers_of a)))) in (
      turned_lt 16 48 (body_of a) small,
      ap (λ (b : ℕ). read_of (sheet_with b)) (turned-back 16 48 (body_of a) small ∙ body) ∙ ap read_of (sheet_again a) ∙ reads a fits,
    )

pub one_word : OneWord
unfolding OneWord packed unpacked bytes_of OneSheet
one_word word a h e no_none =
    let body = turned 48 16 word in
    let small = turned_lt 48 16 word h in
    let bytes = sheet_bytes body in
    let fits = given-fits a (sheet_with body, bytes, e, no_none) in
    let same : body_of a ≡ body =
    body_of_lem a fits ∙ ap (λ (s : List ℕ). number_at 8 s 4) (sym (one_sheet (sheet_with body) a bytes e no_none))
    ∙ there 8 body (two_each (4 ∷ 8 ∷ [])) [] small in
    ap (turned 16 48) same ∙ turned-back 48 16 word h

no_verdict : unpacked 0 ≡ NoVerdict
unfolding unpacked read_of is_sheet fit fit_named number_at bytes_of
no_verdict = refl

pub zero_is_no_verdict : ZeroIsNoVerdict
unfolding ZeroIsNoVerdict Unpacks packed body_of fit fit_named
zero_is_no_verdict = (no_verdict, refl, λ a given h. given.3 (sym (unpacks a given).1 ∙ ap unpacked h ∙ no_verdict))

-- A number of two parts, the lower below 2^16, gives them back.
two_parts : (n low high : ℕ) → n ≡ low + 2 ^ 16 * high → low < 2 ^ 16 → (n % 2 ^ 16 ≡ low) × (n / 2 ^ 16 ≡ high)
two_parts n low high h small = (omega arith, omega arith)

-- The other numbers and the code, of a body and of a word.
word_parts : (body others code : ℕ) → body ≡ others + 2 ^ 48 * code → others < 2 ^ 48 → turned 16 48 body ≡ code + 2 ^ 16 * others
word_parts body others code h small =
    let parts : body ≡ code * 2 ^ 48 + others = omega arith in
    let below : body % 2 ^ 48 ≡ others = ap (λ (n : ℕ). n % 2 ^ 48) parts ∙ low code 48 small in
    let above : body / 2 ^ 48 ≡ code = ap (λ (n : ℕ). n / 2 ^ 48) parts ∙ high code 48 small in
    rw (below, above) (omega arith)

pub numbers_in_word : NumbersInWord
unfolding NumbersInWord packed
numbers_in_word a given =
    let s = sheet_of a in
    let bytes = each-bytes (in_order (numbers_of a)) in
    let fits = given-fits a given in
    let word = word_parts (body_of a) (number_at 6 s 4) (two_at s 10) (body_of_lem a fits ∙ halves 6 2 s 4) (bounded 6 s 4 bytes) in
    let code = two_parts (packed a) (two_at s 10) (number_at 6 s 4) word (bounded 2 s 10 bytes) in
    let event = two_parts (number_at 6 s 4) (two_at s 4) (number_at 4 s 6) (halves 2 4 s 4) (bounded 2 s 4 bytes) in
    let partner = two_parts (number_at 4 s 6) (two_at s 6) (two_at s 8) (halves 2 2 s 6) (bounded 2 s 6 bytes) in
    let past-event : packed a / 2 ^ 32 ≡ number_at 4 s 6 = omega arith in
    let past-partner : packed a / 2 ^ 48 ≡ two_at s 8 = omega arith in
    rw (code.0, past-partner, past-event, code.1, event.0, partner.0) (standing s a (reads a fits) given.3)

pub cut_word : CutWord
unfolding CutWord NumbersInWord
cut_word a given more = mod-mod-pow (packed a) more 16 ∙ sym (ap (λ (n : Numbers). n.code) (numbers_in_word a given))
