-- What the bytes that were read tell of an input: whether it is a sheet, and which.
-- Assumes nothing.
use Rattle.std.proofs.Common.{◌≡◌, ◌≢◌, ℕ, ◌+◌, ◌≤◌, ◌<◌, List, ◌++◌, length, take, Option, Some, None, IfSome, refl, sym, ap, ap₂, ◌∙◌, arith, le_refl, drop_at, append-nil, length-append, length-take-le}
use Rattle.std.proofs.lemmas.Bool.{ne_eqb}
use Rattle.std.proofs.lemmas.Slice.{take-put_mid_below}
use Rattle.std.specs.Io.KnownBytes.{Consumes, IsAtEnd}
use borrow.Rule.Slice.PartMut.{put_mid, post_of}
use lib.Seq.{take-add, take-append-le}
use Rattle.std.proofs.KnownBytes.{Consumes-trans, Consumes-whole}
use Rattle.answer.specs.declared.Answer.{Answer}
use Rattle.answer.specs.declared.Answer.TheVariants.{NoVerdict}
use Rattle.answer.specs.Sheet.{is_sheet, read_of}

-- What was read into the rest of what is lent stands behind what was read before.
pub read_behind : (at room count : ℕ) (lent read : List ℕ) → at ≤ length lent → count ≤ length read
    → take (at + count) (put_mid at room lent read) ≡ take at lent ++ take count read
read_behind at room count lent read within fits =
    let past = post_of at room lent in
    take-add at count (put_mid at room lent read)
    ∙ ap₂ (λ l r. l ++ r) (take-put_mid_below at room lent read at (le_refl at) within)
    (ap (take count) (drop_at (take at lent) (read ++ past) at (length-take-le at lent within)) ∙ take-append-le count read past fits)

-- With nothing behind it, what was read is the input.
pub whole_input : (known left last : Option (List ℕ)) (got more : ℕ) (sheet past : List ℕ) (answer : Answer)
    → Consumes known left (take got sheet) → Consumes left last (take more past) → more ≡ 0 → IsAtEnd last
    → answer ≡ read_of (take got sheet) → IfSome known (λ bytes. answer ≡ read_of bytes)
whole_input known left last got more sheet past answer had has none end reads =
    Consumes-whole known last (take got sheet ++ take more past) (λ bytes. answer ≡ read_of bytes)
    (Consumes-trans known left last (take got sheet) (take more past) had has) end
    (reads ∙ ap read_of (sym (ap (λ n. take got sheet ++ take n past) none ∙ append-nil (take got sheet))))

other_length : (bytes : List ℕ) → length bytes ≢ 12 → read_of bytes ≡ NoVerdict
unfolding read_of is_sheet
other_length bytes other = rw (ne_eqb (length bytes) 12 other) refl

-- With a byte more behind what fills twelve, or ends before, the input is no sheet.
pub longer : (known left last : Option (List ℕ)) (got : ℕ) (sheet more : List ℕ) → length sheet ≡ 12 → got ≤ length sheet
    → Consumes known left (take got sheet) → (got < length sheet → IsAtEnd left) → Consumes left last more → 0 < length more
    → IfSome known (λ bytes. NoVerdict ≡ read_of bytes)
longer None left last got sheet more long within had ended has some = tt
longer (Some bytes) None last got sheet more long within had ended has some = absurd had
longer (Some bytes) (Some rest) None got sheet more long within had ended has some = absurd has
longer (Some bytes) (Some rest) (Some left) got sheet more long within had ended has some =
    sym (other_length bytes (λ twelve.
    let all : length bytes ≡ length (take got sheet) + length rest = ap length had ∙ length-append (take got sheet) rest in
    let first : length (take got sheet) ≡ got = length-take-le got sheet within in
    let behind : length rest ≡ length more + length left = ap length has ∙ length-append more left in
    let few : got < length sheet = omega (arith, twelve, all, first, behind, some, long) in
    omega (arith, ap length (ended few), behind, some)))
