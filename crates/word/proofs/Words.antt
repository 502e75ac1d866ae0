-- Words, and the bodies of sheets that they are made of.
-- Assumes nothing.
use Prim.Native.Nat.{ℕ, zero, suc, ◌+◌, ◌*◌, ◌/◌, ◌%◌, ◌^◌, ◌<◌}
use mathlib.Core.Path.{◌≡◌, refl, ap, ap₂, ◌∙◌}
use mathlib.Core.Bool.{Bool, true, false}
use mathlib.Core.List.{List, [], ◌∷◌, ◌++◌}
use native.Mathlib.Nat.{mod-lt}
use native.Mathlib.Omega.{arith}
use lib.Arith.{digits_lt}
use lib.Dec.{lit<}
use lib.Pow.{pow-add, pow_pos, shr_lt, low, high, split}
use lib.ListN.{replicate}
use lib.Seq.{sets}
use Rattle.std.proofs.lemmas.Nat.{or_comm, or_shifted}
use Rattle.std.specs.Int.{w64, rotate_left, rotate_right}
use Rattle.little_endian.specs.Number.{Bytes, number_at, bytes_of}
use Rattle.little_endian.proofs.Widths.{each-byte, back}
use Rattle.answer.specs.declared.Answer.{Answer}
use Rattle.answer.specs.Numbers.{numbers_of}
use Rattle.answer.specs.Table.{fit}
use Rattle.answer.specs.Sheet.{two_each, in_order, sheet_of, is_written, write_leaves}
use Rattle.answer.proofs.TwoBytes.{each-bytes}
use Rattle.word.specs.Word.{body_of, sheet_with, turned}

pub body_of_lem : (a : Answer) → fit (numbers_of a) ≡ true → body_of a ≡ number_at 8 (sheet_of a) 4
unfolding body_of
body_of_lem a h = rw h

-- Twelve zero bytes, lent to the writer, have the answer's body after the fourth.
pub written_body : (a : Answer) → number_at 8 (write_leaves a (replicate 12 0)) 4 ≡ body_of a
unfolding body_of write_leaves is_written number_at bytes_of
written_body a = go (fit (numbers_of a)) refl
  where
    go : (t : Bool) → fit (numbers_of a) ≡ t → number_at 8 (write_leaves a (replicate 12 0)) 4 ≡ body_of a
    go true e = rw e
    go false e = rw e

-- A table and a body, put into a sheet that has none yet.
pub put_body : (body : ℕ) → sets (sets (sets (replicate 12 0) 0 (bytes_of 2 4)) 2 (bytes_of 2 8)) 4 (bytes_of 8 body) ≡ sheet_with body
unfolding bytes_of
put_body body = refl

-- Turned, and turned back.
pub turned-back : (j k n : ℕ) → n < 2 ^ (j + k) → turned k j (turned j k n) ≡ n
turned-back j k n h =
    let above = shr_lt j k h in
    ap₂ (λ (q r : ℕ). q * 2 ^ k + r) (low (n % 2 ^ k) j above) (high (n % 2 ^ k) j above) ∙ split n k

pub turned_lt : (j k n : ℕ) → n < 2 ^ (j + k) → turned j k n < 2 ^ (k + j)
turned_lt j k n h = rw (pow-add 2 k j) (digits_lt (mod-lt n (pow_pos k)) (shr_lt j k h))

pub sheet_bytes : (word : ℕ) → Bytes (sheet_with word)
unfolding Bytes bytes_of
sheet_bytes word zero = lit< tt
sheet_bytes word (suc zero) = lit< tt
sheet_bytes word (suc (suc zero)) = lit< tt
sheet_bytes word (suc (suc (suc zero))) = lit< tt
sheet_bytes word (suc (suc (suc (suc i)))) = each-byte 8 word i

-- The body of an answer's sheet makes that sheet again.
pub sheet_again : (a : Answer) → sheet_with (number_at 8 (sheet_of a) 4) ≡ sheet_of a
unfolding bytes_of
sheet_again a =
    ap (λ (body : List ℕ). two_each (4 ∷ 8 ∷ []) ++ body)
    (back 8 (sheet_of a) 4 (each-bytes (in_order (numbers_of a))) (lit< tt))

-- What turns a word is std's turning of 64 bits.
pub turned_left : (n : ℕ) → n < 2 ^ 64 → rotate_left w64 n 16 ≡ turned 16 48 n
turned_left n h =
    let above : n * 2 ^ 16 % 2 ^ 64 ≡ n % 2 ^ 48 * 2 ^ 16 = omega arith in
    rw above (or_shifted (n % 2 ^ 48) 16 (n / 2 ^ 48) (omega arith))

pub turned_right : (n : ℕ) → n < 2 ^ 64 → rotate_right w64 n 16 ≡ turned 48 16 n
turned_right n h =
    let above : n * 2 ^ 48 % 2 ^ 64 ≡ n % 2 ^ 16 * 2 ^ 48 = omega arith in
    rw (or_comm, above) (or_shifted (n % 2 ^ 16) 48 (n / 2 ^ 16) (omega arith))
