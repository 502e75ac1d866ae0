-- The theorems of specs/Theorems.antt.
-- Assumes nothing.
use Rattle.std.proofs.Common.{refl, arith}
use Rattle.line.specs.Text.{places, decimal_of, text_of}
use Rattle.line.specs.Theorems.{HeaderLine, LongestNumber, FewestDigits}
use Rattle.line.proofs.Digits.{fewest, length-decimal_of}

pub header_line : HeaderLine
unfolding HeaderLine text_of decimal_of places
header_line = refl

pub longest_number : LongestNumber
unfolding LongestNumber text_of decimal_of places
longest_number = refl

pub fewest_digits : FewestDigits
unfolding FewestDigits
fewest_digits n small = rw (length-decimal_of n) (fewest 9 n (omega arith))
