-- What an answer's code says of it.
use Rattle.std.specs.Prelude.{ℕ, ◌≡◌, Bool, true, eqb}
use Rattle.little_endian.specs.Number.{is_zero, within}
use Rattle.answer.specs.declared.Answer.{Answer}
use Rattle.answer.specs.Numbers.{numbers_of}

abbrev pub code_of : Answer → ℕ
code_of a = (numbers_of a).code

abbrev pub is_no_verdict : Answer → Bool
is_no_verdict a = is_zero (code_of a)

abbrev pub is_accepted : Answer → Bool
is_accepted a = eqb (code_of a) 1

abbrev pub IsAccepted : Answer → Type 0
IsAccepted a = code_of a ≡ 1

-- Refused at one of its events: codes 5 to 10.
abbrev pub IsRefusedAtEvent : Answer → Type 0
IsRefusedAtEvent a = within 5 10 (code_of a) ≡ true
