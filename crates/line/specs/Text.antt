-- Numbers as a line of text: in decimal, with one space between and a newline after the last.
use Rattle.std.specs.Prelude.{ℕ, zero, suc, ◌+◌, ◌-◌, ◌/◌, Bool, cond, ◌&&◌, List, [], ◌∷◌, ◌++◌, ltb, leb, eqb, length, get_or, take, drop, ◌%◌, ◌≡◌, ◌≤◌}
use Rattle.answer.specs.declared.Numbers.{Numbers}

-- The numbers of an answer's line.
abbrev pub in_line : Numbers → List ℕ
in_line numbers = numbers.code ∷ numbers.event ∷ numbers.partner ∷ numbers.peak ∷ []

-- How many digits a number has, where it has no more than so many and one.
unfoldable pub places : ℕ → ℕ → ℕ
places zero n = 1
places (suc more) n = cond (ltb n 10) 1 (suc (places more (n / 10)))

-- The last k digits of a number, the highest first, as ASCII has them.
abbrev pub last_digits : ℕ → ℕ → List ℕ
last_digits zero n = []
last_digits (suc k) n = last_digits k (n / 10) ++ (48 + n % 10) ∷ []

-- A u32 has at most ten.
unfoldable pub decimal_of : ℕ → List ℕ
decimal_of n = last_digits (places 9 n) n

-- So many bytes from the start on are there to be lent.
abbrev pub IsPrefixLen : ℕ → List ℕ → Type 0
IsPrefixLen n bytes = (n ≤ length bytes) × (n ≡ length (take n bytes))

-- What ends number i: a space, and after the last a newline.
abbrev pub end_of : List ℕ → ℕ → ℕ
end_of numbers i = cond (eqb (i + 1) (length numbers)) 10 32

-- The text of the first i numbers.
unfoldable pub text_of : List ℕ → ℕ → List ℕ
text_of numbers zero = []
text_of numbers (suc i) = text_of numbers i ++ (decimal_of (get_or numbers i 0) ++ end_of numbers i ∷ [])

abbrev pub line_of : List ℕ → List ℕ
line_of numbers = text_of numbers (length numbers)

-- Eleven bytes are lent for each number: ten digits and what ends them.
abbrev pub has_room : List ℕ → List ℕ → Bool
has_room numbers out = leb (length numbers) (length out / 11)

-- With less nothing is written, and the count is 0.
unfoldable pub count_of : List ℕ → List ℕ → ℕ
count_of numbers out = cond (has_room numbers out) (length (line_of numbers)) 0

unfoldable pub leaves_of : List ℕ → List ℕ → List ℕ
leaves_of numbers out = cond (has_room numbers out) (line_of numbers ++ drop (length (line_of numbers)) out) out

-- With a name and a space before the numbers.
abbrev pub named_line : List ℕ → List ℕ → List ℕ
named_line name numbers = name ++ 32 ∷ line_of numbers

abbrev pub room_for_both : List ℕ → List ℕ → List ℕ → Bool
room_for_both name numbers out =
    ltb (length name) (length out) && leb (length numbers) ((length out - (length name + 1)) / 11)

unfoldable pub named_count : List ℕ → List ℕ → List ℕ → ℕ
named_count name numbers out = cond (room_for_both name numbers out) (length (named_line name numbers)) 0

unfoldable pub named_leaves : List ℕ → List ℕ → List ℕ → List ℕ
named_leaves name numbers out =
    cond (room_for_both name numbers out) (named_line name numbers ++ drop (length (named_line name numbers)) out) out
