-- The digits of a number: how many there are, and that they are those that std writes.
-- Assumes nothing.
use Rattle.std.proofs.Common.{◌≡◌, Bool, true, false, ℕ, zero, suc, ◌+◌, ◌-◌, ◌*◌, ◌/◌, ◌%◌, ◌^◌, ◌≤◌, ◌<◌, List, [], ◌∷◌, ◌++◌, length, decimal, refl, sym, arith, length-append}
use Rattle.std.proofs.lemmas.Fmt.{AppendsLastDigit, decimal_from_appends, length-decimal-le}
use Rattle.std.proofs.Math.Nat.{pow-succ'}
use borrow.Author.Tests.{lt-ltb, le-ltb, ltb-true, ltb-false}
use lib.Dec.{ltb}
use Rattle.line.specs.Text.{places, last_digits, decimal_of}

-- ---- how many

pub places-small : (more n : ℕ) → n < 10 → places more n ≡ 1
unfolding places
places-small zero n small = refl
places-small (suc more) n small = rw (lt-ltb n 10 small) refl

places-large : (more n : ℕ) → 10 ≤ n → places (suc more) n ≡ suc (places more (n / 10))
unfolding places
places-large more n large = rw (le-ltb n 10 large) refl

-- What a number has above its last digit, and a digit more.
low : (p n : ℕ) → 10 ≤ n → (1 < p → 10 ^ (p - 1) ≤ n / 10) → 10 ^ p ≤ n
low zero n several below = omega arith
low (suc zero) n several below = several
low (suc (suc j)) n several below =
    let one_less : suc (suc j) - 1 ≡ suc j = omega arith in
    let held : 10 ^ suc j ≤ n / 10 = rw one_less at (below (omega arith)) in
    rw (pow-succ' 10 (suc j)) (omega arith)

-- They are the fewest that hold it.
pub fewest : (more n : ℕ) → n < 10 ^ suc more
    → (n < 10 ^ places more n) × (1 < places more n → 10 ^ (places more n - 1) ≤ n)
unfolding places
fewest zero n small = (small, λ several. absurd (omega arith))
fewest (suc more) n small = go (ltb n 10) refl (fewest more (n / 10) shorter)
  where
    shorter : n / 10 < 10 ^ suc more
    shorter = let whole : n < 10 * 10 ^ suc more = rw (← pow-succ' 10 (suc more)) small in omega arith

    go : (t : Bool) → ltb n 10 ≡ t
        → (n / 10 < 10 ^ places more (n / 10)) × (1 < places more (n / 10) → 10 ^ (places more (n / 10) - 1) ≤ n / 10)
        → (n < 10 ^ places (suc more) n) × (1 < places (suc more) n → 10 ^ (places (suc more) n - 1) ≤ n)
    go true e rest = rw e (ltb-true n 10 e, λ several. absurd (omega arith))
    go false e rest =
        let p = places more (n / 10) in
        let many : 10 ≤ n = ltb-false n 10 e in
        let one_less : suc p - 1 ≡ p = omega arith in
        rw e (rw (pow-succ' 10 p) (omega (arith, rest.0)), λ several. rw one_less (low p n many rest.1))

pub length-last_digits : (k n : ℕ) → length (last_digits k n) ≡ k
length-last_digits zero n = refl
length-last_digits (suc k) n = rw (length-append, length-last_digits k (n / 10)) (omega arith)

pub length-decimal_of : (n : ℕ) → length (decimal_of n) ≡ places 9 n
unfolding decimal_of
length-decimal_of n = length-last_digits (places 9 n) n

-- ---- as std writes them

-- The digits of a number that has at most so many.
digits_in : ℕ → ℕ → List ℕ
digits_in zero n = []
digits_in (suc more) n = last_digits (places more n) n

last_appended : AppendsLastDigit digits_in
unfolding places digits_in
last_appended = record { one = one; more = more }
  where
    one : (k n : ℕ) → n < 10 → digits_in (suc k) n ≡ (48 + n) ∷ []
    one k n small =
        let digit : n % 10 ≡ n = omega arith in
        rw (places-small k n small, digit) refl

    more : (k n : ℕ) → 10 ≤ n → digits_in (suc k) n ≡ digits_in k (n / 10) ++ ((48 + n % 10) ∷ [])
    more zero n large = refl
    more (suc k) n large = rw (places-large k n large) refl

pub decimal_of-decimal : (n : ℕ) → n < 2 ^ 32 → decimal n ≡ decimal_of n
unfolding decimal_of digits_in
decimal_of-decimal n small =
    sym (decimal_from_appends digits_in last_appended 10 n (omega arith) (length-decimal-le 10 n (omega arith) (omega arith) (omega arith)))
