-- Numbers in bytes, there and back, over any number of bytes.
-- Assumes nothing.
use Prim.Native.Nat.{ℕ, zero, suc, ◌+◌, ◌*◌, ◌/◌, ◌%◌, ◌^◌, ◌≤◌, ◌<◌}
use mathlib.Core.Path.{◌≡◌, refl, ap, ◌∙◌}
use mathlib.Core.List.{List, [], ◌∷◌, ◌++◌}
use native.Mathlib.Omega.{arith}
use native.Mathlib.Nat.{pow-succ', add-zero, zero-add, suc-add, mul_assoc}
use native.Mathlib.Numerals.{add-one}
use lib.Dec.{lit<}
use lib.ListN.{length, get_or, take, drop}
use lib.Seq.{drop-cons, get_or-take, get_or-drop}
use Rattle.little_endian.specs.Number.{Bytes, number_at, bytes_of}

-- A number in v and w bytes is that in the first v and that in the w after them.
pub halves : (v w : ℕ) (s : List ℕ) (i : ℕ) → number_at (v + w) s i ≡ number_at v s i + 256 ^ v * number_at w s (i + v)
unfolding number_at bytes_of
halves zero w s i = rw (zero-add w, add-zero i) (omega arith)
halves (suc v) w s i =
    let rest = halves v w s (i + 1) in
    let on : i + suc v ≡ i + 1 + v = omega arith in
    rw (suc-add v w, pow-succ' 256 v, mul_assoc, on) (omega arith)

-- Bytes make a number below what their count allows.
pub bounded : (w : ℕ) (s : List ℕ) (i : ℕ) → Bytes s → number_at w s i < 256 ^ w
unfolding Bytes number_at bytes_of
bounded zero s i bytes = lit< tt
bounded (suc w) s i bytes = let rest = bounded w s (i + 1) bytes in rw pow-succ' (omega (arith, bytes i))

-- A byte more in front moves every number on.
shift : (w a : ℕ) (s : List ℕ) (i : ℕ) → number_at w (a ∷ s) (suc i) ≡ number_at w s i
unfolding number_at bytes_of
shift zero a s i = refl
shift (suc w) a s i = rw (suc-add i 1, shift w a s (i + 1))

-- A number that its bytes can hold is read off them again ..
first : (w n : ℕ) (rest : List ℕ) → n < 256 ^ w → number_at w (bytes_of w n ++ rest) 0 ≡ n
unfolding number_at bytes_of
first zero n rest h = omega arith
first (suc w) n rest h =
    let more : n < 256 * 256 ^ w = rw (← pow-succ' 256 w) h in
    let high = first w (n / 256) rest (omega arith) in
    rw (shift w (n % 256) (bytes_of w (n / 256) ++ rest) 0) (omega arith)

-- .. wherever they stand.
pub there : (w n : ℕ) (before rest : List ℕ) → n < 256 ^ w → number_at w (before ++ (bytes_of w n ++ rest)) (length before) ≡ n
there w n [] rest h = first w n rest h
there w n (b ∷ before) rest h = shift w b (before ++ (bytes_of w n ++ rest)) (length before) ∙ there w n before rest h

-- A number that stands among the first bytes stands there in them alone ..
pub number-take : (w k : ℕ) (s : List ℕ) (i : ℕ) → i + w ≤ k → number_at w (take k s) i ≡ number_at w s i
unfolding number_at
number-take zero k s i h = refl
number-take (suc w) k s i h = rw (get_or-take k s i 0 (omega arith), number-take w k s (i + 1) (omega arith))

-- .. and one past them so much earlier in the others.
pub number-drop : (w k : ℕ) (s : List ℕ) (i : ℕ) → number_at w (drop k s) i ≡ number_at w s (k + i)
unfolding number_at
number-drop zero k s i = refl
number-drop (suc w) k s i =
    let on : k + (i + 1) ≡ k + i + 1 = omega arith in
    rw (get_or-drop k s i 0, number-drop w k s (i + 1), on)

-- The bytes of a number are bytes, as many as it was to have.
pub each-byte : (w n : ℕ) → Bytes (bytes_of w n)
unfolding Bytes bytes_of
each-byte zero n i = lit< tt
each-byte (suc w) n zero = omega arith
each-byte (suc w) n (suc i) = each-byte w (n / 256) i

pub length-bytes : (w n : ℕ) → length (bytes_of w n) ≡ w
unfolding bytes_of
length-bytes zero n = refl
length-bytes (suc w) n = ap suc (length-bytes w (n / 256))

-- Bytes are those of the number that stands there.
pub back : (w : ℕ) (s : List ℕ) (i : ℕ) → Bytes s → i + w ≤ length s → bytes_of w (number_at w s i) ++ drop (i + w) s ≡ drop i s
unfolding Bytes number_at bytes_of
back zero s i bytes h = rw add-zero
back (suc w) s i bytes h =
    let low : (get_or s i 0 + 256 * number_at w s (i + 1)) % 256 ≡ get_or s i 0 = omega (arith, bytes i) in
    let high : (get_or s i 0 + 256 * number_at w s (i + 1)) / 256 ≡ number_at w s (i + 1) = omega (arith, bytes i) in
    let here : i < length s = omega arith in
    let on : i + suc w ≡ i + 1 + w = omega arith in
    rw (low, high, on, back w s (i + 1) bytes (omega arith), add-one, drop-cons s i 0)
