-- `put` meets its contract: what is still to be put in makes of the bytes so far what is promised.
use Prim.Native.Nat.{ℕ, suc, ◌+◌, ◌-◌, ◌/◌, ◌%◌, ◌≤◌, ◌<◌}
use native.Mathlib.Numerals.{add-one}
use native.Mathlib.Omega.{arith}
use mathlib.Core.Path.{◌≡◌, sym, ap, ◌∙◌}
use mathlib.Core.List.{List, ◌++◌, append_assoc}
use lib.ListN.{length, take, drop, set, length-set, length-drop, drop_of_length-le}
use lib.Seq.{sets, sets-eq}
use borrow.Rule.Slice.PartMut.{put_mid, Post-is}
use Rattle.std.proofs.lemmas.List.{append-nil, length-take-le}
use Rattle.little_endian.specs.Number.{bytes_of}
use Rattle.little_endian.proofs.Widths.{length-bytes}
use Rattle.little_endian.proofs.put.Goals as goal

-- one byte more
next : (bytes : List ℕ) (index width rest : ℕ) → index < width
    → sets (set bytes index (rest % 256)) (index + 1) (bytes_of (width - (index + 1)) (rest / 256))
    ≡ sets bytes index (bytes_of (width - index) rest)
unfolding bytes_of
next bytes index width rest h =
    let left : width - index ≡ suc (width - (index + 1)) = omega arith in
    rw (left, add-one index)

-- all of them
all : (xs ys : List ℕ) → length xs ≡ length ys → sets xs 0 ys ≡ ys
all xs ys h =
    sets-eq ys xs 0 (omega arith)
    ∙ ap (λ (l : List ℕ). ys ++ l) (drop_of_length-le xs {i = 0 + length ys} (omega arith))
    ∙ append-nil ys

-- the part put back
back : (at width : ℕ) (bytes part ys : List ℕ) → at + width ≤ length bytes → part ≡ ys → length ys ≡ width
    → put_mid at (at + width - at) bytes part ≡ sets bytes at ys
back at width bytes part ys room e long =
    ap (put_mid at (at + width - at) bytes) e
    ∙ ap (λ (l : List ℕ). take at bytes ++ (ys ++ l)) (Post-is at (at + width) bytes (omega arith))
    ∙ sym (append_assoc (take at bytes) ys (drop (at + width) bytes))
    ∙ ap (λ n. take at bytes ++ ys ++ drop (at + n) bytes) (sym long)
    ∙ sym (sets-eq ys bytes at (omega arith))

pub loop-byte-init : goal.loop-byte-init
loop-byte-init c =
    let a = c.args in
    let part = take (a.at + a.width - a.at) (drop a.at a.bytes.now) in
    let long : length part ≡ a.width = length-take-le _ (drop a.at a.bytes.now) (omega (arith, length-drop a.at a.bytes.now)) ∙ omega arith in
    let none : a.width - 0 ≡ a.width = omega arith in
    (long, ap (λ n. sets part 0 (bytes_of n a.number)) none ∙ all part (bytes_of a.width a.number) (long ∙ sym (length-bytes a.width a.number)))

pub loop-byte-preserved : goal.loop-byte-preserved
loop-byte-preserved c =
    let loop = c.loop-byte in
    (length-set loop.byte-items loop.byte-index (loop.rest % 256) ∙ loop.invariant.0, next loop.byte-items loop.byte-index _ loop.rest (omega arith) ∙ loop.invariant.1)

pub returns : goal.returns
unfolding bytes_of
returns c =
    let a = c.args in
    let loop = c.loop-byte in
    let none : a.width - loop.byte-index ≡ 0 = omega arith in
    let put : loop.byte-items ≡ bytes_of a.width a.number =
    ap (λ n. sets loop.byte-items loop.byte-index (bytes_of n loop.rest)) (sym none) ∙ loop.invariant.1 in
    back a.at a.width a.bytes.now loop.byte-items (bytes_of a.width a.number) (omega arith) put (length-bytes a.width a.number)
