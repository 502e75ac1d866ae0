-- What stands in the beginning when a piece more is kept.
-- Assumes nothing.
use Rattle.std.proofs.Common.{◌≡◌, ℕ, suc, ◌+◌, ◌-◌, ◌≤◌, ◌<◌, min, List, [], ◌∷◌, ◌++◌, length, take, drop, refl, sym, ap, ap₂, ◌∙◌, arith, append-nil}
use Rattle.std.proofs.Math.Nat.{sub-zero, zero-sub, suc-sub-suc, zero-add, suc-add}
use Rattle.std.proofs.lemmas.List.{take_all, take_min, drop-drop, drop_all, drop_min}
use Rattle.std.proofs.Math.Seq.{take-nil, drop-nil}
use Rattle.input.specs.Held.{beginning_with, kept_in}

-- A write to the part of what is lent that a piece fits.
pub kept-copied : (piece lent copied : List ℕ) (at count : ℕ) → at < length lent → count ≡ min (length piece) (length lent - at)
    → copied ≡ take count piece
    → take at lent ++ (copied ++ drop (at + count - at) (drop at lent)) ≡ kept_in piece at lent
unfolding kept_in
kept-copied piece lent copied at count room least copy =
    let space = length lent - at in
    let as_read : count ≡ min space (length piece) = omega arith in
    let first : copied ≡ take space piece = copy ∙ ap (λ n. take n piece) as_read ∙ take_min space piece in
    let past : at + (at + count - at) ≡ at + min (length piece) space = omega arith in
    let rest : drop (at + count - at) (drop at lent) ≡ drop (at + min (length piece) space) lent =
    drop-drop (at + count - at) at lent ∙ ap (λ n. drop n lent) past in
    ap₂ (λ l r. take at lent ++ (l ++ r)) first rest

-- Where there is no room, nothing changes.
pub none-kept : (piece lent : List ℕ) (at : ℕ) → length lent ≤ at → lent ≡ kept_in piece at lent
unfolding kept_in
none-kept piece lent at full =
    let no-room : length lent - at ≡ 0 = omega arith in
    let over : drop (at + min (length piece) (length lent - at)) lent ≡ [] =
    drop_all (at + min (length piece) (length lent - at)) lent (omega arith) in
    sym (ap₂ (λ l r. l ++ (take (length lent - at) piece ++ r)) (take_all at lent full) over
    ∙ ap (λ n. lent ++ (take n piece ++ [])) no-room ∙ append-nil lent)

-- ---- Pieces, one after the other, are one input.

drop-least : (piece lent : List ℕ) → drop (min (length piece) (length lent)) lent ≡ drop (length piece) lent
drop-least piece lent = drop_min (length piece) lent

pub nothing-yet : (lent : List ℕ) → beginning_with [] lent ≡ lent
unfolding beginning_with
nothing-yet lent = rw (take-nil (length lent)) refl

-- A piece that is kept after the bytes of an input makes the beginning of both together.
pub kept-after : (input piece lent : List ℕ)
    → kept_in piece (length input) (beginning_with input lent) ≡ beginning_with (input ++ piece) lent
unfolding kept_in beginning_with
kept-after [] piece lent = rw (nothing-yet lent, sub-zero (length lent), zero-add, drop-least piece lent)
kept-after (x ∷ input) piece [] = rw (zero-sub, drop-nil (suc (length input) + min (length piece) 0))
kept-after (x ∷ input) piece (y ∷ lent) =
    let held = beginning_with input lent in
    let left : suc (length held) - suc (length input) ≡ length held - length input = suc-sub-suc (length held) (length input) in
    rw (left, suc-add) (ap (◌∷◌ x) (kept-after input piece lent))
