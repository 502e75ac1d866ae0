-- What a line holds when a number more is put into it.
-- Assumes nothing.
use Rattle.std.proofs.Common.{◌≡◌, ℕ, suc, ◌+◌, ◌-◌, ◌/◌, ◌≤◌, ◌<◌, List, [], ◌∷◌, ◌++◌, true, false, cond, ◌&&◌, ltb, leb, length, get_or, take, drop, set, refl, sym, ap, ap₂, ◌∙◌, arith, add-one, append_assoc, append-nil, length-append, length-drop, length-take-le}
use Rattle.std.proofs.lemmas.List.{take_at, drop_at, take_all, drop-drop, drop_all, set_at}
use Rattle.std.proofs.Math.Seq.{drop-cons, take-append_seam, drop-append-add}
use mathlib.Core.Bool.{and-false}
use borrow.Author.Tests.{lt-ltb, le-ltb, le-leb, lt-leb}
use borrow.Rule.Slice.PartMut.{put_mid, same_len_mid}
use Rattle.line.specs.Text.{IsPrefixLen, decimal_of, end_of, text_of, line_of, count_of, leaves_of, named_line, room_for_both, named_count, named_leaves}

-- Digits put to an index, and one byte more behind them.
pub put_line : (s : List ℕ) (at k : ℕ) (d : List ℕ) (e : ℕ) → at + k < length s → length d ≡ k
    → set (put_mid at (at + k - at) s d) (at + k) e ≡ take at s ++ (d ++ e ∷ drop (at + k + 1) s)
put_line s at k d e room count =
    let past : at + (at + k - at) ≡ at + k = omega arith in
    let rest : drop (at + k - at) (drop at s) ≡ get_or s (at + k) 0 ∷ drop (suc (at + k)) s =
    drop-drop (at + k - at) at s ∙ ap (λ n. drop n s) past ∙ drop-cons s (at + k) 0 room in
    let front : length (take at s ++ d) ≡ at + k = rw (length-append, length-take-le at s (omega arith), count) refl in
    rw (rest, ← append_assoc (take at s) d (get_or s (at + k) 0 ∷ drop (suc (at + k)) s), set_at (take at s ++ d) (get_or s (at + k) 0) (drop (suc (at + k)) s) e (at + k) front, add-one)
    (append_assoc (take at s) d (e ∷ drop (suc (at + k)) s))

-- With a number more the line is the text of one number more, and the rest as it was.
pub grown : (numbers whole now then : List ℕ) (i at r e : ℕ) → at ≡ length (text_of numbers i) → now ≡ text_of numbers i ++ drop at whole
    → r ≡ at + length (decimal_of (get_or numbers i 0)) + 1
    → e ≡ end_of numbers i
    → then ≡ take at now ++ (decimal_of (get_or numbers i 0) ++ e ∷ drop r now)
    → (r ≡ length (text_of numbers (i + 1))) × (then ≡ text_of numbers (i + 1) ++ drop r whole)
unfolding text_of
grown numbers whole now then i at r e here held count end put =
    let digits = decimal_of (get_or numbers i 0) in
    let text = text_of numbers i in
    let before : take at now ≡ text = rw (held, here) (take-append_seam text (drop (length text) whole)) in
    let more = length digits + 1 in
    let at-text : r ≡ length text + more = omega arith in
    let at-start : at + more ≡ r = omega arith in
    let past : drop r now ≡ drop r whole =
    ap (λ (n : ℕ). drop n now) at-text ∙ ap (drop (length text + more)) held ∙ drop-append-add text (drop at whole) more
    ∙ drop-drop more at whole
    ∙ ap (λ (n : ℕ). drop n whole) at-start in
    let next : text_of numbers (i + 1) ≡ text ++ (digits ++ end_of numbers i ∷ []) = ap (text_of numbers) (add-one i) in (
      rw (next, length-append text (digits ++ end_of numbers i ∷ []), length-append digits (end_of numbers i ∷ [])) (omega arith),
      rw (next, put, before, past, end, append_assoc text (digits ++ end_of numbers i ∷ []) (drop r whole))
          (sym (ap (λ (l : List ℕ). text ++ l) (append_assoc digits (end_of numbers i ∷ []) (drop r whole)))),
    )

-- With room the line is written, and without nothing is.
module _ (numbers out : List ℕ) where
  pub with_room : (r : ℕ) (then : List ℕ) → length numbers ≤ length out / 11 → r ≡ length (line_of numbers)
      → then ≡ line_of numbers ++ drop r out
      → (r ≡ count_of numbers out) × (then ≡ leaves_of numbers out)
  unfolding count_of leaves_of
  with_room r then room count laid = (
    rw (le-leb (length numbers) (length out / 11) room) count,
    rw (le-leb (length numbers) (length out / 11) room, ← count) laid,
  )

  pub without-room : length out / 11 < length numbers → (0 ≡ count_of numbers out) × (out ≡ leaves_of numbers out)
  unfolding count_of leaves_of
  without-room short = (rw (lt-leb (length numbers) (length out / 11) short), rw (lt-leb (length numbers) (length out / 11) short))

  -- of what is lent, just the line is to be written
  pub line_alone : (count : ℕ) (laid : List ℕ) → length numbers ≤ length out / 11 → count ≡ count_of numbers out
      → laid ≡ leaves_of numbers out
      → take count laid ≡ line_of numbers
  unfolding count_of leaves_of
  line_alone count laid room counted is =
      let fits = le-leb (length numbers) (length out / 11) room in
      let long : count ≡ length (line_of numbers) = counted ∙ ap (λ t. cond t (length (line_of numbers)) 0) fits in
      let held : laid ≡ line_of numbers ++ drop (length (line_of numbers)) out =
      is ∙ ap (λ t. cond t (line_of numbers ++ drop (length (line_of numbers)) out) out) fits in
      rw (held, long) (take-append_seam (line_of numbers) (drop (length (line_of numbers)) out))

-- ---- a name before the numbers
module _ (name out copied : List ℕ) (room : length name < length out)
    (copy : copied ≡ name ++ drop (length name) out) where
  -- the name and the space, and the rest as it was
  spaced-is : set copied (length name) 32 ≡ name ++ 32 ∷ drop (length name + 1) out
  spaced-is =
      ap (λ l. set l (length name) 32) (copy ∙ ap (λ l. name ++ l) (drop-cons out (length name) 0 room))
      ∙ set_at name (get_or out (length name) 0) (drop (suc (length name)) out) 32 (length name) refl
      ∙ ap (λ k. name ++ 32 ∷ drop k out) (sym (add-one (length name)))

  pub spaced-long : length (set copied (length name) 32) ≡ length out
  spaced-long =
      ap length spaced-is ∙ length-append name (32 ∷ drop (length name + 1) out)
      ∙ omega (arith, length-drop (length name + 1) out)

  front : name ++ 32 ∷ drop (length name + 1) out ≡ (name ++ 32 ∷ []) ++ drop (length name + 1) out
  front = sym (append_assoc name (32 ∷ []) (drop (length name + 1) out))

  front_long : length (name ++ 32 ∷ []) ≡ length name + 1
  front_long = length-append name (32 ∷ [])

  -- the part that is lent for the numbers is what is left
  pub part_is : take (length (set copied (length name) 32) - (length name + 1)) (drop (length name + 1) (set copied (length name) 32))
      ≡ drop (length name + 1) out
  part_is =
      let rest : drop (length name + 1) (set copied (length name) 32) ≡ drop (length name + 1) out =
      ap (drop (length name + 1)) (spaced-is ∙ front)
      ∙ drop_at (name ++ 32 ∷ []) (drop (length name + 1) out) (length name + 1) front_long in
      ap (take (length (set copied (length name) 32) - (length name + 1))) rest
      ∙ take_all (length (set copied (length name) 32) - (length name + 1)) (drop (length name + 1) out) (omega (arith, length-drop (length name + 1) out, spaced-long))

  pub named-is : (laid : List ℕ)
      → put_mid (length name + 1) (length (set copied (length name) 32) - (length name + 1)) (set copied (length name) 32) laid
      ≡ name ++ 32 ∷ laid
  named-is laid =
      let before : take (length name + 1) (set copied (length name) 32) ≡ name ++ 32 ∷ [] =
      ap (take (length name + 1)) (spaced-is ∙ front)
      ∙ take_at (name ++ 32 ∷ []) (drop (length name + 1) out) (length name + 1) front_long in
      let nothing : drop (length (set copied (length name) 32) - (length name + 1)) (drop (length name + 1) (set copied (length name) 32)) ≡ [] =
      drop_all (length (set copied (length name) 32) - (length name + 1)) (drop (length name + 1) (set copied (length name) 32))
      (omega (arith, length-drop (length name + 1) (set copied (length name) 32))) in
      ap₂ (λ l r. l ++ (laid ++ r)) before nothing
      ∙ ap (λ l. (name ++ 32 ∷ []) ++ l) (append-nil laid) ∙ append_assoc name (32 ∷ []) laid

  pub whole_long : (laid : List ℕ)
      → length laid
      ≡ length (take (length (set copied (length name) 32) - (length name + 1)) (drop (length name + 1) (set copied (length name) 32)))
      → length (put_mid (length name + 1) (length (set copied (length name) 32) - (length name + 1)) (set copied (length name) 32) laid)
      ≡ length out
  whole_long laid same =
      same_len_mid (length name + 1) (length (set copied (length name) 32) - (length name + 1)) (set copied (length name) 32) laid same
      ∙ spaced-long

-- What is left and counted, with room for both and without.
module _ (name numbers out : List ℕ) where
  pub both_laid : (laid : List ℕ) (count : ℕ) → length name < length out
      → length numbers ≤ (length out - (length name + 1)) / 11
      → count ≡ count_of numbers (drop (length name + 1) out) → laid ≡ leaves_of numbers (drop (length name + 1) out)
      → (length name + 1 + count ≡ named_count name numbers out) × (name ++ 32 ∷ laid ≡ named_leaves name numbers out)
  unfolding count_of leaves_of named_count named_leaves
  both_laid laid count room few counted leaves =
      let rest = length-drop (length name + 1) out in
      let fits : leb (length numbers) (length (drop (length name + 1) out) / 11) ≡ true =
      ap (λ n. leb (length numbers) (n / 11)) rest ∙ le-leb (length numbers) ((length out - (length name + 1)) / 11) few in
      let rest_of = drop (length name + 1) out in
      let laid-fits : leaves_of numbers rest_of ≡ line_of numbers ++ drop (length (line_of numbers)) rest_of =
      ap (λ t. cond t (line_of numbers ++ drop (length (line_of numbers)) rest_of) rest_of) fits in
      let all : length (named_line name numbers) ≡ length name + 1 + length (line_of numbers) =
      length-append name (32 ∷ line_of numbers) ∙ omega arith in
      let past : drop (length (line_of numbers)) (drop (length name + 1) out) ≡ drop (length (named_line name numbers)) out =
      drop-drop (length (line_of numbers)) (length name + 1) out ∙ ap (λ n. drop n out) (sym all) in (
        rw (lt-ltb (length name) (length out) room, le-leb (length numbers) ((length out - (length name + 1)) / 11) few)
            (ap (λ n. length name + 1 + n) (counted ∙ ap (λ t. cond t (length (line_of numbers)) 0) fits) ∙ sym all),
        rw (lt-ltb (length name) (length out) room, le-leb (length numbers) ((length out - (length name + 1)) / 11) few)
            (ap (λ l. name ++ 32 ∷ l) (leaves ∙ laid-fits ∙ ap (λ l. line_of numbers ++ l) past)
            ∙ sym (append_assoc name (32 ∷ line_of numbers) (drop (length (named_line name numbers)) out))),
      )

  none_laid : room_for_both name numbers out ≡ false → (0 ≡ named_count name numbers out) × (out ≡ named_leaves name numbers out)
  unfolding named_count named_leaves
  none_laid h = (rw h, rw h)

  pub no_room_for_name : length out ≤ length name → (0 ≡ named_count name numbers out) × (out ≡ named_leaves name numbers out)
  no_room_for_name h = none_laid (rw (le-ltb (length name) (length out) h))

  pub no_room_for_numbers : (length out - (length name + 1)) / 11 < length numbers
      → (0 ≡ named_count name numbers out) × (out ≡ named_leaves name numbers out)
  no_room_for_numbers h =
      none_laid (ap (λ t. ltb (length name) (length out) && t) (lt-leb (length numbers) ((length out - (length name + 1)) / 11) h)
      ∙ and-false (ltb (length name) (length out)))

-- What stands in the end, where the numbers are laid out in what is left.
module _ (name numbers out copied laid : List ℕ) (count : ℕ) (room : length name < length out)
    (few : length numbers ≤ (length out - (length name + 1)) / 11)
    (copy : copied ≡ name ++ drop (length name) out) where
  abbrev spaced : List ℕ
  spaced = set copied (length name) 32

  abbrev part : List ℕ
  part = take (length spaced - (length name + 1)) (drop (length name + 1) spaced)

  abbrev whole : List ℕ
  whole = put_mid (length name + 1) (length spaced - (length name + 1)) spaced laid

  pub all_laid : count ≡ count_of numbers part → laid ≡ leaves_of numbers part → count ≤ length laid
      → (length name + 1 + count ≡ named_count name numbers out)
      × ((whole ≡ named_leaves name numbers out) × IsPrefixLen (length name + 1 + count) whole)
  all_laid counted leaves within =
      let same = part_is name out copied room copy in
      let (total, line) = both_laid name numbers out laid count room few
      (counted ∙ ap (count_of numbers) same) (leaves ∙ ap (leaves_of numbers) same) in
      let stands = named-is name out copied room copy laid in
      let inside : length name + 1 + count ≤ length whole =
      omega (arith, ap length stands, length-append name (32 ∷ laid), within) in
      (total, (stands ∙ line, (inside, sym (length-take-le (length name + 1 + count) whole inside))))
