-- What the beginning of a file tells of the file.
-- Assumes nothing.
use Prim.Native.Nat.{ℕ, zero, suc, ◌+◌, ◌*◌, ◌-◌, ◌≤◌, ◌<◌}
use mathlib.Core.Path.{◌≡◌, refl, sym, ap, ap₂, ◌∙◌}
use mathlib.Core.Bool.{Bool, true, false, ◌&&◌, cond, true≢false}
use mathlib.Core.List.{List, [], ◌∷◌, ◌++◌}
use native.Mathlib.Omega.{arith}
use native.Mathlib.Nat.{add-zero, add-suc}
use lib.Dec.{leb, eqb}
use lib.ListN.{length, take, drop, length-take, length-drop}
use lib.Seq.{get_or-take, length-take-le, take-take}
use borrow.Author.Tests.{leb-true, leb-false, eqb-true, le-leb, lt-leb}
use Rattle.answer.specs.declared.Answer.TheVariants.{WrongShape, TooManyEvents, WrongMemoryLength}
use Rattle.little_endian.specs.Number.{number_at}
use Rattle.little_endian.proofs.Tests.{both, all_three}
use Rattle.little_endian.proofs.Widths.{number-take}
use Rattle.decoder.specs.Item.{Item}
use Rattle.std.specs.Prelude.{Err, Ok}
use Rattle.decoder.specs.declared.Undecoded.TheVariants.{UnknownKind, WrongBodyLength}
use Rattle.trace.specs.declared.Header.{Header}
use Rattle.trace.specs.File.{Shape}
use Rattle.decoder.specs.Kinds.{in_ranges, is_decoded, overlong}
use Rattle.trace.specs.File.{events_in, header_in, reserved_zero, entry_at, kind_in, body_length_in, entries_zero, body_lengths, body_start, body_in, is_shape, is_memory_length, first, shape_of, first_items, item_in, recorded, contents_of, file_of}
use Rattle.trace.specs.Beginning.{enough, held_item, held_item_in, held_contents, held_of, checked_file, check_of}
use Rattle.trace.proofs.Entries.{more-lengths, whole_entry}
use Rattle.trace.proofs.Faults.{all_decoded, all_append}
use Rattle.trace.proofs.Alike.{Following, same-fault}
use Rattle.decoder.proofs.Rows.{long_body}
use Rattle.trace.proofs.Shapes.{formed, table_held}

-- Body lengths only grow.
grows : (f : List ℕ) (i d : ℕ) → body_lengths f i ≤ body_lengths f (i + d)
unfolding body_lengths
grows f i zero = rw add-zero (omega arith)
grows f i (suc d) = let rest = grows f i d in rw (add-suc i d) (omega arith)

-- The bodies of a file of the right length lie inside it.
inside : (f : List ℕ) (i : ℕ) → is_shape f (length f) ≡ true → i < events_in f → body_start f i + body_length_in f i ≤ length f
unfolding is_shape
inside f i h few =
    let parts = both (leb (entry_at (events_in f)) (length f)) _ h in
    let tests = all_three (eqb (length f) (body_start f (events_in f))) (reserved_zero f) (entries_zero f (events_in f)) parts.1 in
    let exact = eqb-true (length f) (body_start f (events_in f)) tests.0 in
    let left : i + 1 + (events_in f - (i + 1)) ≡ events_in f = omega arith in
    let most = rw left at (grows f (i + 1) (events_in f - (i + 1))) in
    let more = more-lengths f i in
    omega arith

-- A file that is held whole has its own items ..
whole_item : (limit : ℕ) (f : List ℕ) (h : Header) (i : ℕ) → shape_of limit f (length f) ≡ Ok h → i < h.events
    → held_item_in f i ≡ item_in f i
unfolding held_item
whole_item limit f h i e few =
    let p = formed limit (length f) f h e in
    let same = ap (λ (g : Header). g.events) p.0 in
    let table = table_held f (length f) p.2 in
    let within = inside f i p.2 (omega arith) in
    rw (whole_entry f i (omega arith), le-leb (body_start f i + body_length_in f i) (length f) within)

same-items : (a b : ℕ → Item) (n : ℕ) → ((i : ℕ) → i < n → b i ≡ a i) → first_items b n ≡ first_items a n
unfolding first_items
same-items a b zero same = refl
same-items a b (suc n) same = ap₂ (λ l x. l ++ x ∷ []) (same-items a b n (λ i l. same i (omega arith))) (same n (omega arith))

-- .. and so says what the file says.
pub held_whole_lem : (limit : ℕ) (f : List ℕ) → held_of limit f (length f) ≡ file_of limit f
unfolding held_of file_of
held_whole_lem limit f = by_shape (shape_of limit f (length f)) refl
  where
    by_shape : (s : Shape) → shape_of limit f (length f) ≡ s → held_contents f s ≡ contents_of f s
    by_shape (Err answer) e = refl
    by_shape (Ok h) e =
        ap (recorded h) (same-items (item_in f) (held_item_in f) h.events (λ i few. whole_item limit f h i e few))

-- A beginning of k bytes has the file's bytes up to there.
module _ (k : ℕ) (f : List ℕ) where
  number-there : (w i : ℕ) → i + w ≤ k → number_at w (take k f) i ≡ number_at w f i
  number-there w i = number-take w k f i

  reaches : (m : ℕ) → m ≤ k → leb m (length (take k f)) ≡ leb m (length f)
  reaches m h = go (leb m (length f)) refl
    where
      go : (t : Bool) → leb m (length f) ≡ t → leb m (length (take k f)) ≡ t
      go true e = le-leb m (length (take k f)) (omega (arith, length-take k f, leb-true m (length f) e))
      go false e = lt-leb m (length (take k f)) (omega (arith, length-take k f, leb-false m (length f) e))

  lengths-there : (i : ℕ) → entry_at i ≤ k → body_lengths (take k f) i ≡ body_lengths f i
  unfolding body_lengths
  lengths-there zero h = refl
  lengths-there (suc i) h = rw (lengths-there i (omega arith), number-there 2 (entry_at i + 2) (omega arith))

  zeros-there : (i : ℕ) → entry_at i ≤ k → entries_zero (take k f) i ≡ entries_zero f i
  unfolding entries_zero
  zeros-there zero h = refl
  zeros-there (suc i) h = rw (zeros-there i (omega arith), get_or-take k f (entry_at i + 1) 0 (omega arith))

  shape_there : (total : ℕ) → entry_at (events_in f) ≤ k → is_shape (take k f) total ≡ is_shape f total
  unfolding is_shape
  shape_there total h =
      rw (
        number-there 2 0 (omega arith),
        number-there 2 2 (omega arith),
        reaches (entry_at (events_in f)) h,
        lengths-there (events_in f) h,
        zeros-there (events_in f) h,
      )

part-there : (s n k : ℕ) (f : List ℕ) → s + n ≤ k → take n (drop s (take k f)) ≡ take n (drop s f)
part-there zero n k f h = take-take n k f (omega arith)
part-there (suc s) n zero f h = absurd (omega arith)
part-there (suc s) n (suc k) [] h = refl
part-there (suc s) n (suc k) (b ∷ f) h = part-there s n k f (omega arith)

-- Enough first bytes decide on the shape ..
pub shape_decided : (limit k : ℕ) (f : List ℕ) → enough limit ≤ k
    → shape_of limit (take k f) (length f) ≡ shape_of limit f (length f)
unfolding shape_of
shape_decided limit k f h =
    rw (
      number-there k f 2 0 (omega arith),
      number-there k f 4 4 (omega arith),
      number-there k f 4 8 (omega arith),
      reaches k f 12 (omega arith),
      le-leb (length (take k f)) (length f) (omega (arith, length-take k f)),
      le-leb (length f) (length f) (omega arith),
    )
    (go (leb (events_in f) limit) refl)
  where
    checks : Bool → Bool → Shape
    checks few shape =
        first (leb 12 (length f) && true) WrongShape
        (first few TooManyEvents
        (first shape WrongShape
        (first (is_memory_length (header_in f).global && is_memory_length (header_in f).shared) WrongMemoryLength (Ok (header_in f)))))

    go : (t : Bool) → leb (events_in f) limit ≡ t
        → checks (leb (events_in f) limit) (is_shape (take k f) (length f)) ≡ checks (leb (events_in f) limit) (is_shape f (length f))
    go true e = ap (checks (leb (events_in f) limit)) (shape_there k f (length f) (omega (arith, leb-true (events_in f) limit e)))
    go false e = rw e

-- A body that lies inside its file is as long as its entry says.
length_body : (f : List ℕ) (i : ℕ) → body_start f i + body_length_in f i ≤ length f → length (body_in f i) ≡ body_length_in f i
length_body f i h = length-take-le (body_length_in f i) (drop (body_start f i) f) (rw length-drop (omega arith))

overlong-fault : (kind : ℕ) → is_decoded (overlong kind) ≡ false
unfolding overlong
overlong-fault kind = go (in_ranges kind) refl
  where
    go : (t : Bool) → in_ranges kind ≡ t → is_decoded (cond t (Err WrongBodyLength) (Err UnknownKind)) ≡ false
    go true e = refl
    go false e = refl

-- A body that decodes has at most 24 bytes.
short_body : (f : List ℕ) (i : ℕ) → body_start f i + body_length_in f i ≤ length f → is_decoded (item_in f i) ≡ true
    → body_length_in f i ≤ 24
short_body f i within decoded = go (leb (body_length_in f i) 24) refl
  where
    long : 24 < body_length_in f i → is_decoded (item_in f i) ≡ false
    long h = rw (long_body (kind_in f i) (body_in f i) (rw (length_body f i within) h)) (overlong-fault (kind_in f i))

    go : (t : Bool) → leb (body_length_in f i) 24 ≡ t → body_length_in f i ≤ 24
    go true e = leb-true (body_length_in f i) 24 e
    go false e = absurd (true≢false (sym decoded ∙ long (leb-false (body_length_in f i) 24 e)))

short_bodies : (f : List ℕ) (i : ℕ) → is_shape f (length f) ≡ true → i ≤ events_in f
    → all_decoded (first_items (item_in f) i) ≡ true → body_lengths f i ≤ 24 * i
unfolding body_lengths first_items
short_bodies f zero shape few decoded = omega arith
short_bodies f (suc i) shape few decoded =
    let items = first_items (item_in f) i in
    let parts = both (all_decoded items) (is_decoded (item_in f i) && true) (sym (all_append items (item_in f i ∷ [])) ∙ decoded) in
    let last = both (is_decoded (item_in f i)) true parts.1 in
    let earlier = short_bodies f i shape (omega arith) parts.0 in
    let this = short_body f i (inside f i shape (omega arith)) last.0 in
    omega arith

-- What is not reached by then is longer than any body.
module _ (limit k : ℕ) (f : List ℕ) (i : ℕ) (long : enough limit ≤ k) (most : events_in f ≤ limit) (few : i < events_in f)
    (within : body_start f i + body_length_in f i ≤ length f) (short : body_lengths f i ≤ 24 * i) where
  reached : (t : Bool) → leb (body_start f i + body_length_in f i) k ≡ t
      → held_item (take k f) (body_start f i) (record { kind = kind_in f i; length = body_length_in f i }) ≡ item_in f i
  unfolding held_item
  reached true t =
      let reach = leb-true (body_start f i + body_length_in f i) k t in
      rw (
        le-leb (body_start f i + body_length_in f i) (length (take k f)) (omega (arith, length-take k f)),
        part-there (body_start f i) (body_length_in f i) k f reach,
      )
  reached false t =
      let past = leb-false (body_start f i + body_length_in f i) k t in
      let over : 24 < body_length_in f i = omega arith in
      rw (lt-leb (body_start f i + body_length_in f i) (length (take k f)) (omega (arith, length-take k f)))
      (sym (long_body (kind_in f i) (body_in f i) (rw (length_body f i within) over)))

-- Up to the first item that does not decode, the beginning has the file's items.
pub items-there : (limit k : ℕ) (f : List ℕ) (h : Header) → enough limit ≤ k → shape_of limit f (length f) ≡ Ok h
    → Following (item_in f) (held_item_in (take k f)) h.events
items-there limit k f h long e i few decoded =
    let p = formed limit (length f) f h e in
    let same = ap (λ (g : Header). g.events) p.0 in
    let most = p.1 in
    let table = table_held f (length f) p.2 in
    let within = inside f i p.2 (omega arith) in
    let short = short_bodies f i p.2 (omega arith) decoded in
    rw (
      whole_entry (take k f) i (omega (arith, length-take k f)),
      number-there k f 2 0 (omega arith),
      number-there k f 2 (entry_at i + 2) (omega arith),
      lengths-there k f i (omega arith),
      get_or-take k f (entry_at i) 0 (omega arith),
    )
    (reached limit k f i long most (omega arith) within short (leb (body_start f i + body_length_in f i) k) refl)

-- .. and on the first fault.
pub check_decided : (limit k : ℕ) (f : List ℕ) → enough limit ≤ k
    → check_of limit (take k f) (length f) ≡ checked_file (file_of limit f)
unfolding check_of held_of file_of
check_decided limit k f long = rw (shape_decided limit k f long) (go (shape_of limit f (length f)) refl)
  where
    go : (s : Shape) → shape_of limit f (length f) ≡ s → checked_file (held_contents (take k f) s) ≡ checked_file (contents_of f s)
    go (Err answer) e = refl
    go (Ok h) e =
        same-fault (item_in f) (held_item_in (take k f)) h.events (Ok h) (items-there limit k f h long e)
