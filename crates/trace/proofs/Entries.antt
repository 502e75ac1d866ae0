-- What the first entries come to with one more, what is held of a file, and the way from one body to the next.
-- Assumes nothing.
use Prim.Native.Nat.{ℕ, zero, suc, ◌+◌, ◌*◌, ◌-◌, ◌/◌, ◌≤◌, ◌<◌}
use mathlib.Core.Path.{◌≡◌, refl, sym, ap, ap₂, ◌∙◌}
use mathlib.Core.Bool.{◌&&◌, and-true}
use mathlib.Core.List.{List, [], ◌∷◌, ◌++◌, map, append_assoc}
use native.Mathlib.Omega.{arith}
use native.Mathlib.Numerals.{add-one}
use Rattle.std.specs.List.{sum, list_all, range_with_len, slice_range}
use Rattle.std.specs.Simd.{first_chunks}
use Rattle.std.proofs.lemmas.List.Folds.{list_all-append, list_all-map}
use Rattle.std.proofs.lemmas.List.FromFn.{sum_by-map-range_with_len_more}
use Rattle.little_endian.specs.Number.{Bytes, is_zero, number_at}
use Rattle.little_endian.proofs.Widths.{bounded, number-take, number-drop}
use native.Mathlib.Nat.{add-zero, zero-add}
use lib.ListN.{length, get_or, take, drop, drop_of_length-le}
use lib.Seq.{get_or-take, get_or-drop, take-take, drop-drop}
use Rattle.std.proofs.lemmas.List.{drop-take}
use Rattle.std.proofs.lemmas.List.{drop_at}
use borrow.Author.Tests.{le-leb, lt-leb}
use Rattle.trace.specs.declared.Entry.{Entry}
use Rattle.trace.specs.File.{entry_at, kind_in, entry_zero, body_length_in, entries_zero, body_lengths, body_start, first_items}
use Rattle.decoder.specs.Kinds.{decode_of, overlong}
use Rattle.trace.specs.Beginning.{entry_in, held_item, held_item_in, IsAtBody, items_from}
use Rattle.trace.proofs.Faults.{length-first, further}

pub more-lengths : (f : List ℕ) (i : ℕ) → body_lengths f (i + 1) ≡ body_lengths f i + body_length_in f i
unfolding body_lengths
more-lengths f i = rw add-one

-- The body lengths together are their sum, and no larger than the largest each.
pub lengths_added : (f : List ℕ) (n : ℕ) → sum (map (body_length_in f) (range_with_len 0 n)) ≡ body_lengths f n
unfolding body_lengths
lengths_added f zero = refl
lengths_added f (suc n) =
    let more = sum_by-map-range_with_len_more (λ x. x) (body_length_in f) 0 n n (zero-add n) in
    rw add-one at more ∙ ap (λ m. m + body_length_in f n) (lengths_added f n)

pub lengths_fit : (f : List ℕ) (n : ℕ) → Bytes f → body_lengths f n ≤ 65535 * n
unfolding body_lengths
lengths_fit f zero bytes = omega arith
lengths_fit f (suc n) bytes =
    let rest = lengths_fit f n bytes in
    let last = bounded 2 f (entry_at n + 2) bytes in
    omega arith

-- All are zero where each is.
one_further : (a n : ℕ) → range_with_len a (suc n) ≡ range_with_len a n ++ (a + n) ∷ []
one_further a zero = rw add-zero
one_further a (suc n) =
    let same : a + 1 + n ≡ a + suc n = omega arith in
    ap (λ l. a ∷ l) (one_further (a + 1) n ∙ ap (λ m. range_with_len (a + 1) n ++ m ∷ []) same)

pub each-zero : (f : List ℕ) (n : ℕ) → list_all (entry_zero f) (range_with_len 0 n) ≡ entries_zero f n
unfolding entries_zero
each-zero f zero = refl
each-zero f (suc n) =
    ap (list_all (entry_zero f)) (one_further 0 n)
    ∙ list_all-append (entry_zero f) (range_with_len 0 n) ((0 + n) ∷ [])
    ∙ rw (zero-add n) (ap₂ (λ s t. s && t) (each-zero f n) (and-true (entry_zero f n)))

-- An entry that is held is read whole.
pub whole_entry : (f : List ℕ) (i : ℕ) → entry_at i + 4 ≤ length f
    → entry_in f i ≡ record { kind = kind_in f i; length = body_length_in f i }
unfolding entry_in
whole_entry f i h = rw (le-leb (entry_at i + 4) (length f) h)

pub held : (f : List ℕ) (start : ℕ) (entry : Entry) → start + entry.length ≤ length f
    → decode_of entry.kind (take entry.length (drop start f)) ≡ held_item f start entry
unfolding held_item
held f start entry h = rw (le-leb (start + entry.length) (length f) h)

pub not-held : (f : List ℕ) (start : ℕ) (entry : Entry) → length f < start + entry.length
    → held_item f start entry ≡ overlong entry.kind
unfolding held_item
not-held f start entry h = rw (lt-leb (start + entry.length) (length f) h)

-- What is left of a walk: at its start all, at its end nothing, and in between the next item and what is left after it.
pub all_left : (f : List ℕ) (n : ℕ) → items_from f n 0 ≡ first_items (held_item_in f) n
unfolding items_from
all_left f n = refl

pub none_left : (f : List ℕ) (n i : ℕ) → n ≤ i → items_from f n i ≡ []
unfolding items_from
none_left f n i past = drop_of_length-le (first_items (held_item_in f) n) (rw (length-first (held_item_in f) n) past)

pub one_left : (f : List ℕ) (n i : ℕ) → i < n → items_from f n i ≡ held_item_in f i ∷ items_from f n (i + 1)
unfolding items_from first_items
one_left f n i few =
    let item = held_item_in f in
    let (rest, e) = further item (suc i) (n - suc i) in
    let all : suc i + (n - suc i) ≡ n = omega arith in
    let split = ap (first_items item) (sym all) ∙ e in
    let first = ap (drop i) (split ∙ append_assoc (first_items item i) (item i ∷ []) rest)
    ∙ drop_at (first_items item i) (item i ∷ rest) i (length-first item i) in
    let later = ap (drop (i + 1)) split ∙ drop_at (first_items item (suc i)) rest (i + 1) (length-first item (suc i) ∙ omega arith) in
    first ∙ ap (λ l. item i ∷ l) (sym later)

-- A walk that is at the body of event i has its item, and comes to the next body.
pub walked : (f : List ℕ) (i start : ℕ) (entry : Entry) → start ≡ body_start f i → entry ≡ entry_in f i → entry_at i + 4 ≤ length f
    → (held_item f start entry ≡ held_item_in f i) × (start + entry.length ≡ body_start f (i + 1))
walked f i start entry at is table =
    let added = ap (λ (e : Entry). e.length) (is ∙ whole_entry f i table) in
    (ap₂ (held_item f) at is, omega (arith, at, added, more-lengths f i))

-- So it stays at a body, as long as the table has an entry.
pub walks_on : (f : List ℕ) (n i start : ℕ) (entry : Entry) → IsAtBody f n i start → i < n → entry ≡ entry_in f i → entry.length < 4294967296
    → (held_item f start entry ≡ held_item_in f i) × IsAtBody f n (i + 1) (start + entry.length)
walks_on f n i start entry at few is fits =
    let (here, next) = walked f i start entry at.starts is (omega (arith, at.table.held)) in
    (here, record { table = at.table; starts = next; near = omega (arith, at.near) })

-- ---- The table, cut into its entries.

-- What is read of each entry by itself is what is read at its place in the file.
cut : {X : Type 0} (f : List ℕ) (told : List ℕ → X) (there : ℕ → X) → ((j : ℕ) → told (take 4 (drop (entry_at j) f)) ≡ there j)
    → (k i m : ℕ) → 4 * k ≤ m → map told (first_chunks 4 k (take m (drop (entry_at i) f))) ≡ map there (range_with_len i k)
cut f told there same zero i m long = refl
cut f told there same (suc k) i m long =
    let rest = drop (entry_at i) f in
    let split : 4 + (m - 4) ≡ m = omega arith in
    let next : entry_at i + 4 ≡ entry_at (i + 1) = omega arith in
    let here : take 4 (take m rest) ≡ take 4 rest = take-take 4 m rest (omega arith) in
    let on = ap (λ l. drop 4 (take l rest)) (sym split) ∙ drop-take 4 (m - 4) rest
    ∙ ap (take (m - 4)) (drop-drop 4 (entry_at i) f ∙ ap (λ a. drop a f) next) in
    ap₂ ◌∷◌ (ap told here ∙ same i) (ap (λ l. map told (first_chunks 4 k l)) on ∙ cut f told there same k (i + 1) (m - 4) (omega arith))

-- The table of n events, in pieces of an entry each.
abbrev pub pieces : List ℕ → ℕ → List (List ℕ)
pieces f n = first_chunks 4 n (take (4 * n) (drop 12 f))

pub lengths_of_pieces : (f : List ℕ) (n : ℕ) → sum (map (λ entry. number_at 2 entry 2) (pieces f n)) ≡ body_lengths f n
lengths_of_pieces f n =
    ap sum (cut f (λ entry. number_at 2 entry 2) (body_length_in f)
    (λ j. number-take 2 4 (drop (entry_at j) f) 2 (omega arith) ∙ number-drop 2 (entry_at j) f 2) n 0 (4 * n) (omega arith))
    ∙ lengths_added f n

pub zero_in_pieces : (f : List ℕ) (n : ℕ) → list_all (λ entry. is_zero (get_or entry 1 0)) (pieces f n) ≡ entries_zero f n
zero_in_pieces f n =
    sym (list_all-map (λ b. b) (λ entry. is_zero (get_or entry 1 0)) (pieces f n))
    ∙ ap (list_all (λ b. b)) (cut f (λ entry. is_zero (get_or entry 1 0)) (entry_zero f)
    (λ j. ap is_zero (get_or-take 4 (drop (entry_at j) f) 1 0 (omega arith) ∙ get_or-drop (entry_at j) f 1 0)) n 0 (4 * n) (omega arith))
    ∙ list_all-map (λ b. b) (entry_zero f) (range_with_len 0 n)
    ∙ each-zero f n

-- So the table is cut, wherever it ends.
pub cut_up : (f : List ℕ) (n end : ℕ) (table : List ℕ) → end ≡ entry_at n → table ≡ slice_range f 12 end → length table + 12 ≡ end
    → first_chunks 4 (length table / 4) table ≡ pieces f n
cut_up f n end table is at long =
    let size : length table ≡ 4 * n = omega (arith, is, long) in
    let many : length table / 4 ≡ n = omega (arith, size) in
    let wide : end - 12 ≡ 4 * n = omega (arith, is) in
    ap (λ k. first_chunks 4 k table) many ∙ ap (first_chunks 4 n) (at ∙ ap (λ m. take m (drop 12 f)) wide)
