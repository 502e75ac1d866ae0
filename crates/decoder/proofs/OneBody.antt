-- Bytes that decode as an event are that event's body.
-- Assumes nothing.
use Prim.Native.Nat.{ℕ, zero, suc, ◌+◌, ◌^◌, ◌≤◌, ◌<◌}
use mathlib.Core.Path.{◌≡◌, refl, sym, ap, subst, ◌∙◌}
use mathlib.Core.Bool.{Bool, true, false, ◌&&◌, ◌||◌, false≢true}
use mathlib.Core.List.{List, [], ◌∷◌, ◌++◌, append-nil}
use native.Mathlib.Omega.{arith}
use native.Mathlib.Numerals.{add-one}
use lib.Dec.{leb, eqb}
use lib.ListN.{length, get_or, drop, drop_of_length-le}
use lib.Seq.{drop-cons}
use borrow.Author.Tests.{leb-true, eqb-true, eqb-false}
use Rattle.little_endian.specs.Number.{is_zero, Bytes, number_at, bytes_of}
use Rattle.little_endian.proofs.Widths.{bounded, back}
use Rattle.little_endian.proofs.Tests.{both, all_three, all-four}
use Rattle.event.specs.declared.ElementType.TheVariants.{B32}
use Rattle.event.specs.declared.Event.{Event}
use Rattle.event.specs.declared.Event.TheVariants.{Load, Store, Copy, Commit, Wait, WaitAll, BulkCopy, BulkReduction, BulkCommit, BulkWait}
use Rattle.std.specs.Prelude.{Ok}
use Rattle.decoder.specs.Item.{Item}
use Rattle.event.specs.declared.Operation.TheVariants.{And}
use Rattle.event.specs.Fields.{operation_number, type_number, allowed}
use Rattle.event.specs.Addresses.{global, shared, offset_of}
use Rattle.decoder.specs.Bodies.{byte_at, checked, address_in, thread_meant, load_in, store_in, mode_of, cache_of, copy_meant, copy_in, bulk_copy_in, operations, types, reduction_meant, bulk_reduction_in, wait_in, bulk_wait_in}
use Rattle.decoder.specs.Kinds.{Row, kinds_of_01, of_length, decode_by, decode_of, is_decoded}
use Rattle.decoder.proofs.Rows.{Every, none, and}
use Rattle.decoder.specs.Encoding.{space_of, mode_number, src_size_of, cache_number, thread, three_fours, kind_of, body_of, Fits}

-- What an event owes to the bytes that it was decoded from.
abbrev Said : ℕ → List ℕ → Event → Type 0
Said kind body e = (kind_of e ≡ kind) × (body_of e ≡ body) × (allowed e ≡ true) × Fits e

abbrev Sound : Row → Type 0
Sound r = (body : List ℕ) (e : Event) → Bytes body → length body ≡ r.body_length → r.says body ≡ Ok e → Said r.kind body e

-- The one event that an item holds.
event_of : (a b : Event) → ◌≡◌ {A = Item} (Ok a) (Ok b) → a ≡ b
event_of a b h = cc

said : (kind : ℕ) (body : List ℕ) (a e : Event) → ◌≡◌ {A = Item} (Ok a) (Ok e) → Said kind body a → Said kind body e
said kind body a e h s = subst (λ (x : Event). Said kind body x) (event_of a e h) s

checked-said : (kind : ℕ) (body : List ℕ) (meant : Bool) (a e : Event) → checked meant a ≡ Ok e
    → (meant ≡ true → allowed a ≡ true → Said kind body a) → Said kind body e
unfolding checked
checked-said kind body meant a e h s = go (meant && allowed a) refl
  where
    go : (t : Bool) → (meant && allowed a) ≡ t → Said kind body e
    go true t =
        let parts = both meant (allowed a) t in
        said kind body a e (rw t at h) (s parts.0 parts.1)
    go false t = absurd (false≢true (ap is_decoded (rw t at h)))

-- The bytes of a body, one by one and four by four.
next : (i : ℕ) (s : List ℕ) → i < length s → drop i s ≡ get_or s i 0 ∷ drop (i + 1) s
next i s h = rw (add-one, drop-cons s i 0)

four_bytes : (i : ℕ) (s : List ℕ) → i + 4 ≤ length s
    → drop i s ≡ get_or s i 0 ∷ get_or s (i + 1) 0 ∷ get_or s (i + 1 + 1) 0 ∷ get_or s (i + 1 + 1 + 1) 0 ∷ drop (i + 1 + 1 + 1 + 1) s
four_bytes i s h =
    rw (
      next i s (omega arith),
      next (i + 1) s (omega arith),
      next (i + 1 + 1) s (omega arith),
      next (i + 1 + 1 + 1) s (omega arith),
    )

no_more : (n : ℕ) (s : List ℕ) → length s ≡ n → drop n s ≡ []
no_more n s h = drop_of_length-le s {i = n} (omega arith)

-- Bytes that leave none over are the whole body.
closed : (n : ℕ) (xs s : List ℕ) → length s ≡ n → xs ++ drop n s ≡ s → xs ≡ s
closed n xs s h e = rw (no_more n s h, append-nil) at e

three_said : (s : List ℕ) → Bytes s → 12 ≤ length s
    → three_fours (number_at 4 s 0) (number_at 4 s 4) (number_at 4 s 8) (drop 12 s) ≡ s
three_said s bytes h = rw (back 4 s 8 bytes (omega arith), back 4 s 4 bytes (omega arith)) (back 4 s 0 bytes (omega arith))

-- Sixteen bytes: three numbers of four bytes, and four bytes more.
sixteen : (s : List ℕ) → Bytes s → length s ≡ 16
    → three_fours (number_at 4 s 0) (number_at 4 s 4) (number_at 4 s 8) (byte_at s 12 ∷ byte_at s 13 ∷ byte_at s 14 ∷ byte_at s 15 ∷ []) ≡ s
sixteen s bytes n =
    let last : drop 12 s ≡ byte_at s 12 ∷ byte_at s 13 ∷ byte_at s 14 ∷ byte_at s 15 ∷ [] =
    four_bytes 12 s (omega arith) ∙ ap (λ (rest : List ℕ). byte_at s 12 ∷ byte_at s 13 ∷ byte_at s 14 ∷ byte_at s 15 ∷ rest) (no_more 16 s n) in
    rw last at (three_said s bytes (omega arith))

-- Load and store.
offset_in : (body : List ℕ) → offset_of (address_in body) ≡ number_at 4 body 4
offset_in body = go (is_zero (byte_at body 0)) refl
  where
    go : (t : Bool) → is_zero (byte_at body 0) ≡ t → offset_of (address_in body) ≡ number_at 4 body 4
    go true e = rw e
    go false e = rw e

space_in : (body : List ℕ) → leb (byte_at body 0) 1 ≡ true → space_of (address_in body) ≡ byte_at body 0
space_in body h = go (is_zero (byte_at body 0)) refl
  where
    small : byte_at body 0 ≤ 1
    small = leb-true (byte_at body 0) 1 h

    go : (t : Bool) → is_zero (byte_at body 0) ≡ t → space_of (address_in body) ≡ byte_at body 0
    go true e = rw e (sym (eqb-true (byte_at body 0) 0 e))
    go false e = rw e (omega (arith, small, eqb-false (byte_at body 0) 0 e))

thread-said : (body : List ℕ) → Bytes body → 8 ≤ length body → thread_meant body ≡ true
    → thread (address_in body) (byte_at body 1) ++ drop 8 body ≡ body
thread-said body bytes h meant =
    let parts = all_three (leb (byte_at body 0) 1) (is_zero (byte_at body 2)) (is_zero (byte_at body 3)) meant in
    let third = eqb-true (byte_at body 2) 0 parts.1 in
    let fourth = eqb-true (byte_at body 3) 0 parts.2 in
    let whole = four_bytes 0 body (omega arith) in
    rw (space_in body parts.0, offset_in body, back 4 body 4 bytes (omega arith))
    (sym (whole ∙ (λ j. byte_at body 0 ∷ byte_at body 1 ∷ third j ∷ fourth j ∷ drop 4 body)))

load_sound : (body : List ℕ) (e : Event) → Bytes body → length body ≡ 8 → load_in body ≡ Ok e → Said 1 body e
unfolding body_of
load_sound body e bytes n h =
    checked-said 1 body (thread_meant body) (Load (address_in body) (byte_at body 1)) e h
    (λ meant ok.
    let whole = thread-said body bytes (omega arith) meant in
    let fits : offset_of (address_in body) < 256 ^ 4 = rw (offset_in body) (bounded 4 body 4 bytes) in
    (refl, closed 8 (thread (address_in body) (byte_at body 1)) body n whole, ok, fits))

store_sound : (body : List ℕ) (e : Event) → Bytes body → length body ≡ 24 → store_in body ≡ Ok e → Said 2 body e
unfolding body_of
store_sound body e bytes n h =
    checked-said 2 body (thread_meant body)
    (Store (address_in body) (byte_at body 1) (number_at 8 body 8) (number_at 8 body 16))
    e
    h
    (λ meant ok.
    let whole = thread-said body bytes (omega arith) meant in
    let low = back 8 body 8 bytes (omega arith) in
    let high = back 8 body 16 bytes (omega arith) in
    let value : bytes_of 8 (number_at 8 body 8) ++ bytes_of 8 (number_at 8 body 16) ≡ drop 8 body =
    rw (← low, ← high, no_more 24 body n, append-nil) in
    let fits : offset_of (address_in body) < 256 ^ 4 = rw (offset_in body) (bounded 4 body 4 bytes) in
    (refl, rw value whole, ok, (fits, bounded 8 body 8 bytes, bounded 8 body 16 bytes)))

-- Copy.
mode_said : (mode src_size : ℕ) → leb mode 2 ≡ true → (eqb mode 1 || is_zero src_size) ≡ true
    → (mode_number (mode_of mode src_size) ≡ mode) × (src_size_of (mode_of mode src_size) ≡ src_size)
unfolding mode_of
mode_said zero src_size h z = (refl, sym (eqb-true src_size 0 z))
mode_said (suc zero) src_size h z = (refl, refl)
mode_said (suc (suc zero)) src_size h z = (refl, sym (eqb-true src_size 0 z))
mode_said (suc (suc (suc mode))) src_size h z = absurd (omega (arith, leb-true (suc (suc (suc mode))) 2 h))

cache_said : (cache : ℕ) → leb cache 1 ≡ true → cache_number (cache_of cache) ≡ cache
cache_said zero h = refl
cache_said (suc zero) h = refl
cache_said (suc (suc cache)) h = absurd (omega (arith, leb-true (suc (suc cache)) 1 h))

copy_sound : (body : List ℕ) (e : Event) → Bytes body → length body ≡ 16 → copy_in body ≡ Ok e → Said 16 body e
unfolding body_of
copy_sound body e bytes n h =
    checked-said 16 body (copy_meant body)
    (Copy (shared (number_at 4 body 0)) (global (number_at 4 body 4)) (byte_at body 12)
    (mode_of (byte_at body 13) (number_at 4 body 8))
    (cache_of (byte_at body 14)))
    e
    h
    (λ meant ok.
    let given = eqb (byte_at body 13) 1 || is_zero (number_at 4 body 8) in
    let parts = all-four (leb (byte_at body 13) 2) given (leb (byte_at body 14) 1) (is_zero (byte_at body 15)) meant in
    let (mode, src_size) = mode_said (byte_at body 13) (number_at 4 body 8) parts.0 parts.1 in
    let cache = cache_said (byte_at body 14) parts.2 in
    let last = sym (eqb-true (byte_at body 15) 0 parts.3) in (
      refl,
      (λ j. three_fours (number_at 4 body 0) (number_at 4 body 4) (src_size j) (byte_at body 12 ∷ mode j ∷ cache j ∷ last j ∷ [])) ∙ sixteen body bytes n,
      ok,
      (bounded 4 body 0 bytes, bounded 4 body 4 bytes, rw src_size (bounded 4 body 8 bytes)),
    ))

-- Bulk reduction.
operation-said : (n : ℕ) → leb n 5 ≡ true → operation_number (get_or operations n And) ≡ n
operation-said zero h = refl
operation-said (suc zero) h = refl
operation-said (suc (suc zero)) h = refl
operation-said (suc (suc (suc zero))) h = refl
operation-said (suc (suc (suc (suc zero)))) h = refl
operation-said (suc (suc (suc (suc (suc zero))))) h = refl
operation-said (suc (suc (suc (suc (suc (suc n)))))) h = absurd (omega (arith, leb-true (suc (suc (suc (suc (suc (suc n)))))) 5 h))

type_said : (n : ℕ) → leb n 2 ≡ true → type_number (get_or types n B32) ≡ n
type_said zero h = refl
type_said (suc zero) h = refl
type_said (suc (suc zero)) h = refl
type_said (suc (suc (suc n))) h = absurd (omega (arith, leb-true (suc (suc (suc n))) 2 h))

reduction_sound : (body : List ℕ) (e : Event) → Bytes body → length body ≡ 16 → bulk_reduction_in body ≡ Ok e → Said 33 body e
unfolding body_of
reduction_sound body e bytes n h =
    checked-said 33 body (reduction_meant body)
    (BulkReduction (global (number_at 4 body 0)) (shared (number_at 4 body 4)) (number_at 4 body 8)
    (get_or operations (byte_at body 12) And)
    (get_or types (byte_at body 13) B32))
    e
    h
    (λ meant ok.
    let parts = all-four (leb (byte_at body 12) 5) (leb (byte_at body 13) 2) (is_zero (byte_at body 14)) (is_zero (byte_at body 15)) meant in
    let operation = operation-said (byte_at body 12) parts.0 in
    let element = type_said (byte_at body 13) parts.1 in
    let third = sym (eqb-true (byte_at body 14) 0 parts.2) in
    let last = sym (eqb-true (byte_at body 15) 0 parts.3) in (
      refl,
      (λ j. three_fours (number_at 4 body 0) (number_at 4 body 4) (number_at 4 body 8) (operation j ∷ element j ∷ third j ∷ last j ∷ [])) ∙ sixteen body bytes n,
      ok,
      (bounded 4 body 0 bytes, bounded 4 body 4 bytes, bounded 4 body 8 bytes),
    ))

bulk_copy_sound : (body : List ℕ) (e : Event) → Bytes body → length body ≡ 12 → bulk_copy_in body ≡ Ok e → Said 32 body e
unfolding body_of
bulk_copy_sound body e bytes n h =
    checked-said 32 body true (BulkCopy (global (number_at 4 body 0)) (shared (number_at 4 body 4)) (number_at 4 body 8)) e h
    (λ meant ok.
    let whole = three_said body bytes (omega arith) in
    (refl, rw (no_more 12 body n) at whole, ok, (bounded 4 body 0 bytes, bounded 4 body 4 bytes, bounded 4 body 8 bytes)))

-- The kinds with one number, and those with none.
number-said : (body : List ℕ) → Bytes body → length body ≡ 4 → bytes_of 4 (number_at 4 body 0) ≡ body
number-said body bytes n = closed 4 (bytes_of 4 (number_at 4 body 0)) body n (back 4 body 0 bytes (omega arith))

wait_sound : (body : List ℕ) (e : Event) → Bytes body → length body ≡ 4 → wait_in body ≡ Ok e → Said 18 body e
unfolding body_of allowed
wait_sound body e bytes n h =
    said 18 body (Wait (number_at 4 body 0)) e h (refl, number-said body bytes n, refl, bounded 4 body 0 bytes)

bulk_wait_sound : (body : List ℕ) (e : Event) → Bytes body → length body ≡ 4 → bulk_wait_in body ≡ Ok e → Said 35 body e
unfolding body_of allowed
bulk_wait_sound body e bytes n h =
    said 35 body (BulkWait (number_at 4 body 0)) e h (refl, number-said body bytes n, refl, bounded 4 body 0 bytes)

empty : (body : List ℕ) → length body ≡ 0 → [] ≡ body
empty body n = sym (no_more 0 body n)

empty_sound : (kind : ℕ) (a : Event) → kind_of a ≡ kind → body_of a ≡ [] → allowed a ≡ true → Fits a
    → (body : List ℕ) (e : Event) → length body ≡ 0 → ◌≡◌ {A = Item} (Ok a) (Ok e) → Said kind body e
empty_sound kind a k no_bytes ok fits body e n h = said kind body a e h (k, no_bytes ∙ empty body n, ok, fits)

-- A table all of whose rows are sound decodes only bodies of events.
all_sound : Every Sound kinds_of_01
unfolding body_of allowed
all_sound =
    and load_sound
    (and store_sound
    (and copy_sound
    (and (λ body e bytes n h. empty_sound 17 Commit refl refl refl tt body e n h)
    (and wait_sound
    (and (λ body e bytes n h. empty_sound 19 WaitAll refl refl refl tt body e n h)
    (and bulk_copy_sound
    (and reduction_sound
    (and (λ body e bytes n h. empty_sound 34 BulkCommit refl refl refl tt body e n h)
    (and bulk_wait_sound none)))))))))

of_length_lem : (r : Row) → Sound r → (body : List ℕ) (e : Event) → Bytes body
    → of_length r.body_length r.says body ≡ Ok e → Said r.kind body e
unfolding of_length
of_length_lem r sound body e bytes h = go (eqb (length body) r.body_length) refl
  where
    go : (t : Bool) → eqb (length body) r.body_length ≡ t → Said r.kind body e
    go true t = sound body e bytes (eqb-true (length body) r.body_length t) (rw t at h)
    go false t = absurd (false≢true (ap is_decoded (rw t at h)))

of_rows : (rows : List Row) → Every Sound rows → (kind : ℕ) (body : List ℕ) (e : Event) → Bytes body
    → decode_by rows kind body ≡ Ok e → Said kind body e
of_rows [] none kind body e bytes h = absurd (false≢true (ap is_decoded h))
of_rows (r ∷ rows) (and sound others) kind body e bytes h = go (eqb kind r.kind) refl (of_rows rows others kind body e bytes)
  where
    go : (t : Bool) → eqb kind r.kind ≡ t → (decode_by rows kind body ≡ Ok e → Said kind body e) → Said kind body e
    go true t rest = rw (eqb-true kind r.kind t) (of_length_lem r sound body e bytes (rw t at h))
    go false t rest = rest (rw t at h)

pub one_body_lem : (kind : ℕ) (body : List ℕ) (e : Event) → Bytes body → decode_of kind body ≡ Ok e → Said kind body e
unfolding decode_of
one_body_lem kind body e bytes h = of_rows kinds_of_01 all_sound kind body e bytes h
