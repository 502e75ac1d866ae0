-- The rows of a table of kinds, and the ranges in which the kinds fall.
-- Assumes nothing.
use Prim.Native.Nat.{ℕ, zero, suc, ◌+◌, ◌≤◌, ◌<◌}
use mathlib.Core.Path.{◌≡◌, refl, sym, ap, ◌∙◌}
use mathlib.Core.Bool.{Bool, true, false, ◌&&◌, ◌||◌, cond, or_assoc, or-false, and-false, true≢false, false≢true}
use mathlib.Core.List.{List, [], ◌∷◌}
use native.Mathlib.Omega.{arith}
use lib.Dec.{leb, eqb, lit≤}
use lib.ListN.{length}
use borrow.Author.Tests.{leb-true, leb-false, eqb-true, eqb-false, le-leb, lt-leb, ne_eqb}
use Rattle.little_endian.specs.Number.{within}
use Rattle.event.specs.declared.Event.{Event}
use Rattle.decoder.specs.Item.{Item}
use Rattle.std.specs.Prelude.{Ok, Err}
use Rattle.decoder.specs.declared.Undecoded.TheVariants.{UnknownKind, WrongBodyLength, FieldNotAllowed}
use Rattle.event.specs.Fields.{allowed}
use Rattle.decoder.specs.Bodies.{checked}
use Rattle.decoder.specs.Kinds.{Row, kinds_of_01, in_ranges, of_length, decode_by, decode_of, overlong}

wrong_length : (n : ℕ) (says : List ℕ → Item) (body : List ℕ) → (length body ≡ n → ⊥) → of_length n says body ≡ Err WrongBodyLength
unfolding of_length
wrong_length n says body h = rw (ne_eqb (length body) n h)

-- What holds of every row of a table.
pub data Every (P : Row → Type 0) : List Row → Type 0 where
  none : Every P []
  and : {r : Row} {rows : List Row} → P r → Every P rows → Every P (r ∷ rows)

-- A kind has a row.
abbrev has_row : List Row → ℕ → Bool
has_row [] kind = false
has_row (r ∷ rows) kind = eqb kind r.kind || has_row rows kind

-- A range is its first number and the rest.
first-and-rest : (low high n : ℕ) → low ≤ high → within low high n ≡ (eqb n low || within (suc low) high n)
first-and-rest low high n h = go (eqb n low) refl
  where
    later : (t : Bool) → leb (suc low) n ≡ t → (n ≡ low → ⊥) → leb low n ≡ t
    later true e other = le-leb low n (omega (arith, leb-true (suc low) n e))
    later false e other = lt-leb low n (omega (arith, leb-false (suc low) n e))

    go : (t : Bool) → eqb n low ≡ t → within low high n ≡ (t || within (suc low) high n)
    go true e =
        let same = eqb-true n low e in
        rw (le-leb low n (omega arith), le-leb n high (omega arith))
    go false e = rw (later (leb (suc low) n) refl (eqb-false n low e))

nothing_left : (high n : ℕ) → within (suc high) high n ≡ false
nothing_left high n = go (leb n high) refl
  where
    go : (t : Bool) → leb n high ≡ t → (leb (suc high) n && t) ≡ false
    go true e = rw (lt-leb (suc high) n (omega (arith, leb-true n high e)))
    go false e = and-false (leb (suc high) n)

-- One of the numbers from low on.
abbrev is_among : ℕ → ℕ → ℕ → Bool
is_among low zero n = false
is_among low (suc count) n = eqb n low || is_among (suc low) count n

each : (count low high n : ℕ) → suc high ≡ low + count → within low high n ≡ is_among low count n
each zero low high n h = let past : low ≡ suc high = omega arith in rw past (nothing_left high n)
each (suc count) low high n h =
    first-and-rest low high n (omega arith) ∙ ap (λ (t : Bool). eqb n low || t) (each count (suc low) high n (omega arith))

-- The kinds that have a row are those in the ranges.
ranges : (n : ℕ) → has_row kinds_of_01 n ≡ in_ranges n
ranges n = rw (each 2 1 2 n refl, each 4 16 19 n refl, each 4 32 35 n refl) (simp (or_assoc, or-false))

-- A number outside a range.
abbrev pub Outside : ℕ → ℕ → ℕ → Type 0
Outside low high n = low ≤ n → n ≤ high → ⊥

not_within : (low high n : ℕ) → Outside low high n → within low high n ≡ false
not_within low high n out = go (leb low n) refl (leb n high) refl
  where
    go : (s : Bool) → leb low n ≡ s → (t : Bool) → leb n high ≡ t → (s && t) ≡ false
    go true e true f = absurd (out (leb-true low n e) (leb-true n high f))
    go true e false f = refl
    go false e t f = refl

outside : (kind : ℕ) → Outside 1 2 kind → Outside 16 19 kind → Outside 32 35 kind → in_ranges kind ≡ false
outside kind thread non_bulk bulk =
    rw (not_within 1 2 kind thread, not_within 16 19 kind non_bulk, not_within 32 35 kind bulk)

no_row : (rows : List Row) (kind : ℕ) (body : List ℕ) → has_row rows kind ≡ false → decode_by rows kind body ≡ Err UnknownKind
no_row [] kind body h = refl
no_row (r ∷ rows) kind body h = go (eqb kind r.kind) refl (no_row rows kind body)
  where
    go : (t : Bool) → eqb kind r.kind ≡ t → (has_row rows kind ≡ false → decode_by rows kind body ≡ (Err UnknownKind))
        → decode_by (r ∷ rows) kind body ≡ Err UnknownKind
    go true e rest = absurd (true≢false (rw e at h))
    go false e rest = rw e (rest (rw e at h))

pub unknown : (kind : ℕ) (body : List ℕ) → in_ranges kind ≡ false → decode_of kind body ≡ Err UnknownKind
unfolding decode_of
unknown kind body h = no_row kinds_of_01 kind body (ranges kind ∙ h)

pub unknown-outside : (kind : ℕ) (body : List ℕ) → Outside 1 2 kind → Outside 16 19 kind → Outside 32 35 kind
    → decode_of kind body ≡ Err UnknownKind
unknown-outside kind body thread non_bulk bulk = unknown kind body (outside kind thread non_bulk bulk)

-- No row says that its kind is unknown.
abbrev is_unknown : Item → Bool
is_unknown (Ok event) = false
is_unknown (Err UnknownKind) = true
is_unknown (Err WrongBodyLength) = false
is_unknown (Err FieldNotAllowed) = false

abbrev Knows : Row → Type 0
Knows r = (body : List ℕ) → is_unknown (r.says body) ≡ false

checked_knows : (meant : Bool) (e : Event) → is_unknown (checked meant e) ≡ false
unfolding checked
checked_knows meant e = go (meant && allowed e) refl
  where
    go : (t : Bool) → (meant && allowed e) ≡ t → is_unknown (cond t (Ok e) (Err FieldNotAllowed)) ≡ false
    go true h = refl
    go false h = refl

all_know : Every Knows kinds_of_01
all_know =
    and (λ body. checked_knows _ _)
    (and (λ body. checked_knows _ _)
    (and (λ body. checked_knows _ _)
    (and (λ body. refl)
    (and (λ body. refl)
    (and (λ body. refl)
    (and (λ body. checked_knows _ _)
    (and (λ body. checked_knows _ _)
    (and (λ body. refl)
    (and (λ body. refl) none)))))))))

known : (rows : List Row) → Every Knows rows → (kind : ℕ) (body : List ℕ) → has_row rows kind ≡ true
    → is_unknown (decode_by rows kind body) ≡ false
unfolding of_length
known [] none kind body h = absurd (false≢true h)
known (r ∷ rows) (and knows others) kind body h = go (eqb kind r.kind) refl (known rows others kind body)
  where
    by_length : (t : Bool) → eqb (length body) r.body_length ≡ t → is_unknown (cond t (r.says body) (Err WrongBodyLength)) ≡ false
    by_length true e = knows body
    by_length false e = refl

    go : (t : Bool) → eqb kind r.kind ≡ t → (has_row rows kind ≡ true → is_unknown (decode_by rows kind body) ≡ false)
        → is_unknown (decode_by (r ∷ rows) kind body) ≡ false
    go true e rest = rw e (by_length (eqb (length body) r.body_length) refl)
    go false e rest = rw e (rest (rw e at h))

pub only-unknown : (kind : ℕ) (body : List ℕ) → decode_of kind body ≡ (Err UnknownKind) → in_ranges kind ≡ false
unfolding decode_of
only-unknown kind body h = go (in_ranges kind) refl
  where
    go : (t : Bool) → in_ranges kind ≡ t → t ≡ false
    go true e = absurd (true≢false (sym (ap is_unknown h) ∙ known kinds_of_01 all_know kind body (ranges kind ∙ e)))
    go false e = refl

-- No kind has a body of more than 24 bytes.
abbrev Short : Row → Type 0
Short r = r.body_length ≤ 24

all_short : Every Short kinds_of_01
all_short =
    and (lit≤ tt)
    (and (lit≤ tt)
    (and (lit≤ tt)
    (and (lit≤ tt)
    (and (lit≤ tt)
    (and (lit≤ tt)
    (and (lit≤ tt)
    (and (lit≤ tt)
    (and (lit≤ tt)
    (and (lit≤ tt) none)))))))))

too_long : (rows : List Row) → Every Short rows → (kind : ℕ) (body : List ℕ) → 24 < length body
    → decode_by rows kind body ≡ cond (has_row rows kind) (Err WrongBodyLength) (Err UnknownKind)
too_long [] none kind body h = refl
too_long (r ∷ rows) (and short others) kind body h = go (eqb kind r.kind) refl (too_long rows others kind body h)
  where
    go : (t : Bool) → eqb kind r.kind ≡ t
        → decode_by rows kind body ≡ cond (has_row rows kind) (Err WrongBodyLength) (Err UnknownKind)
        → decode_by (r ∷ rows) kind body ≡ cond (has_row (r ∷ rows) kind) (Err WrongBodyLength) (Err UnknownKind)
    go true e rest = rw (e, wrong_length r.body_length r.says body (λ same. omega (arith, short)))
    go false e rest = rw e rest

pub long_body : (kind : ℕ) (body : List ℕ) → 24 < length body → decode_of kind body ≡ overlong kind
unfolding decode_of overlong
long_body kind body h = too_long kinds_of_01 all_short kind body h ∙ ap (λ (t : Bool). cond t (Err WrongBodyLength) (Err UnknownKind)) (ranges kind)
