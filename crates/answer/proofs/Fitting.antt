-- What follows where numbers fit: they are small, and they are those of an answer.
-- Assumes nothing.
use Prim.Native.Nat.{ℕ, zero, suc, ◌+◌, ◌≤◌, ◌<◌}
use mathlib.Core.Path.{◌≡◌, refl, sym, ◌∙◌}
use mathlib.Core.Bool.{Bool, true, false, false≢true}
use mathlib.Core.List.{List, [], ◌∷◌}
use native.Mathlib.Omega.{arith}
use native.Mathlib.Nat.{add-zero, zero-add, suc-add, add-suc, le_of_suc-le-suc, not-suc-le-zero}
use lib.Dec.{leb, ltb}
use lib.ListN.{length, get_or, get_or-eq_default}
use borrow.Author.Tests.{leb-true, ltb-true, eqb-true, leb-false}
use Rattle.little_endian.specs.Number.{is_zero}
use Rattle.little_endian.proofs.Tests.{all_three}
use Rattle.answer.specs.declared.Answer.{Answer}
use Rattle.answer.specs.declared.Answer.TheVariants.{NoVerdict, Accepted, WrongShape, TooManyEvents, WrongMemoryLength, UnknownKind, WrongBodyLength, FieldNotAllowed, Misaligned, OutOfRange, Clash, NoRoom, NotWritten}
use Rattle.answer.specs.declared.Numbers.{Numbers}
use Rattle.answer.specs.declared.table.Named.{Named}
use Rattle.answer.specs.declared.table.Named.TheVariants.{Unread, Nothing, Count, CountAndPeak, Event, EventAndPartner}
use Rattle.answer.specs.Numbers.{four, numbers_of, cases, case_of}
use Rattle.answer.specs.Table.{event_limit, rows, named_by, fit_named, fit}

-- The numbers of an answer name it.
pub named_again : (a : Answer) → case_of (numbers_of a) ≡ a
named_again NoVerdict = refl
named_again (Accepted events peak) = refl
named_again WrongShape = refl
named_again TooManyEvents = refl
named_again WrongMemoryLength = refl
named_again (UnknownKind event) = refl
named_again (WrongBodyLength event) = refl
named_again (FieldNotAllowed event) = refl
named_again (Misaligned event) = refl
named_again (OutOfRange event) = refl
named_again (Clash event partner) = refl
named_again (NoRoom event) = refl
named_again NotWritten = refl

-- A code that fits has a row.
pub has-row : (n : Numbers) → fit n ≡ true → n.code < length rows
unfolding fit fit_named
has-row n h = go (leb (length rows) n.code) refl
  where
    go : (t : Bool) → leb (length rows) n.code ≡ t → n.code < length rows
    go true e = absurd (false≢true (rw (get_or-eq_default rows Unread (leb-true (length rows) n.code e)) at h))
    go false e = leb-false (length rows) n.code e

-- The numbers, those that the row does not name being zero.
zeroed : Named → Numbers → Numbers
zeroed Unread n = four n.code 0 0 0
zeroed Nothing n = four n.code 0 0 0
zeroed Count n = four n.code n.event 0 0
zeroed CountAndPeak n = four n.code n.event 0 n.peak
zeroed Event n = four n.code n.event 0 0
zeroed EventAndPartner n = four n.code n.event n.partner 0

abbrev pub Small : Numbers → Type 0
Small n = (n.event ≤ event_limit) × (n.partner ≤ event_limit) × (n.peak ≤ event_limit)

is-zero : (n : ℕ) → is_zero n ≡ true → 0 ≡ n
is-zero n h = sym (eqb-true n 0 h)

-- Numbers that fit a row are at most the limit, and zero where the row does not name them.
fitting : (r : Named) (code event partner peak : ℕ) → fit_named r event partner peak ≡ true
    → Small (four code event partner peak) × (zeroed r (four code event partner peak) ≡ four code event partner peak)
unfolding fit_named zeroed
fitting Unread code event partner peak h = absurd (false≢true h)
fitting Nothing code event partner peak h =
    let t = all_three (is_zero event) (is_zero partner) (is_zero peak) h in
    (omega (arith, eqb-true), λ i. four code (is-zero event t.0 i) (is-zero partner t.1 i) (is-zero peak t.2 i))
fitting Count code event partner peak h =
    let t = all_three (leb event event_limit) (is_zero partner) (is_zero peak) h in
    (omega (arith, leb-true, eqb-true), λ i. four code event (is-zero partner t.1 i) (is-zero peak t.2 i))
fitting CountAndPeak code event partner peak h =
    let t = all_three (leb event event_limit) (is_zero partner) (leb peak event) h in
    (omega (arith, leb-true, eqb-true), λ i. four code event (is-zero partner t.1 i) peak)
fitting Event code event partner peak h =
    let t = all_three (ltb event event_limit) (is_zero partner) (is_zero peak) h in
    (omega (arith, ltb-true, eqb-true), λ i. four code event (is-zero partner t.1 i) (is-zero peak t.2 i))
fitting EventAndPartner code event partner peak h =
    let t = all_three (ltb event event_limit) (ltb partner event) (is_zero peak) h in
    (omega (arith, ltb-true, eqb-true), λ i. four code event partner (is-zero peak t.2 i))

module _ (event partner peak : ℕ) where
  -- Case by case from code i on: the numbers are those that the row names.
  abbrev Agree : ℕ → List Answer → List Named → Type 0
  Agree i xs [] = Unit {0}
  Agree i [] (r ∷ rs) = ⊥
  Agree i (x ∷ xs) (r ∷ rs) = (numbers_of x ≡ zeroed r (four i event partner peak)) × Agree (suc i) xs rs

  agree_at : (i : ℕ) (xs : List Answer) (rs : List Named) → Agree i xs rs → (j : ℕ) → j < length rs
      → numbers_of (get_or xs j NoVerdict) ≡ zeroed (get_or rs j Unread) (four (i + j) event partner peak)
  agree_at i xs [] t j h = absurd (not-suc-le-zero h)
  agree_at i [] (r ∷ rs) t j h = absurd t
  agree_at i (x ∷ xs) (r ∷ rs) t zero h = rw add-zero t.0
  agree_at i (x ∷ xs) (r ∷ rs) t (suc j) h = rw (add-suc, ← suc-add) (agree_at (suc i) xs rs t.1 j (le_of_suc-le-suc h))

  agree : (code : ℕ) → Agree 0 (cases (four code event partner peak)) rows
  unfolding zeroed
  agree code = (refl, (refl, (refl, (refl, (refl, (refl, (refl, (refl, (refl, (refl, (refl, (refl, tt))))))))))))

-- Numbers that fit are those of an answer.
pub held : (n : Numbers) → fit n ≡ true → Small n × (numbers_of (case_of n) ≡ n)
unfolding fit
held n h =
    let f = fitting (named_by n.code) n.code n.event n.partner n.peak h in
    let named = agree_at n.event n.partner n.peak 0 (cases n) rows (agree n.event n.partner n.peak n.code) n.code (has-row n h) in
    (f.0, (rw zero-add at named) ∙ f.1)
