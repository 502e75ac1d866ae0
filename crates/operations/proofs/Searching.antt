-- The search for the first record that clashes.
-- Assumes nothing.
use Rattle.std.proofs.Common.{◌≡◌, ℕ, zero, suc, List, [], ◌∷◌, ◌++◌, Option, Some, None, option_map, find, refl, ap, ◌∙◌, add-one}
use Rattle.std.specs.Option.{option_or, MatchOption, IsSomeAnd}
use Rattle.std.proofs.lemmas.List.Folds.{find-append}
use Rattle.std.specs.List.{range_with_len}
use Rattle.std.proofs.lemmas.List.FromFn.{map-range_with_len_more}
use native.Mathlib.Nat.{zero-add}
use mathlib.Core.List.{map}
use Rattle.operations.specs.declared.Record.{Record}
use Rattle.operations.specs.Table.{record_at, records}
use Rattle.operations.specs.Clash.{clash_of, first_clash}

-- The first of two lists that has one.
pub first-append : (event : Record) (rs ss : List Record)
    → first_clash event (rs ++ ss) ≡ option_or (first_clash event rs) (first_clash event ss)
first-append event rs ss = rw find-append (by_first (find (clash_of event) rs) (find (clash_of event) ss))
  where
    by_first : (found next : Option Record) → option_map (λ (r : Record). r.event) (option_or found next)
        ≡ option_or (option_map (λ (r : Record). r.event) found) (option_map (λ (r : Record). r.event) next)
    by_first (Some r) next = refl
    by_first None next = refl

-- The records at the indices, in order, are the records.
pub records_read : (ranges marks : List ℕ) (n : ℕ) → map (record_at ranges marks) (range_with_len 0 n) ≡ records n ranges marks
unfolding records
records_read ranges marks zero = refl
records_read ranges marks (suc n) =
    let more = map-range_with_len_more (record_at ranges marks) 0 n n (zero-add n) in
    rw add-one at more ∙ ap (λ rs. rs ++ record_at ranges marks n ∷ []) (records_read ranges marks n)

-- The event of what was found is that of the first.
pub event_found : (found : Option Record) (told : Option ℕ) {P : Record → ℕ → Type 0} {first : Option Record}
    → MatchOption found (told ≡ None) (λ r. IsSomeAnd told (P r))
    → ((r : Record) (event : ℕ) → P r event → event ≡ r.event)
    → found ≡ first → told ≡ option_map (λ (r : Record). r.event) first
event_found None told h p e = h ∙ ap (option_map (λ (r : Record). r.event)) e
event_found (Some r) None h p e = absurd h
event_found (Some r) (Some event) h p e = ap Some (p r event h) ∙ ap (option_map (λ (r : Record). r.event)) e
