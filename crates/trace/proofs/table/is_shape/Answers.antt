-- `trace::table::is_shape` meets its contract: its tests are the definition's.
use mathlib.Core.Path.{◌∙◌}
use native.Mathlib.Omega.{arith}
use borrow.Author.Tests.{le-leb, lt-leb, tests}
use lib.ListN.{length, get_or}
use Rattle.std.proofs.Common.{rules}
use Rattle.std.proofs.lemmas.Iterator.{YieldsList-from_map, YieldsList-from_slice}
use Rattle.std.proofs.lemmas.Iterator.Consumers.{YieldsList-at, sum_from_yields_List, fits_from_yields_list}
use Rattle.std.proofs.lemmas.Iterator.Search.{all_from_yields_List}
use Rattle.little_endian.specs.Number.{Bytes, is_zero, number_at}
use Rattle.trace.specs.File.{events_in, entry_at, is_shape}
use Rattle.trace.proofs.Entries.{cut_up, pieces, lengths_of_pieces, zero_in_pieces, lengths_fit}
use Rattle.trace.proofs.table.is_shape.Goals as goal

pub returns-in_default : goal.returns-in_default
unfolding is_shape
returns-in_default c =
    let f = c.args.beginning.now in
    let at = c.entry_at-bodies.ensures in
    let short = c.in_default.ensures.lookup in
    rw (lt-leb (entry_at (events_in f)) (length f) (omega (arith, c.requires, short)))

pub sum-lengths-requires-clause-fits : goal.sum-lengths-requires-clause-fits
unfolding Bytes
sum-lengths-requires-clause-fits c =
    let f = c.args.beginning.now in
    let n = c.args.events in
    let (low, high, at, long) = c.in-Some.ensures.lookup.0 in
    let all = c.iter.ensures.rest ∙ c.as_chunks.ensures.front ∙ cut_up f n _ c.in-Some.table.now c.entry_at-bodies.ensures at long in
    fits_from_yields_list c.map.result _
    (YieldsList-from_map _ (λ entry. number_at 2 entry 2) (YieldsList-at c.map.ensures.source (YieldsList-from_slice (pieces f n) all)) c.map.ensures.closure (λ x r q k. search rules))
    (rw (lengths_of_pieces f n) (omega (arith, lengths_fit f n (λ i. omega (arith, c.type_inv.beginning i)))))

pub overflow_add-result : goal.overflow_add-result
unfolding Bytes
overflow_add-result c =
    let f = c.args.beginning.now in
    let n = c.args.events in
    let (low, high, at, long) = c.in-Some.ensures.lookup.0 in
    let all = c.iter.ensures.rest ∙ c.as_chunks.ensures.front ∙ cut_up f n _ c.in-Some.table.now c.entry_at-bodies.ensures at long in
    let total = sum_from_yields_List c.map.result c.sum-lengths.result c.sum-lengths.ensures.ran
    (YieldsList-from_map _ (λ entry. number_at 2 entry 2) (YieldsList-at c.map.ensures.source (YieldsList-from_slice (pieces f n) all)) c.map.ensures.closure (λ x r q k. search rules))
    ∙ lengths_of_pieces f n in
    omega (arith, total, c.entry_at-bodies.ensures, lengths_fit f n (λ i. omega (arith, c.type_inv.beginning i)))

pub returns : goal.returns
unfolding is_shape
returns c =
    let f = c.args.beginning.now in
    let n = c.args.events in
    let (low, high, at, long) = c.in-Some.ensures.lookup.0 in
    let all = c.as_chunks.ensures.front ∙ cut_up f n _ c.in-Some.table.now c.entry_at-bodies.ensures at long in
    let total = sum_from_yields_List c.map.result c.sum-lengths.result c.sum-lengths.ensures.ran
    (YieldsList-from_map _ (λ entry. number_at 2 entry 2) (YieldsList-at c.map.ensures.source (YieldsList-from_slice (pieces f n) (c.iter.ensures.rest ∙ all))) c.map.ensures.closure (λ x r q k. search rules))
    ∙ lengths_of_pieces f n in
    let zeros = all_from_yields_List (λ entry. is_zero (get_or entry 1 0)) _ _ c.all.result c.all.ensures.ran (YieldsList-from_slice (pieces f n) (c.iter-2.ensures.rest ∙ all)) (λ x b q k. search (rules, tests))
    ∙ zero_in_pieces f n in
    rw (
      c.number_at.ensures.value,
      zeros,
      total,
      c.entry_at-bodies.ensures,
      c.requires,
      le-leb (entry_at (events_in f)) (length f) (omega (arith, high, c.entry_at-bodies.ensures, c.requires)),
    )
