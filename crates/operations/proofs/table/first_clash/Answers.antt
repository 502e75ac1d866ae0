-- `first_clash` meets its contract: the records are read in order, and searched.
use Rattle.std.proofs.Common.{rules, tests, refl, sym, ap, ◌∙◌, arith, find}
use Rattle.std.proofs.lemmas.Iterator.{YieldsList-from_map, YieldsList-from_range}
use Rattle.std.proofs.lemmas.Iterator.Adapters.{option_map_id}
use Rattle.std.proofs.lemmas.Iterator.Consumers.{YieldsList-at}
use Rattle.std.proofs.lemmas.Iterator.Search.{find_from_yields_List}
use Rattle.operations.specs.Table.{record_at}
use Rattle.operations.specs.Clash.{clash_of}
use Rattle.operations.proofs.Searching.{records_read, event_found}
use Rattle.operations.proofs.table.first_clash.Goals as goal

pub returns : goal.returns
returns c =
    let a = c.args in
    event_found c.find.result c.map-2.result c.map-2.ensures.cases (λ x n p. search rules)
    (
    sym (option_map_id c.find.result)
    ∙ find_from_yields_List (clash_of a.event) _ _ c.find.result c.find.ensures.ran
    (YieldsList-from_map _ (record_at a.ranges.now a.marks.now) (YieldsList-at c.map.ensures.source (YieldsList-from_range 0 a.count a.count refl (omega arith))) c.map.ensures.closure (λ x r q k. search rules))
    (λ x b q k. search (rules, tests))
    ∙ ap (find (clash_of a.event)) (records_read a.ranges.now a.marks.now a.count)
    )
