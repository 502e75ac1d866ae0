-- `next` of `Items` meets its contract: it gives the item at whose body the walk is, and comes to the next body.
use Prim.Native.Nat.{◌+◌, ◌<◌}
use mathlib.Core.Path.{◌≡◌, sym, ap, ◌∙◌}
use mathlib.Core.List.{◌∷◌}
use native.Mathlib.Omega.{arith}
use lib.ListN.{length}
use Rattle.std.proofs.Common.{rules}
use Rattle.trace.specs.Beginning.{IsAtBody, held_item_in, items_from}
use Rattle.trace.proofs.Entries.{none_left, one_left, walks_on}
use Rattle.trace.proofs.file.ItemsIterator.next.Goals as goal

pub returns-in_err-event-clause-steps : goal.returns-in_err-event-clause-steps
returns-in_err-event-clause-steps c =
    let w = c.self.inside in
    let steps = c.in_err-event.ensures.steps in
    let none = none_left w.beginning.now w.events.end w.events.start (omega (arith, steps.1.0)) in
    rw (c.from_residual.ensures, steps.0, steps.1.1) (sym c.self.view_is ∙ none, none)

-- The item of the next event, and the next body.
one : (c : goal.After-item_at)
    → (c.item_at.result ≡ held_item_in c.self.inside.beginning.now c.self.inside.events.start)
    × IsAtBody c.self.inside.beginning.now c.next.new.self.end c.next.new.self.start (c.self.inside.start + c.entry_of-entry.result.length)
one c =
    let w = c.self.inside in
    let steps = c.in_ok-event.ensures.steps in
    let few : w.events.start < w.events.end = omega (arith, steps.1.0) in
    let entry = rw steps.1.1 at c.entry_of-entry.ensures in
    let (here, on) = walks_on w.beginning.now w.events.end w.events.start w.start c.entry_of-entry.result c.self.invariant few entry (omega arith) in
    (c.item_at.ensures ∙ here, rw (steps.0, steps.1.2) on)

pub invariant_of-self-2 : goal.invariant_of-self-2
invariant_of-self-2 c = (one c).1

gives : (c : goal.After-item_at)
    → c.args.self.now ≡ c.item_at.result ∷ items_from c.self.inside.beginning.now c.next.new.self.end c.next.new.self.start
gives c =
    let w = c.self.inside in
    let steps = c.in_ok-event.ensures.steps in
    let few : w.events.start < w.events.end = omega (arith, steps.1.0) in
    rw (steps.0, steps.1.2, (one c).0) (sym c.self.view_is ∙ one_left w.beginning.now w.events.end w.events.start few)

pub returns-clause-steps : goal.returns-clause-steps
returns-clause-steps c = gives c

pub returns-clause-goes : goal.returns-clause-goes
returns-clause-goes c =
    let shorter = ap length (gives c) in search rules
