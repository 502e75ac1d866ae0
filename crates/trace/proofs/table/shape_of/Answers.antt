-- `trace::table::shape_of` meets its contract: it goes through the checks in document 01's order.
use native.Mathlib.Omega.{arith}
use mathlib.Core.Path.{sym, refl, ap, ◌∙◌}
use mathlib.Core.Bool.{true, false}
use Rattle.answer.specs.Table.{event_limit}
use Rattle.trace.specs.declared.Header.{Header}
use Rattle.trace.proofs.Shapes.{not-headed, too_many, by_tests}
use Rattle.trace.proofs.table.shape_of.Goals as goal

pub returns-then-beginning-lt-HEADER_LENGTH : goal.returns-then-beginning-lt-HEADER_LENGTH
returns-then-beginning-lt-HEADER_LENGTH c = sym (not-headed event_limit _ _ c.then-beginning-lt-HEADER_LENGTH.either)

pub returns-then-header-gt-EVENT_LIMIT : goal.returns-then-header-gt-EVENT_LIMIT
returns-then-header-gt-EVENT_LIMIT c =
    let events = ap (λ (h : Header). h.events) c.header_in-header.ensures in
    sym (too_many event_limit _ _ (omega arith) (omega arith) (omega arith))

pub returns-then-not-is_shape : goal.returns-then-not-is_shape
returns-then-not-is_shape c =
    let header = c.header_in-header in
    by_tests event_limit _ _ header.result false _ (omega arith) (omega arith) header.ensures (omega arith)
    (sym c.if-not-is_shape.true ∙ c.is_shape.ensures)
    refl

pub returns-then-header : goal.returns-then-header
returns-then-header c =
    let header = c.header_in-header in
    by_tests event_limit _ _ header.result true true (omega arith) (omega arith) header.ensures (omega arith)
    (sym c.if-not-is_shape.false ∙ c.is_shape.ensures)
    c.if-header.true

pub returns-else-header : goal.returns-else-header
returns-else-header c =
    let header = c.header_in-header in
    by_tests event_limit _ _ header.result true false (omega arith) (omega arith) header.ensures (omega arith)
    (sym c.if-not-is_shape.false ∙ c.is_shape.ensures)
    c.if-header.false
