-- `State::step_item` meets its contract.
use native.Mathlib.Omega.{arith}
use mathlib.Core.Path.{sym, ap, ◌∙◌}
use Rattle.decoder.proofs.Variants.{undecoded}
use Rattle.judge.specs.Step.{refused_by, leaving, left_by}
use Rattle.judge.proofs.Sound.{going}
use Rattle.judge.proofs.Carrying.{stepped, step-counted, step-undecoded, step-fault, step-passes}
use Rattle.judge.proofs.State.step_item.Goals as goal

pub returns-then-not-goes_on : goal.returns-then-not-goes_on
returns-then-not-goes_on c =
    let a = c.args in
    let stops = sym c.goes_on.ensures ∙ c.if-not-goes_on.true in
    stepped a.self a.item a.ranges.now a.marks.now _ _ _
    (ap (λ t. leaving t a.ranges.now a.marks.now) c.counted.ensures ∙ sym (step-counted _ _ _ a.item stops))

pub refused-requires : goal.refused-requires
refused-requires c = (going _ _ _ (sym c.goes_on.ensures ∙ c.if-not-goes_on.false)).events_most

pub returns-in_default : goal.returns-in_default
returns-in_default c =
    let a = c.args in
    let on = sym c.goes_on.ensures ∙ c.if-not-goes_on.false in
    let refusal = c.refused.ensures ∙ ap (refused_by a.self) c.refusal.ensures in
    stepped a.self a.item a.ranges.now a.marks.now _ _ _
    (ap (λ t. leaving t a.ranges.now a.marks.now) refusal
    ∙ sym (step-undecoded _ _ _ on a.item (undecoded a.item c.in_default.not-Ok)))

pub refused-requires-in-Some : goal.refused-requires-in-Some
refused-requires-in-Some c = (going _ _ _ (sym c.goes_on.ensures ∙ c.if-not-goes_on.false)).events_most

pub returns-in-Some : goal.returns-in-Some
returns-in-Some c =
    let a = c.args in
    let on = sym c.goes_on.ensures ∙ c.if-not-goes_on.false in
    let fault = sym c.fault_alone.ensures ∙ c.in-Some.is in
    rw c.in-Ok.is
    (stepped a.self _ a.ranges.now a.marks.now _ _ _
    (ap (λ t. leaving t a.ranges.now a.marks.now) c.refused-in-Some.ensures ∙ sym (step-fault _ _ _ on _ _ fault)))

pub part_of-part-requires : goal.part_of-part-requires
part_of-part-requires c = let known = going _ _ _ (sym c.goes_on.ensures ∙ c.if-not-goes_on.false) in omega arith

pub returns : goal.returns
returns c =
    let a = c.args in
    let on = sym c.goes_on.ensures ∙ c.if-not-goes_on.false in
    let none = sym c.fault_alone.ensures ∙ c.in_default-fault_alone.is in
    rw c.in-Ok.is
    (stepped a.self _ a.ranges.now a.marks.now _ _ _
    (c.after.ensures ∙ ap (λ p. left_by p a.self a.ranges.now a.marks.now) c.part_of-part.ensures
    ∙ sym (step-passes _ _ _ on _ none)))
