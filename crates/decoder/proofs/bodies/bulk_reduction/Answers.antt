-- `decoder::bodies::bulk_reduction` meets its contract: an operation and a type with a meaning are those of the lists.
use Rattle.std.proofs.Common.{rules}
use mathlib.Core.Path.{◌≡◌, sym, ◌∙◌}
use mathlib.Core.Bool.{true}
use native.Mathlib.Omega.{arith}
use lib.Dec.{leb}
use borrow.Author.Tests.{le-leb}
use Rattle.event.specs.declared.ElementType.TheVariants.{B32}
use Rattle.event.specs.declared.Operation.TheVariants.{And}
use Rattle.decoder.specs.Bodies.{byte_at, checked, operations, types}
use Rattle.decoder.specs.Kinds.{of_length}
use Rattle.decoder.proofs.Meaning.{in_list}
use Rattle.decoder.proofs.bodies.bulk_reduction.Goals as goal

pub returns : goal.returns
unfolding of_length checked
returns c =
    let body = c.args.body.now in
    let operation = in_list operations (byte_at body 12) _ And (sym c.try_from.ensures ∙ c.in_ok-try_from.was) in
    let element = in_list types (byte_at body 13) _ B32 (sym c.try_from-2.ensures ∙ c.in_ok-try_from-2.was) in
    let known : leb (byte_at body 12) 5 ≡ true = le-leb _ _ (omega (arith, operation.0)) in
    let typed : leb (byte_at body 13) 2 ≡ true = le-leb _ _ (omega (arith, element.0)) in
    rw (operation.1, element.1, known, typed) (search rules)
