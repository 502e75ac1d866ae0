-- `event::fields::is_value` meets its contract: a size of eight or more leaves bytes of the second half alone.
use Prim.Native.Nat.{◌≤◌}
use native.Mathlib.Omega.{arith}
use Rattle.event.proofs.Values.{first_half, second_half}
use Rattle.event.proofs.fields.is_value.Goals as goal

pub returns-in-Some : goal.returns-in-Some
returns-in-Some c =
    let rest = c.in-Some.ensures in
    rw (c.zero_past.ensures, rest.1) (second_half c.args.size c.args.low c.args.high rest.0)

pub returns-in-None : goal.returns-in-None
returns-in-None c =
    let short : ¬ (8 ≤ c.args.size) = c.in-None.ensures in
    rw c.zero_past-in-None.ensures (first_half c.args.size c.args.low c.args.high (omega arith) (omega arith))
