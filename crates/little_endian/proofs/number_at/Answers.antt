-- `number_at` meets its contract: what stands first past the bytes before `at` stands at `at`.
use Prim.Native.Nat.{◌-◌}
use native.Mathlib.Omega.{arith}
use native.Mathlib.Nat.{add-zero}
use mathlib.Core.Path.{◌≡◌, ◌∙◌}
use lib.ListN.{length, drop}
use Rattle.std.proofs.Math.Facts.{Fits-lt-pow}
use Rattle.little_endian.specs.Number.{Bytes, number_at}
use Rattle.little_endian.proofs.Widths.{bounded, number-take, number-drop}
use Rattle.little_endian.proofs.number_at.Goals as goal

pub returns : goal.returns
returns g c =
    let width = g.N.Number.width in
    let bytes = c.args.bytes.now in
    let value : g.N.Number.value c.first_of.result ≡ number_at width bytes c.args.at =
    c.first_of.ensures
    ∙ number-take width (length bytes - c.args.at) (drop c.args.at bytes) 0 (omega arith)
    ∙ (rw add-zero at (number-drop width c.args.at bytes 0)) in
    let each : Bytes bytes = unfold Bytes in λ i. Fits-lt-pow (c.type_inv.bytes i) in
    record {
      value = value;
      small = rw value (bounded width bytes c.args.at each);
    }
