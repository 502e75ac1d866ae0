-- `decoder::decode` meets its contract: a kind outside the ranges is unknown.
use mathlib.Core.Path.{sym}
use native.Mathlib.Omega.{arith}
use Rattle.decoder.proofs.Rows.{unknown-outside}
use Rattle.decoder.proofs.decode.Goals as goal

pub returns-in_default : goal.returns-in_default
returns-in_default c = sym (unknown-outside _ _ (λ h k. omega arith) (λ h k. omega arith) (λ h k. omega arith))

pub returns-in_default-2 : goal.returns-in_default-2
returns-in_default-2 c = sym (unknown-outside _ _ (λ h k. omega arith) (λ h k. omega arith) (λ h k. omega arith))

pub returns-in_default-3 : goal.returns-in_default-3
returns-in_default-3 c = sym (unknown-outside _ _ (λ h k. omega arith) (λ h k. omega arith) (λ h k. omega arith))

pub returns-in_default-4 : goal.returns-in_default-4
returns-in_default-4 c = sym (unknown-outside _ _ (λ h k. omega arith) (λ h k. omega arith) (λ h k. omega arith))
