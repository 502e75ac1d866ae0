-- `State::clash` meets its contract.
use native.Mathlib.Omega.{arith}
use Rattle.judge.proofs.Sound.{going}
use Rattle.judge.proofs.State.clash.Goals as goal

pub first_clash-requires : goal.first_clash-requires
first_clash-requires c = let known = going _ _ _ c.requires in omega arith
