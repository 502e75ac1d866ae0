-- `State::after` meets its contract.
use native.Mathlib.Omega.{arith}
use Rattle.judge.proofs.Sound.{going}
use Rattle.judge.proofs.State.after.Goals as goal

pub clashed-requires : goal.clashed-requires
clashed-requires c = (going _ _ _ c.requires).events_most

pub passed-requires : goal.passed-requires
passed-requires c = (going _ _ _ c.requires).events_most

pub clashed-requires-in-Some-clash : goal.clashed-requires-in-Some-clash
clashed-requires-in-Some-clash c = (going _ _ _ c.requires).events_most

pub put-requires : goal.put-requires
put-requires c = let known = going _ _ _ c.requires in omega arith

pub overflow_add-self : goal.overflow_add-self
overflow_add-self c = let known = going _ _ _ c.requires in omega arith

pub passed-requires-in-None-clash : goal.passed-requires-in-None-clash
passed-requires-in-None-clash c = (going _ _ _ c.requires).events_most

pub passed-requires-in-Commit : goal.passed-requires-in-Commit
passed-requires-in-Commit c = (going _ _ _ c.requires).events_most

pub close-unclosed-requires : goal.close-unclosed-requires
close-unclosed-requires c = let known = going _ _ _ c.requires in omega arith

pub passed-requires-in-Wait : goal.passed-requires-in-Wait
passed-requires-in-Wait c = (going _ _ _ c.requires).events_most
