-- `State::answer` meets its contract.
use mathlib.Core.Path.{sym, ◌∙◌}
use Rattle.judge.proofs.Telling.{told_sound, told-odd, told-refusal, told_none, told}
use Rattle.judge.proofs.State.answer.Goals as goal

pub returns-in-None : goal.returns-in-None
returns-in-None c =
    let self = c.args.self in
    let promised = told self _ (sym (told_sound self c.in-None.is (sym c.is_sound.ensures ∙ c.if-is_sound.true))) in
    record {
      as_judged = promised.0;
      value = promised.1.0;
      given = promised.1.1;
    }

pub returns-in-Some : goal.returns-in-Some
returns-in-Some c =
    let self = c.args.self in
    let promised = told self _ (sym (told-refusal self _ c.in-Some.is (sym c.is_refusal.ensures ∙ c.if-is_refusal.true))) in
    record {
      as_judged = promised.0;
      value = promised.1.0;
      given = promised.1.1;
    }

pub returns-in_default : goal.returns-in_default
returns-in_default c =
    let self = c.args.self in
    let promised = told self _ (sym (told-odd self c.in-None.is (sym c.is_sound.ensures ∙ c.if-is_sound.false))) in
    record {
      as_judged = promised.0;
      value = promised.1.0;
      given = promised.1.1;
    }

pub returns-in_default-2 : goal.returns-in_default-2
returns-in_default-2 c =
    let self = c.args.self in
    let promised = told self _ (sym (told_none self _ c.in-Some.is (sym c.is_refusal.ensures ∙ c.if-is_refusal.false))) in
    record {
      as_judged = promised.0;
      value = promised.1.0;
      given = promised.1.1;
    }
