-- `events::act_all` meets its contract: what is left has still to act, is without fault, and its loads fit.
use Prim.Native.Nat.{suc}
use Rattle.std.proofs.Common.{rules}
use native.Mathlib.Omega.{arith}
use mathlib.Core.Path.{refl, sym, ap, ◌∙◌}
use Rattle.moves.specs.Acting.{Memories, held}
use Rattle.run.specs.Acting.{acted_all}
use Rattle.run.proofs.Items.{each-faultless, item_fills}
use Rattle.run.proofs.events.act_all.Goals as goal

pub loop-item-init : goal.loop-item-init
loop-item-init c =
    let items = c.into_iter-item-iterator.ensures.into_iter_gives ∙ c.items-item-items.ensures.all in
    let new = c.new-lent.ensures in
    let filled = ap (λ (m : Memories). m.filled) new.held in
    let sound = each-faultless _ c.args.file.now.items c.requires.accepted in
    rw items
    (tt, tt, ap (acted_all c.args.file.now.items) new.held, rw (new.same_global.1, new.same_shared.1) sound, omega (arith, c.requires.loads_fit, filled, new.same_loads.1), ((refl, refl), (refl, refl), (refl, refl)))

pub loop-item-preserved : goal.loop-item-preserved
loop-item-preserved c =
    let loop = c.loop-item in
    let was = loop.invariant in
    let next = c.in-Some.ensures.steps in
    let before = held loop.lent in
    let acts = ap (acted_all c.next.new.self) c.act_item.ensures.acted ∙ ap (λ l. acted_all l before) (sym next) ∙ was.2 in
    let sound = rw next at was.3 in
    let fits = rw next at was.4 in
    let same = c.act_item.ensures.same_loan in
    let filled = ap (λ (m : Memories). m.filled) c.act_item.ensures.acted in
    (tt, tt, acts, λ k d few. sound (suc k) d (omega (arith, few)), omega (arith, fits, filled, same.2.1, item_fills c.in-Some.item before), search rules)
