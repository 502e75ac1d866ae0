-- `Lent::act` meets its contract: what an event reads is appended to the record.
use Rattle.std.proofs.Common.{rules, length, ◌≡◌}
use mathlib.Core.Path.{ap, ap₂, ◌∙◌}
use Rattle.effect.specs.Memory.{State}
use Rattle.moves.specs.Acting.{moved, held}
use Rattle.moves.proofs.Acting.{appends}
use Rattle.moves.proofs.Lent.act.Goals as goal

pub returns-clause-acted : goal.returns-clause-acted
returns-clause-acted c =
    let event = c.args.event in
    let written = c.move_bytes.ensures in
    let from = ap₂ (moved event) c.new-global.ensures.same_bytes c.new-shared.ensures.same_bytes in
    let long : length c.move_bytes.new.read ≡ c.load_size.result = search rules in
    let acts =
    appends event (held c.args.self.now) _ _ _ _ long (rw c.load_size.ensures c.requires.load_fits)
    (written.global_after ∙ ap (λ (s : State). s.global) from)
    (written.shared_after ∙ ap (λ (s : State). s.shared) from)
    (written.read_after ∙ ap (λ (s : State). s.loaded) from) in
    search rules
