-- `trace::items::item_at` meets its contract: what is held to its end is decoded.
use mathlib.Core.Path.{sym, ap, ◌∙◌}
use Rattle.decoder.specs.Kinds.{decode_of}
use Rattle.trace.proofs.Entries.{held, not-held}
use Rattle.trace.proofs.items.item_at.Goals as goal

pub returns-in-Some : goal.returns-in-Some
returns-in-Some c =
    let part = c.in-Some.ensures in
    c.decode.ensures ∙ ap (decode_of c.args.entry.kind) part.1 ∙ held _ _ _ part.0

pub returns-in-None : goal.returns-in-None
returns-in-None c = c.overlong.ensures ∙ sym (not-held _ _ _ c.in-None.ensures)
