-- `events::load_bytes` meets its contract: no more items come than the limit, and the sum of their loads fits.
use mathlib.Core.Path.{◌∙◌}
use Rattle.std.proofs.Common.{rules}
use Rattle.std.proofs.lemmas.Iterator.{YieldsList-from_map}
use Rattle.std.proofs.lemmas.Iterator.Consumers.{YieldsList-at, YieldsList-from_first, sum_by_from_yields_List}
use Rattle.run.specs.Running.{load_size_of}
use Rattle.run.proofs.Items.{loads_added}
use Rattle.run.proofs.events.load_bytes.Goals as goal

pub returns : goal.returns
returns c =
    let items = c.args.file.now.items in
    sum_by_from_yields_List load_size_of items c.map.result c.sum.result c.sum.ensures.ran
    (YieldsList-from_map _ load_size_of (YieldsList-at c.map.ensures.source (YieldsList-from_first (λ x. x) (λ left. left) items c.items.ensures.all)) c.map.ensures.closure (λ x r q k. search rules))
    ∙ loads_added items
