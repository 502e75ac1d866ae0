-- `decoder::overlong` meets its contract: a body of 25 bytes is longer than any kind's.
use mathlib.Core.Path.{◌∙◌}
use lib.Dec.{lit<}
use Rattle.decoder.proofs.Rows.{long_body}
use Rattle.decoder.proofs.overlong.Goals as goal

pub returns : goal.returns
returns c = c.decode.ensures ∙ long_body _ _ (lit< tt)
