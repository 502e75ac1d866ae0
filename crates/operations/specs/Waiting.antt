-- Which records a wait keeps.
use Rattle.std.specs.Prelude.{◌+◌, Bool, not, ◌||◌, List, eqb, leb}
use Rattle.std.specs.List.{filter}
use Rattle.operations.specs.declared.Record.{Record}
use Rattle.operations.specs.declared.Wait.{Wait}
use Rattle.operations.specs.Tag.{chain_in}

-- One of another chain, or with no more groups made since than stay open.
unfoldable pub stays_open : Wait → Record → Bool
stays_open wait operation =
    not (eqb (chain_in operation.tag) wait.chain) || leb wait.commits (operation.commits + wait.newest)

abbrev pub kept : Wait → List Record → List Record
kept wait operations = filter (stays_open wait) operations
