-- What holds of the table. The statement is a type; proofs/Tags.antt proves it, as `tags_tell_apart : TagsTellApart`.
use Rattle.std.specs.Prelude.{ℕ, ◌<◌, ◌≡◌}
use Rattle.operations.specs.Tag.{tag_of}

-- Tags are the same only where all four parts are, if those below the type are digits of base 16.
unfoldable pub TagsTellApart : Type 0
TagsTellApart =
    (written chain operation element written' chain' operation' element' : ℕ)
    → written < 16 → chain < 16 → operation < 16 → written' < 16 → chain' < 16 → operation' < 16
    → tag_of written chain operation element ≡ tag_of written' chain' operation' element'
    → (written ≡ written') × (chain ≡ chain') × (operation ≡ operation') × (element ≡ element')
