-- What holds of trace files. Each statement is a type; proofs/Theorems.antt proves it, as `held_whole : HeldWhole`.
use Rattle.std.specs.Prelude.{ℕ, ◌≤◌, ◌≡◌, List, [], ◌∷◌, length, take, Ok}
use Rattle.answer.specs.Table.{event_limit}
use Rattle.event.specs.declared.Address.TheVariants.{Shared}
use Rattle.event.specs.declared.Cache.TheVariants.{Ca}
use Rattle.event.specs.declared.Event.TheVariants.{Load, Copy, WaitAll}
use Rattle.event.specs.declared.Mode.TheVariants.{Plain}
use Rattle.trace.specs.File.{shape_of, recorded, file_of}
use Rattle.trace.specs.Beginning.{enough, held_of, checked_file, check_of}
use Rattle.event.specs.Addresses.{global, shared}

-- A file that is held whole is a beginning that says what the file says.
unfoldable pub HeldWhole : Type 0
HeldWhole = (limit : ℕ) (file : List ℕ) → held_of limit file (length file) ≡ file_of limit file

-- Enough first bytes decide, with the file's length, on its shape and on the first of 2 to 7 that it gets.
unfoldable pub BeginningDecides : Type 0
BeginningDecides =
    (limit : ℕ) (file : List ℕ) (k : ℕ) → enough limit ≤ k
    → (shape_of limit (take k file) (length file) ≡ shape_of limit file (length file))
    × (check_of limit (take k file) (length file) ≡ checked_file (file_of limit file))

-- The file that document 01 shows in full.
abbrev pub document_file : List ℕ
document_file =
    3 ∷ 0 ∷ 0 ∷ 0 ∷ 16 ∷ 0 ∷ 0 ∷ 0 ∷ 16 ∷ 0 ∷ 0 ∷ 0
    ∷ 16 ∷ 0 ∷ 16 ∷ 0 ∷ 19 ∷ 0 ∷ 0 ∷ 0 ∷ 1 ∷ 0 ∷ 8 ∷ 0
    ∷ 0 ∷ 0 ∷ 0 ∷ 0 ∷ 0 ∷ 0 ∷ 0 ∷ 0 ∷ 0 ∷ 0 ∷ 0 ∷ 0 ∷ 4 ∷ 0 ∷ 0 ∷ 0
    ∷ 1 ∷ 4 ∷ 0 ∷ 0 ∷ 0 ∷ 0 ∷ 0 ∷ 0
    ∷ []

unfoldable pub DocumentFile : Type 0
DocumentFile =
    file_of event_limit document_file
    ≡ recorded (record { events = 3; global = 16; shared = 16 })
    (Ok (Copy (shared 0) (global 0) 4 Plain Ca) ∷ Ok WaitAll ∷ Ok (Load (Shared (shared 0)) 4) ∷ [])
