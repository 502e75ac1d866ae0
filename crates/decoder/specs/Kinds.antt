-- The table of kinds, and what a body of a kind decodes as.
use Rattle.std.specs.Prelude.{ℕ, Bool, true, false, ◌||◌, cond, List, [], ◌∷◌, eqb, length, Ok, Err}
use Rattle.little_endian.specs.Number.{within}
use Rattle.answer.specs.declared.Answer.{Answer}
use Rattle.answer.specs.declared.Answer.TheVariants as answer
use Rattle.event.specs.declared.Event.TheVariants.{Commit, WaitAll, BulkCommit}
use Rattle.decoder.specs.Item.{Item}
use Rattle.decoder.specs.declared.Undecoded.TheVariants.{UnknownKind, WrongBodyLength, FieldNotAllowed}
use Rattle.decoder.specs.Bodies.{load_in, store_in, copy_in, wait_in, bulk_copy_in, bulk_reduction_in, bulk_wait_in}

-- A row of the table: a kind, how long its body is, and what a body of that length says.
pub record Row : Type 0 where
  pub kind : ℕ
  pub body_length : ℕ
  pub says : List ℕ → Item

abbrev row : ℕ → ℕ → (List ℕ → Item) → Row
row kind body_length says = record { kind = kind; body_length = body_length; says = says }

-- Document 01's kinds.
abbrev pub kinds_of_01 : List Row
kinds_of_01 =
    row 1 8 load_in
    ∷ row 2 24 store_in
    ∷ row 16 16 copy_in
    ∷ row 17 0 (λ body. Ok Commit)
    ∷ row 18 4 wait_in
    ∷ row 19 0 (λ body. Ok WaitAll)
    ∷ row 32 12 bulk_copy_in
    ∷ row 33 16 bulk_reduction_in
    ∷ row 34 0 (λ body. Ok BulkCommit)
    ∷ row 35 4 bulk_wait_in
    ∷ []

-- They fall in ranges: 1 to 2 thread, 16 to 19 non-bulk, 32 to 35 bulk.
abbrev pub in_ranges : ℕ → Bool
in_ranges kind = within 1 2 kind || within 16 19 kind || within 32 35 kind

-- What a body says, where its length is its kind's.
unfoldable pub of_length : ℕ → (List ℕ → Item) → List ℕ → Item
of_length body_length says body = cond (eqb (length body) body_length) (says body) (Err WrongBodyLength)

-- The first that applies: no row for the kind (5), a body length not the row's (6), what the body says (an event, or 7).
abbrev pub decode_by : List Row → ℕ → List ℕ → Item
decode_by [] kind body = Err UnknownKind
decode_by (r ∷ rows) kind body =
    cond (eqb kind r.kind) (of_length r.body_length r.says body) (decode_by rows kind body)

-- What a body of a kind decodes as.
unfoldable pub decode_of : ℕ → List ℕ → Item
decode_of kind body = decode_by kinds_of_01 kind body

-- The answer that an item gets as event i of a list by itself: 5, 6 or 7, and none where it decodes.
abbrev pub refusal_of : ℕ → Item → Answer
refusal_of i (Ok event) = answer.NoVerdict
refusal_of i (Err UnknownKind) = answer.UnknownKind i
refusal_of i (Err WrongBodyLength) = answer.WrongBodyLength i
refusal_of i (Err FieldNotAllowed) = answer.FieldNotAllowed i

abbrev pub is_decoded : Item → Bool
is_decoded (Ok event) = true
is_decoded (Err undecoded) = false

-- What a body that is longer than any kind's decodes as, whatever its bytes.
unfoldable pub overlong : ℕ → Item
overlong kind = cond (in_ranges kind) (Err WrongBodyLength) (Err UnknownKind)
