-- What a run of a file over two lent memories and a load record gives.
use Rattle.std.specs.Prelude.{ℕ, ◌+◌, ◌≡◌, Bool, not, ◌&&◌, cond, List, [], ◌∷◌, ◌++◌, map, eqb, leb, length, drop, Ok, Err}
use Rattle.answer.specs.Codes.{IsAccepted, is_accepted}
use Rattle.answer.specs.declared.Answer.{Answer}
use Rattle.answer.specs.declared.Answer.TheVariants.{WrongMemoryLength, NoRoom}
use Rattle.event.specs.declared.Event.{Event}
use Rattle.decoder.specs.Item.{Item}
use Rattle.trace.specs.declared.Header.{Header}
use Rattle.trace.specs.File.{Contents, refused, recorded}
use Rattle.rules.specs.Closing.{all_of}
use Rattle.rules.specs.Orders.{Action, PermittedOrder}
use Rattle.rules.specs.Answers.{answer_of, lengths_in}
use Rattle.rules.specs.Outcomes.{load_size, Outcome, outcome}

-- ---- What is lent.

-- The bytes of the two memories and of the load record.
pub record Lent : Type 0 where
  pub global : List ℕ
  pub shared : List ℕ
  pub load_record : List ℕ

abbrev pub lent : List ℕ → List ℕ → List ℕ → Lent
lent global shared load_record = record { global = global; shared = shared; load_record = load_record }

-- ---- The answer.

-- The bytes that an item loads.
abbrev pub load_size_of : Item → ℕ
load_size_of (Ok e) = load_size e
load_size_of (Err undecoded) = 0

-- The loads' total bytes.
abbrev pub load_bytes : List Item → ℕ
load_bytes [] = 0
load_bytes (item ∷ items) = load_size_of item + load_bytes items

-- After all events 11, where these don't fit the load record.
abbrev pub or_no_room : ℕ → List Item → Answer → Answer
or_no_room room items answer = cond (is_accepted answer && not (leb (load_bytes items) room)) (NoRoom (length items)) answer

-- Before any event 4, where a memory length is not the lent memory's.
abbrev pub are_lent : Header → Lent → Bool
are_lent header before = eqb header.global (length before.global) && eqb header.shared (length before.shared)

-- The answer of a run: that of the file, with these two.
unfoldable pub answer_of_run : Contents → Lent → Answer
answer_of_run (refused answer) before = answer
answer_of_run (recorded header items) before =
    cond (are_lent header before)
    (or_no_room (length before.load_record) items (answer_of (lengths_in header) items))
    WrongMemoryLength

-- ---- What is left.

-- Loads are appended to the load record in file order; bytes past them stay.
abbrev pub appended : List (List ℕ) → List ℕ → List ℕ
appended loads load_record = all_of loads ++ drop (length (all_of loads)) load_record

-- What is lent, after an outcome.
abbrev pub lent_after : Outcome → List ℕ → Lent
lent_after o load_record = lent o.global o.shared (appended o.loads load_record)

-- What an order of the list's actions leaves of what is lent.
abbrev pub leaves : List Event → List Action → Lent → Lent
leaves es order before = lent_after (outcome es before.global before.shared order) before.load_record

-- A run of a file that says this, or whose beginning does: its answer, and what the lent things hold afterwards.
pub record Ran (contents : Contents) (before : Lent) (answer : Answer) (after : Lent) : Type 0 where
  pub answers : answer ≡ answer_of_run contents before
  -- A refusal writes nothing.
  pub refusal : ¬ IsAccepted answer → after ≡ before
  -- An accepted file leaves what every permitted order of its events gives.
  pub acceptance : IsAccepted answer → (header : Header) (es : List Event) → contents ≡ recorded header (map Ok es)
      → (order : List Action) → PermittedOrder es order → after ≡ leaves es order before
