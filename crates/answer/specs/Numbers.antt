-- The numbers of an answer: document 01's code, event, partner and peak. Where the table names none, a number is 0.
use Rattle.std.specs.Prelude.{ℕ, List, [], ◌∷◌, get_or}
use Rattle.answer.specs.declared.Answer.{Answer}
use Rattle.answer.specs.declared.Answer.TheVariants.{NoVerdict, Accepted, WrongShape, TooManyEvents, WrongMemoryLength, UnknownKind, WrongBodyLength, FieldNotAllowed, Misaligned, OutOfRange, Clash, NoRoom, NotWritten}
use Rattle.answer.specs.declared.Numbers.{Numbers}

-- A code, with its event, partner and peak.
abbrev pub four : ℕ → ℕ → ℕ → ℕ → Numbers
four code event partner peak = record { code = code; event = event; partner = partner; peak = peak }

abbrev pub numbers_of : Answer → Numbers
numbers_of NoVerdict = four 0 0 0 0
numbers_of (Accepted events peak) = four 1 events 0 peak
numbers_of WrongShape = four 2 0 0 0
numbers_of TooManyEvents = four 3 0 0 0
numbers_of WrongMemoryLength = four 4 0 0 0
numbers_of (UnknownKind event) = four 5 event 0 0
numbers_of (WrongBodyLength event) = four 6 event 0 0
numbers_of (FieldNotAllowed event) = four 7 event 0 0
numbers_of (Misaligned event) = four 8 event 0 0
numbers_of (OutOfRange event) = four 9 event 0 0
numbers_of (Clash event partner) = four 10 event partner 0
numbers_of (NoRoom event) = four 11 event 0 0
numbers_of NotWritten = four 12 0 0 0

-- The cases of the table, from code 0 on, each with those of the numbers that it holds.
abbrev pub cases : Numbers → List Answer
cases n =
    NoVerdict
    ∷ Accepted n.event n.peak
    ∷ WrongShape
    ∷ TooManyEvents
    ∷ WrongMemoryLength
    ∷ UnknownKind n.event
    ∷ WrongBodyLength n.event
    ∷ FieldNotAllowed n.event
    ∷ Misaligned n.event
    ∷ OutOfRange n.event
    ∷ Clash n.event n.partner
    ∷ NoRoom n.event
    ∷ NotWritten
    ∷ []

-- The case that has this code.
abbrev pub case_of : Numbers → Answer
case_of n = get_or (cases n) n.code NoVerdict
