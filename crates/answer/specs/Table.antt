-- Which numbers a code names, and their bounds: the one table that the sheet's reader and writer go by.
use Rattle.std.specs.Prelude.{ℕ, Bool, false, ◌&&◌, List, [], ◌∷◌, ltb, leb, get_or}
use Rattle.little_endian.specs.Number.{is_zero}
use Rattle.answer.specs.declared.Numbers.{Numbers}
use Rattle.answer.specs.declared.table.Named.{Named}
use Rattle.answer.specs.declared.table.Named.TheVariants.{Unread, Nothing, Count, CountAndPeak, Event, EventAndPartner}

-- The most events that a list may have.
abbrev pub event_limit : ℕ
event_limit = 1024

-- What each code names, from code 0 on. No sheet has code 0, or one past the last.
abbrev pub rows : List Named
rows =
    Unread  -- 0: no verdict
    ∷ CountAndPeak  -- 1: accepted
    ∷ Nothing  -- 2: file shape wrong
    ∷ Nothing  -- 3: too many events
    ∷ Nothing  -- 4: a memory length
    ∷ Event  -- 5: unknown kind
    ∷ Event  -- 6: body length
    ∷ Event  -- 7: a field not allowed
    ∷ Event  -- 8: alignment
    ∷ Event  -- 9: range
    ∷ EventAndPartner  -- 10: clash
    ∷ Count  -- 11: the loads don't fit
    ∷ []

abbrev pub named_by : ℕ → Named
named_by code = get_or rows code Unread

-- Unnamed numbers are zero; event = n is at most the limit, an event under it; a partner is under its event, a peak at most the count.
unfoldable pub fit_named : Named → ℕ → ℕ → ℕ → Bool
fit_named Unread event partner peak = false
fit_named Nothing event partner peak = is_zero event && is_zero partner && is_zero peak
fit_named Count event partner peak = leb event event_limit && is_zero partner && is_zero peak
fit_named CountAndPeak event partner peak = leb event event_limit && is_zero partner && leb peak event
fit_named Event event partner peak = ltb event event_limit && is_zero partner && is_zero peak
fit_named EventAndPartner event partner peak = ltb event event_limit && ltb partner event && is_zero peak

-- A sheet can hold these numbers.
unfoldable pub fit : Numbers → Bool
fit n = fit_named (named_by n.code) n.event n.partner n.peak
