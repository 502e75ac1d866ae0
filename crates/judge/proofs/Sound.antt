-- What is known of a state that goes on.
-- Assumes nothing.
use Prim.Native.Nat.{ℕ, suc, ◌+◌, ◌≤◌, ◌<◌}
use mathlib.Core.Path.{◌≡◌, refl, sym}
use mathlib.Core.Bool.{Bool, true, false, cond, true≢false}
use Rattle.std.specs.Prelude.{Option, None, Some, is_none, IsSome}
use Rattle.std.specs.Option.{unwrap_or}
use lib.Dec.{ltb}
use borrow.Author.Tests.{leb-true, ltb-true, lt-ltb, le-ltb}
use Rattle.little_endian.proofs.Tests.{both}
use Rattle.answer.specs.declared.Answer.TheVariants.{WrongShape, TooManyEvents}
use Rattle.answer.specs.Table.{event_limit}
use Rattle.answer.specs.declared.Answer.{Answer}
use Rattle.judge.specs.declared.State.{State}
use Rattle.judge.specs.AsLeft.{place_length, ended}
use Rattle.judge.specs.Step.{is_sound, goes_on, counted}

-- ---- The numbers of a sound state.
pub record Bounded (s : State) : Type 0 where
  pub unclosed_most : s.unclosed ≤ s.peak
  pub peak_most : s.peak ≤ s.events
  pub events_limited : s.events ≤ event_limit
  pub copies_most : s.made.copies ≤ s.events
  pub bulk_most : s.made.bulk ≤ s.events

pub bounded : (s : State) → is_sound s ≡ true → Bounded s
unfolding is_sound
bounded s h =
    let (sound, lengths) = both _ _ h in
    let (sound, bulk) = both _ _ sound in
    let (sound, copies) = both _ _ sound in
    let (sound, events) = both _ _ sound in
    let (unclosed, peak) = both _ _ sound in
    record {
      unclosed_most = leb-true s.unclosed s.peak unclosed;
      peak_most = leb-true s.peak s.events peak;
      events_limited = leb-true s.events event_limit events;
      copies_most = leb-true s.made.copies s.events copies;
      bulk_most = leb-true s.made.bulk s.events bulk;
    }

-- ---- A state that goes on.
pub record Going (s : State) (ranges marks : ℕ) : Type 0 where
  pub none_refused : s.refusal ≡ None
  pub unclosed_most : s.unclosed ≤ s.peak
  pub peak_most : s.peak ≤ s.events
  pub copies_most : s.made.copies ≤ s.events
  pub bulk_most : s.made.bulk ≤ s.events
  pub events_most : s.events < event_limit
  pub ranges_long : place_length ≤ ranges
  pub marks_long : place_length ≤ marks

nothing : (o : Option Answer) → is_none o ≡ true → o ≡ None
nothing None h = refl
nothing (Some a) h = absurd (true≢false (sym h))

pub going : (s : State) (ranges marks : ℕ) → goes_on s ranges marks ≡ true → Going s ranges marks
unfolding goes_on
going s ranges marks h =
    let (rest, marks_long) = both _ _ h in
    let (rest, ranges_long) = both _ _ rest in
    let (rest, events) = both _ _ rest in
    let (none, sound) = both _ _ rest in
    let bounds = bounded s sound in
    record {
      none_refused = nothing s.refusal none;
      unclosed_most = bounds.unclosed_most;
      peak_most = bounds.peak_most;
      copies_most = bounds.copies_most;
      bulk_most = bounds.bulk_most;
      events_most = ltb-true s.events event_limit events;
      ranges_long = leb-true place_length ranges ranges_long;
      marks_long = leb-true place_length marks marks_long;
    }

-- ---- What is counted, and the answer afterwards.
module _ (s : State) where
  pub counted-past : event_limit ≤ s.events → counted s ≡ ended s.lengths (suc event_limit) TooManyEvents
  unfolding counted
  counted-past h = rw (le-ltb s.events event_limit h)

  pub counted-on : s.events < event_limit
      → counted s ≡ ended s.lengths (s.events + 1) (unwrap_or s.refusal WrongShape)
  unfolding counted
  counted-on few = rw (lt-ltb s.events event_limit few)

  -- whatever is counted, a refusal stands
  pub counted-refusal : IsSome (counted s).refusal
  unfolding counted
  counted-refusal = by_test (ltb s.events event_limit)
    where
      by_test : (few : Bool)
          → IsSome (cond few (ended s.lengths (s.events + 1) (unwrap_or s.refusal WrongShape))
          (ended s.lengths (suc event_limit) TooManyEvents)).refusal
      by_test true = refl
      by_test false = refl
