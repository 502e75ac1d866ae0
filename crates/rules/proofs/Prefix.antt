-- What is open and what clashes up to an event depends on the events up to it.
-- Assumes nothing.
use Prim.Native.Nat.{ℕ, zero, suc, ◌<◌}
use native.Mathlib.Omega.{arith}
use mathlib.Core.Path.{◌≡◌, refl, sym, ◌∙◌, ap₂}
use mathlib.Core.Logic.{◌↔◌}
use mathlib.Core.Bool.{not, ◌&&◌}
use mathlib.Core.List.{List, ◌++◌}
use lib.ListN.{length, take, length-take, get_or-append}
use lib.Seq.{get_or-take}
use Rattle.event.specs.declared.Event.{Event}
use Rattle.event.specs.declared.Event.TheVariants.{Commit}
use Rattle.rules.specs.Events.{event_at}
use Rattle.rules.specs.Closing.{Chain, NonBulk, Bulk, role, after, groups, closed_by, is_operation, is_open}
use Rattle.rules.specs.Clashes.{EventsClash}
use Rattle.rules.specs.Tests.{clashes}
use Rattle.rules.proofs.Search.{any_same}
use Rattle.rules.proofs.Clashes.{clash-tells}

-- the two lists have the same first n events
abbrev pub Agree : List Event → List Event → ℕ → Type 0
Agree es es' n = (k : ℕ) → k < n → event_at es k ≡ event_at es' k

module _ (es es' : List Event) where
  groups-same : (chain : Chain) (w : ℕ) → Agree es es' w → groups chain es w ≡ groups chain es' w
  unfolding groups
  groups-same chain zero h = refl
  groups-same chain (suc w) h =
      ap₂ (λ e g. after (role chain e) w g) (h w (omega arith)) (groups-same chain w (λ k l. h k (omega arith)))

  pub closed_same : (i w : ℕ) → Agree es es' (suc w) → closed_by es i w ≡ closed_by es' i w
  unfolding closed_by
  closed_same i w h =
      let before : Agree es es' w = λ k l. h k (omega arith) in
      rw (h w (omega arith), groups-same NonBulk w before, groups-same Bulk w before)

  pub open_same : (n i : ℕ) → i < n → Agree es es' n → is_open es n i ≡ is_open es' n i
  unfolding is_open
  open_same n i lt h =
      ap₂ (λ e t. is_operation e && not t) (h i lt)
      (any_same (closed_by es i) (closed_by es' i) n (λ w l. closed_same i w (λ k m. h k (omega arith))))

  pub clashes-same : (i j : ℕ) → i < j → Agree es es' (suc j) → clashes es i j ≡ clashes es' i j
  unfolding clashes
  clashes-same i j lt h = rw (open_same (suc j) i (omega arith) h, h i (omega arith), h j (omega arith))

pub agree-take : (n : ℕ) (es : List Event) → Agree (take n es) es n
agree-take n es k l = get_or-take n es k Commit l

pub agree-append : (es more : List Event) → Agree (es ++ more) es (length es)
agree-append es more k l = get_or-append es more Commit k l

-- a clash with an earlier event over the whole list is one over the list up to the later event
pub clash_up_to_lem : (es : List Event) (i j : ℕ) → i < j → j < length es
    → EventsClash es i j ↔ EventsClash (take (suc j) es) i j
clash_up_to_lem es i j lt below =
    let shorter = take (suc j) es in
    let same : clashes shorter i j ≡ clashes es i j = clashes-same shorter es i j lt (agree-take (suc j) es) in
    let inside : j < length shorter = simp length-take (omega arith) in (
      λ c. (clash-tells shorter i j lt inside).0 (same ∙ (clash-tells es i j lt below).1 c),
      λ c. (clash-tells es i j lt below).0 (sym same ∙ (clash-tells shorter i j lt inside).1 c),
    )
