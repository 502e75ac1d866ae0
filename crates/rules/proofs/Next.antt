-- One more event: what is known of a list with it, by what was known of the list before it.
-- Assumes nothing.
use Prim.Native.Nat.{ℕ, zero, suc, ◌+◌, ◌≤◌, ◌<◌, max}
use native.Mathlib.Omega.{arith}
use mathlib.Core.Path.{◌≡◌, refl, sym, ◌∙◌, ap, ap₂}
use mathlib.Core.Bool.{Bool, true, false, not, cond, ◌&&◌, ◌||◌, false≢true, and-true, and-false}
use mathlib.Mathlib.Data.Bool.Basic.{eq-false_of_not-eq-true}
use mathlib.Core.List.{List, [], ◌∷◌, ◌++◌}
use lib.ListN.{length}
use lib.Seq.{get_or-append_seam}
use lib.Dec.{ltb}
use borrow.Author.Tests.{ltb-true, lt-ltb}
use Rattle.little_endian.proofs.Tests.{equal_tests}
use Rattle.event.specs.declared.Event.{Event}
use Rattle.event.specs.declared.Event.TheVariants.{Load, Store, Copy, Commit, Wait, WaitAll, BulkCopy, BulkReduction, BulkCommit, BulkWait}
use Rattle.effect.specs.Access.{Access}
use Rattle.rules.specs.Search.{any_below, count_below}
use Rattle.rules.specs.Events.{effect_of, accesses, event_at}
use Rattle.rules.specs.Closing.{Chain, NonBulk, Bulk, Role, operation, commit, wait_all, other, wait, role, after, groups, is_operation, closed_by, is_open}
use Rattle.rules.specs.Peak.{open_after, peak}
use Rattle.rules.specs.Tests.{may_share, some_meet, collide, clashes}
use Rattle.rules.proofs.Search.{any_same, some_below}
use Rattle.rules.proofs.Counting.{makes, commits, Closes, by_wait, by_wait_all, closing_by_counting, closes-earlier}
use Rattle.rules.proofs.Prefix.{Agree, closed_same, open_same, agree-append}

-- ---- groups made are groups counted
made-next : (chain : Chain) (es : List Event) (w : ℕ) (r : Role) → length (after r w (groups chain es w)).made
    ≡ length (groups chain es w).made + makes r
made-next chain es w operation = omega arith
made-next chain es w commit = omega arith
made-next chain es w wait_all = omega arith
made-next chain es w other = omega arith
made-next chain es w (wait n) = omega arith

pub made-commits : (chain : Chain) (es : List Event) (w : ℕ) → length (groups chain es w).made ≡ commits chain es w
unfolding groups commits
made-commits chain es zero = refl
made-commits chain es (suc w) =
    made-next chain es w (role chain (event_at es w))
    ∙ ap (λ n. n + makes (role chain (event_at es w))) (made-commits chain es w)

-- ---- counts of a shorter list
commits-same : (chain : Chain) (es es' : List Event) (w : ℕ) → Agree es es' w → commits chain es w ≡ commits chain es' w
unfolding commits
commits-same chain es es' zero h = refl
commits-same chain es es' (suc w) h =
    ap₂ (λ n e. n + makes (role chain e)) (commits-same chain es es' w (λ k l. h k (omega arith))) (h w (omega arith))

count_same : (p q : ℕ → Bool) (n : ℕ) → ((k : ℕ) → k < n → p k ≡ q k) → count_below p n ≡ count_below q n
count_same p q zero h = refl
count_same p q (suc n) h = ap₂ (λ c t. c + cond t 1 0) (count_same p q n (λ k l. h k (omega arith))) (h n (omega arith))

peak-same : (es es' : List Event) (n : ℕ) → Agree es es' n → peak es n ≡ peak es' n
unfolding peak
peak-same es es' zero h = refl
peak-same es es' (suc n) h =
    ap₂ max (peak-same es es' n (λ k l. h k (omega arith)))
    (count_same (is_open es (suc n)) (is_open es' (suc n)) (suc n) (λ k l. open_same es es' (suc n) k l h))

-- ---- an operation is of one chain, and a wait has no access
one-chain : (e : Event) → role NonBulk e ≡ operation → ¬ (role Bulk e ≡ operation)
one-chain (Load address size) p q = let z : ◌≡◌ {A = ℕ} 0 1 = cc in omega arith
one-chain (Store address size low high) p q = let z : ◌≡◌ {A = ℕ} 0 1 = cc in omega arith
one-chain (Copy dst src cp_size mode cache) p q = let z : ◌≡◌ {A = ℕ} 0 1 = cc in omega arith
one-chain Commit p q = let z : ◌≡◌ {A = ℕ} 0 1 = cc in omega arith
one-chain (Wait n) p q = let z : ◌≡◌ {A = ℕ} 0 1 = cc in omega arith
one-chain WaitAll p q = let z : ◌≡◌ {A = ℕ} 0 1 = cc in omega arith
one-chain (BulkCopy dst src size) p q = let z : ◌≡◌ {A = ℕ} 0 1 = cc in omega arith
one-chain (BulkReduction dst src size o t) p q = let z : ◌≡◌ {A = ℕ} 0 1 = cc in omega arith
one-chain BulkCommit p q = let z : ◌≡◌ {A = ℕ} 0 1 = cc in omega arith
one-chain (BulkWait n) p q = let z : ◌≡◌ {A = ℕ} 0 1 = cc in omega arith

same-chain : (c d : Chain) (e : Event) → role c e ≡ operation → role d e ≡ operation → c ≡ d
same-chain NonBulk NonBulk e p q = refl
same-chain NonBulk Bulk e p q = absurd (one-chain e p q)
same-chain Bulk NonBulk e p q = absurd (one-chain e q p)
same-chain Bulk Bulk e p q = refl

abbrev Waits : Role → Type 0
Waits operation = ⊥
Waits commit = ⊥
Waits wait_all = Unit {0}
Waits other = ⊥
Waits (wait n) = Unit {0}

waits_no_access : (c : Chain) (e : Event) → Waits (role c e) → accesses e ≡ []
waits_no_access NonBulk (Load address size) w = absurd w
waits_no_access NonBulk (Store address size low high) w = absurd w
waits_no_access NonBulk (Copy dst src cp_size mode cache) w = absurd w
waits_no_access NonBulk Commit w = absurd w
waits_no_access NonBulk (Wait n) w = refl
waits_no_access NonBulk WaitAll w = refl
waits_no_access NonBulk (BulkCopy dst src size) w = absurd w
waits_no_access NonBulk (BulkReduction dst src size o t) w = absurd w
waits_no_access NonBulk BulkCommit w = absurd w
waits_no_access NonBulk (BulkWait n) w = absurd w
waits_no_access Bulk (Load address size) w = absurd w
waits_no_access Bulk (Store address size low high) w = absurd w
waits_no_access Bulk (Copy dst src cp_size mode cache) w = absurd w
waits_no_access Bulk Commit w = absurd w
waits_no_access Bulk (Wait n) w = absurd w
waits_no_access Bulk WaitAll w = absurd w
waits_no_access Bulk (BulkCopy dst src size) w = absurd w
waits_no_access Bulk (BulkReduction dst src size o t) w = absurd w
waits_no_access Bulk BulkCommit w = absurd w
waits_no_access Bulk (BulkWait n) w = refl

meets-nothing : (xs : List Access) → some_meet xs [] ≡ false
meets-nothing [] = refl
meets-nothing (x ∷ xs) = meets-nothing xs

-- whether an event closes an operation of its chain that started when the chain had made `started` groups, now that it has
-- made `made`
abbrev pub closes_now : Role → ℕ → ℕ → Bool
closes_now (wait n) started made = ltb (started + n) made
closes_now wait_all started made = true
closes_now operation started made = false
closes_now commit started made = false
closes_now other started made = false

module _ (before : List Event) (e : Event) where
  abbrev n : ℕ
  n = length before

  abbrev longer : List Event
  longer = before ++ e ∷ []

  old : Agree longer before n
  old = agree-append before (e ∷ [])

  new : event_at longer n ≡ e
  new = get_or-append_seam before e [] Commit

  -- ---- groups made
  pub commits-old : (chain : Chain) (i : ℕ) → i ≤ n → commits chain longer i ≡ commits chain before i
  commits-old chain i l = commits-same chain longer before i (λ k m. old k (omega arith))

  pub commits-next : (chain : Chain) → commits chain longer (suc n) ≡ commits chain before n + makes (role chain e)
  unfolding commits
  commits-next chain = rw (new, commits-old chain n (omega arith))

  -- ---- closing by counts
  by_role : (chain : Chain) (i : ℕ) (r : Role) → role chain (event_at longer n) ≡ r → i < n
      → role chain (event_at longer i) ≡ operation
      → closes_now r (commits chain longer i) (commits chain longer n) ≡ true → Closes longer i n
  by_role chain i (wait m) q l op h = by_wait chain m q (record { starts = op; earlier = l; more = ltb-true _ _ h })
  by_role chain i wait_all q l op h = by_wait_all chain q op l
  by_role chain i operation q l op h = absurd (false≢true h)
  by_role chain i commit q l op h = absurd (false≢true h)
  by_role chain i other q l op h = absurd (false≢true h)

  counted : (chain : Chain) (i : ℕ) → role chain (event_at longer i) ≡ operation → Closes longer i n
      → closes_now (role chain (event_at longer n)) (commits chain longer i) (commits chain longer n) ≡ true
  counted chain i op (by_wait c m q d) =
      rw (same-chain chain c (event_at longer i) op d.starts, q) (lt-ltb _ _ d.more)
  counted chain i op (by_wait_all c q op' l) = rw (same-chain chain c (event_at longer i) op op', q)

  pub closed-next : (chain : Chain) (i : ℕ) → i < n → role chain (event_at before i) ≡ operation
      → closed_by longer i n ≡ closes_now (role chain e) (commits chain before i) (commits chain before n)
  closed-next chain i l op =
      let op' : role chain (event_at longer i) ≡ operation = rw (old i l) op in
      let h : closed_by longer i n ≡ closes_now (role chain (event_at longer n)) (commits chain longer i) (commits chain longer n) =
      equal_tests _ _ (λ c. counted chain i op' ((closing_by_counting longer i n).0 c))
      (λ c. (closing_by_counting longer i n).1 (by_role chain i (role chain (event_at longer n)) refl l op' c)) in
      rw (new, commits-old chain i (omega arith), commits-old chain n (omega arith)) at h

  -- ---- open operations
  still : (a b c : Bool) → (a && not (b || c)) ≡ (a && not b && not c)
  still true true c = refl
  still true false c = refl
  still false b c = refl

  pub open_next : (i : ℕ) → i < n → is_open longer (suc n) i ≡ (is_open before n i && not (closed_by longer i n))
  unfolding is_open
  open_next i l =
      still (is_operation (event_at longer i)) (any_below (closed_by longer i) n) (closed_by longer i n)
      ∙ ap₂ (λ x t. is_operation x && not t && not (closed_by longer i n)) (old i l)
      (any_same (closed_by longer i) (closed_by before i) n (λ w m. closed_same longer before i w (λ k q. old k (omega arith))))

  pub open_new : is_open longer (suc n) n ≡ is_operation e
  unfolding is_open
  open_new = rw (new, never) (and-true (is_operation e))
    where
      never : any_below (closed_by longer n) (suc n) ≡ false
      never = eq-false_of_not-eq-true (λ h.
          let (w, l, c) = some_below (closed_by longer n) (suc n) h in
          omega (arith, closes-earlier ((closing_by_counting longer n w).0 c)))

  -- ---- the clash of the new event: with the operations that were open before it
  pub clashes-next : (i : ℕ) → i < n → clashes longer i n ≡ (is_open before n i && collide (event_at before i) e)
  unfolding clashes
  clashes-next i l = rw (open_next i l, new, old i l) (by_closing (closed_by longer i n) refl)
    where
      no_access : Closes longer i n → accesses e ≡ []
      no_access (by_wait c m q d) = waits_no_access c e (rw (← new, q) tt)
      no_access (by_wait_all c q op k) = waits_no_access c e (rw (← new, q) tt)

      none : (a s t : Bool) → t ≡ false → (a && not true && s) ≡ (a && t)
      none true s t h = sym h
      none false s t h = refl

      no_clash : accesses e ≡ [] → collide (event_at before i) e ≡ false
      no_clash h =
          rw (h, meets-nothing (accesses (event_at before i)))
          (and-false (not (may_share (effect_of (event_at before i)) (effect_of e))))

      by_closing : (t : Bool) → closed_by longer i n ≡ t
          → (is_open before n i && not t && collide (event_at before i) e) ≡ (is_open before n i && collide (event_at before i) e)
      by_closing true h =
          none (is_open before n i) (collide (event_at before i) e) (collide (event_at before i) e)
          (no_clash (no_access ((closing_by_counting longer i n).0 h)))
      by_closing false h = ap (λ s. s && collide (event_at before i) e) (and-true (is_open before n i))

  -- ---- peak
  pub peak-next : peak longer (suc n) ≡ max (peak before n) (open_after longer (suc n))
  unfolding peak
  peak-next = ap (λ p. max p (open_after longer (suc n))) (peak-same longer before n old)
