-- Closing by counting: a wait N closes an operation just if its chain has made more than N groups since it started.
-- Assumes nothing.
use Prim.Native.Nat.{ℕ, zero, suc, ◌+◌, ◌≤◌, ◌<◌}
use native.Mathlib.Omega.{arith}
use native.Mathlib.Decide.{dec_lt}
use mathlib.Core.Path.{◌≡◌, refl, sym, ◌∙◌, ap}
use mathlib.Core.Logic.Iff
use mathlib.Core.Logic.{◌↔◌, inl, inr, ⊎_elim}
use mathlib.Core.Bool.{true}
use mathlib.Core.List.Memᴰ
use mathlib.Core.List.{List, ◌∷◌}
use lib.ListN.{drop}
use lib.Dec.{eqb}
use borrow.Author.Tests.{eqb-true, eq-eqb}
use Rattle.little_endian.proofs.Tests.{Tells, or_cases, or_left, or_right}
use Rattle.event.specs.declared.Event.{Event}
use Rattle.order.specs.Order.{◌∈◌}
use Rattle.rules.specs.Events.{event_at}
use Rattle.rules.specs.Closing.{Chain, NonBulk, Bulk, Role, operation, commit, wait_all, other, wait, role, after, groups, all_of, closes, closed_in, is_in, closed_by}
use Rattle.rules.proofs.Search.{below_or_last, any_tells}

is_in_tells : (i : ℕ) (js : List ℕ) → Tells (is_in i js) (i ∈ js)
is_in_tells i js = Iff.trans
    (any_tells (eqb i) (λ j. i ≡ j) (λ j. (eqb-true i j, eq-eqb i j)) js)
    (λ s. rw s.has s.among, λ m. record { one = i; among = m; has = refl })

-- ---- groups made
abbrev pub makes : Role → ℕ
makes operation = 0
makes commit = 1
makes wait_all = 1
makes other = 0
makes (wait n) = 0

-- how many groups the first w events make in the chain
unfoldable pub commits : Chain → List Event → ℕ → ℕ
commits chain es zero = 0
commits chain es (suc w) = commits chain es w + makes (role chain (event_at es w))

-- what makes a group is no operation, and neither is a wait or what is nothing to the chain
abbrev NoOperation : Role → Type 0
NoOperation r = ¬ (r ≡ operation)

commit_no : NoOperation commit
commit_no e = let z : ◌≡◌ {A = ℕ} 0 1 = cc in omega arith

wait_all_no : NoOperation wait_all
wait_all_no e = let z : ◌≡◌ {A = ℕ} 0 1 = cc in omega arith

other_no : NoOperation other
other_no e = let z : ◌≡◌ {A = ℕ} 0 1 = cc in omega arith

wait_no : (n : ℕ) → NoOperation (wait n)
wait_no n e = let z : ◌≡◌ {A = ℕ} 0 1 = cc in omega arith

module _ (chain : Chain) (es : List Event) where
  pub commits-up : (i w : ℕ) → i ≤ w → commits chain es i ≤ commits chain es w
  unfolding commits
  commits-up i zero le = let e : i ≡ 0 = omega arith in rw e (omega arith)
  commits-up i (suc w) le = elim (dec_lt w i) [
    | yes l ↦ (let e : i ≡ suc w = omega arith in rw e (omega arith))
    | no l ↦ omega (arith, commits-up i w (omega arith))
  ]

  -- the operation of event i, before event w, has had more than n groups made since
  pub record Counted (n i w : ℕ) : Type 0 where
    pub starts : role chain (event_at es i) ≡ operation
    pub earlier : i < w
    pub more : commits chain es i + n < commits chain es w

  -- or none
  record Uncommitted (i w : ℕ) : Type 0 where
    starts : role chain (event_at es i) ≡ operation
    earlier : i < w
    none_since : commits chain es w ≤ commits chain es i

  in_uncommitted : (w i : ℕ) → i ∈ (groups chain es w).uncommitted → Uncommitted i w
  unfolding groups commits
  in_uncommitted zero i m = absurd (Memᴰ.not-nil m)
  in_uncommitted (suc w) i m = by_role (role chain (event_at es w)) refl m (in_uncommitted w i)
    where
      -- an event that makes no group leaves it uncommitted
      still : (r : Role) → role chain (event_at es w) ≡ r → makes r ≡ 0 → Uncommitted i w → Uncommitted i (suc w)
      still r e m0 u = record { starts = u.starts; earlier = omega arith; none_since = rw e (omega arith) }

      by_role : (r : Role) → role chain (event_at es w) ≡ r → i ∈ (after r w (groups chain es w)).uncommitted
          → (i ∈ (groups chain es w).uncommitted → Uncommitted i w) → Uncommitted i (suc w)
      by_role operation e (Memᴰ.head f) ih =
          record { starts = rw f e; earlier = omega arith; none_since = rw (e, f) (omega arith) }
      by_role operation e (Memᴰ.tail k) ih = still operation e refl (ih k)
      by_role commit e k ih = absurd (Memᴰ.not-nil k)
      by_role wait_all e k ih = absurd (Memᴰ.not-nil k)
      by_role other e k ih = still other e refl (ih k)
      by_role (wait n) e k ih = still (wait n) e refl (ih k)

  uncommitted_in : (w i : ℕ) → Uncommitted i w → i ∈ (groups chain es w).uncommitted
  unfolding groups commits
  uncommitted_in zero i u = absurd (omega arith)
  uncommitted_in (suc w) i u = by_role (role chain (event_at es w)) refl (uncommitted_in w i)
    where
      since : (r : Role) → role chain (event_at es w) ≡ r → commits chain es w + makes r ≤ commits chain es i
      since r e = rw e at u.none_since

      -- the last event made no group ..
      made_none : (r : Role) → role chain (event_at es w) ≡ r → 1 ≤ makes r → ⊥
      made_none r e h = omega (arith, commits-up i w (omega arith), since r e)

      -- .. and what was uncommitted after it was so before, if it is not the operation itself
      was : (r : Role) → role chain (event_at es w) ≡ r → i < w → Uncommitted i w
      was r e l = record { starts = u.starts; earlier = l; none_since = omega (arith, since r e) }

      older : (r : Role) → role chain (event_at es w) ≡ r → NoOperation r → i < w
      older r e ne = ⊎_elim (λ l. l) (λ f. absurd (ne (sym e ∙ rw f at u.starts))) (below_or_last u.earlier)

      by_role : (r : Role) → role chain (event_at es w) ≡ r → (Uncommitted i w → i ∈ (groups chain es w).uncommitted)
          → i ∈ (after r w (groups chain es w)).uncommitted
      by_role operation e ih =
          ⊎_elim (λ l. Memᴰ.tail (ih (was operation e l))) (λ f. Memᴰ.head f) (below_or_last u.earlier)
      by_role commit e ih = absurd (made_none commit e (omega arith))
      by_role wait_all e ih = absurd (made_none wait_all e (omega arith))
      by_role other e ih = ih (was other e (older other e other_no))
      by_role (wait n) e ih = ih (was (wait n) e (older (wait n) e (wait_no n)))

  -- whatever is in the groups when event w has its turn is counted, and whatever is counted is in them
  abbrev AllCounted : ℕ → ℕ → Type 0
  AllCounted w i = (n : ℕ) → i ∈ all_of (drop n (groups chain es w).made) → Counted n i w

  abbrev AllMade : ℕ → ℕ → Type 0
  AllMade w i = (n : ℕ) → Counted n i w → i ∈ all_of (drop n (groups chain es w).made)

  in_made : (w n i : ℕ) → i ∈ all_of (drop n (groups chain es w).made) → Counted n i w
  unfolding groups commits
  in_made zero zero i m = absurd (Memᴰ.not-nil m)
  in_made zero (suc n) i m = absurd (Memᴰ.not-nil m)
  in_made (suc w) n i m = by_role (role chain (event_at es w)) refl n m (λ k. in_made w k i)
    where
      up : (r : Role) (k n' : ℕ) → role chain (event_at es w) ≡ r → n' ≤ k + makes r → Counted k i w
          → Counted n' i (suc w)
      up r k n' e le c = record { starts = c.starts; earlier = omega arith; more = rw e (omega arith) }

      -- the newest group is of what was uncommitted
      newest : (r : Role) → role chain (event_at es w) ≡ r → makes r ≡ 1 → Uncommitted i w → Counted 0 i (suc w)
      newest r e m1 u = record {
        starts = u.starts;
        earlier = omega arith;
        more = rw e (omega (arith, commits-up i w (omega arith)));
      }

      grouped : (r : Role) (n' : ℕ) → role chain (event_at es w) ≡ r → makes r ≡ 1
          → i ∈ all_of (drop n' ((groups chain es w).uncommitted ∷ (groups chain es w).made)) → AllCounted w i
          → Counted n' i (suc w)
      grouped r zero e m1 k ih = ⊎_elim
          (λ l. newest r e m1 (in_uncommitted w i l))
          (λ l. up r 0 0 e (omega arith) (ih 0 l))
          (Memᴰ.append_cases (groups chain es w).uncommitted k)
      grouped r (suc n') e m1 k ih = up r n' (suc n') e (omega arith) (ih n' k)

      by_role : (r : Role) → role chain (event_at es w) ≡ r → (n' : ℕ)
          → i ∈ all_of (drop n' (after r w (groups chain es w)).made) → AllCounted w i → Counted n' i (suc w)
      by_role operation e n' k ih = up operation n' n' e (omega arith) (ih n' k)
      by_role commit e n' k ih = grouped commit n' e refl k ih
      by_role wait_all e n' k ih = grouped wait_all n' e refl k ih
      by_role other e n' k ih = up other n' n' e (omega arith) (ih n' k)
      by_role (wait m) e n' k ih = up (wait m) n' n' e (omega arith) (ih n' k)

  -- an operation that has started is in a group already made, or uncommitted
  made_or_uncommitted : (w i : ℕ) → (Counted 0 i w → i ∈ all_of (groups chain es w).made)
      → role chain (event_at es i) ≡ operation → i < w
      → i ∈ all_of ((groups chain es w).uncommitted ∷ (groups chain es w).made)
  made_or_uncommitted w i made starts l = elim (dec_lt (commits chain es i) (commits chain es w)) [
    | yes h ↦
        Memᴰ.append_right (groups chain es w).uncommitted
        (made (record { starts = starts; earlier = l; more = omega arith }))
    | no h ↦
        Memᴰ.append_left (all_of (groups chain es w).made)
        (uncommitted_in w i (record { starts = starts; earlier = l; none_since = omega arith }))
  ]

  made_in_lem : (w n i : ℕ) → Counted n i w → i ∈ all_of (drop n (groups chain es w).made)
  unfolding groups commits
  made_in_lem zero n i c = absurd (omega arith)
  made_in_lem (suc w) n i c = by_role (role chain (event_at es w)) refl n c (λ k. made_in_lem w k i)
    where
      below : (r : Role) → role chain (event_at es w) ≡ r → (n' : ℕ) → Counted n' i (suc w)
          → commits chain es i + n' < commits chain es w + makes r
      below r e n' d = rw e at d.more

      down : (r : Role) (k n' : ℕ) → role chain (event_at es w) ≡ r → n' ≡ k + makes r → Counted n' i (suc w)
          → Counted k i w
      down r k n' e le d = elim (below_or_last d.earlier) [
        | inl l ↦ record { starts = d.starts; earlier = l; more = omega (arith, below r e n' d) }
        | inr f ↦ absurd (omega (arith, ap (commits chain es) f, below r e n' d))
      ]

      grouped : (r : Role) (n' : ℕ) → role chain (event_at es w) ≡ r → makes r ≡ 1 → NoOperation r
          → Counted n' i (suc w) → AllMade w i
          → i ∈ all_of (drop n' ((groups chain es w).uncommitted ∷ (groups chain es w).made))
      grouped r zero e m1 ne d ih = elim (below_or_last d.earlier) [
        | inl l ↦ made_or_uncommitted w i (ih 0) d.starts l
        | inr f ↦ absurd (ne (sym e ∙ rw f at d.starts))
      ]
      grouped r (suc n') e m1 ne d ih = ih n' (down r n' (suc n') e (omega arith) d)

      by_role : (r : Role) → role chain (event_at es w) ≡ r → (n' : ℕ) → Counted n' i (suc w) → AllMade w i
          → i ∈ all_of (drop n' (after r w (groups chain es w)).made)
      by_role operation e n' d ih = ih n' (down operation n' n' e (omega arith) d)
      by_role commit e n' d ih = grouped commit n' e refl commit_no d ih
      by_role wait_all e n' d ih = grouped wait_all n' e refl wait_all_no d ih
      by_role other e n' d ih = ih n' (down other n' n' e (omega arith) d)
      by_role (wait m) e n' d ih = ih n' (down (wait m) n' n' e (omega arith) d)

-- an event closes an operation just if it is a wait of its chain with enough groups made since, or the chain's wait-all
pub data Closes (es : List Event) (i w : ℕ) : Type 0 where
  by_wait : (chain : Chain) (n : ℕ) → role chain (event_at es w) ≡ wait n → Counted chain es n i w → Closes es i w
  by_wait_all : (chain : Chain) → role chain (event_at es w) ≡ wait_all → role chain (event_at es i) ≡ operation → i < w
      → Closes es i w

module _ (es : List Event) (i w : ℕ) where
  closed_in_lem : (chain : Chain) (r : Role) → role chain (event_at es w) ≡ r → i ∈ closes r (groups chain es w)
      → Closes es i w
  closed_in_lem chain operation e m = absurd (Memᴰ.not-nil m)
  closed_in_lem chain commit e m = absurd (Memᴰ.not-nil m)
  closed_in_lem chain wait_all e m = ⊎_elim
      (λ k. let u = in_uncommitted chain es w i k in by_wait_all chain e u.starts u.earlier)
      (λ k. let c = in_made chain es w 0 i k in by_wait_all chain e c.starts c.earlier)
      (Memᴰ.append_cases (groups chain es w).uncommitted m)
  closed_in_lem chain other e m = absurd (Memᴰ.not-nil m)
  closed_in_lem chain (wait n) e m = by_wait chain n e (in_made chain es w n i m)

  in_closed : (chain : Chain) → i ∈ closed_in chain es w → closed_by es i w ≡ true
  unfolding closed_by
  in_closed NonBulk m = or_left _ (is_in i (closed_in Bulk es w)) ((is_in_tells i (closed_in NonBulk es w)).1 m)
  in_closed Bulk m = or_right (is_in i (closed_in NonBulk es w)) _ ((is_in_tells i (closed_in Bulk es w)).1 m)

  closed-closes : closed_by es i w ≡ true → Closes es i w
  unfolding closed_by
  closed-closes h = ⊎_elim
      (λ k. closed_in_lem NonBulk (role NonBulk (event_at es w)) refl ((is_in_tells i (closed_in NonBulk es w)).0 k))
      (λ k. closed_in_lem Bulk (role Bulk (event_at es w)) refl ((is_in_tells i (closed_in Bulk es w)).0 k))
      (or_cases (is_in i (closed_in NonBulk es w)) (is_in i (closed_in Bulk es w)) h)

  closes-closed : Closes es i w → closed_by es i w ≡ true
  closes-closed (by_wait chain n e c) = in_closed chain (rw e (made_in_lem chain es w n i c))
  closes-closed (by_wait_all chain e op l) =
      in_closed chain (rw e (made_or_uncommitted chain es w i (made_in_lem chain es w 0 i) op l))

  -- closing by groups is counting: more than N commits of the chain stand between the operation and the wait
  pub closing_by_counting : (closed_by es i w ≡ true) ↔ Closes es i w
  closing_by_counting = (closed-closes, closes-closed)

-- what is closed has started earlier
pub closes-earlier : {es : List Event} {i w : ℕ} → Closes es i w → i < w
closes-earlier (by_wait chain n e c) = c.earlier
closes-earlier (by_wait_all chain e op l) = l
