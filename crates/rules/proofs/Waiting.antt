-- More waiting: what is closed stays closed, so what was clean stays clean, and nothing else changes.
-- Assumes nothing.
use Prim.Native.Nat.{ℕ, zero, suc, ◌+◌, ◌≤◌, ◌<◌}
use native.Mathlib.Omega.{arith}
use native.Mathlib.Decide.{dec_lt}
use mathlib.Core.Path.{◌≡◌, refl, sym, ◌∙◌, ap, ap₂}
use mathlib.Core.Logic.{◌≢◌, ◌⊎◌, inl, inr, ⊎_elim}
use mathlib.Core.Bool.{true, true≢false}
use mathlib.Mathlib.Data.Bool.Basic.{eq-false_of_not-eq-true}
use mathlib.Core.List.Memᴰ
use mathlib.Core.List.{List, [], ◌∷◌, ◌++◌}
use lib.ListN.{length}
use Rattle.answer.specs.Table.{event_limit}
use Rattle.event.specs.declared.Event.{Event}
use Rattle.event.specs.Fields.{allowed}
use Rattle.effect.specs.Memory.{State}
use Rattle.order.specs.Order.{◌∈◌}
use Rattle.effect.specs.Access.{Access}
use Rattle.rules.specs.Events.{effect_of, accesses, event_at}
use Rattle.rules.specs.declared.Lengths.{Lengths}
use Rattle.rules.specs.Faults.{aligned, in_range, faultless}
use Rattle.rules.specs.Closing.{Chain, NonBulk, Bulk, Role, operation, wait_all, wait, role, closed_by, is_operation}
use Rattle.rules.specs.Clashes.{EventsClash, Clean}
use Rattle.rules.specs.Outcomes.{load_of, loads_of}
use Rattle.rules.specs.Waited.{MayAdd, Lowered, same, Waited, done, keep, add}
use Rattle.rules.specs.Waited as waited
use Rattle.rules.proofs.Counting.{makes, commits, Closes, by_wait, by_wait_all, closing_by_counting}
use Rattle.rules.proofs.Orders.{OpenUpTo}
use Rattle.rules.proofs.Clashes.{moments-free, clash-sym, clash-events}
use Rattle.rules.specs.Right.{WellFormed}
use Rattle.rules.proofs.Eager.{stepped, read_by, lasts, reads}

-- ---- where an event of the first list stands in the second
abbrev place : {es es' : List Event} → Waited es es' → ℕ → ℕ
place done i = i
place (keep l r) zero = zero
place (keep l r) (suc i) = suc (place r i)
place (add w r) i = suc (place r i)

place-below : {es es' : List Event} (r : Waited es es') (i : ℕ) → i < length es → place r i < length es'
place-below done i l = l
place-below (keep q r) zero l = omega arith
place-below (keep q r) (suc i) l = omega (arith, place-below r i (omega arith))
place-below (add w r) i l = omega (arith, place-below r i l)

place_up : {es es' : List Event} (r : Waited es es') (i j : ℕ) → i < j → place r i < place r j
place_up done i j l = l
place_up (keep q r) i zero l = absurd (omega arith)
place_up (keep q r) zero (suc j) l = omega arith
place_up (keep q r) (suc i) (suc j) l = omega (arith, place_up r i j (omega arith))
place_up (add w r) i j l = omega (arith, place_up r i j l)

place_le : {es es' : List Event} (r : Waited es es') (i j : ℕ) → i ≤ j → place r i ≤ place r j
place_le r i j l =
    elim (dec_lt i j)
    [ yes h ↦ omega (arith, place_up r i j h) | no h ↦ (let e : i ≡ j = omega arith in rw e (omega arith)) ]

place-event : {es es' : List Event} (r : Waited es es') (i : ℕ) → i < length es
    → Lowered (event_at es i) (event_at es' (place r i))
place-event done i l = absurd (omega arith)
place-event (keep q r) zero l = q
place-event (keep q r) (suc i) l = place-event r i (omega arith)
place-event (add w r) i l = place-event r i l

record Placed {es es' : List Event} (r : Waited es es') (j : ℕ) : Type 0 where
  from : ℕ
  below : from < length es
  at : place r from ≡ j

-- an event of the second list is an added wait, or one of the first
come_from : {es es' : List Event} (r : Waited es es') (j : ℕ) → j < length es' → MayAdd (event_at es' j) ⊎ Placed r j
come_from done j l = absurd (omega arith)
come_from (keep q r) zero l = inr (record { from = 0; below = omega arith; at = refl })
come_from (keep q r) (suc j) l =
    ⊎_elim inl (λ p. inr (record { from = suc p.from; below = omega (arith, p.below); at = ap suc p.at }))
    (come_from r j (omega arith))
come_from (add w r) zero l = inl w
come_from (add w r) (suc j) l =
    ⊎_elim inl (λ p. inr (record { from = p.from; below = p.below; at = ap suc p.at }))
    (come_from r j (omega arith))

-- ---- what lowering keeps
lowered_makes : (chain : Chain) {e e' : Event} → Lowered e e' → makes (role chain e) ≡ makes (role chain e')
lowered_makes chain same = refl
lowered_makes NonBulk (waited.Lowered.wait l) = refl
lowered_makes Bulk (waited.Lowered.wait l) = refl
lowered_makes NonBulk (waited.Lowered.bulk_wait l) = refl
lowered_makes Bulk (waited.Lowered.bulk_wait l) = refl

-- a lowered wait of a chain is a wait of it, with a number no higher
record LowerWait (chain : Chain) (e' : Event) (n : ℕ) : Type 0 where
  number : ℕ
  is : role chain e' ≡ wait number
  lower : number ≤ n

lowered_wait : (chain : Chain) {e e' : Event} (n : ℕ) → Lowered e e' → role chain e ≡ wait n → LowerWait chain e' n
lowered_wait chain n same h = record { number = n; is = h; lower = omega arith }
lowered_wait NonBulk n (waited.Lowered.wait {m = m} {n = k} l) h =
    let q : k ≡ n = cc in record { number = m; is = refl; lower = omega arith }
lowered_wait Bulk n (waited.Lowered.wait l) h = let z : ◌≡◌ {A = ℕ} 0 1 = cc in absurd (omega arith)
lowered_wait NonBulk n (waited.Lowered.bulk_wait l) h = let z : ◌≡◌ {A = ℕ} 0 1 = cc in absurd (omega arith)
lowered_wait Bulk n (waited.Lowered.bulk_wait {m = m} {n = k} l) h =
    let q : k ≡ n = cc in record { number = m; is = refl; lower = omega arith }

-- what else an event is to a chain stays
abbrev IsNumbered : Role → Type 0
IsNumbered operation = ⊥
IsNumbered Role.commit = ⊥
IsNumbered wait_all = ⊥
IsNumbered Role.other = Unit {0}
IsNumbered (wait n) = Unit {0}

lowered_role : (chain : Chain) {e e' : Event} (r : Role) → Lowered e e' → role chain e ≡ r → ¬ IsNumbered r
    → role chain e' ≡ r
lowered_role chain r same h ne = h
lowered_role NonBulk r (waited.Lowered.wait l) h ne = absurd (ne (rw (← h) tt))
lowered_role Bulk r (waited.Lowered.wait l) h ne = absurd (ne (rw (← h) tt))
lowered_role NonBulk r (waited.Lowered.bulk_wait l) h ne = absurd (ne (rw (← h) tt))
lowered_role Bulk r (waited.Lowered.bulk_wait l) h ne = absurd (ne (rw (← h) tt))

-- an event with an access is not lowered
lowered_same : {e e' : Event} {x : Access} → Lowered e e' → x ∈ accesses e' → e ≡ e'
lowered_same same m = refl
lowered_same (waited.Lowered.wait l) m = absurd (Memᴰ.not-nil m)
lowered_same (waited.Lowered.bulk_wait l) m = absurd (Memᴰ.not-nil m)

wait_no_access : {e : Event} {x : Access} → MayAdd e → ¬ (x ∈ accesses e)
wait_no_access waited.MayAdd.wait m = Memᴰ.not-nil m
wait_no_access waited.MayAdd.wait_all m = Memᴰ.not-nil m
wait_no_access waited.MayAdd.bulk_wait m = Memᴰ.not-nil m

-- ---- at least as many groups are made between two events
commits_cons : (chain : Chain) (e : Event) (es : List Event) (w : ℕ)
    → commits chain (e ∷ es) (suc w) ≡ makes (role chain e) + commits chain es w
unfolding commits
commits_cons chain e es zero = omega arith
commits_cons chain e es (suc w) =
    ap (λ n. n + makes (role chain (event_at es w))) (commits_cons chain e es w) ∙ omega arith

commits-zero : (chain : Chain) (es : List Event) → commits chain es 0 ≡ 0
unfolding commits
commits-zero chain es = refl

more-commits : (chain : Chain) {es es' : List Event} (r : Waited es es') (w : ℕ)
    → commits chain es w ≤ commits chain es' (place r w)
more-commits chain done w = omega arith
more-commits chain (keep {e = e} {es = es} q r) zero = omega (arith, commits-zero chain (e ∷ es))
more-commits chain (keep {e = e} {e' = e'} {es = es} {es' = es'} q r) (suc w) =
    omega (
      arith,
      commits_cons chain e es w,
      commits_cons chain e' es' (place r w),
      lowered_makes chain q,
      more-commits chain r w,
    )
more-commits chain (add {e = x} {es' = es'} q r) w =
    omega (arith, commits_cons chain x es' (place r w), more-commits chain r w)

more-between : (chain : Chain) {es es' : List Event} (r : Waited es es') (i w : ℕ) → i ≤ w
    → commits chain es w + commits chain es' (place r i) ≤ commits chain es i + commits chain es' (place r w)
more-between chain done i w l = omega arith
more-between chain (keep q r) zero zero l = omega arith
more-between chain (keep q r) (suc i) zero l = absurd (omega arith)
more-between chain (keep {e = e} {e' = e'} {es = es} {es' = es'} q r) zero (suc w) l =
    omega (arith, commits-zero chain (e ∷ es), commits-zero chain (e' ∷ es'), more-commits chain (keep q r) (suc w))
more-between chain (keep {e = e} {e' = e'} {es = es} {es' = es'} q r) (suc i) (suc w) l =
    omega (
      arith,
      commits_cons chain e es w,
      commits_cons chain e es i,
      commits_cons chain e' es' (place r w),
      commits_cons chain e' es' (place r i),
      more-between chain r i w (omega arith),
    )
more-between chain (add {e = x} {es' = es'} q r) i w l =
    omega
    (arith, commits_cons chain x es' (place r w), commits_cons chain x es' (place r i), more-between chain r i w l)

-- ---- so what is closed stays closed
module _ {es es' : List Event} (r : Waited es es') where
  closes_kept : (i w : ℕ) → w < length es → Closes es i w → Closes es' (place r i) (place r w)
  closes_kept i w l (by_wait chain n e c) =
      let v = lowered_wait chain n (place-event r w l) e in
      by_wait chain v.number v.is (record {
        starts = lowered_role chain operation (place-event r i (omega (arith, c.earlier))) c.starts (λ b. b);
        earlier = place_up r i w c.earlier;
        more = omega (arith, v.lower, c.more, more-between chain r i w (omega (arith, c.earlier)));
      })
  closes_kept i w l (by_wait_all chain e op lt) =
      by_wait_all chain (lowered_role chain wait_all (place-event r w l) e (λ b. b))
      (lowered_role chain operation (place-event r i (omega arith)) op (λ b. b)) (place_up r i w lt)

  closed-kept : (i w : ℕ) → w < length es → closed_by es i w ≡ true → closed_by es' (place r i) (place r w) ≡ true
  closed-kept i w l h = (closing_by_counting es' (place r i) (place r w)).1 (closes_kept i w l ((closing_by_counting es i w).0 h))

  open_back : (i j : ℕ) → j < length es → OpenUpTo es' (place r j) (place r i) → OpenUpTo es j i
  open_back i j l free w le =
      eq-false_of_not-eq-true
      (λ c. true≢false (sym (closed-kept i w (omega arith) c) ∙ free (place r w) (place_le r w j le)))

  -- a clash of the second list is one of the first
  clash-back : (i j : ℕ) → i < j → i < length es → j < length es → EventsClash es' (place r i) (place r j)
      → EventsClash es i j
  clash-back i j lt li lj c = record {
    x = c.x;
    y = c.y;
    clash = record {
      first_made = record { below = li; made = rw ei c.clash.first_made.made };
      second_made = record { below = lj; made = rw ej c.clash.second_made.made };
      meet = c.clash.meet;
      may_not_share = rw (ei, ej) c.clash.may_not_share;
      either_way = (moments-free es i j lt lj).1 (rw ei free.0, open_back i j lj free.1);
    };
  }
    where
      ei : event_at es i ≡ event_at es' (place r i)
      ei = lowered_same (place-event r i li) c.clash.first_made.made

      ej : event_at es j ≡ event_at es' (place r j)
      ej = lowered_same (place-event r j lj) c.clash.second_made.made

      free : (is_operation (event_at es' (place r i)) ≡ true) × OpenUpTo es' (place r j) (place r i)
      free = (moments-free es' (place r i) (place r j) (place_up r i j lt) (place-below r j lj)).0 c.clash.either_way

  pub clean_kept : Clean es → Clean es'
  clean_kept clean = record {
    no_clash = λ i j c. ⊎_elim
        (λ w. wait_no_access w c.clash.first_made.made)
        (λ p. ⊎_elim
        (λ w. wait_no_access w c.clash.second_made.made)
        (λ q. between p q c)
        (come_from r j c.clash.second_made.below))
        (come_from r i c.clash.first_made.below);
  }
    where
      between : {i j : ℕ} → Placed r i → Placed r j → ¬ EventsClash es' i j
      between {i} {j} p q c =
          let a = p.from in
          let b = q.from in
          let d : EventsClash es' (place r a) (place r b) = rw (p.at, q.at) c in
          let ne : a ≢ b = λ e. clash-events es' d (ap (place r) e) in
          elim (dec_lt a b) [
            | yes l ↦ clean.no_clash a b (clash-back a b l p.below q.below d)
            | no l ↦ clean.no_clash b a (clash-back b a (omega arith) q.below p.below (clash-sym es' d))
          ]

-- ---- the checks of an event by itself
wait-faultless : (lengths : Lengths) {e : Event} → MayAdd e → faultless lengths e ≡ true
unfolding allowed aligned in_range
wait-faultless lengths waited.MayAdd.wait = refl
wait-faultless lengths waited.MayAdd.wait_all = refl
wait-faultless lengths waited.MayAdd.bulk_wait = refl

lowered_faultless : (lengths : Lengths) {e e' : Event} → Lowered e e' → faultless lengths e ≡ true
    → faultless lengths e' ≡ true
unfolding allowed aligned in_range
lowered_faultless lengths same h = h
lowered_faultless lengths (waited.Lowered.wait l) h = refl
lowered_faultless lengths (waited.Lowered.bulk_wait l) h = refl

pub well_formed_kept : (lengths : Lengths) {es es' : List Event} → Waited es es' → length es' ≤ event_limit
    → WellFormed lengths es → WellFormed lengths es'
well_formed_kept lengths {es} {es'} r n ok = record {
  limits = record { events = n; memories = ok.limits.memories };
  faultless = record { each = λ j l. ⊎_elim (wait-faultless lengths) kept (come_from r j l) };
}
  where
    kept : {j : ℕ} → Placed r j → faultless lengths (event_at es' j) ≡ true
    kept p =
        rw (← p.at)
        (lowered_faultless lengths (place-event r p.from p.below) (ok.faultless.each p.from p.below))

-- ---- the bytes
wait-steps : {e : Event} (m : State) → MayAdd e → stepped 0 e m ≡ m
wait-steps m waited.MayAdd.wait = refl
wait-steps m waited.MayAdd.wait_all = refl
wait-steps m waited.MayAdd.bulk_wait = refl

wait-loads : {e : Event} (bs : List ℕ) → MayAdd e → load_of e bs ≡ []
wait-loads bs waited.MayAdd.wait = refl
wait-loads bs waited.MayAdd.wait_all = refl
wait-loads bs waited.MayAdd.bulk_wait = refl

lowered_steps : {e e' : Event} (m : State) → Lowered e e' → stepped 0 e' m ≡ stepped 0 e m
lowered_steps m same = refl
lowered_steps m (waited.Lowered.wait l) = refl
lowered_steps m (waited.Lowered.bulk_wait l) = refl

lowered_loads : {e e' : Event} (m : State) → Lowered e e'
    → load_of e' (read_by (effect_of e') m) ≡ load_of e (read_by (effect_of e) m)
lowered_loads m same = refl
lowered_loads m (waited.Lowered.wait l) = refl
lowered_loads m (waited.Lowered.bulk_wait l) = refl

pub lasts-kept : {es es' : List Event} → Waited es es' → (m : State) → lasts es' m ≡ lasts es m
lasts-kept done m = refl
lasts-kept (keep {e = e} q r) m = rw (lowered_steps m q) (lasts-kept r (stepped 0 e m))
lasts-kept (add w r) m = rw (wait-steps m w) (lasts-kept r m)

pub loads-kept : {es es' : List Event} → Waited es es' → (m : State)
    → loads_of es' (reads es' m) ≡ loads_of es (reads es m)
loads-kept done m = refl
loads-kept (keep {e = e} q r) m = ap₂ ◌++◌ (lowered_loads m q) (rw (lowered_steps m q) (loads-kept r (stepped 0 e m)))
loads-kept (add w r) m = rw (wait-loads _ w, wait-steps m w) (loads-kept r m)
