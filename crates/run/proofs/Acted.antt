-- What events leave that act in file order is what every permitted order gives.
-- Assumes nothing.
use Prim.Native.Nat.{ℕ, ◌+◌, ◌≤◌}
use native.Mathlib.Nat.{add-zero, zero-add}
use native.Mathlib.Omega.{arith}
use mathlib.Core.Path.{◌≡◌, refl, sym, ap, ap₂, ◌∙◌}
use mathlib.Core.List.{List, [], ◌∷◌, ◌++◌, map, append_assoc, append-nil}
use lib.ListN.{length, get_or, drop, length-append}
use lib.Seq.{sets-eq}
use Rattle.answer.specs.Codes.{IsAccepted}
use Rattle.event.specs.declared.Event.{Event}
use Rattle.event.specs.declared.Event.TheVariants.{Load, Store, Copy, Commit, Wait, WaitAll, BulkCopy, BulkReduction, BulkCommit, BulkWait}
use Rattle.std.specs.Prelude.{Ok}
use Rattle.effect.specs.Memory.{Global, Shared, State, write}
use Rattle.effect.specs.Effect.{Effect, nothing, load, store, copy, bulk_copy, bulk_reduction, does}
use Rattle.effect.proofs.Memories.{write-append}
use Rattle.rules.specs.Events.{effect_of}
use Rattle.rules.specs.Closing.{all_of}
use Rattle.rules.specs.declared.Lengths.{Lengths}
use Rattle.rules.specs.Orders.{Action, actions_of, PermittedOrder}
use Rattle.rules.specs.Outcomes.{load_of, loads_of}
use Rattle.rules.specs.Answers.{answer_of_events}
use Rattle.rules.proofs.Orders.{has-order}
use Rattle.rules.proofs.Eager as eager
use Rattle.rules.proofs.Eager.{stepped, with_read, lasts, reads, step-apart, eager_outcome_lem}
use Rattle.rules.proofs.Lists.{same_bytes_lem}
use Rattle.moves.specs.Acting.{Memories, memories, alone, read_by, acted}
use Rattle.run.specs.Running.{Lent, lent, load_bytes, lent_after, leaves}
use Rattle.run.specs.Acting.{acted_all, left}
use Rattle.run.proofs.Items.{fills}

-- ---- an event, with what it reads apart from the memories
abbrev state_of : Memories → State
state_of m = record { global = m.global; shared = m.shared; loaded = [] }

apart : (e : Event) (m : Memories) → alone e m ≡ with_read (stepped 0 e (state_of m)) (eager.read_by (effect_of e) (state_of m) ∷ [])
apart e m = step-apart (effect_of e) (state_of m) [] [] 0 refl

none_kept : (e : Effect) (s : State) → s.loaded ≡ [] → (does 0 e s).loaded ≡ []
none_kept nothing s h = h
none_kept (load space at size) s h = rw h
none_kept (store Global at size value) s h = h
none_kept (store Shared at size value) s h = h
none_kept (copy dst src count size) s h = h
none_kept (bulk_copy dst src size) s h = h
none_kept (bulk_reduction dst src size operation element) s h = h

next-state : (e : Event) (m : Memories) → state_of (acted e m) ≡ stepped 0 e (state_of m)
unfolding acted
next-state e m =
    let none = none_kept (effect_of e) (state_of m) refl in
    ap₂ (λ (s : State) kept. with_read s kept) (apart e m) (sym none)

same_read : (e : Event) (m : Memories) → read_by e m ≡ eager.read_by (effect_of e) (state_of m)
same_read e m = ap (λ (s : State). get_or s.loaded 0 []) (apart e m)

-- ---- what loads read, one after the other
all_of_append : (xs ys : List (List ℕ)) → all_of (xs ++ ys) ≡ all_of xs ++ all_of ys
all_of_append [] ys = refl
all_of_append (x ∷ xs) ys = ap (λ l. x ++ l) (all_of_append xs ys) ∙ sym (append_assoc x (all_of xs) (all_of ys))

of_event : (e : Event) (s : State) → all_of (load_of e (eager.read_by (effect_of e) s)) ≡ eager.read_by (effect_of e) s
of_event (Load at size) s = append-nil _
of_event (Store at size low high) s = refl
of_event (Copy dst src cp_size mode cache) s = refl
of_event Commit s = refl
of_event (Wait n) s = refl
of_event WaitAll s = refl
of_event (BulkCopy dst src size) s = refl
of_event (BulkReduction dst src size operation element) s = refl
of_event BulkCommit s = refl
of_event (BulkWait n) s = refl

abbrev read_all : List Event → State → List ℕ
read_all es s = all_of (loads_of es (reads es s))

read_next : (e : Event) (es : List Event) (m : Memories)
    → read_all (e ∷ es) (state_of m) ≡ read_by e m ++ read_all es (state_of (acted e m))
read_next e es m =
    all_of_append (load_of e (eager.read_by (effect_of e) (state_of m))) (loads_of es (reads es (stepped 0 e (state_of m))))
    ∙ ap₂ (λ first s. first ++ read_all es s) (of_event e (state_of m) ∙ sym (same_read e m)) (sym (next-state e m))

-- ---- all events
abbrev finished : List Event → State → List ℕ → ℕ → Memories
finished es s loads filled =
    memories (lasts es s).global (lasts es s).shared (write loads filled (read_all es s)) (filled + length (read_all es s))

all-acted : (es : List Event) (m : Memories) → acted_all (map Ok es) m ≡ finished es (state_of m) m.loads m.filled
unfolding acted
all-acted [] m = ap (memories m.global m.shared m.loads) (sym (add-zero m.filled))
all-acted (e ∷ es) m =
    let s = state_of (acted e m) in
    let read = read_by e m in
    let rest = read_all es s in
    let longer : m.filled + length read + length rest ≡ m.filled + length (read ++ rest) = rw length-append (omega arith) in
    all-acted es (acted e m)
    ∙ ap₂ (memories (lasts es s).global (lasts es s).shared) (sym (write-append read rest m.loads m.filled)) longer
    ∙ ap₂ (λ (s : State) bytes. memories (lasts es s).global (lasts es s).shared (write m.loads m.filled bytes) (m.filled + length bytes))
    (next-state e m) (sym (read_next e es m))

-- ---- in every permitted order
pub every_order : (lengths : Lengths) (es : List Event) (before : Lent) → IsAccepted (answer_of_events lengths es)
    → load_bytes (map Ok es) ≤ length before.load_record
    → (order : List Action) → PermittedOrder es order
    → left (acted_all (map Ok es) (memories before.global before.shared before.load_record 0)) ≡ leaves es order before
every_order lengths es before accepted room order permitted =
    ap left (all-acted es m)
    ∙ ap (lent (lasts es s).global (lasts es s).shared) in_record
    ∙ ap (λ o. lent_after o before.load_record) (sym (eager_outcome_lem es before.global before.shared)
    ∙ same_bytes_lem lengths es accepted (actions_of es) order (has-order es) permitted before.global before.shared)
  where
    m : Memories
    m = memories before.global before.shared before.load_record 0

    s : State
    s = state_of m

    few : 0 + length (read_all es s) ≤ length before.load_record
    few = let filled = ap (λ (n : Memories). n.filled) (all-acted es m) in omega (arith, filled, fills (map Ok es) m, room)

    in_record : write before.load_record 0 (read_all es s) ≡ read_all es s ++ drop (length (read_all es s)) before.load_record
    in_record = sets-eq (read_all es s) before.load_record 0 few ∙ ap (λ n. read_all es s ++ drop n before.load_record) (zero-add (length (read_all es s)))
