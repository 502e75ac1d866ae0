-- Effects of two events that may share a place, or whose accesses do not meet, commute.
-- Assumes nothing.
use Prim.Native.Nat.{ℕ, ◌+◌, ◌/◌, ◌%◌, ◌≤◌, ◌<◌}
use native.Mathlib.Nat.{le_trans}
use native.Mathlib.Omega.{arith}
use mathlib.Core.Path.{◌≡◌, refl, sym, ◌∙◌, ap, ap₂}
use mathlib.Core.Logic.{◌≢◌, ◌⊎◌, inl, inr, ⊎_swap}
use mathlib.Core.Bool.{true}
use mathlib.Core.List.Memᴰ
use mathlib.Core.List.{List, []}
use lib.ListN.{length, take, length-take}
use lib.Seq.{set_comm}
use lib.Dec.{lit<}
use Rattle.event.specs.declared.ElementType.{ElementType}
use Rattle.event.specs.declared.ElementType.TheVariants.{B32, U32, S32}
use Rattle.order.specs.Order.{◌∈◌}
use Rattle.effect.specs.Memory.{Space, Global, Shared, State, get, put, keep}
use Rattle.effect.specs.Access.{Access, reading, writing, Has, Meet}
use Rattle.effect.specs.Element.{width, is_signed, combined, reduce}
use Rattle.effect.specs.Effect.{Effect, nothing, load, store, copy, bulk_copy, bulk_reduction, accesses_of, padded, does, MayShare, alike}
use Rattle.effect.specs.Theorems.{OnElements, Apart}
use Rattle.effect.proofs.Memories.{read-write, write-write}
use Rattle.effect.proofs.Elements.{combined_any_order, length_combine_le}
use Rattle.effect.proofs.Reductions.{Multiple, reductions_commute}

-- ---- every effect delivers what it produces at one place: in a memory, or as what its event has read
data Place : Type 0 where
  as_read : Place
  in_memory : Space → ℕ → Place

abbrev place : Effect → Place
place nothing = in_memory Global 0
place (load space at size) = as_read
place (store space at size value) = in_memory space at
place (copy dst src count size) = in_memory Shared dst
place (bulk_copy dst src size) = in_memory Global dst
place (bulk_reduction dst src size o t) = in_memory Global dst

abbrev produced : Effect → State → List ℕ
produced nothing s = []
produced (load space at size) s = get space at size s
produced (store space at size value) s = take size value
produced (copy dst src count size) s = padded size (get Global src count s)
produced (bulk_copy dst src size) s = get Shared src size s
produced (bulk_reduction dst src size o t) s = reduce o t (get Global dst size s) (get Shared src size s)

abbrev deliver : ℕ → Place → List ℕ → State → State
deliver event as_read bs s = keep event bs s
deliver event (in_memory space at) bs s = put space at bs s

delivers : (i : ℕ) (e : Effect) (s : State) → does i e s ≡ deliver i (place e) (produced e s) s
delivers i nothing s = refl
delivers i (load space at size) s = refl
delivers i (store space at size value) s = refl
delivers i (copy dst src count size) s = refl
delivers i (bulk_copy dst src size) s = refl
delivers i (bulk_reduction dst src size o t) s = refl

-- the bytes of memory that a delivery changes
abbrev changed : Place → List ℕ → Access
changed as_read bs = writing Global 0 0
changed (in_memory space at) bs = writing space at (length bs)

-- ---- they are bytes that the effect writes
record Written (e : Effect) (space : Space) (byte : ℕ) : Type 0 where
  x : Access
  among : x ∈ accesses_of e
  writes : x.writes ≡ true
  has : Has x space byte

module _ {space : Space} {byte : ℕ} where
  grow : {sp : Space} {at size size' : ℕ} → size ≤ size' → Has (writing sp at size) space byte
      → Has (writing sp at size') space byte
  grow h has = record { there = has.there; from = has.from; below = omega arith }

  -- all that an effect of two accesses writes is in its first
  first-written : (e : Effect) {sp : Space} {at size size' : ℕ} → writing sp at size' ∈ accesses_of e → size ≤ size'
      → Has (writing sp at size) space byte → Written e space byte
  first-written e {sp} {at} {size} {size'} m h has =
      record { x = writing sp at size'; among = m; writes = refl; has = grow h has }

  changes_written : (e : Effect) (s : State) → Has (changed (place e) (produced e s)) space byte → Written e space byte
  changes_written nothing s h = absurd (omega arith)
  changes_written (load sp at size) s h = absurd (omega arith)
  changes_written (store sp at size value) s h =
      first-written (store sp at size value) (Memᴰ.head refl) (simp length-take (omega arith)) h
  changes_written (copy dst src count size) s h =
      first-written (copy dst src count size) (Memᴰ.head refl) (simp length-take (omega arith)) h
  changes_written (bulk_copy dst src size) s h =
      first-written (bulk_copy dst src size) (Memᴰ.head refl) (simp length-take (omega arith)) h
  changes_written (bulk_reduction dst src size o t) s h =
      first-written (bulk_reduction dst src size o t) (Memᴰ.head refl)
      (le_trans (length_combine_le (width t) (combined o (is_signed t) (width t)) (get Global dst size s)
      (get Shared src size s)) (simp length-take (omega arith))) h

-- ---- a delivery changes nothing elsewhere
abbrev NoCommon : Access → Access → Type 0
NoCommon x y = (space : Space) (byte : ℕ) → Has x space byte → Has y space byte → ⊥

has : {x : Access} {byte : ℕ} → x.start ≤ byte → byte < x.start + x.size → Has x x.space byte
has f g = record { there = refl; from = f; below = g }

get-deliver : (i : ℕ) (p : Place) (bs : List ℕ) (space : Space) (at size : ℕ) (s : State)
    → NoCommon (reading space at size) (changed p bs)
    → get space at size (deliver i p bs s) ≡ get space at size s
get-deliver i as_read bs Global at size s free = refl
get-deliver i as_read bs Shared at size s free = refl
get-deliver i (in_memory Global to) bs Global at size s free =
    read-write bs s.global at size to (λ b f g h k. free Global b (has f g) (has h k))
get-deliver i (in_memory Global to) bs Shared at size s free = refl
get-deliver i (in_memory Shared to) bs Global at size s free = refl
get-deliver i (in_memory Shared to) bs Shared at size s free =
    read-write bs s.shared at size to (λ b f g h k. free Shared b (has f g) (has h k))

-- the bytes of an access, read
as_reading : {space sp : Space} {at size byte : ℕ} → Has (reading space at size) sp byte
    → Has (writing space at size) sp byte
as_reading h = record { there = h.there; from = h.from; below = h.below }

produced-deliver : (e : Effect) (i : ℕ) (p : Place) (bs : List ℕ) (s : State)
    → ((x : Access) → x ∈ accesses_of e → NoCommon x (changed p bs))
    → produced e (deliver i p bs s) ≡ produced e s
produced-deliver nothing i p bs s free = refl
produced-deliver (load space at size) i p bs s free = get-deliver i p bs space at size s (free _ (Memᴰ.head refl))
produced-deliver (store space at size value) i p bs s free = refl
produced-deliver (copy dst src count size) i p bs s free =
    ap (padded size) (get-deliver i p bs Global src count s (free _ (Memᴰ.tail (Memᴰ.head refl))))
produced-deliver (bulk_copy dst src size) i p bs s free =
    get-deliver i p bs Shared src size s (free _ (Memᴰ.tail (Memᴰ.head refl)))
produced-deliver (bulk_reduction dst src size o t) i p bs s free =
    ap₂ (reduce o t) (get-deliver i p bs Global dst size s
    (λ sp b h. free (writing Global dst size) (Memᴰ.head refl) sp b (as_reading h)))
    (get-deliver i p bs Shared src size s (free _ (Memᴰ.tail (Memᴰ.head refl))))

deliver-deliver : (i j : ℕ) (p q : Place) (bs cs : List ℕ) (s : State) → i ≢ j → NoCommon (changed p bs) (changed q cs)
    → deliver j q cs (deliver i p bs s) ≡ deliver i p bs (deliver j q cs s)
deliver-deliver i j as_read as_read bs cs s ne free =
    ap (λ l. record { global = s.global; shared = s.shared; loaded = l }) (set_comm s.loaded i j bs cs ne)
deliver-deliver i j as_read (in_memory Global at) bs cs s ne free = refl
deliver-deliver i j as_read (in_memory Shared at) bs cs s ne free = refl
deliver-deliver i j (in_memory Global at) as_read bs cs s ne free = refl
deliver-deliver i j (in_memory Shared at) as_read bs cs s ne free = refl
deliver-deliver i j (in_memory Global at) (in_memory Global to) bs cs s ne free =
    ap (λ m. record { global = m; shared = s.shared; loaded = s.loaded })
    (write-write cs bs s.global at to (λ b f g h k. free Global b (has f g) (has h k)))
deliver-deliver i j (in_memory Global at) (in_memory Shared to) bs cs s ne free = refl
deliver-deliver i j (in_memory Shared at) (in_memory Global to) bs cs s ne free = refl
deliver-deliver i j (in_memory Shared at) (in_memory Shared to) bs cs s ne free =
    ap (λ m. record { global = s.global; shared = m; loaded = s.loaded })
    (write-write cs bs s.shared at to (λ b f g h k. free Shared b (has f g) (has h k)))

-- ---- effects whose accesses do not meet
pub meet-sym : {x y : Access} → Meet x y → Meet y x
meet-sym m = record {
  space = m.space;
  byte = m.byte;
  in_first = m.in_second;
  in_second = m.in_first;
  one_writes = ⊎_swap m.one_writes;
}

apart-sym : (a b : Effect) → Apart a b → Apart b a
apart-sym a b free y x m l meet = free x y l m (meet-sym meet)

-- what one changes, the other does not touch
spares : (a b : Effect) (s : State) → Apart a b → (y : Access) → y ∈ accesses_of b
    → NoCommon y (changed (place a) (produced a s))
spares a b s free y m sp byte h c =
    let w = changes_written a s c in
    free w.x y w.among m
    (record { space = sp; byte = byte; in_first = w.has; in_second = h; one_writes = inl w.writes })

after : (i j : ℕ) (a b : Effect) (s : State) → Apart a b
    → does j b (does i a s) ≡ deliver j (place b) (produced b s) (deliver i (place a) (produced a s) s)
after i j a b s free =
    let s' = deliver i (place a) (produced a s) s in
    ap (does j b) (delivers i a s) ∙ delivers j b s'
    ∙ ap (λ bs. deliver j (place b) bs s') (produced-deliver b i (place a) (produced a s) s (spares a b s free))

unrelated : (i j : ℕ) (a b : Effect) → i ≢ j → Apart a b → (s : State) → does j b (does i a s) ≡ does i a (does j b s)
unrelated i j a b ne free s =
    after i j a b s free
    ∙ deliver-deliver i j (place a) (place b) (produced a s) (produced b s) s ne
    (λ sp byte p q. let w = changes_written b s q in spares a b s free w.x w.among sp byte w.has p)
    ∙ sym (after j i b a s (apart-sym a b free))

-- ---- two reductions of one operation and one type
width-pos : (t : ElementType) → 0 < width t
width-pos B32 = lit< tt
width-pos U32 = lit< tt
width-pos S32 = lit< tt

on_elements : (t : ElementType) (dst : ℕ) → dst % width t ≡ 0 → Multiple (width t) dst
on_elements B32 dst e = (dst / 4, omega arith)
on_elements U32 dst e = (dst / 4, omega arith)
on_elements S32 dst e = (dst / 4, omega arith)

related : (i j : ℕ) {a b : Effect} → MayShare a b → OnElements a → OnElements b → (s : State)
    → does j b (does i a s) ≡ does i a (does j b s)
related i j (alike {dst = d} {src = x} {size = n} {dst' = d'} {src' = x'} {size' = n'} {operation = o} {element = t})
    al al' s =
    ap (λ m. record { global = m; shared = s.shared; loaded = s.loaded })
    (reductions_commute (width t) (combined o (is_signed t) (width t)) (combined_any_order o (is_signed t) (width t))
    (width-pos t)
    s.global d n (get Shared x n s) d' n' (get Shared x' n' s) (on_elements t d al) (on_elements t d' al'))

-- ---- the theorem
pub commute : (i j : ℕ) (a b : Effect) → i ≢ j → OnElements a → OnElements b → MayShare a b ⊎ Apart a b → (s : State)
    → does j b (does i a s) ≡ does i a (does j b s)
commute i j a b ne al al' (inl share) s = related i j share al al' s
commute i j a b ne al al' (inr free) s = unrelated i j a b ne free s
