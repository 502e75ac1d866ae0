-- The items of a list, one by one: what they load, and what they leave.
-- Assumes nothing.
use Prim.Native.Nat.{◌+◌, ◌≤◌}
use native.Mathlib.Omega.{arith}
use mathlib.Core.Path.{◌≡◌, refl, ap, ◌∙◌}
use mathlib.Core.Bool.{false, true≢false}
use mathlib.Core.List.{List, [], ◌∷◌}
use lib.ListN.{length, get_or, length-take, length-map, get_or-map}
use Rattle.answer.specs.Codes.{IsAccepted}
use Rattle.event.specs.declared.Address.TheVariants as address
use Rattle.event.specs.declared.Event.{Event}
use Rattle.event.specs.declared.Event.TheVariants.{Load, Store, Copy, Commit, Wait, WaitAll, BulkCopy, BulkReduction, BulkCommit, BulkWait}
use Rattle.decoder.specs.Item.{Item}
use Rattle.std.specs.Prelude.{Ok, Err}
use Rattle.decoder.specs.Kinds.{is_decoded}
use Rattle.std.specs.List.{sum_by, All}
use Rattle.std.proofs.lemmas.List.Elements.{All-from_get_or}
use Rattle.std.proofs.lemmas.List.Sums.{sum_by-cons}
use Rattle.rules.specs.Events.{event_at}
use Rattle.rules.specs.declared.Lengths.{Lengths}
use Rattle.rules.specs.Answers.{answer_of}
use Rattle.rules.proofs.Accepted.{accepted-items, accepted_well_formed}
use Rattle.rules.specs.Outcomes.{load_size}
use Rattle.moves.specs.Acting.{Memories, read_by, acted}
use Rattle.run.specs.Running.{load_size_of, load_bytes}
use Rattle.run.specs.Acting.{FaultlessItem, acted_item, acted_all}

-- ---- an item that does not decode
pub no_size : (item : Item) → is_decoded item ≡ false → 0 ≡ load_size_of item
no_size (Ok e) h = absurd (true≢false h)
no_size (Err undecoded) h = refl

pub idle : (item : Item) (m : Memories) → is_decoded item ≡ false → m ≡ acted_item item m
idle (Ok e) m h = absurd (true≢false h)
idle (Err undecoded) m h = refl

-- ---- what they load together
pub loads_added : (items : List Item) → sum_by load_size_of items ≡ load_bytes items
loads_added [] = refl
loads_added (item ∷ items) = sum_by-cons load_size_of item items ∙ ap (λ n. load_size_of item + n) (loads_added items)

-- ---- each item of an accepted list is without fault
pub each-faultless : (lengths : Lengths) (items : List Item) → IsAccepted (answer_of lengths items) → All (FaultlessItem lengths) items
each-faultless lengths items accepted =
    let v = accepted-items lengths items accepted in
    let well = accepted_well_formed lengths v.events (rw v.are at accepted) in
    All-from_get_or (FaultlessItem lengths) items (Ok Commit) (λ i few.
    let here : get_or items i (Ok Commit) ≡ Ok (event_at v.events i) =
    ap (λ l. get_or l i (Ok Commit)) v.are ∙ get_or-map Ok v.events i Commit in
    rw here (well.faultless.each i (omega (arith, ap length v.are, length-map {B = Item} v.events Ok))))

-- ---- the record's use
read_little : (e : Event) (m : Memories) → length (read_by e m) ≤ load_size e
read_little (Load (address.Global at) size) m = rw length-take (omega arith)
read_little (Load (address.Shared at) size) m = rw length-take (omega arith)
read_little (Store (address.Global at) size low high) m = omega arith
read_little (Store (address.Shared at) size low high) m = omega arith
read_little (Copy dst src cp_size mode cache) m = omega arith
read_little Commit m = omega arith
read_little (Wait n) m = omega arith
read_little WaitAll m = omega arith
read_little (BulkCopy dst src size) m = omega arith
read_little (BulkReduction dst src size operation element) m = omega arith
read_little BulkCommit m = omega arith
read_little (BulkWait n) m = omega arith

pub item_fills : (item : Item) (m : Memories) → (acted_item item m).filled ≤ m.filled + load_size_of item
unfolding acted
item_fills (Ok e) m = let few = read_little e m in omega arith
item_fills (Err undecoded) m = omega arith

pub fills : (items : List Item) (m : Memories) → (acted_all items m).filled ≤ m.filled + load_bytes items
fills [] m = omega arith
fills (item ∷ items) m =
    let rest = fills items (acted_item item m) in
    let first = item_fills item m in
    omega arith
