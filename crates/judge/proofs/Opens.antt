-- One more event, in the table of open operations: what the table holds then is what is open then, and what the event
-- clashes with in it is the lowest that it clashes with.
-- Assumes nothing.
use Prim.Native.Nat.{ℕ, zero, suc, ◌+◌, ◌≤◌, ◌<◌, max}
use native.Mathlib.Omega.{arith}
use mathlib.Core.Path.{◌≡◌, refl, sym, ◌∙◌, ap, ap₂}
use mathlib.Core.Bool.{Bool, true, false, not, cond, ◌&&◌, false≢true, and-false}
use mathlib.Core.List.{List, [], ◌∷◌, ◌++◌, append-nil}
use Rattle.std.specs.Prelude.{None, Some, option_map}
use Rattle.std.specs.Option.{option_or}
use lib.Dec.{leb, ltb}
use lib.ListN.{length, length-append}
use lib.Seq.{get_or-append_seam}
use borrow.Author.Tests.{ltb-true, ltb-false, le-leb, lt-leb}
use Rattle.std.proofs.lemmas.List.Elements.{filter-append}
use Rattle.little_endian.proofs.Tests.{both}
use Rattle.event.specs.declared.Address.TheVariants.{Global, Shared}
use Rattle.event.specs.declared.Event.{Event}
use Rattle.event.specs.declared.Event.TheVariants as event
use Rattle.event.specs.Fields.{operation_number, type_number}
use Rattle.operations.specs.declared.Chain.TheVariants as table
use Rattle.operations.specs.declared.Record.{Record}
use Rattle.operations.specs.Tag.{chain_in}
use Rattle.operations.specs.Clash.{first_clash}
use Rattle.operations.specs.Waiting.{stays_open, kept}
use Rattle.operations.proofs.Tags.{chain_back}
use Rattle.operations.proofs.Searching.{first-append}
use Rattle.operations.proofs.Keeping.{stays-other, stays_by_count, only_if}
use Rattle.parts.specs.declared.GroupsMade.{GroupsMade}
use Rattle.parts.specs.declared.Part.{Part}
use Rattle.parts.specs.declared.Part.TheVariants as part
use Rattle.parts.specs.Parts.{committed, wait_on, part_of}
use Rattle.rules.specs.Search.{count_below, lowest_below}
use Rattle.rules.specs.Events.{event_at}
use Rattle.rules.specs.Closing.{Chain, NonBulk, Bulk, operation, role, is_operation, closed_by, is_open}
use Rattle.rules.specs.Peak.{open_after, peak}
use Rattle.rules.specs.Tests.{collide, clashes}
use Rattle.rules.specs.Answers.{partner_of}
use Rattle.rules.specs.declared.Lengths.{Lengths}
use Rattle.rules.proofs.Counting.{makes, commits, commits-up}
use Rattle.rules.proofs.Prefix.{agree-append}
use Rattle.rules.proofs.Next.{made-commits, closes_now, commits-old, commits-next, closed-next, open_next, open_new, clashes-next, peak-next}
use Rattle.judge.specs.AsLeft.{made_by, record_in, record_of, open_records, tracking}
use Rattle.judge.specs.Step.{passed_to, clash_in}
use Rattle.judge.proofs.Acting.{records_after, made_after}
use Rattle.judge.proofs.Touching.{touch_in, clash-collide, no_touch}

-- ---- groups made
abbrev counts : ℕ → ℕ → GroupsMade
counts copies bulk = record { copies = copies; bulk = bulk }

made-is : (es : List Event) (w : ℕ) → made_by es w ≡ counts (commits NonBulk es w) (commits Bulk es w)
made-is es w = ap₂ counts (made-commits NonBulk es w) (made-commits Bulk es w)

-- an event makes the groups that its role in each chain makes
made-part : (n a b : ℕ) (e : Event)
    → made_after (part_of n (counts a b) e) (counts a b) ≡ counts (a + makes (role NonBulk e)) (b + makes (role Bulk e))
made-part n a b (event.Load (Global at) size) = ap₂ counts (omega arith) (omega arith)
made-part n a b (event.Load (Shared at) size) = ap₂ counts (omega arith) (omega arith)
made-part n a b (event.Store (Global at) size low high) = ap₂ counts (omega arith) (omega arith)
made-part n a b (event.Store (Shared at) size low high) = ap₂ counts (omega arith) (omega arith)
made-part n a b (event.Copy dst src cp_size mode cache) = ap₂ counts (omega arith) (omega arith)
made-part n a b event.Commit = ap₂ counts (omega arith) (omega arith)
made-part n a b (event.Wait m) = ap₂ counts (omega arith) (omega arith)
made-part n a b event.WaitAll = ap₂ counts (omega arith) (omega arith)
made-part n a b (event.BulkCopy dst src size) = ap₂ counts (omega arith) (omega arith)
made-part n a b (event.BulkReduction dst src size o t) = ap₂ counts (omega arith) (omega arith)
made-part n a b event.BulkCommit = ap₂ counts (omega arith) (omega arith)
made-part n a b (event.BulkWait m) = ap₂ counts (omega arith) (omega arith)

-- ---- an operation has a record, with its chain and the groups that its chain has made
abbrev digit : Chain → ℕ
digit NonBulk = 0
digit Bulk = 1

abbrev made_in : Chain → GroupsMade → ℕ
made_in NonBulk made = made.copies
made_in Bulk made = made.bulk

pub record Starts (k : ℕ) (made : GroupsMade) (e : Event) : Type 0 where
  pub its : Record
  chain : Chain
  pub part_is : part_of k made e ≡ part.Operation its
  event_is : its.event ≡ k
  role_is : role chain e ≡ operation
  chain_is : chain_in its.tag ≡ digit chain
  commits_are : its.commits ≡ made_in chain made

pub starts : (k : ℕ) (made : GroupsMade) (e : Event) → is_operation e ≡ true → Starts k made e
starts k made (event.Load address size) h = absurd (false≢true h)
starts k made (event.Store address size low high) h = absurd (false≢true h)
starts k made (event.Copy dst src cp_size mode cache) h =
    record { its = _; chain = NonBulk; part_is = refl; event_is = refl; role_is = refl; chain_is = refl; commits_are = refl }
starts k made event.Commit h = absurd (false≢true h)
starts k made (event.Wait n) h = absurd (false≢true h)
starts k made event.WaitAll h = absurd (false≢true h)
starts k made (event.BulkCopy dst src size) h =
    record { its = _; chain = Bulk; part_is = refl; event_is = refl; role_is = refl; chain_is = refl; commits_are = refl }
starts k made (event.BulkReduction dst src size o t) h = record {
  its = _;
  chain = Bulk;
  part_is = refl;
  event_is = refl;
  role_is = refl;
  chain_is = chain_back 1 1 (1 + operation_number o) (type_number t) (omega arith) (omega arith);
  commits_are = refl;
}
starts k made event.BulkCommit h = absurd (false≢true h)
starts k made (event.BulkWait n) h = absurd (false≢true h)

-- what is no operation has none
no_record : (k : ℕ) (made : GroupsMade) (e : Event) → is_operation e ≡ false → record_in (part_of k made e) ≡ []
no_record k made (event.Load (Global at) size) h = refl
no_record k made (event.Load (Shared at) size) h = refl
no_record k made (event.Store (Global at) size low high) h = refl
no_record k made (event.Store (Shared at) size low high) h = refl
no_record k made (event.Copy dst src cp_size mode cache) h = absurd (false≢true (sym h))
no_record k made event.Commit h = refl
no_record k made (event.Wait n) h = refl
no_record k made event.WaitAll h = refl
no_record k made (event.BulkCopy dst src size) h = absurd (false≢true (sym h))
no_record k made (event.BulkReduction dst src size o t) h = absurd (false≢true (sym h))
no_record k made event.BulkCommit h = refl
no_record k made (event.BulkWait n) h = refl

-- ---- what a part keeps of the records, one after the other
abbrev kept_by : Part → List Record → List Record
kept_by (part.Access r) rs = rs
kept_by (part.Operation r) rs = rs
kept_by (part.Commit made) rs = rs
kept_by (part.Wait made wait) rs = kept wait rs

abbrev stays : Part → Record → Bool
stays (part.Access r) o = true
stays (part.Operation r) o = true
stays (part.Commit made) o = true
stays (part.Wait made wait) o = stays_open wait o

after_kept : (p : Part) (rs : List Record) → records_after p rs ≡ kept_by p rs ++ record_in p
after_kept (part.Access r) rs = sym (append-nil rs)
after_kept (part.Operation r) rs = refl
after_kept (part.Commit made) rs = sym (append-nil rs)
after_kept (part.Wait made wait) rs = sym (append-nil (kept wait rs))

by_append : (p : Part) (rs ss : List Record) → kept_by p (rs ++ ss) ≡ kept_by p rs ++ kept_by p ss
by_append (part.Access r) rs ss = refl
by_append (part.Operation r) rs ss = refl
by_append (part.Commit made) rs ss = refl
by_append (part.Wait made wait) rs ss = filter-append (stays_open wait) rs ss

by_one : (p : Part) (o : Record) → kept_by p (o ∷ []) ≡ only_if (stays p o) o
by_one (part.Access r) o = refl
by_one (part.Operation r) o = refl
by_one (part.Commit made) o = refl
by_one (part.Wait made wait) o = refl

by_none : (p : Part) → kept_by p [] ≡ []
by_none (part.Access r) = refl
by_none (part.Operation r) = refl
by_none (part.Commit made) = refl
by_none (part.Wait made wait) = refl

-- ---- which records an event keeps: those that its role in their chain does not close
not_less : (a b : ℕ) → leb a b ≡ not (ltb b a)
not_less a b = by_test (ltb b a) refl
  where
    by_test : (t : Bool) → ltb b a ≡ t → leb a b ≡ not t
    by_test true e = lt-leb a b (ltb-true b a e)
    by_test false e = le-leb a b (ltb-false b a e)

differ : {m : ℕ} → m ≡ 0 → m ≡ 1 → ⊥
differ p q = omega (arith, p, q)

stays_open_lem : (n : ℕ) (made : GroupsMade) (e : Event) (o : Record) (chain : Chain)
    → chain_in o.tag ≡ digit chain → o.commits ≤ made_in chain made
    → stays (part_of n made e) o ≡ not (closes_now (role chain e) o.commits (made_in chain made))
stays_open_lem n made (event.Load (Global at) size) o NonBulk c l = refl
stays_open_lem n made (event.Load (Global at) size) o Bulk c l = refl
stays_open_lem n made (event.Load (Shared at) size) o NonBulk c l = refl
stays_open_lem n made (event.Load (Shared at) size) o Bulk c l = refl
stays_open_lem n made (event.Store (Global at) size low high) o NonBulk c l = refl
stays_open_lem n made (event.Store (Global at) size low high) o Bulk c l = refl
stays_open_lem n made (event.Store (Shared at) size low high) o NonBulk c l = refl
stays_open_lem n made (event.Store (Shared at) size low high) o Bulk c l = refl
stays_open_lem n made (event.Copy dst src cp_size mode cache) o NonBulk c l = refl
stays_open_lem n made (event.Copy dst src cp_size mode cache) o Bulk c l = refl
stays_open_lem n made event.Commit o NonBulk c l = refl
stays_open_lem n made event.Commit o Bulk c l = refl
stays_open_lem n made (event.Wait m) o NonBulk c l =
    stays_by_count (wait_on table.Copies made m) o c ∙ not_less made.copies (o.commits + m)
stays_open_lem n made (event.Wait m) o Bulk c l = stays-other (wait_on table.Copies made m) o (λ z. differ z c)
stays_open_lem n made event.WaitAll o NonBulk c l =
    stays_by_count (wait_on table.Copies (committed table.Copies made) 0) o c ∙ lt-leb (made.copies + 1) (o.commits + 0) (omega arith)
stays_open_lem n made event.WaitAll o Bulk c l = stays-other (wait_on table.Copies (committed table.Copies made) 0) o (λ z. differ z c)
stays_open_lem n made (event.BulkCopy dst src size) o NonBulk c l = refl
stays_open_lem n made (event.BulkCopy dst src size) o Bulk c l = refl
stays_open_lem n made (event.BulkReduction dst src size w t) o NonBulk c l = refl
stays_open_lem n made (event.BulkReduction dst src size w t) o Bulk c l = refl
stays_open_lem n made event.BulkCommit o NonBulk c l = refl
stays_open_lem n made event.BulkCommit o Bulk c l = refl
stays_open_lem n made (event.BulkWait m) o NonBulk c l = stays-other (wait_on table.Bulk made m) o (λ z. differ c z)
stays_open_lem n made (event.BulkWait m) o Bulk c l =
    stays_by_count (wait_on table.Bulk made m) o c ∙ not_less made.bulk (o.commits + m)

-- ---- the partner found, as the search by events gives it
lowest-none : (p : ℕ → Bool) (n : ℕ) → ((i : ℕ) → i < n → p i ≡ false) → lowest_below p n ≡ None
lowest-none p zero h = refl
lowest-none p (suc n) h = rw (lowest-none p n (λ i l. h i (omega arith)), h n (omega arith))

open_operation : (es : List Event) (n i : ℕ) → is_open es n i ≡ true → is_operation (event_at es i) ≡ true
unfolding is_open
open_operation es n i h = (both (is_operation (event_at es i)) _ h).0

-- as many records as operations are open
pub length_open : (es : List Event) (n k : ℕ) → length (open_records es n k) ≡ count_below (is_open es n) k
unfolding open_records
length_open es n zero = refl
length_open es n (suc k) =
    length-append (open_records es n k) _ ∙ ap₂ ◌+◌ (length_open es n k) (one (is_open es n k) refl)
  where
    one : (t : Bool) → is_open es n k ≡ t → length (cond t (record_of es k) []) ≡ cond t 1 0
    one true h =
        let s = starts k (made_by es k) (event_at es k) (open_operation es n k h) in
        ap (λ p. length (record_in p)) s.part_is
    one false h = refl

module _ (before : List Event) (e : Event) where
  abbrev n : ℕ
  n = length before

  abbrev longer : List Event
  longer = before ++ e ∷ []

  abbrev its-part : Part
  its-part = part_of n (made_by before n) e

  made-old : (k : ℕ) → k ≤ n → made_by longer k ≡ made_by before k
  made-old k l =
      made-is longer k ∙ ap₂ counts (commits-old before e NonBulk k l) (commits-old before e Bulk k l) ∙ sym (made-is before k)

  pub made-next : made_after its-part (made_by before n) ≡ made_by longer (suc n)
  made-next =
      ap (λ m. made_after (part_of n m e) m) (made-is before n)
      ∙ made-part n (commits NonBulk before n) (commits Bulk before n) e
      ∙ sym (made-is longer (suc n) ∙ ap₂ counts (commits-next before e NonBulk) (commits-next before e Bulk))

  record_old : (k : ℕ) → k < n → record_of longer k ≡ record_of before k
  record_old k l =
      ap₂ (λ m x. record_in (part_of k m x)) (made-old k (omega arith)) (agree-append before (e ∷ []) k l)

  made-counts : (chain : Chain) (k : ℕ) → made_in chain (made_by before k) ≡ commits chain before k
  made-counts NonBulk k = made-commits NonBulk before k
  made-counts Bulk k = made-commits Bulk before k

  -- the record of an open operation stays just if the operation is open afterwards
  still_open : (k : ℕ) → k < n → (h : is_open before n k ≡ true) (s : Starts k (made_by before k) (event_at before k))
      → stays its-part s.its ≡ is_open longer (suc n) k
  still_open k l h s =
      let started = s.commits_are ∙ made-counts s.chain k in
      let now = made-counts s.chain n in
      stays_open_lem n (made_by before n) e s.its s.chain s.chain_is
      (omega (arith, started, now, commits-up s.chain before k n (omega arith)))
      ∙ ap not (ap₂ (closes_now (role s.chain e)) started now
      ∙ sym (closed-next before e s.chain k l s.role_is))
      ∙ sym (open_next before e k l ∙ ap (λ t. t && not (closed_by longer k n)) h)

  kept-below : (k : ℕ) → k ≤ n → kept_by its-part (open_records before n k) ≡ open_records longer (suc n) k
  unfolding open_records
  kept-below zero l = by_none its-part
  kept-below (suc k) l =
      by_append its-part (open_records before n k) (cond (is_open before n k) (record_of before k) [])
      ∙ ap₂ ◌++◌ (kept-below k (omega arith)) (one (is_open before n k) refl)
    where
      one : (t : Bool) → is_open before n k ≡ t
          → kept_by its-part (cond t (record_of before k) []) ≡ cond (is_open longer (suc n) k) (record_of longer k) []
      one true h =
          let s = starts k (made_by before k) (event_at before k) (open_operation before n k h) in
          let its-record : record_of before k ≡ s.its ∷ [] = ap record_in s.part_is in
          ap (kept_by its-part) its-record ∙ by_one its-part s.its
          ∙ ap₂ (λ t r. cond t r []) (still_open k (omega arith) h s)
          (sym (record_old k (omega arith) ∙ its-record))
      one false h =
          by_none its-part
          ∙ sym (ap (λ t. cond t (record_of longer k) [])
          (open_next before e k (omega arith) ∙ ap (λ t. t && not (closed_by longer k n)) h))

  new_record : cond (is_open longer (suc n) n) (record_of longer n) [] ≡ record_in its-part
  new_record =
      ap₂ (λ t r. cond t r []) (open_new before e)
      (ap₂ (λ m x. record_in (part_of n m x)) (made-old n (omega arith)) (get_or-append_seam before e [] event.Commit))
      ∙ only (is_operation e) refl
    where
      only : (t : Bool) → is_operation e ≡ t → cond t (record_in its-part) [] ≡ record_in its-part
      only true h = refl
      only false h = sym (no_record n (made_by before n) e h)

  pub records-next : records_after its-part (open_records before n n) ≡ open_records longer (suc n) (suc n)
  unfolding open_records
  records-next =
      after_kept its-part (open_records before n n) ∙ ap₂ ◌++◌ (kept-below n (omega arith)) (sym new_record)

  -- the first record that the event clashes with is of the lowest event that it clashes with
  module _ (r : Record) (touches : touch_in its-part ≡ Some r) where
    first_below : (k : ℕ) → k ≤ n
        → first_clash r (open_records before n k) ≡ lowest_below (λ i. clashes longer i n) k
    unfolding open_records
    first_below zero l = refl
    first_below (suc k) l =
        first-append r (open_records before n k) (cond (is_open before n k) (record_of before k) [])
        ∙ ap₂ option_or (first_below k (omega arith)) (one (is_open before n k) refl)
      where
        found : (t : Bool) → is_open before n k ≡ t
            → clashes longer k n ≡ (t && collide (event_at before k) e)
        found t h = clashes-next before e k (omega arith) ∙ ap (λ s. s && collide (event_at before k) e) h

        by_clash : (t : Bool) (its : Record) → its.event ≡ k
            → option_map (λ (o : Record). o.event) (cond t (Some its) None) ≡ cond t (Some k) None
        by_clash true its q = ap Some q
        by_clash false its q = refl

        one : (t : Bool) → is_open before n k ≡ t
            → first_clash r (cond t (record_of before k) []) ≡ cond (clashes longer k n) (Some k) None
        one true h =
            let s = starts k (made_by before k) (event_at before k) (open_operation before n k h) in
            ap (λ p. first_clash r (record_in p)) s.part_is
            ∙ ap (λ t. option_map (λ (o : Record). o.event) (cond t (Some s.its) None))
            (clash-collide k (made_by before k) (event_at before k) s.its s.part_is n (made_by before n) e r touches)
            ∙ by_clash (collide (event_at before k) e) s.its s.event_is
            ∙ sym (ap (λ t. cond t (Some k) None) (found true h))
        one false h = sym (ap (λ t. cond t (Some k) None) (found false h))

  no_partner : touch_in its-part ≡ None → None ≡ partner_of before e
  no_partner h = sym (lowest-none (λ i. clashes longer i n) n (λ i l.
      clashes-next before e i l ∙ ap (λ t. is_open before n i && t) (no_touch n (made_by before n) (event_at before i) e h)
      ∙ and-false (is_open before n i)))

  pub partner_found : clash_in its-part (open_records before n n) ≡ partner_of before e
  partner_found = by_part its-part refl
    where
      by_part : (p : Part) → its-part ≡ p → clash_in p (open_records before n n) ≡ partner_of before e
      by_part (part.Access r) h = first_below r (ap touch_in h) n (omega arith)
      by_part (part.Operation r) h = first_below r (ap touch_in h) n (omega arith)
      by_part (part.Commit made) h = no_partner (ap touch_in h)
      by_part (part.Wait made wait) h = no_partner (ap touch_in h)

  -- ---- the state of the judge
  longer-length : length longer ≡ suc n
  longer-length = length-append before (e ∷ []) ∙ omega arith

  pub tracking-next : (lengths : Lengths)
      → passed_to (tracking lengths before) (length (records_after its-part (open_records before n n)))
      (made_after its-part (made_by before n))
      ≡ tracking lengths longer
  tracking-next lengths =
      let unclosed : length (records_after its-part (open_records before n n)) ≡ open_after longer (suc n) =
      ap length records-next ∙ length_open longer (suc n) (suc n) in
      rw (longer-length, unclosed, made-next, peak-next before e) (ap (λ m. record {
        events = m;
        peak = max (peak before n) (open_after longer (suc n));
        unclosed = open_after longer (suc n);
        made = made_by longer (suc n);
        lengths = lengths;
        refusal = (tracking lengths before).refusal;
      }) (omega arith))
