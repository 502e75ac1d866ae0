-- What a wait closes, and what is open. Each of the two chains has its own groups, commit and wait.
use Rattle.std.specs.Prelude.{ℕ, zero, suc, Bool, true, false, not, ◌&&◌, ◌||◌, List, [], ◌∷◌, ◌++◌, drop, eqb}
use Rattle.event.specs.declared.Event.{Event}
use Rattle.event.specs.declared.Event.TheVariants.{Load, Store, Copy, Commit, Wait, WaitAll, BulkCopy, BulkReduction, BulkCommit, BulkWait}
use Rattle.rules.specs.Search.{any_in, any_below}
use Rattle.rules.specs.Events.{event_at}

pub data Chain : Type 0 where
  NonBulk Bulk : Chain

-- What an event is to a chain.
pub data Role : Type 0 where
  operation commit wait_all other : Role
  wait : ℕ → Role

abbrev pub role : Chain → Event → Role
role NonBulk (Load address size) = other
role NonBulk (Store address size low high) = other
role NonBulk (Copy dst src cp_size mode cache) = operation
role NonBulk Commit = commit
role NonBulk (Wait n) = wait n
role NonBulk WaitAll = wait_all
role NonBulk (BulkCopy dst src size) = other
role NonBulk (BulkReduction dst src size o t) = other
role NonBulk BulkCommit = other
role NonBulk (BulkWait n) = other
role Bulk (Load address size) = other
role Bulk (Store address size low high) = other
role Bulk (Copy dst src cp_size mode cache) = other
role Bulk Commit = other
role Bulk (Wait n) = other
role Bulk WaitAll = other
role Bulk (BulkCopy dst src size) = operation
role Bulk (BulkReduction dst src size o t) = operation
role Bulk BulkCommit = commit
role Bulk (BulkWait n) = wait n

abbrev pub is_operation_in : Role → Bool
is_operation_in operation = true
is_operation_in commit = false
is_operation_in wait_all = false
is_operation_in other = false
is_operation_in (wait n) = false

-- The event starts an asynchronous operation.
abbrev pub is_operation : Event → Bool
is_operation e = is_operation_in (role NonBulk e) || is_operation_in (role Bulk e)

-- The operations of a chain, each by the event that started it: those started and not yet committed, and the groups,
-- perhaps empty, the newest first.
pub record Groups : Type 0 where
  pub uncommitted : List ℕ
  pub made : List (List ℕ)

abbrev pub starting : ℕ → Groups → Groups
starting i g = record { uncommitted = i ∷ g.uncommitted; made = g.made }

-- A commit makes a group, perhaps empty, of the operations started and not yet committed.
abbrev pub committing : Groups → Groups
committing g = record { uncommitted = []; made = g.uncommitted ∷ g.made }

-- Wait-all is a commit and then wait 0.
abbrev pub after : Role → ℕ → Groups → Groups
after operation i g = starting i g
after commit i g = committing g
after wait_all i g = committing g
after (wait n) i g = g
after other i g = g

-- The groups of a chain when event w has its turn.
unfoldable pub groups : Chain → List Event → ℕ → Groups
groups chain es zero = record { uncommitted = []; made = [] }
groups chain es (suc w) = after (role chain (event_at es w)) w (groups chain es w)

abbrev pub all_of : List (List ℕ) → List ℕ
all_of [] = []
all_of (group ∷ older) = group ++ all_of older

-- Every operation in all groups but the n newest; uncommitted operations stay open.
abbrev pub all_but : ℕ → Groups → List ℕ
all_but n g = all_of (drop n g.made)

abbrev pub closes : Role → Groups → List ℕ
closes (wait n) g = all_but n g
closes wait_all g = all_but 0 (committing g)
closes operation g = []
closes commit g = []
closes other g = []

abbrev pub closed_in : Chain → List Event → ℕ → List ℕ
closed_in chain es w = closes (role chain (event_at es w)) (groups chain es w)

abbrev pub is_in : ℕ → List ℕ → Bool
is_in i js = any_in (eqb i) js

-- Event w closes the operation of event i. (Groups stay, so a later wait closes again what an earlier one has closed.)
unfoldable pub closed_by : List Event → ℕ → ℕ → Bool
closed_by es i w = is_in i (closed_in NonBulk es w) || is_in i (closed_in Bulk es w)

-- Of an event i among the first n: it starts an operation, and none of the n closes it. So it is open after them.
unfoldable pub is_open : List Event → ℕ → ℕ → Bool
is_open es n i = is_operation (event_at es i) && not (any_below (closed_by es i) n)
