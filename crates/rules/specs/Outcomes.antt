-- What a permitted order gives: the bytes of each load, and both memories.
use Rattle.std.specs.Prelude.{ℕ, cond, List, [], ◌∷◌, ◌++◌, length}
use Rattle.event.specs.declared.Event.{Event}
use Rattle.event.specs.declared.Event.TheVariants.{Load, Store, Copy, Commit, Wait, WaitAll, BulkCopy, BulkReduction, BulkCommit, BulkWait}
use Rattle.effect.specs.Memory.{State, initial}
use Rattle.effect.specs.Effect.{does}
use Rattle.order.specs.Order.{runs}
use Rattle.rules.specs.Events.{effect_of, event_at}
use Rattle.rules.specs.Closing.{is_operation}
use Rattle.rules.specs.Orders.{Action, turn, act}

-- What an action does. At the turn of an event that starts an operation no byte moves: the operation does it when it acts.
abbrev pub exec : List Event → Action → State → State
exec es (turn i) s = cond (is_operation (event_at es i)) s (does i (effect_of (event_at es i)) s)
exec es (act i) s = does i (effect_of (event_at es i)) s

-- How many bytes a load reads; an event that is no load reads none.
abbrev pub load_size : Event → ℕ
load_size (Load address size) = size
load_size (Store address size low high) = 0
load_size (Copy dst src cp_size mode cache) = 0
load_size Commit = 0
load_size (Wait n) = 0
load_size WaitAll = 0
load_size (BulkCopy dst src size) = 0
load_size (BulkReduction dst src size operation element) = 0
load_size BulkCommit = 0
load_size (BulkWait n) = 0

-- The bytes of an event's load, if it is one.
abbrev pub load_of : Event → List ℕ → List (List ℕ)
load_of (Load address size) bytes = bytes ∷ []
load_of (Store address size low high) bytes = []
load_of (Copy dst src cp_size mode cache) bytes = []
load_of Commit bytes = []
load_of (Wait n) bytes = []
load_of WaitAll bytes = []
load_of (BulkCopy dst src size) bytes = []
load_of (BulkReduction dst src size operation element) bytes = []
load_of BulkCommit bytes = []
load_of (BulkWait n) bytes = []

-- Of what each event has read, the bytes of each load, in file order.
abbrev pub loads_of : List Event → List (List ℕ) → List (List ℕ)
loads_of [] read = []
loads_of (e ∷ es) [] = []
loads_of (e ∷ es) (bytes ∷ read) = load_of e bytes ++ loads_of es read

pub record Outcome : Type 0 where
  pub global : List ℕ
  pub shared : List ℕ
  pub loads : List (List ℕ)

abbrev pub given : List Event → State → Outcome
given es s = record { global = s.global; shared = s.shared; loads = loads_of es s.loaded }

-- What an order of the list's actions gives, from these memories. Operations still open at the end have acted by then.
abbrev pub outcome : List Event → List ℕ → List ℕ → List Action → Outcome
outcome es global shared order = given es (runs (exec es) order (initial global shared (length es)))
