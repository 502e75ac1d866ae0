-- What condition 3 compares: a list with more waits or lower numbers in them, a file with more events.
use Rattle.std.specs.Prelude.{ℕ, ◌≤◌, ◌<◌, ◌≡◌, List, [], ◌∷◌}
use Rattle.event.specs.declared.Event.{Event}
use Rattle.event.specs.declared.Event.TheVariants.{Wait, WaitAll, BulkWait}
use Rattle.trace.specs.File.{events_in, header_in, kind_in, body_in}

-- Waits are kinds 18, 19 and 35.
pub data MayAdd : Event → Type 0 where
  wait : {n : ℕ} → MayAdd (Wait n)
  wait_all : MayAdd WaitAll
  bulk_wait : {n : ℕ} → MayAdd (BulkWait n)

-- The same event, or a wait whose number is lowered.
pub data Lowered : Event → Event → Type 0 where
  same : {e : Event} → Lowered e e
  wait : {m n : ℕ} → m ≤ n → Lowered (Wait n) (Wait m)
  bulk_wait : {m n : ℕ} → m ≤ n → Lowered (BulkWait n) (BulkWait m)

-- The second list is the first with waits added anywhere and numbers in waits lowered.
pub data Waited : List Event → List Event → Type 0 where
  done : Waited [] []
  keep : {e e' : Event} {es es' : List Event} → Lowered e e' → Waited es es' → Waited (e ∷ es) (e' ∷ es')
  add : {e : Event} {es es' : List Event} → MayAdd e → Waited es es' → Waited es (e ∷ es')

-- The second file has the first one's memory lengths and events, and after them any further events.
pub record Extended (f f' : List ℕ) : Type 0 where
  pub global : (header_in f').global ≡ (header_in f).global
  pub shared : (header_in f').shared ≡ (header_in f).shared
  pub longer : events_in f ≤ events_in f'
  pub kinds : (i : ℕ) → i < events_in f → kind_in f' i ≡ kind_in f i
  pub bodies : (i : ℕ) → i < events_in f → body_in f' i ≡ body_in f i
