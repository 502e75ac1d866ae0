-- The theorems of specs/Theorems.antt.
-- Assumes nothing.
use Prim.Native.Nat.{ℕ, ◌+◌, ◌≤◌}
use native.Mathlib.Nat.{zero-add}
use native.Mathlib.Omega.{arith}
use mathlib.Core.Path.{◌≡◌, refl, sym, ap, ap₂, ◌∙◌}
use mathlib.Core.Logic.{◌⊎◌, inl, inr}
use mathlib.Core.Bool.{Bool, true, false, not, ◌&&◌, cond}
use mathlib.Core.List.{List, map}
use lib.Dec.{leb}
use lib.ListN.{length}
use borrow.Author.Tests.{eqb-true, eqb-false, eq-eqb, le-leb, leb-true, leb-false}
use Rattle.answer.proofs.Given.{fits-given}
use Rattle.answer.specs.declared.Answer.{Answer}
use Rattle.answer.specs.declared.Answer.TheVariants as answer
use Rattle.answer.specs.Table.{event_limit, fit_named, fit}
use Rattle.answer.specs.Codes.{code_of, IsAccepted, is_accepted}
use Rattle.event.specs.declared.Event.{Event}
use Rattle.decoder.specs.Item.{Item}
use Rattle.std.specs.Prelude.{Ok}
use Rattle.trace.specs.declared.Header.{Header}
use Rattle.trace.specs.File.{Contents, recorded, file_of}
use Rattle.trace.specs.Beginning.{held_of}
use Rattle.trace.proofs.Held.{held_whole_lem}
use Rattle.rules.specs.declared.Lengths.{Lengths}
use Rattle.rules.specs.Orders.{actions_of}
use Rattle.rules.specs.Answers.{answer_of, lengths_in, answer_of_file}
use Rattle.rules.specs.Waited.{Waited, MayAdd, Lowered}
use Rattle.rules.specs.Waited as waited
use Rattle.rules.proofs.Orders.{has-order}
use Rattle.rules.proofs.Right.{Fits}
use Rattle.rules.proofs.Accepted.{accepted-items}
use Rattle.rules.proofs.Files.{list_fits, answer-recorded, still-accepted-file, still_the_same_file}
use Rattle.judge.proofs.Beginnings.{Says, shapeless, listed, says}
use Rattle.run.specs.Running.{Lent, load_bytes, or_no_room, are_lent, answer_of_run, lent_after}
use Rattle.run.specs.Theorems.{OneResult, OneRun, GivenInRuns, AsJudged, MoreWaitingInRuns}
use Rattle.rules.specs.Outcomes.{load_size}
use Rattle.run.proofs.Answers.{run-not-lent, run-judged, run_no_room, run_room}

-- ---- what an accepted run tells of its file
record Accepted (header : Header) (items : List Item) (before : Lent) : Type 0 where
  are_lent_lem : are_lent header before ≡ true
  judged : IsAccepted (answer_of (lengths_in header) items)
  fits : load_bytes items ≤ length before.load_record

module _ (header : Header) (items : List Item) (before : Lent) where
  abbrev judgement : Answer
  judgement = answer_of (lengths_in header) items

  abbrev runs : Answer
  runs = answer_of_run (recorded header items) before

  by_room : are_lent header before ≡ true → IsAccepted judgement → (t : Bool) → leb (load_bytes items) (length before.load_record) ≡ t
      → IsAccepted runs → Accepted header items before
  by_room h j true e accepts =
      record { are_lent_lem = h; judged = j; fits = leb-true (load_bytes items) (length before.load_record) e }
  by_room h j false e accepts =
      let over = leb-false (load_bytes items) (length before.load_record) e in
      absurd (omega (arith, ap code_of (run_no_room header items before h j over) ∙ accepts))

  by_judgement : are_lent header before ≡ true → (t : Bool) → is_accepted judgement ≡ t → IsAccepted runs → Accepted header items before
  by_judgement h true e accepts =
      by_room h (eqb-true (code_of judgement) 1 e) (leb (load_bytes items) (length before.load_record)) refl accepts
  by_judgement h false e accepts =
      let refuses = eqb-false (code_of judgement) 1 e in
      absurd (refuses (ap code_of (run-judged header items before h refuses) ∙ accepts))

  by_lengths : (t : Bool) → are_lent header before ≡ t → IsAccepted runs → Accepted header items before
  by_lengths true h accepts = by_judgement h (is_accepted judgement) refl accepts
  by_lengths false h accepts = absurd (omega (arith, ap code_of (run-not-lent header items before h) ∙ accepts))

  told-accepted : IsAccepted runs → Accepted header items before
  told-accepted accepts = by_lengths (are_lent header before) refl accepts

-- ---- one run
one-result : {contents : Contents} → Says contents → OneResult contents
unfolding answer_of_run
one-result {contents} said before a a' after after' ran ran' = (same, by_acceptance (is_accepted a) refl)
  where
    same : a ≡ a'
    same = ran.answers ∙ sym ran'.answers

    -- an accepted run is of events, whose one outcome both leave
    by_said : {c : Contents} → Says c → c ≡ contents → IsAccepted a → IsAccepted (answer_of_run c before) → after ≡ after'
    by_said (shapeless refuses fits) is accepts h = absurd (refuses h)
    by_said (listed {header = header} {items = items} few) is accepts h =
        let v = accepted-items (lengths_in header) items (told-accepted header items before h).judged in
        let es = v.events in
        let holds = sym is ∙ ap (recorded header) v.are in
        ran.acceptance accepts header es holds (actions_of es) (has-order es)
        ∙ sym (ran'.acceptance (rw (← same) accepts) header es holds (actions_of es) (has-order es))

    by_acceptance : (t : Bool) → is_accepted a ≡ t → after ≡ after'
    by_acceptance false e =
        let refuses = eqb-false (code_of a) 1 e in
        ran.refusal refuses ∙ sym (ran'.refusal (rw (← same) refuses))
    by_acceptance true e =
        let accepts = eqb-true (code_of a) 1 e in
        by_said said refl accepts (rw (← ran.answers) accepts)

-- what a file says, its beginning does that is the whole file
file-says : (f : List ℕ) → Says (file_of event_limit f)
file-says f = rw (← held_whole_lem event_limit f) (says f (length f))

pub one_run : OneRun
unfolding OneRun
one_run = (λ f total. one-result (says f total), λ f. one-result (file-says f))

-- ---- the sheet
no_room_fits : (n : ℕ) → n ≤ event_limit → Fits (answer.NoRoom n)
unfolding fit fit_named
no_room_fits n few = rw (le-leb n event_limit few)

memory_length_fits : Fits answer.WrongMemoryLength
unfolding fit fit_named
memory_length_fits = refl

run_fits : {contents : Contents} (before : Lent) → Says contents → Fits (answer_of_run contents before)
unfolding answer_of_run
run_fits before (shapeless refuses fits) = fits
run_fits before (listed {header = header} {items = items} few) = by_lengths (are_lent header before)
  where
    by_room : (t : Bool) → Fits (cond t (answer.NoRoom (length items)) (answer_of (lengths_in header) items))
    by_room true = no_room_fits (length items) few
    by_room false = list_fits (lengths_in header) items

    by_lengths : (t : Bool) → Fits (cond t (or_no_room (length before.load_record) items (answer_of (lengths_in header) items)) answer.WrongMemoryLength)
    by_lengths true = by_room (is_accepted (answer_of (lengths_in header) items) && not (leb (load_bytes items) (length before.load_record)))
    by_lengths false = memory_length_fits

pub given_in_runs : GivenInRuns
unfolding GivenInRuns
given_in_runs = (
  λ f total before. fits-given (answer_of_run (held_of event_limit f total) before) (run_fits before (says f total)),
  λ f before. fits-given (answer_of_run (file_of event_limit f) before) (run_fits before (file-says f)),
)

-- ---- as judged
lent_by : (n : ℕ) (lengths : Lengths) (before : Lent) → length before.global ≡ lengths.global → length before.shared ≡ lengths.shared
    → are_lent (record { events = n; global = lengths.global; shared = lengths.shared }) before ≡ true
lent_by n lengths before g s = rw (eq-eqb lengths.global (length before.global) (sym g), eq-eqb lengths.shared (length before.shared) (sym s))

pub as_judged : AsJudged
unfolding AsJudged
as_judged f lengths items before holds g s either =
    ap (λ c. answer_of_run c before) holds ∙ by_way either (is_accepted (answer_of lengths items)) refl ∙ sym (answer-recorded f _ items holds)
  where
    header : Header
    header = record { events = length items; global = lengths.global; shared = lengths.shared }

    h : are_lent header before ≡ true
    h = lent_by (length items) lengths before g s

    by_way : (load_bytes items ≤ length before.load_record) ⊎ (¬ IsAccepted (answer_of_file f))
        → (t : Bool) → is_accepted (answer_of lengths items) ≡ t
        → answer_of_run (recorded header items) before ≡ answer_of lengths items
    by_way (inl fits) true e = sym (run_room header items before h (eqb-true (code_of (answer_of lengths items)) 1 e) fits)
    by_way (inl fits) false e = sym (run-judged header items before h (eqb-false (code_of (answer_of lengths items)) 1 e))
    by_way (inr refuses) t e = sym (run-judged header items before h (rw (answer-recorded f _ items holds) at refuses))

-- ---- more waiting
same-loads : {es es' : List Event} → Waited es es' → load_bytes (map Ok es') ≡ load_bytes (map Ok es)
same-loads waited.done = refl
same-loads (waited.keep lowered rest) = ap₂ ◌+◌ (same_size lowered) (same-loads rest)
  where
    same_size : {e e' : Event} → Lowered e e' → load_size e' ≡ load_size e
    same_size waited.same = refl
    same_size (waited.wait h) = refl
    same_size (waited.bulk_wait h) = refl
same-loads (waited.add may rest) = no_size may ∙ same-loads rest
  where
    no_size : {e : Event} {n : ℕ} → MayAdd e → load_size e + n ≡ n
    no_size waited.wait = zero-add _
    no_size waited.wait_all = zero-add _
    no_size waited.bulk_wait = zero-add _

pub more_waiting_in_runs : MoreWaitingInRuns
unfolding MoreWaitingInRuns
more_waiting_in_runs f f' lengths es es' holds holds' w before a a' after after' ran ran' accepts = (
  accepts',
  ran'.acceptance accepts' _ es' holds' (actions_of es') (has-order es')
      ∙ ap (λ o. lent_after o before.load_record)
      (still_the_same_file f f' lengths es es' holds holds' w in_file (actions_of es) (actions_of es') (has-order es) (has-order es') before.global before.shared)
      ∙ sym (ran.acceptance accepts _ es holds (actions_of es) (has-order es)),
)
  where
    headed : ℕ → Header
    headed n = record { events = n; global = lengths.global; shared = lengths.shared }

    first : Accepted (headed (length {A = Item} (map Ok es))) (map Ok es) before
    first = told-accepted (headed (length {A = Item} (map Ok es))) (map Ok es) before (rw (← ran.answers ∙ ap (λ c. answer_of_run c before) holds) accepts)

    in_file : IsAccepted (answer_of_file f)
    in_file = rw (answer-recorded f _ (map Ok es) holds) first.judged

    judged' : IsAccepted (answer_of lengths (map Ok es'))
    judged' = rw (answer-recorded f' _ (map Ok es') holds') at (still-accepted-file f f' lengths es es' holds holds' w in_file)

    accepts' : IsAccepted a'
    accepts' =
        rw (ran'.answers, holds', ← run_room (headed (length {A = Item} (map Ok es'))) (map Ok es') before first.are_lent_lem judged' (rw (same-loads w) first.fits)) judged'
