-- The answer of a run, by what a file says; and a file's run, told by its beginning.
-- Assumes nothing.
use Prim.Native.Nat.{ℕ, ◌≤◌, ◌<◌}
use native.Mathlib.Omega.{arith}
use mathlib.Core.Path.{◌≡◌, refl, sym, ap, ap₂, subst, ◌∙◌}
use mathlib.Core.Bool.{Bool, true, false}
use mathlib.Core.List.{List}
use lib.ListN.{length, take}
use borrow.Author.Tests.{eqb-true, eqb-false, eq-eqb, ne_eqb, le-leb, lt-leb}
use Rattle.answer.specs.declared.Answer.{Answer}
use Rattle.answer.specs.declared.Answer.TheVariants as answer
use Rattle.answer.specs.Table.{event_limit}
use Rattle.answer.specs.Codes.{code_of, IsAccepted, is_accepted}
use Rattle.decoder.specs.Item.{Item}
use Rattle.trace.specs.declared.Header.{Header}
use Rattle.trace.specs.File.{Shape}
use Rattle.std.specs.Prelude.{Ok, Err}
use Rattle.trace.specs.File.{shape_of, first_items, item_in, Contents, refused, recorded, contents_of, file_of}
use Rattle.trace.specs.Beginning.{enough, held_item_in, held_contents, held_of}
use Rattle.trace.proofs.Held.{shape_decided}
use Rattle.rules.specs.declared.Lengths.{Lengths}
use Rattle.rules.specs.Answers.{answer_of, lengths_in}
use Rattle.judge.proofs.Beginnings.{beginning_items, beginning_judged, Says, shapeless, says}
use Rattle.moves.specs.Acting.{memories}
use Rattle.run.specs.Running.{Lent, load_bytes, or_no_room, are_lent, answer_of_run, Ran}
use Rattle.run.specs.Acting.{acted_all, left}
use Rattle.run.proofs.Acted.{every_order}

-- ---- refusals
-- an answer of another variant than the second is none
pub no_acceptance : (a : Answer) → ((events peak : ℕ) → a ≡ answer.Accepted events peak → ⊥) → ¬ IsAccepted a
no_acceptance answer.NoVerdict other h = omega (arith, h)
no_acceptance (answer.Accepted events peak) other h = other events peak refl
no_acceptance answer.WrongShape other h = omega (arith, h)
no_acceptance answer.TooManyEvents other h = omega (arith, h)
no_acceptance answer.WrongMemoryLength other h = omega (arith, h)
no_acceptance (answer.UnknownKind event) other h = omega (arith, h)
no_acceptance (answer.WrongBodyLength event) other h = omega (arith, h)
no_acceptance (answer.FieldNotAllowed event) other h = omega (arith, h)
no_acceptance (answer.Misaligned event) other h = omega (arith, h)
no_acceptance (answer.OutOfRange event) other h = omega (arith, h)
no_acceptance (answer.Clash event partner) other h = omega (arith, h)
no_acceptance (answer.NoRoom event) other h = omega (arith, h)
no_acceptance answer.NotWritten other h = omega (arith, h)

-- a run with a refusal for an answer leaves all as it was
ran_refused : (contents : Contents) (before : Lent) (a : Answer) → a ≡ answer_of_run contents before → ¬ IsAccepted a
    → Ran contents before a before
ran_refused contents before a e refuses = record {
  answers = e;
  refusal = λ h. refl;
  acceptance = λ accepts header es is order permitted. absurd (refuses accepts);
}

-- ---- by what the file says
run-refused : (a : Answer) (before : Lent) → a ≡ answer_of_run (refused a) before
unfolding answer_of_run
run-refused a before = refl

module _ (header : Header) (items : List Item) (before : Lent) where
  abbrev judgement : Answer
  judgement = answer_of (lengths_in header) items

  pub run-not-lent : are_lent header before ≡ false → answer.WrongMemoryLength ≡ answer_of_run (recorded header items) before
  unfolding answer_of_run
  run-not-lent h = rw h

  run_lent : are_lent header before ≡ true
      → answer_of_run (recorded header items) before ≡ or_no_room (length before.load_record) items judgement
  unfolding answer_of_run
  run_lent h = rw h

  module _ (h : are_lent header before ≡ true) where
    pub run-judged : ¬ IsAccepted judgement → judgement ≡ answer_of_run (recorded header items) before
    run-judged refuses = sym (run_lent h ∙ rw (ne_eqb (code_of judgement) 1 refuses))

    pub run_no_room : IsAccepted judgement → length before.load_record < load_bytes items
        → answer.NoRoom (length items) ≡ answer_of_run (recorded header items) before
    run_no_room accepts over =
        sym (run_lent h ∙ rw (eq-eqb (code_of judgement) 1 accepts, lt-leb (load_bytes items) (length before.load_record) over))

    pub run_room : IsAccepted judgement → load_bytes items ≤ length before.load_record
        → judgement ≡ answer_of_run (recorded header items) before
    run_room accepts fits =
        sym (run_lent h ∙ rw (eq-eqb (code_of judgement) 1 accepts, le-leb (load_bytes items) (length before.load_record) fits))

-- ---- an accepted list
same-items : {h h' : Header} {items items' : List Item} → recorded h items ≡ recorded h' items' → items ≡ items'
same-items e = cc

ran_accepted : (header : Header) (items : List Item) (before : Lent) → are_lent header before ≡ true
    → IsAccepted (answer_of (lengths_in header) items) → load_bytes items ≤ length before.load_record
    → Ran (recorded header items) before (answer_of (lengths_in header) items)
    (left (acted_all items (memories before.global before.shared before.load_record 0)))
ran_accepted header items before h accepts fits = record {
  answers = run_room header items before h accepts fits;
  refusal = λ refuses. absurd (refuses accepts);
  acceptance = λ again header' es is order permitted.
      let are = same-items is in
      ap (λ l. left (acted_all l (memories before.global before.shared before.load_record 0))) are
      ∙ every_order (lengths_in header) es before (rw are at accepts) (rw are at fits) order permitted;
}

-- ---- a run of what the file says
pub shape_refused : (f : List ℕ) (total : ℕ) (before : Lent) (a : Answer) → held_of event_limit f total ≡ refused a
    → Ran (held_of event_limit f total) before a before
shape_refused f total before a contents =
    rw contents (ran_refused (refused a) before a (run-refused a before) (refusal_of_lem (rw contents at (says f total))))
  where
    refusal_of_lem : Says (refused a) → ¬ IsAccepted a
    refusal_of_lem (shapeless refuses fits) = refuses

module _ (header : Header) (items : List Item) (before : Lent) where
  pub not-lent : are_lent header before ≡ false → Ran (recorded header items) before answer.WrongMemoryLength before
  not-lent h = ran_refused (recorded header items) before answer.WrongMemoryLength (run-not-lent header items before h) (λ q. omega (arith, q))

  module _ (h : are_lent header before ≡ true) (a : Answer) (judged : a ≡ answer_of (lengths_in header) items) where
    pub lent-refused : ¬ IsAccepted a → Ran (recorded header items) before a before
    lent-refused refuses =
        ran_refused (recorded header items) before a (judged ∙ run-judged header items before h (rw (← judged) refuses)) refuses

    module _ (accepts : IsAccepted a) where
      pub lent_no_room : length before.load_record < load_bytes items → Ran (recorded header items) before (answer.NoRoom (length items)) before
      lent_no_room over =
          ran_refused (recorded header items) before (answer.NoRoom (length items))
          (run_no_room header items before h (rw (← judged) accepts) over) (λ q. omega (arith, q))

      pub lent-run : load_bytes items ≤ length before.load_record → (after : Lent)
          → after ≡ left (acted_all items (memories before.global before.shared before.load_record 0))
          → Ran (recorded header items) before a after
      lent-run fits after is = rw (judged, is) (ran_accepted header items before h (rw (← judged) accepts) fits)

-- a header with the lengths of what is lent
pub lent-lengths : (header : Header) (before : Lent)
    → lengths_in header ≡ record { global = length before.global; shared = length before.shared } → are_lent header before ≡ true
lent-lengths header before e =
    let g = ap (λ (l : Lengths). l.global) e in
    let s = ap (λ (l : Lengths). l.shared) e in
    rw (eq-eqb header.global (length before.global) g, eq-eqb header.shared (length before.shared) s)

module _ (f : List ℕ) (k : ℕ) (long : enough event_limit ≤ k) {before after : Lent} {a : Answer} where
  -- where the beginning and the file hold different items, both are refused alike
  carried-items : (header : Header) → shape_of event_limit f (length f) ≡ Ok header
      → Ran (recorded header (first_items (held_item_in (take k f)) header.events)) before a after
      → Ran (recorded header (first_items (item_in f) header.events)) before a after
  carried-items header e ran = by_acceptance (is_accepted judged) refl
    where
      held : List Item
      held = first_items (held_item_in (take k f)) header.events

      whole : List Item
      whole = first_items (item_in f) header.events

      judged : Answer
      judged = answer_of (lengths_in header) held

      by_lent : ¬ IsAccepted judged → (t : Bool) → are_lent header before ≡ t
          → answer_of_run (recorded header held) before ≡ answer_of_run (recorded header whole) before
      by_lent refuses true h =
          let same = beginning_judged f k long header e in
          sym (run-judged header held before h refuses) ∙ same ∙ run-judged header whole before h (rw (← same) refuses)
      by_lent refuses false h = sym (run-not-lent header held before h) ∙ run-not-lent header whole before h

      no_run : ¬ IsAccepted judged → (t : Bool) → are_lent header before ≡ t → ¬ IsAccepted a
      no_run refuses true h = rw (ran.answers ∙ sym (run-judged header held before h refuses)) refuses
      no_run refuses false h = rw (ran.answers ∙ sym (run-not-lent header held before h)) (λ q. omega (arith, q))

      by_acceptance : (t : Bool) → is_accepted judged ≡ t → Ran (recorded header whole) before a after
      by_acceptance true accepts =
          rw (← beginning_items f k long header e (eqb-true (code_of judged) 1 accepts)) ran
      by_acceptance false test =
          let refuses = eqb-false (code_of judged) 1 test in
          let none = no_run refuses (are_lent header before) refl in
          rw (ran.refusal none)
          (ran_refused (recorded header whole) before a (ran.answers ∙ by_lent refuses (are_lent header before) refl) none)

  carried : Ran (held_of event_limit (take k f) (length f)) before a after → Ran (file_of event_limit f) before a after
  unfolding held_of file_of
  carried ran = by_shape (shape_of event_limit f (length f)) refl (rw contents at ran)
    where
      contents : held_of event_limit (take k f) (length f) ≡ held_contents (take k f) (shape_of event_limit f (length f))
      contents = ap (held_contents (take k f)) (shape_decided event_limit k f long)

      by_shape : (s : Shape) → shape_of event_limit f (length f) ≡ s
          → Ran (held_contents (take k f) s) before a after → Ran (contents_of f s) before a after
      by_shape (Err refusal) e r = r
      by_shape (Ok header) e r = carried-items header e r

-- what is promised of a beginning
pub told : (f : List ℕ) (total : ℕ) {before after : Lent} {a : Answer} → Ran (held_of event_limit f total) before a after
    → ((file : List ℕ) (held : ℕ) → enough event_limit ≤ held → f ≡ take held file → total ≡ length file
    → Ran (file_of event_limit file) before a after)
    × Ran (held_of event_limit f total) before a after
told f total {before} {after} {a} ran = (
  λ file held long begins whole. carried file held long (subst (λ c. Ran c before a after) (ap₂ (held_of event_limit) begins whole) ran),
  ran,
)
