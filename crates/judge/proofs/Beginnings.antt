-- The beginning of a file tells its answer.
-- Assumes nothing.
use Prim.Native.Nat.{ℕ, suc, ◌+◌, ◌-◌, ◌≤◌, ◌<◌}
use native.Mathlib.Omega.{arith}
use mathlib.Core.Path.{◌≡◌, refl, sym, ap, ap₂, ◌∙◌}
use mathlib.Core.Bool.{true, false, ◌&&◌, true≢false, and-false}
use mathlib.Core.List.{List, [], ◌∷◌, ◌++◌, map}
use lib.ListN.{length, take}
use Rattle.answer.specs.Codes.{IsAccepted}
use Rattle.answer.specs.declared.Answer.{Answer}
use Rattle.answer.specs.Table.{event_limit, fit_named, fit}
use Rattle.event.specs.declared.Event.{Event}
use Rattle.decoder.specs.Item.{Item}
use Rattle.std.specs.Prelude.{Ok, Err}
use Rattle.decoder.specs.Kinds.{is_decoded}
use Rattle.trace.specs.declared.Header.{Header}
use Rattle.trace.specs.File.{Shape}
use Rattle.trace.specs.File.{shape_of, first_items, item_in, Contents, refused, recorded, contents_of, file_of}
use Rattle.trace.specs.Beginning.{enough, held_item_in, held_contents, held_of}
use Rattle.trace.proofs.Faults.{all_decoded, all_append, length-first, further}
use Rattle.trace.proofs.Alike.{Following, Alike, same, up_to, one-more-same, alike}
use Rattle.trace.proofs.Shapes.{counted}
use Rattle.trace.proofs.Held.{held_whole_lem, shape_decided, items-there}
use Rattle.rules.specs.declared.Lengths.{Lengths}
use Rattle.rules.specs.Answers.{answer_of, lengths_in, answer_of_contents, answer_of_file}
use Rattle.rules.proofs.Accepted.{accepted-items, refused-more}
use Rattle.rules.proofs.Right.{Fits}
use Rattle.rules.proofs.Files.{of_shape, list_fits}
use Rattle.judge.specs.Beginnings.{answer_of_beginning}

-- ---- lists of items that agree up to the first that does not decode have the same answer
all-events : (es : List Event) → all_decoded (map Ok es) ≡ true
all-events [] = refl
all-events (e ∷ es) = all-events es

module _ (lengths : Lengths) where
  -- a list that ends in an item that does not decode is refused
  stops : (item : ℕ → Item) (k : ℕ) → is_decoded (item k) ≡ false → ¬ IsAccepted (answer_of lengths (first_items item (suc k)))
  unfolding first_items
  stops item k bad h =
      let v = accepted-items lengths (first_items item (suc k)) h in
      true≢false (sym (ap all_decoded v.are ∙ all-events v.events)
      ∙ all_append (first_items item k) (item k ∷ []) ∙ ap (λ t. all_decoded (first_items item k) && (t && true)) bad
      ∙ and-false (all_decoded (first_items item k)))

  -- the answer is known at an item that does not decode
  known : (item : ℕ → Item) (k n : ℕ) → k < n → n ≤ event_limit → is_decoded (item k) ≡ false
      → answer_of lengths (first_items item n) ≡ answer_of lengths (first_items item (suc k))
  unfolding first_items
  known item k n l few bad =
      let (rest, e) = further item (suc k) (n - suc k) in
      let all : suc k + (n - suc k) ≡ n = omega arith in
      let split : first_items item n ≡ first_items item (suc k) ++ rest = ap (first_items item) (sym all) ∙ e in
      ap (answer_of lengths) split
      ∙ refused-more lengths rest (first_items item (suc k)) (omega (arith, ap length split, length-first item n)) (stops item k bad)

  module _ (a b : ℕ → Item) where
    answers_agree : (n : ℕ) → n ≤ event_limit → Following a b n
        → answer_of lengths (first_items b n) ≡ answer_of lengths (first_items a n)
    answers_agree n few follows = by_way (alike a b n follows)
      where
        by_way : Alike a b n → answer_of lengths (first_items b n) ≡ answer_of lengths (first_items a n)
        by_way (same e d) = ap (answer_of lengths) e
        by_way (up_to k l e d q h) =
            known b k n l few (ap is_decoded q ∙ h) ∙ ap (answer_of lengths) (one-more-same a b k e q) ∙ sym (known a k n l few h)

    -- and where they are accepted, they are the same
    same-accepted : (n : ℕ) → n ≤ event_limit → Following a b n
        → IsAccepted (answer_of lengths (first_items b n)) → first_items b n ≡ first_items a n
    same-accepted n few follows h = by_way (alike a b n follows)
      where
        by_way : Alike a b n → first_items b n ≡ first_items a n
        by_way (same e d) = e
        by_way (up_to k l e d q bad) = absurd (stops b k (ap is_decoded q ∙ bad) (rw (known b k n l few (ap is_decoded q ∙ bad)) at h))

-- ---- so the beginning of a file has the file's answer
module _ (f : List ℕ) (k : ℕ) (long : enough event_limit ≤ k) where
  module _ (header : Header) (e : shape_of event_limit f (length f) ≡ Ok header) where
    pub beginning_judged :
        answer_of (lengths_in header) (first_items (held_item_in (take k f)) header.events)
        ≡ answer_of (lengths_in header) (first_items (item_in f) header.events)
    beginning_judged =
        answers_agree (lengths_in header) (item_in f) (held_item_in (take k f)) header.events
        (counted event_limit (length f) f header e).1
        (items-there event_limit k f header long e)

    -- and, where it is accepted, the file's items
    pub beginning_items : IsAccepted (answer_of (lengths_in header) (first_items (held_item_in (take k f)) header.events))
        → first_items (held_item_in (take k f)) header.events ≡ first_items (item_in f) header.events
    beginning_items =
        same-accepted (lengths_in header) (item_in f) (held_item_in (take k f)) header.events
        (counted event_limit (length f) f header e).1
        (items-there event_limit k f header long e)

  pub beginning_answers_lem : answer_of_beginning (take k f) (length f) ≡ answer_of_file f
  unfolding answer_of_beginning answer_of_file held_of file_of
  beginning_answers_lem =
      ap (λ s. answer_of_contents (held_contents (take k f) s)) (shape_decided event_limit k f long)
      ∙ by_shape (shape_of event_limit f (length f)) refl
    where
      by_shape : (s : Shape) → shape_of event_limit f (length f) ≡ s
          → answer_of_contents (held_contents (take k f) s) ≡ answer_of_contents (contents_of f s)
      by_shape (Err answer) e = refl
      by_shape (Ok header) e = beginning_judged header e

-- and the whole file is a beginning of itself
pub whole-answers : (f : List ℕ) → answer_of_beginning f (length f) ≡ answer_of_file f
unfolding answer_of_beginning answer_of_file
whole-answers f = ap answer_of_contents (held_whole_lem event_limit f)

-- ---- what is told of a beginning
module _ (f : List ℕ) (total : ℕ) where
  pub told_contents : (contents : Contents) → held_of event_limit f total ≡ contents → answer_of_beginning f total ≡ answer_of_contents contents
  unfolding answer_of_beginning
  told_contents contents e = ap answer_of_contents e

  pub told : (a : Answer) → a ≡ answer_of_beginning f total
      → ((file : List ℕ) (held : ℕ) → enough event_limit ≤ held → f ≡ take held file → total ≡ length file
      → a ≡ answer_of_file file)
      × (a ≡ answer_of_beginning f total)
  told a e = (
    λ file held long begins whole. e ∙ ap₂ answer_of_beginning begins whole ∙ beginning_answers_lem file held long,
    e,
  )

-- ---- what a beginning says: the refusal of its shape, or no more items than the limit
pub data Says : Contents → Type 0 where
  shapeless : {a : Answer} → ¬ IsAccepted a → Fits a → Says (refused a)
  listed : {header : Header} {items : List Item} → length items ≤ event_limit → Says (recorded header items)

pub says : (f : List ℕ) (total : ℕ) → Says (held_of event_limit f total)
unfolding held_of fit fit_named
says f total = by_shape (shape_of event_limit f total) refl
  where
    by_shape : (s : Shape) → shape_of event_limit f total ≡ s → Says (held_contents f s)
    by_shape (Err answer) e =
        let refuses = of_shape (λ a. ¬ IsAccepted a) (λ h. omega (arith, h)) (λ h. omega (arith, h)) (λ h. omega (arith, h)) f total in
        let fits = of_shape Fits refl refl refl f total in
        shapeless (rw e at refuses) (rw e at fits)
    by_shape (Ok header) e =
        let few : length (first_items (held_item_in f) header.events) ≤ event_limit =
        rw (length-first (held_item_in f) header.events) (counted event_limit total f header e).1 in
        listed few

-- so a sheet can hold its answer
pub beginning_fits : (f : List ℕ) (total : ℕ) → Fits (answer_of_beginning f total)
unfolding answer_of_beginning
beginning_fits f total = by_says (says f total)
  where
    by_says : {contents : Contents} → Says contents → Fits (answer_of_contents contents)
    by_says (shapeless refuses fits) = fits
    by_says (listed {header = header} {items = items} few) = list_fits (lengths_in header) items
