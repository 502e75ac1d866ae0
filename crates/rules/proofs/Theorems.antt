-- The theorems of specs/Theorems.antt.
-- Assumes nothing.
use mathlib.Core.Path.{sym, ◌∙◌}
use mathlib.Core.List.{◌∷◌}
use lib.ListN.{length}
use Rattle.answer.proofs.Given.{fits-given}
use Rattle.rules.specs.Answers.{answer_of, lengths_in, answer_of_file}
use Rattle.rules.specs.Theorems.{SomeOrder, EitherWayWhileOpen, ClashUpTo, RangeByBytes, RightAnswer, OneRightAnswer, RightAnswerOfFile, GivenAnswer, Exactly, AcceptedFile, FirstFault, PeakIsLargest, SameBytes, SameBytesInFiles, MoreWaiting, MoreWaitingInFiles, MoreRecording, MoreRecordingInFiles}
use Rattle.rules.proofs.Orders.{has-order}
use Rattle.rules.proofs.Clashes.{moments-free}
use Rattle.rules.proofs.Prefix.{clash_up_to_lem}
use Rattle.rules.proofs.Peak.{peak_most, peak_largest, peak-reached}
use Rattle.rules.proofs.Range.{in_range_means}
use Rattle.rules.proofs.Accepted.{refused-more}
use Rattle.rules.proofs.Right.{answer_right, right_is_answer}
use Rattle.rules.proofs.Lists.{exact, shorter, fault-after, same_bytes_lem, still-accepted, still_the_same, still-refused}
use Rattle.rules.proofs.Files.{answer-refused, answer-recorded, list_fits, file-fits, accepted-file, same-bytes-file, still-accepted-file, still_the_same_file, still-refused-file}

pub some_order : SomeOrder
unfolding SomeOrder
some_order = has-order

pub either_way_while_open : EitherWayWhileOpen
unfolding EitherWayWhileOpen
either_way_while_open es i j x y = moments-free es i j

pub clash_up_to : ClashUpTo
unfolding ClashUpTo
clash_up_to = clash_up_to_lem

pub range_by_bytes : RangeByBytes
unfolding RangeByBytes
range_by_bytes = in_range_means

pub right_answer : RightAnswer
unfolding RightAnswer
right_answer lengths items a = (λ r. sym (right_is_answer lengths r), λ e. rw e (answer_right lengths items))

pub one_right_answer : OneRightAnswer
unfolding OneRightAnswer
one_right_answer lengths items a b r s = sym (right_is_answer lengths r) ∙ right_is_answer lengths s

pub right_answer_of_file : RightAnswerOfFile
unfolding RightAnswerOfFile
right_answer_of_file f = (
  answer-refused f,
  λ header items e. rw (answer-recorded f header items e) (answer_right (lengths_in header) items),
)

pub given_answer : GivenAnswer
unfolding GivenAnswer
given_answer = (
  λ lengths items. fits-given (answer_of lengths items) (list_fits lengths items),
  λ f. fits-given (answer_of_file f) (file-fits f),
)

pub exactly : Exactly
unfolding Exactly
exactly lengths es ok = (exact lengths es ok, λ k. exact lengths _ (shorter lengths es k ok))

pub accepted_file : AcceptedFile
unfolding AcceptedFile
accepted_file = accepted-file

pub first_fault : FirstFault
unfolding FirstFault
first_fault lengths before bad more fault w q = (
  fault-after lengths bad more fault before w q,
  refused-more lengths (bad ∷ more) before w.events,
)

pub peak_is_largest : PeakIsLargest
unfolding PeakIsLargest
peak_is_largest es = (λ k l. peak_largest es (length es) k l, peak-reached es (length es), peak_most es (length es))

pub same_bytes : SameBytes
unfolding SameBytes
same_bytes = same_bytes_lem

pub same_bytes_in_files : SameBytesInFiles
unfolding SameBytesInFiles
same_bytes_in_files = same-bytes-file

pub more_waiting : MoreWaiting
unfolding MoreWaiting
more_waiting lengths es es' r n h = (still-accepted lengths r n h, still_the_same lengths r n h)

pub more_waiting_in_files : MoreWaitingInFiles
unfolding MoreWaitingInFiles
more_waiting_in_files f f' lengths es es' holds holds' r h = (
  still-accepted-file f f' lengths es es' holds holds' r h,
  still_the_same_file f f' lengths es es' holds holds' r h,
)

pub more_recording : MoreRecording
unfolding MoreRecording
more_recording = still-refused

pub more_recording_in_files : MoreRecordingInFiles
unfolding MoreRecordingInFiles
more_recording_in_files = still-refused-file
