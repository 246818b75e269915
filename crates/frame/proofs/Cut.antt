-- Parts of a stream, one after another, and the totals of the whole.
use mathlib.Core.Path.{◌≡◌, refl, ap, sym, ◌∙◌}
use mathlib.Core.List.{List, [], ◌∷◌, ◌++◌}
use Prim.Native.Nat.{ℕ, ◌+◌}
use native.Mathlib.Nat.{add-zero, zero-add}
use lib.Dec.{eqb}
use lib.ListN.{length, replicate}
use mathlib.Core.Bool.{cond}
use Rattle.frame.specs.Reader.{answers, taken_by}
use Rattle.frame.specs.KeptReader.{fresh_reader, next_reader, byte_answer, answers_of, reader_after}
use Rattle.frame.specs.Capture.{kind_number, settles, settled, labels, count, part_of}
use Rattle.frame.specs.PartPromise.{fed_in_parts, added_up, PartPromise}
use Rattle.lists.specs.InOrder.{joined, in_order}
use Rattle.streams.proofs.Cut.{answers_append, reader_append, cut_promise}
use Rattle.lists.proofs.InOrder.{in_order_append}
use Rattle.frame.specs.declared.direction.Direction.{Direction}
use Rattle.frame.specs.declared.reader.ByteAnswer.{ByteAnswer}
use Rattle.frame.specs.declared.reader.ByteAnswer.TheVariants as answer
use Rattle.frame.specs.declared.reader.Reader.{Reader}
use Rattle.frame.specs.declared.part.Part.{Part}
use Rattle.frame.specs.declared.capture.Kind.{Kind}
use Rattle.frame.specs.declared.capture.Kind.TheVariants.{Frame, Broken, Noise, Pending}
use Rattle.frame.proofs.Labels.{count_append, count_replicate}
use Rattle.frame.proofs.Means.{reader_promise}

settled_append : (as' bs : List ByteAnswer) → settled (as' ++ bs) ≡ settled as' ++ settled bs
settled_append as' bs = in_order_append settles as' bs

part_append : (r : Reader) (xs ys : List ℕ) → part_of r (xs ++ ys) ≡ added_up (part_of r xs) (part_of (reader_after r xs) ys)
part_append r xs ys = simp (reader_append next_reader, answers_append next_reader byte_answer, settled_append, count_append)

counted : (r : Reader) (parts : List (List ℕ)) → fed_in_parts r parts ≡ part_of r (joined parts)
unfolding in_order
counted r [] = refl
counted r (p ∷ ps) = ap (λ (q : Part). added_up (part_of r p) q) (counted (reader_after r p) ps) ∙ sym (part_append r p (joined ps))

-- nothing that is settled is pending
none_pending : (told : List ByteAnswer) → count Pending (settled told) ≡ 0
unfolding in_order count
none_pending [] = refl
none_pending (answer.Waiting ∷ rest) = none_pending rest
none_pending (answer.Noise ∷ rest) = rw (none_pending rest)
none_pending (answer.Frame n ∷ rest) = rw (count_append Pending (replicate n Frame) (settled rest), count_replicate Pending Frame n, none_pending rest)
none_pending (answer.Broken n ∷ rest) = rw (count_append Pending (replicate n Broken) (settled rest), count_replicate Pending Broken n, none_pending rest)

-- the labels of a kind: those that the reader settled, and the pending ones
labels_count : (k : Kind) (dir : Direction) (capture : List ℕ)
    → count k (labels dir capture) ≡ count k (settled (answers_of (fresh_reader dir) capture)) + cond (eqb (kind_number k) 3) (reader_after (fresh_reader dir) capture).place 0
unfolding labels
labels_count k dir capture =
    count_append k (settled (answers dir [] capture)) (replicate (length (taken_by dir [] capture)) Pending)
    ∙ rw (count_replicate k Pending (length (taken_by dir [] capture)), reader_promise.told dir capture, reader_promise.stands dir capture)

pub part_promise : PartPromise
part_promise = record {
  cut = cut_promise next_reader byte_answer;
  counted = counted;
  frame = λ dir capture. sym (labels_count Frame dir capture ∙ add-zero _);
  broken = λ dir capture. sym (labels_count Broken dir capture ∙ add-zero _);
  noise = λ dir capture. sym (labels_count Noise dir capture ∙ add-zero _);
  pending = λ dir capture. sym (labels_count Pending dir capture ∙ rw (none_pending (answers_of (fresh_reader dir) capture)) (zero-add _));
}
