-- The totals: counting labels is adding up events.
use mathlib.Core.Path.{◌≡◌, refl, ap, sym, ◌∙◌}
use mathlib.Core.List.{List, [], ◌∷◌, ◌++◌, append_assoc, append-nil}
use Prim.Native.Nat.{ℕ, zero, suc, ◌+◌, ◌-◌, ◌≤◌, ◌<◌}
use native.Mathlib.Nat.{add-zero, zero-add, add_assoc}
use native.Mathlib.Omega.{arith}
use borrow.Author.Tests.{ne_eqb}
use lib.ListN.{length, get_or, replicate}
use Rattle.frame.specs.Frame.{header, opens}
use Rattle.frame.specs.Reader.{answers, taken_by}
use Rattle.frame.specs.Capture.{settled, labels, count, totals_of, event, events_told, events_from, spread}
use Rattle.frame.specs.Numbers.{no_totals}
use Rattle.frame.specs.Computed.{stretch_at, with_event, with_noise}
use Rattle.frame.specs.declared.direction.Direction.{Direction}
use Rattle.frame.specs.declared.reader.ByteAnswer.{ByteAnswer}
use Rattle.frame.specs.declared.reader.ByteAnswer.TheVariants as answer
use Rattle.frame.specs.declared.capture.Kind.{Kind}
use Rattle.frame.specs.declared.capture.Kind.TheVariants.{Frame, Broken, Noise, Pending}
use Rattle.frame.specs.declared.capture.Event.{Event}
use Rattle.frame.specs.declared.capture.Totals.{Totals}
use Rattle.frame.proofs.Labels.{count_append, count_replicate}
use Rattle.frame.proofs.Events.{events_here, events_end}
use Rattle.lists.specs.InOrder.{in_order}

-- the labels of the events that answers tell are those that the answers settle, and the pending ones
spread_told : (at : ℕ) (told : List ByteAnswer) (left : ℕ) → spread (events_told at told left) ≡ settled told ++ replicate left Pending
unfolding in_order events_told
spread_told at [] zero = refl
spread_told at [] (suc n) = append-nil (replicate (suc n) Pending)
spread_told at (answer.Waiting ∷ rest) left = spread_told at rest left
spread_told at (answer.Noise ∷ rest) left = ap (λ (l : List Kind). Noise ∷ l) (spread_told (at + 1) rest left)
spread_told at (answer.Frame n ∷ rest) left =
    ap (λ (l : List Kind). replicate n Frame ++ l) (spread_told (at + n) rest left) ∙ sym (append_assoc (replicate n Frame) (settled rest) _)
spread_told at (answer.Broken n ∷ rest) left =
    ap (λ (l : List Kind). replicate n Broken ++ l) (spread_told (at + n) rest left) ∙ sym (append_assoc (replicate n Broken) (settled rest) _)

pub labels_spread : (dir : Direction) (capture : List ℕ) → labels dir capture ≡ spread (events_from dir capture 0)
unfolding labels events_from
labels_spread dir capture = sym (spread_told 0 (answers dir [] capture) (length (taken_by dir [] capture)))

-- totals with more events
unfoldable pub totals_from : Totals → List Event → Totals
totals_from t [] = t
totals_from t (e ∷ es) = totals_from (with_event t e.length e.kind) es

abbrev Counts : Totals → List Kind → Totals
Counts t ls = record {
  frame = t.frame + count Frame ls;
  broken = t.broken + count Broken ls;
  noise = t.noise + count Noise ls;
  pending = t.pending + count Pending ls;
}

event_adds : (t : Totals) (n : ℕ) (k : Kind) → with_event t n k ≡ Counts t (replicate n k)
event_adds t n Frame = simp (count_replicate, add-zero)
event_adds t n Broken = simp (count_replicate, add-zero)
event_adds t n Noise = simp (count_replicate, add-zero)
event_adds t n Pending = simp (count_replicate, add-zero)

events_add : (t : Totals) (es : List Event) → totals_from t es ≡ Counts t (spread es)
unfolding totals_from in_order count
events_add t [] = simp add-zero
events_add t (e ∷ es) =
    events_add (with_event t e.length e.kind) es
    ∙ ap (λ (u : Totals). Counts u (spread es)) (event_adds t e.length e.kind)
    ∙ simp (count_append, add_assoc)

pub totals_whole : (dir : Direction) (capture : List ℕ) → totals_from no_totals (events_from dir capture 0) ≡ totals_of dir capture
totals_whole dir capture = events_add no_totals (events_from dir capture 0) ∙ rw (← labels_spread dir capture) (simp zero-add)

-- one turn of the walk, over the header's length
pub totals_more : (dir : Direction) (head : ℕ) (capture : List ℕ) (at : ℕ) (t : Totals) → head ≡ header dir → at < length capture
    → totals_from t (events_from dir capture at)
    ≡ totals_from (with_event t (stretch_at head capture at).length (stretch_at head capture at).kind) (events_from dir capture (at + (stretch_at head capture at).length))
unfolding totals_from
totals_more dir head capture at t e within =
    ap (λ (es : List Event). totals_from t es) (events_here dir capture at within)
    ∙ ap (λ (h : ℕ). totals_from (with_event t (stretch_at h capture at).length (stretch_at h capture at).kind) (events_from dir capture (at + (stretch_at h capture at).length))) (sym e)

pub totals_end : (dir : Direction) (capture : List ℕ) (at : ℕ) (t : Totals) → length capture ≤ at → totals_from t (events_from dir capture at) ≡ t
unfolding totals_from
totals_end dir capture at t h = ap (λ (es : List Event). totals_from t es) (events_end dir capture at h)

abbrev pub sum : Totals → ℕ
sum t = t.frame + t.broken + t.noise + t.pending

pub sum_more : (t : Totals) (n : ℕ) (k : Kind) → sum (with_event t n k) ≡ sum t + n
sum_more t n Frame = omega arith
sum_more t n Broken = omega arith
sum_more t n Noise = omega arith
sum_more t n Pending = omega arith

-- totals with so much more noise
abbrev pub noisy : Totals → ℕ → Totals
noisy t n = record { frame = t.frame; broken = t.broken; noise = t.noise + n; pending = t.pending }

pub noisy_event : (t : Totals) (n count : ℕ) (k : Kind) → with_event (noisy t n) count k ≡ noisy (with_event t count k) n
noisy_event t n count Frame = refl
noisy_event t n count Broken = refl
noisy_event t n count Noise = let same : t.noise + n + count ≡ t.noise + count + n = omega arith in λ i. record { frame = t.frame; broken = t.broken; noise = same i; pending = t.pending }
noisy_event t n count Pending = refl

pub noisy_all : (t : Totals) (n count : ℕ) → sum (noisy t n) ≡ count → with_noise t count ≡ noisy t n
noisy_all t n count e =
    let same : count - t.frame - t.broken - t.pending ≡ t.noise + n = omega (arith, e) in
    λ i. record { frame = t.frame; broken = t.broken; noise = same i; pending = t.pending }

-- a byte that opens nothing is noise
pub noise_here : (head : ℕ) (capture : List ℕ) (at : ℕ) → (get_or capture at 0 ≡ opens → ⊥) → stretch_at head capture at ≡ event at 1 Noise
unfolding stretch_at
noise_here head capture at h = rw (ne_eqb (get_or capture at 0) opens h)
