-- A reader stops anywhere in a frame.
use mathlib.Core.Path.{◌≡◌, refl, ap, sym, ◌∙◌}
use mathlib.Core.List.{List, [], ◌∷◌, ◌++◌, append-nil}
use Prim.Native.Nat.{ℕ, zero, suc, ◌+◌, ◌≤◌, ◌<◌}
use native.Mathlib.Omega.{arith}
use lib.ListN.{length, take, length-append}
use lib.Dec.{lit<}
use lib.Seq.{length-take-le}
use Rattle.frame.specs.Frame.{header, opens, ends, frame_of}
use Rattle.frame.specs.Reader.{taken_by}
use Rattle.frame.specs.declared.direction.Direction.TheVariants.{Command}
use Rattle.lists.proofs.Each.{each_append, each_take}
use Rattle.frame.proofs.Taken.{Stands, fills, taken_outside}
use Rattle.unit.specs.StoppedPromise.{StoppedPromise}
use Rattle.streams.specs.Stream.{reader_by}

-- bytes behind a 21 that do not pass the end place are all taken
all_taken : (xs : List ℕ) → Stands Command (opens ∷ xs) → taken_by Command [] (opens ∷ xs) ≡ opens ∷ xs
unfolding reader_by
all_taken xs s =
    ap (λ (l : List ℕ). taken_by Command l xs) (taken_outside Command [] opens refl).1
    ∙ ap (λ (l : List ℕ). taken_by Command (opens ∷ []) l) (sym (append-nil xs))
    ∙ (fills Command (opens ∷ []) xs [] (omega arith) s).1

pub stopped_promise : StoppedPromise
unfolding frame_of reader_by
stopped_promise = record {
  anywhere = λ profile s. anywhere;
  bytes = λ zone command body n z c small few.
      each_take (λ (b : ℕ). b < 256) n _
      (lit< tt, (z, (c, (omega arith, each_append (λ (b : ℕ). b < 256) body (ends ∷ []) small (lit< tt, tt)))));
}
  where
    anywhere : (zone command : ℕ) (body : List ℕ) (n : ℕ) → n ≤ header Command + length body
        → taken_by Command [] (take n (frame_of Command zone command 0 body)) ≡ take n (frame_of Command zone command 0 body)
    anywhere zone command body zero h = refl
    anywhere zone command body (suc zero) h = all_taken [] (omega arith)
    anywhere zone command body (suc (suc zero)) h = all_taken (zone ∷ []) (omega arith)
    anywhere zone command body (suc (suc (suc zero))) h = all_taken (zone ∷ command ∷ []) (omega arith)
    anywhere zone command body (suc (suc (suc (suc n)))) h =
        all_taken (zone ∷ command ∷ length body ∷ take n (body ++ ends ∷ [])) (omega (arith, length-take-le n (body ++ ends ∷ []) (omega (arith, length-append body (ends ∷ [])))))
