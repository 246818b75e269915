-- A reader on a live port: what it has taken are the last bytes fed, and they begin with 21.
use mathlib.Core.Path.{◌≡◌, refl, ap, sym, ◌∙◌, subst}
use mathlib.Core.Bool.{Bool, true, false, cond}
use mathlib.Core.List.{List, [], ◌∷◌, ◌++◌, append_assoc}
use Prim.Native.Nat.{ℕ, ◌+◌, ◌-◌, ◌<◌}
use native.Mathlib.Omega.{arith}
use borrow.Author.Tests.{eqb-true, eqb-false, ltb-true, ltb-false, le-leb}
use lib.Dec.{eqb, ltb}
use lib.ListN.{length, drop, get_or, length-append, get_or-append}
use lib.Seq.{drop_at, get_or_at}
use Rattle.frame.specs.Frame.{header, opens, ends, dl}
use Rattle.frame.specs.Reader.{answer_to, taken_after, taken_by}
use Rattle.frame.specs.Meaning.{Means}
use Rattle.fields.specs.Fields.{is_frame}
use Rattle.lent.specs.Placed.{last_bytes}
use Rattle.frame.specs.declared.direction.Direction.{Direction}
use Rattle.frame.specs.declared.reader.ByteAnswer.{ByteAnswer}
use Rattle.frame.specs.declared.reader.ByteAnswer.TheVariants as answer
use Rattle.frame.proofs.Taken.{Stands, dl_more, taken_outside, taken_inside, taken_end, stands_by}
use Rattle.frame.proofs.Means.{means}
use Rattle.fields.proofs.Whole.{Whole, whole_is}
use Rattle.streams.specs.Stream.{reader_by}

-- what a reader has taken, seen in all that it was fed
pub record Held (fed taken : List ℕ) : Type 0 where
  pub front : List ℕ
  pub last : fed ≡ front ++ taken
  pub opened : 0 < length taken → get_or taken 0 0 ≡ opens

held_none : (fed : List ℕ) → Held fed []
held_none fed = record { front = fed; last = sym (mathlib.Core.List.append-nil fed); opened = λ h. absurd (omega arith) }

module _ (dir : Direction) (fed taken : List ℕ) (b : ℕ) (h : Held fed taken) where
  -- a byte that opens a frame, or is dropped
  held_opened : (t : Bool) → eqb b opens ≡ t → Held (fed ++ b ∷ []) (cond t (b ∷ []) [])
  held_opened true e = record { front = fed; last = refl; opened = λ s. eqb-true _ _ e }
  held_opened false e = held_none (fed ++ b ∷ [])

  held_inside : 0 < length taken → Held (fed ++ b ∷ []) (taken ++ b ∷ [])
  held_inside some = record {
    front = h.front;
    last = ap (λ (l : List ℕ). l ++ b ∷ []) h.last ∙ append_assoc h.front taken (b ∷ []);
    opened = λ s. get_or-append taken (b ∷ []) 0 0 some ∙ h.opened some;
  }

  held_after : Held (fed ++ b ∷ []) (taken_after dir taken b)
  held_after = go (eqb (length taken) 0) (ltb (length taken) (header dir + dl dir taken)) refl refl
    where
      on : {l : List ℕ} → taken_after dir taken b ≡ l → Held (fed ++ b ∷ []) l → Held (fed ++ b ∷ []) (taken_after dir taken b)
      on e k = subst (λ (l : List ℕ). Held (fed ++ b ∷ []) l) (sym e) k

      go : (t u : Bool) → eqb (length taken) 0 ≡ t → ltb (length taken) (header dir + dl dir taken) ≡ u → Held (fed ++ b ∷ []) (taken_after dir taken b)
      go true u e f = on (taken_outside dir taken b (eqb-true _ _ e)).1 (held_opened (eqb b opens) refl)
      go false true e f =
          let some : 0 < length taken = omega (arith, eqb-false (length taken) 0 e) in
          on (taken_inside dir taken b some (ltb-true _ _ f)).1 (held_inside some)
      go false false e f =
          on (taken_end dir taken b (omega (arith, eqb-false (length taken) 0 e)) (ltb-false _ _ f)).1 (held_opened (eqb b opens) refl)

held_by : (dir : Direction) (fed taken bs : List ℕ) → Held fed taken → Held (fed ++ bs) (taken_by dir taken bs)
unfolding reader_by
held_by dir fed taken [] h = subst (λ (l : List ℕ). Held l taken) (sym (mathlib.Core.List.append-nil fed)) h
held_by dir fed taken (b ∷ bs) h =
    subst (λ (l : List ℕ). Held l (taken_by dir (taken_after dir taken b) bs)) (append_assoc fed (b ∷ []) bs)
    (held_by dir (fed ++ b ∷ []) (taken_after dir taken b) bs (held_after dir fed taken b h))

-- the bytes taken and 0D at the end place are one whole frame
whole_taken : (dir : Direction) (taken : List ℕ) (b : ℕ) → 0 < length taken → get_or taken 0 0 ≡ opens → length taken ≡ header dir + dl dir taken → b ≡ ends
    → Whole dir (taken ++ b ∷ [])
whole_taken dir taken b some first full last =
    let long : length (taken ++ b ∷ []) ≡ length taken + 1 = length-append taken (b ∷ []) in
    let count : dl dir (taken ++ b ∷ []) ≡ dl dir taken = dl_more dir taken (b ∷ []) (omega arith) in
    record {
      first = get_or-append taken (b ∷ []) 0 0 some ∙ first;
      long = omega arith;
      last = get_or_at taken b [] 0 (length (taken ++ b ∷ []) - 1) (omega arith) ∙ last;
    }

-- where the answer is frame, the last bytes fed are one whole frame
pub live_frame : (dir : Direction) (stream : List ℕ) (b n : ℕ) → answer_to dir (taken_by dir [] stream) b ≡ answer.Frame n
    → is_frame dir (last_bytes (stream ++ b ∷ []) n) ≡ true
unfolding last_bytes
live_frame dir stream b n e =
    let taken = taken_by dir [] stream in
    let h = held_by dir [] [] stream (held_none []) in
    let m : Means dir taken b (answer.Frame n) = subst (λ (a : ByteAnswer). Means dir taken b a) e (means dir taken b) in
    let s : Stands dir taken = stands_by dir [] stream (omega arith) in
    let fed : stream ++ b ∷ [] ≡ h.front ++ (taken ++ b ∷ []) = ap (λ (l : List ℕ). l ++ b ∷ []) h.last ∙ append_assoc h.front taken (b ∷ []) in
    let few : length (taken ++ b ∷ []) ≡ length taken + 1 = length-append taken (b ∷ []) in
    let all : length (stream ++ b ∷ []) ≡ length h.front + length (taken ++ b ∷ []) = ap length fed ∙ length-append h.front (taken ++ b ∷ []) in
    let cut : drop (length (stream ++ b ∷ []) - n) (stream ++ b ∷ []) ≡ taken ++ b ∷ [] =
    ap (λ (l : List ℕ). drop (length (stream ++ b ∷ []) - n) l) fed ∙ drop_at h.front (taken ++ b ∷ []) (length (stream ++ b ∷ []) - n) (omega arith) in
    rw (le-leb n (length (stream ++ b ∷ [])) (omega arith), cut)
    (whole_is dir (taken ++ b ∷ []) (whole_taken dir taken b m.0.0 (h.opened m.0.0) (omega arith) m.1))
