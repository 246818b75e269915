-- The answer to a byte is the one whose meaning holds.
use mathlib.Core.Path.{◌≡◌, refl, sym, ◌∙◌, subst}
use mathlib.Core.Bool.{Bool, true, false}
use mathlib.Core.List.{List, []}
use mathlib.Core.Logic.{◌⊎◌, inl, inr}
use Prim.Native.Nat.{ℕ, ◌+◌, ◌≤◌}
use native.Mathlib.Omega.{arith}
use borrow.Author.Tests.{eq-eqb, ne_eqb, eqb-true, eqb-false, ltb-true, ltb-false, lt-ltb, le-ltb}
use lib.Dec.{eqb, ltb}
use lib.ListN.{length}
use Rattle.frame.specs.Frame.{header, opens, ends, dl}
use Rattle.frame.specs.Reader.{answer_to}
use Rattle.frame.specs.KeptReader.{fed_at}
use Rattle.frame.specs.Meaning.{Outside, Inside, AtEndPlace, Means}
use Rattle.frame.specs.AnswerPromise.{AnswerPromise}
use Rattle.frame.specs.ReaderPromise.{ReaderPromise, SpoiltPromise}
use Rattle.frame.specs.declared.direction.Direction.{Direction}
use Rattle.frame.specs.declared.reader.ByteAnswer.{ByteAnswer}
use Rattle.frame.specs.declared.reader.ByteAnswer.TheVariants.{Waiting, Noise, Frame, Broken}
use Rattle.frame.proofs.Cases.{cases}
use Rattle.frame.proofs.Header.{header_least}
use Rattle.frame.proofs.Taken.{taken_outside, taken_inside, taken_end}
use Rattle.frame.proofs.Kept.{follows_all}

module _ (dir : Direction) (taken : List ℕ) (b : ℕ) where
  told : {a : ByteAnswer} → answer_to dir taken b ≡ a → Means dir taken b a → Means dir taken b (answer_to dir taken b)
  told e m = subst (λ (x : ByteAnswer). Means dir taken b x) (sym e) m

  means_outside : Outside taken → Means dir taken b (answer_to dir taken b)
  means_outside out =
      told (taken_outside dir taken b out).0
      (cases (Means dir taken b) (eqb b opens) (λ e. inl (out, eqb-true _ _ e)) (λ e. (out, eqb-false _ _ e)))

  means_inside : Inside dir taken → Means dir taken b (answer_to dir taken b)
  means_inside h = told (taken_inside dir taken b h.0 h.1).0 (inr h)

  means_end : AtEndPlace dir taken → Means dir taken b (answer_to dir taken b)
  means_end h =
      told (taken_end dir taken b h.0 h.1).0
      (cases (Means dir taken b) (eqb b ends)
      (λ e. (h, eqb-true _ _ e, refl))
      (λ e. cases (Means dir taken b) (eqb b opens)
      (λ f. (h, eqb-false _ _ e, inl (eqb-true _ _ f, refl)))
      (λ f. (h, eqb-false _ _ e, inr (eqb-false _ _ f, refl)))))

  pub means : Means dir taken b (answer_to dir taken b)
  means = go (eqb (length taken) 0) (ltb (length taken) (header dir + dl dir taken)) refl refl
    where
      go : (t u : Bool) → eqb (length taken) 0 ≡ t → ltb (length taken) (header dir + dl dir taken) ≡ u → Means dir taken b (answer_to dir taken b)
      go true u e f = means_outside (eqb-true _ _ e)
      go false true e f = means_inside (omega (arith, eqb-false (length taken) 0 e), ltb-true _ _ f)
      go false false e f = means_end (omega (arith, eqb-false (length taken) 0 e), ltb-false _ _ f)

  alone : (a : ByteAnswer) → Means dir taken b a → a ≡ answer_to dir taken b
  alone Waiting (inl m) = sym ((taken_outside dir taken b m.0).0 ∙ rw (eq-eqb b opens m.1))
  alone Waiting (inr m) = sym (taken_inside dir taken b m.0 m.1).0
  alone Noise m = sym ((taken_outside dir taken b m.0).0 ∙ rw (ne_eqb b opens m.1))
  alone (Frame n) m = sym ((taken_end dir taken b m.0.0 m.0.1).0 ∙ rw (eq-eqb b ends m.1, m.2))
  alone (Broken n) m = broken m.2
    where
      broken : ((b ≡ opens) × (n ≡ length taken)) ⊎ ((b ≡ opens → ⊥) × (n ≡ length taken + 1)) → Broken n ≡ answer_to dir taken b
      broken (inl k) = sym ((taken_end dir taken b m.0.0 m.0.1).0 ∙ rw (ne_eqb b ends m.1, eq-eqb b opens k.0, k.1))
      broken (inr k) = sym ((taken_end dir taken b m.0.0 m.0.1).0 ∙ rw (ne_eqb b ends m.1, ne_eqb b opens k.0, k.1))

pub answer_promise : AnswerPromise
answer_promise = record { given = means; alone = alone }

pub reader_promise : ReaderPromise
reader_promise = record {
  told = λ dir stream. (follows_all dir [] stream (omega arith)).0;
  stands = λ dir stream. (follows_all dir [] stream (omega arith)).1;
}

pub spoilt_promise : (dir : Direction) (place n b : ℕ) → SpoiltPromise dir place n b
unfolding fed_at
spoilt_promise dir place n b = record { past = past; early = λ h. rw (lt-ltb place (header dir) h) }
  where
    past : header dir + n ≤ place → fed_at dir (header dir) place n b ≡ fed_at dir (header dir) (header dir + n) n b
    past h =
        let some = header_least dir in
        rw (
          ne_eqb place 0 (λ e. absurd (omega (arith, h, some, e))),
          ne_eqb (header dir + n) 0 (λ e. absurd (omega (arith, some, e))),
          le-ltb place (header dir) (omega (arith, h)),
          le-ltb (header dir + n) (header dir) (omega arith),
          le-ltb place (header dir + n) h,
          le-ltb (header dir + n) (header dir + n) (omega arith),
        )
