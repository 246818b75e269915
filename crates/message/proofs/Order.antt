-- The first rule that applies gives its number; a message comes exactly when none applies. A refusal has no fields.
use mathlib.Core.Path.{◌≡◌, refl, ap, sym, ◌∙◌}
use mathlib.Core.List.{List}
use mathlib.Core.Logic.{◌⊎◌, inl, inr}
use Prim.Native.Nat.{ℕ}
use borrow.Author.Tests.{ne_eqb}
use Rattle.refusals.specs.Rule.{Rule}
use Rattle.fields.specs.Fields.{fields_in, data_of}
use Rattle.refusals.specs.RulePromise.{FirstApplies, NoneApplies}
use Rattle.frame.specs.declared.direction.Direction.{Direction}
use Rattle.refusals.proofs.Rules.{rule_promise}
use Rattle.lent.proofs.Writes.{write_promise}
use Rattle.judging.proofs.Order.{none_refuses}
use Rattle.row.specs.Profile.{profile_of}
use Rattle.row.specs.declared.profile.Profile.{Profile}
use Rattle.message.specs.Message.{read_rules, message_of, read_of, frame_read}
use Rattle.message.specs.Write.{write_rules, message_frame, fields_frame}
use Rattle.message.specs.Numbers.{reading_number, reading_paper, frame_number, frame_paper, zero_paper}
use Rattle.message.proofs.Trip.{paper_of_lem, passed_message, frame_brings}
use Rattle.message.specs.OrderPromise.{OrderPromise}
use Rattle.message.specs.MessageWritePromise.{MessageWritePromise}
use Rattle.message.specs.MessageRefusalPromise.{MessageRefusalPromise}
use Rattle.message.specs.declared.read.Message.{Message}
use Rattle.std.specs.Prelude.{Err, None, Ok, Option, Result, Some}
use Rattle.refusals.specs.declared.refusal.Refusal.{Refusal}

module _ (profile : Profile) (dir : Direction) (zone command ac : ℕ) (body : List ℕ) where
  abbrev rules : List Rule
  rules = read_rules profile dir zone command ac body

  refused : (n : Refusal) → FirstApplies rules n → read_of profile dir zone command ac body ≡ Err n
  unfolding read_of
  refused n w = rule_promise.refused rules n w Err (message_of profile dir zone command ac body)

  read : NoneApplies rules → (m : Message) × (read_of profile dir zone command ac body ≡ Ok m) × (message_of profile dir zone command ac body ≡ Ok m)
  read w = passed_message profile dir zone command ac body (none_refuses rules w)

  differ : {X : Type 0} (m : Message) (n : Refusal) → Ok m ≡ Err n → X
  differ m n e = cc

  applies : (n : Refusal) → read_of profile dir zone command ac body ≡ Err n → FirstApplies rules n
  applies n e = go (rule_promise.either rules)
    where
      same : (k : Refusal) → ◌≡◌ {A = Result Message Refusal} (Err k) (Err n) → k ≡ n
      same k f = cc

      go : ((k : Refusal) × FirstApplies rules k) ⊎ NoneApplies rules → FirstApplies rules n
      go (inl w) = let k : w.0 ≡ n = same w.0 (sym (refused w.0 w.1) ∙ e) in rw k at w.1
      go (inr w) = differ _ n (sym (read w).1 ∙ e)

  none : (m : Message) → read_of profile dir zone command ac body ≡ Ok m → NoneApplies rules
  none m e = go (rule_promise.either rules)
    where
      go : ((k : Refusal) × FirstApplies rules k) ⊎ NoneApplies rules → NoneApplies rules
      go (inl w) = differ m w.0 (sym e ∙ refused w.0 w.1)
      go (inr w) = w

  pub order_promise : OrderPromise profile dir zone command ac body
  order_promise = record { refused = refused; applies = applies; read = read; none = none }

pub message_write_promise : MessageWritePromise
message_write_promise = record {
  message = λ profile buf at m body. write_promise (write_rules profile m body) buf at (message_frame profile m body);
  fields = λ profile dir buf at zone command ac body. write_promise (read_rules profile dir zone command ac body) buf at (fields_frame profile dir zone command ac body);
}

-- what was refused has no fields
no_fields : (profile : Profile) (r : Result Message Refusal) (body : List ℕ) → (reading_number r ≡ 0 → ⊥) → reading_paper profile r body ≡ zero_paper
no_fields profile (Ok m) body e = absurd (e refl)
no_fields profile (Err n) body e = refl

no_frame_fields : (profile : Profile) (r : Option (Result Message Refusal)) (body : List ℕ) → (frame_number r ≡ 0 → ⊥) → frame_paper profile r body ≡ zero_paper
no_frame_fields profile (Some (Ok m)) body e = absurd (e refl)
no_frame_fields profile (Some (Err n)) body e = refl
no_frame_fields profile None body e = refl

pub refusal_promise : MessageRefusalPromise
unfolding profile_of
refusal_promise = record {
  letter = λ l a s. rw (ne_eqb l 0x41 a, ne_eqb l 0x53 s);
  named = (refl, refl);
  paper = λ profile dir zone command ac body m e.
      (ap reading_number e, ap (λ (r : Result Message Refusal). reading_paper profile r body) e ∙ paper_of_lem profile dir zone command ac body m e);
  paper_of_frame = λ profile dir bytes m e.
      let b = frame_brings profile dir bytes m e in
      (fields_in dir bytes, b.0, ap frame_number e, ap (λ (r : Option (Result Message Refusal)). frame_paper profile r (data_of dir bytes)) e ∙ b.1);
  frame_zero = λ profile dir bytes body. no_frame_fields profile (frame_read profile dir bytes) body;
  zero = λ profile dir zone command ac body. no_fields profile (read_of profile dir zone command ac body) body;
}
