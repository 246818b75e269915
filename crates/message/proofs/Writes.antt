-- A write after its checks: the raw write, with the rules of the message before it.
use mathlib.Core.Path.{◌≡◌, refl, ap, sym, ◌∙◌}
use mathlib.Core.Bool.{Bool, true, false}
use mathlib.Core.List.{List, [], ◌∷◌, ◌++◌}
use Prim.Native.Nat.{ℕ, ◌≤◌}
use native.Mathlib.Omega.{arith}
use lib.ListN.{length}
use Rattle.refusals.specs.Rule.{Rule, ruled}
use Rattle.lent.specs.Written.{no_room, write_answered, write_left}
use Rattle.frame.specs.Frame.{data_limit, frame_of}
use Rattle.lent.specs.Placed.{placed}
use Rattle.fields.specs.Raw.{raw_rules}
use Rattle.fields.proofs.Raws.{raw_short}
use Rattle.frame.specs.declared.direction.Direction.{Direction}
use Rattle.refusals.proofs.Ruled.{refuses, first_refused, ruled_append, refused_with, accepted_by}
use Rattle.row.specs.declared.profile.Profile.{Profile}
use Rattle.row.specs.declared.table.Row.{Row}
use Rattle.judging.specs.Judge.{has_length, value_refusal, row_judged}
use Rattle.message.specs.Content.{encoded_of, encoded_data, size_of, is_form}
use Rattle.message.specs.Message.{read_rules, read_of}
use Rattle.message.specs.Write.{form_rules, said_rules, said_in, said_data, write_rules, message_frame, fields_frame}
use Rattle.message.specs.declared.content.Content.{Content}
use Rattle.message.specs.declared.content.Encoded.{Encoded}
use Rattle.message.specs.declared.content.Encoded.TheVariants.{One, Two}
use Rattle.message.specs.declared.read.Message.{Message}
use Rattle.message.proofs.Trip.{passed_message, read_passes, was_read}
use Rattle.message.proofs.Written.{form_judged, form_goes}
use Rattle.judging.proofs.Judges.{Lies, lies_goes, judged_lies, row_refused}
use Rattle.std.specs.Prelude.{Err, None, Ok, Option, Result, Some}
use Rattle.refusals.specs.declared.refusal.Refusal.{Refusal}
use Rattle.refusals.specs.declared.refusal.Refusal.TheVariants.{WrongLength}

-- rules that refuse, or pass, before the rest
module _ (ls ms : List Rule) (buf : List ℕ) (at : ℕ) (bytes : List ℕ) where
  abbrev rest : List Rule
  rest = ms ++ no_room buf at (length bytes) ∷ []

  pub refused_first : (e : Refusal) → refuses ls ≡ true → first_refused ls ≡ e
      → (ruled (ls ++ rest) Err (Ok (length bytes)) ≡ Err e) × (ruled (ls ++ rest) (λ m. buf) (placed buf at bytes) ≡ buf)
  refused_first e t f = (
    ruled_append ls rest Err _ ∙ refused_with ls Err _ e t f,
    ruled_append ls rest (λ m. buf) _ ∙ refused_with ls (λ m. buf) _ e t f,
  )

  pub accepted_first : refuses ls ≡ false
      → (ruled (ls ++ rest) Err (Ok (length bytes)) ≡ write_answered ms buf at bytes) × (ruled (ls ++ rest) (λ m. buf) (placed buf at bytes) ≡ write_left ms buf at bytes)
  unfolding write_answered write_left
  accepted_first t = (
    ruled_append ls rest Err _ ∙ accepted_by ls Err _ t,
    ruled_append ls rest (λ m. buf) _ ∙ accepted_by ls (λ m. buf) _ t,
  )

-- one or two bytes of data
pub data_short : (e : Option Encoded) → length (encoded_data e) ≤ data_limit
data_short (Some (One b)) = omega arith
data_short (Some (Two b c)) = omega arith
data_short None = omega arith

-- what a command or a status says, judged zone and row first
module _ (profile : Profile) (dir : Direction) (buf : List ℕ) (at zone command : ℕ) (content : Content) (bytes : List ℕ) where
  abbrev said_rules_lem : List Rule
  said_rules_lem = said_rules profile dir zone command content

  abbrev room : List Rule
  room = no_room buf at (length bytes) ∷ []

  pub said_refused : (n : Refusal) → row_judged profile zone command ≡ Err n → write_answered said_rules_lem buf at bytes ≡ Err n
  unfolding write_answered
  said_refused n e = ruled_append said_rules_lem room Err _ ∙ row_refused profile zone command n e (form_rules dir content) Err _

  pub said_refused_left : (n : Refusal) → row_judged profile zone command ≡ Err n → write_left said_rules_lem buf at bytes ≡ buf
  unfolding write_left
  said_refused_left n e = ruled_append said_rules_lem room (λ m. buf) _ ∙ row_refused profile zone command n e (form_rules dir content) (λ m. buf) _

  -- then by its length and its form
  pub said_legal : (row : Row) → Lies profile zone command row
      → (write_answered said_rules_lem buf at bytes ≡ form_judged dir row content Err (write_answered [] buf at bytes)) × (write_left said_rules_lem buf at bytes ≡ form_judged dir row content (λ n. buf) (write_left [] buf at bytes))
  unfolding write_answered write_left
  said_legal row l = (
    ruled_append said_rules_lem room Err _ ∙ lies_goes profile zone command row l (form_rules dir content) Err _ ∙ form_goes dir row content Err _,
    ruled_append said_rules_lem room (λ m. buf) _ ∙ lies_goes profile zone command row l (form_rules dir content) (λ m. buf) _ ∙ form_goes dir row content (λ m. buf) _,
  )

-- fields and data that are read first
module _ (profile : Profile) (dir : Direction) (buf : List ℕ) (at zone command ac : ℕ) (body : List ℕ) where
  abbrev rules : List Rule
  rules = read_rules profile dir zone command ac body

  abbrev bytes : List ℕ
  bytes = fields_frame profile dir zone command ac body

  abbrev nine : List Rule
  nine = no_room buf at (length bytes) ∷ []

  refused_both : (n : Refusal) → read_of profile dir zone command ac body ≡ Err n
      → (write_answered rules buf at bytes ≡ Err n) × (write_left rules buf at bytes ≡ buf)
  unfolding read_of write_answered write_left
  refused_both n e = go (refuses rules) refl
    where
      same : ◌≡◌ {A = Result Message Refusal} (Err (first_refused rules)) (Err n) → first_refused rules ≡ n
      same f = cc

      go : (t : Bool) → refuses rules ≡ t
          → (ruled (rules ++ nine) Err (Ok (length bytes)) ≡ Err n) × (ruled (rules ++ nine) (λ k. buf) (placed buf at bytes) ≡ buf)
      go true t = refused_first rules [] buf at bytes n t (same (sym (refused_with rules Err _ (first_refused rules) t refl) ∙ e))
      go false t = let p = passed_message profile dir zone command ac body t in let f : Ok p.0 ≡ Err n = sym p.1 ∙ e in cc

  pub fields_refused : (n : Refusal) → read_of profile dir zone command ac body ≡ Err n → write_answered rules buf at bytes ≡ Err n
  fields_refused n e = (refused_both n e).0

  pub fields_refused_left : (n : Refusal) → read_of profile dir zone command ac body ≡ Err n → write_left rules buf at bytes ≡ buf
  fields_refused_left n e = (refused_both n e).1

  -- they are written as the message that they are
  message_both : (m : Message) → read_of profile dir zone command ac body ≡ Ok m
      → (write_answered (write_rules profile m body) buf at (message_frame profile m body) ≡ write_answered rules buf at bytes)
      × (write_left (write_rules profile m body) buf at (message_frame profile m body) ≡ write_left rules buf at bytes)
  unfolding write_answered write_left
  message_both m e =
      let a = was_read profile dir zone command ac body m e in
      let r = accepted_first rules [] buf at bytes (read_passes profile dir zone command ac body m e).0 in
      let w = accepted_first (write_rules profile m body) [] buf at bytes a.rules in (
        ap (write_answered (write_rules profile m body) buf at) a.frame ∙ w.0 ∙ sym r.0,
        ap (write_left (write_rules profile m body) buf at) a.frame ∙ w.1 ∙ sym r.1,
      )

  pub fields_message : (m : Message) → read_of profile dir zone command ac body ≡ Ok m
      → write_answered (write_rules profile m body) buf at (message_frame profile m body) ≡ write_answered rules buf at bytes
  fields_message m e = (message_both m e).0

  pub fields_message_left : (m : Message) → read_of profile dir zone command ac body ≡ Ok m
      → write_left (write_rules profile m body) buf at (message_frame profile m body) ≡ write_left rules buf at bytes
  fields_message_left m e = (message_both m e).1

-- the three ends of a write that zone and row allow
module _ (profile : Profile) (dir : Direction) (buf : List ℕ) (at zone command : ℕ) (content : Content) (row : Row) (e : row_judged profile zone command ≡ Ok row) where
  abbrev message : List ℕ
  message = frame_of dir zone command 0 (said_data profile command content)

  lies : Lies profile zone command row
  lies = judged_lies profile zone command row e

  abbrev checks : List Rule
  checks = said_rules profile dir zone command content

  abbrev load : List ℕ
  load = encoded_data (encoded_of row content)

  legal : (write_answered checks buf at message ≡ form_judged dir row content Err (write_answered [] buf at message))
      × (write_left checks buf at message ≡ form_judged dir row content (λ n. buf) (write_left [] buf at message))
  legal = said_legal profile dir buf at zone command content message row lies

  same : frame_of dir zone command 0 load ≡ message
  same = ap (λ (f : Option Row). frame_of dir zone command 0 (said_in f content)) (sym lies.there)

  raw : (write_answered (raw_rules load) buf at (frame_of dir zone command 0 load) ≡ write_answered [] buf at (frame_of dir zone command 0 load))
      × (write_left (raw_rules load) buf at (frame_of dir zone command 0 load) ≡ write_left [] buf at (frame_of dir zone command 0 load))
  raw = raw_short buf at load (frame_of dir zone command 0 load) (data_short (encoded_of row content))

  pub said_length : has_length dir row (size_of content) ≡ false → write_answered checks buf at message ≡ Err WrongLength
  said_length wrong = legal.0 ∙ rw wrong

  pub said_length_left : has_length dir row (size_of content) ≡ false → write_left checks buf at message ≡ buf
  said_length_left wrong = legal.1 ∙ rw wrong

  module _ (long : has_length dir row (size_of content) ≡ true) where
    pub said_form : is_form dir row content ≡ false → write_answered checks buf at message ≡ Err (value_refusal dir row load)
    said_form wrong = legal.0 ∙ rw (long, wrong)

    pub said_form_left : is_form dir row content ≡ false → write_left checks buf at message ≡ buf
    said_form_left wrong = legal.1 ∙ rw (long, wrong)

    pub said_good : is_form dir row content ≡ true → write_answered (raw_rules load) buf at (frame_of dir zone command 0 load) ≡ write_answered checks buf at message
    said_good form = raw.0 ∙ ap (write_answered [] buf at) same ∙ sym (legal.0 ∙ rw (long, form))

    pub said_good_left : is_form dir row content ≡ true → write_left (raw_rules load) buf at (frame_of dir zone command 0 load) ≡ write_left checks buf at message
    said_good_left form = raw.1 ∙ ap (write_left [] buf at) same ∙ sym (legal.1 ∙ rw (long, form))
