-- From a judgement to what is said, to a message, to a frame's reading: a refusal is passed on unchanged.
use mathlib.Core.Path.{◌≡◌, refl, ap, sym, ◌∙◌}
use mathlib.Core.Bool.{Bool, true, false, cond, not, ◌||◌}
use mathlib.Core.List.{List, [], ◌∷◌}
use Prim.Native.Nat.{ℕ}
use borrow.Author.Tests.{eqb-true}
use lib.Dec.{eqb}
use Rattle.refusals.specs.Rule.{Rule, rule, ruled}
use Rattle.fields.specs.Raw.{too_long}
use Rattle.fields.specs.Fields.{is_frame, fields_in, data_in, fields_of, data_of}
use Rattle.frame.specs.declared.direction.Direction.{Direction}
use Rattle.frame.specs.declared.direction.Direction.TheVariants.{Command, Answer}
use Rattle.fields.specs.declared.fields.Fields.{Fields}
use Rattle.row.specs.Table.{row_of}
use Rattle.row.specs.declared.profile.Profile.{Profile}
use Rattle.row.specs.declared.table.Row.{Row}
use Rattle.judging.specs.Judge.{judge_rules, judged_by, judged_of}
use Rattle.message.specs.Message.{is_denial, said, denial, message_in, read_of, from_reading, frame_read, denied_in}
use Rattle.message.specs.Computed.{said_by, said_read, has_other_code, denied_read, message_saying, is_denied}
use Rattle.message.specs.declared.read.Said.{Said}
use Rattle.message.specs.declared.read.Message.{Message}
use Rattle.message.specs.declared.read.Message.TheVariants as message
use Rattle.std.specs.Prelude.{Err, None, Ok, Option, Result, Some}
use Rattle.refusals.specs.declared.refusal.Refusal.{Refusal}
use Rattle.refusals.specs.declared.refusal.Refusal.TheVariants.{WrongAnswer}

-- what is made of an answer by rules goes by the same rules
ruled_map : {A B : Type 0} (h : A → B) (rs : List Rule) (refuse : Refusal → A) (accepted : A) → h (ruled rs refuse accepted) ≡ ruled rs (λ n. h (refuse n)) (h accepted)
ruled_map h [] refuse accepted = refl
ruled_map {A} {B} h (r ∷ rs) refuse accepted = go r.applies (ruled_map h rs refuse accepted)
  where
    go : (t : Bool) → h (ruled rs refuse accepted) ≡ ruled rs (λ n. h (refuse n)) (h accepted)
        → h (cond t (refuse r.refusal) (ruled rs refuse accepted)) ≡ cond t (h (refuse r.refusal)) (ruled rs (λ n. h (refuse n)) (h accepted))
    go true rest = refl
    go false rest = rest

module _ (profile : Profile) (dir : Direction) (zone command : ℕ) (body : List ℕ) where
  -- a message of what is said, as it is judged
  module _ (form : Said → Message) where
    abbrev formed : Result Row Refusal → Result Message Refusal
    formed (Ok row) = Ok (form (said dir row zone command body))
    formed (Err n) = Err n

    abbrev reads : Result Message Refusal
    reads = ruled (judge_rules profile dir zone command body) Err (message_in (row_of profile command) (λ row. form (said dir row zone command body)))

    formed_by : (f : Option Row) → message_in f (λ row. form (said dir row zone command body)) ≡ formed (judged_by f)
    formed_by (Some row) = refl
    formed_by None = refl

    read_judged : reads ≡ formed (judged_of profile dir zone command body)
    unfolding judged_of
    read_judged =
        ap (λ (r : Result Message Refusal). ruled (judge_rules profile dir zone command body) Err r) (formed_by (row_of profile command))
        ∙ sym (ruled_map formed (judge_rules profile dir zone command body) Err (judged_by (row_of profile command)))

    pub message_legal : (row : Row) → judged_of profile dir zone command body ≡ Ok row → reads ≡ Ok (form (said dir row zone command body))
    message_legal row e = read_judged ∙ ap formed e

    pub message_refused : (n : Refusal) → said_read profile dir zone command body ≡ Err n → reads ≡ Err n
    message_refused n e = read_judged ∙ go (judged_of profile dir zone command body) e
      where
        go : (j : Result Row Refusal) → said_by dir zone command body j ≡ Err n → formed j ≡ Err n
        go (Ok row) f = cc
        go (Err k) f = cc

    pub message_said : (s : Said) → said_read profile dir zone command body ≡ Ok s → reads ≡ Ok (form s)
    message_said s e = read_judged ∙ go (judged_of profile dir zone command body) e
      where
        same : (x : Said) → ◌≡◌ {A = Result Said Refusal} (Ok x) (Ok s) → x ≡ s
        same x f = cc

        go : (j : Result Row Refusal) → said_by dir zone command body j ≡ Ok s → formed j ≡ Ok (form s)
        go (Ok row) f = ap (λ (x : Said). Ok (form x)) (same (said dir row zone command body) f)
        go (Err k) f = cc

-- an answer whose code is not 00 is denied, or refused with 5; every other message is read by what it says
module _ (profile : Profile) (zone command ac : ℕ) (body : List ℕ) where
  pub read_other : (dir : Direction) → has_other_code dir ac ≡ true → read_of profile dir zone command ac body ≡ denied_read zone command ac body
  unfolding read_of
  read_other Command e = cc
  read_other Answer e = go (eqb ac 0x00) (is_denial ac) e (message_in (row_of profile command) (λ row. message.Status (said Answer row zone command body)))
    where
      denied : Result Message Refusal
      denied = Ok (message.Denied (denial zone command ac))

      go : (zero denies : Bool) → not zero ≡ true → (other : Result Message Refusal)
          → ruled (rule WrongAnswer (not (zero || denies)) ∷ cond denies (too_long body ∷ []) (judge_rules profile Answer zone command body)) Err (cond denies denied other)
          ≡ ruled (rule WrongAnswer (not denies) ∷ too_long body ∷ []) Err denied
      go true denies f other = cc
      go false true f other = refl
      go false false f other = refl

  pub read_saying : (dir : Direction) → has_other_code dir ac ≡ false → read_of profile dir zone command ac body ≡ reads profile dir zone command body (message_saying dir)
  unfolding read_of
  read_saying Command e = refl
  read_saying Answer e = rw (zero_code (eqb ac 0x00) refl e)
    where
      zero_code : (t : Bool) → eqb ac 0x00 ≡ t → not t ≡ false → ac ≡ 0x00
      zero_code true f g = eqb-true ac 0x00 f
      zero_code false f g = cc

  -- so what is said, or its refusal, is read
  pub read_refused : (dir : Direction) (e : Refusal) → has_other_code dir ac ≡ false → said_read profile dir zone command body ≡ Err e
      → read_of profile dir zone command ac body ≡ Err e
  read_refused dir e f g = read_saying dir f ∙ message_refused profile dir zone command body (message_saying dir) e g

  pub read_says : (dir : Direction) (s : Said) → has_other_code dir ac ≡ false → said_read profile dir zone command body ≡ Ok s
      → read_of profile dir zone command ac body ≡ Ok (message_saying dir s)
  read_says dir s f g = read_saying dir f ∙ message_said profile dir zone command body (message_saying dir) s g

-- from the bytes of a frame
module _ (profile : Profile) (dir : Direction) (bytes : List ℕ) where
  pub frame_none : fields_of dir bytes ≡ None → frame_read profile dir bytes ≡ None
  unfolding frame_read
  frame_none e = go (is_frame dir bytes) e
    where
      go : (t : Bool) → cond t (Some (fields_in dir bytes)) None ≡ None
          → cond t (from_reading (read_of profile dir (fields_in dir bytes).zone (fields_in dir bytes).command (fields_in dir bytes).answer (data_in dir bytes))) None ≡ None
      go true f = cc
      go false f = refl

  pub frame_some : (f : Fields) → fields_of dir bytes ≡ Some f
      → frame_read profile dir bytes ≡ from_reading (read_of profile dir f.zone f.command f.answer (data_of dir bytes))
  unfolding frame_read
  frame_some f e = go (is_frame dir bytes) e
    where
      go : (t : Bool) → cond t (Some (fields_in dir bytes)) None ≡ Some f
          → cond t (from_reading (read_of profile dir (fields_in dir bytes).zone (fields_in dir bytes).command (fields_in dir bytes).answer (data_in dir bytes))) None
          ≡ from_reading (read_of profile dir f.zone f.command f.answer (cond t (data_in dir bytes) []))
      go true g =
          let same : fields_in dir bytes ≡ f = cc in
          ap (λ (x : Fields). from_reading (read_of profile dir x.zone x.command x.answer (data_in dir bytes))) same
      go false g = cc

-- a denied frame has its data, any other none
pub denied_some : (r : Option (Result Message Refusal)) (body : List ℕ) → is_denied r ≡ true → denied_in r body ≡ body
denied_some (Some (Ok (message.Command s))) body e = cc
denied_some (Some (Ok (message.Status s))) body e = cc
denied_some (Some (Ok (message.Denied d))) body e = refl
denied_some (Some (Err n)) body e = cc
denied_some None body e = cc

pub denied_none : (r : Option (Result Message Refusal)) (body : List ℕ) → is_denied r ≡ false → denied_in r body ≡ []
denied_none (Some (Ok (message.Command s))) body e = refl
denied_none (Some (Ok (message.Status s))) body e = refl
denied_none (Some (Ok (message.Denied d))) body e = cc
denied_none (Some (Err n)) body e = refl
denied_none None body e = refl
