-- What an answer makes known at one look-up of its row is what feeding it makes of a tracker.
use mathlib.Core.Path.{◌≡◌, refl, ap, sym, ◌∙◌}
use mathlib.Core.Bool.{Bool, true, false, cond, not}
use mathlib.Core.List.{List, [], ◌∷◌, map}
use Prim.Native.Nat.{ℕ}
use native.Mathlib.Omega.{arith}
use borrow.Author.Tests.{eqb-true}
use lib.Dec.{eqb}
use lib.ListN.{length, get_or}
use Rattle.lent.specs.Placed.{bytes_at}
use Rattle.frame.specs.declared.direction.Direction.TheVariants.{Answer}
use Rattle.frame.specs.declared.capture.Kind.{Kind}
use Rattle.frame.specs.declared.capture.Kind.TheVariants as kind
use Rattle.frame.specs.declared.capture.Event.{Event}
use Rattle.fields.specs.Fields.{fields_of, data_of}
use Rattle.fields.specs.Raw.{too_long}
use Rattle.row.specs.MinusZero.{normal}
use Rattle.row.specs.declared.profile.Profile.{Profile}
use Rattle.row.specs.declared.table.Row.{Row}
use Rattle.judging.specs.Judge.{is_answer, has_length, row_judged, judged_of}
use Rattle.judging.proofs.Judges.{judge_refused, judge_legal}
use Rattle.message.specs.Content.{content_of}
use Rattle.message.specs.Message.{is_denial, denial, read_of}
use Rattle.message.specs.Computed.{denied_read, message_saying, said_by}
use Rattle.message.specs.declared.read.Message.TheVariants as message
use Rattle.message.proofs.Forms.{form_promise}
use Rattle.message.proofs.Readings.{message_legal, message_refused, read_other, read_saying}
use Rattle.tracker.specs.Cell.{cell_of}
use Rattle.tracker.specs.Feed.{first_byte, made_known, told, answer_fed, answers_fed}
use Rattle.tracker.specs.Capture.{brought_with, brought_as, brought_at}
use Rattle.tracker.specs.Computed.{told_in, told_by, told_with, told_as, told_at, with_told, Inside}
use Rattle.tracker.specs.declared.tracker.Tracker.{Tracker}
use Rattle.tracker.proofs.Cells.{stands, within}
use Rattle.tracker.proofs.Feeds.{with_byte, made}
use Rattle.std.specs.Prelude.{Err, None, Ok, Option, Result, Some}
use Rattle.refusals.specs.declared.refusal.Refusal.{Refusal}
use Rattle.refusals.specs.declared.refusal.Refusal.TheVariants.{WrongAnswer, WrongLength, WrongValue}
use Rattle.fields.specs.declared.fields.Fields.{Fields}

-- a denied answer and one of another code change nothing
denied_same : (t : Tracker) (zone command ac : ℕ) (body : List ℕ) → told t (denied_read zone command ac body) ≡ t
denied_same t zone command ac body = go (not (is_denial ac)) (too_long body).applies
  where
    go : (d l : Bool) → told t (cond d (Err WrongAnswer) (cond l (Err WrongLength) (Ok (message.Denied (denial zone command ac))))) ≡ t
    go true l = refl
    go false true = refl
    go false false = refl

first_mapped : (f : ℕ → ℕ) (body : List ℕ) → length body ≡ 1 → get_or (map f body) 0 0 ≡ f (get_or body 0 0)
first_mapped f [] e = absurd (omega (arith, e))
first_mapped f (b ∷ bs) e = refl

module _ (t : Tracker) (zone command : ℕ) (body : List ℕ) where
  -- what a judgement of an accepted answer makes of a tracker
  abbrev answered : Result Row Refusal → Tracker
  answered (Ok row) = made_known t zone (row_judged t.profile zone command) (content_of Answer row body)
  answered (Err n) = t

  accepted : (ac : ℕ) → eqb ac 0x00 ≡ true → (j : Result Row Refusal) → judged_of t.profile Answer zone command body ≡ j
      → told t (read_of t.profile Answer zone command ac body) ≡ answered j
  accepted ac z (Ok row) e =
      ap (told t) (read_saying t.profile zone command ac body Answer (ap not z) ∙ message_legal t.profile Answer zone command body (message_saying Answer) row e)
  accepted ac z (Err n) e =
      ap (told t) (read_saying t.profile zone command ac body Answer (ap not z) ∙ message_refused t.profile Answer zone command body (message_saying Answer) n (ap (said_by Answer zone command body) e))

  -- the byte that is kept is the one that the message would be written as
  kept_byte_lem : (row : Row) → row_judged t.profile zone command ≡ Ok row → length body ≡ 1 → row.pair ≡ false → is_answer row (get_or body 0 0) ≡ true
      → first_byte row (content_of Answer row body) ≡ normal row (get_or body 0 0)
  kept_byte_lem row e one p v =
      ap (λ (l : List ℕ). get_or l 0 0) (form_promise.read t.profile command row Answer body (stands t.profile zone command row e).there (rw (one, p, v))).1
      ∙ first_mapped (normal row) body one

  pair_same : (row : Row) → row_judged t.profile zone command ≡ Ok row → row.pair ≡ true → (j : Result Row Refusal) → answered j ≡ t
  pair_same row e p (Ok r) = rw (e, p)
  pair_same row e p (Err n) = refl

  -- an accepted answer in its row: whether it is a row of pairs, the data are one byte, and the row has it as an answer
  tells_row : (ac : ℕ) → eqb ac 0x00 ≡ true → (row : Row) → row_judged t.profile zone command ≡ Ok row
      → (p l v : Bool) → row.pair ≡ p → eqb (length body) 1 ≡ l → is_answer row (get_or body 0 0) ≡ v
      → with_told t (cond l (cond p None (cond v (Some (cell_of row zone, normal row (get_or body 0 0))) None)) None) ≡ told t (read_of t.profile Answer zone command ac body)
  tells_row ac z row e true true v p l w = sym (accepted ac z _ refl ∙ pair_same row e p (judged_of t.profile Answer zone command body))
  tells_row ac z row e true false v p l w = sym (accepted ac z _ refl ∙ pair_same row e p (judged_of t.profile Answer zone command body))
  tells_row ac z row e false true true p l w =
      let one : length body ≡ 1 = eqb-true (length body) 1 l in
      sym (accepted ac z (Ok row) (judge_legal t.profile Answer zone command body row e ∙ rw (one, p, w))
      ∙ ap (λ (j : Result Row Refusal). made_known t zone j (content_of Answer row body)) e
      ∙ made t zone row (content_of Answer row body) p
      ∙ ap (with_byte t (cell_of row zone)) (kept_byte_lem row e one p w))
  tells_row ac z row e false true false p l w =
      let one : length body ≡ 1 = eqb-true (length body) 1 l in
      sym (accepted ac z (Err WrongValue) (judge_legal t.profile Answer zone command body row e ∙ rw (one, p, w)))
  tells_row ac z row e false false v p l w =
      let none : has_length Answer row (length body) ≡ false = rw (p, l) (elim (eqb (length body) 2) as (λ two. cond two false false ≡ false) [ true ↦ refl | false ↦ refl ]) in
      sym (accepted ac z (Err WrongLength) (judge_legal t.profile Answer zone command body row e ∙ rw none))

  tells_accepted : (ac : ℕ) → eqb ac 0x00 ≡ true → (j : Result Row Refusal) → row_judged t.profile zone command ≡ j
      → with_told t (cond (eqb (length body) 1) (told_in j zone (get_or body 0 0)) None) ≡ told t (read_of t.profile Answer zone command ac body)
  tells_accepted ac z (Ok row) e = tells_row ac z row e row.pair (eqb (length body) 1) (is_answer row (get_or body 0 0)) refl refl refl
  tells_accepted ac z (Err n) e =
      elim (eqb (length body) 1) as (λ one. with_told t (cond one None None) ≡ t) [ true ↦ refl | false ↦ refl ]
      ∙ sym (accepted ac z (Err n) (judge_refused t.profile Answer zone command body n e))

pub tells : (t : Tracker) (zone command ac : ℕ) (body : List ℕ) → with_told t (told_by t.profile zone command ac body) ≡ (answer_fed t zone command ac body).tracker
tells t zone command ac body = go (eqb ac 0x00) refl
  where
    go : (z : Bool) → eqb ac 0x00 ≡ z
        → with_told t (cond z (cond (eqb (length body) 1) (told_in (row_judged t.profile zone command) zone (get_or body 0 0)) None) None) ≡ told t (read_of t.profile Answer zone command ac body)
    go true z = tells_accepted t zone command body ac z (row_judged t.profile zone command) refl
    go false z = sym (ap (told t) (read_other t.profile zone command ac body Answer (ap not z)) ∙ denied_same t zone command ac body)

-- and so is what an event of a capture does
module _ (t : Tracker) where
  tells_with : (f : Option Fields) (body : List ℕ) → with_told t (told_with t.profile f body) ≡ answers_fed t (brought_with f body)
  unfolding answers_fed
  tells_with (Some f) body = tells t f.zone f.command f.answer body
  tells_with None body = refl

  tells_as : (k : Kind) (bytes : List ℕ) → with_told t (told_as t.profile k bytes) ≡ answers_fed t (brought_as k bytes)
  unfolding answers_fed
  tells_as kind.Frame bytes = tells_with (fields_of Answer bytes) (data_of Answer bytes)
  tells_as kind.Broken bytes = refl
  tells_as kind.Noise bytes = refl
  tells_as kind.Pending bytes = refl

  pub tells_at : (capture : List ℕ) (e : Event) → with_told t (told_at t.profile capture e) ≡ answers_fed t (brought_at capture e)
  tells_at capture e = tells_as e.kind (bytes_at capture e.at e.length)

-- the cell is one of a tracker's
module _ (profile : Profile) where
  inside_in : (zone command b : ℕ) (j : Result Row Refusal) → row_judged profile zone command ≡ j → Inside (told_in j zone b)
  inside_in zone command b (Ok row) e =
      elim row.pair as (λ p. Inside (cond p None (cond (is_answer row b) (Some (cell_of row zone, normal row b)) None))) [
        | true ↦ tt
        | false ↦ elim (is_answer row b) as (λ v. Inside (cond v (Some (cell_of row zone, normal row b)) None)) [ true ↦ within profile zone command row e | false ↦ tt ]
      ]
  inside_in zone command b (Err n) e = tt

  pub inside : (zone command ac : ℕ) (body : List ℕ) → Inside (told_by profile zone command ac body)
  inside zone command ac body =
      let found = told_in (row_judged profile zone command) zone (get_or body 0 0) in
      elim (eqb ac 0x00) as (λ z. Inside (cond z (cond (eqb (length body) 1) found None) None)) [
        | true ↦ elim (eqb (length body) 1) as (λ l. Inside (cond l found None)) [ true ↦ inside_in zone command (get_or body 0 0) (row_judged profile zone command) refl | false ↦ tt ]
        | false ↦ tt
      ]

  inside_with : (f : Option Fields) (body : List ℕ) → Inside (told_with profile f body)
  inside_with (Some f) body = inside f.zone f.command f.answer body
  inside_with None body = tt

  inside_as : (k : Kind) (bytes : List ℕ) → Inside (told_as profile k bytes)
  inside_as kind.Frame bytes = inside_with (fields_of Answer bytes) (data_of Answer bytes)
  inside_as kind.Broken bytes = tt
  inside_as kind.Noise bytes = tt
  inside_as kind.Pending bytes = tt

  pub inside_at : (capture : List ℕ) (e : Event) → Inside (told_at profile capture e)
  inside_at capture e = inside_as e.kind (bytes_at capture e.at e.length)
