-- A message that is written reads back as itself, and a frame that reads as a message is written back to the same bytes, but for minus
-- zero, for which the same frame with 00 is written.
use mathlib.Core.Path.{◌≡◌, refl, ap, sym, ◌∙◌, subst}
use mathlib.Core.Bool.{Bool, true, false, cond, not, ◌||◌, or-true}
use mathlib.Core.List.{List, [], ◌∷◌, map}
use mathlib.Core.Logic.{◌⊎◌, inl, inr}
use Prim.Native.Nat.{ℕ, ◌+◌, ◌≤◌}
use borrow.Author.Tests.{not-false, eqb-true}
use lib.Dec.{eqb}
use lib.IntN.{pos}
use lib.ListN.{length, length-map}
use Rattle.refusals.specs.Rule.{Rule}
use Rattle.frame.specs.Frame.{frame_length, frame_of}
use Rattle.frame.proofs.Header.{frame_length_lem}
use Rattle.lent.specs.Placed.{placed}
use Rattle.fields.specs.Raw.{too_long}
use Rattle.fields.specs.Fields.{is_frame, answer_in, fields_in, data_in, fields_of, data_of, answer_kept}
use Rattle.frame.specs.declared.direction.Direction.{Direction}
use Rattle.fields.specs.declared.fields.Fields.{Fields}
use Rattle.frame.specs.declared.direction.Direction.TheVariants.{Command, Answer}
use Rattle.refusals.proofs.Ruled.{refuses, was_accepted, accepted_by, or_false, pass_first, pass_both}
use Rattle.fields.proofs.Back.{frame_promise, placed_found, placed_bytes_lem}
use Rattle.fields.proofs.Again.{frame_again}
use Rattle.row.specs.MinusZero.{normal, normal_in}
use Rattle.row.specs.Table.{row_of}
use Rattle.row.specs.declared.profile.Profile.{Profile}
use Rattle.row.specs.declared.table.Row.{Row}
use Rattle.row.proofs.Turned.{minus_zero_promise}
use Rattle.judging.specs.Judge.{has_length, has_value, judge_rules}
use Rattle.judging.proofs.Judges.{lies_refuses, pass_row, judge_passes, passes_judge}
use Rattle.message.specs.Content as content
use Rattle.message.specs.Message.{is_denial, wrong_code, said, denial, read_rules, message_in, message_of, read_of, is_denying, data_read, denied_data, from_reading, frame_read}
use Rattle.message.specs.Write.{form_rules, said_rules, said_in, said_data, not_denied, message_direction, write_rules, message_frame, fields_frame}
use Rattle.lent.specs.Written.{write_answered, write_left}
use Rattle.lent.proofs.Writes.{write_promise, write_passed, write_fits}
use Rattle.message.specs.Numbers.{Paper, message_paper}
use Rattle.message.specs.MessagePromise.{ReadsAs, ReadsBack, FieldsAreMinusZero, BringsMinusZero, MessagePromise, zero_message, ZeroPromise, ZeroFramePromise}
use Rattle.message.specs.declared.content.Content.{Content}
use Rattle.message.specs.declared.content.Content.TheVariants.{Number}
use Rattle.message.specs.declared.read.Message.{Message}
use Rattle.message.specs.declared.read.Message.TheVariants as message
use Rattle.lists.proofs.Tests.{both}
use Rattle.message.proofs.Forms.{form_promise}
use Rattle.message.proofs.Written.{data_size, form_refuses}
use Rattle.message.proofs.Readings.{frame_some}
use Rattle.message.proofs.Says.{zero_content, zero_or_same}
use Rattle.message.proofs.Tidy.{row_tidy}
use Rattle.std.specs.Prelude.{Err, None, Ok, Option, Result, Some}
use Rattle.refusals.specs.declared.refusal.Refusal.{Refusal}

-- what is said in a row, and data that say it
record Sayable (profile : Profile) (dir : Direction) (zone command : ℕ) (c : Content) (body : List ℕ) : Type 0 where
  row : Row
  there : row_of profile command ≡ Some row
  judges : refuses (judge_rules profile dir zone command body) ≡ false
  says : refuses (said_rules profile dir zone command c) ≡ false
  means : content.content_of dir row body ≡ c

module _ (profile : Profile) (dir : Direction) (zone command : ℕ) where
  data_in_lem : (row : Row) (c : Content) → row_of profile command ≡ Some row → said_data profile command c ≡ content.encoded_data (content.encoded_of row c)
  data_in_lem row c e = ap (λ (f : Option Row). said_in f c) e

  -- what is said has data that are judged legal, and say it
  say_judge : (c : Content) → refuses (said_rules profile dir zone command c) ≡ false → Sayable profile dir zone command c (said_data profile command c)
  say_judge c e =
      let p = pass_row profile zone command (form_rules dir c) e in
      let form = (or_false (not (has_length dir p.row (content.size_of c))) (not (content.is_form dir p.row c)) (sym (form_refuses dir p.row c) ∙ p.rest)).1 in
      let there = p.lies.there in
      let w = form_promise.written profile command p.row dir c there (not-false _ form) in
      let same = data_in_lem p.row c there in
      let body = said_data profile command c in
      let (fits, value) = both (has_length dir p.row (length body)) (has_value dir p.row body) (rw same w.0) in
      record {
        row = p.row;
        there = there;
        judges = passes_judge profile dir zone command body p.row p.lies fits value;
        says = e;
        means = ap (content.content_of dir p.row) same ∙ w.2;
      }

  -- data that are judged legal say something whose data they are, but for minus zero
  judge_say : (body : List ℕ) → refuses (judge_rules profile dir zone command body) ≡ false
      → (c : Content) × Sayable profile dir zone command c body × (said_data profile command c ≡ map (normal_in (row_of profile command)) body)
  judge_say body e =
      let p = judge_passes profile dir zone command body e in
      let c = content.content_of dir p.row body in
      let there = p.lies.there in
      let r = form_promise.read profile command p.row dir body there (rw p.long p.value) in
      let many : length (content.encoded_data (content.encoded_of p.row c)) ≡ length body = ap length r.1 ∙ length-map body (normal p.row) in
      let size : length body ≡ content.size_of c = sym many ∙ data_size dir p.row c (rw many p.long) in
      let long : has_length dir p.row (content.size_of c) ≡ true = rw (← size) p.long in
      let form = r.0 in (
        c,
        record {
          row = p.row;
          there = there;
          judges = e;
          says = lies_refuses profile zone command p.row p.lies (form_rules dir c) ∙ form_refuses dir p.row c ∙ rw (long, form);
          means = refl;
        },
        data_in_lem p.row c there ∙ r.1 ∙ ap (λ (f : Option Row). map (normal_in f) body) (sym there),
      )

-- the message of a row that is found
in_row : (f : Option Row) (row : Row) (means : Row → Message) → f ≡ Some row → message_in f means ≡ Ok (means row)
in_row f row means e = ap (λ (x : Option Row). message_in x means) e

-- a frame of fields and data, read
frame_reads : (profile : Profile) (dir : Direction) (zone command ac : ℕ) (body : List ℕ)
    → frame_read profile dir (frame_of dir zone command ac body) ≡ from_reading (read_of profile dir zone command (answer_kept dir ac) body)
frame_reads profile dir zone command ac body =
    let b = frame_promise.brought dir zone command ac body in
    frame_some profile dir (frame_of dir zone command ac body) (record { zone = zone; command = command; answer = answer_kept dir ac }) b.head
    ∙ ap (λ (l : List ℕ). from_reading (read_of profile dir zone command (answer_kept dir ac) l)) b.load

-- what passes is read as what it is
read_passed : (profile : Profile) (dir : Direction) (zone command ac : ℕ) (body : List ℕ) → refuses (read_rules profile dir zone command ac body) ≡ false
    → read_of profile dir zone command ac body ≡ message_of profile dir zone command ac body
unfolding read_of
read_passed profile dir zone command ac body e = accepted_by (read_rules profile dir zone command ac body) Err _ e

denied_rules : (ac : ℕ) (body : List ℕ) → refuses (not_denied ac ∷ too_long body ∷ []) ≡ false → (is_denial ac ≡ true) × (refuses (too_long body ∷ []) ≡ false)
denied_rules ac body e = let p = pass_first (not_denied ac) (too_long body ∷ []) e in (not-false _ p.0, p.1)

module _ (profile : Profile) where
  reads : (m : Message) (body : List ℕ) → refuses (write_rules profile m body) ≡ false → frame_read profile (message_direction m) (message_frame profile m body) ≡ Some (Ok m)
  reads (message.Command s) body e =
      let j = say_judge profile Command s.zone s.command s.content e in
      let d = said_data profile s.command s.content in
      frame_reads profile Command s.zone s.command 0 d
      ∙ ap from_reading (read_passed profile Command s.zone s.command 0 d j.judges ∙ in_row (row_of profile s.command) j.row _ j.there)
      ∙ ap (λ (c : Content). Some (Ok (message.Command (record { zone = s.zone; command = s.command; content = c })))) j.means
  reads (message.Status s) body e =
      let j = say_judge profile Answer s.zone s.command s.content e in
      let d = said_data profile s.command s.content in
      frame_reads profile Answer s.zone s.command 0 d
      ∙ ap from_reading (read_passed profile Answer s.zone s.command 0 d j.judges ∙ in_row (row_of profile s.command) j.row _ j.there)
      ∙ ap (λ (c : Content). Some (Ok (message.Status (record { zone = s.zone; command = s.command; content = c })))) j.means
  reads (message.Denied d) body e =
      let p = denied_rules d.answer body e in
      let is : message_of profile Answer d.zone d.command d.answer body ≡ Ok (message.Denied d) = rw p.0 in
      frame_reads profile Answer d.zone d.command d.answer body
      ∙ ap from_reading (read_passed profile Answer d.zone d.command d.answer body (rw (p.0, or-true) p.1) ∙ is)

-- the frame of fields and data, written where the rules let it, reads back
reads_back : (profile : Profile) (dir : Direction) (rules : List Rule) (buf : List ℕ) (at zone command ac : ℕ) (given : List ℕ) (m : Message) (body : List ℕ) (n : ℕ)
    → write_answered rules buf at (frame_of dir zone command ac given) ≡ Ok n
    → ReadsAs profile dir (frame_of dir zone command ac given) m body
    → ReadsBack profile dir (write_left rules buf at (frame_of dir zone command ac given)) at n m body
reads_back profile dir rules buf at zone command ac given m body n e reads_so =
    let sent = frame_of dir zone command ac given in
    let w = (write_promise rules buf at sent).there n e in
    let long : n ≡ length sent = w.0 in
    let room : at + length sent ≤ length buf = rw (← long) w.1 in
    let put : write_left rules buf at sent ≡ placed buf at sent = w.2 in
    record {
      found = rw (put, long) (placed_found dir buf at zone command ac given room);
      back = rw (put, long, placed_bytes_lem dir buf at zone command ac given room) reads_so;
    }

message_back : (profile : Profile) (buf : List ℕ) (at : ℕ) (m : Message) (body : List ℕ) (n : ℕ)
    → write_answered (write_rules profile m body) buf at (message_frame profile m body) ≡ Ok n
    → ReadsBack profile (message_direction m) (write_left (write_rules profile m body) buf at (message_frame profile m body)) at n m body
message_back profile buf at (message.Command s) body n e =
    let rules = write_rules profile (message.Command s) body in
    let d = said_data profile s.command s.content in
    reads_back profile Command rules buf at s.zone s.command 0 d (message.Command s) body n e
    (record { message = reads profile (message.Command s) body (write_passed rules buf at _ n e); load = refl })
message_back profile buf at (message.Status s) body n e =
    let rules = write_rules profile (message.Status s) body in
    let d = said_data profile s.command s.content in
    reads_back profile Answer rules buf at s.zone s.command 0 d (message.Status s) body n e
    (record { message = reads profile (message.Status s) body (write_passed rules buf at _ n e); load = refl })
message_back profile buf at (message.Denied d) body n e =
    let rules = write_rules profile (message.Denied d) body in
    reads_back profile Answer rules buf at d.zone d.command d.answer body (message.Denied d) body n e
    (record {
      message = reads profile (message.Denied d) body (write_passed rules buf at _ n e);
      load = (frame_promise.brought Answer d.zone d.command d.answer body).load;
    })

abbrev paper_of : ℕ → ℕ → ℕ → List ℕ → Paper
paper_of zone command code body = record { zone = zone; command = command; answer = code; body = body }

-- what is read as a message, written again
pub record Again (profile : Profile) (dir : Direction) (zone command ac : ℕ) (body : List ℕ) (m : Message) : Type 0 where
  way : message_direction m ≡ dir
  pub rules : refuses (write_rules profile m body) ≡ false
  pub frame : message_frame profile m body ≡ fields_frame profile dir zone command ac body
  paper : message_paper profile m body ≡ paper_of zone command (answer_kept dir ac) (data_read profile dir command ac body)

again_of : (profile : Profile) (dir : Direction) (zone command ac : ℕ) (body : List ℕ) → refuses (read_rules profile dir zone command ac body) ≡ false
    → (m : Message) × (message_of profile dir zone command ac body ≡ Ok m) × Again profile dir zone command ac body m
unfolding frame_of
again_of profile Command zone command ac body e =
    let (c, j, load) = judge_say profile Command zone command body e in (
      message.Command (record { zone = zone; command = command; content = c }),
      in_row (row_of profile command) j.row _ j.there
          ∙ ap (λ (x : Content). Ok (message.Command (record { zone = zone; command = command; content = x }))) j.means,
      record {
        way = refl;
        rules = j.says;
        frame = ap (λ (l : List ℕ). frame_of Command zone command ac l) load;
        paper = ap (λ (l : List ℕ). paper_of zone command 0 l) load;
      },
    )
again_of profile Answer zone command ac body e = go (is_denial ac) refl (pass_first (wrong_code ac) (cond (is_denial ac) (too_long body ∷ []) (judge_rules profile Answer zone command body)) e)
  where
    zero_code : (t : Bool) → not (t || false) ≡ false → t ≡ true
    zero_code true f = refl
    zero_code false f = cc

    go : (t : Bool) → is_denial ac ≡ t → (not (eqb ac 0x00 || is_denial ac) ≡ false) × (refuses (cond t (too_long body ∷ []) (judge_rules profile Answer zone command body)) ≡ false)
        → (m : Message)
        × (cond t (Ok (message.Denied (denial zone command ac))) (message_in (row_of profile command) (λ row. message.Status (said Answer row zone command body))) ≡ Ok m)
        × Again profile Answer zone command ac body m
    go true d p =
        let load : body ≡ data_read profile Answer command ac body = rw d in (
          message.Denied (denial zone command ac),
          refl,
          record {
            way = refl;
            rules = pass_both (not_denied ac) (too_long body ∷ []) (rw d) p.1;
            frame = ap (λ (l : List ℕ). frame_of Answer zone command ac l) load;
            paper = ap (λ (l : List ℕ). paper_of zone command ac l) load;
          },
        )
    go false d p =
        let (c, j, load) = judge_say profile Answer zone command body p.1 in
        let kept : said_data profile command c ≡ data_read profile Answer command ac body = rw d load in
        let code : ac ≡ 0 = eqb-true ac 0 (zero_code (eqb ac 0x00) (rw d at p.0)) in (
          message.Status (record { zone = zone; command = command; content = c }),
          in_row (row_of profile command) j.row _ j.there
              ∙ ap (λ (x : Content). Ok (message.Status (record { zone = zone; command = command; content = x }))) j.means,
          record {
            way = refl;
            rules = j.says;
            frame = ap (λ (l : List ℕ). frame_of Answer zone command 0 l) kept ∙ ap (λ (k : ℕ). frame_of Answer zone command k (data_read profile Answer command ac body)) (sym code);
            paper = ap (λ (l : List ℕ). paper_of zone command 0 l) kept ∙ ap (λ (k : ℕ). paper_of zone command k (data_read profile Answer command ac body)) (sym code);
          },
        )

-- what passes is a message
pub passed_message : (profile : Profile) (dir : Direction) (zone command ac : ℕ) (body : List ℕ) → refuses (read_rules profile dir zone command ac body) ≡ false
    → (m : Message) × (read_of profile dir zone command ac body ≡ Ok m) × (message_of profile dir zone command ac body ≡ Ok m)
passed_message profile dir zone command ac body e =
    let a = again_of profile dir zone command ac body e in (a.0, read_passed profile dir zone command ac body e ∙ a.1, a.1)

-- what is read as a message passes, and is written again
pub read_passes : (profile : Profile) (dir : Direction) (zone command ac : ℕ) (body : List ℕ) (m : Message) → read_of profile dir zone command ac body ≡ Ok m
    → (refuses (read_rules profile dir zone command ac body) ≡ false) × (message_of profile dir zone command ac body ≡ Ok m)
unfolding read_of
read_passes profile dir zone command ac body m e =
    was_accepted (read_rules profile dir zone command ac body) Err (message_of profile dir zone command ac body) (Ok m) e differ
  where
    differ : (n : Refusal) → Err n ≡ Ok m → ⊥
    differ n f = cc

same_message : (k m : Message) → ◌≡◌ {A = Result Message Refusal} (Ok k) (Ok m) → k ≡ m
same_message k m e = cc

pub was_read : (profile : Profile) (dir : Direction) (zone command ac : ℕ) (body : List ℕ) (m : Message) → read_of profile dir zone command ac body ≡ Ok m
    → Again profile dir zone command ac body m
was_read profile dir zone command ac body m e =
    let w = read_passes profile dir zone command ac body m e in
    let a = again_of profile dir zone command ac body w.0 in
    subst (λ (x : Message). Again profile dir zone command ac body x) (same_message a.0 m (sym a.1 ∙ w.1)) a.2

-- a message that was read has the fields that it was read from
pub paper_of_lem : (profile : Profile) (dir : Direction) (zone command ac : ℕ) (body : List ℕ) (m : Message) → read_of profile dir zone command ac body ≡ Ok m
    → message_paper profile m body ≡ paper_of zone command (answer_kept dir ac) (data_read profile dir command ac body)
paper_of_lem profile dir zone command ac body m e = (was_read profile dir zone command ac body m e).paper

-- the frame that is written again reads as the message
denied_load : (profile : Profile) (m : Message) (zone command code : ℕ) (body brought : List ℕ) → message_paper profile m body ≡ paper_of zone command code brought
    → denied_data m brought ≡ denied_data m body
denied_load profile (message.Command s) zone command code body brought e = refl
denied_load profile (message.Status s) zone command code body brought e = refl
denied_load profile (message.Denied d) zone command code body brought e = sym (ap (λ (p : Paper). p.body) e)

as_written : (profile : Profile) (dir : Direction) (zone command ac : ℕ) (body : List ℕ) (m : Message) → Again profile dir zone command ac body m
    → ReadsAs profile dir (fields_frame profile dir zone command ac body) m body
as_written profile dir zone command ac body m a =
    let d = data_read profile dir command ac body in
    record {
      message = ap (frame_read profile dir) (sym a.frame) ∙ subst (λ (x : Direction). frame_read profile x (message_frame profile m body) ≡ Some (Ok m)) a.way (reads profile m body a.rules);
      load = ap (denied_data m) (frame_promise.brought dir zone command ac d).load ∙ denied_load profile m zone command (answer_kept dir ac) body d a.paper;
    }

-- what is read and does not deny is judged
judged_read : (profile : Profile) (dir : Direction) (zone command ac : ℕ) (body : List ℕ) → refuses (read_rules profile dir zone command ac body) ≡ false → is_denying dir ac ≡ false
    → refuses (judge_rules profile dir zone command body) ≡ false
judged_read profile Command zone command ac body e d = e
judged_read profile Answer zone command ac body e d = rw d at (pass_first (wrong_code ac) (cond (is_denial ac) (too_long body ∷ []) (judge_rules profile Answer zone command body)) e).1

-- what is read is minus zero, or its data are as they came
zero_or_kept : (profile : Profile) (dir : Direction) (zone command ac : ℕ) (body : List ℕ) → refuses (read_rules profile dir zone command ac body) ≡ false
    → FieldsAreMinusZero profile dir command ac body ⊎ (data_read profile dir command ac body ≡ body)
zero_or_kept profile dir zone command ac body e = go (is_denying dir ac) refl
  where
    go : (t : Bool) → is_denying dir ac ≡ t → FieldsAreMinusZero profile dir command ac body ⊎ (cond t body (map (normal_in (row_of profile command)) body) ≡ body)
    go true d = inr refl
    go false d =
        let p = judge_passes profile dir zone command body (judged_read profile dir zone command ac body e d) in
        let there = p.lies.there in
        by_data p.row there (zero_or_same p.row dir (row_tidy profile command p.row there dir) body (rw p.long p.value))
      where
        by_data : (row : Row) → row_of profile command ≡ Some row → ((body ≡ 0x80 ∷ []) × (row.signed ≡ true)) ⊎ (map (normal row) body ≡ body)
            → FieldsAreMinusZero profile dir command ac body ⊎ (map (normal_in (row_of profile command)) body ≡ body)
        by_data row there (inl (load, s)) = inl (record { row = row; there = there; zero = s; load = load; accepts = d })
        by_data row there (inr same) = inr (ap (λ (f : Option Row). map (normal_in f) body) there ∙ same)

read_long : (profile : Profile) (dir : Direction) (command ac : ℕ) (body : List ℕ) → length (data_read profile dir command ac body) ≡ length body
read_long profile dir command ac body = go (is_denying dir ac)
  where
    go : (t : Bool) → length (cond t body (map (normal_in (row_of profile command)) body)) ≡ length body
    go true = refl
    go false = length-map body (normal_in (row_of profile command))

-- fields and data that are read as a message
module _ (profile : Profile) (dir : Direction) (zone command ac : ℕ) (body : List ℕ) (m : Message) (e : read_of profile dir zone command ac body ≡ Ok m) where
  kept : (FieldsAreMinusZero profile dir command ac body → ⊥) → fields_frame profile dir zone command ac body ≡ frame_of dir zone command ac body
  kept other = go (zero_or_kept profile dir zone command ac body (read_passes profile dir zone command ac body m e).0)
    where
      go : FieldsAreMinusZero profile dir command ac body ⊎ (data_read profile dir command ac body ≡ body) → fields_frame profile dir zone command ac body ≡ frame_of dir zone command ac body
      go (inl z) = absurd (other z)
      go (inr same) = ap (frame_of dir zone command ac) same

  module _ (z : FieldsAreMinusZero profile dir command ac body) where
    turned : fields_frame profile dir zone command ac body ≡ frame_of dir zone command ac (0x00 ∷ [])
    turned =
        let zero : normal z.row 0x80 ≡ 0x00 = minus_zero_promise.turned z.row z.zero in
        ap (frame_of dir zone command ac) (rw (z.accepts, z.there, z.load, zero))

    is_zero : content.content_of dir z.row body ≡ Number (pos 0)
    is_zero = ap (content.content_of dir z.row) z.load ∙ zero_content z.row dir true z.zero

    zero_is : (d : Direction) → is_denying d ac ≡ false → content.content_of d z.row body ≡ Number (pos 0) → message_of profile d zone command ac body ≡ Ok (zero_message d zone command)
    zero_is Command a c =
        in_row (row_of profile command) z.row _ z.there ∙ ap (λ (x : Content). Ok (message.Command (record { zone = zone; command = command; content = x }))) c
    zero_is Answer a c =
        rw a (in_row (row_of profile command) z.row _ z.there ∙ ap (λ (x : Content). Ok (message.Status (record { zone = zone; command = command; content = x }))) c)

    pub zero_promise : ZeroPromise profile dir zone command ac body z m e
    zero_promise = record {
      says = same_message m _ (sym (read_passes profile dir zone command ac body m e).1 ∙ zero_is dir z.accepts is_zero);
      turned = turned;
      back = ap (frame_read profile dir) (sym turned) ∙ (as_written profile dir zone command ac body m (was_read profile dir zone command ac body m e)).message;
    }

fields_back : (profile : Profile) (dir : Direction) (buf : List ℕ) (at zone command ac : ℕ) (body : List ℕ) (n : ℕ)
    → write_answered (read_rules profile dir zone command ac body) buf at (fields_frame profile dir zone command ac body) ≡ Ok n
    → (m : Message) × (message_of profile dir zone command ac body ≡ Ok m)
    × ReadsBack profile dir (write_left (read_rules profile dir zone command ac body) buf at (fields_frame profile dir zone command ac body)) at n m body
fields_back profile dir buf at zone command ac body n e =
    let rules = read_rules profile dir zone command ac body in
    let p = passed_message profile dir zone command ac body (write_passed rules buf at (fields_frame profile dir zone command ac body) n e) in
    let m = p.0 in
    let a = was_read profile dir zone command ac body m p.1 in (
      m,
      p.2,
      reads_back profile dir rules buf at zone command ac (data_read profile dir command ac body) m body n e (as_written profile dir zone command ac body m a),
    )

kept_in_lem : (dir : Direction) (bytes : List ℕ) → answer_kept dir (answer_in dir bytes) ≡ answer_in dir bytes
kept_in_lem Command bytes = refl
kept_in_lem Answer bytes = refl

-- the fields and data of bytes that read as a message
module _ (profile : Profile) (dir : Direction) (bytes : List ℕ) (m : Message) (e : frame_read profile dir bytes ≡ Some (Ok m)) where
  abbrev f : Fields
  f = fields_in dir bytes

  abbrev body : List ℕ
  body = data_in dir bytes

  whole : (is_frame dir bytes ≡ true) × (read_of profile dir f.zone f.command f.answer body ≡ Ok m)
  unfolding frame_read
  whole = go (is_frame dir bytes) e
    where
      taken : (r : Result Message Refusal) → from_reading r ≡ Some (Ok m) → r ≡ Ok m
      taken r g = cc

      go : (t : Bool) → cond t (from_reading (read_of profile dir f.zone f.command f.answer body)) None ≡ Some (Ok m)
          → (t ≡ true) × (read_of profile dir f.zone f.command f.answer body ≡ Ok m)
      go true g = (refl, taken (read_of profile dir f.zone f.command f.answer body) g)
      go false g = (cc, cc)

  goes : Again profile dir f.zone f.command f.answer body m
  goes = was_read profile dir f.zone f.command f.answer body m whole.1

  data_is : data_of dir bytes ≡ body
  data_is = rw whole.0

  pub frame_brings : (fields_of dir bytes ≡ Some f)
      × (message_paper profile m (data_of dir bytes) ≡ paper_of f.zone f.command f.answer (data_read profile dir f.command f.answer (data_of dir bytes)))
  frame_brings = (
    rw whole.0,
    rw data_is (goes.paper ∙ ap (λ (n : ℕ). paper_of f.zone f.command n (data_read profile dir f.command f.answer body)) (kept_in_lem dir bytes)),
  )

  abbrev again : List ℕ
  again = fields_frame profile dir f.zone f.command f.answer body

  again_long : length (message_frame profile m body) ≡ length bytes
  again_long =
      let d = data_read profile dir f.command f.answer body in
      ap length goes.frame ∙ frame_length_lem dir f.zone f.command f.answer d ∙ ap (frame_length dir) (read_long profile dir f.command f.answer body)
      ∙ sym (frame_length_lem dir f.zone f.command f.answer body) ∙ ap length (sym (frame_again dir bytes whole.0))

  module _ (buf : List ℕ) (at : ℕ) (room : at + length bytes ≤ length buf) where
    put : (write_answered (write_rules profile m body) buf at (message_frame profile m body) ≡ Ok (length (message_frame profile m body)))
        × (write_left (write_rules profile m body) buf at (message_frame profile m body) ≡ placed buf at (message_frame profile m body))
    put = write_fits (write_rules profile m body) buf at (message_frame profile m body) goes.rules (rw again_long room)

    abbrev brought : List ℕ
    brought = data_of dir bytes

    said_again : write_answered (write_rules profile m brought) buf at (message_frame profile m brought) ≡ Ok (length bytes)
    said_again = rw data_is (put.0 ∙ ap Ok again_long)

    left_again : write_left (write_rules profile m brought) buf at (message_frame profile m brought) ≡ placed buf at again
    left_again = rw data_is (put.1 ∙ ap (λ (l : List ℕ). placed buf at l) goes.frame)

    same_again : (BringsMinusZero profile dir bytes → ⊥) → write_left (write_rules profile m brought) buf at (message_frame profile m brought) ≡ placed buf at bytes
    same_again other =
        left_again
        ∙ ap (placed buf at) (kept profile dir f.zone f.command f.answer body m whole.1 (λ z. other (rw data_is z)) ∙ sym (frame_again dir bytes whole.0))

  pub zero_frame_promise : (z : BringsMinusZero profile dir bytes) → ZeroFramePromise profile dir bytes z m e
  zero_frame_promise z =
      let zero = zero_promise profile dir f.zone f.command f.answer body m whole.1 (rw data_is at z) in
      record { says = zero.says; again = λ buf at room. left_again buf at room ∙ ap (placed buf at) zero.turned; back = zero.back }

pub message_promise : MessagePromise
message_promise = record {
  message = message_back;
  fields = fields_back;
  unchanged = kept;
  denied = λ profile other buf at d body. message_back other buf at (message.Denied d) body;
  way = λ profile dir bytes m e. (goes profile dir bytes m e).way;
  said = said_again;
  again = λ profile dir bytes m e other buf at room. same_again profile dir bytes m e buf at room other;
}
