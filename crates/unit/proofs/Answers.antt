-- The answers of a unit, as the library reads them.
use mathlib.Core.Path.{◌≡◌, refl, ap, sym, ◌∙◌, subst}
use mathlib.Core.Bool.{Bool, true, false, cond, not, ◌&&◌}
use mathlib.Core.List.{List, [], ◌∷◌, ◌++◌}
use mathlib.Core.Logic.{◌⊎◌, inl, inr}
use Prim.Native.Nat.{ℕ, zero, suc, ◌<◌}
use native.Mathlib.Omega.{arith}
use borrow.Author.Tests.{leb-true}
use lib.Dec.{leb}
use lib.ListN.{length, get_or}
use Rattle.frame.specs.Frame.{frame_of}
use Rattle.fields.specs.Fields.{data_in}
use Rattle.frame.specs.declared.direction.Direction.TheVariants.{Command, Answer}
use Rattle.fields.proofs.Back.{frame_promise}
use Rattle.refusals.proofs.Ruled.{was_accepted, accepted_by}
use Rattle.row.specs.declared.profile.Profile.{Profile}
use Rattle.row.specs.declared.table.Row.{Row}
use Rattle.judging.specs.Judge.{is_answer, is_pair, has_length, has_value, has_data, judge_rules}
use Rattle.message.specs.Content.{content_of, is_form}
use Rattle.message.specs.Message.{said, message_in, message_of, read_rules, read_of, from_reading, frame_read}
use Rattle.message.specs.declared.content.Content.{Content}
use Rattle.message.specs.declared.content.Content.TheVariants.{Request, Input}
use Rattle.message.specs.declared.read.Said.{Said}
use Rattle.message.specs.declared.read.Message.{Message}
use Rattle.message.specs.declared.read.Message.TheVariants as message
use Rattle.judging.proofs.Judges.{first_number_lem, judge_numbers, passes_judge}
use Rattle.message.proofs.Order.{order_promise}
use Rattle.message.proofs.Readings.{frame_some}
use Rattle.lists.proofs.Tests.{both}
use Rattle.unit.specs.House.{value_after}
use Rattle.unit.specs.Unit.{Setting, value, input, current, Settings, put, about, shown, Done, refusal_code, acted, zone_in, command_in, heard, frame_done}
use Rattle.lists.proofs.Each.{each_append}
use Rattle.unit.specs.Legal.{LegalSettings}
use Rattle.unit.specs.Sending.{AreBytes}
use Rattle.unit.specs.UnitPromise.{ToldStatus, ToldDenial, DonePromise}
use Rattle.unit.proofs.Cells.{cell_self}
use Rattle.unit.proofs.Houses.{well}
use Rattle.unit.proofs.Acts.{either, about_pair, about_single, bit_small, paired_form, Accepted, accepted, done_refused, done_acted, made_legal, frame_legal, frame_now}
use Rattle.std.specs.Prelude.{Err, Ok, Option, Result}
use Rattle.refusals.specs.declared.refusal.Refusal.{Refusal}
use Rattle.refusals.specs.declared.refusal.Refusal.TheVariants.{WrongZone, NoRow, WrongLength, WrongValue, NoStep}

-- an answer's frame reads as its fields do
pub answer_reads : (profile : Profile) (zone command ac : ℕ) (body : List ℕ)
    → frame_read profile Answer (frame_of Answer zone command ac body) ≡ from_reading (read_of profile Answer zone command ac body)
answer_reads profile zone command ac body =
    let b = frame_promise.brought Answer zone command ac body in
    frame_some profile Answer (frame_of Answer zone command ac body) (record { zone = zone; command = command; answer = ac }) b.head
    ∙ ap (λ (xs : List ℕ). from_reading (read_of profile Answer zone command ac xs)) b.load

-- a refusal is answered with a code that denies
pub denied_reads : (profile : Profile) (zone command : ℕ) (n : Refusal)
    → read_of profile Answer zone command (refusal_code n) [] ≡ Ok (message.Denied (record { zone = zone; command = command; answer = refusal_code n }))
unfolding read_of
denied_reads profile zone command WrongZone = refl
denied_reads profile zone command NoRow = refl
denied_reads profile zone command WrongLength = refl
denied_reads profile zone command _ = refl

-- a command is refused with one of these
abbrev OfCommand : Refusal → Type 0
OfCommand k = (k ≡ WrongZone) ⊎ (k ≡ NoRow) ⊎ (k ≡ WrongLength) ⊎ (k ≡ WrongValue) ⊎ (k ≡ NoStep)

of_command : (profile : Profile) (zone command : ℕ) (body : List ℕ) (n : Refusal) → read_of profile Command zone command 0 body ≡ Err n → OfCommand n
of_command profile zone command body n e =
    first_number_lem OfCommand (judge_rules profile Command zone command body)
    (judge_numbers OfCommand (inl refl) (inr (inl refl)) (inr (inr (inl refl))) profile Command (inr (inr (inr (inr refl))), (inr (inr (inr (inl refl))), tt)) zone command body) n
    ((order_promise profile Command zone command 0 body).applies n e)

together : (s t : Bool) → s ≡ true → t ≡ true → s && t ≡ true
together s t e f = rw (e, f)

-- a command that was accepted, at legal settings
module _ (profile : Profile) (s : Settings) (l : LegalSettings profile s) (z k : ℕ) (d : List ℕ) (a : Accepted profile z k d) where
  abbrev r : Row
  r = a.row

  abbrev x : Content → Setting
  x c = about r s z k c

  -- what a cell shows is legal in an answer of the row
  Shows : Setting → ℕ → Type 0
  Shows y w = (has_data Answer r (shown y w) ≡ true) × ((y ≡ value z k) ⊎ ((i : ℕ) × (y ≡ input i)))

  shows_pair : (i w : ℕ) → r.pair ≡ true → is_pair r i w ≡ true → Shows (input i) w
  unfolding Shows
  shows_pair i w paired e = (together r.pair (is_pair r i w) paired e, inr (i, refl))

  shows_single : (w : ℕ) → r.pair ≡ false → is_answer r w ≡ true → Shows (value z k) w
  unfolding Shows
  shows_single w single e = (together (has_length Answer r 1) (is_answer r w) (ap not single) e, inl refl)

  shows : (c : Content) → is_form Command r c ≡ true → Shows (x c) (value_after r c (s (x c)))
  shows c f = go r.pair refl
    where
      go : (t : Bool) → r.pair ≡ t → Shows (x c) (value_after r c (s (x c)))
      go true e =
          paired_form profile k r a.there e (λ c. Shows (x c) (value_after r c (s (x c))))
          (subst (λ (y : Setting). Shows y (value_after r Request (s y))) (sym (about_pair r s z k Request e))
          (shows_pair (s current) (s (input (s current))) e (l.inputs z k r a.row_in e (s current) (l.now z k r a.row_in e))))
          (λ i on known.
          subst (λ (y : Setting). Shows y (value_after r (Input i on) (s y))) (sym (about_pair r s z k (Input i on) e))
          (shows_pair i (cond on 0x01 0x00) e (cc (bit_small on)))) c f
      go false e =
          subst (λ (y : Setting). Shows y (value_after r c (s y))) (sym (about_single r s z k c e))
          (shows_single (value_after r c (s (value z k))) e (made_legal profile s l z k d a c f r a.row_in e))

  -- legal data of an answer are read as a status
  status_reads : (b : List ℕ) → has_data Answer r b ≡ true → read_of profile Answer z k 0 b ≡ Ok (message.Status (said Answer r z k b))
  unfolding read_of
  status_reads b h =
      let (long, fits) = both (has_length Answer r (length b)) (has_value Answer r b) h in
      let pass = passes_judge profile Answer z k b r a.lies long fits in
      accepted_by (read_rules profile Answer z k 0 b) Err _ pass ∙ ap (λ (f : Option Row). message_in f (λ row. message.Status (said Answer row z k b))) a.there

  abbrev c : Content
  c = content_of Command r d

  abbrev later : Settings
  later = put s (x c) (value_after r c (s (x c)))

  held : later (x c) ≡ value_after r c (s (x c))
  held = rw (cell_self (x c))

  data_legal : has_data Answer r (shown (x c) (later (x c))) ≡ true
  unfolding Shows
  data_legal = rw held (shows c a.form).0

  -- the answer's data read as a status, and which cell they show
  pub reads_said : read_of profile Answer z k 0 (shown (x c) (later (x c))) ≡ Ok (message.Status (said Answer r z k (shown (x c) (later (x c)))))
  reads_said = status_reads (shown (x c) (later (x c))) data_legal

  pub which_cell : (x c ≡ value z k) ⊎ ((i : ℕ) × (x c ≡ input i))
  unfolding Shows
  which_cell = (shows c a.form).1

  told_said : ToldStatus profile (said Command r z k d) (acted r s (said Command r z k d))
  told_said = record {
    row = r;
    there = a.there;
    cell = x c;
    which = which_cell;
    shows = refl;
    status = answer_reads profile z k 0x00 (shown (x c) (later (x c))) ∙ ap from_reading reads_said;
  }

  -- and they are bytes
  shown_bytes : (y : Setting) (w : ℕ) → has_data Answer r (shown y w) ≡ true → AreBytes (shown y w)
  shown_bytes (value zone command) w h = ((well profile k r a.there).answer_byte w (both (has_length Answer r 1) (is_answer r w) h).1, tt)
  shown_bytes (input i) w h =
      let (paired, rest) = both r.pair (leb w 1 && is_answer r i) (both r.pair (is_pair r i w) h).1 in
      let (small, known) = both (leb w 1) (is_answer r i) rest in
      ((well profile k r a.there).answer_byte i known, (omega (arith, leb-true w 1 small), tt))
  shown_bytes current w h = ((well profile k r a.there).answer_byte w (both (has_length Answer r 1) (is_answer r w) h).1, tt)

-- a frame's promise
module _ (profile : Profile) (s : Settings) (bytes : List ℕ) where
  frame_denied : (n : Refusal) → heard profile bytes ≡ Err n → ToldDenial profile bytes n (frame_done profile s bytes)
  frame_denied n e =
      let z = zone_in bytes in
      let k = command_in bytes in
      record {
        number = of_command profile z k (data_in Command bytes) n e;
        answer = ap (λ (d : Done). d.answer) (done_refused profile s bytes n e);
        denial = ap (λ (d : Done). frame_read profile Answer d.answer) (done_refused profile s bytes n e)
            ∙ answer_reads profile z k (refusal_code n) [] ∙ ap from_reading (denied_reads profile z k n);
      }

  frame_told : LegalSettings profile s → (c : Said) → heard profile bytes ≡ Ok (message.Command c) → ToldStatus profile c (frame_done profile s bytes)
  unfolding read_of
  frame_told l c e =
      let z = zone_in bytes in
      let k = command_in bytes in
      let d = data_in Command bytes in
      let w = was_accepted (judge_rules profile Command z k d) Err (message_of profile Command z k 0 d) (Ok (message.Command c)) e differ in
      let a = accepted profile z k d w.0 in
      let means = ap (λ (f : Option Row). message_in f (λ row. message.Command (said Command row z k d))) a.there in
      subst (λ (y : Said). ToldStatus profile y (frame_done profile s bytes)) (same (sym means ∙ w.1))
      (subst (ToldStatus profile (said Command a.row z k d)) (sym (done_acted profile s bytes w.0 a)) (told_said profile s l z k d a))
    where
      differ : (n : Refusal) → Err n ≡ Ok (message.Command c) → ⊥
      differ n f = cc

      same : {y : Said} → ◌≡◌ {A = Result Message Refusal} (Ok (message.Command y)) (Ok (message.Command c)) → y ≡ c
      same f = cc

  pub done_promise : DonePromise profile s bytes
  done_promise = record {
    legal = frame_legal profile s bytes;
    now = frame_now profile s bytes;
    kept = λ n e. ap (λ (d : Done). d.settings) (done_refused profile s bytes n e);
    denied = frame_denied;
    told = frame_told;
  }

-- the bytes of an answer's frame
pub bytes_append : (bs cs : List ℕ) → AreBytes bs → AreBytes cs → AreBytes (bs ++ cs)
bytes_append bs cs h g = each_append (λ (b : ℕ). b < 256) bs cs h g

byte_at : (bs : List ℕ) (i : ℕ) → AreBytes bs → get_or bs i 0 < 256
byte_at [] i h = omega arith
byte_at (b ∷ bs) zero h = h.0
byte_at (b ∷ bs) (suc i) h = byte_at bs i h.1

answer_bytes : (zone command ac : ℕ) (body : List ℕ) → zone < 256 → command < 256 → ac < 256 → length body < 256 → AreBytes body → AreBytes (frame_of Answer zone command ac body)
unfolding frame_of
answer_bytes zone command ac body z c a n b = (omega arith, (z, (c, (a, (n, bytes_append body (0x0D ∷ []) b (omega arith, tt))))))

code_small : (n : Refusal) → refusal_code n < 256
code_small WrongZone = omega arith
code_small NoRow = omega arith
code_small WrongLength = omega arith
code_small _ = omega arith

shown_short : (y : Setting) (w : ℕ) → length (shown y w) < 256
shown_short (value zone command) w = omega arith
shown_short (input i) w = omega arith
shown_short current w = omega arith

pub frame_bytes : (profile : Profile) (s : Settings) (bytes : List ℕ) → LegalSettings profile s → AreBytes bytes → AreBytes (frame_done profile s bytes).answer
frame_bytes profile s bytes l h =
    let z = zone_in bytes in
    let k = command_in bytes in
    let d = data_in Command bytes in
    let small : z < 256 = byte_at bytes 1 h in
    let low : k < 256 = byte_at bytes 2 h in
    either profile s bytes (λ (x : Done). AreBytes x.answer)
    (λ n. answer_bytes z k (refusal_code n) [] small low (code_small n) (omega arith) tt)
    (λ a.
    let y = x profile s l z k d a (c profile s l z k d a) in
    let w = later profile s l z k d a y in
    answer_bytes z k 0x00 (shown y w) small low (omega arith) (shown_short y w) (shown_bytes profile s l z k d a y w (data_legal profile s l z k d a)))
