-- After the full sending of demand 3 the unit's answers sign the sheet off.
use mathlib.Core.Path.{◌≡◌, refl, ap, sym, ◌∙◌, subst}
use mathlib.Core.Bool.{true, false, not, ◌&&◌}
use mathlib.Core.List.{List, [], ◌∷◌, ◌++◌, append_assoc, append-nil}
use mathlib.Core.Logic.{◌⊎◌, inl, inr}
use Prim.Native.Nat.{ℕ, ◌+◌, ◌≤◌}
use native.Mathlib.Omega.{arith}
use borrow.Author.Tests.{not-true}
use lib.ListN.{take, replicate}
use Rattle.frame.specs.Frame.{opens, ends, frame_of}
use Rattle.frame.specs.Reader.{answer_to, taken_after}
use Rattle.frame.specs.declared.direction.Direction.TheVariants.{Command, Answer}
use Rattle.row.specs.MinusZero.{is_minus_zero}
use Rattle.row.specs.declared.profile.Profile.{Profile}
use Rattle.row.specs.declared.table.Row.{Row}
use Rattle.judging.specs.Judge.{is_setting}
use Rattle.judging.proofs.Judges.{judged_lies}
use Rattle.sheet.specs.Line.{is_legal}
use Rattle.lists.specs.InOrder.{in_order}
use Rattle.lists.proofs.Tests.{both}
use Rattle.sheetfile.specs.Run.{flush, line_frame, frames_of, run_of}
use Rattle.sheet.specs.declared.line.Line.{Line}
use Rattle.message.specs.Message.{from_reading, frame_read, read_of}
use Rattle.message.specs.declared.read.Message.{Message}
use Rattle.tracker.specs.CellPromise.{HasCell}
use Rattle.tracker.specs.Tracker.{fresh_tracker, kept_in}
use Rattle.tracker.specs.Feed.{BroughtAnswer, answers_fed}
use Rattle.tracker.specs.HistoryPromise.{IsStatus, Last, HistoryPromise}
use Rattle.tracker.specs.Capture.{brought_by, tracked_by}
use Rattle.signing.specs.SignPromise.{IsHeld}
use Rattle.tracker.specs.declared.tracker.Tracker.{Tracker}
use Rattle.tracker.specs.declared.tracker.Kept.TheVariants.{Value}
use Rattle.tracker.proofs.Cells.{legal_cell}
use Rattle.tracker.proofs.Frames.{brought_none, brought_one}
use Rattle.tracker.proofs.History.{fit_all, history_promise}
use Rattle.tracker.proofs.Keeps.{known_sheet_value}
use Rattle.signing.proofs.Signs.{its_verdict, sign_promise}
use Rattle.signing.proofs.CaptureSigns.{short}
use Rattle.signing.specs.Sign.{sign_off}
use Rattle.sheet.specs.Check.{sheet_verdict}
use Rattle.sheet.proofs.Sheets.{sheet_promise}
use Rattle.unit.specs.Unit.{value, Settings, Unit, compared, Holds, Done, frame_done, takes, after, replies}
use Rattle.unit.specs.Legal.{LegalSettings}
use Rattle.lists.specs.Each.{Each}
use Rattle.unit.specs.Sending.{AreBytes, setting_of, sending, sendings}
use Rattle.unit.specs.Demand3.{stopped}
use Rattle.unit.specs.TruthPromise.{SignedSending}
use Rattle.unit.proofs.Flush.{Within, quiet}
use Rattle.unit.proofs.Moments.{always_last, always_take}
use Rattle.unit.proofs.Sendings.{first, zeros_near, near_more, Good, Wanted, sent_good, wanted, start_good, lines}
use Rattle.unit.proofs.Sets.{Line-legal, line_legal, reads, line_promise}
use Rattle.unit.proofs.Answers.{answer_reads, done_promise}
use Rattle.unit.proofs.Truth.{replies_append, brought_append, after_profile, known_true}
use Rattle.unit.proofs.Demand.{fit, demand_3}
use Rattle.streams.specs.Stream.{answers_by, reader_by}
use Rattle.std.specs.Prelude.{Err, Ok, Option, Result, Some}
use Rattle.refusals.specs.declared.refusal.Refusal.{Refusal}

-- the answer to a legal line's frame
abbrev answer_of : Line → BroughtAnswer
answer_of l = record { zone = l.zone; command = l.command; answer = 0x00; body = l.value ∷ [] }

abbrev answers_of : List Line → List BroughtAnswer
answers_of [] = []
answers_of (l ∷ ls) = answer_of l ∷ answers_of ls

module _ (l : Line) (u : Unit) (legal : is_legal u.profile l ≡ true) (near : Within Command 1 u.taken) where
  abbrev rest : List ℕ
  rest = l.zone ∷ l.command ∷ 1 ∷ l.value ∷ ends ∷ []

  line_answers : replies u (line_frame l) ≡ frame_of Answer l.zone l.command 0x00 (l.value ∷ [])
  unfolding answers_by in_order frame_of answer_to taken_after
  line_answers =
      ap (λ (d : Done). d.answer ++ replies (takes u opens) rest) (quiet u opens (λ e. omega arith))
      ∙ ap (λ (x : Unit). replies x rest) (first u near)
      ∙ append-nil (frame_done u.profile u.settings (opens ∷ rest)).answer
      ∙ (line_promise u.profile u.settings l).answers legal

  line_taken : (after u (line_frame l)).taken ≡ []
  unfolding reader_by frame_of answer_to taken_after
  line_taken = ap (λ (x : Unit). (after x rest).taken) (first u near)

-- the frames of legal lines, from a reader that 21 opens
frames_answered : (ls : List Line) (u : Unit) → Each (λ (l : Line). is_legal u.profile l ≡ true) ls → Within Command 1 u.taken
    → brought_by (replies u (frames_of ls)) ≡ answers_of ls
unfolding in_order answers_by
frames_answered [] u w near = brought_none
frames_answered (l ∷ ls) u w near =
    let next : Unit = after u (line_frame l) in
    let outside : Within Command 1 next.taken = rw (line_taken l u w.0 near) (λ some. absurd (omega arith)) in
    let more = frames_answered ls next (rw (after_profile u (line_frame l)) w.1) outside in
    ap brought_by (replies_append u (line_frame l) (frames_of ls))
    ∙ brought_append u (line_frame l) (replies next (frames_of ls))
    ∙ ap (λ (bs : List ℕ). brought_by bs ++ brought_by (replies next (frames_of ls))) (line_answers l u w.0 near)
    ∙ ap (λ (xs : List BroughtAnswer). xs ++ brought_by (replies next (frames_of ls))) (brought_one l.zone l.command 0x00 (l.value ∷ []))
    ∙ ap (λ (xs : List BroughtAnswer). answer_of l ∷ xs) more

-- what is sent ends with the answers to some lines
abbrev Ends : List Line → Unit → List ℕ → Type 0
Ends ls u sent = (earlier : List BroughtAnswer) × (brought_by (replies u sent) ≡ earlier ++ answers_of ls)

module _ (profile : Profile) (start want : Settings) (zeros : ℕ) (enough : 255 ≤ zeros) (ls : List Line) (w : Each (Wanted profile start want) ls)
    (legal : Each (λ (l : Line). is_legal profile l ≡ true) ls) where
  one_sending : (u : Unit) → Good profile start want u → Ends ls u (sending zeros ls)
  one_sending u g =
      let flushed : Unit = after u (replicate zeros 0) in
      let near : Within Command 1 flushed.taken = zeros_near zeros 1 u (near_more 256 (zeros + 1) u.taken (omega arith) g.near) in
      let family : flushed.profile ≡ profile = after_profile u (replicate zeros 0) ∙ g.family in (
        brought_by (replies u (replicate zeros 0)),
        ap brought_by (replies_append u (replicate zeros 0) (frames_of ls))
            ∙ brought_append u (replicate zeros 0) (replies flushed (frames_of ls))
            ∙ ap (λ (xs : List BroughtAnswer). brought_by (replies u (replicate zeros 0)) ++ xs) (frames_answered ls flushed (rw family legal) near),
      )

  all_sendings : (cuts : List ℕ) (u : Unit) → Good profile start want u → Ends ls u (sendings cuts (sending zeros ls))
  all_sendings [] u g = one_sending u g
  all_sendings (cut ∷ cuts) u g =
      let part = take cut (sending zeros ls) in
      let next : Unit = after u part in
      let good = always_last (Good profile start want) u part (always_take (Good profile start want) cut u (sending zeros ls) (sent_good profile start want zeros enough ls w u g)) in
      let more = all_sendings cuts next good in (
        brought_by (replies u part) ++ more.0,
        ap brought_by (replies_append u part (sendings cuts (sending zeros ls)))
            ∙ brought_append u part (replies next (sendings cuts (sending zeros ls)))
            ∙ ap (λ (xs : List BroughtAnswer). brought_by (replies u part) ++ xs) more.1
            ∙ sym (append_assoc (brought_by (replies u part)) more.0 (answers_of ls)),
      )

-- the run is such a sending, where there are lines
all_runs : (profile : Profile) (start want : Settings) (ls : List Line) → Each (Wanted profile start want) ls → Each (λ (l : Line). is_legal profile l ≡ true) ls
    → (cuts : List ℕ) (u : Unit) → Good profile start want u → Ends ls u (sendings cuts (run_of ls))
unfolding run_of
all_runs profile start want [] w legal cuts u g = (brought_by (replies u (sendings cuts [])), sym (append-nil (brought_by (replies u (sendings cuts [])))))
all_runs profile start want (l ∷ ls) w legal cuts u g = all_sendings profile start want flush (omega arith) (l ∷ ls) w legal cuts u g

-- none of some answers is a status of a zone and command
abbrev NoneIs : Profile → ℕ → ℕ → List BroughtAnswer → Type 0
NoneIs profile zone command fs = Each (λ (a : BroughtAnswer). IsStatus profile zone command a → ⊥) fs

none_behind : (profile : Profile) (zone command : ℕ) (xs ys : List BroughtAnswer) → NoneIs profile zone command (xs ++ ys) → NoneIs profile zone command ys
none_behind profile zone command [] ys n = n
none_behind profile zone command (x ∷ xs) ys n = none_behind profile zone command xs ys n.1

message_same : (r : Result Message Refusal) (m : Message) → from_reading r ≡ Some (Ok m) → r ≡ Ok m
message_same (Ok x) m e = ap Ok (same e)
  where
    same : ◌≡◌ {A = Option (Result Message Refusal)} (Some (Ok x)) (Some (Ok m)) → x ≡ m
    same f = cc
message_same (Err n) m e = cc

-- the answer to a legal line is a status of its zone and row
line_status : (profile : Profile) (s : Settings) → LegalSettings profile s → (l : Line) → is_legal profile l ≡ true → IsStatus profile l.zone l.command (answer_of l)
unfolding frame_of
line_status profile s legal l e =
    let told = (done_promise profile s (line_frame l)).told legal _ (reads profile l e) in
    let read = sym (answer_reads profile l.zone l.command 0x00 (l.value ∷ [])) ∙ ap (frame_read profile Answer) (sym ((line_promise profile s l).answers e)) ∙ told.status in
    (refl, refl, (_, message_same (read_of profile Answer l.zone l.command 0x00 (l.value ∷ [])) _ read))

-- so each line's row and zone are known
module _ (profile : Profile) (s : Settings) (legal : LegalSettings profile s) where
  abbrev Known : List BroughtAnswer → Line → Type 0
  Known fs l = (b : ℕ) × (kept_in (answers_fed (fresh_tracker profile) fs) l.zone l.command ≡ Value b)

  known_by : (fs : List BroughtAnswer) (l : Line) → is_legal profile l ≡ true → (NoneIs profile l.zone l.command fs → ⊥) → Known fs l
  known_by fs l e some =
      let c = legal_cell profile l e in
      let h = history_promise profile l.zone l.command c.0 c.1 fs in
      go h h.either
    where
      go : {row : Row} {has : HasCell profile l.zone l.command row} → HistoryPromise profile l.zone l.command row has fs
          → NoneIs profile l.zone l.command fs ⊎ ((x : ℕ) × Last profile l.zone l.command fs x) → Known fs l
      go h (inl none) = absurd (some none)
      go h (inr w) = (w.0, h.last w.0 w.1)

  all_known : (earlier : List BroughtAnswer) (ls : List Line) → Each (λ (l : Line). is_legal profile l ≡ true) ls → Each (Known (earlier ++ answers_of ls)) ls
  all_known earlier [] w = tt
  all_known earlier (l ∷ ls) w =
      let here : NoneIs profile l.zone l.command (earlier ++ answer_of l ∷ answers_of ls) → ⊥ =
      λ n. (none_behind profile l.zone l.command earlier (answer_of l ∷ answers_of ls) n).0 (line_status profile s legal l w.0) in (
        known_by (earlier ++ answer_of l ∷ answers_of ls) l w.0 here,
        subst (λ (fs : List BroughtAnswer). Each (Known fs) ls) (append_assoc earlier (answer_of l ∷ []) (answers_of ls)) (all_known (earlier ++ answer_of l ∷ []) ls w.1),
      )

-- a line whose cell is known to the tracker, and true of the unit, and set in the unit, holds: neither byte is minus zero, so they are
-- the same where they compare the same
module _ (t : Tracker) (now : Unit) (family : t.profile ≡ now.profile) (true_now : (zone command b : ℕ) → kept_in t zone command ≡ Value b → Holds now (value zone command) b) where
  stands_for_itself : (l : Line) (w : Line-legal now.profile l) (b : ℕ) → is_minus_zero w.row b ≡ false → compared now.profile (setting_of l) b ≡ b
  stands_for_itself l w b other = let there = (judged_lies now.profile l.zone l.command w.row w.judged).there in rw (there, other)

  known_other : (l : Line) (w : Line-legal now.profile l) (b : ℕ) → kept_in t l.zone l.command ≡ Value b → is_minus_zero w.row b ≡ false
  known_other l w b e =
      let value = known_sheet_value t l.zone l.command w.row b (rw family w.judged) w.sheet e in
      let rest = (both w.row.sheet (not (is_minus_zero w.row b) && is_setting w.row b) value).1 in
      not-true _ (both (not (is_minus_zero w.row b)) (is_setting w.row b) rest).0

  one_holds : (l : Line) → is_legal now.profile l ≡ true → (b : ℕ) → kept_in t l.zone l.command ≡ Value b → Holds now (setting_of l) l.value → IsHeld t l
  one_holds l legal b e h =
      let w = line_legal now.profile l legal in
      let same : b ≡ l.value =
      sym (stands_for_itself l w b (known_other l w b e)) ∙ sym (true_now l.zone l.command b e) ∙ h ∙ stands_for_itself l w l.value w.other in
      e ∙ ap Value same

  all_hold_lem : (ls : List Line) → Each (λ (l : Line). is_legal now.profile l ≡ true) ls → Each (λ (l : Line). (b : ℕ) × (kept_in t l.zone l.command ≡ Value b)) ls
      → Each (λ (l : Line). Holds now (setting_of l) l.value) ls → Each (IsHeld t) ls
  all_hold_lem [] legal k h = tt
  all_hold_lem (l ∷ ls) legal k h = (one_holds l legal.0 k.0.0 k.0.1 h.0, all_hold_lem ls legal.1 k.1 h.1)

signs_full : (profile : Profile) (s : Settings) (before : List ℕ) (sheet : List Line) (cuts : List ℕ)
    → LegalSettings profile s → AreBytes before → sheet_verdict profile sheet ≡ Ok tt
    → sign_off (tracked_by profile (replies (stopped profile s before) (sendings cuts (run_of sheet)))) sheet ≡ Ok true
signs_full profile s before sheet cuts legal bytes accepted =
    let f = fit profile [] sheet ((sheet_promise profile sheet).only accepted).1 in
    let u = stopped profile s before in
    let want = wanted sheet s in
    let sent = sendings cuts (run_of sheet) in
    let good = start_good flush (omega arith) profile s before sheet cuts bytes f.legal f.apart in
    let w = lines flush (omega arith) profile s before sheet cuts bytes f.legal f.apart in
    let ends = all_runs profile s want sheet w f.legal cuts u good in
    let t = tracked_by profile (replies u sent) in
    let known = subst (λ (fs : List BroughtAnswer). Each (λ (l : Line). (b : ℕ) × (kept_in (answers_fed (fresh_tracker profile) fs) l.zone l.command ≡ Value b)) sheet) (sym ends.1) (all_known profile s legal ends.0 sheet f.legal) in
    let full = (demand_3.holds profile s before sheet cuts bytes accepted).full in
    let family = (fit_all profile (fresh_tracker profile) (brought_by (replies u sent)) (refl, (refl, refl))).0 ∙ sym (after_profile u sent) in
    let lawful = subst (λ (p : Profile). Each (λ (l : Line). is_legal p l ≡ true) sheet) (sym (after_profile u sent)) f.legal in
    (sign_promise t sheet).yes (its_verdict profile (brought_by (replies u sent)) sheet ∙ accepted)
    (all_hold_lem t (after u sent) family (known_true u sent legal) sheet lawful known full)

pub signed_sending : SignedSending
signed_sending = record {
  signs = signs_full;
  captured = λ profile s before sheet cuts legal bytes accepted within.
      short profile sheet (replies (stopped profile s before) (sendings cuts (run_of sheet))) within ∙ signs_full profile s before sheet cuts legal bytes accepted;
}
