-- Any bytes sent: the settings stay legal, the current input stays, and the answers are bytes.
use mathlib.Core.Path.{◌≡◌, refl, subst, ◌∙◌}
use mathlib.Core.Bool.{true}
use mathlib.Core.List.{List, [], ◌∷◌, ◌++◌}
use Prim.Native.Nat.{ℕ, ◌+◌, ◌-◌, ◌<◌}
use native.Mathlib.Omega.{arith}
use borrow.Author.Tests.{eqb-true}
use lib.ListN.{length, get_or, length-append, get_or-append}
use lib.Seq.{get_or_at}
use lib.Dec.{eqb}
use Rattle.frame.specs.Frame.{opens, dl}
use Rattle.frame.specs.Reader.{answer_to, taken_after, taken_by}
use Rattle.frame.specs.Meaning.{Means}
use Rattle.fields.specs.Fields.{is_frame}
use Rattle.frame.specs.declared.reader.ByteAnswer.{ByteAnswer}
use Rattle.frame.specs.declared.reader.ByteAnswer.TheVariants.{Waiting, Noise, Frame, Broken}
use Rattle.frame.specs.declared.direction.Direction.TheVariants.{Command}
use Rattle.frame.proofs.Cases.{cases}
use Rattle.frame.proofs.Taken.{dl_more, stands_by}
use Rattle.frame.proofs.Means.{means}
use Rattle.fields.proofs.Whole.{whole_is}
use Rattle.row.specs.declared.profile.Profile.{Profile}
use Rattle.message.specs.Message.{frame_read}
use Rattle.unit.specs.Unit.{current, Done, nothing, frame_done, Unit, byte_done, done, takes, after, replies}
use Rattle.unit.specs.Legal.{LegalSettings}
use Rattle.unit.specs.Sending.{AreBytes}
use Rattle.unit.specs.UnitPromise.{UnitPromise, HeardPromise}
use Rattle.unit.proofs.Cells.{holds_same}
use Rattle.unit.proofs.Flush.{by_place}
use Rattle.unit.proofs.Acts.{frame_legal, frame_now}
use Rattle.unit.proofs.Answers.{bytes_append, frame_bytes}
use Rattle.streams.specs.Stream.{reader_by, answers_by}
use Rattle.lists.specs.InOrder.{in_order}

module _ (u : Unit) (b : ℕ) where
  -- a byte does nothing, or what its frame does
  pub by_frame : (P : Done → Type 0) → P (nothing u.settings) → P (frame_done u.profile u.settings (u.taken ++ b ∷ [])) → P (done u b)
  by_frame P still acts = go (answer_to Command u.taken b)
    where
      go : (a : ByteAnswer) → P (byte_done u b a)
      go Waiting = still
      go Noise = still
      go (Broken n) = still
      go (Frame n) = acts

  byte_legal : LegalSettings u.profile u.settings → LegalSettings u.profile (takes u b).settings
  byte_legal l = by_frame (λ (d : Done). LegalSettings u.profile d.settings) l (frame_legal u.profile u.settings (u.taken ++ b ∷ []) l)

  byte_now : (takes u b).settings current ≡ u.settings current
  byte_now = by_frame (λ (d : Done). d.settings current ≡ u.settings current) refl (frame_now u.profile u.settings (u.taken ++ b ∷ []))

  byte_answer_lem : LegalSettings u.profile u.settings → AreBytes u.taken → b < 256 → AreBytes (done u b).answer
  byte_answer_lem l t h =
      by_frame (λ (d : Done). AreBytes d.answer) tt
      (frame_bytes u.profile u.settings (u.taken ++ b ∷ []) l (bytes_append u.taken (b ∷ []) t (h, tt)))

  taken_bytes : AreBytes u.taken → b < 256 → AreBytes (taken_after Command u.taken b)
  taken_bytes t h =
      by_place Command u.taken b AreBytes (cases AreBytes (eqb b opens) (λ e. (h, tt)) (λ e. tt)) (λ some early. bytes_append u.taken (b ∷ []) t (h, tt))

stays_legal : (u : Unit) (sent : List ℕ) → LegalSettings u.profile u.settings → LegalSettings u.profile (after u sent).settings
unfolding reader_by
stays_legal u [] l = l
stays_legal u (b ∷ bs) l = stays_legal (takes u b) bs (byte_legal u b l)

stays_now : (u : Unit) (sent : List ℕ) → (after u sent).settings current ≡ u.settings current
unfolding reader_by
stays_now u [] = refl
stays_now u (b ∷ bs) = stays_now (takes u b) bs ∙ byte_now u b

all_bytes : (u : Unit) (sent : List ℕ) → LegalSettings u.profile u.settings → AreBytes u.taken → AreBytes sent → AreBytes (replies u sent)
unfolding answers_by in_order
all_bytes u [] l t h = tt
all_bytes u (b ∷ bs) l t h =
    bytes_append (done u b).answer (replies (takes u b) bs) (byte_answer_lem u b l t h.0)
    (all_bytes (takes u b) bs (byte_legal u b l) (taken_bytes u b t h.0) h.1)

pub unit_promise : (u : Unit) (sent : List ℕ) → UnitPromise u sent
unit_promise u sent = record { legal = stays_legal u sent; now = holds_same (after u sent) current (u.settings current) (stays_now u sent); answers = all_bytes u sent }

-- what a reader has taken begins with 21
Opened : List ℕ → Type 0
Opened taken = 0 < length taken → get_or taken 0 0 ≡ opens

opened_after : (taken : List ℕ) (b : ℕ) → Opened taken → Opened (taken_after Command taken b)
unfolding Opened
opened_after taken b o =
    by_place Command taken b Opened (cases Opened (eqb b opens) (λ e some. eqb-true b opens e) (λ e some. absurd (omega arith)))
    (λ some early more. get_or-append taken (b ∷ []) 0 0 some ∙ o some)

opened_by : (taken bs : List ℕ) → Opened taken → Opened (taken_by Command taken bs)
unfolding reader_by
opened_by taken [] o = o
opened_by taken (b ∷ bs) o = opened_by (taken_after Command taken b) bs (opened_after taken b o)

-- so a frame that is completed is whole
module _ (before : List ℕ) (b n : ℕ) (e : answer_to Command (taken_by Command [] before) b ≡ Frame n) where
  abbrev held : List ℕ
  held = taken_by Command [] before

  whole : is_frame Command (held ++ b ∷ []) ≡ true
  unfolding Opened
  whole =
      let m = subst (λ (a : ByteAnswer). Means Command held b a) e (means Command held b) in
      let some : 0 < length held = m.0.0 in
      let stands = stands_by Command [] before (omega arith) in
      let long : length (held ++ b ∷ []) ≡ length held + 1 = length-append held (b ∷ []) in
      let count : dl Command (held ++ b ∷ []) ≡ dl Command held = dl_more Command held (b ∷ []) (omega (arith, m.0.1)) in
      whole_is Command (held ++ b ∷ []) (record {
        first = get_or-append held (b ∷ []) 0 0 some ∙ opened_by [] before (λ none. absurd (omega arith)) some;
        long = omega (arith, m.0.1, stands);
        last = get_or_at held b [] 0 (length (held ++ b ∷ []) - 1) (omega arith) ∙ m.1;
      })

pub heard_promise : (profile : Profile) (before : List ℕ) (b n : ℕ) → HeardPromise profile before b n
unfolding frame_read
heard_promise profile before b n = record { same = λ e. rw (whole before b n e) }
