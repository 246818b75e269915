-- What an answer makes of a tracker.
use mathlib.Core.Path.{◌≡◌, refl, ap, sym, ◌∙◌}
use mathlib.Core.Bool.{Bool, true, false, cond, not, ◌&&◌}
use mathlib.Core.List.{List, [], ◌∷◌, map}
use mathlib.Core.Logic.{◌⊎◌, inl, inr}
use Prim.Native.Nat.{ℕ}
use native.Mathlib.Omega.{arith}
use borrow.Author.Tests.{eqb-true, not-true}
use lib.Dec.{eqb}
use lib.ListN.{length, get_or, set}
use lib.Seq.{get_or-set_same, get_or-set_other}
use Rattle.fields.specs.Raw.{too_long}
use Rattle.frame.specs.declared.direction.Direction.TheVariants.{Answer}
use Rattle.refusals.proofs.Ruled.{refuses, was_accepted, pass_first}
use Rattle.lists.proofs.Tests.{both, upto, upto_at}
use Rattle.row.specs.MinusZero.{normal}
use Rattle.row.specs.Table.{table, row_of}
use Rattle.row.specs.declared.profile.Profile.{Profile}
use Rattle.row.specs.declared.table.Row.{Row}
use Rattle.judging.specs.Judge.{is_answer, has_length, has_value, row_judged, judge_rules}
use Rattle.message.specs.Content.{content_of, encoded_of, encoded_data}
use Rattle.message.specs.Message.{is_denial, wrong_code, said, denial, message_in, message_of, read_rules, read_of, data_read}
use Rattle.message.specs.declared.content.Content.{Content}
use Rattle.message.specs.declared.read.Said.{Said}
use Rattle.message.specs.declared.read.Message.{Message}
use Rattle.message.specs.declared.read.Message.TheVariants as message
use Rattle.judging.proofs.Judges.{Passes, judge_passes, same_row}
use Rattle.message.proofs.Forms.{form_promise}
use Rattle.message.proofs.Tidy.{are_bytes, code_byte, every, row_passes}
use Rattle.tracker.specs.Cell.{cell_of}
use Rattle.tracker.specs.CellPromise.{HasCell}
use Rattle.tracker.specs.Tracker.{known_state, is_spoilt, kept_at, kept_in}
use Rattle.tracker.specs.Feed.{first_byte, made_known, told, answer_fed}
use Rattle.tracker.specs.FeedPromise.{Whole, answer_read, FeedPromise}
use Rattle.tracker.specs.declared.tracker.Tracker.{Tracker}
use Rattle.tracker.specs.declared.tracker.Kept.TheVariants.{Value}
use Rattle.tracker.proofs.Cells.{stands, within, same_cell_lem, cell_or_none}
use Rattle.std.specs.Prelude.{Err, Ok, Option, Result, Some}
use Rattle.refusals.specs.declared.refusal.Refusal.{Refusal}

-- a status brings the zone and command that were fed, and none of the rules applies to it
record Brings (profile : Profile) (zone command ac : ℕ) (body : List ℕ) (s : Said) : Type 0 where
  its_zone : s.zone ≡ zone
  its_command : s.command ≡ command
  passes : Passes profile Answer zone command body
  says : s.content ≡ content_of Answer passes.row body
  accepts : is_denial ac ≡ false

brings : (profile : Profile) (zone command ac : ℕ) (body : List ℕ) (s : Said) → read_of profile Answer zone command ac body ≡ Ok (message.Status s)
    → Brings profile zone command ac body s
unfolding read_of
brings profile zone command ac body s e =
    let w = was_accepted (read_rules profile Answer zone command ac body) Err (message_of profile Answer zone command ac body) (Ok (message.Status s)) e differ in
    go (is_denial ac) refl w.0 w.1
  where
    differ : (n : Refusal) → Err n ≡ Ok (message.Status s) → ⊥
    differ n f = cc

    status : (row : Row) → ◌≡◌ {A = Result Message Refusal} (Ok (message.Status (said Answer row zone command body))) (Ok (message.Status s)) → said Answer row zone command body ≡ s
    status row f = cc

    go : (t : Bool) → is_denial ac ≡ t → refuses (wrong_code ac ∷ cond t (too_long body ∷ []) (judge_rules profile Answer zone command body)) ≡ false
        → cond t (Ok (message.Denied (denial zone command ac))) (message_in (row_of profile command) (λ row. message.Status (said Answer row zone command body))) ≡ Ok (message.Status s)
        → Brings profile zone command ac body s
    go true d r f = cc
    go false d r f =
        let passes = judge_passes profile Answer zone command body (pass_first (wrong_code ac) (judge_rules profile Answer zone command body) r).1 in
        let means : Row → Message = λ row. message.Status (said Answer row zone command body) in
        let same = status passes.row (sym (ap (λ (x : Option Row). message_in x means) passes.lies.there) ∙ f) in
        record {
          its_zone = ap (λ (x : Said). x.zone) (sym same);
          its_command = ap (λ (x : Said). x.command) (sym same);
          passes = passes;
          says = ap (λ (x : Said). x.content) (sym same);
          accepts = d;
        }

-- the data of an answer in a row that is none of pairs are one byte, which the row has as an answer
one_long : (row : Row) (n : ℕ) → row.pair ≡ false → has_length Answer row n ≡ true → n ≡ 1
one_long row n p l = go (eqb n 2) (eqb n 1) refl l
  where
    go : (two one : Bool) → eqb n 1 ≡ one → cond two row.pair (one && not row.pair) ≡ true → n ≡ 1
    go true one e f = let z : ◌≡◌ {A = Bool} false true = sym p ∙ f in cc
    go false true e f = eqb-true n 1 e
    go false false e f = cc

one_byte : (row : Row) (body : List ℕ) → length body ≡ 1 → has_value Answer row body ≡ true → (b : ℕ) × (body ≡ b ∷ []) × (is_answer row b ≡ true)
one_byte row [] l v = absurd (omega (arith, l))
one_byte row (b ∷ []) l v = (b, refl, v)
one_byte row (a ∷ b ∷ rest) l v = absurd (omega (arith, l))

-- an answer of a row is never taken for spoilt: what a sheet row's answers are turned into are its sheet values
abbrev unspoilt : Row → ℕ → Bool
unspoilt row b = cond (is_answer row b) (not (is_spoilt row (normal row b))) true

abbrev keeps_answers : Row → Bool
keeps_answers row = are_bytes row.answers row.answers2 && upto 256 (unspoilt row)

all_keep : every keeps_answers table ≡ true
unfolding table upto
all_keep = refl

answer_unspoilt : (profile : Profile) (command : ℕ) (row : Row) → row_of profile command ≡ Some row → (b : ℕ) → is_answer row b ≡ true → is_spoilt row (normal row b) ≡ false
answer_unspoilt profile command row there b e =
    let (bytes, all) = both (are_bytes row.answers row.answers2) _ (row_passes keeps_answers all_keep profile command row there) in
    not-true _ (rw e at (upto_at 256 (unspoilt row) all b (code_byte row.answers row.answers2 bytes b e)))

-- a cell that is made known
abbrev pub with_byte : Tracker → ℕ → ℕ → Tracker
with_byte t cell b = record { profile = t.profile; states = set t.states cell known_state; values = set t.values cell b }

pub made : (t : Tracker) (zone : ℕ) (row : Row) (c : Content) → row.pair ≡ false → made_known t zone (Ok row) c ≡ with_byte t (cell_of row zone) (first_byte row c)
made t zone row c single = ap (λ (p : Bool). cond p t (with_byte t (cell_of row zone) (first_byte row c))) single

module _ (t : Tracker) (zone command b : ℕ) (row : Row) (has : HasCell t.profile zone command row) where
  put_known : Whole t → is_spoilt row b ≡ false → kept_in (with_byte t (cell_of row zone) b) zone command ≡ Value b
  unfolding kept_in
  put_known w s =
      let h = within t.profile zone command row has.0 in
      let state = get_or-set_same t.states (cell_of row zone) known_state 0 (omega (arith, h, w.0)) in
      let value = get_or-set_same t.values (cell_of row zone) b 0 (omega (arith, h, w.1)) in
      rw (has.0, has.1, state, value, s)

  put_others : (z k : ℕ) → ((z ≡ zone) × (k ≡ command) → ⊥) → kept_in (with_byte t (cell_of row zone) b) z k ≡ kept_in t z k
  unfolding kept_in
  put_others z k other = go (row_judged t.profile z k) refl
    where
      go : (j : Result Row Refusal) → row_judged t.profile z k ≡ j → kept_at (with_byte t (cell_of row zone) b) z j ≡ kept_at t z j
      go (Err n) f = refl
      go (Ok r) f =
          let apart : cell_of r z ≡ cell_of row zone → ⊥ = λ g. other (same_cell_lem t.profile zone command z k row r has.0 f g) in
          rw (get_or-set_other t.states (cell_of row zone) (cell_of r z) known_state 0 apart, get_or-set_other t.values (cell_of row zone) (cell_of r z) b 0 apart)

-- where there is no cell nothing is made known
none_known : (t : Tracker) (zone command : ℕ) (c : Content) → ((row : Row) → HasCell t.profile zone command row → ⊥) → made_known t zone (row_judged t.profile zone command) c ≡ t
none_known t zone command c none = go (row_judged t.profile zone command) refl
  where
    half : (row : Row) (p : Bool) → row.pair ≡ p → row_judged t.profile zone command ≡ Ok row → made_known t zone (Ok row) c ≡ t
    half row true p e = rw p
    half row false p e = absurd (none row (e, p))

    go : (j : Result Row Refusal) → row_judged t.profile zone command ≡ j → made_known t zone j c ≡ t
    go (Ok row) e = half row row.pair refl e
    go (Err n) e = refl

module _ (t : Tracker) (zone command ac : ℕ) (body : List ℕ) where
  -- after a status the tracker has its cell put
  pub after_status : (s : Said) → answer_read t zone command ac body ≡ Ok (message.Status s)
      → (answer_fed t zone command ac body).tracker ≡ made_known t zone (row_judged t.profile zone command) s.content
  after_status s e =
      let br = brings t.profile zone command ac body s e in
      ap (told t) e ∙ rw (br.its_zone, br.its_command)

  pub settle : (P : Tracker → Type 0) → P t → ((s : Said) → answer_read t zone command ac body ≡ Ok (message.Status s) → P (answer_fed t zone command ac body).tracker) → P (answer_fed t zone command ac body).tracker
  settle P same status = go (answer_read t zone command ac body) refl status
    where
      go : (r : Result Message Refusal) → answer_read t zone command ac body ≡ r
          → ((s : Said) → r ≡ Ok (message.Status s) → P (told t r)) → P (told t r)
      go (Ok (message.Command s)) e f = same
      go (Ok (message.Status s)) e f = f s refl
      go (Ok (message.Denied d)) e f = same
      go (Err n) e f = same

  -- wherever the cell is, or is not, the others stay
  put_cell : (says : Content) (z c : ℕ) → ((z ≡ zone) × (c ≡ command) → ⊥) → kept_in (made_known t zone (row_judged t.profile zone command) says) z c ≡ kept_in t z c
  put_cell says z c other = go (cell_or_none t.profile zone command)
    where
      go : ((row : Row) × HasCell t.profile zone command row) ⊎ ((row : Row) → HasCell t.profile zone command row → ⊥)
          → kept_in (made_known t zone (row_judged t.profile zone command) says) z c ≡ kept_in t z c
      go (inl h) =
          ap (λ (j : Result Row Refusal). kept_in (made_known t zone j says) z c) h.1.0 ∙ ap (λ (x : Tracker). kept_in x z c) (made t zone h.0 says h.1.1)
          ∙ put_others t zone command (first_byte h.0 says) h.0 h.1 z c other
      go (inr none) = ap (λ (x : Tracker). kept_in x z c) (none_known t zone command says none)

  put_profile : (says : Content) (j : Result Row Refusal) → (made_known t zone j says).profile ≡ t.profile
  put_profile says (Ok row) = elim row.pair as (λ p. (cond p t (with_byte t (cell_of row zone) (first_byte row says))).profile ≡ t.profile) [ true ↦ refl | false ↦ refl ]
  put_profile says (Err n) = refl

  -- the one byte of a status, as the message has it
  status_byte : (s : Said) → answer_read t zone command ac body ≡ Ok (message.Status s) → (row : Row) → HasCell t.profile zone command row
      → (data_read t.profile Answer command ac body ≡ first_byte row s.content ∷ []) × (is_spoilt row (first_byte row s.content) ≡ false)
  status_byte s f row has =
      let br = brings t.profile zone command ac body s f in
      let passes = br.passes in
      let there = (stands t.profile zone command row has.0).there in
      let same = same_row (row_of t.profile command) passes.row row passes.lies.there there in
      let long = rw same at passes.long in
      let value = rw same at passes.value in
      let one = one_byte row body (one_long row (length body) has.1 long) value in
      let load : encoded_data (encoded_of row (content_of Answer row body)) ≡ map (normal row) body = (form_promise.read t.profile command row Answer body there (rw (long, value))).1 in
      let kept : first_byte row s.content ≡ normal row one.0 =
      ap (first_byte row) (br.says ∙ ap (λ (r : Row). content_of Answer r body) same) ∙ ap (λ (l : List ℕ). get_or l 0 0) (load ∙ ap (map (normal row)) one.1) in (
        rw (br.accepts, there, one.1, kept),
        rw kept (answer_unspoilt t.profile command row there one.0 one.2),
      )

pub feed_promise : (t : Tracker) (zone command ac : ℕ) (body : List ℕ) → FeedPromise t zone command ac body
feed_promise t zone command ac body = record {
  refused = λ n e. ap (told t) e;
  denied = λ d e. ap (told t) e;
  left_out = λ none. settle t zone command ac body (λ x. x ≡ t) refl (λ s f. after_status t zone command ac body s f ∙ none_known t zone command s.content none);
  known = λ w s f row has.
      let one = status_byte t zone command ac body s f row has in
      let at = after_status t zone command ac body s f ∙ ap (λ (j : Result Row Refusal). made_known t zone j s.content) has.0 ∙ made t zone row s.content has.1 in
      (first_byte row s.content, one.0, ap (λ (x : Tracker). kept_in x zone command) at ∙ put_known t zone command (first_byte row s.content) row has w one.1);
  others = λ z c other. settle t zone command ac body (λ x. kept_in x z c ≡ kept_in t z c) refl (λ s f. ap (λ (x : Tracker). kept_in x z c) (after_status t zone command ac body s f) ∙ put_cell t zone command ac body s.content z c other);
  profile = settle t zone command ac body (λ x. x.profile ≡ t.profile) refl (λ s f. ap (λ (x : Tracker). x.profile) (after_status t zone command ac body s f) ∙ put_profile t zone command ac body s.content (row_judged t.profile zone command));
}
