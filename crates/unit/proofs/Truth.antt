-- What a tracker knows from a unit's answers is true of the unit.
use mathlib.Core.Path.{◌≡◌, refl, ap, sym, ◌∙◌, subst}
use mathlib.Core.Bool.{Bool, true, false, cond, ◌&&◌}
use mathlib.Core.List.{List, [], ◌∷◌, ◌++◌, map, append_assoc}
use mathlib.Core.Logic.{◌⊎◌, inl, inr}
use Prim.Native.Nat.{ℕ}
use borrow.Author.Tests.{eqb-true, eqb-false}
use lib.Dec.{eqb}
use Rattle.frame.specs.Frame.{frame_of}
use Rattle.fields.specs.Fields.{data_in}
use Rattle.frame.specs.declared.direction.Direction.TheVariants.{Command, Answer}
use Rattle.row.specs.MinusZero.{normal_in}
use Rattle.row.specs.Table.{row_of}
use Rattle.row.specs.declared.profile.Profile.{Profile}
use Rattle.row.specs.declared.table.Row.{Row}
use Rattle.row.proofs.Turned.{turned_again}
use Rattle.message.specs.Content.{content_of}
use Rattle.message.specs.Message.{said, read_of, data_read}
use Rattle.message.specs.declared.read.Said.{Said}
use Rattle.message.specs.declared.read.Message.TheVariants as message
use Rattle.sheet.specs.declared.line.Line.{Line}
use Rattle.tracker.specs.CellPromise.{HasCell}
use Rattle.tracker.specs.Tracker.{fresh_tracker, kept_in}
use Rattle.tracker.specs.Feed.{answer_fed, BroughtAnswer, answers_fed}
use Rattle.tracker.specs.FeedPromise.{FeedPromise}
use Rattle.signing.specs.Sign.{sign_off}
use Rattle.tracker.specs.Capture.{brought_by, tracked_by}
use Rattle.signing.specs.SignPromise.{IsHeld}
use Rattle.tracker.specs.declared.tracker.Tracker.{Tracker}
use Rattle.tracker.specs.declared.tracker.Kept.TheVariants as kept
use Rattle.tracker.proofs.Cells.{cell_or_none}
use Rattle.tracker.proofs.Keeps.{none_kept}
use Rattle.tracker.proofs.Feeds.{feed_promise}
use Rattle.tracker.proofs.History.{Fit, fit_all, fed_append, history_promise}
use Rattle.signing.proofs.Signs.{sign_promise}
use Rattle.signing.proofs.CaptureSigns.{capture_promise, short}
use Rattle.unit.specs.House.{value_after}
use Rattle.unit.specs.Unit.{Setting, value, input, Settings, same_setting, put, Unit, compared, Holds, about, shown, Done, refusal_code, refused, acted, zone_in, command_in, frame_done, done, takes, after, replies}
use Rattle.unit.specs.Legal.{LegalSettings}
use Rattle.unit.specs.Sending as sending
use Rattle.lists.specs.Each.{Each}
use Rattle.lists.proofs.Each.{each_map}
use Rattle.unit.specs.TruthPromise.{TruthPromise}
use Rattle.unit.proofs.Acts.{either, Accepted}
use Rattle.unit.proofs.Answers.{denied_reads, reads_said, which_cell}
use Rattle.unit.proofs.Streams.{by_frame, unit_promise}
use Rattle.tracker.proofs.Frames.{brought_none, brought_one, brought_behind}
use Rattle.streams.specs.Stream.{answers_by, reader_by}
use Rattle.lists.specs.InOrder.{in_order, joined}
use Rattle.streams.proofs.Cut.{answers_append}
use Rattle.lists.proofs.InOrder.{in_order_append}
use Rattle.std.specs.Prelude.{Ok}
use Rattle.refusals.specs.declared.refusal.Refusal.{Refusal}

-- answers that stand before others bring what they bring alone
abbrev Splits : List ℕ → Type 0
Splits bytes = (rest : List ℕ) → brought_by (bytes ++ rest) ≡ brought_by bytes ++ brought_by rest

splits_none : Splits []
splits_none rest = ap (λ (xs : List BroughtAnswer). xs ++ brought_by rest) (sym brought_none)

splits_frame : (zone command ac : ℕ) (body : List ℕ) → Splits (frame_of Answer zone command ac body)
splits_frame zone command ac body rest =
    brought_behind zone command ac body rest ∙ ap (λ (xs : List BroughtAnswer). xs ++ brought_by rest) (sym (brought_one zone command ac body))

done_splits : (u : Unit) (b : ℕ) → Splits (done u b).answer
done_splits u b =
    let bytes = u.taken ++ b ∷ [] in
    by_frame u b (λ (d : Done). Splits d.answer) splits_none
    (either u.profile u.settings bytes (λ (d : Done). Splits d.answer)
    (λ n. splits_frame (zone_in bytes) (command_in bytes) (refusal_code n) [])
    (λ a. splits_frame (zone_in bytes) (command_in bytes) 0x00 _))

pub replies_append : (u : Unit) (bs cs : List ℕ) → replies u (bs ++ cs) ≡ replies u bs ++ replies (after u bs) cs
replies_append u bs cs =
    let answer : Unit → ℕ → List ℕ = λ v b. (done v b).answer in
    ap joined (answers_append takes answer u bs cs) ∙ in_order_append (λ (x : List ℕ). x) (answers_by takes answer u bs) (answers_by takes answer (after u bs) cs)

pub brought_append : (u : Unit) (bs rest : List ℕ) → brought_by (replies u bs ++ rest) ≡ brought_by (replies u bs) ++ brought_by rest
unfolding answers_by in_order
brought_append u [] rest = splits_none rest
brought_append u (b ∷ bs) rest =
    ap brought_by (append_assoc (done u b).answer (replies (takes u b) bs) rest)
    ∙ done_splits u b (replies (takes u b) bs ++ rest)
    ∙ ap (λ (xs : List BroughtAnswer). brought_by (done u b).answer ++ xs) (brought_append (takes u b) bs rest)
    ∙ sym (append_assoc (brought_by (done u b).answer) (brought_by (replies (takes u b) bs)) (brought_by rest))
    ∙ ap (λ (xs : List BroughtAnswer). xs ++ brought_by rest) (sym (done_splits u b (replies (takes u b) bs)))

-- what is known is true of these settings
abbrev True : Profile → Tracker → Settings → Type 0
True profile t s = (zone command b : ℕ) → kept_in t zone command ≡ kept.Value b → compared profile (value zone command) (s (value zone command)) ≡ compared profile (value zone command) b

value_same : (a b : ℕ) → kept.Value a ≡ kept.Value b → a ≡ b
value_same a b e = cc

one_same : (a b : ℕ) → ◌≡◌ {A = List ℕ} (a ∷ []) (b ∷ []) → a ≡ b
one_same a b e = cc

two_not : (a b c : ℕ) → ◌≡◌ {A = List ℕ} (a ∷ b ∷ []) (c ∷ []) → ⊥
two_not a b c e = cc

no_cell_not : (b : ℕ) → kept.NoCell ≡ kept.Value b → ⊥
no_cell_not b e = cc

-- an answer that shows one cell, which is its row's or an input's, and the settings in which that cell alone may differ
module _ (profile : Profile) (t : Tracker) (fit : Fit profile t) (s : Settings) (true_before : True profile t s) (z k : ℕ) (x : Setting) (v : ℕ)
    (which : (x ≡ value z k) ⊎ ((i : ℕ) × (x ≡ input i))) (said : Said)
    (reads : read_of profile Answer z k 0x00 (shown x (put s x v x)) ≡ Ok (message.Status said)) where
  abbrev next : Tracker
  next = (answer_fed t z k 0x00 (shown x (put s x v x))).tracker

  promise : FeedPromise t z k 0x00 (shown x (put s x v x))
  promise = feed_promise t z k 0x00 (shown x (put s x v x))

  -- another row or zone
  other : (zone command : ℕ) → ((zone ≡ z) × (command ≡ k) → ⊥) → put s x v (value zone command) ≡ s (value zone command)
  other zone command differ = go which
    where
      apart : eqb z zone && eqb k command ≡ false
      apart = by_test (eqb z zone) (eqb k command) refl refl
        where
          by_test : (p q : Bool) → eqb z zone ≡ p → eqb k command ≡ q → p && q ≡ false
          by_test true true e f = absurd (differ (sym (eqb-true z zone e), sym (eqb-true k command f)))
          by_test true false e f = refl
          by_test false q e f = refl

      go : (x ≡ value z k) ⊎ ((i : ℕ) × (x ≡ input i)) → put s x v (value zone command) ≡ s (value zone command)
      go (inl e) = ap (λ (y : Setting). cond (same_setting y (value zone command)) v (s (value zone command))) e ∙ rw apart
      go (inr e) = ap (λ (y : Setting). cond (same_setting y (value zone command)) v (s (value zone command))) e.1

  -- its own
  abbrev Own : ℕ → Type 0
  Own b = compared profile (value z k) (put s x v (value z k)) ≡ compared profile (value z k) b

  abbrev turned : ℕ → ℕ
  turned b = normal_in (row_of profile k) b

  own_known : (row : Row) → HasCell profile z k row → (b : ℕ) → kept_in next z k ≡ kept.Value b → Own b
  own_known row c b e =
      let w = promise.known fit.1 said (rw fit.0 reads) row (rw fit.0 c) in
      go which (ap (λ (p : Profile). data_read p Answer k 0x00 (shown x (put s x v x))) (sym fit.0) ∙ w.1 ∙ ap (λ (n : ℕ). n ∷ []) (value_same w.0 b (sym w.2 ∙ e)))
    where
      go : (x ≡ value z k) ⊎ ((i : ℕ) × (x ≡ input i)) → map turned (shown x (put s x v x)) ≡ b ∷ [] → Own b
      go (inl f) h =
          let kept : turned (put s x v x) ≡ b = one_same (turned (put s x v x)) b (ap (λ (y : Setting). map turned (shown y (put s x v x))) (sym f) ∙ h) in
          ap (λ (y : Setting). turned (put s x v y)) (sym f) ∙ sym (turned_again (row_of profile k) (put s x v x)) ∙ ap turned kept
      go (inr f) h = absurd (two_not (turned f.0) (turned (put s x v x)) b (ap (λ (y : Setting). map turned (shown y (put s x v x))) (sym f.1) ∙ h))

  own : (b : ℕ) → kept_in next z k ≡ kept.Value b → Own b
  own b e = go (cell_or_none profile z k)
    where
      go : ((row : Row) × HasCell profile z k row) ⊎ ((row : Row) → HasCell profile z k row → ⊥) → Own b
      go (inl h) = own_known h.0 h.1 b e
      go (inr f) =
          let here : (row : Row) → HasCell t.profile z k row → ⊥ = rw fit.0 f in
          absurd (no_cell_not b (sym (none_kept t z k here) ∙ sym (ap (λ (y : Tracker). kept_in y z k) (promise.left_out here)) ∙ e))

  true_shown : True profile next (put s x v)
  true_shown zone command b e = go (eqb zone z) (eqb command k) refl refl
    where
      Same : Type 0
      Same = compared profile (value zone command) (put s x v (value zone command)) ≡ compared profile (value zone command) b

      differs : ((zone ≡ z) × (command ≡ k) → ⊥) → Same
      differs d = ap (compared profile (value zone command)) (other zone command d) ∙ true_before zone command b (sym (promise.others zone command d) ∙ e)

      go : (p q : Bool) → eqb zone z ≡ p → eqb command k ≡ q → Same
      go true true f g =
          let zones = eqb-true zone z f in
          let commands = eqb-true command k g in
          rw (zones, commands) (own b (ap (λ (y : ℕ). kept_in next y k) (sym zones) ∙ ap (λ (y : ℕ). kept_in next zone y) (sym commands) ∙ e))
      go true false f g = differs (λ w. eqb-false command k g w.1)
      go false q f g = differs (λ w. eqb-false zone z f w.0)

-- a frame
module _ (profile : Profile) (s : Settings) (legal : LegalSettings profile s) (t : Tracker) (fit : Fit profile t) (true_before : True profile t s) (bytes : List ℕ) where
  abbrev Heard : Done → Type 0
  Heard d = True profile (answers_fed t (brought_by d.answer)) d.settings

  one_fed : (zone command ac : ℕ) (body : List ℕ) → answers_fed t (brought_by (frame_of Answer zone command ac body)) ≡ (answer_fed t zone command ac body).tracker
  unfolding answers_fed
  one_fed zone command ac body = ap (answers_fed t) (brought_one zone command ac body)

  refused_true : (n : Refusal) → Heard (refused s (zone_in bytes) (command_in bytes) n)
  refused_true n =
      let z = zone_in bytes in
      let k = command_in bytes in
      let read = ap (λ (p : Profile). read_of p Answer z k (refusal_code n) []) fit.0 ∙ denied_reads profile z k n in
      subst (λ (y : Tracker). True profile y s) (sym (one_fed z k (refusal_code n) [] ∙ (feed_promise t z k (refusal_code n) []).denied _ read)) true_before

  acted_true : (a : Accepted profile (zone_in bytes) (command_in bytes) (data_in Command bytes)) → Heard (acted a.row s (said Command a.row (zone_in bytes) (command_in bytes) (data_in Command bytes)))
  acted_true a =
      let z = zone_in bytes in
      let k = command_in bytes in
      let d = data_in Command bytes in
      let row = a.row in
      let c = content_of Command row d in
      let x = about row s z k c in
      let v = value_after row c (s x) in
      subst (λ (y : Tracker). True profile y (put s x v)) (sym (one_fed z k 0x00 (shown x (put s x v x))))
      (true_shown profile t fit s true_before z k x v (which_cell profile s legal z k d a) _ (reads_said profile s legal z k d a))

  pub frame_true : Heard (frame_done profile s bytes)
  frame_true = either profile s bytes Heard refused_true acted_true

-- any bytes
true_on : (u : Unit) (sent : List ℕ) → LegalSettings u.profile u.settings → (t : Tracker) → Fit u.profile t → True u.profile t u.settings
    → True u.profile (answers_fed t (brought_by (replies u sent))) (after u sent).settings
unfolding answers_by in_order reader_by answers_fed
true_on u [] legal t fit h = subst (λ (fs : List BroughtAnswer). True u.profile (answers_fed t fs) u.settings) (sym brought_none) h
true_on u (b ∷ bs) legal t fit h =
    let next = answers_fed t (brought_by (done u b).answer) in
    let step : True u.profile next (takes u b).settings =
    by_frame u b (λ (d : Done). True u.profile (answers_fed t (brought_by d.answer)) d.settings)
    (subst (λ (fs : List BroughtAnswer). True u.profile (answers_fed t fs) u.settings) (sym brought_none) h)
    (frame_true u.profile u.settings legal t fit h (u.taken ++ b ∷ [])) in
    let rest = true_on (takes u b) bs ((unit_promise u (b ∷ [])).legal legal) next (fit_all u.profile t (brought_by (done u b).answer) fit) step in
    subst (λ (y : Tracker). True u.profile y (after (takes u b) bs).settings)
    (sym (ap (answers_fed t) (done_splits u b (replies (takes u b) bs)) ∙ fed_append t (brought_by (done u b).answer) (brought_by (replies (takes u b) bs)))) rest

fresh_true : (profile : Profile) (s : Settings) → True profile (fresh_tracker profile) s
unfolding answers_fed
fresh_true profile s zone command b e = go (cell_or_none profile zone command)
  where
    unknown_not : kept.Unknown ≡ kept.Value b → ⊥
    unknown_not f = cc

    go : ((row : Row) × HasCell profile zone command row) ⊎ ((row : Row) → HasCell profile zone command row → ⊥)
        → compared profile (value zone command) (s (value zone command)) ≡ compared profile (value zone command) b
    go (inl h) = absurd (unknown_not (sym ((history_promise profile zone command h.0 h.1 []).unknown tt) ∙ e))
    go (inr none) = absurd (no_cell_not b (sym (none_kept (fresh_tracker profile) zone command none) ∙ e))

pub after_profile : (u : Unit) (bs : List ℕ) → (after u bs).profile ≡ u.profile
unfolding reader_by
after_profile u [] = refl
after_profile u (b ∷ bs) = after_profile (takes u b) bs

pub known_true : (u : Unit) (sent : List ℕ) → LegalSettings u.profile u.settings → (zone command b : ℕ) → kept_in (tracked_by u.profile (replies u sent)) zone command ≡ kept.Value b
    → Holds (after u sent) (value zone command) b
known_true u sent legal zone command b e =
    rw (after_profile u sent)
    (true_on u sent legal (fresh_tracker u.profile) (refl, (refl, refl)) (fresh_true u.profile u.settings) zone command b e)

pub truth_promise : (u : Unit) (sent : List ℕ) → TruthPromise u sent
truth_promise u sent = record {
  known = known_true u sent;
  signed = signed;
  captured = λ legal ls e.
      let w = (capture_promise u.profile ls (replies u sent)).only e in
      signed legal ls (sym (short u.profile ls (replies u sent) w.0) ∙ e);
}
  where
    signed : LegalSettings u.profile u.settings → (ls : List Line) → sign_off (tracked_by u.profile (replies u sent)) ls ≡ Ok true
        → Each (λ (l : Line). Holds (after u sent) (sending.setting_of l) l.value) ls
    signed legal ls e =
        let t = tracked_by u.profile (replies u sent) in
        each_map (IsHeld t) (λ (l : Line). Holds (after u sent) (sending.setting_of l) l.value) ls (λ l h. known_true u sent legal l.zone l.command l.value h) ((sign_promise t ls).only e).1
