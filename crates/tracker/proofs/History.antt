-- What a tracker knows after any answers.
use mathlib.Core.Path.{◌≡◌, refl, ap, sym, ◌∙◌, subst}
use mathlib.Core.Bool.{Bool, true, false, cond}
use mathlib.Core.List.{List, [], ◌∷◌, ◌++◌}
use mathlib.Core.Logic.{◌⊎◌, inl, inr}
use Prim.Native.Nat.{ℕ, zero, suc}
use borrow.Author.Tests.{eqb-true, eqb-false}
use lib.Dec.{eqb}
use lib.ListN.{length-set, get_or, replicate}
use Rattle.lists.specs.Each.{Each}
use Rattle.frame.specs.declared.direction.Direction.TheVariants.{Answer}
use Rattle.row.specs.declared.profile.Profile.{Profile}
use Rattle.row.specs.declared.table.Row.{Row}
use Rattle.judging.specs.Judge.{row_judged}
use Rattle.message.specs.Message.{read_of, data_read}
use Rattle.message.specs.declared.content.Content.{Content}
use Rattle.message.specs.declared.read.Message.TheVariants as message
use Rattle.tracker.specs.Cell.{cell_count, cell_of}
use Rattle.tracker.specs.CellPromise.{HasCell}
use Rattle.tracker.specs.Tracker.{known_state, fresh_tracker, kept_in}
use Rattle.tracker.specs.Feed.{first_byte, made_known, answer_fed, BroughtAnswer, answers_fed}
use Rattle.tracker.specs.FeedPromise.{Whole, FeedsPromise}
use Rattle.tracker.specs.HistoryPromise.{IsStatus, Last, HistoryPromise}
use Rattle.tracker.specs.declared.tracker.Tracker.{Tracker}
use Rattle.tracker.specs.declared.tracker.Kept.TheVariants.{Value, Unknown}
use Rattle.tracker.proofs.Feeds.{with_byte, settle, after_status, feed_promise}
use Rattle.std.specs.Prelude.{Err, Ok, Result}
use Rattle.refusals.specs.declared.refusal.Refusal.{Refusal}
use Rattle.message.specs.declared.read.Message.{Message}

-- a tracker of a profile with all of its cells
abbrev pub Fit : Profile → Tracker → Type 0
Fit profile t = (t.profile ≡ profile) × Whole t

fit_put : (profile : Profile) (t : Tracker) (zone : ℕ) (j : Result Row Refusal) (c : Content) → Fit profile t → Fit profile (made_known t zone j c)
fit_put profile t zone (Ok row) c f =
    elim row.pair as (λ p. Fit profile (cond p t (with_byte t (cell_of row zone) (first_byte row c))))
    [ true ↦ f | false ↦ (f.0, (length-set t.states (cell_of row zone) known_state ∙ f.1.0, length-set t.values (cell_of row zone) (first_byte row c) ∙ f.1.1)) ]
fit_put profile t zone (Err n) c f = f

abbrev next : Tracker → BroughtAnswer → Tracker
next t a = (answer_fed t a.zone a.command a.answer a.body).tracker

pub fit_next : (profile : Profile) (t : Tracker) (a : BroughtAnswer) → Fit profile t → Fit profile (next t a)
fit_next profile t a f =
    settle t a.zone a.command a.answer a.body (Fit profile) f
    (λ s e. subst (Fit profile) (sym (after_status t a.zone a.command a.answer a.body s e)) (fit_put profile t a.zone (row_judged t.profile a.zone a.command) s.content f))

pub fit_all : (profile : Profile) (t : Tracker) (fs : List BroughtAnswer) → Fit profile t → Fit profile (answers_fed t fs)
unfolding answers_fed
fit_all profile t [] f = f
fit_all profile t (a ∷ fs) f = fit_all profile (next t a) fs (fit_next profile t a f)

-- feeding keeps the profile
keeps : (t : Tracker) (fs : List BroughtAnswer) → (answers_fed t fs).profile ≡ t.profile
unfolding answers_fed
keeps t [] = refl
keeps t (a ∷ fs) = keeps (next t a) fs ∙ (feed_promise t a.zone a.command a.answer a.body).profile

pub feeds_promise : (t : Tracker) (fs : List BroughtAnswer) → FeedsPromise t fs
feeds_promise t fs = record { profile = keeps t fs }

pub all_profile : (profile : Profile) (fs : List BroughtAnswer) → (answers_fed (fresh_tracker profile) fs).profile ≡ profile
all_profile profile fs = (fit_all profile (fresh_tracker profile) fs (refl, (refl, refl))).0

pub fed_append : (t : Tracker) (fs bs : List BroughtAnswer) → answers_fed t (fs ++ bs) ≡ answers_fed (answers_fed t fs) bs
unfolding answers_fed
fed_append t [] bs = refl
fed_append t (a ∷ fs) bs = fed_append (next t a) fs bs

one_byte_same : (a b : ℕ) → ◌≡◌ {A = List ℕ} (a ∷ []) (b ∷ []) → a ≡ b
one_byte_same a b e = cc

get_d_replicate : (n i : ℕ) → ◌≡◌ {A = ℕ} (get_or (replicate n 0) i 0) 0
get_d_replicate zero i = refl
get_d_replicate (suc n) zero = refl
get_d_replicate (suc n) (suc i) = get_d_replicate n i

module _ (profile : Profile) (zone command : ℕ) where
  -- none of some answers is a status of the zone and command
  abbrev NoneIs : List BroughtAnswer → Type 0
  NoneIs fs = Each (λ (a : BroughtAnswer). IsStatus profile zone command a → ⊥) fs

  abbrev reads : Profile → BroughtAnswer → Result Message Refusal
  reads p a = read_of p Answer a.zone a.command a.answer a.body

  abbrev shown : Profile → BroughtAnswer → List ℕ
  shown p a = data_read p Answer a.command a.answer a.body

  -- an answer that is no status of the zone and command leaves what is known of them
  step_stays : (t : Tracker) (a : BroughtAnswer) → t.profile ≡ profile → (IsStatus profile zone command a → ⊥) → kept_in (next t a) zone command ≡ kept_in t zone command
  step_stays t a p none =
      settle t a.zone a.command a.answer a.body (λ x. kept_in x zone command ≡ kept_in t zone command) refl
      (λ s e. (feed_promise t a.zone a.command a.answer a.body).others zone command (λ w. none (sym w.0, sym w.1, (s, ap (λ (q : Profile). reads q a) (sym p) ∙ e))))

  stays : (t : Tracker) (fs : List BroughtAnswer) → Fit profile t → NoneIs fs → kept_in (answers_fed t fs) zone command ≡ kept_in t zone command
  unfolding answers_fed
  stays t [] f none = refl
  stays t (a ∷ fs) f none = stays (next t a) fs (fit_next profile t a f) none.1 ∙ step_stays t a f.0 none.0

  -- in a row and zone that have a cell
  module _ (row : Row) (has : HasCell profile zone command row) where
    abbrev Knows : Tracker → BroughtAnswer → Type 0
    Knows t a = (b : ℕ) × (shown profile a ≡ b ∷ []) × (kept_in (next t a) zone command ≡ Value b)

    -- a status makes its byte known
    step_known : (t : Tracker) (a : BroughtAnswer) → Fit profile t → IsStatus profile zone command a → Knows t a
    step_known t a f w =
        let here : HasCell t.profile a.zone a.command row = rw (f.0, w.0, w.1) has in
        let read : reads t.profile a ≡ Ok (message.Status w.2.0) = ap (λ (q : Profile). reads q a) f.0 ∙ w.2.1 in
        let k = (feed_promise t a.zone a.command a.answer a.body).known f.1 w.2.0 read row here in
        (k.0, ap (λ (q : Profile). shown q a) (sym f.0) ∙ k.1, ap (λ (z : ℕ). kept_in (next t a) z command) (sym w.0) ∙ ap (λ (c : ℕ). kept_in (next t a) a.zone c) (sym w.1) ∙ k.2)

    fit_fresh : Fit profile (fresh_tracker profile)
    fit_fresh = (refl, (refl, refl))

    fresh_unknown : kept_in (fresh_tracker profile) zone command ≡ Unknown
    unfolding kept_in
    fresh_unknown = rw (has.0, has.1, get_d_replicate cell_count (cell_of row zone))

    last_known : (fs : List BroughtAnswer) (b : ℕ) → Last profile zone command fs b → kept_in (answers_fed (fresh_tracker profile) fs) zone command ≡ Value b
    unfolding answers_fed
    last_known fs b l =
        let t = answers_fed (fresh_tracker profile) l.before in
        let f = fit_all profile (fresh_tracker profile) l.before fit_fresh in
        let k = step_known t l.answer f l.status in
        let same : k.0 ≡ b = one_byte_same k.0 b (sym k.1 ∙ l.byte) in
        ap (λ (gs : List BroughtAnswer). kept_in (answers_fed (fresh_tracker profile) gs) zone command) l.whole
        ∙ ap (λ (x : Tracker). kept_in x zone command) (fed_append (fresh_tracker profile) l.before (l.answer ∷ l.later))
        ∙ stays (next t l.answer) l.later (fit_next profile t l.answer f) l.none
        ∙ k.2
        ∙ ap Value same

    decided : (a : BroughtAnswer) → IsStatus profile zone command a ⊎ (IsStatus profile zone command a → ⊥)
    decided a = go (eqb a.zone zone) (eqb a.command command) (reads profile a) refl refl refl
      where
        go : (s t : Bool) (r : Result Message Refusal) → eqb a.zone zone ≡ s → eqb a.command command ≡ t → reads profile a ≡ r
            → IsStatus profile zone command a ⊎ (IsStatus profile zone command a → ⊥)
        go false t r e f g = inr (λ w. eqb-false a.zone zone e w.0)
        go true false r e f g = inr (λ w. eqb-false a.command command f w.1)
        go true true (Ok (message.Status s)) e f g = inl (eqb-true a.zone zone e, eqb-true a.command command f, (s, g))
        go true true (Ok (message.Command s)) e f g = inr (λ w. let h = w.2.1 in cc)
        go true true (Ok (message.Denied d)) e f g = inr (λ w. let h = w.2.1 in cc)
        go true true (Err n) e f g = inr (λ w. let h = w.2.1 in cc)

    either : (fs : List BroughtAnswer) → NoneIs fs ⊎ ((b : ℕ) × Last profile zone command fs b)
    either [] = inl tt
    either (a ∷ fs) = go (either fs) (decided a)
      where
        go : NoneIs fs ⊎ ((b : ℕ) × Last profile zone command fs b) → IsStatus profile zone command a ⊎ (IsStatus profile zone command a → ⊥)
            → NoneIs (a ∷ fs) ⊎ ((b : ℕ) × Last profile zone command (a ∷ fs) b)
        go (inr l) d =
            inr (
              l.0,
              record {
                before = a ∷ l.1.before;
                answer = l.1.answer;
                later = l.1.later;
                whole = ap (λ (gs : List BroughtAnswer). a ∷ gs) l.1.whole;
                status = l.1.status;
                none = l.1.none;
                byte = l.1.byte;
              },
            )
        go (inl none) (inl w) =
            let k = step_known (fresh_tracker profile) a fit_fresh w in
            inr (k.0, record { before = []; answer = a; later = fs; whole = refl; status = w; none = none; byte = k.1 })
        go (inl none) (inr not) = inl (not, none)

pub history_promise : (profile : Profile) (zone command : ℕ) (row : Row) (has : HasCell profile zone command row) (fs : List BroughtAnswer)
    → HistoryPromise profile zone command row has fs
history_promise profile zone command row has fs = record {
  unknown = λ none. stays profile zone command (fresh_tracker profile) fs (fit_fresh profile zone command row has) none ∙ fresh_unknown profile zone command row has;
  last = last_known profile zone command row has fs;
  either = either profile zone command row has fs;
}
