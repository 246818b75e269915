-- A sign-off is the sheet's refusal, or whether every line's cell is known and equal.
use mathlib.Core.Path.{◌≡◌, refl, ap, sym, ◌∙◌, subst}
use mathlib.Core.Bool.{Bool, true, false}
use mathlib.Core.List.{List, [], ◌∷◌, ◌++◌}
use mathlib.Core.Logic.{◌⊎◌, inl, inr}
use Prim.Native.Nat.{ℕ, ◌≤◌}
use borrow.Author.Tests.{eq-eqb, eqb-true}
use Rattle.lists.specs.Each.{Each}
use Rattle.lists.proofs.Each.{each_map}
use Rattle.lists.proofs.Tests.{both}
use Rattle.row.specs.declared.profile.Profile.{Profile}
use Rattle.row.specs.declared.table.Row.{Row}
use Rattle.sheet.specs.Sheet.{sheet_limit, lines_of}
use Rattle.sheet.specs.Check.{sheet_verdict}
use Rattle.sheet.specs.SheetPromise.{AllSound}
use Rattle.sheet.specs.declared.line.Line.{Line}
use Rattle.sheet.specs.declared.sheet.Sheet.{Sheet}
use Rattle.sheet.proofs.Faults.{first_many}
use Rattle.sheet.proofs.Sheets.{sheet_promise}
use Rattle.tracker.specs.CellPromise.{HasCell}
use Rattle.tracker.specs.Tracker.{fresh_tracker, kept_in}
use Rattle.tracker.specs.Feed.{BroughtAnswer, answers_fed}
use Rattle.signing.specs.Sign.{holds_in, holds, all_hold, signed_by}
use Rattle.tracker.specs.HistoryPromise.{IsStatus, Last, HistoryPromise}
use Rattle.signing.specs.SignPromise.{IsHeld, IsAnswered, SignPromise, SignHistoryPromise}
use Rattle.tracker.specs.declared.tracker.Tracker.{Tracker}
use Rattle.tracker.specs.declared.tracker.Kept.{Kept}
use Rattle.tracker.specs.declared.tracker.Kept.TheVariants as kept
use Rattle.tracker.proofs.Cells.{cell_or_none, legal_cell}
use Rattle.tracker.proofs.Keeps.{none_kept}
use Rattle.tracker.proofs.History.{all_profile, history_promise}
use Rattle.std.specs.Prelude.{Err, Ok, Result}
use Rattle.refusals.specs.declared.refusal.Fault.{Fault}

-- an accepted sheet has no more lines than there is room for
pub accepted_count : (profile : Profile) (s : Sheet) → sheet_verdict profile (lines_of s) ≡ Ok tt → s.count ≤ sheet_limit
accepted_count profile s e = rw (first_many s.lines s.count) at ((sheet_promise profile (lines_of s)).only e).0

-- a line holds exactly when its cell is known and equal
holds_if : (t : Tracker) (l : Line) → kept_in t l.zone l.command ≡ kept.Value l.value → holds t l ≡ true
holds_if t l e = ap (λ (k : Kept). holds_in k l.value) e ∙ eq-eqb l.value l.value refl

holds_only : (k : Kept) (v : ℕ) → holds_in k v ≡ true → k ≡ kept.Value v
holds_only (kept.Value b) v e = ap kept.Value (eqb-true b v e)
holds_only kept.Unknown v e = cc
holds_only kept.NoCell v e = cc

all_if : (t : Tracker) (ls : List Line) → Each (IsHeld t) ls → all_hold t ls ≡ true
unfolding all_hold
all_if t [] w = refl
all_if t (l ∷ ls) w = rw (holds_if t l w.0, all_if t ls w.1)

all_only : (t : Tracker) (ls : List Line) → all_hold t ls ≡ true → Each (IsHeld t) ls
unfolding all_hold
all_only t [] e = tt
all_only t (l ∷ ls) e =
    let w = both (holds t l) (all_hold t ls) e in
    (holds_only (kept_in t l.zone l.command) l.value w.0, all_only t ls w.1)

yes_only : (v : Result (Unit {0}) Fault) (b : Bool) → signed_by v b ≡ Ok true → (v ≡ Ok tt) × (b ≡ true)
yes_only (Ok u) b e = (refl, cc)
yes_only (Err f) b e = cc

no_when : (t : Tracker) (ls : List Line) → (Each (IsHeld t) ls → ⊥) → all_hold t ls ≡ false
no_when t ls w = go (all_hold t ls) refl
  where
    go : (b : Bool) → all_hold t ls ≡ b → all_hold t ls ≡ false
    go true e = absurd (w (all_only t ls e))
    go false e = e

pub sign_promise : (t : Tracker) (ls : List Line) → SignPromise t ls
sign_promise t ls = record {
  refused = λ f e. ap (λ (v : Result (Unit {0}) Fault). signed_by v (all_hold t ls)) e;
  yes = λ e w. ap (λ (v : Result (Unit {0}) Fault). signed_by v (all_hold t ls)) e ∙ ap Ok (all_if t ls w);
  no = λ e w. ap (λ (v : Result (Unit {0}) Fault). signed_by v (all_hold t ls)) e ∙ ap Ok (no_when t ls w);
  only = λ e. let y = yes_only (sheet_verdict t.profile ls) (all_hold t ls) e in (y.0, all_only t ls y.1);
}

-- what is known was said by the last status answer
module _ (profile : Profile) (fs : List BroughtAnswer) where
  abbrev t : Tracker
  t = answers_fed (fresh_tracker profile) fs

  same : (a b : ℕ) → kept.Value a ≡ kept.Value b → a ≡ b
  same a b e = cc

  unknown_not : (b : ℕ) → kept.Unknown ≡ kept.Value b → ⊥
  unknown_not b e = cc

  no_cell_not : (b : ℕ) → kept.NoCell ≡ kept.Value b → ⊥
  no_cell_not b e = cc

  -- what has no cell is not known
  known_cell : (zone command b : ℕ) → kept_in t zone command ≡ kept.Value b → (row : Row) × HasCell profile zone command row
  known_cell zone command b e = go (cell_or_none profile zone command)
    where
      go : ((row : Row) × HasCell profile zone command row) ⊎ ((row : Row) → HasCell profile zone command row → ⊥) → (row : Row) × HasCell profile zone command row
      go (inl h) = h
      go (inr none) = absurd (no_cell_not b (sym (none_kept t zone command (rw (all_profile profile fs) none)) ∙ e))

  known_last : (zone command b : ℕ) → kept_in t zone command ≡ kept.Value b → Last profile zone command fs b
  known_last zone command b e =
      let c = known_cell zone command b e in
      let h = history_promise profile zone command c.0 c.1 fs in
      go h h.either
    where
      go : {row : Row} {has : HasCell profile zone command row} → HistoryPromise profile zone command row has fs
          → Each (λ (a : BroughtAnswer). IsStatus profile zone command a → ⊥) fs ⊎ ((x : ℕ) × Last profile zone command fs x) → Last profile zone command fs b
      go h (inl none) = absurd (unknown_not b (sym (h.unknown none) ∙ e))
      go h (inr l) = subst (λ (x : ℕ). Last profile zone command fs x) (same l.0 b (sym (h.last l.0 l.1) ∙ e)) l.1

  all_last : (ls : List Line) → Each (IsHeld t) ls → Each (IsAnswered profile fs) ls
  all_last ls w = each_map (IsHeld t) (IsAnswered profile fs) ls (λ l h. known_last l.zone l.command l.value h) w

  -- each line of an accepted sheet has a cell, and so the last status answer of it is known
  all_known : (earlier ls : List Line) → AllSound profile earlier ls → Each (IsAnswered profile fs) ls → Each (IsHeld t) ls
  all_known earlier [] s w = tt
  all_known earlier (l ∷ ls) s w =
      let c = legal_cell profile l s.0.0 in
      ((history_promise profile l.zone l.command c.0 c.1 fs).last l.value w.0, all_known (earlier ++ l ∷ []) ls s.1 w.1)

  -- the tracker's profile is the one that it was made for
  pub its_verdict : (ls : List Line) → sheet_verdict t.profile ls ≡ sheet_verdict profile ls
  its_verdict ls = ap (λ (p : Profile). sheet_verdict p ls) (all_profile profile fs)

  pub sign_history_promise : (ls : List Line) → SignHistoryPromise profile fs ls
  sign_history_promise ls = record {
    refused = λ f e. (sign_promise t ls).refused f (its_verdict ls ∙ e);
    yes = λ a w. (sign_promise t ls).yes (its_verdict ls ∙ a) (all_known [] ls ((sheet_promise profile ls).only a).1 w);
    no = λ a w. (sign_promise t ls).no (its_verdict ls ∙ a) (λ hold. w (all_last ls hold));
    only = λ e. let w = (sign_promise t ls).only e in (sym (its_verdict ls) ∙ w.0, all_last ls w.1);
  }
