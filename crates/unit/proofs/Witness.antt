-- Demand 3's premises can be met, computed: legal settings that differ from the full sheet of A on each of its fifteen lines, and a plug
-- pulled inside a frame, inside the last one, and inside the flush.
use mathlib.Core.Path.{◌≡◌, refl, ap, sym, ◌∙◌}
use mathlib.Core.Bool.{Bool, true, false, cond, not, ◌&&◌}
use mathlib.Core.List.{List, [], ◌∷◌, ◌++◌, map}
use Prim.Native.Nat.{ℕ}
use native.Mathlib.Omega.{arith}
use lib.Dec.{eqb}
use lib.ListN.{take, replicate}
use Rattle.row.specs.Table.{table}
use Rattle.row.specs.declared.profile.Profile.{Profile}
use Rattle.row.specs.declared.profile.Profile.TheVariants.{A}
use Rattle.row.specs.declared.table.Row.{Row}
use Rattle.judging.specs.Judge.{is_answer}
use Rattle.message.proofs.Tidy.{every, row_passes}
use Rattle.sheetfile.specs.Run.{run_of}
use Rattle.sheetfile.proofs.Witness.{fifteen, fifteen_accepted}
use Rattle.sheet.specs.declared.line.Line.{Line}
use Rattle.unit.specs.Unit.{Setting, value, input, current, same_setting, Unit, Holds, after}
use Rattle.unit.specs.Legal.{LegalSettings, RowIn}
use Rattle.unit.specs.SettingsPromise.{SomeLegalPromise}
use Rattle.unit.specs.Sending.{setting_of, NotOn, sendings}
use Rattle.unit.specs.UnitTablePromise.{zero_settings}
use Rattle.unit.specs.Demand3.{stopped, moment, Promised}
use Rattle.lists.proofs.Tests.{both}
use Rattle.unit.proofs.Computing.{running}
use Rattle.unit.proofs.Cells.{cell_self}
use Rattle.unit.proofs.Tests.{clash}
use Rattle.judging.proofs.Judges.{judged_lies}
use Rattle.unit.proofs.Demand.{demand_3}

-- 00 in every row, and input 01, are legal in both profiles
abbrev zero_fits : Row → Bool
zero_fits row = cond row.pair (is_answer row 0x01) (is_answer row 0x00)

zero_fits_lem : every zero_fits table ≡ true
unfolding table
zero_fits_lem = refl

pub zeros_legal : (profile : Profile) → LegalSettings profile zero_settings
zeros_legal profile = record {
  rows = λ z c row there single. rw single at (fits z c row there);
  inputs = λ z c row there paired i known. rw (paired, known);
  now = λ z c row there paired. rw paired at (fits z c row there);
}
  where
    fits : (z c : ℕ) (row : Row) → RowIn profile z c row → zero_fits row ≡ true
    fits z c row there = row_passes zero_fits zero_fits_lem profile c row (judged_lies profile z c row there).there

pub some_legal_promise : (profile : Profile) → SomeLegalPromise profile
some_legal_promise profile = record { settings = zero_settings; legal = zeros_legal profile }

-- a unit at legal settings, none of which is the sheet's, stopped after 21 01 3A FF 05, with 254 bytes of data to come
abbrev before : List ℕ
before = 0x21 ∷ 0x01 ∷ 0x3A ∷ 0xFF ∷ 0x05 ∷ []

abbrev start : Unit
start = stopped A zero_settings before

pub differs : map (λ (l : Line). eqb (zero_settings (setting_of l)) l.value) fifteen ≡ replicate 15 false
differs = refl

-- the plug pulled after 276 bytes, inside the fourth frame; after 342, inside the fifteenth and last; inside the flush; then a full run
abbrev cuts : List ℕ
cuts = 276 ∷ 342 ∷ 100 ∷ []

abbrev sent : List ℕ
sent = sendings cuts (run_of fifteen)

pub applied : Promised start fifteen sent
applied =
    demand_3.holds A zero_settings before fifteen cuts
    (omega arith, (omega arith, (omega arith, (omega arith, (omega arith, tt))))) fifteen_accepted

-- what it says, computed beside it: at the first cut three lines are set and the reader stands inside the fourth's frame
pub pulled : map (λ (l : Line). (moment start sent 276).settings (setting_of l)) fifteen ≡ 0x02 ∷ 0x01 ∷ 0x02 ∷ replicate 12 0x00
unfolding running
pulled = refl

pub pulled_inside : (moment start sent 276).taken ≡ 0x21 ∷ 0x01 ∷ 0x39 ∷ []
unfolding running
pulled_inside = refl

-- at the second all but the last, and the reader stands inside the last frame
pub pulled_last : map (λ (l : Line). (moment start sent 618).settings (setting_of l)) fifteen ≡ take 14 (map (λ (l : Line). l.value) fifteen) ++ 0x00 ∷ []
unfolding running
pulled_last = refl

pub pulled_inside_last : (moment start sent 618).taken ≡ 0x21 ∷ 0x03 ∷ 0x46 ∷ []
unfolding running
pulled_inside_last = refl

-- the third sending, cut inside its flush, has added nothing; at the end all are set
pub pulled_again : map (λ (l : Line). (moment start sent 718).settings (setting_of l)) fifteen ≡ take 14 (map (λ (l : Line). l.value) fifteen) ++ 0x00 ∷ []
unfolding running
pulled_again = refl

pub reached : map (λ (l : Line). (after start sent).settings (setting_of l)) fifteen ≡ map (λ (l : Line). l.value) fifteen
unfolding running
reached = refl

-- settings that are not on the sheet, a row's, an input's and the current input, at every moment
abbrev is_not_on : List Line → Setting → Bool
is_not_on [] x = true
is_not_on (l ∷ ls) x = not (same_setting (setting_of l) x) && is_not_on ls x

not_on : (ls : List Line) (x : Setting) → is_not_on ls x ≡ true → NotOn ls x
not_on [] x e = tt
not_on (l ∷ ls) x e =
    let (first, rest) = both (not (same_setting (setting_of l) x)) (is_not_on ls x) e in
    (λ same. clash (sym (ap not (ap (λ (y : Setting). same_setting y x) same ∙ cell_self x)) ∙ first), not_on ls x rest)

pub untouched : (n : ℕ)
    → Holds (moment start sent n) (value 1 0x37) 0x00 × Holds (moment start sent n) (input 0x06) 0x00 × Holds (moment start sent n) current 0x01
untouched n = (
  applied.others n (value 1 0x37) (not_on fifteen (value 1 0x37) refl),
  applied.others n (input 0x06) (not_on fifteen (input 0x06) refl),
  applied.others n current (not_on fifteen current refl),
)
