-- Demand 3, of an accepted sheet.
use mathlib.Core.Path.{◌≡◌, refl}
use mathlib.Core.Bool.{true, false}
use mathlib.Core.List.{List, [], ◌∷◌, ◌++◌}
use Prim.Native.Nat.{ℕ}
use native.Mathlib.Omega.{arith}
use lib.Seq.{take-nil}
use Rattle.row.specs.declared.profile.Profile.{Profile}
use Rattle.sheet.specs.Line.{is_legal, same_cell, is_repeated}
use Rattle.sheetfile.specs.Run.{flush, run_of}
use Rattle.sheet.specs.SheetPromise.{AllSound}
use Rattle.sheet.specs.declared.line.Line.{Line}
use Rattle.sheet.proofs.Sheets.{sheet_promise}
use Rattle.lists.specs.Each.{Each}
use Rattle.streams.specs.Stream.{reader_by}
use Rattle.unit.specs.Unit.{Settings, Unit}
use Rattle.unit.specs.Sending.{AreBytes, Apart, sendings}
use Rattle.unit.specs.Demand3.{stopped, Promised, Demand3}
use Rattle.lists.proofs.Each.{each_map}
use Rattle.unit.proofs.Sendings.{sending_promise}
use Rattle.refusals.proofs.Ruled.{or_false}

-- the lines of an accepted sheet are legal, and no two have the same zone and row
repeated_last : (earlier : List Line) (k l : Line) → is_repeated (earlier ++ k ∷ []) l ≡ false → (is_repeated earlier l ≡ false) × (same_cell k l ≡ false)
unfolding is_repeated
repeated_last [] k l e = (refl, (or_false (same_cell k l) false e).0)
repeated_last (x ∷ earlier) k l e =
    let (first, rest) = or_false (same_cell x l) (is_repeated (earlier ++ k ∷ []) l) e in
    let (none, other) = repeated_last earlier k l rest in
    (rw (first, none), other)

pub record Fit (profile : Profile) (earlier ls : List Line) : Type 0 where
  pub legal : Each (λ (l : Line). is_legal profile l ≡ true) ls
  new : Each (λ (l : Line). is_repeated earlier l ≡ false) ls
  pub apart : Apart ls

pub fit : (profile : Profile) (earlier ls : List Line) → AllSound profile earlier ls → Fit profile earlier ls
fit profile earlier [] s = record { legal = tt; new = tt; apart = tt }
fit profile earlier (k ∷ ls) s =
    let rest = fit profile (earlier ++ k ∷ []) ls s.1 in
    let last = each_map (λ l. is_repeated (earlier ++ k ∷ []) l ≡ false) (λ l. (is_repeated earlier l ≡ false) × (same_cell k l ≡ false)) ls (λ l e. repeated_last earlier k l e) rest.new in
    record {
      legal = (s.0.0, rest.legal);
      new = (s.0.1, each_map _ (λ l. is_repeated earlier l ≡ false) ls (λ l e. e.0) last);
      apart = (each_map _ (λ l. same_cell k l ≡ false) ls (λ l e. e.1) last, rest.apart);
    }

-- an empty run, sent and cut as often as may be, is nothing, and does nothing
none_sent : (cuts : List ℕ) → sendings cuts [] ≡ []
none_sent [] = refl
none_sent (cut ∷ cuts) = rw (take-nil {A = ℕ} cut) (none_sent cuts)

none_kept : (u : Unit) (cuts : List ℕ) → Promised u [] (sendings cuts [])
unfolding reader_by
none_kept u cuts = record {
  sheet = λ n. tt;
  others = λ n x none. rw (none_sent cuts, take-nil {A = ℕ} n) refl;
  full = tt;
}

-- the run of legal lines that are apart: such a sending where there are any
run_kept : (profile : Profile) (s : Settings) (before : List ℕ) (ls : List Line) (cuts : List ℕ) → AreBytes before → Each (λ (l : Line). is_legal profile l ≡ true) ls → Apart ls
    → Promised (stopped profile s before) ls (sendings cuts (run_of ls))
unfolding run_of
run_kept profile s before [] cuts bytes legal apart = none_kept (stopped profile s before) cuts
run_kept profile s before (l ∷ ls) cuts bytes legal apart = (sending_promise flush (omega arith)).holds profile s before (l ∷ ls) cuts bytes legal apart

pub demand_3 : Demand3
demand_3 = record {
  holds = λ profile s before sheet cuts bytes accepted.
      let f = fit profile [] sheet ((sheet_promise profile sheet).only accepted).1 in
      run_kept profile s before sheet cuts bytes f.legal f.apart;
}
