-- Demand 3 of the bytes that the library wrote.
use mathlib.Core.Path.{◌≡◌, ap, sym, ◌∙◌, subst}
use mathlib.Core.List.{List}
use Prim.Native.Nat.{ℕ}
use Rattle.sheet.specs.Check.{sheet_verdict}
use Rattle.sheetfile.specs.File.{records, lines_in, file_verdict}
use Rattle.sheetfile.specs.Run.{run_of}
use Rattle.sheetfile.specs.ByLetter.{file_run_answered, file_run_left}
use Rattle.sheetfile.proofs.Trips.{accepted_marked}
use Rattle.sheetfile.proofs.Writes.{wrote}
use Rattle.unit.specs.Sending.{sendings}
use Rattle.unit.specs.Demand3.{stopped, Promised}
use Rattle.unit.specs.WrittenDemand3.{placed_bytes, WrittenDemand3}
use Rattle.unit.proofs.Demand.{demand_3}
use Rattle.std.specs.Prelude.{Ok, Result}
use Rattle.refusals.specs.declared.refusal.Refusal.{Refusal}
use Rattle.row.specs.declared.profile.Profile.{Profile}

pub written_demand_3 : WrittenDemand3
written_demand_3 = record {
  run = λ profile s before sheet cuts buf at n bytes e.
      let w = wrote buf at (run_of sheet) (sheet_verdict profile sheet) n e in
      subst (λ (run : List ℕ). Promised (stopped profile s before) sheet (sendings cuts run)) (sym w.there)
      (demand_3.holds profile s before sheet cuts bytes w.accepted);
  file = λ letter profile s before file cuts buf at n named bytes e.
      let sheet = lines_in (records file) in
      let answered = ap (λ (family : Result Profile Refusal). file_run_answered family file buf at) (sym named) ∙ e in
      let w = wrote buf at (run_of sheet) (file_verdict profile file) n answered in
      let accepted : sheet_verdict profile sheet ≡ Ok tt = (accepted_marked profile file w.accepted).2 in
      let there = ap (λ (family : Result Profile Refusal). placed_bytes (file_run_left family file buf at) at n) named ∙ w.there in
      subst (λ (run : List ℕ). Promised (stopped profile s before) sheet (sendings cuts run)) (sym there)
      (demand_3.holds profile s before sheet cuts bytes accepted);
}
