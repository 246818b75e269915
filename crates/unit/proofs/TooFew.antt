-- How many zeros a run needs: 255 suffice, and 254 do not, computed.
use mathlib.Core.Path.{◌≡◌, refl}
use mathlib.Core.List.{[], ◌∷◌, ◌++◌}
use Prim.Native.Nat.{ℕ}
use native.Mathlib.Omega.{arith}
use lib.ListN.{replicate}
use Rattle.row.specs.declared.profile.Profile.TheVariants.{A}
use Rattle.sheet.specs.Check.{sheet_verdict}
use Rattle.sheetfile.specs.Run.{run_of}
use Rattle.unit.specs.Unit.{Holds, after, replies}
use Rattle.unit.specs.Sending.{setting_of}
use Rattle.unit.specs.Demand3.{moment}
use Rattle.unit.specs.FlushPromise.{old_bytes, stuck, one_line, short_sending, TooFewPromise, FlushPromise}
use Rattle.unit.proofs.Computing.{running, checking}
use Rattle.unit.proofs.Sendings.{sending_promise}
use Rattle.unit.proofs.Witness.{zeros_legal}
use Rattle.std.specs.Prelude.{Ok}

accepted : sheet_verdict A (one_line ∷ []) ≡ Ok tt
unfolding checking
accepted = refl

taken : (moment stuck short_sending 255).taken ≡ old_bytes ++ replicate 254 0x00 ++ 0x21 ∷ []
unfolding running
taken = refl

broken : (moment stuck short_sending 256).taken ≡ []
unfolding running
broken = refl

unanswered : replies stuck short_sending ≡ []
unfolding running
unanswered = refl

kept : (after stuck short_sending).settings (setting_of one_line) ≡ 0x00
unfolding running
kept = refl

missed : Holds (after stuck short_sending) (setting_of one_line) one_line.value → ⊥
unfolding running
missed held = let z : ◌≡◌ {A = ℕ} 0 1 = held in omega (arith, z)

pub too_few_promise : TooFewPromise
too_few_promise = record {
  legal = zeros_legal A;
  bytes = (omega arith, (omega arith, (omega arith, (omega arith, tt))));
  accepted = accepted;
  taken = taken;
  broken = broken;
  unanswered = unanswered;
  kept = kept;
  missed = missed;
  fails = λ promised. missed promised.full.0;
}

pub flush_promise : FlushPromise
unfolding run_of
flush_promise = record { sent = λ l ls. refl; enough = λ zeros h. sending_promise zeros (omega arith); few = too_few_promise }

-- with the run's 255 zeros the 21 falls on the end place, and the unit holds the sheet's value
pub found : (after stuck (run_of (one_line ∷ []))).settings (setting_of one_line) ≡ 0x01
unfolding running
found = refl
