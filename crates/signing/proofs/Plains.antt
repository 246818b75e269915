-- A sheet file signed off by a capture, and a cell of a capture: over the limit, and within it.
use mathlib.Core.Path.{◌≡◌, refl, ap, sym, ◌∙◌}
use mathlib.Core.Bool.{Bool}
use mathlib.Core.List.{List, [], ◌∷◌}
use Prim.Native.Nat.{ℕ, ◌≤◌, ◌<◌}
use borrow.Author.Tests.{ne_eqb, lt-ltb, le-ltb}
use lib.ListN.{length}
use Rattle.std.specs.Prelude.{Err, Ok, Result}
use Rattle.refusals.specs.Refusal.{fault}
use Rattle.refusals.specs.Rule.{ruled}
use Rattle.refusals.specs.declared.refusal.Refusal.{Refusal}
use Rattle.refusals.specs.declared.refusal.Refusal.TheVariants.{TooLong}
use Rattle.refusals.specs.declared.refusal.Fault.{Fault}
use Rattle.frame.specs.Capture.{capture_limit, long_capture}
use Rattle.row.specs.Profile.{profile_of}
use Rattle.row.specs.declared.profile.Profile.{Profile}
use Rattle.sheet.specs.Sheet.{sheet_limit, no_lines, with_all, lines_of}
use Rattle.sheet.specs.Check.{sheet_verdict}
use Rattle.sheet.specs.declared.line.Line.{Line}
use Rattle.sheet.specs.declared.sheet.Sheet.{Sheet}
use Rattle.sheet.proofs.Sheets.{accepted_short}
use Rattle.sheetfile.specs.File.{records, lines_in, file_verdict, read_by, file_read}
use Rattle.sheetfile.proofs.Trips.{trip_lines, trip_verdict, read_accepted, read_kept}
use Rattle.sheetfile.proofs.Plains.{said, both}
use Rattle.tracker.specs.Tracker.{fresh_tracker, kept_in}
use Rattle.tracker.specs.Capture.{brought_by, tracked_by, capture_fed}
use Rattle.tracker.specs.declared.tracker.Tracker.{Tracker}
use Rattle.tracker.specs.declared.capture.CaptureFed.{CaptureFed}
use Rattle.tracker.proofs.Captures.{fed_short, fed_within, fed_over}
use Rattle.signing.specs.Sign.{all_hold, signed_by}
use Rattle.signing.specs.Capture.{capture_signed}
use Rattle.signing.specs.ByLetter.{file_signed, held_as, held_file, capture_cell}
use Rattle.signing.specs.SignByLetterPromise.{SignByLetterPromise, SignOtherLetter}
use Rattle.signing.specs.declared.by_letter.HeldFile.{HeldFile}
use Rattle.signing.proofs.Signs.{its_verdict}
use Rattle.signing.proofs.CaptureSigns.{short}

module _ (profile : Profile) (file : List ℕ) where
  abbrev lines : List Line
  lines = lines_in (records file)

  abbrev kept_lines : Sheet
  kept_lines = with_all no_lines lines

  -- an accepted file's lines are all kept
  read_lines : file_verdict profile file ≡ Ok tt → lines_of kept_lines ≡ lines
  read_lines e = read_kept profile file kept_lines (ap (λ (v : Result (Unit {0}) Fault). read_by v lines) e)

  -- and there is room for them
  module _ (s : Sheet) (e : file_read profile file ≡ Ok s) where
    its_lines : sheet_verdict profile lines ≡ Ok tt
    its_lines = both profile file s e ∙ (read_accepted profile file s e).0

    pub read_room : s.count ≤ sheet_limit
    read_room = accepted_short profile s (ap (sheet_verdict profile) (read_kept profile file s e) ∙ its_lines)

-- over the limit, refused, and accepted
module _ (profile : Profile) (file capture : List ℕ) where
  pub file_long : capture_limit < length capture → file_signed profile file capture ≡ Err (fault TooLong 0)
  file_long h = rw (lt-ltb capture_limit (length capture) h)

  within : length capture ≤ capture_limit → (v : Result (Unit {0}) Fault) → file_verdict profile file ≡ v → file_signed profile file capture ≡ signed_by v (all_hold (tracked_by profile capture) (lines profile file))
  within h v e = rw (le-ltb capture_limit (length capture) h) (ap (λ (x : Result (Unit {0}) Fault). signed_by x (all_hold (tracked_by profile capture) (lines profile file))) e)

  pub file_refused : length capture ≤ capture_limit → (f : Fault) → file_read profile file ≡ Err f → file_signed profile file capture ≡ Err f
  file_refused h f e = within h (Err f) (said profile file f e)

  pub file_accepted : length capture ≤ capture_limit → (s : Sheet) → file_read profile file ≡ Ok s → capture_signed profile (lines_of s) capture ≡ file_signed profile file capture
  file_accepted h s e =
      ap (λ (ls : List Line). capture_signed profile ls capture) (read_kept profile file s e)
      ∙ short profile (lines profile file) capture h
      ∙ ap (λ (v : Result (Unit {0}) Fault). signed_by v (all_hold (tracked_by profile capture) (lines profile file))) (its_verdict profile (brought_by capture) (lines profile file) ∙ its_lines profile file s e)
      ∙ sym (within h (Ok tt) (read_accepted profile file s e).0)

  -- what holding an accepted file gives, and a refused one
  held_yes : length capture ≤ capture_limit → file_verdict profile file ≡ Ok tt
      → held_file profile file capture
      ≡ Ok (record { agrees = all_hold (tracked_by profile capture) (lines_of (kept_lines profile file)); tracker = tracked_by profile capture; sheet = kept_lines profile file })
  held_yes h e = rw (le-ltb capture_limit (length capture) h, e, read_lines profile file e)

  held_no : (f : Fault) → file_signed profile file capture ≡ Err f → held_file profile file capture ≡ Err f
  held_no f e = ap (λ (s : Result Bool Fault). held_as s (capture_fed (fresh_tracker profile) capture).tracker (kept_lines profile file)) e

  -- holding goes on from feeding, and then from reading
  module _ (f : CaptureFed) (e : f ≡ capture_fed (fresh_tracker profile) capture) where
    pub held_read : f.answer ≡ Ok tt → (s : Sheet) → file_read profile file ≡ Ok s
        → held_file profile file capture ≡ Ok (record { agrees = all_hold f.tracker (lines_of s); tracker = f.tracker; sheet = s })
    held_read fed s read =
        let h = fed_within (fresh_tracker profile) capture f e fed in
        let r = read_accepted profile file s read in
        held_yes h r.0
        ∙ ap (λ (x : Sheet). held_with (tracked_by profile capture) x) (sym r.1)
        ∙ ap (λ (x : CaptureFed). held_with x.tracker s) (sym (e ∙ fed_short (fresh_tracker profile) capture h))
      where
        held_with : Tracker → Sheet → Result HeldFile Fault
        held_with t x = Ok (record { agrees = all_hold t (lines_of x); tracker = t; sheet = x })

-- a cell goes on from feeding
module _ (profile : Profile) (capture : List ℕ) (zone command : ℕ) (f : CaptureFed) (e : f ≡ capture_fed (fresh_tracker profile) capture) where
  pub cell_fed : f.answer ≡ Ok tt → capture_cell profile capture zone command ≡ Ok (kept_in f.tracker zone command)
  cell_fed fed =
      let within = fed_within (fresh_tracker profile) capture f e fed in
      rw (le-ltb capture_limit (length capture) within) (ap (λ (x : CaptureFed). Ok (kept_in x.tracker zone command)) (sym (e ∙ fed_short (fresh_tracker profile) capture within)))

  pub cell_refused : (n : Refusal) → f.answer ≡ Err n → capture_cell profile capture zone command ≡ Err n
  cell_refused n refused =
      let over = fed_over (fresh_tracker profile) capture f e n refused in
      rw (lt-ltb capture_limit (length capture) over.0) (ap Err (sym over.1))

pub plain_promise : (letter : ℕ) (profile : Profile) (n : profile_of letter ≡ Ok profile) (capture : List ℕ) → SignByLetterPromise letter profile n capture
plain_promise letter profile n capture = record {
  signs = λ ls.
      rw (n, trip_verdict profile ls, trip_lines profile ls)
      (ap (λ (v : Result (Unit {0}) Fault). ruled (long_capture (length capture) ∷ []) (λ m. Err (fault m 0)) (signed_by v (all_hold (tracked_by profile capture) ls))) (sym (its_verdict profile (brought_by capture) ls)));
  held = λ h file e.
      let t = tracked_by profile capture in
      let s = kept_lines profile file in (
        record { agrees = all_hold t (lines_of s); tracker = t; sheet = s },
        held_yes profile file capture h e,
        rw n (within profile file capture h (Ok tt) e ∙ ap (λ (ls : List Line). Ok (all_hold t ls)) (sym (read_lines profile file e))),
        refl,
      );
  nothing = λ file f e. held_no profile file capture f (rw n at e);
  shows = λ h zone command. rw (n, le-ltb capture_limit (length capture) h) (refl, refl, refl);
  refused = λ h file f e. rw (n, le-ltb capture_limit (length capture) h, e) (refl, refl, refl);
  eleven = λ h file zone command. rw (n, lt-ltb capture_limit (length capture) h) ((refl, refl, refl), (refl, refl, refl));
}

pub plain_letter : (letter : ℕ) (file capture : List ℕ) (zone command : ℕ) → SignOtherLetter letter file capture zone command
unfolding profile_of
plain_letter letter file capture zone command = record { twelve = λ a s. rw (ne_eqb letter 0x41 a, ne_eqb letter 0x53 s) ((refl, refl, refl), (refl, refl, refl)) }
