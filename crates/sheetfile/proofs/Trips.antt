-- A file's refusals in their order, and its lines there and back.
use mathlib.Core.Path.{◌≡◌, refl, ap, sym, ◌∙◌}
use mathlib.Core.Bool.{Bool, true, false, ◌&&◌}
use mathlib.Core.List.{List, [], ◌∷◌}
use mathlib.Core.Logic.{◌⊎◌, inl, inr}
use Prim.Native.Nat.{ℕ, zero, suc, ◌+◌, ◌*◌}
use native.Mathlib.Nat.{add-zero, zero-add}
use native.Mathlib.Omega.{arith}
use borrow.Author.Tests.{eq-eqb, ne_eqb, eqb-true}
use lib.Dec.{eqb}
use lib.ListN.{length}
use Rattle.row.specs.Profile.{letter_of, profile_of}
use Rattle.row.specs.declared.profile.Profile.{Profile}
use Rattle.row.specs.declared.profile.Profile.TheVariants.{A, S}
use Rattle.sheet.specs.Sheet.{no_lines, with_all, lines_of}
use Rattle.lists.specs.InOrder.{in_order}
use Rattle.sheet.specs.Check.{first_refusal, lowest_fault, sheet_verdict}
use Rattle.sheetfile.specs.File.{Record, record_size, records, lines_in, is_whole, is_marked, lowest_wrong, file_of, file_verdict, read_by, file_read, verdict_of, file_read_by}
use Rattle.sheet.specs.SheetPromise.{Says}
use Rattle.sheetfile.specs.FilePromise.{LowestWrong, AllMarked, FilePromise, FileTrip, FileLetter}
use Rattle.sheet.specs.declared.line.Line.{Line}
use Rattle.sheet.specs.declared.sheet.Sheet.{Sheet}
use Rattle.sheet.proofs.Sheets.{only, all_kept, says}
use Rattle.sheetfile.proofs.Files.{file_broken, file_whole}
use Rattle.std.specs.Prelude.{Err, Ok, Result}
use Rattle.refusals.specs.declared.refusal.Refusal.TheVariants.{WrongFile, WrongLetter}
use Rattle.refusals.specs.declared.refusal.Fault.{Fault}
use Rattle.refusals.specs.Refusal.{fault}

-- the first record with a wrong mark or profile
module _ (profile : Profile) where
  marked_all : (i : ℕ) (rs : List Record) → AllMarked profile rs → lowest_wrong profile i rs ≡ Ok tt
  unfolding lowest_wrong
  marked_all i [] w = refl
  marked_all i (r ∷ rs) w = rw w.0 (marked_all (i + 1) rs w.1)

  wrong_at : (k : ℕ) (rs : List Record) (i : ℕ) → LowestWrong profile rs i → lowest_wrong profile k rs ≡ Err (fault WrongFile (k + i))
  unfolding lowest_wrong
  wrong_at k [] i w = absurd w
  wrong_at k (r ∷ rs) zero w = rw w (ap (λ (n : ℕ). Err (fault WrongFile n)) (sym (add-zero k)))
  wrong_at k (r ∷ rs) (suc i) w = rw w.0 (wrong_at (k + 1) rs i w.1 ∙ ap (λ (n : ℕ). Err (fault WrongFile n)) (omega arith))

  wrong_either : (rs : List Record) → ((i : ℕ) × LowestWrong profile rs i) ⊎ AllMarked profile rs
  wrong_either [] = inr tt
  wrong_either (r ∷ rs) = go (is_marked profile r) refl (wrong_either rs)
    where
      go : (t : Bool) → is_marked profile r ≡ t → ((i : ℕ) × LowestWrong profile rs i) ⊎ AllMarked profile rs
          → ((i : ℕ) × LowestWrong profile (r ∷ rs) i) ⊎ AllMarked profile (r ∷ rs)
      go false e w = inl (zero, e)
      go true e (inl w) = inl (suc w.0, (e, w.1))
      go true e (inr w) = inr (e, w)

  module _ (file : List ℕ) (q : ℕ) (whole : length file ≡ q * record_size) where
    in_order_lem : file_verdict profile file ≡ first_refusal (lowest_wrong profile 0 (records file)) (sheet_verdict profile (lines_in (records file)))
    in_order_lem = file_whole profile file q (omega arith) (omega arith) whole

    pub checks_of : AllMarked profile (records file) → file_verdict profile file ≡ sheet_verdict profile (lines_in (records file))
    checks_of w = in_order_lem ∙ ap (λ (v : Result (Unit {0}) Fault). first_refusal v (sheet_verdict profile (lines_in (records file)))) (marked_all 0 (records file) w)

    wrong_of : (i : ℕ) → LowestWrong profile (records file) i → file_verdict profile file ≡ Err (fault WrongFile i)
    wrong_of i w =
        in_order_lem ∙ ap (λ (v : Result (Unit {0}) Fault). first_refusal v (sheet_verdict profile (lines_in (records file)))) (wrong_at 0 (records file) i w)
        ∙ ap (λ (n : ℕ). Err (fault WrongFile n)) (zero-add i)

  -- the file of some lines: their records, each marked
  pub trip_lines : (ls : List Line) → lines_in (records (file_of profile ls)) ≡ ls
  unfolding records lines_in in_order
  trip_lines [] = refl
  trip_lines (l ∷ ls) = ap (λ (xs : List Line). l ∷ xs) (trip_lines ls)

  trip_marked : (ls : List Line) → AllMarked profile (records (file_of profile ls))
  unfolding records in_order
  trip_marked [] = tt
  trip_marked (l ∷ ls) = (eq-eqb (letter_of profile) (letter_of profile) refl, trip_marked ls)

  trip_long : (ls : List Line) → length (file_of profile ls) ≡ length ls * record_size
  unfolding in_order
  trip_long [] = refl
  trip_long (l ∷ ls) = omega (arith, trip_long ls)

  pub trip_verdict : (ls : List Line) → file_verdict profile (file_of profile ls) ≡ sheet_verdict profile ls
  trip_verdict ls = checks_of (file_of profile ls) (length ls) (trip_long ls) (trip_marked ls) ∙ ap (sheet_verdict profile) (trip_lines ls)

  pub trip_read : (ls : List Line) → sheet_verdict profile ls ≡ Ok tt → (s : Sheet) × (file_read profile (file_of profile ls) ≡ Ok s) × (lines_of s ≡ ls)
  trip_read ls e = (with_all no_lines ls, rw (trip_verdict ls, e, trip_lines ls), all_kept ls (only profile ls e).0)

  -- bytes that are whole, marked records: the file of their lines is these bytes
  same_record : (a b c : ℕ) → eqb a 0x53 && (eqb b 0x4C && eqb c (letter_of profile)) ≡ true → (a ≡ 0x53) × (b ≡ 0x4C) × (c ≡ letter_of profile)
  same_record a b c e = go (eqb a 0x53) (eqb b 0x4C) (eqb c (letter_of profile)) refl refl refl e
    where
      go : (s t u : Bool) → eqb a 0x53 ≡ s → eqb b 0x4C ≡ t → eqb c (letter_of profile) ≡ u → s && (t && u) ≡ true → (a ≡ 0x53) × (b ≡ 0x4C) × (c ≡ letter_of profile)
      go true true true f g h w = (eqb-true _ _ f, eqb-true _ _ g, eqb-true _ _ h)
      go true true false f g h w = absurd (cc)
      go true false u f g h w = absurd (cc)
      go false t u f g h w = absurd (cc)

  pub trip_back : (file : List ℕ) → length file ≡ length (records file) * record_size → AllMarked profile (records file) → file_of profile (lines_in (records file)) ≡ file
  unfolding records lines_in in_order
  trip_back [] e w = refl
  trip_back (a ∷ []) e w = absurd (omega arith)
  trip_back (a ∷ b ∷ []) e w = absurd (omega arith)
  trip_back (a ∷ b ∷ c ∷ []) e w = absurd (omega arith)
  trip_back (a ∷ b ∷ c ∷ d ∷ []) e w = absurd (omega arith)
  trip_back (a ∷ b ∷ c ∷ d ∷ f ∷ []) e w = absurd (omega arith)
  trip_back (a ∷ b ∷ c ∷ d ∷ f ∷ g ∷ rest) e w =
      let s = same_record a b c w.0 in
      let r = trip_back rest (omega arith) w.1 in
      rw (s.0, s.1, s.2, r)

  -- an accepted file is whole, marked records of an accepted sheet
  pub accepted_marked : (file : List ℕ) → file_verdict profile file ≡ Ok tt
      → (length file ≡ length (records file) * record_size) × AllMarked profile (records file) × (sheet_verdict profile (lines_in (records file)) ≡ Ok tt)
  unfolding file_verdict
  accepted_marked file e = go (is_whole file) refl (wrong_either (records file))
    where
      go : (t : Bool) → is_whole file ≡ t → ((i : ℕ) × LowestWrong profile (records file) i) ⊎ AllMarked profile (records file)
          → (length file ≡ length (records file) * record_size) × AllMarked profile (records file) × (sheet_verdict profile (lines_in (records file)) ≡ Ok tt)
      go false f w = let broken : file_verdict profile file ≡ Err (fault WrongFile (length (records file))) = rw f in absurd (cc)
      go true f (inl w) =
          let long : length file ≡ length (records file) * record_size = omega (arith, eqb-true (length file) (record_size * length (records file)) f) in
          absurd (cc (e, wrong_of file (length (records file)) long w.0 w.1))
      go true f (inr w) =
          let long : length file ≡ length (records file) * record_size = omega (arith, eqb-true (length file) (record_size * length (records file)) f) in
          (long, w, sym (checks_of file (length (records file)) long w) ∙ e)

  pub read_verdict : (v : Result (Unit {0}) Fault) (ls : List Line) → verdict_of (read_by v ls) ≡ v
  read_verdict (Ok u) ls = refl
  read_verdict (Err f) ls = refl

  read_lines : (v : Result (Unit {0}) Fault) (ls : List Line) (s : Sheet) → read_by v ls ≡ Ok s → (v ≡ Ok tt) × (s ≡ with_all no_lines ls)
  read_lines (Ok u) ls s e = (refl, cc)
  read_lines (Err f) ls s e = absurd (cc)

  -- a file that is read was accepted, and the sheet holds its lines
  pub read_accepted : (file : List ℕ) (s : Sheet) → file_read profile file ≡ Ok s → (file_verdict profile file ≡ Ok tt) × (s ≡ with_all no_lines (lines_in (records file)))
  read_accepted file s e = read_lines (file_verdict profile file) (lines_in (records file)) s e

  pub read_kept : (file : List ℕ) (s : Sheet) → file_read profile file ≡ Ok s → lines_of s ≡ lines_in (records file)
  read_kept file s e =
      let r = read_accepted file s e in
      rw r.1 (all_kept (lines_in (records file)) (only profile (lines_in (records file)) (accepted_marked file r.0).2).0)

  trip_again : (file : List ℕ) (s : Sheet) → file_read profile file ≡ Ok s → file_of profile (lines_of s) ≡ file
  trip_again file s e =
      let w = accepted_marked file (read_accepted file s e).0 in
      rw (read_kept file s e) (trip_back file w.0 w.1)

pub file_promise : (profile : Profile) (file : List ℕ) → FilePromise profile file
file_promise profile file = record {
  uneven = λ q r e some less. says (file_verdict profile file) WrongFile q (file_broken profile file q (omega arith) (omega arith) (λ f. omega arith));
  wrong = λ q e i w. says (file_verdict profile file) WrongFile i (wrong_of profile file q e i w);
  checks = λ q e w. checks_of profile file q e w;
  either = wrong_either profile (records file);
  said = read_verdict profile (file_verdict profile file) (lines_in (records file));
  none = λ f e. ap (λ (v : Result (Unit {0}) Fault). read_by v (lines_in (records file))) e;
  again = trip_again profile file;
}

pub file_trip : (profile : Profile) (ls : List Line) → FileTrip profile ls
unfolding file_verdict lowest_wrong records lines_in sheet_verdict lowest_fault with_all
file_trip profile ls = record { nothing = refl; empty = refl; read = trip_read profile ls }

pub file_letter : (letter : ℕ) (file : List ℕ) → FileLetter letter file
unfolding profile_of
file_letter letter file = record { named = named_by; twelve = twelve_by }
  where
    named_by : (profile : Profile) → letter ≡ letter_of profile → file_read_by (profile_of letter) file ≡ file_read profile file
    named_by A e = rw e
    named_by S e = rw e

    twelve_by : (letter ≡ 0x41 → ⊥) → (letter ≡ 0x53 → ⊥)
        → Says (verdict_of (file_read_by (profile_of letter) file)) 12 0 × (file_read_by (profile_of letter) file ≡ Err (fault WrongLetter 0))
    twelve_by a s = rw (ne_eqb letter 0x41 a, ne_eqb letter 0x53 s) ((refl, refl), refl)
