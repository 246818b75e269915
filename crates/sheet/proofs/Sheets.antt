-- The check of a list of lines finds the lowest fault.
use mathlib.Core.Path.{◌≡◌, refl, ap, sym, ◌∙◌}
use mathlib.Core.Bool.{Bool, true, false}
use mathlib.Core.List.{List, [], ◌∷◌, ◌++◌, append_assoc, append-nil}
use mathlib.Core.Logic.{◌⊎◌, inl, inr}
use Prim.Native.Nat.{ℕ, zero, suc, ◌+◌, ◌≤◌, ◌<◌}
use native.Mathlib.Nat.{add-zero, zero-add}
use native.Mathlib.Numerals.{add-one}
use native.Mathlib.Omega.{arith}
use borrow.Author.Tests.{le-leb, lt-leb, lt-ltb, le-ltb, leb-true, leb-false, ltb-true, ltb-false}
use lib.Dec.{leb, ltb}
use lib.ListN.{length, take, length-append, length-set}
use lib.Seq.{take-suc-set}
use Rattle.row.specs.declared.profile.Profile.{Profile}
use Rattle.sheet.specs.Line.{is_legal, is_repeated}
use Rattle.sheet.specs.Sheet.{sheet_limit, no_lines, with_line, lines_of, with_all}
use Rattle.sheet.specs.Check.{lowest_fault, sheet_verdict, verdict_number, verdict_place}
use Rattle.sheet.specs.Computed.{fault_of}
use Rattle.sheet.specs.SheetPromise.{AtFault, Sound, LowestFault, AllSound, Says, SheetPromise}
use Rattle.sheet.specs.declared.line.Line.{Line}
use Rattle.sheet.specs.declared.sheet.Sheet.{Sheet}
use Rattle.sheet.proofs.Faults.{lowest_sound, lowest_fault_lem, first_short, first_many, verdict_long}
use Rattle.std.specs.Prelude.{Err, Ok, Result, Some, None}
use Rattle.refusals.specs.declared.refusal.Refusal.{Refusal}
use Rattle.refusals.specs.declared.refusal.Refusal.TheVariants.{IllegalLine, RepeatedLine, TooManyLines}
use Rattle.refusals.specs.declared.refusal.Fault.{Fault}
use Rattle.refusals.specs.Refusal.{number, fault}

module _ (profile : Profile) where
  sound_is : (earlier : List Line) (l : Line) → Sound profile earlier l → fault_of profile earlier l ≡ None
  sound_is earlier l s = rw (s.0, s.1)

  fault_is : (earlier : List Line) (l : Line) (e : Refusal) → AtFault profile earlier l e → fault_of profile earlier l ≡ Some e
  fault_is earlier l e (inl a) = rw (a.0, a.1)
  fault_is earlier l e (inr a) = rw (a.0, a.1, a.2)

  accepts : (earlier ls : List Line) → AllSound profile earlier ls → lowest_fault profile earlier ls ≡ Ok tt
  unfolding lowest_fault
  accepts earlier [] s = refl
  accepts earlier (l ∷ ls) s = lowest_sound profile earlier l ls (sound_is earlier l s.0) ∙ accepts (earlier ++ l ∷ []) ls s.1

  refuses : (earlier ls : List Line) (i : ℕ) (e : Refusal) → LowestFault profile earlier ls i e → lowest_fault profile earlier ls ≡ Err (fault e (length earlier + i))
  refuses earlier [] i e w = absurd w
  refuses earlier (l ∷ ls) zero e w =
      lowest_fault_lem profile earlier l ls e (fault_is earlier l e w) ∙ ap (λ (k : ℕ). Err (fault e k)) (sym (add-zero (length earlier)))
  refuses earlier (l ∷ ls) (suc i) e w =
      lowest_sound profile earlier l ls (sound_is earlier l w.0) ∙ refuses (earlier ++ l ∷ []) ls i e w.1
      ∙ ap (λ (k : ℕ). Err (fault e k)) (omega (arith, length-append earlier (l ∷ [])))

  -- each line is at fault or sound
  line_either : (earlier : List Line) (l : Line) → ((e : Refusal) × AtFault profile earlier l e) ⊎ Sound profile earlier l
  line_either earlier l = go (is_legal profile l) (is_repeated earlier l) refl refl
    where
      go : (t u : Bool) → is_legal profile l ≡ t → is_repeated earlier l ≡ u → ((e : Refusal) × AtFault profile earlier l e) ⊎ Sound profile earlier l
      go false u e f = inl (IllegalLine, inl (e, refl))
      go true true e f = inl (RepeatedLine, inr (e, f, refl))
      go true false e f = inr (e, f)

  either : (earlier ls : List Line) → ((i : ℕ) × (e : Refusal) × LowestFault profile earlier ls i e) ⊎ AllSound profile earlier ls
  either earlier [] = inr tt
  either earlier (l ∷ ls) = go (line_either earlier l) (either (earlier ++ l ∷ []) ls)
    where
      go : ((e : Refusal) × AtFault profile earlier l e) ⊎ Sound profile earlier l → ((i : ℕ) × (e : Refusal) × LowestFault profile (earlier ++ l ∷ []) ls i e) ⊎ AllSound profile (earlier ++ l ∷ []) ls
          → ((i : ℕ) × (e : Refusal) × LowestFault profile earlier (l ∷ ls) i e) ⊎ AllSound profile earlier (l ∷ ls)
      go (inl a) rest = inl (zero, a.0, a.1)
      go (inr s) (inl w) = inl (suc w.0, w.1, (s, w.2))
      go (inr s) (inr w) = inr (s, w)

  -- the limit first
  long : (ls : List Line) → sheet_limit < length ls → sheet_verdict profile ls ≡ Err (fault TooManyLines sheet_limit)
  unfolding sheet_verdict
  long ls h = rw (lt-ltb sheet_limit (length ls) h)

  short : (ls : List Line) → length ls ≤ sheet_limit → sheet_verdict profile ls ≡ lowest_fault profile [] ls
  unfolding sheet_verdict
  short ls h = rw (le-ltb sheet_limit (length ls) h)

  pub only : (ls : List Line) → sheet_verdict profile ls ≡ Ok tt → (length ls ≤ sheet_limit) × AllSound profile [] ls
  only ls e = go (ltb sheet_limit (length ls)) refl (either [] ls)
    where
      go : (t : Bool) → ltb sheet_limit (length ls) ≡ t → ((i : ℕ) × (e : Refusal) × LowestFault profile [] ls i e) ⊎ AllSound profile [] ls
          → (length ls ≤ sheet_limit) × AllSound profile [] ls
      go true f w = absurd (cc (e, long ls (ltb-true _ _ f)))
      go false f (inl w) = absurd (cc (e, short ls (ltb-false _ _ f), refuses [] ls w.0 w.1 w.2))
      go false f (inr w) = (ltb-false _ _ f, w)

-- lines that are brought together by value
record Holds (earlier : List Line) (s : Sheet) : Type 0 where
  many : s.count ≡ length earlier
  kept : take s.count s.lines ≡ earlier
  room : length s.lines ≡ sheet_limit

holds_none : Holds [] no_lines
holds_none = record { many = refl; kept = refl; room = refl }

holds_more : (earlier : List Line) (s : Sheet) (l : Line) → Holds earlier s → length earlier < sheet_limit → Holds (earlier ++ l ∷ []) (with_line s l)
unfolding with_line
holds_more earlier s l h some =
    rw (lt-leb sheet_limit s.count (omega arith)) (record {
      many = omega (arith, length-append earlier (l ∷ []));
      kept = rw (add-one s.count) (take-suc-set s.lines s.count l (omega arith) ∙ ap (λ (xs : List Line). xs ++ l ∷ []) h.kept);
      room = length-set s.lines s.count l ∙ h.room;
    })

-- within the limit each line is kept as it came
keeps : (earlier ls : List Line) (s : Sheet) → Holds earlier s → length earlier + length ls ≤ sheet_limit → Holds (earlier ++ ls) (with_all s ls)
unfolding with_all
keeps earlier [] s h some = rw (append-nil earlier) h
keeps earlier (l ∷ ls) s h some =
    rw (← append_assoc earlier (l ∷ []) ls)
    (keeps (earlier ++ l ∷ []) ls (with_line s l) (holds_more earlier s l h (omega arith)) (omega (arith, length-append earlier (l ∷ []))))

pub all_kept : (ls : List Line) → length ls ≤ sheet_limit → lines_of (with_all no_lines ls) ≡ ls
all_kept ls h =
    let w = keeps [] ls no_lines holds_none (omega arith) in
    first_short (with_all no_lines ls).lines (with_all no_lines ls).count (omega (arith, w.many, w.room)) ∙ w.kept

-- past it the count stays past it
past : (s : Sheet) (l : Line) → sheet_limit ≤ s.count → sheet_limit < (with_line s l).count
unfolding with_line
past s l h = rw (le-leb sheet_limit s.count h) (omega arith)

over : (ls : List Line) (s : Sheet) → sheet_limit < s.count → sheet_limit < (with_all s ls).count
unfolding with_all
over [] s h = h
over (l ∷ ls) s h = over ls (with_line s l) (past s l (omega arith))

too_many : (earlier ls : List Line) (s : Sheet) → Holds earlier s → length earlier ≤ sheet_limit → sheet_limit < length earlier + length ls → sheet_limit < (with_all s ls).count
unfolding with_all
too_many earlier [] s h fits many = absurd (omega arith)
too_many earlier (l ∷ ls) s h fits many =
    go (leb sheet_limit (length earlier)) refl (λ more room. too_many (earlier ++ l ∷ []) ls (with_line s l) more room (omega (arith, length-append earlier (l ∷ []))))
  where
    go : (t : Bool) → leb sheet_limit (length earlier) ≡ t
        → (Holds (earlier ++ l ∷ []) (with_line s l) → length (earlier ++ l ∷ []) ≤ sheet_limit → sheet_limit < (with_all (with_line s l) ls).count)
        → sheet_limit < (with_all (with_line s l) ls).count
    go true e next = over ls (with_line s l) (past s l (omega (arith, leb-true sheet_limit (length earlier) e, h.many)))
    go false e next =
        let fits : length earlier < sheet_limit = leb-false sheet_limit (length earlier) e in
        next (holds_more earlier s l h fits) (omega (arith, length-append earlier (l ∷ [])))

pub verdict_together : (profile : Profile) (ls : List Line) → sheet_verdict profile (lines_of (with_all no_lines ls)) ≡ sheet_verdict profile ls
verdict_together profile ls = go (ltb sheet_limit (length ls)) refl
  where
    go : (t : Bool) → ltb sheet_limit (length ls) ≡ t → sheet_verdict profile (lines_of (with_all no_lines ls)) ≡ sheet_verdict profile ls
    go true e =
        let h : sheet_limit < length ls = ltb-true _ _ e in
        verdict_long (with_all no_lines ls) profile (too_many [] ls no_lines holds_none (omega arith) (omega arith)) ∙ sym (long profile ls h)
    go false e = ap (sheet_verdict profile) (all_kept ls (ltb-false _ _ e))

pub says : (v : Result (Unit {0}) Fault) (e : Refusal) (i : ℕ) → v ≡ Err (fault e i) → Says v (number e) i
says v e i h = rw h (refl, refl)

pub sheet_promise : (profile : Profile) (ls : List Line) → SheetPromise profile ls
sheet_promise profile ls = record {
  long = λ h. says (sheet_verdict profile ls) TooManyLines sheet_limit (long profile ls h);
  fault =
      λ h i e w. says (sheet_verdict profile ls) e i (short profile ls h ∙ refuses profile [] ls i e w ∙ ap (λ (k : ℕ). Err (fault e k)) (zero-add i));
  sound = λ h w. let e = short profile ls h ∙ accepts profile [] ls w in (e, (ap verdict_number e, ap verdict_place e));
  either = either profile [] ls;
  only = only profile ls;
  together = verdict_together profile ls;
  kept = all_kept ls;
}

-- an accepted sheet by value counts no more than the limit
pub accepted_short : (profile : Profile) (s : Sheet) → sheet_verdict profile (lines_of s) ≡ Ok tt → s.count ≤ sheet_limit
accepted_short profile s e = omega (arith, (only profile (lines_of s) e).0, first_many s.lines s.count)
