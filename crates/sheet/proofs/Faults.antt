-- The check goes along the lines to the lowest fault.
use mathlib.Core.Path.{◌≡◌, refl, ap, sym, ◌∙◌}
use mathlib.Core.Bool.{Bool, true, false, not}
use mathlib.Core.List.{List, [], ◌∷◌, ◌++◌}
use Prim.Native.Nat.{ℕ, ◌+◌, ◌≤◌, ◌<◌}
use native.Mathlib.Numerals.{add-one}
use native.Mathlib.Omega.{arith}
use borrow.Author.Tests.{lt-ltb, le-ltb}
use lib.ListN.{length, take, drop, get_or, replicate, length-append, length-replicate, drop_of_length-le}
use lib.Seq.{take-suc, drop-cons, take-append-le, length-take-le}
use Rattle.std.specs.Prelude.{Err, Ok, Some, None}
use Rattle.refusals.specs.Refusal.{fault}
use Rattle.refusals.specs.Rule.{rule, ruled}
use Rattle.refusals.specs.declared.refusal.Refusal.{Refusal}
use Rattle.refusals.specs.declared.refusal.Refusal.TheVariants.{IllegalLine, RepeatedLine, TooManyLines}
use Rattle.row.specs.declared.profile.Profile.{Profile}
use Rattle.sheet.specs.Line.{is_legal, is_repeated}
use Rattle.sheet.specs.Sheet.{sheet_limit, no_line, first_lines, lines_of}
use Rattle.sheet.specs.Check.{lowest_fault, sheet_verdict}
use Rattle.sheet.specs.Computed.{fault_of}
use Rattle.sheet.specs.declared.line.Line.{Line}
use Rattle.sheet.specs.declared.sheet.Sheet.{Sheet}

-- two lines of the refusal table: what they say of any answer by them
module _ (profile : Profile) (earlier : List Line) (l : Line) (ls : List Line) where
  pub lowest_sound : fault_of profile earlier l ≡ None → lowest_fault profile earlier (l ∷ ls) ≡ lowest_fault profile (earlier ++ l ∷ []) ls
  unfolding lowest_fault
  lowest_sound h = go (is_legal profile l) (is_repeated earlier l) h
    where
      go : (t u : Bool) → ruled (rule IllegalLine (not t) ∷ rule RepeatedLine u ∷ []) (λ e. Some e) None ≡ None
          → ruled (rule IllegalLine (not t) ∷ rule RepeatedLine u ∷ []) (λ e. Err (fault e (length earlier))) (lowest_fault profile (earlier ++ l ∷ []) ls) ≡ lowest_fault profile (earlier ++ l ∷ []) ls
      go false u f = cc
      go true true f = cc
      go true false f = refl

  pub lowest_fault_lem : (e : Refusal) → fault_of profile earlier l ≡ Some e → lowest_fault profile earlier (l ∷ ls) ≡ Err (fault e (length earlier))
  unfolding lowest_fault
  lowest_fault_lem e h = go (is_legal profile l) (is_repeated earlier l) h
    where
      go : (t u : Bool) → ruled (rule IllegalLine (not t) ∷ rule RepeatedLine u ∷ []) (λ x. Some x) None ≡ Some e
          → ruled (rule IllegalLine (not t) ∷ rule RepeatedLine u ∷ []) (λ x. Err (fault x (length earlier))) (lowest_fault profile (earlier ++ l ∷ []) ls) ≡ Err (fault e (length earlier))
      go false u f = cc
      go true true f = cc
      go true false f = cc

-- along some lines
module _ (profile : Profile) (lines : List Line) (i : ℕ) where
  at_line : i < length lines → lowest_fault profile (take i lines) (drop i lines) ≡ lowest_fault profile (take i lines) (get_or lines i no_line ∷ drop (i + 1) lines)
  at_line h = ap (λ (xs : List Line). lowest_fault profile (take i lines) xs) (rw (add-one i) (drop-cons lines i no_line h))

  pub goes_on : i < length lines → fault_of profile (take i lines) (get_or lines i no_line) ≡ None
      → lowest_fault profile (take i lines) (drop i lines) ≡ lowest_fault profile (take (i + 1) lines) (drop (i + 1) lines)
  goes_on h e =
      at_line h ∙ lowest_sound profile (take i lines) (get_or lines i no_line) (drop (i + 1) lines) e
      ∙ ap (λ (xs : List Line). lowest_fault profile xs (drop (i + 1) lines)) (sym (rw (add-one i) (take-suc lines i no_line h)))

  pub stops : i < length lines → (e : Refusal) → fault_of profile (take i lines) (get_or lines i no_line) ≡ Some e
      → lowest_fault profile (take i lines) (drop i lines) ≡ Err (fault e i)
  stops h e some =
      at_line h ∙ lowest_fault_lem profile (take i lines) (get_or lines i no_line) (drop (i + 1) lines) e some
      ∙ ap (λ (k : ℕ). Err (fault e k)) (length-take-le i lines (omega arith))

  pub ends : length lines ≤ i → lowest_fault profile (take i lines) (drop i lines) ≡ Ok tt
  unfolding lowest_fault
  ends h = ap (λ (xs : List Line). lowest_fault profile (take i lines) xs) (drop_of_length-le lines {i = i} h)

-- as many lines as a sheet counts
pub first_short : (kept : List Line) (count : ℕ) → count ≤ length kept → first_lines kept count ≡ take count kept
first_short kept count h = take-append-le count kept (replicate count no_line) h

pub first_many : (kept : List Line) (count : ℕ) → length (first_lines kept count) ≡ count
first_many kept count =
    length-take-le count (kept ++ replicate count no_line)
    (omega (arith, length-append kept (replicate count no_line), length-replicate count no_line))

module _ (s : Sheet) (profile : Profile) where
  pub verdict_long : sheet_limit < s.count → sheet_verdict profile (lines_of s) ≡ Err (fault TooManyLines sheet_limit)
  unfolding sheet_verdict
  verdict_long h = rw (lt-ltb sheet_limit (length (lines_of s)) (rw (first_many s.lines s.count) h))

  pub verdict_short : s.count ≤ sheet_limit → sheet_verdict profile (lines_of s) ≡ lowest_fault profile [] (lines_of s)
  unfolding sheet_verdict
  verdict_short h = rw (le-ltb sheet_limit (length (lines_of s)) (rw (first_many s.lines s.count) h))
