-- A slice that is filled from its head: what stands in it, and the rest as it was.
use mathlib.Core.Path.{◌≡◌, refl, ap, ◌∙◌}
use mathlib.Core.Bool.{Bool, true, false}
use mathlib.Core.List.{List, [], ◌∷◌, ◌++◌, append_assoc, append-nil}
use Prim.Native.Nat.{ℕ, ◌+◌, ◌*◌, ◌≤◌, ◌<◌}
use native.Mathlib.Numerals.{add-one}
use native.Mathlib.Omega.{arith}
use borrow.Author.Tests.{ne_eqb}
use lib.Dec.{eqb}
use lib.ListN.{length, take, drop, get_or, replicate, length-append, length-replicate}
use lib.Seq.{take-suc, take_at, drop_at, drop-drop}
use Rattle.frame.specs.Frame.{frame_of}
use Rattle.lent.specs.Placed.{placed}
use Rattle.row.specs.declared.profile.Profile.{Profile}
use Rattle.sheet.specs.Sheet.{no_line}
use Rattle.lists.specs.InOrder.{in_order}
use Rattle.lists.proofs.InOrder.{in_order_append}
use Rattle.sheetfile.specs.File.{record_size}
use Rattle.sheetfile.specs.Run.{flush, run_of}
use Rattle.sheetfile.specs.Computed.{flush_of, zeros_of, bytes_of, sheet_bytes}
use Rattle.sheet.specs.declared.line.Line.{Line}
use Rattle.sheetfile.specs.declared.write.Form.{Form}
use Rattle.sheetfile.specs.declared.write.Form.TheVariants as form

-- bytes placed behind what fills a tail up to there
pub filled_more : (tail before head bytes : List ℕ) (n : ℕ) → length head ≡ n → tail ≡ head ++ drop n before
    → placed tail n bytes ≡ (head ++ bytes) ++ drop (n + length bytes) before
filled_more tail before head bytes n long e =
    rw (e, take_at head (drop n before) n long, ← drop-drop (length bytes) n (head ++ drop n before), drop_at head (drop n before) n long, drop-drop (length bytes) n before, append_assoc head bytes (drop (n + length bytes) before))

-- lines
pub in_order_more : (bytes : Line → List ℕ) (lines : List Line) (i : ℕ) → i < length lines
    → in_order bytes (take (i + 1) lines) ≡ in_order bytes (take i lines) ++ bytes (get_or lines i no_line)
unfolding in_order
in_order_more bytes lines i h =
    ap (λ (k : ℕ). in_order bytes (take k lines)) (add-one i)
    ∙ ap (in_order bytes) (take-suc lines i no_line h)
    ∙ in_order_append bytes (take i lines) (get_or lines i no_line ∷ [])
    ∙ ap (λ (xs : List ℕ). in_order bytes (take i lines) ++ xs) (append-nil (bytes (get_or lines i no_line)))

pub in_order_length : (bytes : Line → List ℕ) → ((l : Line) → length (bytes l) ≡ record_size) → (ls : List Line) → length (in_order bytes ls) ≡ length ls * record_size
unfolding in_order
in_order_length bytes six [] = refl
in_order_length bytes six (l ∷ ls) = omega (arith, length-append (bytes l) (in_order bytes ls), six l, in_order_length bytes six ls)

pub bytes_six : (f : Form) (profile : Profile) (l : Line) → length (bytes_of f profile l) ≡ record_size
unfolding frame_of
bytes_six form.File profile l = refl
bytes_six form.Run profile l = refl

-- any lines have the flush before them
pub flush_some : (n : ℕ) → (n ≡ 0 → ⊥) → flush_of n ≡ flush
flush_some n some = rw (ne_eqb n 0 some)

-- what a sheet is written as: its zeros, and its lines in order
pub sheet_bytes_lem : (f : Form) (profile : Profile) (ls : List Line) → sheet_bytes f profile ls ≡ replicate (zeros_of f (length ls)) 0 ++ in_order (bytes_of f profile) ls
unfolding run_of in_order
sheet_bytes_lem form.File profile ls = refl
sheet_bytes_lem form.Run profile [] = refl
sheet_bytes_lem form.Run profile (l ∷ ls) = rw (flush_some (length (l ∷ ls)) (λ e. omega arith))

pub sheet_length : (f : Form) (profile : Profile) (ls : List Line) → length (sheet_bytes f profile ls) ≡ zeros_of f (length ls) + length ls * record_size
sheet_length f profile ls =
    omega (
      arith,
      ap (length {A = ℕ}) (sheet_bytes_lem f profile ls),
      length-append (replicate (zeros_of f (length ls)) 0) (in_order (bytes_of f profile) ls),
      length-replicate {A = ℕ} (zeros_of f (length ls)) 0,
      in_order_length (bytes_of f profile) (bytes_six f profile) ls,
    )

pub zeros_most : (f : Form) (n : ℕ) → zeros_of f n ≤ flush
zeros_most form.File n = omega arith
zeros_most form.Run n = go (eqb n 0) refl
  where
    go : (t : Bool) → eqb n 0 ≡ t → flush_of n ≤ flush
    go true e = rw e (omega arith)
    go false e = rw e (omega arith)
