-- Demand 3: what is sent, and which settings are on a sheet.
use Rattle.std.specs.Prelude.{ℕ, ◌<◌, ◌≡◌, false, List, [], ◌∷◌, ◌++◌, take, replicate}
use Rattle.sheet.specs.Line.{same_cell}
use Rattle.sheetfile.specs.Run.{frames_of}
use Rattle.sheet.specs.declared.line.Line.{Line}
use Rattle.unit.specs.Unit.{Setting, value}
use Rattle.lists.specs.Each.{Each}

abbrev pub AreBytes : List ℕ → Type 0
AreBytes bs = Each (λ (b : ℕ). b < 256) bs

-- "each setting on the sheet": a line's zone and row
abbrev pub setting_of : Line → Setting
setting_of l = value l.zone l.command

-- "every other setting": a cell of no line
abbrev pub NotOn : List Line → Setting → Type 0
NotOn ls x = Each (λ (l : Line). setting_of l ≡ x → ⊥) ls

-- no two lines have the same zone and row
abbrev pub Apart : List Line → Type 0
Apart [] = Unit {0}
Apart (l ∷ ls) = Each (λ (k : Line). same_cell l k ≡ false) ls × Apart ls

-- so many zeros, then the lines' frames; the run of a sheet with at least one line is such a sending, of 255
abbrev pub sending : ℕ → List Line → List ℕ
sending zeros ls = replicate zeros 0 ++ frames_of ls

-- "any number of times, each sending cut after any byte, then once in full": a cut says after how many bytes; none and all included
abbrev pub sendings : List ℕ → List ℕ → List ℕ
sendings [] run = run
sendings (cut ∷ cuts) run = take cut run ++ sendings cuts run
