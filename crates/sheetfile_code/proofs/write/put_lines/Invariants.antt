use mathlib.Core.Path.{◌≡◌}
use mathlib.Core.List.{◌++◌}
use Prim.Native.Nat.{◌*◌}
use lib.ListN.{take, drop}
use Rattle.lists.specs.InOrder.{in_order}
use Rattle.sheetfile.specs.File.{record_size}
use Rattle.sheetfile.specs.Computed.{bytes_of}
use Rattle.sheetfile_code.proofs.write.put_lines.Given as goal

abbrev pub invariant-loop-i : goal.invariant-loop-i
invariant-loop-i l = l.part ≡ in_order (bytes_of l.form l.profile) (take l.i l.lines) ++ drop (l.i * record_size) l.initial.part
