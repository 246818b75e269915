-- What is opened to compute with a unit, by name: what a run's bytes do to it, and whether a sheet is accepted.
use Prim.Native.Nat.{ℕ}
use Rattle.lists.specs.InOrder.{in_order}
use Rattle.streams.specs.Stream.{answers_by, reader_by}
use Rattle.frame.specs.Frame.{frame_of}
use Rattle.frame.specs.Reader.{answer_to, taken_after}
use Rattle.row.specs.Signed.{number_of, code_of, plain_code_of}
use Rattle.row.specs.Table.{table, first_row}
use Rattle.judging.specs.Judge.{row_judged}
use Rattle.message.specs.Content.{content_of}
use Rattle.message.specs.Message.{read_of}
use Rattle.sheet.specs.Line.{is_legal, is_repeated}
use Rattle.sheet.specs.Check.{lowest_fault, sheet_verdict}
use Rattle.sheetfile.specs.Run.{run_of}
use Rattle.unit.specs.Unit.{frame_done}

unfoldable pub running : ℕ
unfolding run_of in_order reader_by answers_by frame_done frame_of answer_to taken_after read_of content_of first_row table number_of code_of plain_code_of
running = 0

unfoldable pub checking : ℕ
unfolding sheet_verdict lowest_fault is_legal is_repeated row_judged first_row table
checking = 0
