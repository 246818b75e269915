-- The bench frames, the table of steps that a row lacks and the table of minus zero, computed from the definitions.
use mathlib.Core.Path.{refl}
use Rattle.frame.specs.Reader.{answer_to, taken_after}
use Rattle.frame.specs.Capture.{events_told, events_from}
use Rattle.fields.specs.Fields.{is_frame}
use Rattle.lent.specs.Placed.{bytes_at}
use Rattle.row.specs.Table.{table, first_row}
use Rattle.row.specs.Signed.{number_of, code_of, plain_code_of}
use Rattle.message.specs.Content.{content_of, is_form}
use Rattle.message.specs.Message.{read_of, frame_read}
use Rattle.message.specs.BenchPromise.{frames, BenchPromise}
use Rattle.message.specs.StepTablePromise.{step_frames, step_forms, StepTablePromise}
use Rattle.message.specs.ZeroTablePromise.{zero_frames, handed_over, ZeroTablePromise}
use Rattle.frame.specs.Frame.{frame_of}
use Rattle.streams.specs.Stream.{answers_by, reader_by}

pub bench_promise : BenchPromise
unfolding answer_to taken_after answers_by reader_by events_told events_from is_frame bytes_at table first_row number_of content_of read_of frame_read frames
bench_promise = record { all = refl; holds = refl }

pub step_table_promise : StepTablePromise
unfolding answer_to taken_after answers_by reader_by events_told events_from is_frame bytes_at table first_row number_of code_of plain_code_of content_of is_form read_of frame_read step_frames step_forms
step_table_promise = record { frames = refl; forms = refl }

pub zero_table_promise : ZeroTablePromise
unfolding answer_to taken_after answers_by reader_by events_told events_from is_frame bytes_at table first_row number_of content_of read_of frame_of frame_read zero_frames handed_over
zero_table_promise = record { frames = refl; taken = refl; written = refl }
