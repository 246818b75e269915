-- The contract of each public function that these definitions are for, here or in the crate of its code, admits one answer: its result, and the lent bytes after it where it has any.
use mathlib.Core.Path.{◌≡◌}
use mathlib.Core.List.{List}
use Prim.Native.Nat.{ℕ}
use Rattle.lent.specs.Written.{write_answered, write_left}
use Rattle.fields.specs.Fields.{data_of}
use Rattle.refusals.specs.OneAnswer.{OneAnswer}
use Rattle.frame.specs.declared.direction.Direction.{Direction}
use Rattle.refusals.proofs.One.{one, one_lent}
use Rattle.row.specs.declared.profile.Profile.{Profile}
use Rattle.row.specs.declared.table.Row.{Row}
use Rattle.message.specs.Message.{read_rules, read_of, frame_read, denied_in}
use Rattle.message.specs.Write.{write_rules, message_frame, fields_frame}
use Rattle.message.specs.Content.{content_of, encoded_of, encoded_data, size_of, is_form}
use Rattle.judging.specs.Judge.{value_refusal}
use Rattle.message.specs.declared.content.Content.{Content}
use Rattle.message.specs.declared.read.Message.{Message}
use Rattle.std.specs.Prelude.{Result}
use Rattle.refusals.specs.declared.refusal.Refusal.{Refusal}
use Rattle.fields.specs.declared.fields.Fields.{Fields}

pub read_message_one : (profile : Profile) (direction : Direction) (fields : Fields) (body : List ℕ)
    → OneAnswer (λ x. x ≡ read_of profile direction fields.zone fields.command fields.answer body)
read_message_one profile direction fields body = one (read_of profile direction fields.zone fields.command fields.answer body)

pub read_frame_one : (profile : Profile) (direction : Direction) (bytes : List ℕ) → OneAnswer (λ x. x ≡ frame_read profile direction bytes)
read_frame_one profile direction bytes = one (frame_read profile direction bytes)

pub denied_data_one : (profile : Profile) (direction : Direction) (bytes : List ℕ)
    → OneAnswer (λ x. x ≡ denied_in (frame_read profile direction bytes) (data_of direction bytes))
denied_data_one profile direction bytes = one (denied_in (frame_read profile direction bytes) (data_of direction bytes))

pub content_of_one : (direction : Direction) (row : Row) (body : List ℕ) → OneAnswer (λ x. x ≡ content_of direction row body)
content_of_one direction row body = one (content_of direction row body)

pub encode_one : (row : Row) (content : Content) → OneAnswer (λ x. x ≡ encoded_of row content)
encode_one row content = one (encoded_of row content)

pub size_of_one : (content : Content) → OneAnswer (λ x. x ≡ size_of content)
size_of_one content = one (size_of content)

pub is_form_one : (direction : Direction) (row : Row) (content : Content) → OneAnswer (λ x. x ≡ is_form direction row content)
is_form_one direction row content = one (is_form direction row content)

pub form_refusal_one : (direction : Direction) (row : Row) (content : Content)
    → OneAnswer (λ x. x ≡ value_refusal direction row (encoded_data (encoded_of row content)))
form_refusal_one direction row content = one (value_refusal direction row (encoded_data (encoded_of row content)))

pub write_message_one : (profile : Profile) (buf : List ℕ) (at : ℕ) (message : Message) (body : List ℕ)
    → OneAnswer (λ (x : Result ℕ Refusal × List ℕ). (x.0 ≡ write_answered (write_rules profile message body) buf at (message_frame profile message body)) × (x.1 ≡ write_left (write_rules profile message body) buf at (message_frame profile message body)))
write_message_one profile buf at message body = one_lent (write_answered (write_rules profile message body) buf at (message_frame profile message body)) (write_left (write_rules profile message body) buf at (message_frame profile message body))

pub write_fields_one : (profile : Profile) (direction : Direction) (fields : Fields) (body buf : List ℕ) (at : ℕ)
    → OneAnswer (λ (x : Result ℕ Refusal × List ℕ). (x.0 ≡ write_answered (read_rules profile direction fields.zone fields.command fields.answer body) buf at (fields_frame profile direction fields.zone fields.command fields.answer body))
    × (x.1 ≡ write_left (read_rules profile direction fields.zone fields.command fields.answer body) buf at (fields_frame profile direction fields.zone fields.command fields.answer body)))
write_fields_one profile direction fields body buf at =
    one_lent (write_answered (read_rules profile direction fields.zone fields.command fields.answer body) buf at (fields_frame profile direction fields.zone fields.command fields.answer body))
    (write_left (read_rules profile direction fields.zone fields.command fields.answer body) buf at (fields_frame profile direction fields.zone fields.command fields.answer body))
