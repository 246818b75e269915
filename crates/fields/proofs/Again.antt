-- A frame that is written and read brings its fields and data; one that is read and written is the same bytes.
use mathlib.Core.Path.{◌≡◌, refl, sym, ap, ◌∙◌}
use mathlib.Core.Bool.{true}
use mathlib.Core.List.{List, [], ◌∷◌, ◌++◌, append_assoc}
use Prim.Native.Nat.{ℕ, suc, ◌+◌, ◌-◌, ◌≤◌, ◌<◌}
use native.Mathlib.Omega.{arith}
use lib.ListN.{length, take, drop, get_or, length-append, length-drop, take-append-drop, drop_of_length-le}
use lib.Seq.{length-take-le, take-suc, drop-cons, drop-drop, take-append_seam, drop_at, get_or_at}
use Rattle.frame.specs.Frame.{opens, ends, header, header_of, frame_of, dl}
use Rattle.fields.specs.Fields.{is_frame, answer_in, answer_kept, fields_in, data_in}
use Rattle.frame.specs.declared.direction.Direction.{Direction}
use Rattle.frame.specs.declared.direction.Direction.TheVariants.{Command, Answer}
use Rattle.frame.proofs.Header.{header_length, frame_length_lem}
use Rattle.fields.proofs.Whole.{Whole, is_whole, whole_is}

written_first : (dir : Direction) (zone command answer : ℕ) (body : List ℕ) → get_or (frame_of dir zone command answer body) 0 0 ≡ opens
unfolding frame_of
written_first Command zone command answer body = refl
written_first Answer zone command answer body = refl

pub written_count_lem : (dir : Direction) (zone command answer : ℕ) (body : List ℕ) → dl dir (frame_of dir zone command answer body) ≡ length body
unfolding frame_of
written_count_lem Command zone command answer body = refl
written_count_lem Answer zone command answer body = refl

pub frame_fields : (dir : Direction) (zone command answer : ℕ) (body : List ℕ)
    → fields_in dir (frame_of dir zone command answer body) ≡ record { zone = zone; command = command; answer = answer_kept dir answer }
unfolding frame_of
frame_fields Command zone command answer body = refl
frame_fields Answer zone command answer body = refl

module _ (dir : Direction) (zone command answer : ℕ) (body : List ℕ) where
  at_end_lem : get_or (frame_of dir zone command answer body) (header dir + length body) 0 ≡ ends
  unfolding frame_of
  at_end_lem =
      let H = header_of dir zone command answer (length body) in
      let before : length (H ++ body) ≡ header dir + length body = rw (length-append, header_length dir zone command answer (length body)) in
      rw (← append_assoc) (get_or_at (H ++ body) ends [] 0 (header dir + length body) before)

  written_last : get_or (frame_of dir zone command answer body) (length (frame_of dir zone command answer body) - 1) 0 ≡ ends
  written_last =
      let place : length (frame_of dir zone command answer body) - 1 ≡ header dir + length body = omega (arith, frame_length_lem dir zone command answer body) in
      rw place at_end_lem

  pub frame_is : is_frame dir (frame_of dir zone command answer body) ≡ true
  frame_is =
      whole_is dir (frame_of dir zone command answer body) record {
        first = written_first dir zone command answer body;
        long = rw (written_count_lem dir zone command answer body) (frame_length_lem dir zone command answer body);
        last = written_last;
      }

  pub frame_data : data_in dir (frame_of dir zone command answer body) ≡ body
  unfolding frame_of
  frame_data =
      let H = header_of dir zone command answer (length body) in
      rw (written_count_lem dir zone command answer body, drop_at H (body ++ ends ∷ []) (header dir) (header_length dir zone command answer (length body)), take-append_seam)

first_three : (bytes : List ℕ) → 3 ≤ length bytes → get_or bytes 0 0 ≡ opens → take 3 bytes ≡ opens ∷ get_or bytes 1 0 ∷ get_or bytes 2 0 ∷ []
first_three bytes h first = rw (take-suc bytes 2 0 (omega arith), take-suc bytes 1 0 (omega arith), take-suc bytes 0 0 (omega arith), first)

read_header : (dir : Direction) (bytes : List ℕ) → header dir ≤ length bytes → get_or bytes 0 0 ≡ opens
    → take (header dir) bytes ≡ header_of dir (get_or bytes 1 0) (get_or bytes 2 0) (answer_in dir bytes) (dl dir bytes)
read_header Command bytes h first = rw (take-suc bytes 3 0 h, first_three bytes (omega arith) first)
read_header Answer bytes h first = rw (take-suc bytes 4 0 h, take-suc bytes 3 0 (omega arith), first_three bytes (omega arith) first)

module _ (dir : Direction) (bytes : List ℕ) (w : Whole dir bytes) where
  pub data_length : length (data_in dir bytes) ≡ dl dir bytes
  data_length = length-take-le (dl dir bytes) (drop (header dir) bytes) (rw length-drop (omega arith))

  read_end : drop (header dir + dl dir bytes) bytes ≡ ends ∷ []
  read_end =
      let place : header dir + dl dir bytes ≡ length bytes - 1 = omega arith in
      let inside : length bytes - 1 < length bytes = omega arith in
      let over : drop (suc (length bytes - 1)) bytes ≡ [] = drop_of_length-le bytes {i = suc (length bytes - 1)} (omega arith) in
      rw (place, drop-cons bytes (length bytes - 1) 0 inside, w.last, over)

  read_rest : drop (header dir) bytes ≡ data_in dir bytes ++ ends ∷ []
  read_rest = sym (take-append-drop (dl dir bytes) (drop (header dir) bytes)) ∙ rw (drop-drop, read_end)

  whole_again : bytes ≡ frame_of dir (fields_in dir bytes).zone (fields_in dir bytes).command (fields_in dir bytes).answer (data_in dir bytes)
  unfolding frame_of
  whole_again =
      let long : header dir ≤ length bytes = omega arith in
      sym (take-append-drop (header dir) bytes)
      ∙ rw (data_length, read_header dir bytes long w.first)
      (ap (λ (l : List ℕ). header_of dir (get_or bytes 1 0) (get_or bytes 2 0) (answer_in dir bytes) (dl dir bytes) ++ l) read_rest)

pub frame_again : (dir : Direction) (bytes : List ℕ) → is_frame dir bytes ≡ true
    → bytes ≡ frame_of dir (fields_in dir bytes).zone (fields_in dir bytes).command (fields_in dir bytes).answer (data_in dir bytes)
frame_again dir bytes e = whole_again dir bytes (is_whole dir bytes e)
