-- Demand 3: one sending keeps every setting between its start and the sheet, cut or not; a full one reaches the sheet.
use mathlib.Core.Path.{◌≡◌, refl, ap, sym, ◌∙◌, subst}
use mathlib.Core.Bool.{true, false}
use mathlib.Core.List.{List, [], ◌∷◌, ◌++◌}
use mathlib.Core.Logic.{◌⊎◌, inl, inr}
use Prim.Native.Nat.{ℕ, zero, suc, ◌+◌, ◌≤◌, ◌<◌}
use native.Mathlib.Omega.{arith}
use lib.ListN.{take, replicate}
use Rattle.frame.specs.Frame.{opens, ends, frame_of}
use Rattle.frame.specs.Reader.{answer_to, taken_after}
use Rattle.frame.specs.declared.direction.Direction.TheVariants.{Command}
use Rattle.frame.proofs.Cases.{cases}
use Rattle.row.specs.declared.profile.Profile.{Profile}
use Rattle.lists.specs.InOrder.{in_order}
use Rattle.sheet.specs.Line.{is_legal, same_cell}
use Rattle.sheetfile.specs.Run.{line_frame, frames_of}
use Rattle.sheet.specs.declared.line.Line.{Line}
use Rattle.unit.specs.Unit.{Setting, Settings, same_setting, put, Unit, Holds, Done, takes, frame_done, after}
use Rattle.lists.specs.Each.{Each}
use Rattle.unit.specs.Sending.{AreBytes, setting_of, NotOn, Apart, sending, sendings}
use Rattle.unit.specs.Demand3.{stopped, Promised}
use Rattle.unit.specs.SendingPromise.{SendingPromise}
use Rattle.unit.proofs.Cells.{is_cell, cell_self, holds_same}
use Rattle.lists.proofs.Each.{each_map, each_zip}
use Rattle.unit.proofs.Sets.{line_promise}
use Rattle.unit.proofs.Flush.{Within, byte_within, zero_nearer, opened, bytes_within, quiet}
use Rattle.unit.proofs.Moments.{Always, always_last, always_append, always_take, after_append}
use Rattle.streams.specs.Stream.{reader_by}

pub near_more : (j k : ℕ) (taken : List ℕ) → j ≤ k → Within Command j taken → Within Command k taken
near_more j k taken h w some = omega (arith, w some)

-- zeros bring the reader nearer
pub zeros_near : (n k : ℕ) (u : Unit) → Within Command (n + k) u.taken → Within Command k (after u (replicate n 0)).taken
unfolding reader_by
zeros_near zero k u w = near_more (0 + k) k u.taken (omega arith) w
zeros_near (suc n) k u w =
    zeros_near n k (takes u 0) (zero_nearer Command u.taken (n + k) (near_more (suc n + k) (suc (n + k)) u.taken (omega arith) w))

-- a byte that is not 0D only moves the reader
settings_quiet : (u : Unit) (b : ℕ) → (b ≡ ends → ⊥) → (takes u b).settings ≡ u.settings
settings_quiet u b other = ap (λ (d : Done). d.settings) (quiet u b other)

-- 21, where it opens a frame
pub first : (u : Unit) → Within Command 1 u.taken → takes u opens ≡ record { profile = u.profile; taken = opens ∷ []; settings = u.settings }
first u near =
    let taken : taken_after Command u.taken opens ≡ opens ∷ [] = opened Command u.taken opens refl near in
    let same : (takes u opens).settings ≡ u.settings = settings_quiet u opens (λ e. omega arith) in
    λ i. record { profile = u.profile; taken = taken i; settings = same i }

module _ (profile : Profile) (start want : Settings) where
  abbrev pub Between : Settings → Type 0
  Between s = (x : Setting) → (s x ≡ start x) ⊎ (s x ≡ want x)

  -- a unit whose settings lie between the start and what is wanted
  pub record Good (u : Unit) : Type 0 where
    pub family : u.profile ≡ profile
    pub near : Within Command 256 u.taken
    pub between : Between u.settings

  good_quiet : (u : Unit) (b : ℕ) → b < 256 → (b ≡ ends → ⊥) → Good u → Good (takes u b)
  good_quiet u b h other g = record {
    family = g.family;
    near = byte_within Command u.taken b h g.near;
    between = subst Between (sym (settings_quiet u b other)) g.between;
  }

  zeros_good : (n : ℕ) (u : Unit) → Good u → Always Good u (replicate n 0)
  unfolding Always
  zeros_good zero u g = g
  zeros_good (suc n) u g = (g, zeros_good n (takes u 0) (good_quiet u 0 (omega arith) (λ e. omega arith) g))

  -- a line that is legal, and wanted
  abbrev pub Wanted : Line → Type 0
  Wanted l = (is_legal profile l ≡ true) × (want (setting_of l) ≡ l.value)

  put_between : (l : Line) (s : Settings) → want (setting_of l) ≡ l.value → Between s → Between (put s (setting_of l) l.value)
  put_between l s e b x =
      cases (λ (v : ℕ). (v ≡ start x) ⊎ (v ≡ want x)) (same_setting (setting_of l) x) (λ f. inr (sym e ∙ ap want (is_cell (setting_of l) x f))) (λ f. b x)

  put_keeps : (l : Line) (s : Settings) → want (setting_of l) ≡ l.value → (x : Setting) → s x ≡ want x → put s (setting_of l) l.value x ≡ want x
  put_keeps l s e x h = cases (λ (v : ℕ). v ≡ want x) (same_setting (setting_of l) x) (λ f. sym e ∙ ap want (is_cell (setting_of l) x f)) (λ f. h)

  -- one line's frame, from a reader that 21 opens
  module _ (l : Line) (w : Wanted l) (u : Unit) (g : Good u) (near : Within Command 1 u.taken) where
    abbrev opened_unit : List ℕ → Unit
    opened_unit taken = record { profile = u.profile; taken = taken; settings = u.settings }

    abbrev rest : List ℕ
    rest = l.zone ∷ l.command ∷ 1 ∷ l.value ∷ ends ∷ []

    sets : (frame_done u.profile u.settings (opens ∷ rest)).settings ≡ put u.settings (setting_of l) l.value
    unfolding frame_of
    sets = (line_promise u.profile u.settings l).sets (rw g.family w.0)

    abbrev framed_unit : Unit
    framed_unit = record { profile = u.profile; taken = []; settings = put u.settings (setting_of l) l.value }

    inside : (taken : List ℕ) → Within Command 256 taken → Good (opened_unit taken)
    inside taken h = record { family = g.family; near = h; between = g.between }

    frame_after : after u (line_frame l) ≡ framed_unit
    unfolding reader_by frame_of answer_to taken_after
    frame_after = ap (λ (x : Unit). after x rest) (first u near) ∙ ap (λ (s : Settings). record { profile = u.profile; taken = []; settings = s }) sets

    frame_ended : Good (record { profile = u.profile; taken = []; settings = (frame_done u.profile u.settings (opens ∷ rest)).settings })
    frame_ended = record {
      family = g.family;
      near = λ some. absurd (omega arith);
      between = subst Between (sym sets) (put_between l u.settings w.1 g.between);
    }

    frame_good : Always Good u (line_frame l)
    unfolding Always frame_of answer_to taken_after
    frame_good = (
      g,
      subst (λ (x : Unit). Always Good x rest) (sym (first u near)) (
        inside (opens ∷ []) (λ some. omega arith),
        (
          inside (opens ∷ l.zone ∷ []) (λ some. omega arith),
          (
            inside (opens ∷ l.zone ∷ l.command ∷ []) (λ some. omega arith),
            (
              inside (opens ∷ l.zone ∷ l.command ∷ 1 ∷ []) (λ some. omega arith),
              (inside (opens ∷ l.zone ∷ l.command ∷ 1 ∷ l.value ∷ []) (λ some. omega arith), frame_ended),
            ),
          ),
        ),
      ),
    )

  -- the frames of lines that are wanted: each setting that was as wanted stays so, and each line's becomes so
  abbrev Reached : Unit → Line → Type 0
  Reached u l = u.settings (setting_of l) ≡ want (setting_of l)

  record Framed (u : Unit) (ls : List Line) : Type 0 where
    always : Always Good u (frames_of ls)
    keeps : (x : Setting) → u.settings x ≡ want x → (after u (frames_of ls)).settings x ≡ want x
    all : Each (Reached (after u (frames_of ls))) ls

  framed : (ls : List Line) → Each Wanted ls → (u : Unit) → Good u → Within Command 1 u.taken → Framed u ls
  unfolding in_order Always reader_by frame_of
  framed [] w u g near = record { always = g; keeps = λ x e. e; all = tt }
  framed (l ∷ ls) w u g near =
      let one = frame_after l w.0 u g near in
      let next : Unit = after u (line_frame l) in
      let good : Good next = always_last Good u (line_frame l) (frame_good l w.0 u g near) in
      let outside : Within Command 1 next.taken = rw (ap (λ (x : Unit). x.taken) one) (λ some. absurd (omega arith)) in
      let put_is : (x : Setting) → next.settings x ≡ put u.settings (setting_of l) l.value x = λ x. ap (λ (v : Unit). v.settings x) one in
      let own : next.settings (setting_of l) ≡ want (setting_of l) = put_is (setting_of l) ∙ rw (cell_self (setting_of l)) (sym w.0.1) in
      let more = framed ls w.1 next good outside in
      let whole : after u (line_frame l ++ frames_of ls) ≡ after next (frames_of ls) = after_append u (line_frame l) (frames_of ls) in
      record {
        always = always_append Good u (line_frame l) (frames_of ls) (frame_good l w.0 u g near) more.always;
        keeps = λ x e. rw whole (more.keeps x (put_is x ∙ put_keeps l u.settings w.0.1 x e));
        all = rw whole (more.keeps (setting_of l) own, more.all);
      }

  -- one sending, of at least 255 zeros and the frames
  module _ (zeros : ℕ) (enough : 255 ≤ zeros) (ls : List Line) (w : Each Wanted ls) where
    module _ (u : Unit) (g : Good u) where
      zeros_sent : Always Good u (replicate zeros 0)
      zeros_sent = zeros_good zeros u g

      frames_sent : Framed (after u (replicate zeros 0)) ls
      frames_sent =
          framed ls w (after u (replicate zeros 0)) (always_last Good u (replicate zeros 0) zeros_sent)
          (zeros_near zeros 1 u (near_more 256 (zeros + 1) u.taken (omega arith) g.near))

      pub sent_good : Always Good u (sending zeros ls)
      sent_good = always_append Good u (replicate zeros 0) (frames_of ls) zeros_sent frames_sent.always

      sent_all : Each (Reached (after u (sending zeros ls))) ls
      sent_all = subst (λ (x : Unit). Each (Reached x) ls) (sym (after_append u (replicate zeros 0) (frames_of ls))) frames_sent.all

    -- any number of them, cut anywhere, and then one in full
    all_good : (cuts : List ℕ) (u : Unit) → Good u → Always Good u (sendings cuts (sending zeros ls))
    all_good [] u g = sent_good u g
    all_good (cut ∷ cuts) u g =
        let part = always_take Good cut u (sending zeros ls) (sent_good u g) in
        always_append Good u (take cut (sending zeros ls)) (sendings cuts (sending zeros ls)) part
        (all_good cuts (after u (take cut (sending zeros ls))) (always_last Good u (take cut (sending zeros ls)) part))

    all_full : (cuts : List ℕ) (u : Unit) → Good u → Each (Reached (after u (sendings cuts (sending zeros ls)))) ls
    all_full [] u g = sent_all u g
    all_full (cut ∷ cuts) u g =
        let part = always_take Good cut u (sending zeros ls) (sent_good u g) in
        subst (λ (x : Unit). Each (Reached x) ls) (sym (after_append u (take cut (sending zeros ls)) (sendings cuts (sending zeros ls))))
        (all_full cuts (after u (take cut (sending zeros ls))) (always_last Good u (take cut (sending zeros ls)) part))

-- what lines make of settings
abbrev pub wanted : List Line → Settings → Settings
wanted [] s = s
wanted (l ∷ ls) s = put (wanted ls s) (setting_of l) l.value

-- lines that are apart: each is what is wanted of its own cell
wanted_own : (ls : List Line) (s : Settings) → Apart ls → Each (λ (l : Line). wanted ls s (setting_of l) ≡ l.value) ls
wanted_own [] s a = tt
wanted_own (k ∷ ls) s a =
    (rw (cell_self (setting_of k)), each_zip (λ l. same_cell k l ≡ false) (λ l. wanted ls s (setting_of l) ≡ l.value) (λ l. wanted (k ∷ ls) s (setting_of l) ≡ l.value) ls (λ l other e. rw other e) a.0 (wanted_own ls s a.1))

wanted_other : (ls : List Line) (s : Settings) (x : Setting) → NotOn ls x → wanted ls s x ≡ s x
wanted_other [] s x n = refl
wanted_other (l ∷ ls) s x n =
    cases (λ (v : ℕ). v ≡ s x) (same_setting (setting_of l) x) (λ e. absurd (n.0 (is_cell (setting_of l) x e))) (λ e. wanted_other ls s x n.1)

module _ (zeros : ℕ) (enough : 255 ≤ zeros) (profile : Profile) (s : Settings) (before : List ℕ) (ls : List Line) (cuts : List ℕ)
    (bytes : AreBytes before) (legal : Each (λ (l : Line). is_legal profile l ≡ true) ls) (apart : Apart ls) where
  abbrev want : Settings
  want = wanted ls s

  abbrev u : Unit
  u = stopped profile s before

  abbrev sent : List ℕ
  sent = sendings cuts (sending zeros ls)

  pub start_good : Good profile s want u
  start_good = record {
    family = refl;
    near = bytes_within Command [] before bytes (λ some. absurd (omega arith));
    between = λ x. inl refl;
  }

  own : Each (λ (l : Line). want (setting_of l) ≡ l.value) ls
  own = wanted_own ls s apart

  pub lines : Each (Wanted profile s want) ls
  lines = each_zip (λ l. is_legal profile l ≡ true) (λ l. want (setting_of l) ≡ l.value) (Wanted profile s want) ls (λ l e f. (e, f)) legal own

  moment : (n : ℕ) → Good profile s want (after u (take n sent))
  moment n =
      always_last (Good profile s want) u (take n sent)
      (always_take (Good profile s want) n u sent (all_good profile s want zeros enough ls lines cuts u start_good))

  kept : Promised u ls sent
  kept = record {
    sheet = λ n. each_map (λ l. want (setting_of l) ≡ l.value) _ ls (λ l e. to_value (after u (take n sent)) (setting_of l) e ((moment n).between (setting_of l))) own;
    others = λ n x none. to_start (after u (take n sent)) x none ((moment n).between x);
    full = each_zip (λ l. want (setting_of l) ≡ l.value) (Reached profile s want (after u sent)) _ ls (λ l e f. holds_same (after u sent) (setting_of l) l.value (f ∙ e)) own (all_full profile s want zeros enough ls lines cuts u start_good);
  }
    where
      to_value : (v : Unit) (x : Setting) {w a b : ℕ} → w ≡ b → (v.settings x ≡ a) ⊎ (v.settings x ≡ w) → Holds v x a ⊎ Holds v x b
      to_value v x e (inl f) = inl (holds_same v x _ f)
      to_value v x e (inr f) = inr (holds_same v x _ (f ∙ e))

      to_start : (v : Unit) (x : Setting) → NotOn ls x → (v.settings x ≡ s x) ⊎ (v.settings x ≡ want x) → Holds v x (s x)
      to_start v x none (inl f) = holds_same v x (s x) f
      to_start v x none (inr f) = holds_same v x (s x) (f ∙ wanted_other ls s x none)

pub sending_promise : (zeros : ℕ) → 255 ≤ zeros → SendingPromise zeros
sending_promise zeros enough = record { holds = kept zeros enough }
