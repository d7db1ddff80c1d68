-- Lines with the text due: one list.
use Rattle.std.specs.Prelude.{ℕ, ◌≡◌, List, [], ◌∷◌, map}
use Rattle.model.specs.declared.Refusal.TheVariants.{Unsound, NoRoom}
use Rattle.model.specs.Answers.{done, refusal, report_refusal}
use Rattle.trace.specs.Replay.{Line, told, bad}
use Rattle.line_text.specs.Lines.{line_text}

-- a line, and its text in ASCII
pub record TextCase : Type 0 where
  pub line : Line
  pub text : List ℕ

abbrev pub prints : Line → List ℕ → TextCase
prints l t = record { line = l; text = t }

unfoldable pub sheet : List TextCase
sheet =
    -- `0 16`, and a store's `0 0`
    prints (told (done (16 ∷ []))) (48 ∷ 32 ∷ 49 ∷ 54 ∷ 10 ∷ [])
    ∷ prints (told (done (0 ∷ []))) (48 ∷ 32 ∷ 48 ∷ 10 ∷ [])
    -- `8 0`
    ∷ prints (told (refusal NoRoom)) (56 ∷ 32 ∷ 48 ∷ 10 ∷ [])
    -- `0 1 160 8 24 20 0`, and `2 0 0 0 0 0 0`
    ∷ prints (told (done (1 ∷ 160 ∷ 8 ∷ 24 ∷ 20 ∷ 0 ∷ [])))
    (48 ∷ 32 ∷ 49 ∷ 32 ∷ 49 ∷ 54 ∷ 48 ∷ 32 ∷ 56 ∷ 32 ∷ 50 ∷ 52 ∷ 32 ∷ 50 ∷ 48 ∷ 32 ∷ 48 ∷ 10 ∷ [])
    ∷ prints (told (report_refusal Unsound)) (50 ∷ 32 ∷ 48 ∷ 32 ∷ 48 ∷ 32 ∷ 48 ∷ 32 ∷ 48 ∷ 32 ∷ 48 ∷ 32 ∷ 48 ∷ 10 ∷ [])
    -- `bad 0`, `bad 21844`
    ∷ prints (bad 0) (98 ∷ 97 ∷ 100 ∷ 32 ∷ 48 ∷ 10 ∷ [])
    ∷ prints (bad 21844) (98 ∷ 97 ∷ 100 ∷ 32 ∷ 50 ∷ 49 ∷ 56 ∷ 52 ∷ 52 ∷ 10 ∷ [])
    ∷ []

-- the text of every line is that due
abbrev pub TextsDue : Type 0
TextsDue = map (λ e. line_text e.line) sheet ≡ map (λ e. e.text) sheet
