-- Two forms of the tables, 02 §8: "From an accepted set up over arenas of one length, each lent its own room (the first engine also §4's record) as its
-- last call left it, for every sequence of calls with any arena stores between, the same in both, they give equal answers and equal arena bytes."
use Rattle.std.specs.Prelude.{ℕ, ◌≡◌, List, [], ◌∷◌, length}
use Rattle.mem.specs.Bytes.{put}
use Rattle.model.specs.Answers.{Answer}
use Rattle.model.specs.Plans.{Call, sets_up}
use Rattle.model.specs.Calls.{Form, FormLaws, masked, engine, call_by}
use Rattle.model.specs.Plain.{plain_form}

-- bytes stored anywhere in the arena; what would fall past its end is left out
pub record Store : Type 0 where
  pub at : ℕ
  pub bytes : List ℕ

abbrev pub stored : List ℕ → List Store → List ℕ
stored a [] = a
stored a (s ∷ ss) = stored (put s.at s.bytes a) ss

-- a turn: stores, and then a call
pub record Round : Type 0 where
  pub stores : List Store
  pub asks : Call

-- what is seen of a call: all that it gives back, and the arena's bytes
pub record Seen : Type 0 where
  pub answer : Answer
  pub arena : List ℕ

module _ (row : ℕ) where
  -- what is seen of each call of a run; the room is lent as the last call left it
  unfoldable pub seen : (F : Form) → List ℕ → F.Kept → List Round → List Seen
  seen F a t [] = []
  seen F a t (u ∷ us) =
      let r = call_by row F (stored a u.stores) t u.asks in
      record { answer = r.answer; arena = r.arena } ∷ seen F r.arena r.kept us

  -- from a set up on, which is seen too
  abbrev pub seen_fresh : (F : Form) → List ℕ → F.Kept → List Round → List Seen
  seen_fresh F a t us =
      let s = call_by row F a t sets_up in record { answer = s.answer; arena = s.arena } ∷ seen F s.arena s.kept us

  -- two forms: each is set up over an arena and a room of its own, whatever bytes are in them
  abbrev pub Alike : Form → Form → Type 0
  Alike F G = (a b : List ℕ) (t : F.Kept) (v : G.Kept) (us : List Round)
      → (call_by row F a t sets_up).answer.number ≡ 0 → (call_by row G b v sets_up).answer.number ≡ 0 → length a ≡ length b
      → seen_fresh F a t us ≡ seen_fresh G b v us

  -- THE CLAIM: any two lawful forms are alike
  abbrev pub FormsAlike : Type 1
  FormsAlike = (F G : Form) → FormLaws row F → FormLaws row G → Alike F G

  -- and the first engine's form is one of them, and so are its tables without the record
  abbrev pub FirstLawful : Type 0
  FirstLawful = FormLaws row (engine row)

  abbrev pub MaskedLawful : Type 0
  MaskedLawful = FormLaws row (masked row)

  -- and the second engine's, a plain record for each slot and no totals
  abbrev pub SecondLawful : Type 0
  SecondLawful = FormLaws row (plain_form row)

  -- 02 §8: the two engines "give equal answers and equal arena bytes"
  abbrev pub TwoEngines : Type 0
  TwoEngines = Alike (engine row) (plain_form row)

-- the stores reach every arena: any bytes can stand in it before a call
abbrev pub StoresAnywhere : Type 0
StoresAnywhere = (a b : List ℕ) → length a ≡ length b → stored a (record { at = 0; bytes = b } ∷ []) ≡ b
