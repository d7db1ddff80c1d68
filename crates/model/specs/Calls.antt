-- The calls over an arena and what is lent for the tables, whatever form they have; and those of the first engine.
use Rattle.std.specs.Prelude.{ℕ, ◌*◌, ◌/◌, ◌≡◌, Bool, ◌&&◌, List, [], ◌∷◌, T, eqb, length, replicate, Option, None, Some, Ok, Err}
use Rattle.mem.specs.Lists.{choose}
use Rattle.mem.specs.Bytes.{zeros, same, part, put}
use Rattle.model.specs.declared.Refusal.{Refusal}
use Rattle.model.specs.declared.Refusal.TheVariants.{BadArena, Unsound}
use Rattle.model.specs.declared.Totals.{Totals}
use Rattle.model.specs.State.{Pool, Place, well_formed, aligned, rows}
use Rattle.model.specs.Blocks.{damage, Damage}
use Rattle.model.specs.Answers.{Answer, number_of, done, refusal, listed}
use Rattle.model.specs.Plans.{Plan, Write, writes, copies, Call, is_set_up, values_of, plan, fresh_pool, totals}
use Rattle.model.specs.Tables.{Layout, masks_layout, encode_by, view_by, sound_by, arena_right, room_bytes}

-- A form of the tables: what is kept for a state, the table room or that with a record; what it says, whether it is sound under an arena of n bytes,
-- and whether set up takes it for one.
pub record Form : Type 1 where
  pub Kept : Type 0
  pub encode : Pool → Kept
  pub view : Kept → Pool
  pub sound : ℕ → Kept → Bool
  pub fits : ℕ → Kept → Bool

-- what a call leaves; the kept is the table room, and in the first engine the record too
pub record Outcome (R : Type 0) : Type 0 where
  pub answer : Answer
  pub arena : List ℕ
  pub kept : R

-- 02 §4: "The six totals are now kept in one small record beside the tables": tables, and the record
pub record WithTotals (R : Type 0) : Type 0 where
  pub tables : R
  pub totals : Totals

-- where the tables are bytes
abbrev pub KeptBytes : Type 0
KeptBytes = WithTotals (List ℕ)

abbrev pub kept_in : List ℕ → Totals → KeptBytes
kept_in t s = record { tables = t; totals = s }

abbrev pub EngineOutcome : Type 0
EngineOutcome = Outcome KeptBytes

unfoldable pub same_totals : Totals → Totals → Bool
same_totals a b = same (listed a) (listed b)

-- an answer, with the arena and the room that a call leaves
abbrev pub left : {R : Type 0} → Answer → List ℕ → R → Outcome R
left r a t = record { answer = r; arena = a; kept = t }

-- "With a refusal .. arena and tables keep every byte."
abbrev pub keeps : {R : Type 0} → Answer → List ℕ → R → Outcome R
keeps r a t = left r a t

-- the arena after writes, one after the other
abbrev pub write : List ℕ → Write → List ℕ
write a (writes p bs) = put p bs a
write a (copies from to n) = put to (part from n a) a

abbrev pub written : List ℕ → List Write → List ℕ
written a [] = a
written a (w ∷ ws) = written (write a w) ws

-- a plan carried out on an arena, and its state in the room
abbrev pub applied : (F : Form) → List ℕ → Plan → Outcome F.Kept
applied F a p = record { answer = p.answer; arena = written a p.changes; kept = F.encode p.pool }

-- "unsound: arena or table room length wrong, or a soundness rule is broken". "With a refusal the value is 0 (from report, six zeros)"
abbrev pub unsound : Call → Answer
unsound c = record { number = number_of Unsound; values = replicate (values_of c) 0; lent = [] }

-- what is done with a block that is intact, or else with the reason
unfoldable pub unless : {A : Type 0} → Damage → A → (Refusal → A) → A
unless (Ok _) x f = x
unless (Err r) x f = f r

module _ (row : ℕ) where
  -- the damage of the block that a plan names
  abbrev pub damaged : List ℕ → Option Place → Damage
  damaged a None = Ok tt
  damaged a (Some p) = damage row a p

  module _ (F : Form) where
    -- a plan carried out where the block that it names is intact; else the reason, and nothing changes
    unfoldable pub carried_by : List ℕ → F.Kept → Plan → Outcome F.Kept
    carried_by a t p =
        unless (damaged a p.checks) (applied F a p) (λ r. keeps (refusal r) a t)

    -- "bad arena: set up only: arena length outside the rule, or table room of another size"
    unfoldable pub set_up_right_by : List ℕ → F.Kept → Bool
    set_up_right_by a t = arena_right row (length a) && F.fits (length a) t

    -- "Set up writes zero over the whole arena and makes tables with no groups."
    unfoldable pub set_up_by : List ℕ → F.Kept → Outcome F.Kept
    set_up_by a t =
        let yes : Outcome F.Kept = record { answer = done (0 ∷ []); arena = zeros (length a); kept = F.encode (fresh_pool (length a / row)) } in
        choose (set_up_right_by a t) yes (keeps (refusal BadArena) a t)

    -- a call on tables that must be sound
    unfoldable pub checked_by : List ℕ → F.Kept → Call → Outcome F.Kept
    checked_by a t c = let yes = carried_by a t (plan row (F.view t) c) in choose (F.sound (length a) t) yes (keeps (unsound c) a t)

    unfoldable pub call_by : List ℕ → F.Kept → Call → Outcome F.Kept
    unfolding choose
    call_by a t c = choose (is_set_up c) (set_up_by a t) (checked_by a t c)

  -- a state that an arena of n bytes can have
  pub record Stands (n : ℕ) (P : Pool) : Type 0 where
    pub lawful : T (arena_right row n)
    pub long : n ≡ row * rows row P
    pub formed : T (well_formed P)
    pub bounds : T (aligned row P)

  -- The laws of a form: a sound room is the one form of a state that stands, and says it; set up takes it back, over arenas of that length alone.
  pub record FormLaws (F : Form) : Type 0 where
    pub says : (P : Pool) → T (well_formed P) → F.view (F.encode P) ≡ P
    pub right : (n : ℕ) (P : Pool) → Stands n P → T (F.sound n (F.encode P))
    pub only : (n : ℕ) (t : F.Kept) → T (F.sound n t) → Stands n (F.view t) × (t ≡ F.encode (F.view t))
    pub taken : (n : ℕ) (P : Pool) → Stands n P → T (F.fits n (F.encode P))
    pub sized : (n m : ℕ) (P : Pool) → Stands n P → T (arena_right row m) → T (F.fits m (F.encode P)) → m ≡ n

  -- tables in bytes, in a layout: set up takes a room of the one exact size
  abbrev pub form_of : Layout → Form
  form_of L = record {
    Kept = List ℕ;
    encode = encode_by L row;
    view = view_by L row;
    sound = sound_by L row;
    fits = λ n t. eqb (length t) (room_bytes (n / row));
  }

  -- tables by masks: the soundness of document 01
  abbrev pub masked : Form
  masked = form_of masks_layout

  -- 02 §4: a form with the record beside it. "Soundness gains a rule: the stored totals equal those counted from the tables."
  abbrev pub counted : Form → Form
  counted F = record {
    Kept = WithTotals F.Kept;
    encode = λ P. record { tables = F.encode P; totals = totals row P };
    view = λ t. F.view t.tables;
    sound = λ n t. F.sound n t.tables && same_totals t.totals (totals row (F.view t.tables));
    fits = λ n t. F.fits n t.tables;
  }

  -- THE FIRST ENGINE, by its form

  abbrev pub engine : Form
  engine = counted masked

  -- what is lent is sound under an arena of n bytes: the tables, and the record beside them
  abbrev pub sound_kept : ℕ → KeptBytes → Bool
  sound_kept n t = engine.sound n t

  abbrev pub carried : List ℕ → KeptBytes → Plan → EngineOutcome
  carried a t p = carried_by engine a t p

  abbrev pub set_up_right : List ℕ → KeptBytes → Bool
  set_up_right a t = set_up_right_by engine a t

  abbrev pub set_up : List ℕ → KeptBytes → EngineOutcome
  set_up a t = set_up_by engine a t

  abbrev pub checked : List ℕ → KeptBytes → Call → EngineOutcome
  checked a t c = checked_by engine a t c

  abbrev pub call : List ℕ → KeptBytes → Call → EngineOutcome
  call a t c = call_by engine a t c
