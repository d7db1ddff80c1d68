-- A block as the calls handle it, whatever tables it is in: where it lies, what is found of it, and what a call carries out.
use Rattle.std.specs.Prelude.{ℕ, ◌+◌, ◌*◌, ◌-◌, ◌%◌, ◌≤◌, ◌<◌, ◌≡◌, Bool, ◌&&◌, List, ◌∷◌, ◌++◌, leb, eqb, length, Option, None, Some, Ok, Err, Result}
use Rattle.mem.specs.Lists.{choose}
use Rattle.mem.specs.Bytes.{part}
use Rattle.classes.specs.Classes.{slot_bytes, rows_of, size_limit, own_class}
use Rattle.classes.specs.Alignments.{ordinary, enlarged}
use Rattle.model.specs.declared.Refusal.{Refusal}
use Rattle.model.specs.declared.Refusal.TheVariants.{Unsound, TooLarge, NoSuchBlock, AlreadyFree, Stale}
use Rattle.model.specs.State.{Place, group, is_live, count, use_bits, start_of, pool_of}
use Rattle.model.specs.Blocks.{damage_in, damage, Damage}
use Rattle.model.specs.Answers.{reply_answer}
use Rattle.model.specs.Plans.{Plan, Site, lookup, new_size}
use Rattle.model.specs.Tables.{Layout, encode_by, most_rows}
use Rattle.model.specs.Calls.{Form, written}
use Rattle.rows.specs.declared.Block.{Block}
use Rattle.rows.specs.declared.Looked.{Looked}
use Rattle.rows.specs.declared.Looked.TheVariants.{Present, Freed, Absent}
use Rattle.rows.specs.Rows.{block_of, owned_at}

-- a block whose slot lies in an arena of len bytes
pub record Standing (row len : ℕ) (b : Block) : Type 0 where
  pub class : b.class < 48
  pub slot : b.slot < 31
  pub bytes : 16 * b.alloc.disp + b.alloc.size + 4 ≤ slot_bytes b.class
  pub owned : row * b.first + 12 + b.slot * slot_bytes b.class + slot_bytes b.class ≤ len
  pub group : row * (b.first + rows_of row b.class) ≤ len
  pub few : b.first + rows_of row b.class ≤ most_rows

-- a block that was found lies in an arena of len bytes
abbrev pub Lies : (row len : ℕ) → Looked → Type 0
Lies row len Absent = Unit {0}
Lies row len Freed = Unit {0}
Lies row len (Present b) = Standing row len b

-- the alignment of what was found: that of a live block; of anything else, an ordinary block's
abbrev pub code_found : Looked → ℕ
code_found Absent = ordinary
code_found Freed = ordinary
code_found (Present b) = b.alloc.align

-- the bits of its handle: those of a live block; of anything else, 0
abbrev pub bits_found : Looked → ℕ
bits_found Absent = 0
bits_found Freed = 0
bits_found (Present b) = use_bits b.alloc.count

-- whether a block of n bytes can stay in the block's slot
abbrev pub stays_in : Block → ℕ → Bool
stays_in b n = leb n (slot_bytes b.class - 4 - 16 * b.alloc.disp) && own_class b.class (enlarged b.alloc.align n)

module _ (row : ℕ) where
  -- a live block with header and guard as due, or why not
  abbrev pub by_damage : Block → Damage → Result Block Refusal
  by_damage b (Ok _) = Ok b
  by_damage b (Err r) = Err r

  -- what is located by a handle with the bits of a use count; any other is stale
  abbrev pub by_bits : (handle count : ℕ) → Result Block Refusal → Result Block Refusal
  by_bits h k r = choose (eqb (h % 16) (use_bits k)) r (Err Stale)

  -- what was found at the start of a handle
  abbrev pub judged : List ℕ → (handle : ℕ) → Looked → Result Block Refusal
  judged a h Absent = Err NoSuchBlock
  judged a h Freed = Err AlreadyFree
  judged a h (Present b) = by_bits h b.alloc.count
      (by_damage b (damage_in b.class b.slot b.alloc.disp b.alloc.size (part (owned_at row b) (slot_bytes b.class) a)))

  abbrev pub located : List ℕ → (handle : ℕ) → Option Place → Result Block Refusal
  located a h None = Err NoSuchBlock
  located a h (Some p) =
      let r = by_bits h (count p.state) (by_damage (block_of row p) (damage row a p)) in
      choose (is_live p.state) r (Err AlreadyFree)

  -- both for a block that is to have n bytes: answer 3 goes first, by the start and whatever the bits
  abbrev pub judged_for : List ℕ → (handle n : ℕ) → Looked → Result Block Refusal
  judged_for a h n l = let r = judged a h l in choose (leb size_limit (enlarged (code_found l) n)) (Err TooLarge) r

  abbrev pub located_for : List ℕ → (handle n : ℕ) → Option Place → Result Block Refusal
  located_for a h n q = let r = located a h q in choose (leb size_limit (new_size q n)) (Err TooLarge) r

  -- in tables that must be sound
  abbrev pub found_for : (F : Form) → List ℕ → F.Kept → (handle n : ℕ) → Result Block Refusal
  found_for F a t h n = let l = located_for a h n (lookup row (F.view t) (start_of h)) in choose (F.sound (length a) t) l (Err Unsound)

  -- what a grant reserves, as the code has it
  abbrev pub reserved_as : Option Place → Option Block
  reserved_as None = None
  reserved_as (Some q) = Some (block_of row q)

module _ (L : Layout) (row : ℕ) where
  -- the room with the group in which a slot is taken, and the room after a grant
  abbrev pub site_room_by : ℕ → List ℕ → Option Site → List ℕ
  site_room_by c t None = t
  site_room_by c t (Some g) = encode_by L row (g.before ++ (group c g.slots ∷ g.after))

  abbrev pub next_room_by : List ℕ → Option Place → List ℕ
  next_room_by t None = t
  next_room_by t (Some q) = encode_by L row (pool_of q)

-- an answer, an arena and what is lent for the tables are those of a plan carried out on an arena
pub record CarriedOutBy (F : Form) (a : List ℕ) (p : Plan) (r : Result ℕ Refusal) (x : List ℕ) (u : F.Kept) : Type 0 where
  pub answer : reply_answer r ≡ p.answer
  pub arena : x ≡ written a p.changes
  pub kept : u ≡ F.encode p.pool
