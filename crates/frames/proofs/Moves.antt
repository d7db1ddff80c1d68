-- A block that moves, in any layout: in the tables that the grant leaves it still lives, and the new block is apart from it.
use Rattle.mem.proofs.Prelude.{◌∙◌, ◌≡◌, sym, ap, ap₂, true, ⊎_elim, inl, inr, ◌⊎◌, Some, None, List, [], ◌∷◌, ◌+◌, ℕ, ◌≤◌, ◌*◌, min, arith, Ok}
use Rattle.mem.specs.Bytes.{put, part}
use Rattle.mem.proofs.Tests.{T_true}
use Rattle.classes.specs.Classes.{slot_bytes}
use Rattle.classes.specs.Alignments.{Askable}
use Rattle.model.specs.declared.Refusal.TheVariants as refusals
use Rattle.model.specs.State.{Place, disp, size, align, pool_of, slot_number, rows, owned, start}
use Rattle.model.specs.Blocks.{frame}
use Rattle.model.specs.Answers.{done}
use Rattle.model.specs.Plans.{Plan, refused_on, reserve, discard, release_at, move_at, move_to, enframe}
use Rattle.model.specs.Tables.{Layout, view_by, encode_by, sound_by}
use Rattle.model.specs.Calls.{written, form_of}
use Rattle.model.proofs.Tables.{view-encode, encode-sound}
use Rattle.model.proofs.Fresh.{whole_units}
use Rattle.model.proofs.Lookup.{Fits, fits, disp_inside}
use Rattle.model.proofs.Reserve.{reserve-size, Granted, reserve_formed}
use Rattle.model.proofs.Stays.{Stays}
use Rattle.model.proofs.Moves.{Old, old, old_released, old_apart}
use Rattle.rows.specs.declared.Block.{Block}
use Rattle.rows.specs.Rows.{Lent, block_of, owned_at, start_at, handle_at, Holds}
use Rattle.rows.proofs.Rooms.{facts, few_rows}
use Rattle.frames.specs.Blocks.{Standing, CarriedOutBy}
use Rattle.frames.proofs.Places.{place_stands, held_pool}

-- one slot of two pools is one block
stays_block : (row : ℕ) (p q : Place) → Stays row p q → block_of row q ≡ block_of row p
stays_block row p q s =
    let a : rows row q.before ≡ rows row p.before = s.slot.first in
    let b : q.cls ≡ p.cls = s.slot.cls in
    let c : slot_number q ≡ slot_number p = s.slot.number in
    let d : q.state ≡ p.state = s.state in
    cc

module _ {L : Layout} {row len : ℕ} {t : List ℕ} (r : Lent L row len t) (v n : ℕ) (small : Askable v n) (q : Place)
    (found : reserve row (view_by L row t) v n ≡ Some q) where
  grant_formed : Granted row (view_by L row t) v n q
  grant_formed = reserve_formed row (view_by L row t) v n q (facts r).formed small found

  -- what a grant leaves: sound tables, and a block that stands in the arena
  pub record Left : Type 0 where
    pub room : Lent L row len (encode_by L row (pool_of q))
    pub stands : Standing row len (block_of row q)
    pub says : view_by L row (encode_by L row (pool_of q)) ≡ pool_of q

  pub reserve-leaves : Left
  reserve-leaves =
      let l : len ≡ row * rows row (pool_of q) = (facts r).long ∙ ap (λ k. row * k) (sym grant_formed.long) in
      let s : sound_by L row len (encode_by L row (pool_of q)) ≡ true =
      T_true (sound_by L row len (encode_by L row (pool_of q))) (encode-sound r.laws row r.pos (pool_of q) len grant_formed.formed
      (grant_formed.bounds (whole_units row len (facts r).lawful) (facts r).bounds) (facts r).lawful l) in
      record {
        room = record { laws = r.laws; pos = r.pos; sound = s };
        stands = place_stands row r.pos len q grant_formed.formed (omega (arith, few_rows r, grant_formed.long)) l;
        says = view-encode r.laws row r.pos (pool_of q) grant_formed.formed;
      }

  module _ {b : Block} {p : Place} (h : Holds L row t b p) where
    -- the old block in the new tables
    pub there : pool_of p ≡ view_by L row t
    there = sym (held_pool r h)

    pub beside : Old row r.pos (view_by L row t) (facts r).formed v n small q found p there h.live
    beside = old row r.pos (view_by L row t) (facts r).formed v n small q found p there h.live

    pub beside_holds : Holds L row (encode_by L row (pool_of q)) b beside.place
    beside_holds = record {
      laws = r.laws;
      pos = r.pos;
      bytes = ap (encode_by L row) (sym beside.pool);
      block = h.block ∙ sym (stays_block row p beside.place beside.stays);
      live = beside.live;
      formed = beside.formed;
      few = omega (arith, few_rows r, grant_formed.long, ap (rows row) beside.pool);
    }

    -- the bytes of the two blocks are apart
    pub copy_apart : (k : ℕ) → k ≤ b.alloc.size → k ≤ size q.state → (start_at row b + k ≤ start row q) ⊎ (start row q + k ≤ start_at row b)
    copy_apart k l j =
        let fp : Fits p = fits p h.formed in
        let fq : Fits q = fits q grant_formed.formed in
        let ip : 16 * disp p.state + size p.state + 4 ≤ slot_bytes p.cls = disp_inside p.cls p.state fp.class fp.state in
        let iq : 16 * disp q.state + size q.state + 4 ≤ slot_bytes q.cls = disp_inside q.cls q.state fq.class fq.state in
        let e₁ : start_at row b ≡ start row p = ap (start_at row) h.block in
        let e₂ : b.alloc.size ≡ size p.state = ap (λ c. c.alloc.size) h.block in
        ⊎_elim (λ x. inl (omega (arith, x, ip, iq, e₁, e₂))) (λ x. inr (omega (arith, x, ip, iq, e₁, e₂)))
        (old_apart row r.pos (view_by L row t) (facts r).formed v n small q found p there h.live)

    pub taken-size : size q.state ≡ n
    taken-size = reserve-size row (view_by L row t) v n q (facts r).formed found

    -- the old block is given back by its place
    released_old : discard row (pool_of q) p ≡ release_at row beside.place
    unfolding beside
    released_old = old_released row r.pos (view_by L row t) (facts r).formed v n small q found p there h.live

    -- the plan of the move
    move-plan : v ≡ align p.state → move_at row (pool_of p) n p ≡ move_to row (pool_of p) p n (Some q)
    unfolding move_at
    move-plan e = ap (move_to row (pool_of p) p n) (ap₂ (λ P k. reserve row P k n) (sym (held_pool r h)) (sym e) ∙ found)

    pub moved_pool : v ≡ align p.state → (move_at row (pool_of p) n p).pool ≡ (release_at row beside.place).pool
    moved_pool e = ap (λ (x : Plan). x.pool) (move-plan e) ∙ ap (λ (x : Plan). x.pool) released_old

    -- over what the calls give: the arena with the new block, with its copy, and after the release
    pub moved : (c : Block) (a a₁ a₂ a₃ u : List ℕ) (s : ℕ) → block_of row q ≡ c
        → a₁ ≡ put (owned_at row c) (frame c.class c.slot c.alloc.disp c.alloc.size) a
        → a₂ ≡ put (start_at row c) (part (start_at row b) (min b.alloc.size n) a₁) a₁
        → a₃ ≡ written a₂ (release_at row beside.place).changes → u ≡ encode_by L row (release_at row beside.place).pool
        → s ≡ handle_at row c → v ≡ align p.state → CarriedOutBy (form_of row L) a (move_at row (pool_of p) n p) (Ok s) a₃ u
    unfolding enframe
    moved c a a₁ a₂ a₃ u s ec e₁ e₂ e₃ eu es ev =
        let sb : start_at row b ≡ start row p = ap (start_at row) h.block in
        let zb : b.alloc.size ≡ size p.state = ap (λ b. b.alloc.size) h.block in
        let f : a₂ ≡ put (start row q) (part (start row p) (min (size p.state) n) laid) laid = e₂ ∙ rw (sb, zb, e₁, ← ec) in
        rw (move-plan ev)
        (record {
          answer = ap (λ v. done (v ∷ [])) (es ∙ ap (handle_at row) (sym ec));
          arena = e₃ ∙ ap₂ (λ x (y : Plan). written x y.changes) f (sym released_old);
          kept = eu ∙ ap (λ (x : Plan). encode_by L row x.pool) (sym released_old);
        })
      where
        laid : List ℕ
        laid = put (owned row q) (frame q.cls (slot_number q) (disp q.state) (size q.state)) a

-- no room: the plan refuses
module _ {L : Layout} {row len : ℕ} {t : List ℕ} (r : Lent L row len t) (v n : ℕ) {b : Block} {p : Place} (h : Holds L row t b p) where
  pub unmoved_plan : v ≡ align p.state → reserve row (view_by L row t) v n ≡ None → move_at row (pool_of p) n p ≡ refused_on refusals.NoRoom (pool_of p) p
  unfolding move_at
  unmoved_plan ev e = ap (move_to row (pool_of p) p n) (ap₂ (λ P k. reserve row P k n) (sym (held_pool r h)) (sym ev) ∙ e)
