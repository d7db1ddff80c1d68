-- Places of a pool as the calls handle them, in any layout: a live place's block lies in the arena, and what is looked up, as it is judged, is located.
use Rattle.mem.proofs.Prelude.{◌∙◌, ◌≡◌, sym, ap, ap₂, refl, subst, true, Bool, false, Some, None, Option, List, ◌∷◌, ◌++◌, ◌+◌, ℕ, ◌<◌, ◌≤◌, ◌*◌, mul-add, Err}
use Rattle.mem.proofs.Prelude.{arith, T, leb, lit≤}
use native.Mathlib.Nat.{mul-le-mul_left, suc-mul}
use Rattle.mem.specs.Lists.{choose}
use Rattle.mem.proofs.Tests.{true-T}
use Rattle.classes.specs.Classes.{slot_bytes, rows_of, size_limit}
use Rattle.classes.specs.Alignments.{enlarged, Askable}
use Rattle.classes.proofs.Laws.{slots_small}
use Rattle.model.specs.declared.Refusal.TheVariants.{TooLarge, AlreadyFree}
use Rattle.model.specs.declared.Slot.{Slot}
use Rattle.model.specs.declared.Slot.TheVariants.{Fresh, Idle, Live}
use Rattle.model.specs.State.{Place, group, is_live, count, disp, size, align, well_formed, pool_of, slot_number, rows}
use Rattle.model.specs.Blocks.{damage}
use Rattle.model.specs.Plans.{lookup, new_size, reserve}
use Rattle.model.specs.Tables.{Layout, view_by, encode_by}
use Rattle.model.proofs.Tables.{view-encode}
use Rattle.model.proofs.Rooms.{rows_append}
use Rattle.model.proofs.Lookup.{Fits, fits, disp_inside, slot_inside, lookup_found}
use Rattle.model.proofs.Formed.{code_kept}
use Rattle.model.proofs.Reserve.{Granted, reserve_formed}
use Rattle.rows.specs.declared.Block.{Block}
use Rattle.rows.specs.Rows.{Lent, block_of, looked, Holds}
use Rattle.rows.proofs.Rooms.{facts, few_rows}
use Rattle.rows.specs.declared.Looked.{Looked}
use Rattle.rows.specs.declared.Looked.TheVariants.{Present, Freed}
use Rattle.frames.specs.Blocks.{Standing, Lies, code_found, by_damage, by_bits, judged, located, judged_for, located_for}

-- a slot of a pool lies in an arena that the pool fills
pub place_stands : (row : ℕ) → 0 < row → (n : ℕ) (p : Place) → T (well_formed (pool_of p)) → rows row (pool_of p) ≤ 512 → n ≡ row * rows row (pool_of p)
    → Standing row n (block_of row p)
place_stands row pos n p w h e =
    let f : Fits p = fits p w in
    let ss = p.lower ++ (p.state ∷ p.upper) in
    let a : rows row (pool_of p) ≡ rows row p.before + (rows_of row p.cls + rows row p.after) = rows_append row p.before
    (group p.cls ss ∷ p.after) in
    let g : row * (rows row p.before + rows_of row p.cls) ≤ n =
    omega (arith, e, mul-le-mul_left {m = rows row p.before + rows_of row p.cls} {n = rows row (pool_of p)} row (omega arith)) in
    record {
      class = f.class;
      slot = omega (arith, f.number, slots_small p.cls);
      bytes = disp_inside p.cls p.state f.class f.state;
      owned = omega (arith, g, slot_inside row pos p w, suc-mul (slot_number p) (slot_bytes p.cls), mul-add row (rows row p.before) (rows_of row p.cls));
      group = g;
      few = omega arith;
    }

module _ {L : Layout} {row n : ℕ} {t : List ℕ} (r : Lent L row n t) where
  -- a live place of the pool that the room says
  pub place_holds : (p : Place) → pool_of p ≡ view_by L row t → T (is_live p.state) → Holds L row t (block_of row p) p
  place_holds p e l = record {
    laws = r.laws;
    pos = r.pos;
    bytes = (facts r).form ∙ ap (encode_by L row) (sym e);
    block = refl;
    live = l;
    formed = subst (λ P. T (well_formed P)) (sym e) (facts r).formed;
    few = omega (arith, few_rows r, ap (rows row) e);
  }

  -- a live place that is looked up, by its block
  pub found_holds : (o : ℕ) (p : Place) → lookup row (view_by L row t) o ≡ Some p → T (is_live p.state) → (b : Block) → b ≡ block_of row p → Holds L row t b p
  found_holds o p f l b e =
      subst (λ b. Holds L row t b p) (sym e) (place_holds p (lookup_found row r.pos (view_by L row t) o p f).0 l)

  -- the block that a grant reserves lies in the arena
  pub reserved_stands : (v k : ℕ) → Askable v k → (q : Place) → reserve row (view_by L row t) v k ≡ Some q → Standing row n (block_of row q)
  reserved_stands v k small q f =
      let g : Granted row (view_by L row t) v k q = reserve_formed row (view_by L row t) v k q (facts r).formed small f in
      place_stands row r.pos n q g.formed (omega (arith, few_rows r, g.long)) ((facts r).long ∙ ap (λ k. row * k) (sym g.long))

  module _ {b : Block} {p : Place} (h : Holds L row t b p) where
    pub held_pool : view_by L row t ≡ pool_of p
    held_pool = ap (view_by L row) h.bytes ∙ view-encode r.laws row h.pos (pool_of p) h.formed

    pub held_stands : Standing row n b
    held_stands =
        subst (Standing row n) (sym h.block)
        (place_stands row h.pos n p h.formed h.few ((facts r).long ∙ ap (λ P. row * rows row P) held_pool))

-- ---- what is found at an offset

module _ {L : Layout} {row n : ℕ} {t : List ℕ} (r : Lent L row n t) (o : ℕ) where
  -- a live block that is looked up lies in the arena, and its alignment is one that the tables keep
  pub record Known (l : Looked) : Type 0 where
    pub lies : Lies row n l
    pub some_code : 1 ≤ code_found l
    pub last_code : code_found l ≤ 9

  known : (q : Option Place) → lookup row (view_by L row t) o ≡ q → Known (looked row q)
  unfolding choose
  known None e = record { lies = tt; some_code = lit≤ tt; last_code = lit≤ tt }
  known (Some p) e = go (is_live p.state) refl
    where
      go : (v : Bool) → is_live p.state ≡ v → Known (choose v (Present (block_of row p)) Freed)
      go false f = record { lies = tt; some_code = lit≤ tt; last_code = lit≤ tt }
      go true f =
          let l : T (is_live p.state) = true-T (is_live p.state) f in
          let w : pool_of p ≡ view_by L row t = (lookup_found row r.pos (view_by L row t) o p e).0 in
          let k = code_kept p.cls p.state l (fits p (subst (λ P. T (well_formed P)) (sym w) (facts r).formed)).state in
          record { lies = held_stands r (place_holds r p w l); some_code = k.0; last_code = k.1 }

  pub found_known : Known (looked row (lookup row (view_by L row t) o))
  found_known = known (lookup row (view_by L row t) o) refl

  pub found_lies : Lies row n (looked row (lookup row (view_by L row t) o))
  found_lies = found_known.lies

module _ (row : ℕ) where
  pub judged-looked : (a : List ℕ) (h : ℕ) (q : Option Place) → judged row a h (looked row q) ≡ located row a h q
  unfolding choose
  judged-looked a h None = refl
  judged-looked a h (Some p) = go (is_live p.state)
    where
      go : (v : Bool) → judged row a h (choose v (Present (block_of row p)) Freed)
          ≡ choose v (by_bits row h (count p.state) (by_damage row (block_of row p) (damage row a p))) (Err AlreadyFree)
      go true = refl
      go false = refl

  -- the size that answer 3 goes by, by what is looked up
  new_size_lem : (q : Option Place) (n : ℕ) → enlarged (code_found (looked row q)) n ≡ new_size q n
  unfolding choose
  new_size_lem None n = refl
  new_size_lem (Some p) n = go p.state
    where
      go : (x : Slot) → enlarged (code_found (choose (is_live x) (Present (record {
        first = rows row p.before;
        class = p.cls;
        slot = slot_number p;
        alloc = record { count = count x; disp = disp x; size = size x; align = align x };
      })) Freed)) n ≡ enlarged (align x) n
      go Fresh = refl
      go (Idle r k d) = refl
      go (Live a) = refl

  pub judged_for-looked : (a : List ℕ) (h n : ℕ) (q : Option Place) → judged_for row a h n (looked row q) ≡ located_for row a h n q
  judged_for-looked a h n q =
      ap₂ (λ m r. choose (leb size_limit m) (Err TooLarge) r) (new_size_lem q n) (judged-looked a h q)
