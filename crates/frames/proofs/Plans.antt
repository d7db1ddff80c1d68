-- What the plans of a release and of a resize in place write, as the code writes it, in any layout; and what those leave that refuse by the block.
use Rattle.mem.proofs.Prelude.{◌∙◌, ◌≡◌, sym, ap, refl, ap₂, true, false, List, ◌++◌, ◌+◌, ℕ, ◌≤◌, ◌*◌, ◌-◌, min, arith, T, leb, leb→le, Err}
use Rattle.mem.specs.Lists.{choose, any}
use Rattle.mem.specs.Bytes.{zeros, put}
use Rattle.mem.proofs.Tests.{and_left, true-T, choose-true, choose-false}
use Rattle.classes.specs.Classes.{slot_bytes, rows_of, own_class}
use Rattle.classes.specs.Alignments.{enlarged}
use Rattle.model.specs.declared.Refusal.{Refusal}
use Rattle.model.specs.declared.Refusal.TheVariants.{NotInPlace}
use Rattle.model.specs.State.{Pool, Place, is_live, disp, size, slot_number, pool_of, become, start}
use Rattle.model.specs.Blocks.{reserved, header, spare}
use Rattle.model.specs.Plans.{refused_on, release_at, resize_at, fits_in_place, in_place_at}
use Rattle.model.specs.Tables.{Layout}
use Rattle.model.specs.Calls.{written, form_of}
use Rattle.rows.specs.declared.Block.{Block}
use Rattle.rows.specs.Rows.{block_of, owned_at, resized, Holds}
use Rattle.frames.specs.Blocks.{stays_in, CarriedOutBy}

-- what stays in its slot fits
pub stays_fits : (b : Block) (n : ℕ) → stays_in b n ≡ true → 16 * b.alloc.disp + 4 ≤ slot_bytes b.class
    → 16 * b.alloc.disp + n + 4 ≤ slot_bytes b.class
stays_fits b n e h =
    let t : T (stays_in b n) = true-T (stays_in b n) e in
    let k : ℕ = slot_bytes b.class - 4 - 16 * b.alloc.disp in
    omega (arith, leb→le n k (and_left (leb n k) (own_class b.class (enlarged b.alloc.align n)) t))

module _ {L : Layout} {row : ℕ} {t : List ℕ} {b : Block} {p : Place} (h : Holds L row t b p) (a : List ℕ) where
  -- a release: the slot's bytes, or all rows of the group
  pub kept_writes : any is_live (p.lower ++ p.upper) ≡ true → put (owned_at row b) (zeros (slot_bytes b.class)) a ≡ written a (release_at row p).changes
  unfolding release_at choose
  kept_writes e = rw e (ap (λ c. put (owned_at row c) (zeros (slot_bytes c.class)) a) h.block)

  pub dropped-writes : any is_live (p.lower ++ p.upper) ≡ false
      → put (row * b.first) (zeros (row * rows_of row b.class)) a ≡ written a (release_at row p).changes
  unfolding release_at choose
  dropped-writes e =
      rw e (ap (λ c. put (row * c.first) (zeros (row * rows_of row c.class)) a) h.block)

  -- a resize in place
  pub in_place-writes : (n kept : ℕ) (u : List ℕ) → kept ≡ min b.alloc.size n
      → u ≡ put (owned_at row b + (16 * b.alloc.disp + 4 + kept)) (zeros (n - kept) ++ spare (reserved b.class b.alloc.disp n))
      (put (owned_at row b + 16 * b.alloc.disp) (header b.class b.slot b.alloc.disp n) a)
      → u ≡ written a (resize_at row p n).changes
  unfolding resize_at
  in_place-writes n kept u ek eu =
      let c : Block = block_of row p in
      let at : ℕ = owned_at row c in
      let d : ℕ = disp p.state in
      let k : ℕ = min (size p.state) n in
      let g : kept ≡ k = ek ∙ ap (λ b. min b.alloc.size n) h.block in
      let y : at + 16 * d ≡ start row p - 4 = omega arith in
      let z : at + (16 * d + 4 + k) ≡ start row p + k = omega arith in
      eu
      ∙ ap (λ b. put (owned_at row b + (16 * b.alloc.disp + 4 + kept)) (zeros (n - kept) ++ spare (reserved b.class b.alloc.disp n))
      (put (owned_at row b + 16 * b.alloc.disp) (header b.class b.slot b.alloc.disp n) a)) h.block
      ∙ ap (λ j. put (at + (16 * d + 4 + j)) (zeros (n - j) ++ spare (reserved p.cls d n)) (put (at + 16 * d) (header p.cls (slot_number p) d n) a)) g
      ∙ ap₂ (λ i j. put j (zeros (n - k) ++ spare (reserved p.cls d n)) (put i (header p.cls (slot_number p) d n) a)) y z

pub in_place_pool : (row : ℕ) (p : Place) (n : ℕ) → pool_of (become p (resized p n)) ≡ (resize_at row p n).pool
unfolding resize_at
in_place_pool row p n = refl

module _ {L : Layout} {row : ℕ} {t : List ℕ} {b : Block} {p : Place} (h : Holds L row t b p) where
  -- a refusal that names the block leaves what is lent
  pub refused_on_lem : (a : List ℕ) (x : Refusal) → CarriedOutBy (form_of row L) a (refused_on x (pool_of p) p) (Err x) a t
  refused_on_lem a x = record { answer = refl; arena = refl; kept = h.bytes }

  -- a block can stay in its slot exactly if its place's plan is in place
  stays : (n : ℕ) → fits_in_place p n ≡ stays_in b n
  unfolding fits_in_place
  stays n = ap (λ b. stays_in b n) (sym h.block)

  module _ (P : Pool) (n : ℕ) where
    pub stays_plan : stays_in b n ≡ true → in_place_at row P n p ≡ resize_at row p n
    unfolding in_place_at
    stays_plan e = choose-true (fits_in_place p n) _ _ (stays n ∙ e)

    pub refused-plan : stays_in b n ≡ false → in_place_at row P n p ≡ refused_on NotInPlace P p
    unfolding in_place_at
    refused-plan e = choose-false (fits_in_place p n) _ _ (stays n ∙ e)
