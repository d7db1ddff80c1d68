-- Another size keeps the alignment: in place the slot keeps it, and a move is a grant of it.
use Rattle.mem.proofs.Prelude.{◌∙◌, ◌≡◌, sym, ap, refl, subst, Some, List, [], ◌∷◌, ℕ, ◌%◌, ◌<◌, length, T}
use Rattle.classes.specs.Alignments.{Askable}
use Rattle.model.specs.declared.Refusal.TheVariants.{NotInPlace, NoRoom}
use Rattle.model.specs.State.{Pool, Place, is_live, align, well_formed, start_of, pool_of, start, handle}
use Rattle.model.specs.Plans.{Plan, reserve, resize_at, move_to, resize_in_place, move, Call, plan}
use Rattle.model.specs.Calls.{Form, FormLaws, Stands, Outcome, call_by}
use Rattle.model.proofs.Fresh.{whole_units}
use Rattle.model.proofs.Calls.{Asks}
use Rattle.model.proofs.Lookup.{place_unique}
use Rattle.model.proofs.Reserve.{served, reserve-align}
use Rattle.model.proofs.Moves.{Old, old, stays_start}
use Rattle.claims.specs.Demand1.{LiveAt}
use Rattle.claims.specs.AsSaid.{sized}
use Rattle.claims.specs.Alignment.{sizes_in_place, sizes-move, KeepsBoundary, SizesKeepAlignment}
use Rattle.model.proofs.Handles.{start_cleared}
use Rattle.claims.proofs.Cases.{refuses, Named, on_in_place, on_move, reserve-live}
use Rattle.claims.proofs.Demand2.{Accepted, accepted}
use Rattle.claims.proofs.Stays.{discard-keeps, live_at, accepted_pool}

-- the block of a handle in a pool, and the one of the value that a plan gives, which has its alignment
record Keeps (row : ℕ) (P : Pool) (h : ℕ) (l : Plan) : Type 0 where
  old : Place
  was : LiveAt row P (start_of h) old
  new : Place
  given : ℕ
  value : l.answer.values ≡ given ∷ []
  is : LiveAt row l.pool (start_of given) new
  same : align new.state ≡ align old.state

module _ (row : ℕ) (pos : 0 < row) (P : Pool) (w : T (well_formed P)) (u : row % 16 ≡ 0) (h n : ℕ) where
  -- the block that gets another size, in place or by a move
  module _ (p : Place) (b : Named row P h p) where
    -- the slot has another size, and nothing else
    in_place : Keeps row P h (resize_at row p n)
    unfolding resize_at
    in_place = record {
      old = p;
      was = live_at row P (start_of h) p b.pool b.live b.starts;
      new = sized p n;
      given = handle row p;
      value = refl;
      is = live_at row (pool_of (sized p n)) (start_of (handle row p)) (sized p n) refl tt (sym (start_cleared row u p));
      same = refl;
    }

    -- a new block is at another start, so the release of the old one keeps it
    moved : Askable (align p.state) n → (q : Place) → reserve row P (align p.state) n ≡ Some q → Keeps row P h (move_to row P p n (Some q))
    moved s q f =
        let k : Old row pos P w (align p.state) n s q f p b.pool b.live = old row pos P w (align p.state) n s q f p b.pool b.live in
        let l : T (is_live q.state) = reserve-live row P (align p.state) n q (served row P (align p.state) n q w f) in
        let d : start row q ≡ start row p → ⊥ =
        λ e. k.other (sym (place_unique row pos k.place q k.formed (sym k.pool) (e ∙ sym (stays_start row p k.place k.stays)))) in
        let (r, e, i) = discard-keeps row pos (pool_of q) p q refl l d in
        record {
          old = p;
          was = live_at row P (start_of h) p b.pool b.live b.starts;
          new = r;
          given = handle row q;
          value = refl;
          is = live_at row _ (start_of (handle row q)) r e (subst (λ x. T (is_live x)) (sym i.state) l)
              (stays_start row q r i ∙ sym (start_cleared row u q));
          same = ap align i.state ∙ reserve-align row P (align p.state) n q w f;
        }

  -- where it is not refused
  in_place_aligns : (resize_in_place row P h n).answer.number ≡ 0 → Keeps row P h (resize_in_place row P h n)
  in_place_aligns =
      on_in_place row pos P (λ l. l.answer.number ≡ 0 → Keeps row P h l) (λ r z. absurd (refuses r z)) w h n
      (λ p b _ _. in_place p b) (λ p b z. absurd (refuses NotInPlace z))

  move_aligns : (move row P h n).answer.number ≡ 0 → Keeps row P h (move row P h n)
  move_aligns =
      on_move row pos P (λ l. l.answer.number ≡ 0 → Keeps row P h l) (λ r z. absurd (refuses r z)) w h n
      (λ p b z. absurd (refuses NoRoom z)) (λ p q b s f _. moved p b s q f)

module _ (row : ℕ) (pos : 0 < row) (F : Form) (L : FormLaws row F) (a : List ℕ) (t : F.Kept) where
  -- an accepted call leaves what its plan says
  keeps_boundary : (c : Call) (h : ℕ) → Accepted row pos F L a t c → Keeps row (F.view t) h (plan row (F.view t) c) → KeepsBoundary row F a t c h
  keeps_boundary c h y k = record {
    old = k.old;
    was = k.was;
    new = k.new;
    given = k.given;
    value = ap (λ (r : Outcome F.Kept). r.answer.values) y.left ∙ k.value;
    is = subst (λ Q. LiveAt row Q (start_of k.given) k.new) (sym (accepted_pool row pos F L a t c y)) k.is;
    same = k.same;
  }

  -- by what holds of its plan on a pool that stands
  aligns : (c : Call) (h : ℕ) → Asks c → (call_by row F a t c).answer.number ≡ 0
      → (T (well_formed (F.view t)) → row % 16 ≡ 0 → (plan row (F.view t) c).answer.number ≡ 0 → Keeps row (F.view t) h (plan row (F.view t) c))
      → KeepsBoundary row F a t c h
  aligns c h i z k =
      let y : Accepted row pos F L a t c = accepted row pos F L a t c i z in
      let s : Stands row (length a) (F.view t) = (L.only (length a) t y.sound-tables).0 in
      keeps_boundary c h y
      (k s.formed (whole_units row (length a) s.lawful) (ap (λ (r : Outcome F.Kept). r.answer.number) (sym y.left) ∙ z))

pub sizes_keep_alignment : (row : ℕ) → 0 < row → (F : Form) → FormLaws row F → SizesKeepAlignment row F
unfolding plan
sizes_keep_alignment row pos F L a t c h (sizes_in_place {n = n}) z =
    aligns row pos F L a t c h tt z (λ w u. in_place_aligns row pos (F.view t) w u h n)
sizes_keep_alignment row pos F L a t c h (sizes-move {n = n}) z =
    aligns row pos F L a t c h tt z (λ w u. move_aligns row pos (F.view t) w u h n)
