-- One grant of a list, and what the search and the totals go on with.
use Rattle.mem.proofs.Prelude.{◌∙◌, ◌≡◌, sym, ap, subst, Option, Some, None, List, [], ◌∷◌, ◌++◌, ℕ, ◌<◌, arith, eqb, eqb-true, get_or}
use Rattle.std.specs.Prelude.{IfSome, MatchOption}
use Rattle.mem.specs.Lists.{choose}
use Rattle.mem.specs.Bytes.{put}
use Rattle.mem.proofs.Tests.{choose_case}
use Rattle.classes.specs.Classes.{class_of, size_limit}
use Rattle.classes.specs.Alignments.{ordinary}
use Rattle.model.specs.declared.Totals.{Totals}
use Rattle.model.specs.State.{Pool, Place, group, handle, rows}
use Rattle.model.specs.Blocks.{frame}
use Rattle.model.specs.Plans.{open_from, reserve, enframe, totals}
use Rattle.model.specs.Tables.{masks_layout, view}
use Rattle.model.proofs.Reserve.{plain}
use Rattle.model.proofs.Lowest.{pass_shut, grant_shut}
use Rattle.rows.specs.declared.Block.{Block}
use Rattle.rows.specs.Rows.{Lent, NoneOpen, owned_at, handle_at}
use Rattle.rows.proofs.Rooms.{facts}
use Rattle.rows.proofs.Walks.{open_start}
use Rattle.frames.specs.Blocks.{Standing, reserved_as}
use Rattle.reserving.specs.Reserves.{next_totals}
use Rattle.frames.proofs.Moves.{reserve-leaves}
use Rattle.frames.proofs.Reserved.{reserved_place}
use Rattle.frames.specs.Grants.{handle_of, next_arena}
use Rattle.frames.proofs.Grants.{Further}
use Rattle.lists.specs.declared.Placed.{Placed}
use Rattle.lists.specs.Grants.{placed_as}

-- the first row of the group of what is granted
abbrev pub first_or : ℕ → Option Place → ℕ
first_or row None = 0
first_or row (Some q) = rows row q.before

-- what is granted tells its handle and that row
pub placed_parts : (row : ℕ) (o : Option Place) (p : Placed) → Some p ≡ placed_as row o → (Some p.handle ≡ handle_of row o) × (p.first ≡ first_or row o)
placed_parts row None p e = let z : ◌≡◌ {A = ℕ} 0 1 = cc in absurd (omega arith)
placed_parts row (Some q) p e =
    let h : p ≡ record { handle = handle row q; first = rows row q.before } = cc in
    (ap (λ (p : Placed). Some p.handle) h, ap (λ (p : Placed). p.first) h)

-- one grant
module _ {row len : ℕ} {t : List ℕ} (r : Lent masks_layout row len t) (n : ℕ) (h : n < size_limit) where
  pub record GrantedOne (a : List ℕ) (b : Block) : Type 0 where
    pub stands : Standing row len b
    pub placed : Some (record { handle = handle_at row b; first = b.first }) ≡ placed_as row (reserve row (view row t) ordinary n)
    pub arena : put (owned_at row b) (frame b.class b.slot b.alloc.disp b.alloc.size) a ≡ next_arena row a (reserve row (view row t) ordinary n)

  pub granted_one : (a : List ℕ) (b : Block) → reserved_as row (reserve row (view row t) ordinary n) ≡ Some b → GrantedOne a b
  unfolding enframe
  granted_one a b e =
      let (q, f, k) = reserved_place row (reserve row (view row t) ordinary n) b e in
      subst (GrantedOne a) k (record {
        stands = (reserve-leaves r ordinary n (plain h) q f).stands;
        placed = sym (ap (placed_as row) f);
        arena = sym (ap (next_arena row a) f);
      })

-- where the search begins
pub begins : {row : ℕ} {t : List ℕ} (c last from : ℕ) → NoneOpen masks_layout row t last from → NoneOpen masks_layout row t c (choose (eqb c last) from 0)
begins {row} {t} c last from p =
    choose_case (NoneOpen masks_layout row t c) (eqb c last) from 0 (λ e. subst (λ k. NoneOpen masks_layout row t k from) (sym (eqb-true c last e)) p)
    (λ e. open_start masks_layout row t c)

-- where it begins by what was asked for last, if anything
pub begins_by : {S : Type 0} {row : ℕ} {t : List ℕ} (class : S → ℕ) (o : Option S) (c from r : ℕ) → IfSome o (λ s. NoneOpen masks_layout row t (class s) from)
    → MatchOption o (r ≡ 0) (λ s. r ≡ choose (eqb c (class s)) from 0) → NoneOpen masks_layout row t c r
begins_by {row = row} {t = t} class None c from r i m = subst (NoneOpen masks_layout row t c) (sym m) (open_start masks_layout row t c)
begins_by {row = row} {t = t} class (Some s) c from r i m = subst (NoneOpen masks_layout row t c) (sym m) (begins c (class s) from i)

-- after one grant further the search for its class goes on where its group is, and the totals are those of the pool
module _ {row : ℕ} {ns A : List ℕ} {Q : Pool} {M : List ℕ} {i : ℕ} {t b u l : List ℕ} (x : Further masks_layout row ns A Q M i t b u l) where
  -- its group, and what lies after it
  abbrev behind : Pool
  behind = group x.place.cls (x.place.lower ++ (x.place.state ∷ x.place.upper)) ∷ x.place.after

  pub none_before : {len : ℕ} → Lent masks_layout row len t → (f : ℕ) → f ≡ first_or row (reserve row (view row t) ordinary (get_or ns i 0))
      → NoneOpen masks_layout row u (class_of (get_or ns i 0)) f
  none_before r f e = record {
    before = x.place.before;
    after = behind;
    split = x.says;
    count = sym (e ∙ ap (first_or row) x.found);
    same = ap (open_from [] (class_of (get_or ns i 0))) x.says
        ∙ pass_shut (class_of (get_or ns i 0)) [] x.place.before behind
        (grant_shut row (view row t) ordinary (get_or ns i 0) x.place (facts r).formed x.found);
  }

  pub counts_on : (y z : Totals) → z ≡ next_totals row y (reserve row (view row t) ordinary (get_or ns i 0)) → z ≡ totals row (view row u)
  counts_on y z e = e ∙ ap (next_totals row y) x.found ∙ sym (ap (totals row) x.says)
