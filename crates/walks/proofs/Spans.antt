-- What the first row of the span at row i of sound tables says of it, in any layout.
use Rattle.mem.proofs.Prelude.{◌∙◌, ◌≡◌, sym, ap, subst, false, Bool, not, List, ◌++◌, ℕ, ◌-◌, drop, eq-eqb, ne_eqb}
use Rattle.mem.specs.Lists.{any, join}
use Rattle.classes.specs.Classes.{rows_of}
use Rattle.model.specs.declared.Slot.{Slot}
use Rattle.model.specs.declared.Holder.{Holder}
use Rattle.model.specs.declared.Holder.TheVariants.{First}
use Rattle.model.specs.State.{Span, Pool, group, is_live}
use Rattle.model.specs.Plans.{opens}
use Rattle.model.specs.Tables.{Layout, row_at, later_records, view_holder, span_records_by}
use Rattle.rows.proofs.Rooms.{group-first, span_sound_lem, span_from}
use Rattle.serving.specs.Walk.{Next}
use Rattle.serving.proofs.Notes.{free_here, the_group, group_here}
use Rattle.walks.specs.Kept.{Kept}

module _ {L : Layout} {row len : ℕ} {t : List ℕ} {i : ℕ} {X : Pool} {s : Span} {Y : Pool} (x : Next L row len t i X s Y) (h : Holder)
    (e : h ≡ view_holder (drop (row_at i) t)) where
  -- no group serves there
  pub opens-free : (c : ℕ) → ((k : ℕ) → h ≡ First k → ⊥) → false ≡ opens c s
  unfolding opens
  opens-free c o = ap (opens c) (sym (free_here x h e o))

  module _ (k : ℕ) (g : h ≡ First k) where
    -- the slots that its first row keeps
    pub kept : Kept L k (the_group x h e k g).0 (drop (row_at i) t)
    kept =
        let ss = (the_group x h e k g).0 in
        let y = group_here x h e k g in
        record {
          sound = span_sound_lem y.lent X (group k ss) Y y.split;
          rest = later_records (rows_of row k - 1) 1 ++ join (span_records_by L row) Y;
          bytes = ap (λ j. drop (row_at j) t) y.first ∙ span_from y.lent X (group k ss) Y y.split ∙ group-first L row k ss Y;
        }

    pub opens_other : (c : ℕ) → (k ≡ c → ⊥) → false ≡ opens c s
    unfolding opens
    opens_other c n = rw ((the_group x h e k g).1, ne_eqb k c n)

    pub opens_group : (c : ℕ) (b : Bool) → k ≡ c
        → ((ss : List Slot) → Kept L c ss (drop (row_at i) t) → b ≡ any (λ x. not (is_live x)) ss) → b ≡ opens c s
    unfolding opens
    opens_group c b n told =
        let ss = (the_group x h e k g).0 in
        rw ((the_group x h e k g).1, eq-eqb k c n) (told ss (subst (λ c. Kept L c ss (drop (row_at i) t)) n kept))
