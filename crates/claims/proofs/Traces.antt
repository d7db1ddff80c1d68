-- The lines of a trace whose stores lie in requested bytes of live blocks are the model's, whatever bytes it stores.
use Rattle.mem.proofs.Prelude.{◌∙◌, ◌≡◌, sym, ap, refl, ap₂, subst, true, Bool, false, not, ⊎_elim, inl, inr, ◌⊎◌, None, Option, List, [], ◌∷◌}
use Rattle.mem.proofs.Prelude.{map, ℕ, ◌<◌, ◌≤◌, ◌+◌, ◌*◌, suc, ◌/◌, arith, leb-false, leb-true, T, leb, ltb, T_not, length, get_or}
use borrow.Author.Tests.{ltb-true, ltb-false}
use Rattle.mem.specs.Lists.{choose}
use Rattle.mem.specs.Bytes.{zeros, put}
use Rattle.mem.proofs.Tests.{choose-false}
use Rattle.mem.proofs.Laws.{zeros-length, put-length, put-before, put-past}
use Rattle.classes.specs.Classes.{row_bytes}
use Rattle.model.specs.State.{Pool, well_formed, aligned}
use Rattle.model.specs.Answers.{Answer}
use Rattle.model.specs.Plans.{Plan, Call, grants, releases, resizes_in_place, moves, measures, reports, plan}
use Rattle.model.specs.Tables.{arena_right, room_bytes}
use Rattle.model.specs.Calls.{KeptBytes, kept_in, EngineOutcome, engine, applied, call, call_by, written, set_up_right, set_up_right_by}
use Rattle.model.proofs.Kept.{engine_lawful}
use Rattle.model.proofs.Fresh.{fresh_formed, all_fresh, whole_rows, whole_units, set_up_lawful, set_up-done}
use Rattle.model.proofs.Formed.{Formed, plan_formed}
use Rattle.trace.specs.Trace.{Operation, grant, release, resize_in_place, measure, store, report, move, Item, does, items, trace_right}
use Rattle.trace.specs.Replay.{no_totals, arena_bytes, Line, Effect, effect, line_then, performed, lines_from, replayed_over, replayed}
use Rattle.claims.specs.Demand3.{fed, requested, SameOutside}
use Rattle.claims.specs.Traces.{blank, Stepped, stepped, model_step, model_lines, GoesOn, StoresRequested, StoresInside, PastAsksNothing, LinesModelled}
use Rattle.claims.specs.Traces.{StoresSteerNothing, ReplaySteersNothing}
use Rattle.claims.proofs.Cells.{cells, Agrees}
use Rattle.claims.proofs.Steps.{fresh_agrees, arena_length, plan_kept}
use Rattle.claims.proofs.Requested.{engine-keeps}
use Rattle.claims.proofs.Demand3.{call_follows}

-- ---- one record

-- a state of the model, and the arena of n bytes and the room that hold it
record Holds (row n : ℕ) (P : Pool) (a : List ℕ) (t : KeptBytes) : Type 0 where
  formed : T (well_formed P)
  bounds : T (aligned row P)
  long : length a ≡ n
  agrees : Agrees (cells row P) a
  kept : t ≡ (engine row).encode P

-- what a record does is what the model does with it
record Follows (row n : ℕ) (d : Effect) (s : Stepped) : Type 0 where
  tells : d.tells ≡ s.tells
  holds : Holds row n s.pool d.arena d.kept

-- two choices by one test
choose-both : {A B : Type 0} (M : A → B → Type 0) (b : Bool) (x y : A) (u v : B) → M x u → M y v → M (choose b x y) (choose b u v)
unfolding choose
choose-both M true x y u v p q = p
choose-both M false x y u v p q = q

-- bytes stored into requested bytes change none outside them
stored_outside : (row : ℕ) (P : Pool) (a : List ℕ) (o : ℕ) (bs : List ℕ) → StoresRequested row P (store o bs) → SameOutside row P a (put o bs a)
stored_outside row P a o bs s = record { long = put-length o bs a; bytes = λ i t. go i t (leb o i) (ltb i (o + length bs)) refl refl }
  where
    go : (i : ℕ) → T (not (requested row P i)) → (b c : Bool) → leb o i ≡ b → ltb i (o + length bs) ≡ c → get_or (put o bs a) i 0 ≡ get_or a i 0
    go i t false c e f = put-before o bs a i 0 (leb-false o i e)
    go i t true false e f = put-past o bs a i 0 (ltb-false i (o + length bs) f)
    go i t true true e f = absurd (T_not (requested row P i) t (s i (leb-true o i e) (ltb-true i (o + length bs) f)))

-- a bad record's line is the last
ended : (i : ℕ) (x y : Option Answer) (ls ms : List Line) → x ≡ None → y ≡ None → line_then i x ls ≡ line_then i y ms
ended i x y ls ms e f = ap (λ z. line_then i z ls) e ∙ sym (ap (λ z. line_then i z ms) f)

module _ (row : ℕ) (pos : 0 < row) (n : ℕ) (h : T (arena_right row n)) where
  module _ (P : Pool) (a : List ℕ) (t : KeptBytes) (r : Holds row n P a t) where
    -- the five calls: the model's plan is carried out
    call_follows_plan : (c : Call) → Follows row n (effect (call row a t c)) (stepped (plan row P c))
    call_follows_plan c =
        let p : Plan = plan row P c in
        let m : Formed row P p.pool = plan_formed row pos P c r.formed in
        let x : List ℕ = written a p.changes in
        let g : Agrees (cells row p.pool) x = (plan_kept row pos (whole_units row n h) P r.formed a r.agrees c).agrees in
        let l : length x ≡ n =
        arena_length row pos p.pool m.formed x g ∙ ap (λ k. row * k) m.long ∙ sym (arena_length row pos P r.formed a r.agrees) ∙ r.long in
        let e : call row a t c ≡ applied (engine row) a p =
        ap (λ t. call row a t c) r.kept
        ∙ call_follows row pos (engine row) (engine_lawful row pos) P r.formed r.bounds a (subst (λ m. T (arena_right row m)) (sym r.long) h)
        r.agrees c in
        subst (λ z. Follows row n (effect z) (stepped p)) (sym e)
        (record {
          tells = refl;
          holds = record { formed = m.formed; bounds = m.bounds (whole_units row n h) r.bounds; long = l; agrees = g; kept = refl };
        })

    -- every record; a store changes no byte that the tables fix
    acted : (x : Operation) → StoresRequested row P x → Follows row n (performed row a t x) (model_step row n P x)
    unfolding performed model_step
    acted (grant k) s = call_follows_plan (grants k)
    acted (release h) s = call_follows_plan (releases h)
    acted (resize_in_place h k) s = call_follows_plan (resizes_in_place h k)
    acted (measure h) s = call_follows_plan (measures h)
    acted (store o bs) s =
        let after : Holds row n P (put o bs a) t = record {
          formed = r.formed;
          bounds = r.bounds;
          long = put-length o bs a ∙ r.long;
          agrees = engine-keeps row pos P r.formed a (put o bs a) (stored_outside row P a o bs s) r.agrees;
          kept = r.kept;
        } in
        rw r.long
        (choose-both (Follows row n) (leb (o + length bs) n) _ _ _ _ (record { tells = refl; holds = after }) (record { tells = refl; holds = r }))
    acted report s = call_follows_plan reports
    acted (move h k) s = call_follows_plan (moves h k)

  -- ---- all records

  -- a record that ends the trace, whatever is behind it
  abbrev Ends : Operation → Type 0
  Ends x = (P : Pool) (a : List ℕ) (t : KeptBytes) → length a ≡ n → ((performed row a t x).tells ≡ None) × ((model_step row n P x).tells ≡ None)

  on_or_ends : (x : Operation) → GoesOn n x ⊎ Ends x
  unfolding performed model_step
  on_or_ends (grant k) = inl tt
  on_or_ends (release h) = inl tt
  on_or_ends (resize_in_place h k) = inl tt
  on_or_ends (move h k) = inl tt
  on_or_ends (measure h) = inl tt
  on_or_ends (store o bs) = go (leb (o + length bs) n) refl
    where
      go : (b : Bool) → leb (o + length bs) n ≡ b → GoesOn n (store o bs) ⊎ Ends (store o bs)
      go true e = inl (omega (arith, leb-true (o + length bs) n e))
      go false e = inr (λ P a t l. (
        ap (λ (d : Effect). d.tells) (choose-false (leb (o + length bs) (length a)) _ _ (ap (leb (o + length bs)) l ∙ e)),
        ap (λ (d : Stepped). d.tells) (choose-false (leb (o + length bs) n) _ _ e),
      ))
  on_or_ends report = inl tt

  -- the lines of records over an arena and a room that hold a state
  lines : (P : Pool) (a : List ℕ) (t : KeptBytes) (i : ℕ) (xs : List Item) → Holds row n P a t → StoresInside row n P xs
      → lines_from row a t i xs ≡ model_lines row n P i xs
  unfolding lines_from model_lines StoresInside
  lines P a t i [] r s = refl
  lines P a t i (Item.bad ∷ xs) r s = refl
  lines P a t i (does x ∷ xs) r s =
      ⊎_elim (λ g.
      let f : Follows row n (performed row a t x) (model_step row n P x) = acted P a t r x (s g).0 in
      ap₂ (line_then i) f.tells (lines (model_step row n P x).pool _ _ (suc i) xs f.holds (s g).1))
      (λ e. let (p, q) = e P a t r.long in ended i _ _ _ _ p q) (on_or_ends x)

-- ---- records without the bytes that they store

module _ (row n : ℕ) where
  -- two records that are the same to the model, which is told only how many bytes are stored
  record Like (x y : Operation) : Type 1 where
    steps-same : (P : Pool) → model_step row n P x ≡ model_step row n P y
    lies_same : (P : Pool) → StoresRequested row P x ≡ StoresRequested row P y
    goes_same : GoesOn n x ≡ GoesOn n y

  itself : (x : Operation) → Like x x
  itself x = record { steps-same = λ P. refl; lies_same = λ P. refl; goes_same = refl }

  store_like : (o : ℕ) (bs cs : List ℕ) → length bs ≡ length cs → Like (store o bs) (store o cs)
  unfolding model_step
  store_like o bs cs e = record {
    steps-same = λ P. rw e;
    lies_same = λ P. ap (λ k. (i : ℕ) → o ≤ i → i < o + k → T (requested row P i)) e;
    goes_same = rw e;
  }

  -- what is so of records that are the same to the model is so of a record without its bytes beside the record
  on_blank {ℓ} : (M : Item → Item → Type ℓ) → ((x y : Operation) → Like x y → M (does x) (does y)) → M Item.bad Item.bad → (x : Item) → M (blank x) x
  on_blank M f b (does (grant k)) = f _ _ (itself (grant k))
  on_blank M f b (does (release h)) = f _ _ (itself (release h))
  on_blank M f b (does (resize_in_place h k)) = f _ _ (itself (resize_in_place h k))
  on_blank M f b (does (measure h)) = f _ _ (itself (measure h))
  on_blank M f b (does (store o bs)) = f _ _ (store_like o (zeros (length bs)) bs (zeros-length (length bs)))
  on_blank M f b (does report) = f _ _ (itself report)
  on_blank M f b (does (move h k)) = f _ _ (itself (move h k))
  on_blank M f b Item.bad = b

  -- neither the model's lines nor where the stores lie depend on those bytes
  blank_lines : (P : Pool) (i : ℕ) (xs : List Item) → model_lines row n P i (map blank xs) ≡ model_lines row n P i xs
  unfolding model_lines
  blank_lines P i [] = refl
  blank_lines P i (x ∷ xs) =
      on_blank (λ y z. model_lines row n P i (y ∷ map blank xs) ≡ model_lines row n P i (z ∷ xs))
      (λ y z l. cc (l.steps-same P, blank_lines (model_step row n P z).pool (suc i) xs)) refl x

  blank_inside : (P : Pool) (xs : List Item) → StoresInside row n P (map blank xs) ≡ StoresInside row n P xs
  unfolding StoresInside
  blank_inside P [] = refl
  blank_inside P (x ∷ xs) =
      on_blank (λ y z. StoresInside row n P (y ∷ map blank xs) ≡ StoresInside row n P (z ∷ xs))
      (λ y z l. rw (l.goes_same, l.lies_same P, l.steps-same P, blank_inside (model_step row n P z).pool xs)) refl x

pub past-asks_nothing : (row : ℕ) → PastAsksNothing row
unfolding StoresInside
past-asks_nothing row n P o bs xs h g = absurd (omega (arith, h, g))

module _ (row : ℕ) (pos : 0 < row) where
  pub lines_modelled : LinesModelled row
  unfolding replayed_over call_by
  lines_modelled a t s h k =
      let n : ℕ = length a in
      let P : Pool = fed row n in
      let w : T (arena_right row n) = set_up_lawful row (engine row) a t h in
      let r : Holds row n P (zeros n) ((engine row).encode P) = record {
        formed = fresh_formed (n / row);
        bounds = all_fresh row (n / row);
        long = zeros-length n;
        agrees = subst (λ m. Agrees (cells row P) (zeros m)) (whole_rows row n w) (fresh_agrees row pos (n / row));
        kept = refl;
      } in
      ap (λ (ls : List Line). choose (trace_right s) ls (Line.bad 0 ∷ []))
      (ap (λ (z : EngineOutcome). lines_from row z.arena z.kept 1 (items s)) (set_up-done row (engine row) a t h)
      ∙ lines row pos n w P (zeros n) ((engine row).encode P) 1 (items s) r k)

  pub stores_steer_nothing : StoresSteerNothing row
  stores_steer_nothing a₁ t₁ a₂ t₂ s₁ s₂ h₁ h₂ l same k =
      let n : ℕ = length a₁ in
      let P : Pool = fed row n in
      let e : model_lines row n P 1 (items s₁) ≡ model_lines row n P 1 (items s₂) =
      sym (blank_lines row n P 1 (items s₁)) ∙ ap (model_lines row n P 1) same.records ∙ blank_lines row n P 1 (items s₂) in
      let f : StoresInside row n P (items s₁) ≡ StoresInside row n P (items s₂) =
      sym (blank_inside row n P (items s₁)) ∙ ap (StoresInside row n P) same.records ∙ blank_inside row n P (items s₂) in
      let k₂ : StoresInside row (length a₂) (fed row (length a₂)) (items s₂) =
      subst (λ m. StoresInside row m (fed row m) (items s₂)) l (subst (λ A. A) f k) in
      lines_modelled a₁ t₁ s₁ h₁ k
      ∙ ap₂ (λ b ls. choose b ls (Line.bad 0 ∷ [])) same.read (e ∙ ap (λ m. model_lines row m (fed row m) 1 (items s₂)) l)
      ∙ sym (lines_modelled a₂ t₂ s₂ h₂ k₂)

-- ---- the replay's pool

-- set up takes the program's arena and table room
taken : T (set_up_right row_bytes (zeros arena_bytes) (kept_in (zeros (room_bytes (arena_bytes / row_bytes))) no_totals))
unfolding set_up_right_by arena_right row_bytes room_bytes zeros
taken = tt

pub replay_steers_nothing : 0 < row_bytes → ReplaySteersNothing
unfolding replayed
replay_steers_nothing pos s₁ s₂ same k =
    stores_steer_nothing row_bytes pos (zeros arena_bytes) _ (zeros arena_bytes) _ s₁ s₂ taken taken refl same
    (subst (λ m. StoresInside row_bytes m (fed row_bytes m) (items s₁)) (sym (zeros-length arena_bytes)) k)
