-- Packet contents steer nothing: demand 3, for rows of every size.
use Rattle.mem.proofs.Prelude.{◌∙◌, ◌≡◌, sym, ap, refl, ap₂, subst, true, false, Bool, not, List, [], ◌∷◌, ℕ, ◌<◌, ◌*◌, ◌/◌, T, T_not, length}
use Rattle.mem.proofs.Prelude.{length-set}
use lib.Seq.{get_or-set_other}
use Rattle.mem.specs.Bytes.{zeros}
use Rattle.mem.proofs.Tests.{T_true, true-T}
use Rattle.mem.proofs.Laws.{zeros-length}
use Rattle.model.specs.State.{Pool, Place, well_formed, aligned, rows}
use Rattle.model.specs.Answers.{done, listed}
use Rattle.model.specs.Plans.{Plan, Call, sets_up, reports, plan, report, totals, fresh_pool}
use Rattle.model.specs.Tables.{arena_right}
use Rattle.model.specs.Calls.{Form, FormLaws, Outcome, Stands, applied, written, carried_by, set_up_right_by, call_by}
use Rattle.model.proofs.Fresh.{fresh-rows, fresh_formed, all_fresh, whole_rows, whole_units, set_up_lawful, set_up-done}
use Rattle.model.proofs.Formed.{Formed, plan_formed}
use Rattle.model.proofs.Calls.{call-sound, carried_whole}
use Rattle.model.proofs.Forms.{fresh_stands, plan_stands}
use Rattle.claims.specs.Demand3.{Turn, calls, model, fed, model_fresh, requested, RequestedByte, StoresAdmitted, StoresOnly, ModelStands}
use Rattle.claims.specs.Demand3.{ran, ran_fresh, reported, EngineOnly, AllCleared, AsModelled, Run, SteersNothing}
use Rattle.claims.proofs.Cases.{by_call}
use Rattle.claims.proofs.Cells.{cells, Agrees}
use Rattle.claims.proofs.Steps.{Kept, fresh_agrees, arena_length, plan_kept}
use Rattle.claims.proofs.Demand2.{set_up_accepted}
use Rattle.claims.proofs.AsSaid.{sets_up_as_planned}
use Rattle.claims.proofs.Requested.{requested_exactly, engine-keeps, outside}

-- ---- one call

module _ (row : ℕ) (pos : 0 < row) (F : Form) (L : FormLaws row F) where
  module _ (P : Pool) (w : T (well_formed P)) (b : T (aligned row P)) (a : List ℕ) (h : T (arena_right row (length a))) (g : Agrees (cells row P) a) where
    l : length a ≡ row * rows row P
    l = arena_length row pos P w a g

    stands : Stands row (length a) P
    stands = record { lawful = h; long = l; formed = w; bounds = b }

    set_up_follows : call_by row F a (F.encode P) sets_up ≡ applied F a (plan row P sets_up)
    set_up_follows =
        sets_up_as_planned row pos F L a (F.encode P) (L.right (length a) P stands) ∙ ap (λ Q. applied F a (plan row Q sets_up)) (L.says P w)

    -- a call on an arena that agrees with the tables does what the model does
    pub call_follows : (c : Call) → call_by row F a (F.encode P) c ≡ applied F a (plan row P c)
    call_follows =
        by_call (λ c. call_by row F a (F.encode P) c ≡ applied F a (plan row P c)) set_up_follows
        (λ c k. call-sound row F a (F.encode P)
        (T_true (F.sound (length a) (F.encode P)) (L.right (length a) P stands)) c k
        ∙ ap (λ Q. carried_by row F a (F.encode P) (plan row Q c)) (L.says P w)
        ∙ carried_whole row F a (F.encode P) (plan row P c) (plan_kept row pos (whole_units row (length a) h) P w a g c).whole)

  -- ---- one run

  -- it shows what the model shows, and leaves an arena that agrees with the model's tables
  record Follows (P : Pool) (a : List ℕ) (t : F.Kept) (us : List Turn) : Type 0 where
    answers : (ran row F a t us).answers ≡ (model row P (calls us)).answers
    tables : (ran row F a t us).kept ≡ F.encode (model row P (calls us)).pool
    counted : reported row F (ran row F a t us) ≡ done (listed (totals row (model row P (calls us)).pool))
    cleared : AllCleared row F P a t us
    formed : T (well_formed (model row P (calls us)).pool)
    agrees : Agrees (cells row (model row P (calls us)).pool) (ran row F a t us).arena

  follows : (P : Pool) (a : List ℕ) (us : List Turn) → T (well_formed P) → T (aligned row P) → T (arena_right row (length a)) → Agrees (cells row P) a
      → EngineOnly row F P a (F.encode P) us → Follows P a (F.encode P) us
  unfolding EngineOnly AllCleared ran model plan report
  follows P a [] w k h g t = record {
    answers = refl;
    tables = refl;
    counted = ap (λ (r : Outcome F.Kept). r.answer) (call_follows P w k a h g reports);
    cleared = tt;
    formed = w;
    agrees = g;
  }
  follows P a (u ∷ us) w k h g t =
      let b : List ℕ = u.arena in
      let c : Call = u.asks in
      let p : Plan = plan row P c in
      let x : List ℕ = written b p.changes in
      let m : Formed row P p.pool = plan_formed row pos P c w in
      let g₁ : Agrees (cells row P) b = engine-keeps row pos P w a b t.0 g in
      let h₁ : T (arena_right row (length b)) = subst (λ n. T (arena_right row n)) (sym t.0.long) h in
      let d : Kept row pos P c b p = plan_kept row pos (whole_units row (length a) h) P w b g₁ c in
      let g₂ : Agrees (cells row p.pool) x = d.agrees in
      let l : length b ≡ length x =
      arena_length row pos P w b g₁ ∙ ap (λ n. row * n) (sym m.long) ∙ sym (arena_length row pos p.pool m.formed x g₂) in
      let e : call_by row F b (F.encode P) c ≡ applied F b p = call_follows P w k b h₁ g₁ c in
      let r : Follows p.pool x (F.encode p.pool) us =
      follows p.pool x us m.formed (m.bounds (whole_units row (length a) h) k) (subst (λ n. T (arena_right row n)) l h₁) g₂
      (subst (λ r. EngineOnly row F p.pool r.arena r.kept us) e t.1) in
      record {
        answers = rw e (ap (λ l. p.answer ∷ l) r.answers);
        tables = ap (λ (z : Outcome F.Kept). (ran row F z.arena z.kept us).kept) e ∙ r.tables;
        counted = ap (λ (z : Outcome F.Kept). reported row F (ran row F z.arena z.kept us)) e ∙ r.counted;
        cleared = rw e (d.cleared, r.cleared);
        formed = r.formed;
        agrees =
            subst (λ (z : Outcome F.Kept). Agrees (cells row (model row p.pool (calls us)).pool) (ran row F z.arena z.kept us).arena) (sym e)
            r.agrees;
      }

  -- ---- from a fresh pool

  -- the model's set up makes the state that it is fed
  model_fresh_lem : (n : ℕ) (cs : List Call)
      → model_fresh row n cs ≡ record { answers = done (0 ∷ []) ∷ (model row (fed row n) cs).answers; pool = (model row (fed row n) cs).pool }
  unfolding model plan
  model_fresh_lem n cs =
      ap (λ k. let m = model row (fresh_pool k) cs in record { answers = done (0 ∷ []) ∷ m.answers; pool = m.pool }) (fresh-rows row (n / row))

  -- what a run shows, and that it leaves an arena that agrees with the model's tables
  record Shows (a : List ℕ) (t : F.Kept) (us : List Turn) : Type 0 where
    modelled : AsModelled row F a t us
    formed : T (well_formed (model_fresh row (length a) (calls us)).pool)
    agrees : Agrees (cells row (model_fresh row (length a) (calls us)).pool) (ran_fresh row F a t us).arena

  run-shows : (a : List ℕ) (t : F.Kept) (us : List Turn) → Run row F a t us → Shows a t us
  unfolding call_by
  run-shows a t us r =
      let P : Pool = fed row (length a) in
      let h : T (set_up_right_by row F a t) = set_up_accepted row pos F L a t r.was_set_up in
      let k : row * (length a / row) ≡ length a = whole_rows row (length a) (set_up_lawful row F a t h) in
      let d : call_by row F a t sets_up ≡ record { answer = done (0 ∷ []); arena = zeros (length a); kept = F.encode P } = set_up-done row F a t h in
      let f : Follows P (zeros (length a)) (F.encode P) us =
      follows P (zeros (length a)) us (fresh_formed (length a / row)) (all_fresh row (length a / row))
      (rw (zeros-length (length a)) (set_up_lawful row F a t h))
      (subst (λ n. Agrees (cells row P) (zeros n)) k (fresh_agrees row pos (length a / row)))
      (subst (λ (z : Outcome F.Kept). EngineOnly row F P z.arena z.kept us) d r.engine-only) in
      let m : record { answers = done (0 ∷ []) ∷ (model row P (calls us)).answers; pool = (model row P (calls us)).pool } ≡ model_fresh row (length a) (calls us) =
      sym (model_fresh_lem (length a) (calls us)) in
      record {
        modelled = record {
          answers = ap (λ (z : Outcome F.Kept). z.answer ∷ (ran row F z.arena z.kept us).answers) d
              ∙ ap (λ l. done (0 ∷ []) ∷ l) f.answers ∙ ap (λ m. m.answers) m;
          tables = ap (λ (z : Outcome F.Kept). (ran row F z.arena z.kept us).kept) d ∙ f.tables ∙ ap (λ m. F.encode m.pool) m;
          counted = ap (λ (z : Outcome F.Kept). reported row F (ran row F z.arena z.kept us)) d ∙ f.counted
              ∙ ap (λ m. done (listed (totals row m.pool))) m;
          cleared = subst (λ (z : Outcome F.Kept). AllCleared row F P z.arena z.kept us) (sym d) f.cleared;
        };
        formed = subst (λ m. T (well_formed m.pool)) m f.formed;
        agrees = subst (λ m. Agrees (cells row m.pool) (ran_fresh row F a t us).arena) m
            (subst (λ (z : Outcome F.Kept). Agrees (cells row (model row P (calls us)).pool) (ran row F z.arena z.kept us).arena) (sym d)
            f.agrees);
      }

  -- ---- two runs

  pub steers_nothing : SteersNothing row F
  steers_nothing a₁ t₁ a₂ t₂ us₁ us₂ l same s₁ s₂ =
      let r₁ : Shows a₁ t₁ us₁ = run-shows a₁ t₁ us₁ s₁ in
      let r₂ : Shows a₂ t₂ us₂ = run-shows a₂ t₂ us₂ s₂ in
      let e : model_fresh row (length a₁) (calls us₁) ≡ model_fresh row (length a₂) (calls us₂) = ap₂ (λ n cs. model_fresh row n cs) l same in
      let P : Pool = (model_fresh row (length a₁) (calls us₁)).pool in (
        record {
          answers = r₁.modelled.answers ∙ ap (λ m. m.answers) e ∙ sym r₂.modelled.answers;
          tables = r₁.modelled.tables ∙ ap (λ m. F.encode m.pool) e ∙ sym r₂.modelled.tables;
          totals = r₁.modelled.counted ∙ ap (λ m. done (listed (totals row m.pool))) e ∙ sym r₂.modelled.counted;
          outside = outside row pos P r₁.formed _ _ r₁.agrees
              (subst (λ Q. Agrees (cells row Q) (ran_fresh row F a₂ t₂ us₂).arena) (ap (λ m. m.pool) (sym e)) r₂.agrees);
        },
        r₁.modelled,
        r₂.modelled,
      )

-- ---- the premise

pub stores_admitted : (row : ℕ) → StoresAdmitted row
stores_admitted row P a p i v q = record {
  long = length-set a i v;
  bytes = λ j n. get_or-set_other a i j v 0 (λ z. T_not (requested row P i) (subst (λ k. T (not (requested row P k))) z n) ((requested_exactly row P i).1 (p, q)));
}

pub stores-only : (row : ℕ) → StoresOnly row
stores-only row P a b i s d = go (requested row P i) refl
  where
    go : (x : Bool) → requested row P i ≡ x → (p : Place) × RequestedByte row P p i
    go true e = (requested_exactly row P i).0 (true-T (requested row P i) e)
    go false e = absurd (d (s.bytes i (rw e tt)))

-- ---- the model's state

pub model_stands : (row : ℕ) → 0 < row → ModelStands row
unfolding model
model_stands row pos n cs h = go (fed row n) (fresh_stands row n h) cs
  where
    go : (P : Pool) → Stands row n P → (cs : List Call) → Stands row n (model row P cs).pool
    go P s [] = s
    go P s (c ∷ cs) = go (plan row P c).pool (plan_stands row pos n P s c) cs
