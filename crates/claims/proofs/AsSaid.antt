-- Set up and release leave what document 01 says, measure and report leave everything, and no block starts at 0.
use Rattle.mem.proofs.Prelude.{◌∙◌, ◌≡◌, sym, ap, refl, ap₂, subst, ⊎_elim, inl, inr, ◌⊎◌, List, [], ◌∷◌, ◌++◌, append-nil, ℕ, ◌<◌, ◌*◌, ◌/◌, arith}
use Rattle.mem.proofs.Prelude.{T, length, get_or, mul-div_cancel_left}
use Rattle.mem.specs.Lists.{any}
use Rattle.mem.specs.Bytes.{zeros, put}
use Rattle.mem.proofs.Tests.{T_true, true-T, and_both, every-not, choose_case}
use Rattle.mem.proofs.Laws.{put_all, put-length, put-before, put-past, zeros-length, zeros-put}
use Rattle.model.specs.State.{Pool, Place, is_live, well_formed, start_of, pool_of, rows}
use Rattle.model.specs.Answers.{done}
use Rattle.model.specs.Plans.{fresh_pool, Plan, releases, reports, plan, on_handle, release_at, release, report}
use Rattle.model.specs.Tables.{arena_right}
use Rattle.model.specs.Calls.{Form, FormLaws, Outcome, set_up_right_by, applied, written, call_by}
use Rattle.model.proofs.Formed.{release_formed}
use Rattle.model.proofs.Fresh.{fresh_formed, set_up-done}
use Rattle.model.proofs.Calls.{call-sound, carried_whole, measure-keeps, report-keeps}
use Rattle.claims.specs.Demand2 as demand2
use Rattle.claims.specs.AsSaid.{MadeFresh, SetsUpAsSaid, SetsUpAsPlanned, ReportsAsSaid, ZeroedOnly, NeverAtZero, ReadsOnly, Waits, Goes, ReleasesAsSaid}
use Rattle.model.proofs.Handles.{on_present}
use Rattle.claims.proofs.Cases.{release_parts}
use Rattle.claims.proofs.Demand1.{starts_found}
use Rattle.claims.proofs.Demand2.{set_up_accepted, Accepted, accepted, releases_exactly}

-- zeros written from a place on
zeroed : (a b : List ℕ) (p k : ℕ) → b ≡ put p (zeros k) a → ZeroedOnly a b p k
zeroed a b p k e = record {
  long = ap length e ∙ put-length p (zeros k) a;
  zero = λ i h l. ap (λ c. get_or c i 0) e ∙ ap (λ bs. get_or (put p bs a) i 0) (sym (append-nil (zeros k))) ∙ zeros-put p [] k [] a i (omega arith) (omega arith);
  others = λ i h.
      ap (λ c. get_or c i 0) e
      ∙ ⊎_elim (put-before p (zeros k) a i 0) (λ l. put-past p (zeros k) a i 0 (omega (arith, l, zeros-length k))) h;
}

-- ---- set up

pub sets_up_as_said : (row : ℕ) → 0 < row → (F : Form) → FormLaws row F → SetsUpAsSaid row F
unfolding call_by
sets_up_as_said row pos F L a t z =
    let h : T (set_up_right_by row F a t) = set_up_accepted row pos F L a t z in
    let n : ℕ = length a / row in
    subst (MadeFresh row F a) (sym (set_up-done row F a t h)) (record {
      value = refl;
      pool = L.says (fresh_pool n) (fresh_formed n);
      bytes = zeroed a (zeros (length a)) 0 (length a) (sym (put_all (zeros (length a)) a (zeros-length (length a))));
    })

pub sets_up_as_planned : (row : ℕ) → 0 < row → (F : Form) → FormLaws row F → SetsUpAsPlanned row F
unfolding call_by set_up_right_by plan
sets_up_as_planned row pos F L a t s =
    let P : Pool = F.view t in
    let (w, e) = L.only (length a) t s in
    let f : T (F.fits (length a) t) = subst (λ u. T (F.fits (length a) u)) (sym e) (L.taken (length a) P w) in
    let z : zeros (length a) ≡ put 0 (zeros (row * rows row P)) a =
    ap zeros w.long ∙ sym (put_all (zeros (row * rows row P)) a (zeros-length (row * rows row P) ∙ sym w.long)) in
    let q : length a / row ≡ rows row P = ap (λ n. n / row) w.long ∙ mul-div_cancel_left (rows row P) pos in
    set_up-done row F a t (and_both (arena_right row (length a)) _ w.lawful f)
    ∙ ap₂ (λ b n. record { answer = done (0 ∷ []); arena = b; kept = F.encode (fresh_pool n) }) z q

-- ---- measure and report

pub reads_only : (row : ℕ) → 0 < row → (F : Form) → FormLaws row F → ReadsOnly row F
reads_only row pos F L = record {
  measured = λ a t h. let k = measure-keeps row F L a t h in record { arena = k.arena; kept = k.kept };
  reported = λ a t. let k = report-keeps row F L a t in record { arena = k.arena; kept = k.kept };
}

pub reports_as_said : (row : ℕ) (F : Form) → ReportsAsSaid row F
unfolding plan report
reports_as_said row F a t s =
    ap (λ (r : Outcome F.Kept). r.answer)
    (call-sound row F a t (T_true (F.sound (length a) t) s) reports tt ∙ carried_whole row F a t (report row (F.view t)) refl)

-- ---- release

module _ (row : ℕ) (pos : 0 < row) (F : Form) (L : FormLaws row F) (a : List ℕ) (p : Place) (w : T (well_formed (pool_of p)))
    (l : T (is_live p.state)) (r : Outcome F.Kept)
    (done : r ≡ applied F a (release_at row p)) where
  -- what the plan of a live block's release leaves
  pub released_as_said : Waits row F a p r ⊎ Goes row F a p r
  unfolding release_at
  released_as_said =
      choose_case (λ (q : Plan). F.view r.kept ≡ q.pool → r.arena ≡ written a q.changes → Waits row F a p r ⊎ Goes row F a p r)
      (any is_live (p.lower ++ p.upper)) _ _
      (λ e v x. inl (record { other_live = true-T (any is_live (p.lower ++ p.upper)) e; pool = v; bytes = zeroed a r.arena _ _ x }))
      (λ e v x. inr (record { none-live = every-not is_live (p.lower ++ p.upper) e; pool = v; bytes = zeroed a r.arena _ _ x }))
      (ap (λ (r : Outcome F.Kept). F.view r.kept) done ∙ L.says (release_at row p).pool (release_formed row p w l).formed)
      (ap (λ (r : Outcome F.Kept). r.arena) done)

-- the plan of a call on the live block of a handle
module _ (row : ℕ) (pos : 0 < row) (P : Pool) (w : T (well_formed P)) (a : List ℕ) (h : ℕ) (p : Place) (i : demand2.Intact row a P h p) where
  pub on_intact : (f : Place → Plan) → on_handle row P h f ≡ f p
  on_intact f = on_present row pos P h f p (starts_found row pos P (start_of h) p w i.live.here) i.live.live i.present

  pub place_formed : T (well_formed (pool_of p))
  place_formed = subst (λ Q. T (well_formed Q)) (sym i.live.here.slotted.pool) w

pub releases_as_said : (row : ℕ) → 0 < row → (F : Form) → FormLaws row F → ReleasesAsSaid row F
unfolding plan release
releases_as_said row pos F L a t h z =
    let y : Accepted row pos F L a t (releases h) = accepted row pos F L a t (releases h) tt z in
    let w : T (well_formed (F.view t)) = (L.only (length a) t y.sound-tables).0.formed in
    let (p, i) = (releases_exactly row pos F L a t h y.sound-tables).0 z in
    let l : call_by row F a t (releases h) ≡ applied F a (release_at row p) =
    y.left ∙ ap (applied F a) (on_intact row pos (F.view t) w a h p i (release_at row)) in (
      p,
      record {
        block = i;
        value = ap (λ (r : Outcome F.Kept). r.answer.values) l ∙ ap (λ r. r.values) (release_parts row p).1;
        left = released_as_said row pos F L a p (place_formed row pos (F.view t) w a h p i) i.live.live (call_by row F a t (releases h)) l;
      },
    )

-- ---- offset 0

pub never_at_zero : (row : ℕ) → NeverAtZero row
never_at_zero row P p s = omega (arith, s.starts)
