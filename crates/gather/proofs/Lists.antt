-- The planner, by whether a list can be planned: what it answers, and what it leaves in the array s.
use Rattle.mem.proofs.Prelude.{◌∙◌, ◌≡◌, sym, ap, true, false, List, [], ◌∷◌, ℕ, arith, length, Ok, Err}
use Rattle.mem.specs.Bytes.{put}
use Rattle.mem.proofs.Tests.{choose-true, choose-false, T_true, true-T}
use Rattle.mem.proofs.Laws.{put-nil}
use Rattle.model.specs.declared.Refusal.TheVariants.{TooLong}
use Rattle.model.specs.Answers.{Answer, list_done, refusal, reply_answer}
use Rattle.model.specs.Proposals.{entries, accepts, plannable, full_caps, planned}
use Rattle.model.proofs.Proposals.{planned_accepted}
use Rattle.gather.specs.Planned.{Planned}

module _ (total cap : ℕ) (s : List ℕ) where
  pub not-planned : plannable total cap ≡ false → Planned total cap (reply_answer (Err TooLong)) s s
  unfolding planned
  not-planned e =
      let p : planned total cap ≡ refusal TooLong = choose-false (plannable total cap) (list_done (full_caps entries total cap)) (refusal TooLong) e in
      record {
        proposed = record {
          number-due = sym (ap (λ (r : Answer). r.number) p);
          list-due = sym (put-nil 0 s) ∙ ap (λ (r : Answer). put 0 r.lent s) (sym p);
          accepted = λ z. absurd (omega (arith, z));
        };
        values-due = sym (ap (λ (r : Answer). r.values) p);
      }

  pub is_planned : plannable total cap ≡ true → {k : ℕ} {u : List ℕ} → k ≡ length (full_caps entries total cap)
      → u ≡ put 0 (full_caps entries total cap) s → Planned total cap (reply_answer (Ok k)) s u
  unfolding planned
  is_planned e ek eu =
      let ns : List ℕ = full_caps entries total cap in
      let p : planned total cap ≡ list_done ns = choose-true (plannable total cap) (list_done ns) (refusal TooLong) e in
      record {
        proposed = record {
          number-due = sym (ap (λ (r : Answer). r.number) p);
          list-due = eu ∙ ap (λ (r : Answer). put 0 r.lent s) (sym p);
          accepted = λ _. ap (λ (r : Answer). accepts total cap r.lent) p
              ∙ T_true (accepts total cap ns) (planned_accepted total cap (true-T (plannable total cap) e));
        };
        values-due = ap (λ k. k ∷ []) ek ∙ sym (ap (λ (r : Answer). r.values) p);
      }
