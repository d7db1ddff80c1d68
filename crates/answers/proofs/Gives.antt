-- What C sees, by what the call left and by what the answer's number and value are.
use Rattle.mem.proofs.Prelude.{◌∙◌, ◌≡◌, ap, List, ℕ, get_or}
use Rattle.mem.specs.Bytes.{put}
use Rattle.model.specs.Answers.{Answer}
use Rattle.model.specs.Calls.{Outcome, left}
use Rattle.answers.specs.Gives.{Leaves, Tells, Gives, Reports, Lists}

module _ (x : Answer) {y : Answer} {n : ℕ} (e : n ≡ x.number) where
  pub tells : {v : ℕ} → v ≡ get_or x.values 0 0 → x ≡ y → Tells y n v
  tells f h = record { number-due = e ∙ ap (λ (y : Answer). y.number) h; value_due = f ∙ ap (λ (y : Answer). get_or y.values 0 0) h }

  pub reports : {vs : List ℕ} → vs ≡ x.values → x ≡ y → Reports y n vs
  reports f h = record { number-due = e ∙ ap (λ (y : Answer). y.number) h; values-due = f ∙ ap (λ (y : Answer). y.values) h }

module _ {R : Type 0} {o : Outcome R} {n : ℕ} {a : List ℕ} {t : R} (x : Answer) (e : n ≡ x.number) where
  pub leaves : left x a t ≡ o → Leaves o n a t
  leaves h = record {
    number-due = e ∙ ap (λ (o : Outcome R). o.answer.number) h;
    arena_due = ap (λ (o : Outcome R). o.arena) h;
    kept_due = ap (λ (o : Outcome R). o.kept) h;
  }

  pub gives : {v : ℕ} → v ≡ get_or x.values 0 0 → left x a t ≡ o → Gives o n v a t
  gives f h = record {
    tells = tells x e f (ap (λ (o : Outcome R). o.answer) h);
    arena_due = ap (λ (o : Outcome R). o.arena) h;
    kept_due = ap (λ (o : Outcome R). o.kept) h;
  }

  -- the answer of a list call, and what it wrote and left
  pub lists : {v : ℕ} {l k : List ℕ} → v ≡ get_or x.values 0 0 → x.number ≡ o.answer.number → x.values ≡ o.answer.values
      → k ≡ put 0 o.answer.lent l → a ≡ o.arena → t ≡ o.kept → Lists o n v l k a t
  lists f en ev el ea et = record {
    gives = record { tells = record { number-due = e ∙ en; value_due = f ∙ ap (λ vs. get_or vs 0 0) ev }; arena_due = ea; kept_due = et };
    list-due = el;
  }
