-- Laws of engines: a call on the form of a state is the same step on that state, whatever the form.
use Rattle.model.specs.Blocks.{Damage}
use Rattle.mem.proofs.Prelude.{◌∙◌, ◌≡◌, sym, ap, refl, ◌&&◌, List, [], ◌∷◌, ℕ, ◌<◌, ◌*◌, ◌/◌, T, length, Ok, Err}
use Rattle.mem.specs.Bytes.{zeros, part}
use Rattle.mem.specs.Lists.{choose}
use Rattle.mem.proofs.Tests.{and_both, T_true, choose-true, choose_case, choose_along}
use Rattle.mem.proofs.Laws.{put-length, zeros-length}
use Rattle.model.specs.declared.Refusal.{Refusal}
use Rattle.model.specs.State.{Pool}
use Rattle.model.specs.Answers.{done, refusal}
use Rattle.model.specs.Plans.{Plan, Write, writes, copies, Call, is_set_up, plan, fresh_pool}
use Rattle.model.specs.Tables.{arena_right}
use Rattle.model.specs.Calls.{Form, Outcome, Stands, FormLaws, keeps, written, unless, damaged, carried_by, set_up_right_by}
use Rattle.model.specs.Calls.{set_up_by, checked_by, call_by}
use Rattle.model.proofs.Fresh.{fresh_formed, all_fresh, fresh-rows, whole_rows, whole_units}
use Rattle.model.proofs.Formed.{Formed, plan_formed}

written-length : (a : List ℕ) (ws : List Write) → length (written a ws) ≡ length a
written-length a [] = refl
written-length a (writes p bs ∷ ws) = written-length _ ws ∙ put-length p bs a
written-length a (copies from to n ∷ ws) = written-length _ ws ∙ put-length to (part from n a) a

ap_unless : {A B : Type 0} (f : A → B) (d : Damage) (x : A) (g : Refusal → A) → f (unless d x g) ≡ unless d (f x) (λ r. f (g r))
unfolding unless
ap_unless f (Ok tt) x g = refl
ap_unless f (Err r) x g = refl

unless_case : {A : Type 0} (M : A → Type 0) (d : Damage) (x : A) (g : Refusal → A) → M x → ((r : Refusal) → M (g r)) → M (unless d x g)
unfolding unless
unless_case M (Ok tt) x g m n = m
unless_case M (Err r) x g m n = n r

-- ---- one step, whatever the form

module _ (row : ℕ) where
  -- a call on a state that stands under the arena: what is answered, the arena and the state after it
  abbrev pub stepped : List ℕ → Pool → Plan → Outcome Pool
  stepped a P p =
      let yes : Outcome Pool = record { answer = p.answer; arena = written a p.changes; kept = p.pool } in
      unless (damaged row a p.checks) yes (λ r. keeps (refusal r) a P)

  abbrev pub step : List ℕ → Pool → Call → Outcome Pool
  step a P c =
      let made : Outcome Pool = record { answer = done (0 ∷ []); arena = zeros (length a); kept = fresh_pool (length a / row) } in
      choose (is_set_up c) made (stepped a P (plan row P c))

  -- an outcome with its state in the room
  abbrev pub in_room : (F : Form) → Outcome Pool → Outcome F.Kept
  in_room F o = record { answer = o.answer; arena = o.arena; kept = F.encode o.kept }

  module _ (F : Form) (L : FormLaws row F) (a : List ℕ) (P : Pool) (s : Stands row (length a) P) where
    set_up-step : set_up_by row F a (F.encode P)
        ≡ record { answer = done (0 ∷ []); arena = zeros (length a); kept = F.encode (fresh_pool (length a / row)) }
    unfolding set_up_by set_up_right_by
    set_up-step =
        choose-true (arena_right row (length a) && F.fits (length a) (F.encode P)) _ _
        (T_true _ (and_both (arena_right row (length a)) (F.fits (length a) (F.encode P)) s.lawful (L.taken (length a) P s)))

    checked-step : (c : Call) → checked_by row F a (F.encode P) c ≡ in_room F (stepped a P (plan row P c))
    unfolding checked_by carried_by
    checked-step c =
        choose-true (F.sound (length a) (F.encode P)) _ _ (T_true _ (L.right (length a) P s))
        ∙ ap (λ Q. carried_by row F a (F.encode P) (plan row Q c)) (L.says P s.formed)
        ∙ sym (ap_unless (in_room F) (damaged row a (plan row P c).checks) _ _)

    pub call_step : (c : Call) → call_by row F a (F.encode P) c ≡ in_room F (step a P c)
    unfolding call_by
    call_step c = choose_along (in_room F) (is_set_up c) set_up-step (checked-step c)

  -- the state after a step stands under the arena after it
  pub fresh_stands : (n : ℕ) → T (arena_right row n) → Stands row n (fresh_pool (n / row))
  fresh_stands n h = record {
    lawful = h;
    long = sym (ap (λ k. row * k) (fresh-rows row (n / row)) ∙ whole_rows row n h);
    formed = fresh_formed (n / row);
    bounds = all_fresh row (n / row);
  }

  pub plan_stands : 0 < row → (n : ℕ) (P : Pool) → Stands row n P → (c : Call) → Stands row n (plan row P c).pool
  plan_stands pos n P s c =
      let f : Formed row P (plan row P c).pool = plan_formed row pos P c s.formed in
      record {
        lawful = s.lawful;
        long = s.long ∙ ap (λ k. row * k) (sym f.long);
        formed = f.formed;
        bounds = f.bounds (whole_units row n s.lawful) s.bounds;
      }

  module _ (pos : 0 < row) (n : ℕ) (a : List ℕ) (e : length a ≡ n) (P : Pool) (s : Stands row n P) where
    -- an outcome over an arena of n bytes
    pub record Standing (o : Outcome Pool) : Type 0 where
      pub long : length o.arena ≡ n
      pub stands : Stands row n o.kept

    stepped_stands : (c : Call) → Standing (stepped a P (plan row P c))
    stepped_stands c =
        unless_case Standing (damaged row a (plan row P c).checks) _ _
        (record { long = written-length a (plan row P c).changes ∙ e; stands = plan_stands pos n P s c }) (λ r. record { long = e; stands = s })

    pub step_stands : (c : Call) → Standing (step a P c)
    step_stands c =
        choose_case Standing (is_set_up c) _ _ (λ _. record { long = zeros-length (length a) ∙ e; stands = rw e (fresh_stands n s.lawful) })
        (λ _. stepped_stands c)
