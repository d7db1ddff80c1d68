-- The slots of a group that are not live: those that are not counted as live.
use Rattle.mem.proofs.Prelude.{◌∙◌, ◌≡◌, ap, ap₂, sym, refl, not, List, [], ◌∷◌, ◌+◌, ◌-◌, ℕ, ◌≤◌, suc, zero, arith, lt-ltb, ltb, ltb→lt, lt→ltb, length, drop}
use Rattle.mem.proofs.Tests.{same_test}
use Rattle.mem.specs.Lists.{any, sum}
use Rattle.mem.specs.Bytes.{bit}
use Rattle.classes.specs.Classes.{slots_of}
use Rattle.model.specs.declared.Slot.{Slot}
use Rattle.model.specs.declared.Slot.TheVariants.{Fresh, Idle, Live}
use Rattle.model.specs.State.{is_live}
use Rattle.model.specs.Plain.{plain_slots, plain_group, slots_layout}
use Rattle.model.proofs.Plain.{slots_laws}
use Rattle.plain_slots.specs.Slots.{live_in}
use Rattle.walks.specs.Kept.{Kept}

pub live_few : (ss : List Slot) → live_in ss ≤ length ss
live_few [] = omega arith
live_few (Fresh ∷ ss) = omega (arith, live_few ss)
live_few (Idle r k d ∷ ss) = omega (arith, live_few ss)
live_few (Live a ∷ ss) = omega (arith, live_few ss)

-- not all are live just if one is not
pub some_idle : (ss : List Slot) → ltb (live_in ss) (length ss) ≡ any (λ x. not (is_live x)) ss
some_idle [] = refl
some_idle (Fresh ∷ ss) = lt-ltb (0 + live_in ss) (suc (length ss)) (omega (arith, live_few ss))
some_idle (Idle r k d ∷ ss) = lt-ltb (0 + live_in ss) (suc (length ss)) (omega (arith, live_few ss))
some_idle (Live a ∷ ss) =
    same_test (ltb (1 + live_in ss) (suc (length ss))) (ltb (live_in ss) (length ss))
    (λ t. lt→ltb (live_in ss) (length ss) (omega (arith, ltb→lt (1 + live_in ss) (suc (length ss)) t)))
    (λ t. lt→ltb (1 + live_in ss) (suc (length ss)) (omega (arith, ltb→lt (live_in ss) (length ss) t)))
    ∙ some_idle ss

idle_sum : (ss : List Slot) → live_in ss + sum (λ x. bit (not (is_live x))) ss ≡ length ss
idle_sum [] = refl
idle_sum (Fresh ∷ ss) = omega (arith, idle_sum ss)
idle_sum (Idle r k d ∷ ss) = omega (arith, idle_sum ss)
idle_sum (Live a ∷ ss) = omega (arith, idle_sum ss)

pub group-length : (c : ℕ) (t : List ℕ) → length (plain_group c t) ≡ slots_of c
unfolding plain_group plain_slots
group-length c t = many (slots_of c) (drop 16 t)
  where
    many : (n : ℕ) (t : List ℕ) → length (plain_slots n t) ≡ n
    many zero t = refl
    many (suc n) t = ap suc (many n (drop 8 t))

-- no more are live than the group has
pub live_inside : (c : ℕ) (t : List ℕ) → live_in (plain_group c t) ≤ slots_of c
live_inside c t = omega (arith, live_few (plain_group c t), group-length c t)

-- so many of the slots that a first row keeps are live
module _ {c : ℕ} {ss : List Slot} {t : List ℕ} (k : Kept slots_layout c ss t) where
  told : plain_group c t ≡ ss
  told = ap (plain_group c) k.bytes ∙ slots_laws.slots c ss k.rest k.sound

  many : slots_of c ≡ length ss
  many = sym (group-length c t) ∙ ap length told

  pub serve_counted : (live n : ℕ) → live ≡ live_in (plain_group c t) → n ≡ slots_of c → ltb live n ≡ any (λ x. not (is_live x)) ss
  serve_counted live n e f = ap₂ ltb (e ∙ ap live_in told) (f ∙ many) ∙ some_idle ss

  pub idle_counted : slots_of c - live_in (plain_group c t) ≡ sum (λ x. bit (not (is_live x))) ss
  idle_counted = omega (arith, ap live_in told, many, idle_sum ss)
