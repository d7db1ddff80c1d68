-- The forms of the tables are lawful, without the record and with it: soundness with its rule is soundness of the tables, and a record that is
-- their totals.
use Rattle.mem.proofs.Prelude.{◌∙◌, ◌≡◌, sym, ap, ap₂, subst, true, ℕ, ◌<◌, ◌*◌, ◌/◌, mul_comm, arith, eqb→eq, T, length, get_or}
use native.Mathlib.Nat.{mul-div_cancel}
use Rattle.mem.proofs.Tests.{and_both, and_left, and_right, true-T, T_true, eq→eqb}
use Rattle.mem.proofs.Laws.{same→eq, same_refl}
use Rattle.model.specs.declared.Totals.{Totals}
use Rattle.model.specs.Answers.{listed}
use Rattle.model.specs.State.{Pool, rows}
use Rattle.model.specs.Plans.{totals}
use Rattle.model.specs.Tables.{Layout, LayoutLaws, masks_layout, encode_by, view, sound, room_bytes}
use Rattle.model.specs.Calls.{WithTotals, KeptBytes, Form, Stands, FormLaws, form_of, same_totals, masked, counted, engine, sound_kept}
use Rattle.model.proofs.Fresh.{whole_rows}
use Rattle.model.proofs.Tables.{masks_laws, view-encode, encode-length, encode-sound, sound_facts}

-- totals are their six numbers
listed-only : (a b : Totals) → listed a ≡ listed b → a ≡ b
listed-only a b e =
    let f : (i : ℕ) → get_or (listed a) i 0 ≡ get_or (listed b) i 0 = λ i. ap (λ l. get_or l i 0) e in
    let e₀ : a.blocks ≡ b.blocks = f 0 in
    let e₁ : a.bytes ≡ b.bytes = f 1 in
    let e₂ : a.held ≡ b.held = f 2 in
    let e₃ : a.free ≡ b.free = f 3 in
    let e₄ : a.ready ≡ b.ready = f 4 in
    let e₅ : a.waiting ≡ b.waiting = f 5 in
    rw (e₀, e₁, e₂, e₃, e₄, e₅)

pub same_totals_lem : (a b : Totals) → T (same_totals a b) → a ≡ b
unfolding same_totals
same_totals_lem a b t = listed-only a b (same→eq (listed a) (listed b) t)

pub totals-same : (s : Totals) → T (same_totals s s)
unfolding same_totals
totals-same s = same_refl (listed s)

-- a room's size tells its rows
same_rows : (i j : ℕ) → room_bytes i ≡ room_bytes j → i ≡ j
unfolding room_bytes
same_rows i j e = omega (arith, e)

-- tables in a lawful layout are a lawful form
pub layout_lawful : (L : Layout) → LayoutLaws L → (row : ℕ) → 0 < row → FormLaws row (form_of row L)
layout_lawful L law row pos = record {
  says = view-encode law row pos;
  right = λ n P s. encode-sound law row pos P n s.formed s.bounds s.lawful s.long;
  only = λ n t h.
      let f = sound_facts L row n t h in
      (record { lawful = f.lawful; long = f.long; formed = f.formed; bounds = f.bounds }, f.form);
  taken = λ n P s. eq→eqb (length (encode_by L row P)) (room_bytes (n / row)) (encode-length law row pos P s.formed ∙ ap room_bytes (rows_in n P s));
  sized = λ n m P s h f.
      let e : room_bytes (rows row P) ≡ room_bytes (m / row) =
      sym (encode-length law row pos P s.formed) ∙ eqb→eq (length (encode_by L row P)) (room_bytes (m / row)) f in
      sym (whole_rows row m h) ∙ ap (λ k. row * k) (sym (same_rows (rows row P) (m / row) e)) ∙ sym s.long;
}
  where
    rows_in : (n : ℕ) (P : Pool) → Stands row n P → rows row P ≡ n / row
    rows_in n P s = sym (ap (λ k. k / row) (s.long ∙ mul_comm row (rows row P)) ∙ mul-div_cancel (rows row P) pos)

-- a lawful form is lawful with the record beside it
pub counted_lawful : (row : ℕ) (F : Form) → FormLaws row F → FormLaws row (counted row F)
counted_lawful row F L = record {
  says = L.says;
  right = λ n P s.
      and_both (F.sound n (F.encode P)) (same_totals (totals row P) (totals row (F.view (F.encode P)))) (L.right n P s)
      (subst (λ Q. T (same_totals (totals row P) (totals row Q))) (sym (L.says P s.formed)) (totals-same (totals row P)));
  only = λ n t h.
      let k = L.only n t.tables (and_left (F.sound n t.tables) (same_totals t.totals (totals row (F.view t.tables))) h) in (
        k.0,
        ap₂ {C = WithTotals F.Kept} (λ r z. record { tables = r; totals = z }) k.1
            (same_totals_lem t.totals (totals row (F.view t.tables))
            (and_right (F.sound n t.tables) (same_totals t.totals (totals row (F.view t.tables))) h)),
      );
  taken = L.taken;
  sized = L.sized;
}

pub engine_lawful : (row : ℕ) → 0 < row → FormLaws row (engine row)
engine_lawful row pos = counted_lawful row (masked row) (layout_lawful masks_layout masks_laws row pos)

-- ---- tables in bytes, with the record

module _ (row n : ℕ) (t : KeptBytes) where
  pub kept_right : sound row n t.tables ≡ true → t.totals ≡ totals row (view row t.tables) → sound_kept row n t ≡ true
  kept_right s e =
      T_true (sound_kept row n t)
      (and_both (sound row n t.tables) (same_totals t.totals (totals row (view row t.tables))) (true-T (sound row n t.tables) s)
      (subst (λ z. T (same_totals t.totals z)) e (totals-same t.totals)))

  module _ (h : sound_kept row n t ≡ true) where
    pub kept_sound : sound row n t.tables ≡ true
    kept_sound =
        T_true (sound row n t.tables)
        (and_left (sound row n t.tables) (same_totals t.totals (totals row (view row t.tables))) (true-T (sound_kept row n t) h))

    pub kept_totals : t.totals ≡ totals row (view row t.tables)
    kept_totals =
        same_totals_lem t.totals (totals row (view row t.tables))
        (and_right (sound row n t.tables) (same_totals t.totals (totals row (view row t.tables))) (true-T (sound_kept row n t) h))
