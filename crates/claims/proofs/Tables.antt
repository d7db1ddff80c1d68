-- What is claimed of tables holds of every lawful layout, for rows of 512 bytes, and of both engines'.
use Rattle.mem.proofs.Prelude.{◌∙◌, ◌≡◌, sym, ap, refl, true, Bool, false, List, ◌+◌, ℕ, ◌<◌, ◌≤◌, ◌*◌, ◌/◌, ◌^◌, ◌%◌, mul-div_cancel_left, arith, T}
use Rattle.mem.proofs.Prelude.{lit≤, leb→le, length, get_or}
use Rattle.mem.specs.Bytes.{zeros}
use Rattle.mem.proofs.Tests.{and_left, and_right, T_true, choose-true, choose_case}
use Rattle.mem.proofs.Laws.{zeros_at, number-low}
use Rattle.classes.specs.Classes.{row_bytes}
use Rattle.classes.proofs.Laws.{rows-small}
use Rattle.model.specs.declared.Slot.{Slot}
use Rattle.model.specs.State.{group, span_sound, rows}
use Rattle.model.specs.Tables.{Layout, LayoutLaws, masks_layout, encode_by, view_by, sound_by, arena_right, room_bytes, room_for}
use Rattle.model.specs.Plain.{slots_layout}
use Rattle.model.proofs.Tables.{masks_laws, Sound, sound_facts, view-encode, encode-sound, encode-length}
use Rattle.model.proofs.Plain.{slots_laws}
use Rattle.model.proofs.Octets.{Bytes, masks-bytes, plain_row-bytes, encode-bytes}
use Rattle.claims.specs.Tables.{TableForm}

-- what a test refutes is false
pub refuted : (b : Bool) → (T b → ⊥) → b ≡ false
refuted true f = absurd (f tt)
refuted false f = refl

module _ {L : Layout} (law : LayoutLaws L) (row : ℕ) (pos : 0 < row) where
  right-size : (n : ℕ) (t : List ℕ) → T (sound_by L row n t) → length t ≡ room_for row n
  unfolding room_for
  right-size n t h =
      let s : Sound L row n t = sound_facts L row n t h in
      let e : rows row (view_by L row t) ≡ n / row = sym (ap (λ m. m / row) s.long ∙ mul-div_cancel_left (rows row (view_by L row t)) pos) in
      ap length s.form ∙ encode-length law row pos (view_by L row t) s.formed ∙ ap room_bytes e
      ∙ sym (choose-true (arena_right row n) _ _ (T_true (arena_right row n) s.lawful))

  -- a recorded length of 0 is no lawful arena's
  never_set_up : 512 * row < 256 ^ 4 → (n k : ℕ) → sound_by L row n (zeros k) ≡ false
  unfolding arena_right encode_by
  never_set_up bound n k = refuted (sound_by L row n (zeros k)) unlawful
    where
      all_zero : (a b c d N : ℕ) → a + 256 * (b + 256 * (c + 256 * (d + 256 * 0))) ≡ N → a ≡ 0 → b ≡ 0 → c ≡ 0 → d ≡ 0 → N ≡ 0
      all_zero a b c d N e p q r s = omega arith

      unlawful : T (sound_by L row n (zeros k)) → ⊥
      unlawful h =
          let s : Sound L row n (zeros k) = sound_facts L row n (zeros k) h in
          let N : ℕ = row * rows row (view_by L row (zeros k)) in
          let zero-at : (i : ℕ) → get_or (encode_by L row (view_by L row (zeros k))) i 0 ≡ 0 = λ i. sym (ap (λ l. get_or l i 0) s.form) ∙ zeros_at k i in
          let l₁ : row ≤ n = leb→le row n (search (s.lawful, and_left, and_right)) in
          let l₂ : n ≤ 512 * row = leb→le n (512 * row) (search (s.lawful, and_left, and_right)) in
          let e : N ≡ 0 = all_zero (N % 256) (N / 256 % 256) (N / 256 / 256 % 256) (N / 256 / 256 / 256 % 256) N (number-low 4 N (omega (arith, s.long)))
          (zero-at 0) (zero-at 1) (zero-at 2) (zero-at 3) in
          omega (arith, s.long)

small : (n : ℕ) → room_for row_bytes n ≤ 12 * (n / 16) + 64 * (n / row_bytes) + 256
unfolding room_for room_bytes row_bytes
small n =
    choose_case (λ r. r ≤ 12 * (n / 16) + 64 * (n / 512) + 256) (arena_right 512 n) (16 + 264 * (n / 512)) 0 (λ e. omega arith) (λ e. omega arith)

-- every element of the form is a byte, if those of a group's first row are
module _ (L : Layout) (law : LayoutLaws L) (bytes : (c : ℕ) (ss : List Slot) → T (span_sound (group c ss)) → Bytes (L.first_row c ss)) where
  table_form : TableForm row_bytes L
  unfolding row_bytes Bytes
  table_form = record {
    says = view-encode law row_bytes (lit≤ tt);
    accepted = encode-sound law row_bytes (lit≤ tt);
    only = λ n t h. sym (sound_facts L row_bytes n t h).form;
    never_set_up = never_set_up law row_bytes (lit≤ tt) (lit≤ tt);
    bytes = encode-bytes L bytes row_bytes (λ c h. rows-small row_bytes c (lit≤ tt));
    long = encode-length law row_bytes (lit≤ tt);
    right-size = right-size law row_bytes (lit≤ tt);
    small = small;
  }

pub tables : TableForm row_bytes masks_layout
tables = table_form masks_layout masks_laws masks-bytes

pub plain_tables : TableForm row_bytes slots_layout
plain_tables = table_form slots_layout slots_laws plain_row-bytes
