-- Totals, number by number.
use Rattle.mem.proofs.Prelude.{◌≡◌, sym, ℕ, ◌&&◌, and-true, eqb}
use Rattle.model.specs.declared.Totals.{Totals}
use Rattle.model.specs.Calls.{same_totals}

pub six-same : {b n h f r w : ℕ} (s : Totals) → b ≡ s.blocks → n ≡ s.bytes → h ≡ s.held → f ≡ s.free → r ≡ s.ready → w ≡ s.waiting
    → ◌≡◌ {A = Totals} (record { blocks = b; bytes = n; held = h; free = f; ready = r; waiting = w }) s
six-same s e₀ e₁ e₂ e₃ e₄ e₅ = rw (e₀, e₁, e₂, e₃, e₄, e₅)

-- totals that are all zero, as `Totals::default()` gives them
pub zero_totals : (t : Totals) → (t.blocks ≡ 0) × ((t.bytes ≡ 0) × ((t.held ≡ 0) × ((t.free ≡ 0) × ((t.ready ≡ 0) × (t.waiting ≡ 0)))))
    → t ≡ record { blocks = 0; bytes = 0; held = 0; free = 0; ready = 0; waiting = 0 }
zero_totals t (b, (y, (h, (f, (r, w))))) = sym (six-same t (sym b) (sym y) (sym h) (sym f) (sym r) (sym w))

-- two totals are the same if each number is, as `==` has it
pub same_numbers : (a b : Totals)
    → (eqb a.blocks b.blocks && (eqb a.bytes b.bytes && (eqb a.held b.held && (eqb a.free b.free && (eqb a.ready b.ready && eqb a.waiting b.waiting)))))
    ≡ same_totals a b
unfolding same_totals
same_numbers a b = simp and-true
