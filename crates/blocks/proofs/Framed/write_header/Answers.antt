-- Its four writes are one.
use Rattle.mem.proofs.Prelude.{◌∙◌, ◌≡◌, sym, List, [], ◌∷◌, ◌+◌, ℕ, ◌*◌, suc, arith, set}
use Rattle.mem.specs.Bytes.{put}
use Rattle.mem.proofs.Laws.{put-nil, put-cons}
use Rattle.model.specs.Blocks.{header}
use Rattle.blocks.proofs.Framed.write_header.Goals as goal

-- four writes of one byte are one
four : (p w x y z : ℕ) (s : List ℕ) → set (set (set (set s p w) (p + 1) x) (p + 2) y) (p + 3) z ≡ put p (w ∷ x ∷ y ∷ z ∷ []) s
four p w x y z s =
    let a : p + 1 ≡ suc p = omega arith in
    let b : p + 2 ≡ suc (suc p) = omega arith in
    let c : p + 3 ≡ suc (suc (suc p)) = omega arith in
    let s₁ = set s p w in
    let s₂ = set s₁ (suc p) x in
    let s₃ = set s₂ (suc (suc p)) y in
    let s₄ = set s₃ (suc (suc (suc p))) z in
    rw (a, b, c)
    (sym
    (put-cons p w (x ∷ y ∷ z ∷ []) s ∙ put-cons (suc p) x (y ∷ z ∷ []) s₁ ∙ put-cons (suc (suc p)) y (z ∷ []) s₂
    ∙ put-cons (suc (suc (suc p))) z [] s₃ ∙ put-nil (suc (suc (suc (suc p)))) s₄))

pub returns : goal.returns
unfolding header
returns c = let a = c.args in rw c.header.ensures (four (16 * a.self.disp) _ _ _ _ a.slot.now)
