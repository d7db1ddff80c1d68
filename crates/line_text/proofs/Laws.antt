-- Laws of text that is written piece by piece.
use Rattle.mem.proofs.Prelude.{◌∙◌, ◌≡◌, sym, ap, ap₂, refl, List, [], ◌∷◌, ◌++◌, ℕ, suc, ◌+◌, arith, length}
use Rattle.mem.proofs.Prelude.{length-append, set}
use Rattle.mem.specs.Bytes.{put}
use Rattle.mem.proofs.Laws.{put-nil, put-cons, put-append}

-- what is left, T, to be written at a place makes W written where the writing began
abbrev pub Left : ℕ → List ℕ → List ℕ → ℕ → List ℕ → List ℕ → Type 0
Left at W out₀ end T out = (end + length T ≡ at + length W) × (put end T out ≡ put at W out₀)

pub left_all : (W T out : List ℕ) → T ≡ W → Left 0 W out 0 T out
left_all W T out e = (ap (λ t. 0 + length t) e, ap (λ t. put 0 t out) e)

module _ (at : ℕ) (W out₀ : List ℕ) where
  -- a piece is written
  pub left_step : (end next : ℕ) (T F R out now : List ℕ) → T ≡ F ++ R → next ≡ end + length F → now ≡ put end F out
      → Left at W out₀ end T out → Left at W out₀ next R now
  left_step end next T F R out now e n o l = (
    omega (arith, ap length e, length-append F R, n, l.0),
    ap₂ (λ k x. put k R x) n o ∙ sym (put-append end F R out) ∙ ap (λ t. put end t out) (sym e) ∙ l.1,
  )

  -- all is written
  pub left-none : (end : ℕ) (T out : List ℕ) → T ≡ [] → Left at W out₀ end T out → (end ≡ at + length W) × (out ≡ put at W out₀)
  left-none end T out e l = (omega (arith, ap length e, l.0), sym (put-nil end out) ∙ ap (λ t. put end t out) (sym e) ∙ l.1)

-- two pieces and a newline
pub ended : (at : ℕ) (A B out : List ℕ) (e₁ e₂ : ℕ) (o₁ o₂ : List ℕ) → e₁ ≡ at + length A → o₁ ≡ put at A out → e₂ ≡ e₁ + length B → o₂ ≡ put e₁ B o₁
    → (e₂ + 1 ≡ at + length (A ++ (B ++ (10 ∷ [])))) × (set o₂ e₂ 10 ≡ put at (A ++ (B ++ (10 ∷ []))) out)
ended at A B out e₁ e₂ o₁ o₂ n₁ p₁ n₂ p₂ =
    let W = A ++ (B ++ (10 ∷ [])) in
    let l₁ = left_step at W out at e₁ W A (B ++ (10 ∷ [])) out o₁ refl n₁ p₁ (refl, refl) in
    let l₂ = left_step at W out e₁ e₂ (B ++ (10 ∷ [])) B (10 ∷ []) o₁ o₂ refl n₂ p₂ l₁ in
    (l₂.0, sym (put-nil (suc e₂) (set o₂ e₂ 10)) ∙ sym (put-cons e₂ 10 [] o₂) ∙ l₂.1)
