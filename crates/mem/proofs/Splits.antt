-- One list split round a part, and round an element.
use Rattle.mem.proofs.Prelude.{◌≡◌, sym, ap, refl, ap₂, ⊎_elim, inl, inr, ◌⊎◌, List, [], ◌∷◌, ◌++◌}

-- the element stands before the part, in it, or after it
abbrev pub Before : {A : Type 0} → List A → List A → List A → List A → A → List A → Type 0
Before {A} X M Y W h Z = (R : List A) × (X ≡ W ++ (h ∷ R)) × (Z ≡ R ++ (M ++ Y))

abbrev pub Within : {A : Type 0} → List A → List A → List A → List A → A → List A → Type 0
Within {A} X M Y W h Z = (L : List A) × (R : List A) × (M ≡ L ++ (h ∷ R)) × (W ≡ X ++ L) × (Z ≡ R ++ Y)

abbrev pub Behind : {A : Type 0} → List A → List A → List A → List A → A → List A → Type 0
Behind {A} X M Y W h Z = (R : List A) × (W ≡ X ++ (M ++ R)) × (Y ≡ R ++ (h ∷ Z))

within_or_behind : {A : Type 0} (M Y W : List A) (h : A) (Z : List A) → M ++ Y ≡ W ++ (h ∷ Z) → Within [] M Y W h Z ⊎ Behind [] M Y W h Z
within_or_behind [] Y W h Z e = inr (W, refl, e)
within_or_behind (m ∷ M) Y [] h Z e =
    let p : m ≡ h = cc in
    let q : M ++ Y ≡ Z = cc in
    inl ([], M, ap (λ x. x ∷ M) p, refl, sym q)
within_or_behind (m ∷ M) Y (w ∷ W) h Z e =
    let p : m ≡ w = cc in
    let q : M ++ Y ≡ W ++ (h ∷ Z) = cc in
    ⊎_elim (λ u. inl (m ∷ u.0, u.1, ap (λ l. m ∷ l) u.2, ap₂ (λ a b. a ∷ b) (sym p) u.3, u.4))
    (λ v. inr (v.0, ap₂ (λ a b. a ∷ b) (sym p) v.1, v.2)) (within_or_behind M Y W h Z q)

pub splits : {A : Type 0} (X M Y W : List A) (h : A) (Z : List A) → X ++ (M ++ Y) ≡ W ++ (h ∷ Z)
    → Before X M Y W h Z ⊎ (Within X M Y W h Z ⊎ Behind X M Y W h Z)
splits [] M Y W h Z e = inr (within_or_behind M Y W h Z e)
splits (x ∷ X) M Y [] h Z e =
    let p : x ≡ h = cc in
    let q : X ++ (M ++ Y) ≡ Z = cc in
    inl (X, ap (λ y. y ∷ X) p, sym q)
splits (x ∷ X) M Y (w ∷ W) h Z e =
    let p : x ≡ w = cc in
    let q : X ++ (M ++ Y) ≡ W ++ (h ∷ Z) = cc in
    ⊎_elim (λ v. inl (v.0, ap₂ (λ a b. a ∷ b) p v.1, v.2))
    (λ s. inr (⊎_elim (λ u. inl (u.0, u.1, u.2, ap₂ (λ a b. a ∷ b) (sym p) u.3, u.4)) (λ v. inr (v.0, ap₂ (λ a b. a ∷ b) (sym p) v.1, v.2)) s))
    (splits X M Y W h Z q)
