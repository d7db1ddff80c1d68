-- What is refused where something is missing, as `ok_or` and `?` hand it on.
use Rattle.mem.proofs.Prelude.{◌∙◌, ◌≡◌, sym, ap, Option, Some, None, Result, Ok, Err}
use Rattle.std.specs.Option.{ok_or}
use Rattle.std.specs.Result.{result_ok}
use Rattle.model.specs.declared.Refusal.{Refusal}

-- what was there
pub had : {A : Type 0} {o : Option A} {w : Result A Refusal} {x : A} → o ≡ result_ok w → w ≡ Ok x → o ≡ Some x
had p e = p ∙ ap result_ok e

-- nothing was there
pub had_none : {A : Type 0} {o : Option A} {w : Result A Refusal} {x : Refusal} → o ≡ result_ok w → w ≡ Err x → o ≡ None
had_none p e = p ∙ ap result_ok e

err_same : {A : Type 0} {x y : Refusal} → ◌≡◌ {A = Result A Refusal} (Err x) (Err y) → x ≡ y
err_same e = cc

-- so the refusal named is what is handed on
pub handed_on : {A B : Type 0} {o : Option A} {w : Result A Refusal} {r : Result B Refusal} {x y : Refusal}
    → o ≡ None → w ≡ ok_or o y → w ≡ Err x → r ≡ Err x → r ≡ Err y
handed_on {y = y} n v e f = f ∙ ap Err (err_same (sym e ∙ v ∙ ap (λ o. ok_or o y) n))
