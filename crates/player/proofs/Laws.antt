-- Laws of what a record does.
use Rattle.mem.proofs.Prelude.{◌∙◌, ◌≡◌, sym, ap, Bool, true, false, Some, None, List, [], ◌∷◌, ℕ, ◌+◌, leb, length}
use Rattle.mem.specs.Lists.{choose}
use Rattle.mem.specs.Bytes.{put}
use Rattle.mem.proofs.Tests.{choose-true, choose-false}
use Rattle.model.specs.Answers.{Answer, done}
use Rattle.model.specs.Calls.{KeptBytes, EngineOutcome, left}
use Rattle.trace.specs.Trace.{store}
use Rattle.trace.specs.Replay.{Effect, effect, performed}

-- a record that makes a call does what the call leaves
pub of_call : {d : Effect} {r : EngineOutcome} {x : Answer} {b : List ℕ} {k : KeptBytes} → d ≡ effect r → left x b k ≡ r
    → record { tells = Some x; arena = b; kept = k } ≡ d
of_call e f = ap effect f ∙ sym e

-- a record that stores, by what the store promises
pub of_store : (row : ℕ) (d : Effect) (a : List ℕ) (t : KeptBytes) (bs b : List ℕ) (o : ℕ) (r : Bool) → d ≡ performed row a t (store o bs)
    → (r ≡ leb (o + length bs) (length a)) × (b ≡ choose r (put o bs a) a)
    → record { tells = choose r (Some (done (0 ∷ []))) None; arena = b; kept = t } ≡ d
unfolding performed choose
of_store row d a t bs b o true e f =
    sym (e ∙ choose-true _ _ _ (sym f.0) ∙ ap (λ (c : List ℕ). record { tells = Some (done (0 ∷ [])); arena = c; kept = t }) (sym f.1))
of_store row d a t bs b o false e f =
    sym (e ∙ choose-false _ _ _ (sym f.0) ∙ ap (λ (c : List ℕ). record { tells = None; arena = c; kept = t }) (sym f.1))
