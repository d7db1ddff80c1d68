-- That traces are read as they are written.
use Rattle.std.specs.Prelude.{ℕ, ◌≡◌, List, ◌∷◌, map, T, ltb}
use Rattle.mem.specs.Lists.{every}
use Rattle.trace.specs.Trace.{Operation, version, does, items, writable, encode_trace}

-- reading what is written gives the same operations
abbrev pub ReadsBack : Type 0
ReadsBack = (xs : List Operation) → T (every writable xs) → items (encode_trace xs) ≡ map does xs

-- a trace of the version byte and bytes behind it that is whole is what is written for the operations read: they have one byte form
abbrev pub WritesBack : Type 0
WritesBack = (bs : List ℕ) (xs : List Operation) → T (every (λ b. ltb b 256) bs) → items (version ∷ bs) ≡ map does xs → encode_trace xs ≡ version ∷ bs
