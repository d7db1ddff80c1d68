-- The names of the logic and its library that many proofs use.
pub use mathlib.Core.Path.{◌∙◌, ◌≡◌, sym, ap, refl, ap₂, subst}
pub use mathlib.Core.Bool.{true, Bool, false, ◌&&◌, not, ◌||◌, and_assoc, true≢false, and-false, and-true}
pub use mathlib.Core.Logic.{⊎_elim, inl, inr, ◌⊎◌}
pub use Rattle.std.specs.Prelude.{Some, None, Option, is_some, Ok, Err, Result}
pub use mathlib.Core.List.{List, [], ◌∷◌, ◌++◌, append_assoc, map, append-nil}
pub use Prim.Native.Nat.{◌+◌, ℕ, ◌<◌, ◌≤◌, ◌*◌, ◌-◌, suc, ◌/◌, zero, ◌^◌, ◌%◌, min}
pub use native.Mathlib.Nat.{add-zero, zero-add, mul_comm, pow-suc, sub-zero, le-div_iff_mul-le, mul-add, add_assoc, mul-div_cancel_left}
pub use native.Mathlib.Numerals.{add-one, add-two}
pub use native.Mathlib.Omega.{arith}
pub use borrow.Author.Rules.{rules}
pub use borrow.Author.Tests.{eq-eqb, ne_eqb, not-false, not-true, le-leb, leb-false, leb-true, lt-leb, eqb-false, le-ltb, eqb-true, lt-ltb}
pub use lib.Dec.{T, eqb, leb, lit≤, ltb, eqb→eq, leb→le, ltb→lt, eqb_refl, lt→ltb, T_not, le→leb}
pub use lib.ListN.{length, drop, get_or, length-append, replicate, take, set, length-drop, length-map, length-replicate, length-set, take-append-drop}
pub use lib.Seq.{drop-drop, drop-cons, get_or-drop, length-take-le, drop_at}
unfoldable pub use lib.Count.{ones}
