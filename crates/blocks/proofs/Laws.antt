-- Laws of guards and frames: the writes that make them.
use Rattle.mem.proofs.Prelude.{◌∙◌, ◌≡◌, sym, ap, List, ◌++◌, ◌+◌, ℕ, ◌<◌, ◌≤◌, ◌*◌, ◌-◌, arith, length}
use Rattle.mem.specs.Bytes.{zeros, put}
use Rattle.mem.proofs.Laws.{zeros-length, zeros-add, put-append, put_cover, put_at, put_back, put_all}
use Rattle.classes.specs.Classes.{slot_bytes}
use Rattle.classes.proofs.Laws.{bytes-units, units_small}
use Rattle.model.specs.Blocks.{reserved, header, guard, spare, frame}
use Rattle.model.proofs.Blocks.{header-length, guard-length, spare-length}

pub bytes_small : (c : ℕ) → slot_bytes c < 131072
bytes_small c = omega (arith, bytes-units c, units_small c)

-- zeros, and the guard over their end
pub spare-put : (p r : ℕ) (s : List ℕ) → 5 ≤ r → put (p + (r - 5)) (guard r) (put p (zeros r) s) ≡ put p (spare r) s
unfolding spare
spare-put p r s h =
    let z : zeros r ≡ zeros (r - 5) ++ zeros 5 = ap zeros (omega arith) ∙ zeros-add (r - 5) 5 in
    rw (
      z,
      guard-length r h,
      put-append p (zeros (r - 5)) (zeros 5) s,
      put-append p (zeros (r - 5)) (guard r) s,
      zeros-length (r - 5),
    )
    (put_cover (p + (r - 5)) (p + (r - 5)) (guard r) (zeros 5) (put p (zeros (r - 5)) s) (omega arith) (omega (arith, guard-length r h, zeros-length 5)))

-- zeros, the header, and the reserved bytes at the end
pub frame-put : (c i d n : ℕ) → 16 * d + n + 4 ≤ slot_bytes c
    → put (16 * d + 4 + n) (spare (reserved c d n)) (put (16 * d) (header c i d n) (zeros (slot_bytes c))) ≡ frame c i d n
unfolding frame
frame-put c i d n h =
    let r = reserved c d n in
    let z : zeros (slot_bytes c) ≡ zeros (16 * d) ++ (zeros 4 ++ (zeros n ++ zeros r)) =
    ap zeros (omega arith) ∙ zeros-add (16 * d) (4 + (n + r)) ∙ rw (zeros-add 4 (n + r), zeros-add n r) in
    let q : 16 * d + 4 + n ≡ length (zeros (16 * d)) + (length (header c i d n) + (length (zeros n) + 0)) =
    omega (arith, zeros-length (16 * d), header-length c i d n, zeros-length n) in
    rw (
      z,
      put_at (16 * d) (zeros (16 * d)) (zeros 4) (header c i d n) (zeros n ++ zeros r) (zeros-length (16 * d))
          (header-length c i d n ∙ sym (zeros-length 4)),
      q,
      put_back (length (header c i d n) + (length (zeros n) + 0)) (spare r) (zeros (16 * d)) (header c i d n ++ (zeros n ++ zeros r)),
      put_back (length (zeros n) + 0) (spare r) (header c i d n) (zeros n ++ zeros r),
      put_back 0 (spare r) (zeros n) (zeros r),
      put_all (spare r) (zeros r) (spare-length r ∙ sym (zeros-length r)),
    )
