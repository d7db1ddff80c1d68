-- What is tested of a slot's record, by the numbers in its two halves, rule by rule: `lo` has tag, count and displacement, `hi` the size and a zero.
use Rattle.std.specs.Prelude.{ℕ, ◌+◌, ◌*◌, ◌-◌, ◌/◌, ◌%◌, Bool, ◌&&◌, ◌||◌, not, leb, ltb, eqb}
use Rattle.mem.specs.Lists.{choose}
use Rattle.classes.specs.Classes.{size_limit}
use Rattle.classes.specs.Alignments.{align_of, enlarged}

-- a slot that keeps no alignment but an ordinary block's, with its bits of the two masks, by two numbers of its class: 16d + n is no more than
-- `most`, and n + 4 is more than `least`
unfoldable pub record_checked : ℕ → ℕ → Bool → Bool → ℕ → ℕ → Bool
record_checked most least r w lo hi =
    let n = hi % 16777216 in
    not (r && w) && (eqb (lo % 256) 1 || (r && eqb lo 0)) && leb (16 * (lo / 65536) + n) most && ((r || w) || ltb least (n + 4))
    && (not (r || w) || eqb hi 0) && ltb hi size_limit

-- a live slot that begins at b, of any alignment, of the same numbers
unfoldable pub live_checked : (most least b lo hi : ℕ) → Bool
live_checked most least b lo hi =
    let k = lo % 256 in
    let d = lo / 65536 in
    let e = enlarged k hi in
    (leb 1 k && leb k 9) && leb (16 * d + hi) most && ltb e size_limit && (leb e most && ltb least (e + 4)) && eqb ((b + 16 * d) % align_of k) 0

-- a slot that begins at b: only a live one can have an alignment
unfoldable pub exact_checked : (most least b : ℕ) → Bool → Bool → (lo hi : ℕ) → Bool
exact_checked most least b r w lo hi = choose (r || w) (record_checked most least r w lo hi) (live_checked most least b lo hi)

-- the same of the slots of a group whose live blocks all have one alignment, by its code; another alignment is told as a fault
unfoldable pub alike_checked : (most least b code : ℕ) → Bool → Bool → (lo hi : ℕ) → Bool
alike_checked most least b k r w lo hi =
    let n = hi % 16777216 in
    let d = lo / 65536 in
    let e = n + (align_of k - 16) in
    not (r && w) && ((not (r || w) && eqb (lo % 256) k) || ((r || w) && eqb (lo % 256) 1) || (r && eqb lo 0)) && leb (16 * d + n) most
    && ((r || w) || (leb e most && ltb least (e + 4) && ltb e size_limit)) && (not (r || w) || eqb hi 0) && ltb hi size_limit
    && ((r || w) || eqb ((b + 16 * d) % align_of k) 0)
