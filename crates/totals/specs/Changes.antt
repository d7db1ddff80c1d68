-- How a change of one group moves the totals: t before it, s after it.
use Rattle.std.specs.Prelude.{ℕ, ◌+◌, ◌≤◌, ◌<◌, ◌≡◌, List}
use Rattle.mem.specs.Lists.{choose, any, sum}
use Rattle.mem.specs.Bytes.{bit}
use Rattle.model.specs.declared.Slot.{Slot}
use Rattle.model.specs.declared.Totals.{Totals}
use Rattle.model.specs.State.{is_ready, is_waiting}

-- "If its ready set is empty, all waiting slots become ready first": as many as that are
unfoldable pub refills : List Slot → ℕ
refills ss = choose (any is_ready ss) 0 (sum (λ x. bit (is_waiting x)) ss)

-- numbers that sums with a size or a count of slots or rows do not carry past the type
pub record Small (s : Totals) : Type 0 where
  pub blocks : s.blocks < 1099511627776
  pub bytes : s.bytes < 1099511627776
  pub held : s.held < 1099511627776
  pub free : s.free < 1099511627776
  pub ready : s.ready < 1099511627776
  pub waiting : s.waiting < 1099511627776

-- a group is made of so many free rows, with so many slots, all ready
pub record Makes (rows slots : ℕ) (t s : Totals) : Type 0 where
  pub blocks : s.blocks ≡ t.blocks
  pub bytes : s.bytes ≡ t.bytes
  pub held : s.held ≡ t.held + rows
  pub free : s.free + rows ≡ t.free
  pub ready : s.ready ≡ t.ready + slots
  pub waiting : s.waiting ≡ t.waiting

-- a ready slot is taken for n bytes, after so many waiting ones became ready
pub record Takes (n refilled : ℕ) (t s : Totals) : Type 0 where
  pub blocks : s.blocks ≡ t.blocks + 1
  pub bytes : s.bytes ≡ t.bytes + n
  pub held : s.held ≡ t.held
  pub free : s.free ≡ t.free
  pub ready : s.ready + 1 ≡ t.ready + refilled
  pub waiting : s.waiting + refilled ≡ t.waiting

-- the slot of a block of n bytes is given back, and waits
pub record Gives (n : ℕ) (t s : Totals) : Type 0 where
  pub blocks : s.blocks + 1 ≡ t.blocks
  pub bytes : s.bytes + n ≡ t.bytes
  pub held : s.held ≡ t.held
  pub free : s.free ≡ t.free
  pub ready : s.ready ≡ t.ready
  pub waiting : s.waiting ≡ t.waiting + 1

-- a group of so many rows goes with its last block, of n bytes; so many of its slots were ready, and so many waiting
pub record Drops (n rows r w : ℕ) (t s : Totals) : Type 0 where
  pub blocks : s.blocks + 1 ≡ t.blocks
  pub bytes : s.bytes + n ≡ t.bytes
  pub held : s.held + rows ≡ t.held
  pub free : s.free ≡ t.free + rows
  pub ready : s.ready + r ≡ t.ready
  pub waiting : s.waiting + w ≡ t.waiting

-- a block of so many bytes gets n
pub record Sizes (from n : ℕ) (t s : Totals) : Type 0 where
  pub blocks : s.blocks ≡ t.blocks
  pub bytes : s.bytes + from ≡ t.bytes + n
  pub fits : from ≤ t.bytes
  pub held : s.held ≡ t.held
  pub free : s.free ≡ t.free
  pub ready : s.ready ≡ t.ready
  pub waiting : s.waiting ≡ t.waiting
