-- The history of report: "Counted from the last set up that was done, with any calls since and the tables always lent as the last call
-- left them, live blocks equals accepted grants less accepted releases; requested bytes is the sum of the latest sizes of blocks
-- granted and not released; rows held plus rows free is the arena's rows."
use Rattle.std.specs.Prelude.{ℕ, suc, ◌+◌, ◌/◌, ◌≡◌, List, [], ◌∷◌, T, eqb, length, get_or}
use Rattle.mem.specs.Lists.{choose, sum}
use Rattle.model.specs.declared.Totals.{Totals}
use Rattle.model.specs.Answers.{Answer, done, listed}
use Rattle.model.specs.Plans.{Call, sets_up, grants, grants_aligned, releases, resizes_in_place, moves, measures, reports, grants_list}
use Rattle.model.specs.Calls.{Form, call_by, set_up_by, set_up_right_by}

-- a call over whatever arena bytes
pub record Asked : Type 0 where
  pub arena : List ℕ
  pub asks : Call

-- a block granted and not released: its handle and its latest size
pub record LedgerBlock : Type 0 where
  pub handle : ℕ
  pub size : ℕ

-- what the calls since the last set up that was done have come to: accepted grants and releases, and the blocks
pub record Ledger : Type 0 where
  pub granted : ℕ
  pub released : ℕ
  pub blocks : List LedgerBlock

abbrev pub opening : Ledger
opening = record { granted = 0; released = 0; blocks = [] }

-- the blocks without the one of a handle
abbrev pub without : ℕ → List LedgerBlock → List LedgerBlock
without h [] = []
without h (e ∷ es) = let rest : List LedgerBlock = e ∷ without h es in choose (eqb e.handle h) es rest

-- the ledger with one accepted grant more
abbrev pub entered_grant : Ledger → (handle n : ℕ) → Ledger
entered_grant l v n = record { granted = suc l.granted; released = l.released; blocks = record { handle = v; size = n } ∷ l.blocks }

-- 02 §3: "in 01's history each entry is a grant"
abbrev pub entered_each : Ledger → List ℕ → List ℕ → Ledger
entered_each l [] ns = l
entered_each l (v ∷ vs) [] = l
entered_each l (v ∷ vs) (n ∷ ns) = entered_each (entered_grant l v n) vs ns

-- the ledger with the block of a handle under another, and with another size: no grant and no release
abbrev pub entered_size : Ledger → (handle new n : ℕ) → Ledger
entered_size l h v n = record { granted = l.granted; released = l.released; blocks = record { handle = v; size = n } ∷ without h l.blocks }

-- the ledger after an accepted call that answered r
abbrev pub entered : Ledger → Call → Answer → Ledger
entered l sets_up r = opening
entered l (grants n) r = entered_grant l (get_or r.values 0 0) n
entered l (grants_aligned n b) r = entered_grant l (get_or r.values 0 0) n
entered l (releases h) r = record { granted = l.granted; released = suc l.released; blocks = without h l.blocks }
entered l (resizes_in_place h n) r = entered_size l h h n
entered l (moves h n) r = entered_size l h (get_or r.values 0 0) n
entered l (measures h) r = l
entered l reports r = l
entered l (grants_list total cap places ns) r = entered_each l r.lent ns

-- "a refused call" counts nothing
abbrev pub booked : Ledger → Call → Answer → Ledger
booked l c r = let e = entered l c r in choose (eqb r.number 0) e l

-- the ledger, and what is lent for the tables after calls; it is always lent as the last call left it
pub record Books (R : Type 0) : Type 0 where
  pub ledger : Ledger
  pub kept : R

-- the rules, of totals and the arena's length
pub record Balances (row : ℕ) (l : Ledger) (s : Totals) (n : ℕ) : Type 0 where
  pub blocks : s.blocks + l.released ≡ l.granted
  pub bytes : s.bytes ≡ sum (λ e. e.size) l.blocks
  pub rows : s.held + s.free ≡ n / row

module _ (row : ℕ) (F : Form) where
  unfoldable pub books_after : Ledger → F.Kept → List Asked → Books F.Kept
  books_after l t [] = record { ledger = l; kept = t }
  books_after l t (c ∷ cs) = let r = call_by row F c.arena t c.asks in books_after (booked l c.asks r.answer) r.kept cs

  -- what report answers over an arena b and the tables that calls left: it is done, and its values are totals that keep the rules
  pub record ReportTells (b : List ℕ) (k : Books F.Kept) (n : ℕ) : Type 0 where
    pub totals : Totals
    pub given : (call_by row F b k.kept reports).answer ≡ done (listed totals)
    pub counts : Balances row k.ledger totals n

  -- HISTORY: from an accepted set up, for every list of calls over any arena at each, and then a report over any arena of the pool's length
  abbrev pub History : Type 0
  History = (a : List ℕ) (t : F.Kept) (cs : List Asked) (b : List ℕ) → T (set_up_right_by row F a t) → length b ≡ length a
      → ReportTells b (books_after opening (set_up_by row F a t).kept cs) (length a)
