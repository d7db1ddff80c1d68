-- `perform` meets its contract: an operation is a call, or a store of bytes of the trace.
use Rattle.mem.proofs.Prelude.{◌∙◌, ◌≡◌, sym, ap, refl, subst, Option, Some, None, List, [], ◌∷◌, ℕ, ◌-◌, ◌≤◌, length}
use Rattle.mem.specs.Lists.{choose}
use Rattle.mem.specs.Bytes.{part}
use Rattle.mem.proofs.Tests.{choose-true, choose-false}
use Rattle.classes.specs.Classes.{row_bytes}
use Rattle.model.specs.Answers.{Answer, done}
use Rattle.model.specs.Plans.{Call, grants, releases, resizes_in_place, moves, measures, reports}
use Rattle.model.specs.Calls.{KeptBytes, kept_in, EngineOutcome, left, call}
use Rattle.trace.specs.declared.Op.{Op}
use Rattle.trace.specs.Trace.{Within, operation_of}
use Rattle.trace.specs.Replay.{Line, Effect, effect, performed}
use Rattle.line_text.specs.Lines.{line_text}
use Rattle.player.proofs.Laws.{of_call, of_store}
use Rattle.player.proofs.Lines.{report-short}
use Rattle.player.proofs.perform.Goals as goal
use Rattle.player.proofs.perform.Goals.{After-store, In-Store, Start}

-- what an operation does, at the function's entry
abbrev does : (s : Start) → Op → Effect
does s o = performed row_bytes s.args.arena.now (kept_in s.args.room.now s.args.t.now) (operation_of s.args.trace.now o)

-- the bytes of a store lie in the trace
inside : (c : In-Store) → (Within (Op.Store c.in-Store.offset c.in-Store.from c.in-Store.to) (length c.args.trace.now))
inside c = subst (λ (o : Op). Within o (length c.args.trace.now)) c.in-Store.is c.requires

pub slice_bounds-store-count : goal.slice_bounds-store-count
slice_bounds-store-count c = (inside (goal.at.slice_bounds-store-count c).In-Store).0

pub slice_bounds-store-start : goal.slice_bounds-store-start
slice_bounds-store-start c = (inside (goal.at.slice_bounds-store-start c).In-Store).0

pub slice_bounds-store-end : goal.slice_bounds-store-end
slice_bounds-store-end c = (inside (goal.at.slice_bounds-store-end c).In-Store).1

-- a call made at the function's entry, for the operation that was read
asks : (s : Start) (o : Op) (c : Call) {x : Answer} {b : List ℕ} {k : KeptBytes} → s.args.op ≡ o
    → does s o ≡ effect (call row_bytes s.args.arena.now (kept_in s.args.room.now s.args.t.now) c)
    → left x b k ≡ call row_bytes s.args.arena.now (kept_in s.args.room.now s.args.t.now) c
    → record { tells = Some x; arena = b; kept = k } ≡ does s s.args.op
asks s o c e d r = of_call (ap (does s) e ∙ d) r

pub returns-in-Grant : goal.returns-in-Grant
unfolding performed operation_of
returns-in-Grant c =
    record { short = tt; does = asks (goal.at.returns-in-Grant c).Start (Op.Grant c.in-Grant.n) (grants c.in-Grant.n) c.in-Grant.is refl c.grant.ensures }

pub returns-in-Release : goal.returns-in-Release
unfolding performed operation_of
returns-in-Release c =
    record { short = tt; does = asks (goal.at.returns-in-Release c).Start (Op.Release c.in-Release.handle) (releases c.in-Release.handle) c.in-Release.is refl c.release.ensures }

pub returns-in-ResizeInPlace : goal.returns-in-ResizeInPlace
unfolding performed operation_of
returns-in-ResizeInPlace c =
    record { short = tt; does = asks (goal.at.returns-in-ResizeInPlace c).Start (Op.ResizeInPlace c.in-ResizeInPlace.handle c.in-ResizeInPlace.n) (resizes_in_place c.in-ResizeInPlace.handle c.in-ResizeInPlace.n) c.in-ResizeInPlace.is refl c.resize_in_place.ensures }

pub returns-in-Measure : goal.returns-in-Measure
unfolding performed operation_of
returns-in-Measure c =
    record { short = tt; does = asks (goal.at.returns-in-Measure c).Start (Op.Measure c.in-Measure.handle) (measures c.in-Measure.handle) c.in-Measure.is refl c.measure.ensures }

-- an effect by its parts
abbrev effect_of : Option Answer → List ℕ → KeptBytes → Effect
effect_of x b k = record { tells = x; arena = b; kept = k }

-- a store made of a part of the trace
stores : (g : After-store)
    → (effect_of (choose g.store.result (Some (done (0 ∷ []))) None) g.store.new.arena (kept_in g.args.room.now g.args.t.now) ≡ does (goal.at.After-store g).Start g.args.op)
unfolding operation_of
stores g =
    let bs = part g.in-Store.from (g.in-Store.to - g.in-Store.from) g.args.trace.now in
    of_store row_bytes (does (goal.at.After-store g).Start g.args.op) g.args.arena.now (kept_in g.args.room.now g.args.t.now) bs g.store.new.arena g.in-Store.offset
    g.store.result
    (ap (does (goal.at.After-store g).Start) g.in-Store.is) (g.store.ensures.value, g.store.ensures.arena_after)

pub returns-then-store : goal.returns-then-store
returns-then-store c =
    record { short = tt; does = ap (λ x. effect_of x c.store.new.arena (kept_in c.args.room.now c.args.t.now)) (sym (choose-true _ _ _ c.if-store.true)) ∙ stores (goal.at.returns-then-store c).After-store }

pub returns-else-store : goal.returns-else-store
returns-else-store c =
    record { short = tt; does = ap (λ x. effect_of x c.store.new.arena (kept_in c.args.room.now c.args.t.now)) (sym (choose-false _ _ _ c.if-store.false)) ∙ stores (goal.at.returns-else-store c).After-store }

pub returns-in-Report : goal.returns-in-Report
unfolding performed operation_of
returns-in-Report c =
    let e = c.report.ensures in record {
      short = subst (λ (r : EngineOutcome). length (line_text (Line.told r.answer)) ≤ 45) (sym e) (report-short c.args.arena.now
          (kept_in c.args.room.now c.args.t.now));
      does = asks (goal.at.returns-in-Report c).Start Op.Report reports c.in-Report.is refl e;
    }

pub returns-in-Move : goal.returns-in-Move
unfolding performed operation_of
returns-in-Move c =
    record { short = tt; does = asks (goal.at.returns-in-Move c).Start (Op.Move c.in-Move.handle c.in-Move.n) (moves c.in-Move.handle c.in-Move.n) c.in-Move.is refl c.move_block.ensures }
