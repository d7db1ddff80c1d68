-- A slot reserved in the tables, in any layout, step by step as the code goes: a group that can serve, or a new one at a run of free rows.
use Rattle.mem.proofs.Prelude.{◌∙◌, ◌≡◌, sym, ap, refl, ap₂, Some, None, Option, List, [], ◌∷◌, ◌++◌, ◌+◌, ℕ, ◌<◌, ◌≤◌, arith, length, replicate}
use Rattle.mem.specs.Bytes.{put}
use Rattle.classes.specs.Classes.{class_of, slots_of, rows_of}
use Rattle.classes.specs.Alignments.{enlarged}
use Rattle.classes.proofs.Laws.{slots_small}
use Rattle.model.specs.declared.Slot.TheVariants.{Fresh}
use Rattle.model.specs.State.{Pool, group, rows}
use Rattle.model.specs.Plans.{Site, open_from, run_from, site_or, site, reserve_in, reserve, grant_in}
use Rattle.model.specs.Tables.{Layout, row_at, encode_by, view_by, span_records_by}
use Rattle.model.proofs.Reserve.{Open, open_found, New, run_found_lem, Ground, ground}
use Rattle.rows.specs.Rows.{Lent, site_found, Offers}
use Rattle.rows.proofs.Rooms.{facts, few_rows, room_length}
use Rattle.rows.proofs.Spans.{made-encode}
use Rattle.frames.specs.Blocks.{site_room_by}

-- a site that is found is one
pub site_at : (row : ℕ) (o : Option Site) (i : ℕ) → site_found row o ≡ Some i → (s : Site) × (o ≡ Some s) × (rows row s.before ≡ i)
site_at row None i e = let z : ◌≡◌ {A = ℕ} 0 1 = cc in absurd (omega arith)
site_at row (Some s) i e = let q : rows row s.before ≡ i = cc in (s, refl, q)

pub site_nowhere : (row : ℕ) (o : Option Site) → site_found row o ≡ None → o ≡ None
site_nowhere row None e = refl
site_nowhere row (Some s) e = let z : ◌≡◌ {A = ℕ} 0 1 = cc in absurd (omega arith)

module _ {L : Layout} {row len : ℕ} {t : List ℕ} (r : Lent L row len t) (c : ℕ) where
  abbrev P : Pool
  P = view_by L row t

  -- the code's answer, and the room that it leaves, are those of the site
  pub record AtSite (f : (Option ℕ)) (u : List ℕ) : Type 0 where
    pub found : f ≡ site_found row (site row (view_by L row t) c)
    pub room : u ≡ site_room_by L row c t (site row (view_by L row t) c)

  -- a group that can serve
  pub site_open : (i : ℕ) → Some i ≡ site_found row (open_from [] c P) → AtSite (Some i) t
  unfolding site
  site_open i e =
      let (g, f, k) = site_at row (open_from [] c P) i (sym e) in
      let o : Open P c g = open_found [] P c g f in
      let s : site row P c ≡ Some g = ap (λ o. site_or o (run_from row [] c P)) f in
      record {
        found = e ∙ ap (site_found row) (f ∙ sym s);
        room = (facts r).form ∙ ap (encode_by L row) o.split ∙ ap (site_room_by L row c t) (sym s);
      }

  module _ (shut : None ≡ site_found row (open_from [] c P)) where
    pub site-run : site row P c ≡ run_from row [] c P
    unfolding site
    site-run = ap (λ o. site_or o (run_from row [] c P)) (site_nowhere row (open_from [] c P) (sym shut))

    -- no group, and no run of free rows
    pub site-none : None ≡ site_found row (run_from row [] c P) → AtSite None t
    site-none e =
        let s : site row P c ≡ None = site-run ∙ site_nowhere row (run_from row [] c P) (sym e) in
        record { found = ap (site_found row) (sym s); room = ap (site_room_by L row c t) (sym s) }

    -- a run of free rows, which are in the room, and the room with a new group there
    module _ (i : ℕ) (e : Some i ≡ site_found row (run_from row [] c P)) where
      pub run_inside : (i + rows_of row c ≤ 512) × (row_at (i + rows_of row c) ≤ length t)
      run_inside =
          let (g, f, k) = site_at row (run_from row [] c P) i (sym e) in
          let w : Ground row P c g = ground row P c g (facts r).formed (site-run ∙ f) in
          (omega (arith, k, w.long, few_rows r), omega (arith, k, w.long, room_length r))

      pub site-made : (u : List ℕ) → u ≡ put (row_at i) (span_records_by L row (group c (replicate (slots_of c) Fresh))) t → AtSite (Some i) u
      site-made u eu =
          let (g, f, k) = site_at row (run_from row [] c P) i (sym e) in
          let m : New row P c g = run_found_lem row [] P c g f in
          let s : site row P c ≡ Some g = site-run ∙ f in
          let w : Ground row P c g = ground row P c g (facts r).formed s in
          record {
            found = e ∙ ap (site_found row) (sym site-run);
            room =
                eu ∙ ap₂ (λ j l. put (row_at j) (span_records_by L row (group c l)) t) (sym k) (sym m.slots)
                ∙ ap (put (row_at (rows row g.before)) (span_records_by L row (group c g.slots))) ((facts r).form ∙ ap (encode_by L row) m.split)
                ∙ made-encode r.laws row r.pos g.before c g.slots g.after w.before (omega (arith, w.slots, slots_small c))
                ∙ ap (site_room_by L row c t) (sym s);
          }

  -- at a site a slot can be taken
  pub site_offers : (i : ℕ) (u : List ℕ) → c < 48 → length u ≡ length t → AtSite (Some i) u → (g : Site) × (site row P c ≡ Some g) × Offers L row u i c g
  site_offers i u h l a =
      let (g, f, k) = site_at row (site row P c) i (sym a.found) in
      let w : Ground row P c g = ground row P c g (facts r).formed f in
      let e : u ≡ encode_by L row (g.before ++ (group c g.slots ∷ g.after)) = a.room ∙ ap (site_room_by L row c t) f in (
        g,
        f,
        record {
          laws = r.laws;
          pos = r.pos;
          bytes = e;
          first = sym k;
          few = omega (arith, k, w.long, few_rows r);
          room = omega (arith, k, w.long, room_length r);
          class = h;
          before = w.before;
          slots = w.slots;
          sound = w.sound;
          spare = w.room;
        },
      )

  -- ---- what is reserved, by the site of the size's class

  module _ (v n : ℕ) (class : c ≡ class_of (enlarged v n)) where
    reserve-site : reserve row P v n ≡ reserve_in row c v n (site row P c)
    unfolding reserve
    reserve-site = ap (λ c. reserve_in row c v n (site row P c)) (sym class)

    pub reserved_nothing : (u : List ℕ) → AtSite None u → (reserve row P v n ≡ None) × (u ≡ t)
    reserved_nothing u a =
        let s : site row P c ≡ None = site_nowhere row (site row P c) (sym a.found) in
        (reserve-site ∙ ap (reserve_in row c v n) s, a.room ∙ ap (site_room_by L row c t) s)

    pub reserved_at : (g : Site) → site row P c ≡ Some g → reserve row P v n ≡ Some (grant_in row c v n g)
    reserved_at g s = reserve-site ∙ ap (reserve_in row c v n) s
