-- The list call by the tests of the code, in their order, in any lawful form of the tables; and what a refused one leaves.
use Rattle.mem.proofs.Prelude.{◌∙◌, ◌≡◌, sym, ap, refl, true, false, ◌&&◌, Some, None, Option, List, [], ◌∷◌, map, ℕ, arith, T, leb, length, is_some, Err}
use Rattle.mem.specs.Lists.{choose}
use Rattle.mem.specs.Bytes.{put}
use Rattle.mem.proofs.Tests.{choose-true, choose-false, true-T}
use Rattle.mem.proofs.Laws.{put-nil}
use Rattle.model.specs.declared.Refusal.{Refusal}
use Rattle.model.specs.declared.Refusal.TheVariants.{NoRoom, TooLong, BadProposal}
use Rattle.model.specs.State.{Pool, Place, handle, well_formed}
use Rattle.model.specs.Answers.{refusal, reply_answer}
use Rattle.model.specs.Proposals.{entries, accepts, plannable}
use Rattle.model.specs.Plans.{Plan, grants_list, plan, refused, grant_list, grant_all_at, reserve_all, enframe, pool_after}
use Rattle.model.specs.Calls.{Form, Outcome, call_by, carried_by, applied, keeps, written}
use Rattle.model.proofs.Lists.{places-counted, accepts-small}
use Rattle.frames.specs.Grants.{granted}
use Rattle.model.proofs.Calls.{carried_whole}
use Rattle.frames.proofs.Calls.{Checked, call-sound, kept}

-- what a refused call tells
pub refused_parts : {R : Type 0} {c : Outcome R} {a : List ℕ} {t : R} (x : Refusal) (l : List ℕ) → c ≡ keeps (refusal x) a t
    → ((reply_answer (Err x)).number ≡ c.answer.number) × (((reply_answer (Err x)).values ≡ c.answer.values)
    × ((l ≡ put 0 c.answer.lent l) × ((a ≡ c.arena) × (t ≡ c.kept))))
refused_parts {R} x l e = (
  sym (ap (λ (r : Outcome R). r.answer.number) e),
  (
    sym (ap (λ (r : Outcome R). r.answer.values) e),
    (
      sym (put-nil 0 l) ∙ ap (λ (r : Outcome R). put 0 r.answer.lent l) (sym e),
      (sym (ap (λ (r : Outcome R). r.arena) e), sym (ap (λ (r : Outcome R). r.kept) e)),
    ),
  ),
)

module _ {row : ℕ} {F : Form} {a : List ℕ} {t : F.Kept} (r : Checked row F a t) (total cap places : ℕ) (ns : List ℕ) where
  abbrev P : Pool
  P = F.view t

  formed : T (well_formed P)
  formed = (r.laws.only (length a) t (true-T (F.sound (length a) t) r.sound)).0.formed

  abbrev does : Plan → Outcome F.Kept
  does p = carried_by row F a t p

  abbrev asked : Outcome F.Kept
  asked = call_by row F a t (grants_list total cap places ns)

  asks : asked ≡ does (grant_list row P total cap places ns)
  unfolding plan
  asks = call-sound r (grants_list total cap places ns) tt

  pub too_long : (plannable total cap && leb entries places) ≡ false → asked ≡ keeps (refusal TooLong) a t
  unfolding grant_list
  too_long e = asks ∙ ap does (choose-false (plannable total cap && leb entries places) _ (refused TooLong P) e)
      ∙ kept r TooLong

  module _ (h : (plannable total cap && leb entries places) ≡ true) where
    short : asked
        ≡ does (choose (accepts total cap ns) (grant_all_at row P (reserve_all row P ns))
        (refused BadProposal P))
    unfolding grant_list
    short = asks ∙ ap does (choose-true (plannable total cap && leb entries places) _ (refused TooLong P) h)

    pub bad_proposal : accepts total cap ns ≡ false → asked ≡ keeps (refusal BadProposal) a t
    bad_proposal e = short ∙ ap does (choose-false (accepts total cap ns) _ (refused BadProposal P) e) ∙ kept r BadProposal

    module _ (k : accepts total cap ns ≡ true) where
      tried : asked ≡ does (grant_all_at row P (reserve_all row P ns))
      tried = short ∙ ap does (choose-true (accepts total cap ns) _ (refused BadProposal P) k)

      pub no_room : is_some (reserve_all row P ns) ≡ false → asked ≡ keeps (refusal NoRoom) a t
      no_room e = go (reserve_all row P ns) refl e
        where
          go : (o : Option (List Place)) → reserve_all row P ns ≡ o → is_some o ≡ false → asked ≡ keeps (refusal NoRoom) a t
          go None f e = tried ∙ ap (λ o. does (grant_all_at row P o)) f ∙ kept r NoRoom
          go (Some qs) f e = let z : ◌≡◌ {A = ℕ} 0 1 = cc in absurd (omega arith)

      -- all of them granted
      pub record Whole : Type 0 where
        pub number : 0 ≡ asked.answer.number
        pub values : length ns ∷ [] ≡ asked.answer.values
        pub lent : map (handle row) (granted (reserve_all row P ns)) ≡ asked.answer.lent
        pub arena : written a (map (enframe row) (granted (reserve_all row P ns))) ≡ asked.arena
        pub kept : F.encode (pool_after P (granted (reserve_all row P ns))) ≡ asked.kept

      pub whole : is_some (reserve_all row P ns) ≡ true → Whole
      whole e = go (reserve_all row P ns) refl e
        where
          go : (o : Option (List Place)) → reserve_all row P ns ≡ o → is_some o ≡ true → Whole
          go None f e = let z : ◌≡◌ {A = ℕ} 0 1 = cc in absurd (omega arith)
          go (Some qs) f e =
              let d : asked ≡ applied F a (grant_all_at row P (Some qs)) =
              tried ∙ ap (λ o. does (grant_all_at row P o)) f ∙ carried_whole row F a t
              (grant_all_at row P (Some qs)) refl in
              let n : length (map (handle row) qs) ≡ length ns =
              places-counted row P ns qs formed (accepts-small total cap ns (true-T (accepts total cap ns) k)) f in
              record {
                number = sym (ap (λ (r : Outcome F.Kept). r.answer.number) d);
                values = ap (λ m. m ∷ []) (sym n) ∙ sym (ap (λ (r : Outcome F.Kept). r.answer.values) d);
                lent = ap (λ o. map (handle row) (granted o)) f ∙ sym (ap (λ (r : Outcome F.Kept). r.answer.lent) d);
                arena = ap (λ o. written a (map (enframe row) (granted o))) f ∙ sym (ap (λ (r : Outcome F.Kept). r.arena) d);
                kept = ap (λ o. F.encode (pool_after P (granted o))) f ∙ sym (ap (λ (r : Outcome F.Kept). r.kept) d);
              }
