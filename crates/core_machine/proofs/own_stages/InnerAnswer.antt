-- The steps of the answer of a collect, by the seat's own view.
use Rattle.std.proofs.Common.{◌≡◌, ◌≢◌, ℕ, ◌+◌, List, [], ◌∷◌, ◌++◌, length, refl, sym, ap, subst, inl, inr}
use Rattle.std.specs.Prelude.{nat_lt}
use Rattle.std.proofs.lemmas.Bool.Decides.{eqb_tells}
use Rattle.heap_model.specs.declared.calls.collect.Inner.{Inner}
use Rattle.heap_model.specs.declared.calls.collect.Inner.TheVariants as inners
use Rattle.core_machine.proofs.Terms.{Entry, Answers, Kept, kept_of, HasAsked, Step, Seat, with_seen, with_entries}
use Rattle.core_machine.specs.calls.InnerStage.{IsInnerOver, InnerStageAt}
use Rattle.core_machine.specs.declared.point.Point.TheVariants as points
use Rattle.core_machine.specs.declared.point.Polling.TheVariants as polling
use Rattle.core_machine.specs.seat.Handshake.{roots, answer_next, after_phase_load}
use Rattle.core_machine.specs.seat.HandshakeMoves.{poll_adds}
use Rattle.core_machine.proofs.own_stages.Leading.{holds_with_nothing_told, holds_of_untold}
use Rattle.core_machine.proofs.seat_lemmas.PollingOver.{polling_over_cases}
use Rattle.core_machine.proofs.table_lemmas.Bits.{true_or_false}
use Rattle.core_machine.proofs.own_stages.InnerLooks.{PointLeads}

module _ (tells : Step → ℕ → Type 0) where
  -- an answer is under way
  asked_stage : (number : ℕ) (inner : Inner) (before : Kept) (seat : Seat) (told : List Entry) → inner ≡ inners.Answer → HasAsked tells before (kept_of seat) seat.asked told
      → InnerStageAt tells number inner before (with_entries (answer_next seat) []) (told ++ []) (answer_next seat).point
  asked_stage number inner before seat told answers asked =
      let still = holds_with_nothing_told (HasAsked tells before (kept_of seat) seat.asked) told asked in
      elim (true_or_false (nat_lt seat.shaded (length (roots seat)))) as (λ _. InnerStageAt tells number inner before (with_entries (answer_next seat) []) (told ++ []) (answer_next seat).point) [
        | inl more ↦ rw more (answers, still)
        | inr all ↦ rw all (answers, still)
      ]

  -- the phase was loaded that is to be answered
  pub inner_leads_at_poll_asking : PointLeads tells (points.Polling polling.Asking)
  inner_leads_at_poll_asking heap number inner before seat told here collects stage found tell = record {
    kept = elim (eqb_tells found seat.answered) as (λ _. (after_phase_load seen found).mine ≡ seat.mine) [
      | inl known ↦ rw known.0 (polling_over_cases (λ s more. s.mine ≡ seat.mine) number seat.command seen found (λ ends. refl) (λ tells_. refl))
      | inr new ↦ rw new.0 refl
    ];
    same = elim (eqb_tells found seat.answered) as (λ _. (after_phase_load seen found).command ≡ seat.command) [
      | inl known ↦ rw known.0 (polling_over_cases (λ s more. s.command ≡ seat.command) number seat.command seen found (λ ends. refl) (λ tells_. refl))
      | inr new ↦ rw new.0 refl
    ];
    stage = elim (eqb_tells found seat.answered) as (λ _. InnerStageAt tells number inner before (with_entries (after_phase_load seen found) (poll_adds number seat found)) (told ++ poll_adds number seat found) (after_phase_load seen found).point) [
      | inl known ↦ rw known.0 (polling_over_cases (λ s more. InnerStageAt tells number inner before (with_entries s more) (told ++ more) s.point) number seat.command seen found
          (λ ends. subst (IsInnerOver tells number before (kept_of seen) (told ++ [])) (sym stage.0)
          (holds_of_untold (λ b t. IsInnerOver tells number b (kept_of seen) (t ++ []) inners.Answer) stage.1
          (record { phase = found; found = tell; kept_is = ap (λ (p : ℕ). record (kept_of seen) { answered = p }) (sym known.1); told_is = inl (known.1, refl) })))
          (λ tells_. absurd (tells_ collects)))
      | inr new ↦ rw new.0 (asked_stage number inner before (record seen { asked = found }) told stage.0
          (holds_of_untold (λ b t. HasAsked tells b (kept_of seen) found t) stage.1 (record { told_of = tell; kept_is = refl; none_told = refl })))
    ];
  }
    where
      seen : Seat
      seen = with_seen found seat

  -- a root was shaded
  pub inner_leads_at_shading : PointLeads tells (points.Polling polling.Shading)
  inner_leads_at_shading heap number inner before seat told here collects stage found tell =
      record { kept = refl; same = refl; stage = asked_stage number inner before (record seat { shaded = seat.shaded + 1 }) told stage.0 stage.1 }

  -- the answer was stored
  pub inner_leads_at_answering : PointLeads tells (points.Polling polling.Answering)
  inner_leads_at_answering heap number inner before seat told here collects stage found tell =
      let asked = stage.1 in
      let answer = Answers number seat.asked in
      let stored : Seat = record seat { answered = seat.asked } in
      let anew = subst (λ (n : ℕ). seat.asked ≢ n) (ap (λ (k : Kept). k.answered) asked.kept_is) here.answer.0.anew in
      record {
        kept = polling_over_cases (λ s more. s.mine ≡ seat.mine) number seat.command stored seat.asked (λ ends. refl) (λ tells_. refl);
        same = polling_over_cases (λ s more. s.command ≡ seat.command) number seat.command stored seat.asked (λ ends. refl) (λ tells_. refl);
        stage = polling_over_cases (λ s more. InnerStageAt tells number inner before (with_entries s (answer ∷ more)) (told ++ answer ∷ more) s.point) number seat.command stored seat.asked
            (λ ends. subst (IsInnerOver tells number before (kept_of stored) (told ++ answer ∷ [])) (sym stage.0) (record {
              phase = seat.asked;
              found = asked.told_of;
              kept_is = ap (λ (k : Kept). record k { answered = seat.asked }) asked.kept_is;
              told_is = inr (anew, ap (λ (t : List Entry). t ++ answer ∷ []) asked.none_told);
            }))
            (λ tells_. absurd (tells_ collects));
      }
