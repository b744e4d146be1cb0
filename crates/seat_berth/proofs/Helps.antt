-- What help at a berth comes to, by its steps.
use Rattle.std.proofs.Common.{◌≡◌, ℕ, [], ◌∷◌, Option, Some, None, MatchOption, refl, sym, ap, subst, ◌∙◌}
use Rattle.heap_table.specs.SeatHeld.{SeatHeld}
use Rattle.seat_berth.specs.Helped.{AnswersBy, Stays, HadSeat, Helps, helped_of}
use Rattle.seat_berth.specs.Known.{HelperKnown, Handed, Taken}
use Rattle.seat_berth.specs.OnlyAnswered.{OnlyAnswered}
use Rattle.seat_berth.specs.Owned.{IsTakenWith, MayGive}
use Rattle.seat_berth.specs.Parties.{HelperSeen}
use Rattle.seat_berth.specs.Plays.{Party}
use Rattle.seat_berth.specs.Resting.{IsOf}
use Rattle.seat_berth.specs.Views.{helper_view, helper_by, taken_by, given_by}
use Rattle.seat_berth.proofs.Answered.{only_joined}

module _ {home : SeatHeld} {old : HelperKnown} {me : Party} {took : SeatHeld} (taking : IsTakenWith home old me took) where
  -- what the helper knows once it has taken the seat
  known_taken : helper_by me.0 ≡ taken_by old (record { parked = taking.parked; took = took })
  known_taken = ap (λ (m : Party). helper_by m.0) taking.after_is

  -- the helper may give the seat back where nothing but answers was done with it
  pub may_give : (gave : SeatHeld) → OnlyAnswered took gave → MayGive me gave
  may_give gave only = record {
    knows = taking.after_is ∙ ap (λ (k : HelperKnown). (helper_view k, (0, None) ∷ [])) (sym known_taken);
    taken = record { parked = taking.parked; took = took };
    has = ap (λ (k : HelperKnown). k.has) known_taken;
    answered = only_joined taking.parked took gave taking.answered only;
  }

  -- the seat that was taken is of the berth's home
  took_of : IsOf home took
  took_of = record {
    table_is = taking.answered.table_stays ∙ taking.of.table_is;
    heap_is = taking.answered.heap_stays ∙ taking.of.heap_is;
    number_is = taking.answered.number_stays ∙ taking.of.number_is;
  }

  -- what a helper knows that has given this back, and had nothing before
  known_given : (gave : SeatHeld) → old.has ≡ None → given_by (helper_by me.0) (Some gave) ≡ record old { words = 1 ∷ old.words; had = record { took = took; gave = gave } ∷ old.had }
  known_given gave free = ap (λ (k : HelperKnown). given_by k (Some gave)) known_taken
      ∙ ap (λ (has : Option Taken). record { has = has; words = 1 ∷ old.words; had = record { took = took; gave = gave } ∷ old.had }) (sym free)

  had : (seen new : HelperSeen) → seen.home ≡ home → seen.known ≡ old → old.has ≡ None → (gave : SeatHeld) → new.known ≡ given_by (helper_by me.0) (Some gave)
      → (Does : SeatHeld → SeatHeld → Type 0) → Does took gave → HadSeat seen new Does
  had seen new at_home knew free gave knows Does does = record {
    took = took;
    gave = gave;
    of = subst (λ (h : SeatHeld). IsOf h took) (sym at_home) took_of;
    does = does;
    known_is = knows ∙ known_given gave free ∙ ap (λ (k : HelperKnown). record k { words = 1 ∷ k.words; had = record { took = took; gave = gave } ∷ k.had }) (sym knew);
  }

  -- so help comes to this, by what the seat has answered
  pub helps_by : (seen new : HelperSeen) → seen.home ≡ home → seen.known ≡ old → old.has ≡ None → (gave : SeatHeld) → new.known ≡ given_by (helper_by me.0) (Some gave)
      → (answered : Option ℕ) → MatchOption answered (Stays took gave) (λ phase. AnswersBy phase took gave) → Helps seen new (helped_of answered)
  helps_by seen new at_home knew free gave knows (Some phase) does = had seen new at_home knew free gave knows (AnswersBy phase) does
  helps_by seen new at_home knew free gave knows None does = had seen new at_home knew free gave knows Stays does
