-- What a seat has found out follows each step: a find counts once, a comparison tells what it finds, and each load of the phase is seen.
use Rattle.std.specs.Prelude.{nat_lt, if◌then◌else◌}
use Rattle.std.proofs.Common.{◌≡◌, ℕ, suc, ◌+◌, ◌^◌, Bool, true, false, Option, Some, None, inl, inr, refl, sym, ap, subst, arith}
use Rattle.std.proofs.lemmas.Bool.Decides.{leb_tells}
use Rattle.core_rule.proofs.Terms.{Command, Heap, Reply, array_length_of, State, found_by, Move, last_birth_move, birth_move, refusal_step, refusal_looks, after_meta, after_get}
use Rattle.core_rule.proofs.Terms.{after_old_load, Seat, with_seen}
use Rattle.heap_model.specs.Behind.{behind_of}
use Rattle.heap_model.specs.declared.command.Command.TheVariants as commands
use Rattle.heap_model.specs.declared.behind.Behind.{Behind}
use Rattle.core_machine.specs.declared.seat.looks.Looks.{Looks}
use Rattle.core_machine.specs.declared.step.Step.{Step}
use Rattle.core_machine.specs.declared.step.Step.TheVariants.{PollLoad, Turning}
use Rattle.core_machine.specs.declared.step.TurningStep.TheVariants.{LookLoad}
use Rattle.core_machine.specs.seat.Handshake.{answer_next, polling_over}
use Rattle.core_machine.specs.seat.Looks.{forgotten, compared, found_behind}
use Rattle.core_rule.specs.looks.Finds.{CountsFind, FollowsSteps}
use Rattle.core_rule.proofs.entries.PhasesTold.{over_cases}
use Rattle.core_rule.proofs.looks.Ways.{StaysFound, stays_found_after_length}

-- the step loads neither the phase nor another seat's word
abbrev pub IsBlind : Option Step → Type 0
IsBlind (Some PollLoad) = ⊥
IsBlind (Some (Turning (LookLoad other))) = ⊥
IsBlind _ = Unit {0}

-- a comparison counts what it finds, once
compare_counts : (b : Bool) (found : Behind) (looks : Looks) → CountsFind b looks.waits (if b then found_behind found looks else record looks { behind = None }).waits
compare_counts true found looks = elim (leb_tells (suc (looks.waits + 1)) (2 ^ 64)) as (λ _. CountsFind true looks.waits (found_behind found looks).waits) [
  | inl more ↦ rw more.0 (λ few. refl, λ many. absurd (omega (arith, many, more.1)))
  | inr full ↦ rw full.0 (λ few. absurd (omega (arith, few, full.1)), λ many. refl)
]
compare_counts false found looks = refl

compare_behind : (b : Bool) (found : Behind) (looks : Looks) → (if b then found_behind found looks else record looks { behind = None }).behind ≡ (if b then Some found else None)
compare_behind true found looks = refl
compare_behind false found looks = refl

compare_seen : (b : Bool) (found : Behind) (looks : Looks) → (if b then found_behind found looks else record looks { behind = None }).seen ≡ looks.seen
compare_seen true found looks = refl
compare_seen false found looks = refl

module _ (heap : Heap) (state : State) where
  -- a step that looks at neither leaves count and phase
  pub looks_follow_blind_step : (step : Option Step) (old new : Looks) → IsBlind step → new.waits ≡ old.waits → new.seen ≡ old.seen → FollowsSteps heap state step old new
  looks_follow_blind_step (Some PollLoad) old new blind waits seen = absurd blind
  looks_follow_blind_step (Some (Turning (LookLoad other))) old new blind waits seen = absurd blind
  looks_follow_blind_step _ old new blind waits seen = record { counts = waits; behind = tt; seen = seen }

  -- a load of the phase is seen
  pub looks_follow_phase_load : (old new : Looks) → new.waits ≡ old.waits → new.seen ≡ found_by heap state PollLoad → FollowsSteps heap state (Some PollLoad) old new
  looks_follow_phase_load old new waits seen = record { counts = waits; behind = tt; seen = seen }

  -- another seat's word is compared with the phase that was loaded
  pub looks_follow_compare : (other p : ℕ) (looks : Looks) → p ≡ looks.seen
      → FollowsSteps heap state (Some (Turning (LookLoad other))) looks (compared other p (found_by heap state (Turning (LookLoad other))) looks)
  looks_follow_compare other p looks same =
      subst (λ q. FollowsSteps heap state (Some (Turning (LookLoad other))) looks (compared other q word looks)) (sym same)
      record { counts = compare_counts below found looks; behind = compare_behind below found looks; seen = compare_seen below found looks }
    where
      word : ℕ
      word = found_by heap state (Turning (LookLoad other))

      found : Behind
      found = behind_of other word looks.seen

      below : Bool
      below = nat_lt word looks.seen

  -- so it is after a move
  abbrev pub MoveFollows : Seat → Option Move → Type 0
  MoveFollows seat None = FollowsSteps heap state None seat.looks seat.looks
  MoveFollows seat (Some move) = FollowsSteps heap state (Some move.step) seat.looks (move.told (found_by heap state move.step)).looks

  module _ (number : ℕ) (seat : Seat) where
    pub looks_follow_way : (step : Step) (now : Seat) → IsBlind (Some step) → StaysFound seat now → FollowsSteps heap state (Some step) seat.looks now.looks
    looks_follow_way step now blind stays = looks_follow_blind_step (Some step) seat.looks now.looks blind (ap (λ (l : Looks). l.waits) stays.looks) (ap (λ (l : Looks). l.seen) stays.looks)

    pub looks_follow_refusal : (command : Command) (words : ℕ)
        → FollowsSteps heap state (Some (refusal_step command words)) seat.looks (forgotten (refusal_looks command (found_by heap state (refusal_step command words)) seat.looks))
    looks_follow_refusal (commands.Array d cells) words = looks_follow_blind_step _ _ _ tt refl refl
    looks_follow_refusal _ words = looks_follow_phase_load _ _ refl refl

    pub looks_follow_birth : (last : Bool) → MoveFollows seat (Some (if last then last_birth_move number seat else birth_move seat))
    looks_follow_birth true = looks_follow_blind_step _ _ _ tt refl refl
    looks_follow_birth false = looks_follow_blind_step _ _ _ tt refl refl

    pub looks_follow_meta : (step : Step) → IsBlind (Some step) → (found : ℕ) (reply : Option Reply) → FollowsSteps heap state (Some step) seat.looks (after_meta seat found reply).looks
    looks_follow_meta step blind found None = looks_follow_way step _ blind (stays_found_after_length seat found (array_length_of found))
    looks_follow_meta step blind found (Some reply) = looks_follow_blind_step (Some step) _ _ blind refl refl

    pub looks_follow_get : (step : Step) → IsBlind (Some step) → (found : ℕ) (head : Option ℕ) → FollowsSteps heap state (Some step) seat.looks (after_get seat found head).looks
    looks_follow_get step blind found None = looks_follow_blind_step (Some step) _ _ blind refl refl
    looks_follow_get step blind found (Some head) = looks_follow_blind_step (Some step) _ _ blind refl refl

    pub looks_follow_old_load : (step : Step) → IsBlind (Some step) → (found : ℕ) (head : Option ℕ) → FollowsSteps heap state (Some step) seat.looks (after_old_load (record seat { loaded = found }) head).looks
    looks_follow_old_load step blind found None = looks_follow_blind_step (Some step) _ _ blind refl refl
    looks_follow_old_load step blind found (Some head) = looks_follow_blind_step (Some step) _ _ blind refl refl

    pub looks_follow_poll : (b : Bool) (p : ℕ) → p ≡ found_by heap state PollLoad
        → FollowsSteps heap state (Some PollLoad) seat.looks (if b then polling_over seat.command (with_seen p seat) else answer_next (record (with_seen p seat) { asked = p })).looks
    looks_follow_poll true p is = over_cases (λ (s : Seat). FollowsSteps heap state (Some PollLoad) seat.looks s.looks) seat.command (with_seen p seat) (looks_follow_phase_load _ _ refl is) (looks_follow_phase_load _ _ refl is)
    looks_follow_poll false p is = looks_follow_phase_load _ _ refl is

    pub looks_follow_answer : (step : Step) → IsBlind (Some step) → (answered : ℕ) → FollowsSteps heap state (Some step) seat.looks (polling_over seat.command (record seat { answered = answered })).looks
    looks_follow_answer step blind answered =
        over_cases (λ (s : Seat). FollowsSteps heap state (Some step) seat.looks s.looks) seat.command (record seat { answered = answered }) (looks_follow_blind_step (Some step) _ _ blind refl refl)
        (looks_follow_blind_step (Some step) _ _ blind refl refl)
