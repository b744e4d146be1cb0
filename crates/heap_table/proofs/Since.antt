-- What the rule tells at each step of a call it tells by what the seat had when the call began.
use Rattle.std.proofs.Common.{◌≡◌, ℕ, ◌<◌, List, [], ◌∷◌, ◌++◌, Option, Some, None, sym, ap, subst, ◌∙◌, inl, inr, append-nil, append_assoc}
use Rattle.std.specs.Prelude.{IfSome, option_map}
use Rattle.core_machine.proofs.table_lemmas.Bits.{true_or_false}
use Rattle.heap_model.specs.Heap.{IsHeap}
use Rattle.heap_model.specs.calls.SeatState.{own_object}
use Rattle.heap_model.specs.declared.command.Command.{Command}
use Rattle.heap_model.specs.declared.command.Command.TheVariants as commands
use Rattle.heap_model.specs.declared.entry.Entry.{Entry}
use Rattle.heap_model.specs.declared.heap.Heap.{Heap}
use Rattle.core_machine.specs.declared.point.Access.{Access}
use Rattle.core_machine.specs.declared.point.Access.TheVariants as access
use Rattle.core_machine.specs.declared.point.Making.{Making}
use Rattle.core_machine.specs.declared.point.Making.TheVariants as making
use Rattle.core_machine.specs.declared.point.Point.{Point}
use Rattle.core_machine.specs.declared.point.Point.TheVariants as points
use Rattle.core_machine.specs.declared.point.Polling.{Polling}
use Rattle.core_machine.specs.declared.point.Polling.TheVariants as polling
use Rattle.core_machine.specs.declared.point.Leaving.{Leaving}
use Rattle.core_machine.specs.declared.point.Leaving.TheVariants as leaving
use Rattle.core_machine.specs.declared.seat.register.Register.{Register}
use Rattle.core_machine.specs.declared.step.Step.{Step}
use Rattle.core_machine.specs.Moves.{Move, move_at, next_move, bearing_move, is_last_birth, refusal_step}
use Rattle.core_machine.specs.calls.Kept.{Kept, kept_of, IsUntold}
use Rattle.core_machine.specs.calls.OwnStage.{StageAt, OwnStage}
use Rattle.core_machine.specs.seat.Fits.{Fits}
use Rattle.core_machine.specs.seat.Registers.{register_in, register_head}
use Rattle.core_machine.specs.seat.Seat.{Seat}
use Rattle.core_rule.specs.told.Found.{TellsWord, TellsMeta, IsMetaOf, IsAnsweredOrNext}
use Rattle.heap_table.specs.Begun.{next_seat}
use Rattle.heap_table.specs.Made.{Made, FoundIn, LeadsTo}
use Rattle.heap_table.proofs.MadeSteps.{stage_stands_after_step, found_in_first_step, found_in_longer_steps}

module _ (heap : Heap) (number : ℕ) (old : Seat) where
  -- a meta is told by registers and entries alone
  abbrev MetaBy : ℕ → ℕ → List Register → List Entry → Type 0
  MetaBy fragment found registers mine =
      (r : ℕ) → register_head (register_in registers r) ≡ Some fragment
      → IfSome (own_object (record { heap = heap; number = number; mine = mine; spare = 0 }) r) (λ object. IsMetaOf object found)

  meta_since : (seat : Seat) (told : List Entry) (fragment found : ℕ) → IsUntold (kept_of old) (kept_of seat) told → seat.mine ≡ old.mine ++ told → TellsMeta heap number seat fragment found
      → TellsMeta heap number old fragment found
  meta_since seat told fragment found untold mine tells =
      let same : seat.mine ≡ old.mine = mine ∙ ap (λ (l : List Entry). old.mine ++ l) untold.none_told ∙ append-nil old.mine in
      let at_mine : MetaBy fragment found seat.registers old.mine = subst (MetaBy fragment found seat.registers) same tells in
      subst (λ (l : List Register). MetaBy fragment found l old.mine) (ap (λ (k : Kept). k.registers) untold.kept_stays) at_mine

  phase_since : (seat : Seat) (found : ℕ) → seat.answered ≡ old.answered → IsAnsweredOrNext seat.answered found → IsAnsweredOrNext old.answered found
  phase_since seat found same tells = subst (λ (n : ℕ). IsAnsweredOrNext n found) same tells

  -- at a refusal the phase is loaded, or spine words are taken back
  refused_since : (seat : Seat) (command : Command) (words found : ℕ) → seat.answered ≡ old.answered → TellsWord heap number seat (refusal_step command words) found
      → TellsWord heap number old (refusal_step command words) found
  refused_since seat (commands.Array d cells) words found same tells = tells
  refused_since seat _ words found same tells = phase_since seat found same tells

  -- the word of the move goes on to tell so much
  abbrev GoesOn : Seat → ℕ → Move → Type 0
  GoesOn seat found move = TellsWord heap number seat move.step found → TellsWord heap number old move.step found

  born_since : (seat : Seat) (found : ℕ) → GoesOn seat found (bearing_move number seat)
  born_since seat found = elim (true_or_false (is_last_birth seat)) as (λ _. GoesOn seat found (bearing_move number seat)) [
    | inl last ↦ rw last (λ t. t)
    | inr more ↦ rw more (λ t. t)
  ]

  module _ (tells : Step → ℕ → Type 0) (seat : Seat) (told : List Entry) (found : ℕ) (mine : seat.mine ≡ old.mine ++ told) where
    abbrev PointGoesOn : Point → Type 0
    PointGoesOn point = StageAt tells heap number (kept_of old) seat told point → IfSome (move_at heap number seat point) (GoesOn seat found)

    making_since : (point : Making) → PointGoesOn (points.Making point)
    making_since making.Granting stage = λ t. t
    making_since making.Withdrawing stage = λ t. t
    making_since making.Gathering stage = λ t. t
    making_since making.GivingBack stage = λ t. t
    making_since making.Refusing stage = refused_since seat seat.command _ found (ap (λ (k : Kept). k.answered) stage.0)
    making_since making.Placing stage = λ t. t
    making_since making.Listing stage = λ t. t
    making_since making.Storing stage = λ t. t
    making_since making.Bearing stage = born_since seat found

    access_since : (point : Access) → PointGoesOn (points.Access point)
    access_since access.LoadingMeta stage = meta_since seat told seat.reached found stage.0 mine
    access_since access.Walking stage = meta_since seat told seat.reached found stage.0 mine
    access_since access.LoadingSpot stage = λ t. t
    access_since access.Indexing stage = λ t. t
    access_since access.Getting stage = λ t. t
    access_since access.Naming stage = λ t. t
    access_since access.LoadingOld stage = λ t. t
    access_since access.ShadingOld stage = λ t. t
    access_since access.ShadingNew stage = λ t. t
    access_since access.Swapping stage = λ t. t
    access_since (access.ShadingSide side) stage = λ t. t
    access_since access.Replacing stage = λ t. t

    polling_since : (point : Polling) → PointGoesOn (points.Polling point)
    polling_since polling.Asking stage = phase_since seat found (ap (λ (k : Kept). k.answered) stage.1.kept_stays)
    polling_since polling.Shading stage = λ t. t
    polling_since polling.Answering stage = λ t. t

    leaving_since : (point : Leaving) → PointGoesOn (points.Leaving point)
    leaving_since leaving.Emptying stage = λ t. t
    leaving_since leaving.Parting stage = λ t. t

    since_at : (point : Point) → PointGoesOn point
    since_at points.Idle stage = tt
    since_at (points.Making point) stage = making_since point stage
    since_at points.Local stage = phase_since seat found (ap (λ (k : Kept). k.answered) stage.kept_stays)
    since_at (points.Access point) stage = access_since point stage
    since_at (points.Polling point) stage = polling_since point stage
    since_at (points.Collecting point) stage = absurd stage
    since_at (points.Leaving point) stage = leaving_since point stage

  due_since : (seat : Seat) (found : ℕ) (move : Option Move) (step : Step) → option_map (λ (m : Move). m.step) move ≡ Some step → IfSome move (GoesOn seat found)
      → IfSome (option_map (λ (m : Move). m.step) move) (λ (s : Step). TellsWord heap number seat s found) → TellsWord heap number old step found
  due_since seat found None step due goes tells = cc
  due_since seat found (Some move) step due goes tells = let same : move.step ≡ step = cc in subst (λ (s : Step). TellsWord heap number old s found) same (goes tells)

  -- so a call that stands so stands after all these steps as it is to, where so much is told of each of them
  pub stage_stands_since : (tells : Step → ℕ → Type 0) (command : Command) → IsHeap heap → number < 16 → (made : List Made) (seat new : Seat) (told : List Entry) → Fits heap seat → LeadsTo heap number seat made new
      → ((step : Step) (word : ℕ) → FoundIn made step word → TellsWord heap number old step word → tells step word) → OwnStage tells heap number command old seat told
      → (more : List Entry) × OwnStage tells heap number command old new (told ++ more)
  stage_stands_since tells command limits few [] seat new told fits leads tell stage =
      ([], subst (λ (t : List Entry). OwnStage tells heap number command old new t) (sym (append-nil told)) (subst (λ (s : Seat). OwnStage tells heap number command old s told) (sym leads) stage))
  stage_stands_since tells command limits few (m ∷ made) seat new told fits leads tell stage =
      let word : TellsWord heap number old m.step m.found =
      due_since seat m.found (next_move heap number seat) m.step leads.0 (since_at tells seat told m.found stage.mine seat.point stage.stage) leads.1.tells.word in
      let on = stage_stands_after_step heap number seat limits few fits tells command old told m.step m.found leads.0 (tell m.step m.found (found_in_first_step made m) word) stage in
      let rest = stage_stands_since tells command limits few made (next_seat heap number seat m.found) new (told ++ on.0) leads.1.fits leads.2
      (λ step word there. tell step word (found_in_longer_steps made m step word there)) on.1 in
      (on.0 ++ rest.0, subst (λ (t : List Entry). OwnStage tells heap number command old new t) (append_assoc told on.0 rest.0) rest.1)
