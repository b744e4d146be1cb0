-- After a quiet step a party is the same whatever word it found.
use Rattle.std.proofs.Common.{◌≡◌, ℕ, Bool, true, false, cond, Option, Some, None, refl, sym, ap, ◌∙◌}
use Rattle.std.specs.Prelude.{IfSome, option_map}
use Rattle.heap_model.specs.declared.command.Command.{Command}
use Rattle.heap_model.specs.declared.command.Command.TheVariants as commands
use Rattle.heap_model.specs.declared.heap.Heap.{Heap}
use Rattle.core_machine.specs.collector.Collector.{Collector, TurnMove, next_turn, turn_at, collector_after}
use Rattle.core_machine.specs.declared.collector.stage.Copying.TheVariants as copying
use Rattle.core_machine.specs.declared.collector.stage.Stage.{Stage}
use Rattle.core_machine.specs.declared.collector.stage.Stage.TheVariants as stages
use Rattle.core_machine.specs.declared.point.Point.{Point}
use Rattle.core_machine.specs.declared.point.Point.TheVariants as points
use Rattle.core_machine.specs.declared.point.Making.TheVariants.{Granting, Withdrawing, Gathering, GivingBack, Refusing, Placing, Listing, Storing, Bearing}
use Rattle.core_machine.specs.declared.point.Access.TheVariants.{LoadingMeta, Walking, LoadingSpot, Indexing, Getting, Naming, LoadingOld, ShadingOld, ShadingNew, Swapping, ShadingSide, Replacing}
use Rattle.core_machine.specs.declared.point.Polling.TheVariants as polling
use Rattle.core_machine.specs.declared.point.Collecting.TheVariants as collecting
use Rattle.core_machine.specs.declared.point.Leaving.TheVariants.{Emptying, Parting}
use Rattle.core_machine.specs.declared.step.Step.{Step}
use Rattle.core_machine.specs.declared.step.Step.TheVariants.{Making, PollLoad, Access, Spine, Handshake, Copying as Copies, Turning}
use Rattle.core_machine.specs.declared.step.MakingStep.TheVariants.{Claim, GiveBack, NewbornStore, Birth, LastBirth}
use Rattle.core_machine.specs.declared.step.AccessStep.TheVariants.{WalkLoad, NameLoad, GetLoad, OldLoad, Shade, Swap, CompareSwap}
use Rattle.core_machine.specs.declared.step.SpineStep.TheVariants.{BudgetAdd, BudgetTakeBack, SpotClaim, SpineStore, AddressLoad, WordLoad}
use Rattle.core_machine.specs.declared.step.CopyingStep.TheVariants.{FlipStore, CopyClaim, CopyLoad, CopyStore, SwingStore, BudgetReturn}
use Rattle.core_machine.specs.declared.step.TurningStep.TheVariants as turning
use Rattle.core_machine.specs.declared.step.operation.Operation.TheVariants.{Store}
use Rattle.core_machine.specs.Moves.{Move, move_at, next_move, due_step, seat_after, seat_after_due, refusal_step, refusal_move, is_last_birth, last_birth_move, birth_move}
use Rattle.core_machine.specs.seat.Seat.{Seat, spine_need}
use Rattle.core_machine.specs.table.Operation.{operation_of}
use Rattle.heap_table.specs.Begun.{next_seat}
use Rattle.heap_table.specs.Quiet.{is_quiet}
use Rattle.heap_table.specs.Told.{next_collector}

-- each store is quiet
pub store_is_quiet : (step : Step) (word : ℕ) → operation_of step ≡ Store word → is_quiet step ≡ true
store_is_quiet (Making (Claim group)) word stores = cc
store_is_quiet (Making (GiveBack group bits)) word stores = refl
store_is_quiet (Making (NewbornStore fragment part stored)) word stores = refl
store_is_quiet (Making (Birth group bits black)) word stores = refl
store_is_quiet (Making (LastBirth group bits black)) word stores = refl
store_is_quiet PollLoad word stores = cc
store_is_quiet (Access (WalkLoad fragment)) word stores = cc
store_is_quiet (Access (NameLoad head)) word stores = cc
store_is_quiet (Access (GetLoad fragment part)) word stores = cc
store_is_quiet (Access (OldLoad fragment part)) word stores = cc
store_is_quiet (Access (Shade fragment)) word stores = refl
store_is_quiet (Access (Swap fragment part swapped)) word stores = cc
store_is_quiet (Access (CompareSwap fragment part old new)) word stores = cc
store_is_quiet (Spine (BudgetAdd words)) word stores = cc
store_is_quiet (Spine (BudgetTakeBack words)) word stores = refl
store_is_quiet (Spine (SpotClaim words)) word stores = cc
store_is_quiet (Spine (SpineStore half offset fragment)) word stores = refl
store_is_quiet (Spine (AddressLoad sentinel)) word stores = cc
store_is_quiet (Spine (WordLoad half offset)) word stores = cc
store_is_quiet (Handshake step) word stores = refl
store_is_quiet (Copies (FlipStore half)) word stores = refl
store_is_quiet (Copies (CopyClaim words)) word stores = cc
store_is_quiet (Copies (CopyLoad half offset)) word stores = cc
store_is_quiet (Copies (CopyStore half offset stored)) word stores = refl
store_is_quiet (Copies (SwingStore sentinel spot)) word stores = refl
store_is_quiet (Copies (BudgetReturn words)) word stores = refl
store_is_quiet (Turning (turning.LookLoad seat)) word stores = cc
store_is_quiet (Turning (turning.AdvanceStore phase)) word stores = refl
store_is_quiet (Turning (turning.GroupLoad group)) word stores = cc
store_is_quiet (Turning (turning.ScanLoad fragment part)) word stores = cc
store_is_quiet (Turning (turning.MarkShade fragment)) word stores = refl
store_is_quiet (Turning (turning.Blacken fragment)) word stores = refl
store_is_quiet (Turning (turning.MetaLoad fragment)) word stores = cc
store_is_quiet (Turning (turning.Free group bits)) word stores = refl
store_is_quiet (Turning (turning.Clear group)) word stores = cc
store_is_quiet (Turning (turning.EndAdvance phase kept)) word stores = refl

-- where the move's step is quiet, the seat after it is the same
abbrev IsSame : ℕ → ℕ → Move → Type 0
IsSame n m move = is_quiet move.step ≡ true → seat_after move n ≡ seat_after move m

bearing : (number : ℕ) (seat : Seat) (n m : ℕ) (last : Bool) → IsSame n m (cond last (last_birth_move number seat) (birth_move seat))
bearing number seat n m true = λ e. refl
bearing number seat n m false = λ e. refl

-- a refusal that loads the phase isn't quiet
refusing : (number : ℕ) (seat : Seat) (n m : ℕ) (command : Command) → seat.command ≡ command → IsSame n m (refusal_move number seat)
refusing number seat n m (commands.Array d cells) is = λ e. rw is refl
refusing number seat n m (commands.New d fields) is = λ e. let loads = sym (ap (λ (c : Command). is_quiet (refusal_step c (spine_need seat))) is) ∙ e in cc
refusing number seat n m (commands.Get d r i) is = λ e. let loads = sym (ap (λ (c : Command). is_quiet (refusal_step c (spine_need seat))) is) ∙ e in cc
refusing number seat n m (commands.Set r i v) is = λ e. let loads = sym (ap (λ (c : Command). is_quiet (refusal_step c (spine_need seat))) is) ∙ e in cc
refusing number seat n m (commands.Cas r i a v) is = λ e. let loads = sym (ap (λ (c : Command). is_quiet (refusal_step c (spine_need seat))) is) ∙ e in cc
refusing number seat n m (commands.Num d k) is = λ e. let loads = sym (ap (λ (c : Command). is_quiet (refusal_step c (spine_need seat))) is) ∙ e in cc
refusing number seat n m (commands.Nil d) is = λ e. let loads = sym (ap (λ (c : Command). is_quiet (refusal_step c (spine_need seat))) is) ∙ e in cc
refusing number seat n m (commands.Copy d r) is = λ e. let loads = sym (ap (λ (c : Command). is_quiet (refusal_step c (spine_need seat))) is) ∙ e in cc
refusing number seat n m (commands.Same a b) is = λ e. let loads = sym (ap (λ (c : Command). is_quiet (refusal_step c (spine_need seat))) is) ∙ e in cc
refusing number seat n m (commands.Len r) is = λ e. let loads = sym (ap (λ (c : Command). is_quiet (refusal_step c (spine_need seat))) is) ∙ e in cc
refusing number seat n m commands.Poll is = λ e. let loads = sym (ap (λ (c : Command). is_quiet (refusal_step c (spine_need seat))) is) ∙ e in cc
refusing number seat n m commands.Collect is = λ e. let loads = sym (ap (λ (c : Command). is_quiet (refusal_step c (spine_need seat))) is) ∙ e in cc
refusing number seat n m commands.Leave is = λ e. let loads = sym (ap (λ (c : Command). is_quiet (refusal_step c (spine_need seat))) is) ∙ e in cc

same_at : (heap : Heap) (number : ℕ) (seat : Seat) (n m : ℕ) (point : Point) → IfSome (move_at heap number seat point) (IsSame n m)
same_at heap number seat n m points.Idle = tt
same_at heap number seat n m (points.Making Granting) = λ e. cc
same_at heap number seat n m (points.Making Withdrawing) = λ e. refl
same_at heap number seat n m (points.Making Gathering) = λ e. cc
same_at heap number seat n m (points.Making GivingBack) = λ e. refl
same_at heap number seat n m (points.Making Refusing) = refusing number seat n m seat.command refl
same_at heap number seat n m (points.Making Placing) = λ e. cc
same_at heap number seat n m (points.Making Listing) = λ e. refl
same_at heap number seat n m (points.Making Storing) = λ e. refl
same_at heap number seat n m (points.Making Bearing) = bearing number seat n m (is_last_birth seat)
same_at heap number seat n m points.Local = λ e. cc
same_at heap number seat n m (points.Access LoadingMeta) = λ e. cc
same_at heap number seat n m (points.Access Walking) = λ e. cc
same_at heap number seat n m (points.Access LoadingSpot) = λ e. cc
same_at heap number seat n m (points.Access Indexing) = λ e. cc
same_at heap number seat n m (points.Access Getting) = λ e. cc
same_at heap number seat n m (points.Access Naming) = λ e. cc
same_at heap number seat n m (points.Access LoadingOld) = λ e. cc
same_at heap number seat n m (points.Access ShadingOld) = λ e. refl
same_at heap number seat n m (points.Access ShadingNew) = λ e. refl
same_at heap number seat n m (points.Access Swapping) = λ e. cc
same_at heap number seat n m (points.Access (ShadingSide side)) = λ e. refl
same_at heap number seat n m (points.Access Replacing) = λ e. cc
same_at heap number seat n m (points.Polling polling.Asking) = λ e. cc
same_at heap number seat n m (points.Polling polling.Shading) = λ e. refl
same_at heap number seat n m (points.Polling polling.Answering) = λ e. refl
same_at heap number seat n m (points.Collecting collecting.Looking) = λ e. cc
same_at heap number seat n m (points.Collecting (collecting.Asking other)) = λ e. cc
same_at heap number seat n m (points.Collecting (collecting.Comparing other phase)) = λ e. cc
same_at heap number seat n m (points.Collecting (collecting.Noting reply)) = λ e. cc
same_at heap number seat n m (points.Leaving Emptying) = λ e. refl
same_at heap number seat n m (points.Leaving Parting) = λ e. refl

same_due : (seat : Seat) (move : Option Move) (step : Step) (n m : ℕ) → option_map (λ (a : Move). a.step) move ≡ Some step → is_quiet step ≡ true → IfSome move (IsSame n m)
    → seat_after_due seat move n ≡ seat_after_due seat move m
same_due seat None step n m due quiet same = refl
same_due seat (Some move) step n m due quiet same = let is : move.step ≡ step = cc in same (ap is_quiet is ∙ quiet)

-- after a quiet step the seat is the same whatever word was found
pub quiet_seat_ignores_word : (heap : Heap) (number : ℕ) (seat : Seat) (step : Step) (n m : ℕ) → due_step heap number seat ≡ Some step → is_quiet step ≡ true
    → next_seat heap number seat n ≡ next_seat heap number seat m
quiet_seat_ignores_word heap number seat step n m due quiet = same_due seat (next_move heap number seat) step n m due quiet (same_at heap number seat n m seat.point)

-- where the turn's step is quiet, the collector after it is the same
abbrev TurnsSame : ℕ → ℕ → TurnMove → Type 0
TurnsSame n m turn = is_quiet turn.step ≡ true → collector_after turn n ≡ collector_after turn m

turned_same : (heap : Heap) (collector : Collector) (n m : ℕ) (stage : Stage) → TurnsSame n m (turn_at heap collector stage)
turned_same heap collector n m stages.Looking = λ e. cc
turned_same heap collector n m (stages.Passing group found) = λ e. cc
turned_same heap collector n m (stages.Scanning scan) = λ e. cc
turned_same heap collector n m (stages.Shading scan target next) = λ e. refl
turned_same heap collector n m (stages.Addressing scan words) = λ e. cc
turned_same heap collector n m (stages.Indexing s) = λ e. cc
turned_same heap collector n m (stages.Spreading s target) = λ e. refl
turned_same heap collector n m (stages.Blackening scan) = λ e. refl
turned_same heap collector n m stages.Flipping = λ e. refl
turned_same heap collector n m (stages.Copying (copying.Visiting group)) = λ e. cc
turned_same heap collector n m (stages.Copying (copying.Inspecting visit)) = λ e. cc
turned_same heap collector n m (stages.Copying (copying.Naming visit words)) = λ e. cc
turned_same heap collector n m (stages.Copying (copying.Locating array)) = λ e. cc
turned_same heap collector n m (stages.Copying (copying.Claiming array from)) = λ e. cc
turned_same heap collector n m (stages.Copying (copying.Loading copy)) = λ e. cc
turned_same heap collector n m (stages.Copying (copying.Storing copy stored)) = λ e. refl
turned_same heap collector n m (stages.Copying (copying.Swinging copy)) = λ e. refl
turned_same heap collector n m (stages.Sweeping group) = λ e. cc
turned_same heap collector n m (stages.Examining group dead position words) = λ e. cc
turned_same heap collector n m (stages.Freeing group dead words) = λ e. refl
turned_same heap collector n m (stages.Returning group words) = λ e. refl
turned_same heap collector n m (stages.Clearing group kept) = λ e. cc
turned_same heap collector n m (stages.Ending kept) = λ e. refl
turned_same heap collector n m stages.Advancing = λ e. refl

-- after a quiet turn the collector is the same whatever word was found
pub quiet_collector_ignores_word : (heap : Heap) (collector : Collector) (n m : ℕ) → is_quiet (next_turn heap collector).step ≡ true
    → next_collector heap collector n ≡ next_collector heap collector m
quiet_collector_ignores_word heap collector n m quiet = turned_same heap collector n m collector.stage quiet

-- and its answer is
answered_same : (heap : Heap) (collector : Collector) (n m : ℕ) (stage : Stage) → is_quiet (turn_at heap collector stage).step ≡ true
    → (turn_at heap collector stage).answer n ≡ (turn_at heap collector stage).answer m
answered_same heap collector n m stages.Looking e = cc
answered_same heap collector n m _ e = refl

pub quiet_answer_ignores_word : (heap : Heap) (collector : Collector) (n m : ℕ) → is_quiet (next_turn heap collector).step ≡ true
    → (next_turn heap collector).answer n ≡ (next_turn heap collector).answer m
quiet_answer_ignores_word heap collector n m quiet = answered_same heap collector n m collector.stage quiet
