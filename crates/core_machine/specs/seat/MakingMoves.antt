-- The moves by which an object is made, a row per point.
use Rattle.std.specs.Prelude.{ℕ, ◌/◌, ◌%◌, ◌+◌, ◌^◌, ◌==◌, nat_lt, nat_le, Bool, false, if◌then◌else◌, List, [], ◌∷◌, length, slice_index_or}
use Rattle.std.specs.List.{list_all}
use Rattle.heap_model.specs.declared.command.Command.{Command}
use Rattle.heap_model.specs.declared.command.Command.TheVariants as commands
use Rattle.heap_model.specs.declared.heap.Heap.{Heap}
use Rattle.heap_model.specs.declared.entry.Entry.{Entry}
use Rattle.heap_model.specs.declared.entry.Entry.TheVariants.{Said, Takes, GivesBack}
use Rattle.heap_model.specs.declared.reply.Reply.TheVariants as replies
use Rattle.heap_model.specs.PhasePlan.{cycle_phases, black_births, clearing}
use Rattle.core_machine.specs.declared.point.Making.{Making}
use Rattle.core_machine.specs.declared.point.Making.TheVariants.{Granting, Withdrawing, Gathering, GivingBack, Refusing, Placing, Listing, Storing, Bearing}
use Rattle.core_machine.specs.declared.step.Step.TheVariants as steps
use Rattle.core_machine.specs.declared.step.MakingStep.{MakingStep}
use Rattle.core_machine.specs.declared.step.MakingStep.TheVariants.{Claim, GiveBack, NewbornStore, Birth, LastBirth}
use Rattle.core_machine.specs.declared.step.Step.{Step}
use Rattle.core_machine.specs.declared.step.SpineStep.TheVariants.{BudgetAdd, BudgetTakeBack, SpotClaim, SpineStore}
use Rattle.core_machine.specs.table.Fragments.{in_group, inside_group, clear_in, mask_of}
use Rattle.core_machine.specs.seat.Seat.{Seat, need, spine_need, after_call}
use Rattle.core_machine.specs.seat.Looks.{Looks, seen_phase}
use Rattle.core_machine.specs.seat.Making.{next_group_of, after_claim, after_budget, after_placing, after_listing, first_group_of, last_group_of, run_of, after_give_back, next_object_id, newborn_word_of, after_store, after_birth, after_last_birth}
use Rattle.core_machine.specs.Move.{Move, plain_move}

-- the spine words of an array are asked for
abbrev pub grant_move : Heap → ℕ → Seat → Move
grant_move heap number seat = plain_move (steps.Spine (BudgetAdd (spine_need seat))) (after_budget heap seat) (λ found. [])

-- what a refusal of spine words shows: what was needed, and what was found to be granted, in thirty-two bits
abbrev pub spine_full_entry : ℕ → Seat → Entry
spine_full_entry number seat = Said number seat.command (replies.SpineFull (spine_need seat) (seat.used % 2 ^ 32))

-- the spine words that were too many are taken back, and their refusal is told
abbrev pub withdraw_move : ℕ → Seat → Move
withdraw_move number seat =
    plain_move (steps.Spine (BudgetTakeBack (spine_need seat))) (λ found. after_call seat) (λ found. spine_full_entry number seat ∷ [])

-- the entry of a claim, where it got some
abbrev pub takes_some : ℕ → ℕ → List Entry
takes_some number count = if count == 0 then [] else Takes number count ∷ []

-- the next group's clear fragments are claimed
abbrev pub claim_move : Heap → ℕ → Seat → Move
claim_move heap number seat =
    plain_move (steps.Making (Claim (next_group_of heap seat))) (after_claim heap seat)
    (λ found. takes_some number (length (clear_in (next_group_of heap seat) found)))

-- the fragments of the hand's first group
abbrev pub inside_first_group : Seat → List ℕ
inside_first_group seat = inside_group (first_group_of seat.hand) seat.hand

-- the fragments of the hand's first group are given back
abbrev pub give_back_move : ℕ → Seat → Move
give_back_move number seat =
    plain_move (steps.Making (GiveBack (first_group_of seat.hand) (mask_of (inside_first_group seat)))) (λ found. after_give_back seat)
    (λ found. GivesBack number (length (inside_first_group seat)) ∷ [])

-- what a refusal shows: what was needed, and the reserve with what was claimed
abbrev pub full_entry : ℕ → Seat → Entry
full_entry number seat = Said number seat.command (replies.Full (need seat) (length seat.reserve + seat.given))

-- the step at which the refusal of a command is told: an array's spine words are taken back, else the phase is loaded
abbrev pub refusal_step : Command → ℕ → Step
refusal_step (commands.Array d cells) words = steps.Spine (BudgetTakeBack words)
refusal_step _ words = steps.PollLoad

-- what the seat has found out at that step: where the phase is loaded, this one
abbrev pub refusal_looks : Command → ℕ → Looks → Looks
refusal_looks (commands.Array d cells) found looks = looks
refusal_looks _ found looks = seen_phase found looks

-- the seat once the refusal was told
abbrev pub after_refusal : Seat → ℕ → Seat
after_refusal seat found = after_call (record seat { looks = refusal_looks seat.command found seat.looks })

-- the refusal is told
abbrev pub refusal_move : ℕ → Seat → Move
refusal_move number seat = plain_move (refusal_step seat.command (spine_need seat)) (after_refusal seat) (λ found. full_entry number seat ∷ [])

-- the array's spine gets its place
abbrev pub placing_move : Seat → Move
placing_move seat = plain_move (steps.Spine (SpotClaim (spine_need seat))) (after_placing seat) (λ found. [])

-- the store of the spine's next word, which names the next payload fragment
abbrev pub listing_step : Seat → Step
listing_step seat = steps.Spine (SpineStore seat.spine.half (seat.spine.offset + seat.listed) (slice_index_or seat.body (seat.listed + 1) 0))

-- the next word of the spine is stored
abbrev pub listing_move : Seat → Move
listing_move seat = plain_move (listing_step seat) (λ found. after_listing seat) (λ found. [])

-- the store of word `part` of fragment k of the object
abbrev pub word_store : ℕ → Seat → ℕ → ℕ → MakingStep
word_store number seat k part = NewbornStore (slice_index_or seat.body k 0) part (newborn_word_of number seat k part)

-- the store that is due: the words come fragment by fragment
abbrev pub due_store : ℕ → Seat → MakingStep
due_store number seat = word_store number seat (seat.stored / 4) (seat.stored % 4)

-- the next word of the new object is stored
abbrev pub store_move : ℕ → Seat → Move
store_move number seat = plain_move (steps.Making (due_store number seat)) (λ found. after_store seat) (λ found. [])

-- births are black from the answer to a cycle's phase of black births on, until that to its clearing
abbrev pub bears_black_of : Seat → Bool
bears_black_of seat =
    if nat_le black_births (seat.answered % cycle_phases) then nat_lt (seat.answered % cycle_phases) clearing else false

-- the hand's last fragments, as far as they are of one group
abbrev pub hand_run : Seat → List ℕ
hand_run seat = run_of seat.hand

-- all of the hand's fragments are of one group
abbrev pub is_last_birth : Seat → Bool
is_last_birth seat = list_all (in_group (last_group_of seat.hand)) seat.hand

-- the fragments of the hand's last group are born
abbrev pub birth_move : Seat → Move
birth_move seat =
    plain_move (steps.Making (Birth (last_group_of seat.hand) (mask_of (hand_run seat)) (bears_black_of seat)))
    (λ found. after_birth seat) (λ found. [])

-- the entry that the object is made
abbrev pub made_entry : ℕ → Seat → Entry
made_entry number seat = Said number seat.command (replies.Made (next_object_id number seat))

-- the last fragments are born, and the object is made
abbrev pub last_birth_move : ℕ → Seat → Move
last_birth_move number seat =
    plain_move (steps.Making (LastBirth (last_group_of seat.hand) (mask_of (hand_run seat)) (bears_black_of seat)))
    (λ found. after_last_birth number seat) (λ found. made_entry number seat ∷ [])

-- the birth that is due
abbrev pub bearing_move : ℕ → Seat → Move
bearing_move number seat = if is_last_birth seat then last_birth_move number seat else birth_move seat

-- the move at each point of making
abbrev pub making_move : Heap → ℕ → Seat → Making → Move
making_move heap number seat Granting = grant_move heap number seat
making_move heap number seat Withdrawing = withdraw_move number seat
making_move heap number seat Gathering = claim_move heap number seat
making_move heap number seat GivingBack = give_back_move number seat
making_move heap number seat Refusing = refusal_move number seat
making_move heap number seat Placing = placing_move seat
making_move heap number seat Listing = listing_move seat
making_move heap number seat Storing = store_move number seat
making_move heap number seat Bearing = bearing_move number seat
