-- The terms that proofs of this crate speak with: definitions of its own specs, and of the crates below.
pub use Rattle.heap_words.specs.Control.{blacken_bit_of, born_at, is_grey, marked_at, scanned_at, taken_at}
pub use Rattle.heap_words.specs.Loaded.{array_length_in, array_length_of, first_pointer, head_of, is_fixed, is_meta, length_of, link_of, payload_in, pointer_in, reference_of, stamp_of}
pub use Rattle.heap_words.specs.Newborn.{array_meta, array_word_of, link_after, record_meta, record_word_of, sentinel_word_of, spine_word}
pub use Rattle.heap_words.specs.Spot.{spot_in, spot_word}
pub use Rattle.heap_model.specs.Needs.{array_fragments, array_words, made_by, need_of, record_fragments, spine_need_of, words_by}
pub use Rattle.heap_model.specs.PhasePlan.{barriers, black_births, clearing, cycle_phases, marking, sweep}
pub use Rattle.heap_model.specs.account.Account.{IsLegal, KeepsSpace, KeepsSpaceAfter, MakesOfOwn, TakesAndGives, most_kept}
pub use Rattle.heap_model.specs.account.Cycles.{EndsCycle, IsReachOfBoth, all_bring, bound, brings, graph_of, spine_bound}
pub use Rattle.heap_model.specs.account.Effects.{effect_of, is_of, no_effect}
pub use Rattle.heap_model.specs.account.PhaseCounts.{AllAnswered, BeganSince, HasEnded, has_left, is_leave_of, last_answer, phase}
pub use Rattle.heap_model.specs.account.Space.{fragments_gained, fragments_lost, fragments_used, spent_of, taken_of, total, total_but, total_of, words_granted, words_returned, words_used}
pub use Rattle.heap_model.specs.account.Windows.{after_last, begins_cycle, begins_phase, is_reply_to, since_cycle, since_reply, up_to_cycle, up_to_last, up_to_reply}
pub use Rattle.heap_model.specs.declared.command.Command.{Command}
pub use Rattle.heap_model.specs.declared.entry.Entry.{Entry}
pub use Rattle.heap_model.specs.declared.entry.Entry.TheVariants.{Advance, Answers, Ends, Frees, Returns, Said, Swings}
pub use Rattle.heap_model.specs.declared.heap.Heap.{Heap}
pub use Rattle.heap_model.specs.declared.id.Id.{Id}
pub use Rattle.heap_model.specs.declared.id.Id.TheVariants.{Board, Made}
pub use Rattle.heap_model.specs.declared.id.Value.{Value}
pub use Rattle.heap_model.specs.declared.reply.Reply.{Reply}
pub use Rattle.heap_model.specs.graph.Changes.{add, count_set, leave, set_cell, set_stamp, with_cell, with_graph_seat, with_object_cell, with_register, write}
pub use Rattle.heap_model.specs.graph.Graph.{Graph, Node, fresh, opening, opening_graph_seat, unset}
pub use Rattle.heap_model.specs.graph.Growth.{after_entry, after_reply, graph_after}
pub use Rattle.heap_model.specs.graph.Legal.{Accepts, AcceptsAll, IsObjectLegal, IsPresent}
pub use Rattle.heap_model.specs.graph.Objects.{absent_graph_seat, cell_at, cell_or_refusal, graph_seat, node, or_no_field, register_value, target_node}
pub use Rattle.heap_model.specs.graph.Reach.{IsBefore, IsMade, IsReach, IsRegistered, IsRoot, Points, PointsTo, Reaches, from_cell, from_register}
pub use Rattle.heap_model.specs.graph.Sizes.{fragments_at, fragments_of, fragments_of_all, spine_words_at, spine_words_of, spine_words_of_all}
pub use Rattle.core_machine.specs.Moves.{Move, access_move, birth_move, claim_move, due_step, full_entry, give_back_move, grant_move, is_last_birth, last_birth_move, hand_run, listing_move, made_entry, move_at, next_move, placing_move, refusal_looks, refusal_move, refusal_step, seat_after_due, spine_full_entry, store_move, takes_some, withdraw_move}
pub use Rattle.core_machine.specs.collector.Collector.{Collector, after_advance, after_counted_look, after_last_look, after_look, first_work, has_answered_of, next_turn, opening_collector, turn_at}
pub use Rattle.core_machine.specs.collector.FitsTurns.{FitsCopying, HasCleared, HasLooked, IsBlackening, IsClearing, IsCopying, IsExamining, IsFreeing, IsIndexing, IsAddressing, IsMarking, IsPassing, IsReturning, IsScanning, IsShading, IsSpreading, IsSweeping}
pub use Rattle.core_machine.specs.declared.collector.stage.Stage.{Stage}
pub use Rattle.core_machine.specs.declared.point.Access.TheVariants.{Getting, Indexing, LoadingMeta, LoadingOld, Replacing, ShadingNew, ShadingOld, ShadingSide, Swapping, Walking}
pub use Rattle.core_machine.specs.declared.point.Side.{Side}
pub use Rattle.core_machine.specs.declared.point.Making.TheVariants.{Bearing, Gathering, Granting, Listing, Placing, Refusing, GivingBack, Withdrawing}
pub use Rattle.core_machine.specs.declared.point.Point.{Point}
pub use Rattle.core_machine.specs.declared.seat.register.Register.{Register}
pub use Rattle.core_machine.specs.declared.table.address.Address.TheVariants.{Budget, Control, Spine, Word}
pub use Rattle.core_machine.specs.machine.Machine.{Begins, BeginsInner, Can, Event, MayBegin, MayBeginInner, Run, State, Steps, Turns, after_begin, after_inner_begin, call_start, entries, entries_shown, found_by, history, seat_at, state_after, state_after_all, state_after_due, state_after_move, state_after_turn}
unfoldable pub use Rattle.core_machine.specs.machine.Sums.{sum_upto}
pub use Rattle.core_machine.specs.machine.Value.{IsMachine, MachineValue, log_of}
pub use Rattle.core_machine.specs.seat.Access.{access_start, after_get, after_index, after_length, after_link, after_meta, after_old, after_old_load, after_walk, at_access, at_payload, field_point_of, guard_point_of, has_barrier_of, meta_reply_of, new_point_of, part_of, row_of, side_of, side_register_of, way_point_of, with_field_place}
pub use Rattle.core_machine.specs.seat.Commands.{IsArrayCall, IsRecordCall, IsServed, MakesObject, expected_of, field_of, object_of, source_of, target_of}
pub use Rattle.core_machine.specs.seat.Fits.{AreFragments, Fits, FitsPoint, FitsWay, HandFits, HasArrayBody, HasBody, HasNoSpine, IsAtRest, IsLocal, IsSilent, MakesNext, SeatIsGathering, SeatIsRefusing, SeatIsWithdrawing, SpineIsListed}
pub use Rattle.core_machine.specs.seat.Making.{after_budget, after_claim, after_give_back, after_last_birth, after_listing, after_store, before_run, first_group_of, fragments_gathered, gather_next, last_claimed, last_group_of, last_run, list_point, newborn_word, newborn_word_of, next_group_of, next_name, next_object_id, refusal_point, run_of, settled_point, store_point}
pub use Rattle.core_machine.specs.seat.Registers.{heads_of, is_same_id, is_same_value, register_head, register_in, register_word, seen_in, value_of}
pub use Rattle.core_machine.specs.seat.Seat.{HasNumberLeft, Seat, absent_seat, after_call, call_over, need, no_spot, seat_after_reply, spine_need, with_entries, with_seen}
pub use Rattle.core_machine.specs.table.Decode.{id_of, id_of_owner, plain_of, plain_register, spine_words_in}
pub use Rattle.core_machine.specs.table.Fragments.{clear_in, in_group, is_clear, out_of_group, inside_group, outside_group, tally}
unfoldable pub use Rattle.core_machine.specs.table.Fragments.{clear_among, mask_of}
pub use Rattle.core_machine.specs.table.Layout.{FitsSpot, HasWord, InTable, index_of, spine_place, table_length}
unfoldable pub use Rattle.core_machine.specs.table.Layout.{at, put}
pub use Rattle.core_machine.specs.table.Operation.{address_of, all_taken, birth_bits_of, operation_of, word_after, word_without_taken}
pub use Rattle.core_rule.specs.Book.{Black, Book, Colour, Grey, White, fragment_at, id_at, object_head, object_number}
pub use Rattle.core_rule.specs.Rule.{HeapStands, MarksStand, NamesStand, OwnStands, Rule, SeatStands, SpaceStands, ToldStands}
pub use Rattle.core_rule.specs.budgets.Budgets.{BudgetsStand, SweepCounts, UsedStands, copying_words, dead_sum, dead_weight, granted, granted_at, kept_sum, kept_weight, nodes_in, of_seats, placed_at, placed_words, refused_at, returned_in_cycle, returning, unreturned, words_in_half, words_of_object}
pub use Rattle.core_rule.specs.colours.Colours.{BornColours, Coloured, HasBirthColour, HasColour, IsBetween, IsMarked, Marks, WordPointsTo, marked_bit, scanned_bit}
pub use Rattle.core_rule.specs.copies.Replicas.{AddressStands, BeginsArray, CallsObject, CopyInHand, CopyingStands, HasFoundArray, HasLoaded, IsLeftReplica, IsToCopy, ReadsSpine, VisitIsMarked, WhileLoaded, copy_in}
pub use Rattle.core_rule.specs.counts.Counts.{AreUsed, Awaits, CountsAgree, IsAwaitingName, OwnList}
pub use Rattle.core_rule.specs.cycle.Cycle.{HeapInCycle, SeatInCycle}
pub use Rattle.core_rule.specs.cycle.Flight.{DeletionBarrier, FieldStands, Flight, IsRootMarked, IsSideMarked, RootsStand, ShadedStands, WhileAccess, WhilePolling, objects_before}
pub use Rattle.core_rule.specs.cycle.Phases.{AnswerStands, AnswersAgree, Asks, CollectorAgrees, IsNear, PollingStands, answer_word}
pub use Rattle.core_rule.specs.gather.Gathers.{Began, GathersRight, IsAnswered, free_in, free_in_all, free_in_passed}
pub use Rattle.core_rule.specs.graph.Registers.{HoldsValue, IsAwaited, Registers, SeenStands, graph_stamps, stamps_at}
pub use Rattle.core_rule.specs.halves.Halves.{AwaitsCopy, AwaitsVisit, HalvesStand, IsBeforeNext, IsEarlyRange, IsLeaving, IsLeftBehind, IsToVisit, WhileCopying, half_at, is_advancing}
pub use Rattle.core_rule.specs.hand.Holding.{Holding, IsStored, fragments_in_hand}
pub use Rattle.core_rule.specs.marking.Marking.{AfterMarking, ComesAfter, IsFewCopied, IsFewWords, IsKeptFragment, IsSeen, IsSeenWhole, IsSpineOf, MarkingStands, MayMark, PassStands, ScanStands}
pub use Rattle.core_rule.specs.marking.Paths.{Edge, Guarded, IsGuarded, IsReached, IsWhite, from_grey, from_white}
pub use Rattle.core_rule.specs.marking.Sweep.{AreCleared, AreDead, AreFreed, DeadTell, HasMarked, IsSettled, SweepStands, TellsWords}
pub use Rattle.core_rule.specs.objects.Objects.{AreMade, FitsName, IsKept, IsSized, KeptObject, NamesKept, Objects, cells_at, field_word, is_cell, name_of, node_at, node_in, object_word, value_word}
unfoldable pub use Rattle.core_rule.specs.objects.Objects.{array_object_word, record_object_word}
pub use Rattle.core_rule.specs.owners.Owners.{Borne, Dead, Free, Gone, IsBoards, IsSeated, Kept, Open, Owner, OwnersStand, Placed, SpineOwner, Spined, Taken, bears_bit, born_bit, dead_bit, free_bit, holds_bit, one_at, owner_after, taken_bit}
pub use Rattle.core_rule.specs.runs.Laws.{AllIdle, EachAnswerIsMarked, EachBirthHasItsColour, EachDeadIsTold, EachEventKeeps, EachTurnComesTo, EachWaitIsBehind, EveryRunKeeps, FreeIsUnused, HappensAlone, HasMarkedRoots, IsAlone, IsBehindNow, IsDeadTold, IsToldBy, NotesNow, OneCallAtATime, StandsFor, WholeCallsPlay, WordsAreUsed}
pub use Rattle.core_rule.specs.spines.Spines.{HasPlace, IsWordOf, SpineInHand, SpinesStand, next_spine}
pub use Rattle.core_rule.specs.ways.Ways.{AccessStands, FieldAhead, Finds, LoadedKept, Locates, OldKept, OnWay, SetsOut, WayStands, field_part, row_in}
pub use Rattle.core_rule.specs.words.ControlWords.{Bits, IsBorn, IsTaken, control_of}
