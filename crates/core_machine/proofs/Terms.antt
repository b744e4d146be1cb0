-- The terms that proofs of this crate speak with: definitions of its own specs, and of the crates below.
pub use Rattle.heap_words.specs.Loaded.{array_length, array_length_in, array_length_of, first_pointer, head_of, is_meta, length_of, link_of, payload_in, pointer_in, reference_of, stamp_of}
pub use Rattle.heap_model.specs.Heap.{IsHeap}
pub use Rattle.heap_model.specs.Needs.{array_words, made_by, spine_need_of}
pub use Rattle.heap_model.specs.declared.command.Command.{Command}
pub use Rattle.heap_model.specs.declared.command.Command.TheVariants.{Array, Cas, Get, Leave, Len, New, Poll, Set}
pub use Rattle.heap_model.specs.declared.entry.Entry.{Entry}
pub use Rattle.heap_model.specs.declared.entry.Entry.TheVariants.{Advance, Answers, Ends, Frees, GivesBack, Returns, Said, Takes}
pub use Rattle.heap_model.specs.declared.heap.Heap.{Heap}
pub use Rattle.heap_model.specs.declared.reply.Reply.{Reply}
pub use Rattle.core_machine.specs.Moves.{Move, access_move, bearing_move, bears_black_of, birth_move, due_step, grant_move, is_last_birth, last_birth_move, leaving_move, listing_move, local_move, making_move, move_at, next_move, placing_move, polling_move, refusal_step, seat_after, seat_after_due, withdraw_move}
pub use Rattle.core_machine.specs.calls.Kept.{IsUntold, KeepsAll, Kept, WasMade, kept_of, kept_replied, tells_nothing}
pub use Rattle.core_machine.specs.calls.Owes.{Nears, access_steps, making_steps, owes, owes_at, owes_making, steps_at, steps_left}
pub use Rattle.core_machine.specs.calls.OwnStage.{AccessStage, HasAsked, HasEmptied, MakingStage, OwnStage, PollingStage, StageAt}
pub use Rattle.core_machine.specs.calls.Replies.{AnswersFirst, AnswersLocally, ComesFirst, HasLeft, HasPhase, IsAnswered, IsDoneBy, IsFull, IsHeldOf, IsMade, StandsOn}
pub use Rattle.core_machine.specs.declared.point.Access.TheVariants.{Getting, Indexing, LoadingMeta, LoadingOld, LoadingSpot, Naming, Replacing, ShadingNew, ShadingOld, ShadingSide, Swapping, Walking}
pub use Rattle.core_machine.specs.declared.point.Side.{Side}
pub use Rattle.core_machine.specs.declared.point.Making.TheVariants.{Bearing, Gathering, Granting, Listing, Placing, Refusing, GivingBack, Storing, Withdrawing}
pub use Rattle.core_machine.specs.declared.point.Point.{Point}
pub use Rattle.core_machine.specs.declared.seat.register.Register.{Register}
pub use Rattle.core_machine.specs.declared.seat.register.Register.TheVariants.{Nil, Number, Object}
pub use Rattle.core_machine.specs.declared.step.Step.{Step}
pub use Rattle.core_machine.specs.declared.step.Step.TheVariants.{PollLoad, Turning}
pub use Rattle.core_machine.specs.declared.table.address.Address.{Address}
pub use Rattle.core_machine.specs.declared.table.address.Address.TheVariants.{Answer, Budget, Control, Phase, Word}
pub use Rattle.core_machine.specs.machine.Calls.{AnswersArray, AnswersNew, CountsCall, IsBeside, IsPhaseNear, IsPlaceRefusal, IsRefused, KeepsOwn, LacksSpineWords, LeavesAll, PlaysCall, TellsLeave, free_count, last_reply_of, looks_refused, reply_of, within_reach}
pub use Rattle.core_machine.specs.machine.Machine.{Begins, BeginsInner, Can, Event, MayBegin, MayBeginInner, Run, State, Steps, Turns, after_begin, after_inner_begin, entries, entries_shown, found_by, history, seat_at, state_after, state_after_all, state_after_due, state_after_move, state_after_turn}
pub use Rattle.core_machine.specs.machine.Value.{IsMachine, KeepsRoom, MachineValue, SeatWithRoom, SpendsRoom, forgotten_of, log_of, recent_of, spare_of}
pub use Rattle.core_machine.specs.seat.Access.{access_start, after_get, after_index, after_length, after_link, after_meta, after_name, after_old, after_old_load, after_replace, after_side, after_swap, after_walk, at_access, at_payload, expect_point_of, field_point_of, field_reply_of, guard_point_of, has_barrier_of, meta_reply_of, new_point_of, offer_point_of, part_of, row_of, side_of, side_register_of, way_point_of, with_field_place, with_register_filled}
pub use Rattle.core_machine.specs.seat.Awaiting.{entries_awaited, entries_awaited_at}
pub use Rattle.core_machine.specs.seat.Commands.{IsArrayCall, IsRecordCall, IsServed, MakesObject, field_of, object_of, source_of, target_of}
pub use Rattle.core_machine.specs.seat.Fits.{AnswersThePhase, AreFragments, Fits, FitsAnswer, FitsMaking, FitsPoint, FitsRegister, FitsWay, HandFits, HasArrayBody, HasBody, HasNoAnswer, HasNoSpine, IsAtRest, IsLocal, IsSilent, IsUnstored, MakesNext, OwnFits, SeatIsGathering, SeatIsGranting, SeatIsRefusing, SeatIsWithdrawing, SpineIsListed, WayFits}
pub use Rattle.core_machine.specs.seat.FitsAccess.{FitsAccess, HasNoWay, IsAtField, IsCas, IsGet, IsNowhere, IsSet, NamesField, NamesObject, SeatIsAtCas, SeatIsAtGet, SeatIsAtHead, SeatIsAtSentinel, SeatIsAtSet, WorksOnObject}
pub use Rattle.core_machine.specs.seat.Making.{after_birth, after_budget, after_claim, after_gather, after_give_back, after_last_birth, after_listing, after_placing, after_shortage, after_store, before_run, first_group_of, fragments_gathered, gather_next, last_claimed, last_group_of, last_run, list_point, newborn_word, next_group_of, next_name, next_object_id, refusal_point, run_of, settled_point, store_point}
pub use Rattle.core_machine.specs.seat.Registers.{heads_of, is_same_value, register_head, register_in, register_word, value_of}
pub use Rattle.core_machine.specs.seat.Seat.{HasNumberLeft, Seat, absent_seat, after_call, call_over, need, no_spot, spine_need, with_entries, with_held, with_seen}
pub use Rattle.core_machine.specs.table.Decode.{FoundPointsWithin, IsWithinHeap, PointersWithin, id_of, plain_of, plain_register, spine_words_in}
pub use Rattle.core_machine.specs.table.Fragments.{clear_in, in_group, is_clear, out_of_group, inside_group, outside_group, tally}
unfoldable pub use Rattle.core_machine.specs.table.Fragments.{clear_among, mask_of}
pub use Rattle.core_machine.specs.table.Layout.{FitsSpot, HasWord, InTable, SameTable, index_of, spine_index, table_length}
unfoldable pub use Rattle.core_machine.specs.table.Layout.{at, put}
pub use Rattle.core_machine.specs.table.Operation.{address_of, all_taken, birth_bits_of, blacken_bit_of, operation_of, operation_result, shade_bit_of, word_after, word_without_taken}
