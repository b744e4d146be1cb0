-- The moves by which an object is read or written, a row per point.
use Rattle.std.specs.Prelude.{ℕ, ◌+◌, ◌/◌, ◌==◌, Bool, if◌then◌else◌, List, [], ◌∷◌, Option, Some, None, unwrap_or}
use Rattle.heap_model.specs.declared.heap.Heap.{Heap}
use Rattle.heap_model.specs.declared.entry.Entry.{Entry}
use Rattle.heap_model.specs.declared.entry.Entry.TheVariants.{Said}
use Rattle.heap_model.specs.declared.id.Value.TheVariants.{Object}
use Rattle.heap_model.specs.declared.reply.Reply.{Reply}
use Rattle.heap_model.specs.declared.reply.Reply.TheVariants.{Got, Was, Now}
use Rattle.heap_model.specs.graph.Growth.{set_stamp}
use Rattle.core_machine.specs.declared.table.address.Address.TheVariants.{Word}
use Rattle.core_machine.specs.declared.point.Access.{Access}
use Rattle.core_machine.specs.declared.point.Access.TheVariants.{LoadingMeta, Walking, LoadingSpot, Indexing, Getting, Naming, LoadingOld, ShadingOld, ShadingNew, Swapping, ShadingSide, Replacing}
use Rattle.core_machine.specs.declared.point.Side.{Side}
use Rattle.core_machine.specs.declared.point.Side.TheVariants.{Expected}
use Rattle.core_machine.specs.declared.seat.register.Register.{Register}
use Rattle.core_machine.specs.declared.step.Step.TheVariants as steps
use Rattle.core_machine.specs.declared.step.AccessStep.TheVariants.{WalkLoad, NameLoad, GetLoad, OldLoad, Shade, Swap, CompareSwap}
use Rattle.core_machine.specs.declared.step.SpineStep.TheVariants.{AddressLoad, WordLoad}
use Rattle.core_machine.specs.seat.Commands.{source_of, expected_of, field_of}
use Rattle.core_machine.specs.table.Layout.{at}
use Rattle.heap_words.specs.Loaded.{head_of, stamp_of}
use Rattle.core_machine.specs.table.Decode.{id_of, plain_of}
use Rattle.core_machine.specs.seat.Access.{after_walk, meta_reply_of, after_meta, after_address, after_index, after_get, after_name, after_old, after_old_load, at_access, after_swap, side_register_of, after_side, after_replace}
use Rattle.core_machine.specs.seat.Registers.{register_in, seen_in, register_word, register_head, value_of}
use Rattle.core_machine.specs.seat.Seat.{Seat}
use Rattle.core_machine.specs.Move.{Move, plain_move}

-- the seat's reply to its command
abbrev pub reply_entries : ℕ → Seat → Reply → List Entry
reply_entries number seat reply = Said number seat.command reply ∷ []

-- the reply, where there is one
abbrev pub reply_entries_if : ℕ → Seat → Option Reply → List Entry
reply_entries_if number seat None = []
reply_entries_if number seat (Some reply) = reply_entries number seat reply

-- the object's meta is loaded
abbrev pub open_move : ℕ → Seat → Move
open_move number seat =
    plain_move (steps.Access (WalkLoad seat.reached)) (λ found. after_meta seat found (meta_reply_of seat.command found))
    (λ found. reply_entries_if number seat (meta_reply_of seat.command found))

-- a link is loaded
abbrev pub walk_move : Seat → Move
walk_move seat = plain_move (steps.Access (WalkLoad seat.reached)) (after_walk seat) (λ found. [])

-- the place of the array's spine is loaded
abbrev pub locate_move : Seat → Move
locate_move seat = plain_move (steps.Spine (AddressLoad seat.reached)) (after_address seat) (λ found. [])

-- the spine word is loaded that names the cell's fragment: each fragment has four cells
abbrev pub index_move : Seat → Move
index_move seat =
    plain_move (steps.Spine (WordLoad seat.address.half (seat.address.offset + field_of seat.command / 4))) (after_index seat) (λ found. [])

-- the reply of a get that has put this into its register
abbrev pub got_reply : Register → ℕ → Reply
got_reply register found = Got (value_of register) (stamp_of found)

-- the seat's own entry of a get: none yet, where the field refers to an object
abbrev pub got_adds : ℕ → Seat → ℕ → Option ℕ → List Entry
got_adds number seat found None = reply_entries number seat (got_reply (plain_of found) found)
got_adds number seat found (Some head) = []

-- the history's entry of a get: where the field refers to an object, with the id that stands in that object's name
abbrev pub got_shows : Heap → ℕ → Seat → List ℕ → ℕ → Option ℕ → List Entry
got_shows heap number seat words found None = got_adds number seat found None
got_shows heap number seat words found (Some head) =
    reply_entries number seat (Got (Object (id_of (at heap words (Word head 1)))) (stamp_of found))

-- a get loads its field
abbrev pub get_move : Heap → ℕ → Seat → Move
get_move heap number seat = record {
  step = steps.Access (GetLoad seat.reached seat.part);
  told = λ found. after_get seat found (head_of found);
  adds = λ found. got_adds number seat found (head_of found);
  shows = λ words found. got_shows heap number seat words found (head_of found);
}

-- the first fragment of the object that the loaded field refers to
abbrev pub loaded_head_of : Seat → ℕ
loaded_head_of seat = unwrap_or (head_of seat.loaded) 0

-- a get loads the name of its object and tells its entry, which the history has had since the field was loaded
abbrev pub name_move : ℕ → Seat → Move
name_move number seat = record {
  step = steps.Access (NameLoad (loaded_head_of seat));
  told = λ found. after_name seat (loaded_head_of seat) (id_of found);
  adds = λ found. reply_entries number seat (Got (Object (id_of found)) (stamp_of seat.loaded));
  shows = λ words found. [];
}

-- a set with the barrier on loads what its field holds
abbrev pub old_move : Seat → Move
old_move seat =
    plain_move (steps.Access (OldLoad seat.reached seat.part))
    (λ found. after_old_load (record seat { loaded = found }) (head_of found)) (λ found. [])

-- the old value is shaded
abbrev pub shade_old_move : Seat → Move
shade_old_move seat = plain_move (steps.Access (Shade (loaded_head_of seat))) (λ found. after_old seat) (λ found. [])

-- what a set puts into the field
abbrev pub new_register_of : Seat → Register
new_register_of seat = register_in seat.registers (source_of seat.command)

-- the new value is shaded
abbrev pub shade_new_move : Seat → Move
shade_new_move seat =
    plain_move (steps.Access (Shade (unwrap_or (register_head (new_register_of seat)) 0))) (λ found. at_access seat Swapping) (λ found. [])

-- the new word of the field: its stamp is that of the seat's next set
abbrev pub new_word_of : ℕ → Seat → ℕ
new_word_of number seat = register_word (new_register_of seat) (set_stamp number (seat.sets + 1))

-- the field's word is exchanged
abbrev pub swap_move : ℕ → Seat → Move
swap_move number seat =
    plain_move (steps.Access (Swap seat.reached seat.part (new_word_of number seat))) (λ found. after_swap seat)
    (λ found. reply_entries number seat (Was (stamp_of found)))

-- a value of a compare and swap is shaded
abbrev pub shade_side_move : Seat → Side → Move
shade_side_move seat side =
    plain_move (steps.Access (Shade (unwrap_or (register_head (side_register_of seat side)) 0))) (λ found. after_side seat side) (λ found. [])

-- the word that is expected in the field: the register's value under the stamp that it was seen under
abbrev pub old_word_of : Seat → ℕ
old_word_of seat = register_word (side_register_of seat Expected) (seen_in seat.seen (expected_of seat.command))

-- the reply of a compare and swap, by whether the word found was the expected one
abbrev pub replaced_reply : ℕ → Bool → Reply
replaced_reply found expected = if expected then Was (stamp_of found) else Now (stamp_of found)

-- the field's word is compared with the expected one, and exchanged where it is that
abbrev pub replace_move : ℕ → Seat → Move
replace_move number seat =
    plain_move (steps.Access (CompareSwap seat.reached seat.part (old_word_of seat) (new_word_of number seat)))
    (λ found. after_replace seat (found == old_word_of seat)) (λ found. reply_entries number seat (replaced_reply found (found == old_word_of seat)))

-- the move at each point of access
abbrev pub access_move : Heap → ℕ → Seat → Access → Move
access_move heap number seat LoadingMeta = open_move number seat
access_move heap number seat Walking = walk_move seat
access_move heap number seat LoadingSpot = locate_move seat
access_move heap number seat Indexing = index_move seat
access_move heap number seat Getting = get_move heap number seat
access_move heap number seat Naming = name_move number seat
access_move heap number seat LoadingOld = old_move seat
access_move heap number seat ShadingOld = shade_old_move seat
access_move heap number seat ShadingNew = shade_new_move seat
access_move heap number seat Swapping = swap_move number seat
access_move heap number seat (ShadingSide side) = shade_side_move seat side
access_move heap number seat Replacing = replace_move number seat
