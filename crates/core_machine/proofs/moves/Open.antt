-- A call opens an object, by its meta.
use Rattle.std.proofs.Common.{◌≡◌, ℕ, ◌+◌, ◌%◌, [], length, inl, refl, arith, List, subst, sym, Option, Some, None, ap}
use Rattle.std.specs.Prelude.{IsSome}
use Rattle.core_machine.proofs.Terms.{Command, Get, Set, Cas, Len, Heap, Reply, LoadingMeta, LoadingSpot, Register, Nil, Number, Object, found_by, entries_awaited, object_of, field_of}
use Rattle.core_machine.proofs.Terms.{Fits, FitsRegister, IsLocal, NamesObject, NamesField, SeatIsAtHead, row_of, part_of, with_field_place, after_length, meta_reply_of}
use Rattle.core_machine.proofs.Terms.{after_meta, access_start, register_head, register_in, Seat, with_entries, pointer_in, array_length_of, IsWithinHeap, Nears}
use Rattle.heap_model.specs.declared.command.Command.TheVariants as commands
use Rattle.core_machine.specs.declared.point.Point.TheVariants as points
use Rattle.core_machine.specs.seat.AccessMoves.{reply_entries_if, open_move}
use Rattle.core_machine.proofs.call_lemmas.Awaits.{adds_where_none_awaited, after_words}
use Rattle.core_machine.proofs.moves.Standing.{PointStands, access_point_rests, BeginStands, IsReady, ready_is_aside, ready_is_at_rest}
use Rattle.core_machine.proofs.moves.Local.{local_begin_stands}
use Rattle.core_machine.proofs.moves.Walk.{fits_onward, nears_onward, onward_awaits_none, onward_keeps_list}
use Rattle.core_machine.proofs.seat_lemmas.Aside.{left_aside_is_absurd}
use Rattle.core_machine.proofs.seat_lemmas.FittingAccess.{Rests, fits_at_access, fits_after_sets}
use Rattle.core_machine.proofs.table_lemmas.StepStands.{load_step_stands}
use Rattle.core_machine.proofs.table_lemmas.WithinHeap.{each_register_fits}

-- where the call doesn't end at the meta, it names a field
met_names : (command : Command) (found : ℕ) → NamesObject command → meta_reply_of command found ≡ None → NamesField command
met_names (Get d r i) found names none = tt
met_names (Set r i v) found names none = tt
met_names (Cas r i a v) found names none = tt
met_names (Len r) found names none = cc
met_names _ found names none = absurd names

-- the meta of a record was found, or that of an array
fits_length : (heap : Heap) (seat : Seat) (found : ℕ) (cells : Option ℕ) → Rests heap seat → SeatIsAtHead seat → NamesField seat.command → IsWithinHeap heap (pointer_in 0 found)
    → Fits heap (after_length seat found cells)
fits_length heap seat found None rests is names led =
    fits_onward heap seat (row_of (field_of seat.command)) (part_of (field_of seat.command)) found rests is.works names is.none_loaded (omega arith) (omega arith) led
fits_length heap seat found (Some cells) rests is names led =
    fits_at_access heap seat seat.reached 0 (field_of seat.command % 4) seat.loaded LoadingSpot rests rests.fits.way.reached_within rests.fits.way.loaded_within
    (record { works = is.works; names = names; no_links = refl; part_within = omega arith; none_loaded = is.none_loaded })

nears_length : (heap : Heap) (seat : Seat) (found : ℕ) (cells : Option ℕ) → Nears heap (with_entries (after_length seat found cells) []) 1 (row_of (field_of seat.command) + 7) 0
nears_length heap seat found None = nears_onward heap (with_field_place seat) found (row_of (field_of seat.command) + 7) (inl (omega arith))
nears_length heap seat found (Some cells) = record { fewer = omega arith; paid = omega arith }

length_adds : (heap : Heap) (words : List ℕ) (number : ℕ) (seat : Seat) (found : ℕ) (cells : Option ℕ)
    → ((after_length seat found cells).mine ≡ seat.mine) × (entries_awaited heap words number (with_entries (after_length seat found cells) []) ≡ [])
length_adds heap words number seat found None = (onward_keeps_list (with_field_place seat) found, onward_awaits_none heap words number (with_field_place seat) found [])
length_adds heap words number seat found (Some cells) = (refl, refl)

-- the meta was found
fits_met : (heap : Heap) (seat : Seat) (found : ℕ) (reply : Option Reply) → Rests heap seat → SeatIsAtHead seat → meta_reply_of seat.command found ≡ reply
    → IsWithinHeap heap (pointer_in 0 found) → Fits heap (after_meta seat found reply)
fits_met heap seat found None rests is none led =
    fits_length heap seat found (array_length_of found) rests is (met_names seat.command found is.names none) led
fits_met heap seat found (Some reply) rests is some led = fits_after_sets heap seat seat.registers seat.seen seat.sets rests rests.fits.own.registers_whole rests.fits.own.registers_fit

nears_met : (heap : Heap) (number : ℕ) (seat : Seat) (found : ℕ) (reply : Option Reply)
    → Nears heap (with_entries (after_meta seat found reply) (reply_entries_if number seat reply)) 1 (row_of (field_of seat.command) + 7) (length (reply_entries_if number seat reply))
nears_met heap number seat found None = nears_length heap seat found (array_length_of found)
nears_met heap number seat found (Some reply) = record { fewer = omega arith; paid = omega arith }

module _ (heap : Heap) (number : ℕ) (seat : Seat) where
  met_adds : (words : List ℕ) (found : ℕ) (reply : Option Reply)
      → ((after_meta seat found reply).mine ≡ seat.mine) × (entries_awaited heap words number (with_entries (after_meta seat found reply) (reply_entries_if number seat reply)) ≡ [])
  met_adds words found None = length_adds heap words number seat found (array_length_of found)
  met_adds words found (Some reply) = (refl, refl)

-- the meta is loaded
pub point_stands_at_loading_meta : PointStands (points.Access LoadingMeta)
point_stands_at_loading_meta heap number seat here =
    let move = open_move number seat in
    record {
      step = load_step_stands heap move.step refl (here.fits.way.reached_within, omega arith);
      fits = λ found small led. fits_met heap seat found (meta_reply_of seat.command found) (access_point_rests heap number seat LoadingMeta here) here.way refl led;
      near = λ found. nears_met heap number seat found (meta_reply_of seat.command found);
      adds = λ now. let found = found_by heap now move.step in
          let by = met_adds heap number seat (after_words heap now number seat move) found (meta_reply_of seat.command found) in
          adds_where_none_awaited heap now number seat move by.0 (rw here.point_is refl) by.1 refl;
    }

-- a command on an object that its register doesn't hold looks at no word
local_none : (registers : List Register) (c : Command) → NamesObject c → register_head (register_in registers (object_of c)) ≡ None → IsLocal registers c
local_none registers (commands.Get d r i) names none = none
local_none registers (commands.Set r i v) names none = none
local_none registers (commands.Cas r i a v) names none = none
local_none registers (commands.Len r) names none = none
local_none registers _ names none = absurd names

-- a call on an object begins: without one it tells its reply at once
pub begin_stands_at_access : (command : Command) → NamesObject command → (heap : Heap) (number : ℕ) (seat : Seat) → IsReady heap seat command
    → BeginStands heap number seat command (access_start (record seat { command = command }) (register_in seat.registers (object_of command)))
begin_stands_at_access command names heap number seat ready = by (register_in seat.registers (object_of command)) refl where
  by : (register : Register) → register_in seat.registers (object_of command) ≡ register → BeginStands heap number seat command (access_start (record seat { command = command }) register)
  by Nil is = local_begin_stands command heap number seat ready (local_none seat.registers command names (ap register_head is))
  by (Number n) is = local_begin_stands command heap number seat ready (local_none seat.registers command names (ap register_head is))
  by (Object head id) is =
      let aside = ready_is_aside heap number seat command ready in
      record {
        fits = record {
          own = ready.fits.own;
          hand = ready.fits.hand;
          way = record {
            reached_within = subst (FitsRegister heap) is (each_register_fits heap seat.registers (object_of command) ready.fits.own.registers_fit);
            address_within = ready.fits.way.address_within;
            loaded_within = ready.fits.way.loaded_within;
          };
          asked_small = ready.fits.asked_small;
          at_point = ready_is_at_rest heap number seat command ready;
          way_at_point = record {
            works = record { in_range = ready.may.in_range; numbered = ready.may.numbered; holds = subst IsSome (sym (ap register_head is)) refl };
            names = names;
            at_head = ap register_head is;
            no_links = aside.nowhere.no_links;
            no_part = aside.nowhere.no_part;
            none_loaded = aside.nowhere.none_loaded;
          };
          answer_at_point = aside.silent;
          gone = left_aside_is_absurd ready.may.present;
        };
        kept = refl;
        awaits = λ words. refl;
        owed = omega arith;
      }
