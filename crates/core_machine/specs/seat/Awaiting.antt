-- What the history has of a seat before the seat's own list has it.
use Rattle.std.specs.Prelude.{ℕ, List, []}
use Rattle.heap_model.specs.declared.heap.Heap.{Heap}
use Rattle.heap_model.specs.declared.entry.Entry.{Entry}
use Rattle.heap_model.specs.declared.id.Value.TheVariants.{Object}
use Rattle.heap_model.specs.declared.reply.Reply.TheVariants.{Got}
use Rattle.core_machine.specs.declared.table.address.Address.TheVariants.{Word}
use Rattle.core_machine.specs.declared.point.Point.{Point}
use Rattle.core_machine.specs.declared.point.Point.TheVariants as points
use Rattle.core_machine.specs.declared.point.Access.TheVariants.{LoadingMeta, Walking, LoadingSpot, Indexing, Getting, Naming, LoadingOld, ShadingOld, ShadingNew, Swapping, ShadingSide, Replacing}
use Rattle.core_machine.specs.table.Layout.{at}
use Rattle.heap_words.specs.Loaded.{stamp_of}
use Rattle.core_machine.specs.table.Decode.{id_of}
use Rattle.core_machine.specs.seat.AccessMoves.{reply_entries, loaded_head_of}
use Rattle.core_machine.specs.seat.Seat.{Seat}

-- the entry of a get that awaits a name, with the id in the name of the object that it has loaded; at every other point none
abbrev pub entries_awaited_at : Heap → List ℕ → ℕ → Seat → Point → List Entry
entries_awaited_at heap words number seat (points.Access Naming) =
    reply_entries number seat (Got (Object (id_of (at heap words (Word (loaded_head_of seat) 1)))) (stamp_of seat.loaded))
entries_awaited_at heap words number seat (points.Access LoadingMeta) = []
entries_awaited_at heap words number seat (points.Access Walking) = []
entries_awaited_at heap words number seat (points.Access LoadingSpot) = []
entries_awaited_at heap words number seat (points.Access Indexing) = []
entries_awaited_at heap words number seat (points.Access Getting) = []
entries_awaited_at heap words number seat (points.Access LoadingOld) = []
entries_awaited_at heap words number seat (points.Access ShadingOld) = []
entries_awaited_at heap words number seat (points.Access ShadingNew) = []
entries_awaited_at heap words number seat (points.Access Swapping) = []
entries_awaited_at heap words number seat (points.Access (ShadingSide side)) = []
entries_awaited_at heap words number seat (points.Access Replacing) = []
entries_awaited_at heap words number seat points.Idle = []
entries_awaited_at heap words number seat (points.Making point) = []
entries_awaited_at heap words number seat points.Local = []
entries_awaited_at heap words number seat (points.Polling point) = []
entries_awaited_at heap words number seat (points.Collecting point) = []
entries_awaited_at heap words number seat (points.Leaving point) = []

-- what the seat's own list awaits where the seat stands
abbrev pub entries_awaited : Heap → List ℕ → ℕ → Seat → List Entry
entries_awaited heap words number seat = entries_awaited_at heap words number seat seat.point
