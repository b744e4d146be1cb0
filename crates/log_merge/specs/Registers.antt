-- What a seat's log shows of its registers and of its gets.
use Rattle.std.specs.Prelude.{ℕ, List, [], ◌∷◌, ◌++◌, fold, replicate, slice_index_or, slice_set, Option, Some, None}
use Rattle.std.specs.Option.{option_to_list}
use Rattle.heap_model.specs.Limits.{last_register, register_count}
use Rattle.heap_model.specs.declared.id.Id.TheVariants.{Board}
use Rattle.heap_model.specs.declared.id.Value.{Value}
use Rattle.heap_model.specs.declared.id.Value.TheVariants.{Nil, Number, Object}
use Rattle.heap_model.specs.declared.command.Command.TheVariants as commands
use Rattle.heap_model.specs.declared.reply.Reply.TheVariants as replies
use Rattle.heap_model.specs.declared.entry.Entry.{Entry}
use Rattle.heap_model.specs.declared.entry.Entry.TheVariants.{Said}
use Rattle.log_merge.specs.declared.merging.pending_gets.PendingGet.{PendingGet}

-- the registers at the opening
abbrev pub opening_registers : List Value
opening_registers = Object Board ∷ replicate last_register Nil

-- the registers after an entry of the seat, as its reply shows them
abbrev pub registers_after : List Value → Entry → List Value
registers_after held (Said seat (commands.New d fields) (replies.Made id)) = slice_set held d (Object id)
registers_after held (Said seat (commands.Array d cells) (replies.Made id)) = slice_set held d (Object id)
registers_after held (Said seat (commands.Get d r i) (replies.Got value stamp)) = slice_set held d value
registers_after held (Said seat (commands.Num d n) reply) = slice_set held d (Number n)
registers_after held (Said seat (commands.Nil d) reply) = slice_set held d Nil
registers_after held (Said seat (commands.Copy d r) reply) = slice_set held d (slice_index_or held r Nil)
registers_after held (Said seat commands.Leave reply) = replicate register_count Nil
registers_after held _ = held

-- the get of the cell i of what the value refers to, if it refers to an object
abbrev pub kind_of : Value → ℕ → ℕ → Option PendingGet
kind_of (Object id) i stamp = Some (record { object = id; index = i; stamp = stamp })
kind_of _ i stamp = None

-- the get that the entry is, if it is one that found a cell, or a cas that left it
abbrev pub get_of : List Value → Entry → Option PendingGet
get_of held (Said seat (commands.Get d r i) (replies.Got value stamp)) = kind_of (slice_index_or held r Nil) i stamp
get_of held (Said seat (commands.Cas r i a v) (replies.Now stamp)) = kind_of (slice_index_or held r Nil) i stamp
get_of held _ = None

-- the gets among the entries of a seat with these registers
abbrev pub gets_in : List Value → List Entry → List PendingGet
gets_in held [] = []
gets_in held (entry ∷ rest) = option_to_list (get_of held entry) ++ gets_in (registers_after held entry) rest

-- the registers after these entries of the seat
abbrev pub registers_of : List Entry → List Value
registers_of entries = fold registers_after opening_registers entries
