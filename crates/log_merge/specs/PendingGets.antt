-- How many gets the logs still have, cas that left the cell among them.
use Rattle.std.specs.Prelude.{ℕ, Bool, unwrap_or}
use Rattle.std.specs.BTreeMap.{get}
use Rattle.std.specs.declared.cmp.Ordering.{Ordering}
use Rattle.std.specs.Ordering.{is_eq}
use Rattle.log_merge.specs.contracts.merging.pending_gets.PendingGetOrd.TheImpl as pending_get_ord
use Rattle.log_merge.specs.declared.merging.pending_gets.PendingGet.{PendingGet}
use Rattle.log_merge.specs.declared.merging.pending_gets.PendingGets.{PendingGets}

-- the order of the kinds
abbrev pub kind_order : PendingGet → PendingGet → Ordering
kind_order = (pending_get_ord.ghosts).cmp

-- the two gets are of one kind
abbrev pub is_kind : PendingGet → PendingGet → Bool
is_kind kind other = is_eq (kind_order kind other)

-- how many of this kind there are
abbrev pub pending_count : PendingGets → PendingGet → ℕ
pending_count gets kind = unwrap_or (get kind_order gets.counts kind) 0
