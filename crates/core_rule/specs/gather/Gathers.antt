-- What a gather knows of the groups that it has passed, though other parties take and give back meanwhile.
use Rattle.std.specs.Prelude.{◌≡◌, ℕ, ◌+◌, ◌*◌, ◌%◌, ◌≤◌, false, List, length, drop}
use Rattle.std.specs.List.{list_any}
use Rattle.heap_model.specs.declared.heap.Heap.{Heap}
use Rattle.heap_model.specs.declared.entry.Entry.{Entry}
use Rattle.heap_model.specs.account.Refusals.{given_up}
use Rattle.heap_model.specs.account.Space.{total_but}
use Rattle.heap_model.specs.account.Windows.{is_reply_to}
use Rattle.core_machine.specs.declared.point.Point.{Point}
use Rattle.core_machine.specs.declared.point.Point.TheVariants as points
use Rattle.core_machine.specs.declared.point.Access.TheVariants.{Naming}
use Rattle.core_machine.specs.machine.Sums.{sum_upto}
use Rattle.core_rule.specs.owners.Owners.{Owner, free_bit}

-- the free fragments of a group
abbrev pub free_in : (ℕ → Owner) → ℕ → ℕ
free_in owner group = sum_upto 16 (λ j. free_bit (owner (16 * group + j)))

-- the free fragments of all groups
abbrev pub free_in_all : Heap → (ℕ → Owner) → ℕ
free_in_all heap owner = sum_upto (16 * heap.groups) (λ f. free_bit (owner f))

-- the free fragments of the groups that a gather from the cursor on has passed
abbrev pub free_in_passed : Heap → (ℕ → Owner) → ℕ → ℕ → ℕ
free_in_passed heap owner cursor tried = sum_upto tried (λ j. free_in owner ((cursor + j) % heap.groups))

-- what a gather knows, by what others have done since its call began
pub record GathersRight (heap : Heap) (owner : ℕ → Owner) (number : ℕ) (since : List Entry) (cursor tried given : ℕ) : Type 0 where
  -- what is free in the groups passed was freed or given back since, by others or by this call
  pub passed : free_in_passed heap owner cursor tried ≤ given_up number since + given
  -- what this call gave back is free, or others took as much since
  pub returned : given ≤ free_in_all heap owner + total_but number (λ e. e.taken) since

-- no reply is to come: there is no call, or the history has its reply, which only awaits a name
abbrev pub IsAnswered : Point → Type 0
IsAnswered points.Idle = Unit {0}
IsAnswered (points.Access Naming) = Unit {0}
IsAnswered _ = ⊥

-- the history was once this long, and as long as a reply is to come the seat has got none since then
pub record Began (history : List Entry) (number begun : ℕ) (point : Point) : Type 0 where
  pub earlier : begun ≤ length history
  pub unanswered : ¬ IsAnswered point → list_any (is_reply_to number) (drop begun history) ≡ false
