-- The law of a call beside which no other seat makes a step, while the collector makes any turns.
use Rattle.std.specs.Prelude.{◌≡◌, ℕ, ◌+◌, ◌≤◌, List}
use Rattle.std.specs.List.{AllByRecursion}
use Rattle.heap_model.specs.account.Space.{words_granted, words_returned}
use Rattle.heap_model.specs.declared.command.Command.{Command}
use Rattle.heap_model.specs.declared.entry.Entry.{Entry}
use Rattle.heap_model.specs.declared.entry.Entry.TheVariants.{Said}
use Rattle.heap_model.specs.declared.heap.Heap.{Heap}
use Rattle.heap_model.specs.declared.reply.Reply.TheVariants.{Full, SpineFull}
use Rattle.core_machine.specs.machine.Calls.{within_reach}
use Rattle.core_machine.specs.machine.Machine.{State, Event, Begins, Steps, Turns, Can, Run, state_after, history}
use Rattle.core_rule.specs.Book.{Book}
use Rattle.core_rule.specs.runs.Laws.{IsAlone}
use Rattle.core_rule.specs.Stands.{Stands}

-- the event is a step of this seat, or a turn of the collector
abbrev pub IsOfSeat : ℕ → Event → Type 0
IsOfSeat number (Steps other) = other ≡ number
IsOfSeat number Turns = Unit {0}
IsOfSeat number _ = ⊥

-- the seat begins a call while no other has one in flight, and then come steps of the seat and turns of the collector alone
pub record IsLoneCall (heap : Heap) (state : State) (number : ℕ) (command : Command) (events : List Event) : Type 0 where
  pub begins : Can heap state (Begins number command)
  pub alone : IsAlone state number
  pub own : AllByRecursion (IsOfSeat number) events
  pub run : Run heap (state_after heap state (Begins number command)) events

-- a refusal of fragments shows at least so many, and one of spine words no more than were in use after this history
abbrev pub ShowsWhatWas : ℕ → List Entry → Entry → Type 0
ShowsWhatWas reach before (Said number command (Full need found)) = reach ≤ found
ShowsWhatWas reach before (Said number command (SpineFull need shown)) = shown + words_returned before ≤ words_granted before
ShowsWhatWas reach before _ = Unit {0}

-- such a call is refused with no fewer fragments than were in its seat's reserve and free when it began, and with no more spine words than were in use then
unfoldable pub EachLoneRefusalIsRight : Type 0
EachLoneRefusalIsRight = (heap : Heap) (state : State) (book : Book) (number : ℕ) (command : Command) (events : List Event) → Stands heap state book
    → IsLoneCall heap state number command events
    → AllByRecursion (ShowsWhatWas (within_reach heap state number) book.history) (history heap (state_after heap state (Begins number command)) events)
