-- The phase, and what the seats have answered.
use Rattle.std.specs.Prelude.{◌≡◌, ℕ, ◌+◌, ◌<◌, ◌≤◌, ◌⊎◌, Bool, false, if◌then◌else◌, List, filter}
use Rattle.heap_words.specs.declared.phase.TheConstants.{LEFT}
use Rattle.heap_model.specs.declared.heap.Heap.{Heap}
use Rattle.heap_model.specs.declared.entry.Entry.{Entry}
use Rattle.heap_model.specs.account.PhaseCounts.{phase, last_answer, has_left}
use Rattle.core_machine.specs.declared.table.address.Address.TheVariants.{Answer}
use Rattle.core_machine.specs.declared.point.Point.{Point}
use Rattle.core_machine.specs.declared.point.Point.TheVariants as points
use Rattle.core_machine.specs.declared.point.Polling.{Polling}
use Rattle.core_machine.specs.declared.point.Polling.TheVariants.{Asking, Shading, Answering}
use Rattle.core_machine.specs.collector.Collector.{Collector}
use Rattle.core_machine.specs.table.Layout.{at}
use Rattle.core_rule.specs.counts.Counts.{is_collectors}

-- the last answer of a seat is to the phase, or to the one before it
abbrev pub IsNear : ℕ → ℕ → Type 0
IsNear phase answer = (answer ≡ phase) ⊎ (answer + 1 ≡ phase)

-- what stands in a seat's own word
abbrev pub answer_word : Bool → ℕ → ℕ
answer_word left answer = if left then LEFT else answer

-- the seat's answers, its leave and its word agree with the history, and it is behind by one phase at most
pub record AnswersAgree (heap : Heap) (words : List ℕ) (phase answers : ℕ) (gone : Bool) (number : ℕ) (left : Bool) (answer asked : ℕ) : Type 0 where
  pub told : answers ≡ answer
  pub leaves : gone ≡ left
  pub word : at heap words (Answer number) ≡ answer_word left answer
  pub near : left ≡ false → IsNear phase answer
  -- the phase that it has loaded last has begun
  pub loaded : asked ≤ phase

-- the phase that is about to be answered is the phase, which comes after the seat's last answer
pub record Asks (phase answer asked : ℕ) : Type 0 where
  pub now : asked ≡ phase
  pub next : asked ≡ answer + 1

-- what is about to be answered at each point of a poll
abbrev pub PollingStands : ℕ → ℕ → ℕ → Polling → Type 0
PollingStands phase answer asked Asking = Unit {0}
PollingStands phase answer asked Shading = Asks phase answer asked
PollingStands phase answer asked Answering = Asks phase answer asked

-- what is about to be answered at each point
abbrev pub AnswerStands : ℕ → ℕ → ℕ → Point → Type 0
AnswerStands phase answer asked (points.Polling point) = PollingStands phase answer asked point
AnswerStands phase answer asked _ = Unit {0}

-- the collector's entries and phase are the history's, and each seat that it has seen has answered the phase or left
pub record CollectorAgrees (heap : Heap) (collector : Collector) (history : List Entry) : Type 0 where
  pub log : collector.log ≡ filter is_collectors history
  pub phase_told : collector.phase ≡ phase history
  pub looked : (number : ℕ) → number < collector.looked → number < heap.seats → has_left number history ≡ false → last_answer number history ≡ phase history
