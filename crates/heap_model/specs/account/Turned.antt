-- What the collector's commands were answered, among the other entries of a play.
use Rattle.std.specs.Prelude.{◌≡◌, ℕ, Bool, true, false, List, [], ◌∷◌, ◌++◌, filter}
use Rattle.heap_model.specs.declared.heap.Heap.{Heap}
use Rattle.heap_model.specs.declared.entry.Entry.{Entry}
use Rattle.heap_model.specs.declared.entry.Entry.TheVariants as entries
use Rattle.heap_model.specs.account.Account.{IsLegal}
use Rattle.heap_model.specs.account.Phases.{IsBehind, TurnShows}
use Rattle.heap_model.specs.account.Space.{fragments_gained, fragments_lost, words_granted, words_returned}

-- the entry is no answer to a command of the collector
abbrev pub is_of_heap : Entry → Bool
is_of_heap (entries.Turned command reply) = false
is_of_heap _ = true

-- the entries without the answers to commands of the collector
abbrev pub without_turned : List Entry → List Entry
without_turned history = filter is_of_heap history

-- where the entry is an answer to a command of the collector, it shows what is so after the entries before it
abbrev pub AnswersRightly : Heap → List Entry → Entry → Type 0
AnswersRightly heap before (entries.Turned command reply) = TurnShows heap before reply
AnswersRightly heap before _ = Unit {0}

-- each of these entries that answers a command of the collector shows what is so after those before it
abbrev pub AllAnswerRightly : Heap → List Entry → List Entry → Type 0
AllAnswerRightly heap before [] = Unit {0}
AllAnswerRightly heap before (entry ∷ rest) = AnswersRightly heap before entry × AllAnswerRightly heap (before ++ entry ∷ []) rest

-- a legal play stays legal with answers to commands of the collector between its entries, where each shows what is so
abbrev pub TurnedMayStand : Type 0
TurnedMayStand = (heap : Heap) (history : List Entry) → IsLegal heap true (without_turned history) → AllAnswerRightly heap [] history
    → IsLegal heap true history

-- the answers to commands of the collector change no count of fragments or spine words
pub record CountsStay (history : List Entry) : Type 0 where
  pub gained_stay : (heap : Heap) → fragments_gained heap (without_turned history) ≡ fragments_gained heap history
  pub lost_stay : fragments_lost (without_turned history) ≡ fragments_lost history
  pub granted_stay : words_granted (without_turned history) ≡ words_granted history
  pub returned_stay : words_returned (without_turned history) ≡ words_returned history

-- in every history those answers change no count
abbrev pub TurnedCountNothing : Type 0
TurnedCountNothing = (history : List Entry) → CountsStay history

-- a seat that is behind without those answers is behind with them
abbrev pub TurnedHoldNobody : Type 0
TurnedHoldNobody = (number answer p : ℕ) (history : List Entry) → IsBehind number answer p (without_turned history) → IsBehind number answer p history
