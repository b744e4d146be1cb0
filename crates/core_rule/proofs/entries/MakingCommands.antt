-- What the commands that make objects do to the graph, and that their entries may stand.
use Rattle.std.proofs.Common.{◌≡◌, ℕ, ◌+◌, ◌≤◌, Bool, true, false, List, length, refl, ◌<◌}
use Rattle.core_rule.proofs.Terms.{Command, Entry, Heap, Id, Made, KeepsSpace, add, after_entry, Accepts, IsPresent, need_of, spine_need_of, graph_seat, taken_of, spent_of, Graph}
use Rattle.core_rule.proofs.Terms.{fresh, MakesObject, IsArrayCall, target_of, IsSized}
use Rattle.heap_model.specs.declared.command.Command.TheVariants as commands
use Rattle.heap_model.specs.declared.entry.Entry.TheVariants as entries
use Rattle.heap_model.specs.declared.reply.Reply.TheVariants as replies
use Rattle.heap_model.specs.Command.{IsCommand}
use Rattle.heap_model.specs.account.Refusals.{FindsSpace, FindsSpine}
use Rattle.core_rule.proofs.entries.Legality.{keeps_space_of_said, keeps_space_of_plain_said}
use Rattle.core_rule.proofs.objects.ObjectsGrowth.{fresh_fragments, fresh_words}

-- whether the command makes an array
abbrev pub makes_array : Command → Bool
makes_array (commands.Array d cells) = true
makes_array _ = false

-- how many fields or cells the object has that it makes
abbrev pub size_made : Command → ℕ
size_made (commands.New d fields) = fields
size_made (commands.Array d cells) = cells
size_made _ = 0

-- a command that makes an object is a `new` or an `array`
making_only : (P : Command → Type 0) → ((d fields : ℕ) → P (commands.New d fields)) → ((d cells : ℕ) → P (commands.Array d cells)) → (command : Command) → MakesObject command → P command
making_only P new array (commands.New d fields) made = new d fields
making_only P new array (commands.Array d cells) made = array d cells
making_only P new array _ made = absurd made

array_only : (P : Command → Type 0) → ((d cells : ℕ) → P (commands.Array d cells)) → (command : Command) → IsArrayCall command → P command
array_only P array (commands.Array d cells) made = array d cells
array_only P array _ made = absurd made

module _ (command : Command) (made : MakesObject command) where
  -- an object that is made is one more
  pub made_reply_adds_object : (g : Graph) (number : ℕ) (id : Id)
      → after_entry g (entries.Said number command (replies.Made id)) ≡ add g number (target_of command) (fresh (makes_array command) (size_made command))
  made_reply_adds_object g number id = making_only (λ c. after_entry g (entries.Said number c (replies.Made id)) ≡ add g number (target_of c) (fresh (makes_array c) (size_made c)))
      (λ d fields. refl) (λ d cells. refl) command made

  -- what it needs, and its numbers
  pub need_is_fresh_fragments : need_of command ≡ fresh_fragments (makes_array command) (size_made command)
  need_is_fresh_fragments = making_only (λ c. need_of c ≡ fresh_fragments (makes_array c) (size_made c)) (λ d fields. refl) (λ d cells. refl) command made

  pub spine_need_is_fresh_words : spine_need_of command ≡ fresh_words (makes_array command) (size_made command)
  spine_need_is_fresh_words = making_only (λ c. spine_need_of c ≡ fresh_words (makes_array c) (size_made c)) (λ d fields. refl) (λ d cells. refl) command made

  pub made_command_in_range : IsCommand command → (1 ≤ target_of command) × (target_of command ≤ 15) × IsSized (makes_array command) (size_made command)
  made_command_in_range = making_only (λ c. IsCommand c → (1 ≤ target_of c) × (target_of c ≤ 15) × IsSized (makes_array c) (size_made c))
      (λ d fields fits. (fits.0.0, fits.0.1, (fits.1.0, fits.1.1))) (λ d cells fits. (fits.0.0, fits.0.1, (fits.1.0, fits.1.1))) command made

  -- its entry may stand
  pub accepts_made : (g : Graph) (number : ℕ) (id : Id) → IsCommand command → IsPresent g number → id ≡ Made number (length (graph_seat g number).objects)
      → Accepts g (entries.Said number command (replies.Made id))
  accepts_made g number id fits present next =
      making_only (λ c. IsCommand c → Accepts g (entries.Said number c (replies.Made id))) (λ d fields ranges. (present, ranges, next)) (λ d cells ranges. (present, ranges, next)) command made fits

  -- and keeps the rules of space where its seat has enough
  pub keeps_space_of_made : (heap : Heap) (play : Bool) (before : List Entry) (number : ℕ) (id : Id) → spent_of number before + need_of command ≤ taken_of number before
      → taken_of number before ≤ spent_of number before + need_of command + 15 → KeepsSpace heap play before (entries.Said number command (replies.Made id))
  keeps_space_of_made heap play before number id enough little =
      making_only (λ c. spent_of number before + need_of c ≤ taken_of number before → taken_of number before ≤ spent_of number before + need_of c + 15 → KeepsSpace heap play before (entries.Said number c (replies.Made id)))
      (λ d fields some few. keeps_space_of_said heap play before number (commands.New d fields) (replies.Made id) tt tt tt some few)
      (λ d cells some few. keeps_space_of_said heap play before number (commands.Array d cells) (replies.Made id) tt tt tt some few) command made enough little

  -- a refusal changes no object
  pub graph_same_after_full : (g : Graph) (number asked found : ℕ) → after_entry g (entries.Said number command (replies.Full asked found)) ≡ g
  graph_same_after_full g number asked found = making_only (λ c. after_entry g (entries.Said number c (replies.Full asked found)) ≡ g) (λ d fields. refl) (λ d cells. refl) command made

  -- its entry may stand
  pub accepts_full : (g : Graph) (number asked found : ℕ) → IsCommand command → IsPresent g number → Accepts g (entries.Said number command (replies.Full asked found))
  accepts_full g number asked found ranges present =
      making_only (λ c. IsCommand c → Accepts g (entries.Said number c (replies.Full asked found))) (λ d fields fits. (present, fits, tt)) (λ d cells fits. (present, fits, tt)) command made ranges

  -- and keeps the rules of space where it shows what is to be found
  pub keeps_space_of_full : (heap : Heap) (play : Bool) (before : List Entry) (number found : ℕ) → spent_of number before ≤ taken_of number before → taken_of number before ≤ spent_of number before + 15
      → found < need_of command → FindsSpace heap play before number found → KeepsSpace heap play before (entries.Said number command (replies.Full (need_of command) found))
  keeps_space_of_full heap play before number found own little less finds =
      making_only (λ c. found < need_of c → KeepsSpace heap play before (entries.Said number c (replies.Full (need_of c) found)))
      (λ d fields small. keeps_space_of_plain_said heap play before number (commands.New d fields) (replies.Full (need_of (commands.New d fields)) found) refl (refl, small, finds) tt tt own little)
      (λ d cells small. keeps_space_of_plain_said heap play before number (commands.Array d cells) (replies.Full (need_of (commands.Array d cells)) found) refl (refl, small, finds) tt tt own little)
      command made less

-- an array may be refused for want of spine words: that changes no object, may stand, and keeps the rules where it shows what is to be found
module _ (command : Command) (array : IsArrayCall command) where
  pub graph_same_after_spine_full : (g : Graph) (number asked found : ℕ) → after_entry g (entries.Said number command (replies.SpineFull asked found)) ≡ g
  graph_same_after_spine_full g number asked found = array_only (λ c. after_entry g (entries.Said number c (replies.SpineFull asked found)) ≡ g) (λ d cells. refl) command array

  pub accepts_spine_full : (g : Graph) (number asked found : ℕ) → IsCommand command → IsPresent g number → Accepts g (entries.Said number command (replies.SpineFull asked found))
  accepts_spine_full g number asked found ranges present =
      array_only (λ c. IsCommand c → Accepts g (entries.Said number c (replies.SpineFull asked found))) (λ d cells fits. (present, fits, tt)) command array ranges

  pub keeps_space_of_spine_full : (heap : Heap) (play : Bool) (before : List Entry) (number found : ℕ) → spent_of number before ≤ taken_of number before → taken_of number before ≤ spent_of number before + 15
      → heap.spine < found + spine_need_of command → FindsSpine heap play before number found
      → KeepsSpace heap play before (entries.Said number command (replies.SpineFull (spine_need_of command) found))
  keeps_space_of_spine_full heap play before number found own little more finds =
      array_only (λ c. heap.spine < found + spine_need_of c → KeepsSpace heap play before (entries.Said number c (replies.SpineFull (spine_need_of c) found)))
      (λ d cells many. keeps_space_of_plain_said heap play before number (commands.Array d cells) (replies.SpineFull (spine_need_of (commands.Array d cells)) found) refl tt (refl, many, finds) tt own little)
      command array more
