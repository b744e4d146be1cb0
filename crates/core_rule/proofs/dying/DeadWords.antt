-- What the first words of fragments that are to be freed tell stands as before where a step leaves them.
use Rattle.std.proofs.Common.{◌≡◌, ◌≢◌, ℕ, ◌*◌, ◌==◌, ◌<◌, if◌then◌else◌, List, sym, ap, ◌∙◌, arith, inl, inr}
use Rattle.core_rule.proofs.Terms.{Heap, Node, Control, Word, spine_words_in, at, put, Owner, Dead, TellsWords, DeadTell, Bits}
use Rattle.heap_model.proofs.graph_changes.Shapes.{SameShape, same_shape_same_words}
use Rattle.core_rule.proofs.words.Addresses.{word_same_after_control, other_fragment_word_stays}
use Rattle.std.proofs.lemmas.Bool.{cases_lt}
use Rattle.std.proofs.lemmas.Bool.Decides.{nat_tests}

-- what is to be freed then was so, and has its first word as before
abbrev pub DeadStay : Heap → List ℕ → List ℕ → (ℕ → Owner) → (ℕ → Owner) → Type 0
DeadStay heap words now owner now_owner = (f i k : ℕ) → now_owner f ≡ Dead i k → (owner f ≡ Dead i k) × (at heap now (Word f 0) ≡ at heap words (Word f 0))

-- it is one of the heap's
pub dead_within_heap : (heap : Heap) (words : List ℕ) (owner : ℕ → Owner) (f i k : ℕ) → Bits heap words owner → owner f ≡ Dead i k → f < 16 * heap.groups
dead_within_heap heap words owner f i k bits is = elim (cases_lt f (16 * heap.groups)) [
  | inl below ↦ below
  | inr past ↦ let none = bits.outside f past in absurd (cc)
]

-- so it is where a control word is written
pub dead_stay_after_control : (heap : Heap) (words : List ℕ) (owner now_owner : ℕ → Owner) (g n : ℕ) → g < heap.groups
    → ((f i k : ℕ) → now_owner f ≡ Dead i k → owner f ≡ Dead i k) → DeadStay heap words (put heap words (Control g) n) owner now_owner
dead_stay_after_control heap words owner now_owner g n below was f i k is = (was f i k is, word_same_after_control heap words n g f 0 below)

-- and where a word of a fragment is that isn't to be freed
pub dead_stay_after_word : (heap : Heap) (words : List ℕ) (owner : ℕ → Owner) (x part n : ℕ) → part < 4 → ((i k : ℕ) → owner x ≢ Dead i k)
    → DeadStay heap words (put heap words (Word x part) n) owner owner
dead_stay_after_word heap words owner x part n fits undead f i k is =
    (is, other_fragment_word_stays heap words n x part f 0 fits (omega arith) (λ same. undead i k (ap owner (sym same) ∙ is)))

-- behind an object's first fragment no word is told
pub no_words_behind_first : (position n : ℕ) → 0 < position → (if position == 0 then n else 0) ≡ 0
no_words_behind_first position n behind = grind (arith, nat_tests, behind)

-- a word tells the words of an object of the same shape
tells_as : (object now : Node) (position word later : ℕ) → SameShape now object → later ≡ word → TellsWords object position word → TellsWords now position later
tells_as object now position word later same is tells = record {
  sized = rw (same.kind, same.cells) tells.sized;
  told = ap spine_words_in is ∙ tells.told ∙ ap (λ n. if position == 0 then n else 0) (sym (same_shape_same_words now object same));
}

-- so what is to be freed tells its words
pub dead_tell_still : (heap : Heap) (words now : List ℕ) (made : ℕ) (nodes now_nodes : ℕ → Node) (owner now_owner : ℕ → Owner)
    → ((i : ℕ) → i < made → SameShape (now_nodes i) (nodes i)) → DeadStay heap words now owner now_owner → DeadTell heap words made nodes owner → DeadTell heap now made now_nodes now_owner
dead_tell_still heap words now made nodes now_nodes owner now_owner shapes stay old f i k is =
    let was = stay f i k is in
    let one = old f i k was.0 in
    (one.0, tells_as (nodes i) (now_nodes i) k (at heap words (Word f 0)) (at heap now (Word f 0)) (shapes i one.0) was.1 one.1)
