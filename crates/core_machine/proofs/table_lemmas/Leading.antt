-- Every step leaves words that lead within the heap.
use Rattle.std.proofs.Common.{suc, ◌≡◌, ℕ, ◌+◌, ◌*◌, ◌^◌, ◌<◌, ◌≤◌, true, cond, eqb, ltb, List, length, get_or, Option, Some, None, le-ltb, inl, inr, subst, sym, ap, arith}
use Rattle.std.proofs.lemmas.Bool.Decides.{eqb_tells, leb_tells}
use Rattle.std.proofs.lemmas.List.{get_or_past}
use Rattle.heap_words.specs.declared.cell.Cell.{Cell}
use Rattle.heap_words.specs.declared.name.Name.{Name}
use Rattle.heap_words.specs.declared.spot.Spot.{Spot}
use Rattle.heap_words.specs.declared.kind.Kind.{Kind}
use Rattle.heap_words.specs.declared.kind.Kind.TheVariants as kinds
use Rattle.heap_words.specs.Cell.{cell_word}
use Rattle.heap_words.specs.Name.{name_word}
use Rattle.heap_words.specs.Spot.{spot_word}
use Rattle.heap_model.specs.Command.{IsCommand}
use Rattle.core_machine.proofs.Terms.{Command, New, Array, Heap, Address, Register, Nil, Number, Object, at, put, index_of, InTable, FitsSpot, pointer_in, first_pointer}
use Rattle.core_machine.proofs.Terms.{reference_of, IsWithinHeap, PointersWithin, FoundPointsWithin, MakesObject, newborn_word, register_word, AreFragments, FitsRegister}
use Rattle.heap_words.specs.Newborn.{link_after, head_word_of, record_word_of, array_meta, sentinel_word_of, array_word_of}
use Rattle.core_machine.proofs.table_lemmas.Addresses.{at-put_other, equal_index_equal_address, put_word_cases}
use Rattle.core_machine.proofs.table_lemmas.CellWords.{cell_of-cell_word}

-- another word in the place of one
pub put_leads_within_heap : (heap : Heap) (words : List ℕ) (a : Address) (word : ℕ) → InTable heap a → FoundPointsWithin heap a word
    → PointersWithin heap words → PointersWithin heap (put heap words a word)
put_leads_within_heap heap words a word in_table led leads b there =
    elim (eqb_tells (index_of heap a) (index_of heap b)) as (λ _. FoundPointsWithin heap b (at heap (put heap words a word) b)) [
      | inl one ↦
          subst (λ (c : Address). FoundPointsWithin heap c (at heap (put heap words a word) c)) (equal_index_equal_address heap a b in_table there one.1)
          (put_word_cases (FoundPointsWithin heap a) heap words a word led (leads a in_table))
      | inr other ↦
          subst (FoundPointsWithin heap b) (sym (at-put_other heap words a b word in_table there (λ same. other.1 (sym (ap (index_of heap) same))))) (leads b there)
    ]

-- where the word of a cell leads
pub cell_lead : (part : ℕ) (kind : Kind) (value stamp : ℕ) → value < 2 ^ 30 → stamp < 2 ^ 32
    → pointer_in part (cell_word (record { kind = kind; value = value; stamp = stamp }))
    ≡ cond (eqb part 0) (first_pointer kind (record { kind = kind; value = value; stamp = stamp })) (reference_of kind value)
cell_lead part kind value stamp small short =
    ap (λ (c : Cell). cond (eqb part 0) (first_pointer c.kind c) (reference_of c.kind c.value)) (cell_of-cell_word kind value stamp small short)

-- where the first word leads within the heap, and each other one
first_or_later : (heap : Heap) (part : ℕ) (first later : Option ℕ) → IsWithinHeap heap first → IsWithinHeap heap later → IsWithinHeap heap (cond (eqb part 0) first later)
first_or_later heap part first later led also = elim (eqb_tells part 0) as (λ _. IsWithinHeap heap (cond (eqb part 0) first later)) [ inl e ↦ rw e.0 led | inr e ↦ rw e.0 also ]

-- a register's word leads to its object
pub register_leads_within_heap : (heap : Heap) (register : Register) (stamp part : ℕ) → 16 * heap.groups ≤ 2 ^ 16 → FitsRegister heap register → stamp < 2 ^ 32
    → IsWithinHeap heap (pointer_in part (register_word register stamp))
register_leads_within_heap heap Nil stamp part few fit small = subst (IsWithinHeap heap) (sym (cell_lead part kinds.Nil 0 stamp (omega arith) small)) (first_or_later heap part None None tt tt)
register_leads_within_heap heap (Number n) stamp part few fit small = subst (IsWithinHeap heap) (sym (cell_lead part kinds.Number n stamp fit small)) (first_or_later heap part None None tt tt)
register_leads_within_heap heap (Object head id) stamp part few fit small =
    subst (IsWithinHeap heap) (sym (cell_lead part kinds.Reference head stamp (omega (arith, fit)) small)) (first_or_later heap part (Some head) (Some head) fit fit)

-- one of the fragments, or 0 past their end
fragment_within : (heap : Heap) (fragments : List ℕ) (i : ℕ) → 0 < heap.groups → AreFragments heap fragments → get_or fragments i 0 < 16 * heap.groups
fragment_within heap fragments i some each =
    elim (leb_tells (suc i) (length fragments)) as (λ _. get_or fragments i 0 < 16 * heap.groups) [
      | inl within ↦ each i 0 within.1
      | inr past ↦ let none = get_or_past fragments i 0 (omega (arith, past.1)) in omega arith
    ]

-- the word 0 leads nowhere
pub zero_leads_within_heap : (heap : Heap) (part : ℕ) → IsWithinHeap heap (pointer_in part 0)
zero_leads_within_heap heap part = elim (eqb_tells part 0) as (λ _. IsWithinHeap heap (pointer_in part 0)) [ inl e ↦ rw e.0 tt | inr e ↦ rw e.0 tt ]

meta_leads : (heap : Heap) (fields next : ℕ) → fields < 2 ^ 13 → next < 16 * heap.groups → 16 * heap.groups ≤ 2 ^ 16
    → IsWithinHeap heap (pointer_in 0 (cell_word (record { kind = kinds.Fixed; value = fields; stamp = next })))
meta_leads heap fields next few within small =
    let short : ltb fields (2 ^ 29) ≡ true = grind arith in
    subst (IsWithinHeap heap) (sym (cell_lead 0 kinds.Fixed fields next (omega arith) (omega arith)))
    (rw short (elim (eqb_tells next 0) as (λ _. IsWithinHeap heap (cond (eqb next 0) None (Some next))) [ inl e ↦ rw e.0 tt | inr e ↦ rw e.0 within ]))

name_leads : (heap : Heap) (name : Name) → name.owner < 2 ^ 30 → name.count < 2 ^ 32 → IsWithinHeap heap (pointer_in 1 (name_word name))
name_leads heap name owner count = subst (IsWithinHeap heap) (sym (cell_lead 1 kinds.Fixed name.owner name.count owner count)) tt

link_leads : (heap : Heap) (fragments : List ℕ) (k : ℕ) → 0 < heap.groups → 16 * heap.groups ≤ 2 ^ 16 → AreFragments heap fragments
    → IsWithinHeap heap (pointer_in 0 (link_after fragments k))
link_leads heap fragments k some few each =
    let next = fragment_within heap fragments (k + 1) some each in
    elim (leb_tells (suc (k + 1)) (length fragments)) as (λ _. IsWithinHeap heap (pointer_in 0 (link_after fragments k))) [
      | inl more ↦ rw more.0 (subst (IsWithinHeap heap) (sym (cell_lead 0 kinds.Reference (get_or fragments (k + 1) 0) 0 (omega arith) (omega arith))) next)
      | inr last ↦ rw last.0 tt
    ]

-- a newborn's words lead to its own fragments
pub record_leads_within_heap : (heap : Heap) (name : Name) (fields : ℕ) (fragments : List ℕ) (k part : ℕ) → name.owner < 2 ^ 30 → name.count < 2 ^ 32 → fields < 2 ^ 13
    → 0 < heap.groups → 16 * heap.groups ≤ 2 ^ 16 → AreFragments heap fragments → IsWithinHeap heap (pointer_in part (record_word_of name fields fragments k part))
record_leads_within_heap heap name fields fragments k part owner count few some small each =
    elim (eqb_tells k 0) as (λ _. IsWithinHeap heap (pointer_in part (record_word_of name fields fragments k part))) [
      | inl head ↦ rw head.0 (elim (eqb_tells part 0) as (λ _. IsWithinHeap heap (pointer_in part (head_word_of name fields fragments part))) [
        | inl meta ↦ subst (λ (p : ℕ). IsWithinHeap heap (pointer_in p (head_word_of name fields fragments p))) (sym meta.1) (meta_leads heap fields (get_or fragments 1 0) few (fragment_within heap fragments 1 some each) small)
        | inr other ↦ elim (eqb_tells part 1) as (λ _. IsWithinHeap heap (pointer_in part (head_word_of name fields fragments part))) [
          | inl named ↦ subst (λ (p : ℕ). IsWithinHeap heap (pointer_in p (head_word_of name fields fragments p))) (sym named.1) (name_leads heap name owner count)
          | inr cell ↦ rw (other.0, cell.0) tt
        ]
      ])
      | inr chain ↦ rw chain.0 (elim (eqb_tells part 0) as (λ _. IsWithinHeap heap (pointer_in part (cond (eqb part 0) (link_after fragments k) 0))) [
        | inl link ↦ subst (λ (p : ℕ). IsWithinHeap heap (pointer_in p (cond (eqb p 0) (link_after fragments k) 0))) (sym link.1) (link_leads heap fragments k some small each)
        | inr cell ↦ rw cell.0 tt
      ])
    ]

-- an array's meta leads nowhere, and neither do the place of its spine and the fixed word after it
array_meta_leads : (heap : Heap) (cells : ℕ) → cells < 2 ^ 13 → IsWithinHeap heap (pointer_in 0 (array_meta cells))
array_meta_leads heap cells few = subst (IsWithinHeap heap) (sym (cell_lead 0 kinds.Fixed (2 ^ 29 + cells) 0 (omega arith) (omega arith))) (rw (le-ltb (2 ^ 29 + cells) (2 ^ 29) (omega arith)) tt)

pub spot_leads_within_heap : (heap : Heap) (spot : Spot) → FitsSpot spot → IsWithinHeap heap (pointer_in 2 (spot_word spot))
spot_leads_within_heap heap spot fits = subst (IsWithinHeap heap) (sym (cell_lead 2 kinds.Fixed spot.half spot.offset (omega (arith, fits.half_within)) (omega (arith, fits.offset_within)))) tt

-- the words of an array whose cells were never set lead nowhere
pub array_leads : (heap : Heap) (name : Name) (cells : ℕ) (spine : Spot) (k part : ℕ) → name.owner < 2 ^ 30 → name.count < 2 ^ 32 → cells < 2 ^ 13 → FitsSpot spine
    → IsWithinHeap heap (pointer_in part (array_word_of name cells spine k part))
array_leads heap name cells spine k part owner count few fits =
    elim (eqb_tells k 0) as (λ _. IsWithinHeap heap (pointer_in part (array_word_of name cells spine k part))) [
      | inl head ↦ rw head.0 (elim (eqb_tells part 0) as (λ _. Leads part) [
        | inl meta ↦ subst Leads (sym meta.1) (array_meta_leads heap cells few)
        | inr other ↦ elim (eqb_tells part 1) as (λ _. Leads part) [
          | inl named ↦ subst Leads (sym named.1) (name_leads heap name owner count)
          | inr unnamed ↦ elim (eqb_tells part 2) as (λ _. Leads part) [
            | inl placed ↦ subst Leads (sym placed.1) (spot_leads_within_heap heap spine fits)
            | inr fixed ↦ rw (other.0, unnamed.0, fixed.0) tt
          ]
        ]
      ])
      | inr payload ↦ rw payload.0 (zero_leads_within_heap heap part)
    ]
  where
    Leads : ℕ → Type 0
    Leads p = IsWithinHeap heap (pointer_in p (sentinel_word_of name cells spine p))

-- the words of a new object lead within the heap
pub newborn_leads_within_heap : (heap : Heap) (command : Command) (name : Name) (spine : Spot) (fragments : List ℕ) (k part : ℕ) → MakesObject command → IsCommand command → name.owner < 2 ^ 30
    → name.count < 2 ^ 32 → 0 < heap.groups → 16 * heap.groups ≤ 2 ^ 16 → FitsSpot spine → AreFragments heap fragments
    → IsWithinHeap heap (pointer_in part (newborn_word command name spine fragments k part))
newborn_leads_within_heap heap (New d fields) name spine fragments k part makes range owner count some small fits each =
    record_leads_within_heap heap name fields fragments k part owner count (omega (arith, range.1.1)) some small each
newborn_leads_within_heap heap (Array d cells) name spine fragments k part makes range owner count some small fits each =
    array_leads heap name cells spine k part owner count (omega (arith, range.1.1)) fits
newborn_leads_within_heap heap _ name spine fragments k part makes range owner count some small fits each = absurd makes
