-- Where the sources of a kept object lead: to a fragment of it, or to a kept object's first.
use Rattle.std.proofs.Common.{◌⊎◌, ◌≡◌, ℕ, zero, suc, ◌+◌, ◌-◌, ◌*◌, ◌<◌, ◌≤◌, ◌^◌, true, false, List, length, get_or, slice_get, Option, Some, None, inl, inr, refl, sym, ap, ◌∙◌, subst, arith, Bool, ◌==◌, if◌then◌else◌}
use Rattle.heap_words.specs.declared.spot.Spot.{Spot}
use Rattle.heap_model.specs.Heap.{IsHeap}
use Rattle.core_rule.proofs.Terms.{graph_of, Heap, Id, Board, Made, Graph, Node, spine_words_of, Word, State, at, spine_place, FitsSpot, pointer_in, payload_in, is_meta}
use Rattle.core_rule.proofs.Terms.{spine_words_in, record_word_of, sentinel_word_of, Book, fragment_at, id_at, object_head, WordPointsTo, Bits, FitsName, AreMade, Objects}
use Rattle.core_rule.proofs.Terms.{KeptObject, IsKept, name_of, value_word, field_word, is_cell, node_at, Owner, Kept, Rule, TellsWords}
use Rattle.heap_model.specs.declared.graph.cell.Cell.{Cell}
use Rattle.core_rule.specs.marking.Sources.{spine_pointer}
use Rattle.core_rule.proofs.colours.NewbornLeads.{IsNext, newborn_leads_to_next, zero_leads_nowhere}
use Rattle.core_rule.proofs.colours.NoSpines.{newborn_tells_no_spine, value_tells_no_spine}
use Rattle.core_rule.proofs.colours.SourceCases.{TellsNoSpine, lead_cases, no_spine_word_leads, spine_lead_is_payload}
use Rattle.std.proofs.lemmas.Bool.Decides.{nat_tests}
use Rattle.core_rule.proofs.objects.ObjectWords.{word_cases}
use Rattle.core_rule.proofs.objects.SpinePlaces.{array_spine_fits_spot}
use Rattle.core_rule.proofs.ways.ArrayWords.{sentinel_leads_nowhere, plain_pointer_is_head, value_word_is_not_fixed}
use Rattle.core_rule.proofs.ways.Told.{head_in-value}
use Rattle.core_rule.proofs.ways.KeptWords.{owned_within_heap, named_value_has_room, sized_cells_are_few, array_or_record_cases, meta_tells_spine_words, word_tells_spine_spot, spine_word_tells_payload}
use Rattle.core_rule.proofs.ways.LoadedObjects.{KeptHead, CellRefers, referred_is_kept_head, value_refers_to_head}
use Rattle.core_rule.proofs.dying.DeadWords.{no_words_behind_first}

-- a cell's word of a record is no first one
cell_part : (k part : ℕ) → is_cell k part ≡ true → 0 < part
cell_part zero part is = grind (arith, nat_tests, is)
cell_part (suc k) part is = grind (arith, nat_tests, is)

-- a name has room for an id's numbers
pub name_numbers_are_small : (id : Id) → FitsName id → ((name_of id).owner < 2 ^ 30) × ((name_of id).count < 2 ^ 32)
name_numbers_are_small Board fits = (omega arith, omega arith)
name_numbers_are_small (Made s count) fits = (omega (arith, fits.0), fits.1)

-- the fragment is one of these
pub record IsFragmentOf (fragments : List ℕ) (x : ℕ) : Type 0 where
  pub position : ℕ
  pub within : position < length fragments
  pub is : x ≡ fragment_at fragments position

module _ (heap : Heap) (words : List ℕ) (g : Graph) (made : List Id) (owner : ℕ → Owner) (fragments : ℕ → List ℕ) {spines : ℕ → Spot}
    (limits : IsHeap heap) (bits : Bits heap words owner) (ids : AreMade g made) (objects : Objects heap words g made owner fragments spines)
    (i : ℕ) (below : i < length made) (kept : IsKept owner fragments i) where
  abbrev object : Node
  object = node_at g made i

  abbrev head : Id → ℕ
  head = object_head made fragments

  abbrev the_object : KeptObject heap words owner head i (id_at made i) object (fragments i) (spines i)
  the_object = objects.kept i below kept

  pub fragment_is_small : (k : ℕ) → k < length (fragments i) → get_or (fragments i) k 0 < 2 ^ 30
  fragment_is_small k within = omega (arith, limits.groups_fit, owned_within_heap heap words owner _ _ _ bits (the_object.owned k within))

  few : length object.cells ≤ 4096
  few = (sized_cells_are_few object.array (length object.cells) the_object.sized).1

  fits_name : ((name_of (id_at made i)).owner < 2 ^ 30) × ((name_of (id_at made i)).count < 2 ^ 32)
  fits_name = name_numbers_are_small (id_at made i) (ids.fit i below)

  -- a cell leads to the object that it refers to
  cell_leads : (j part : ℕ) (o : Option Cell) → slice_get object.cells j ≡ o → (x : ℕ) → pointer_in part (field_word head o) ≡ Some x → CellRefers g made owner fragments i x
  cell_leads j part None none x leads = let nowhere : pointer_in part 0 ≡ None = zero_leads_nowhere part in absurd (cc (nowhere, leads))
  cell_leads j part (Some cell) there x leads =
      let named = objects.named i j below kept cell there in
      let room = named_value_has_room heap words g made owner fragments limits bits cell.value named.0 in
      record {
        position = j;
        cell = cell;
        there = there;
        refers = value_refers_to_head made owner fragments cell.value named.0 x
            (sym (head_in-value head cell.value cell.stamp room named.1) ∙ sym (plain_pointer_is_head part (value_word head cell.value cell.stamp) (value_word_is_not_fixed head cell.value cell.stamp room named.1)) ∙ leads);
      }

  -- and is no array's meta, nor a record's
  cell_no_spine : (j : ℕ) (o : Option Cell) → slice_get object.cells j ≡ o → spine_words_in (field_word head o) ≡ 0
  cell_no_spine j None none = refl
  cell_no_spine j (Some cell) there =
      let named = objects.named i j below kept cell there in
      value_tells_no_spine head cell.value cell.stamp (named_value_has_room heap words g made owner fragments limits bits cell.value named.0) named.1

  pub cell_is_no_meta : (j : ℕ) (o : Option Cell) → slice_get object.cells j ≡ o → is_meta (field_word head o) ≡ false
  cell_is_no_meta j None none = refl
  cell_is_no_meta j (Some cell) there =
      let named = objects.named i j below kept cell there in
      value_word_is_not_fixed head cell.value cell.stamp (named_value_has_room heap words g made owner fragments limits bits cell.value named.0) named.1

  -- what is true of the words of its frame and of its cells is true of each word found
  pub found_cases : (P : ℕ → Type 0) (k part : ℕ) → k < length (fragments i) → part < 4
      → (object.array ≡ false → is_cell k part ≡ true → P (field_word head (slice_get object.cells (3 * k + part - 2))))
      → (object.array ≡ false → is_cell k part ≡ false → P (record_word_of (name_of (id_at made i)) (length object.cells) (fragments i) k part))
      → (object.array ≡ true → k ≡ 0 → P (sentinel_word_of (name_of (id_at made i)) (length object.cells) (spines i) part))
      → (object.array ≡ true → 1 ≤ k → P (field_word head (slice_get object.cells (4 * (k - 1) + part))))
      → P (at heap words (Word (fragment_at (fragments i) k) part))
  found_cases P k part within first field frame sentinel cell =
      subst P (sym (the_object.stored k part within first)) (word_cases head (name_of (id_at made i)) (spines i) (fragments i) P object k part field frame sentinel cell)

  -- no fragment has a spine but an array's first one, since it begins with a record's meta, a link or a cell
  pub object_no_spine : (k : ℕ) → k < length (fragments i) → (object.array ≡ true → 1 ≤ k) → TellsNoSpine heap words (fragment_at (fragments i) k)
  object_no_spine k within behind = found_cases (λ w. spine_words_in w ≡ 0) k 0 within (omega arith)
      (λ kind is. let later = cell_part k 0 is in absurd (omega (arith, later)))
      (λ kind is. newborn_tells_no_spine (fragments i) fragment_is_small (name_of (id_at made i)) (length object.cells) k (omega (arith, few)))
      (λ kind first. absurd (omega (arith, behind kind, first)))
      (λ kind later. cell_no_spine (4 * (k - 1) + 0) (slice_get object.cells (4 * (k - 1) + 0)) refl)

  module _ (fits : object.array ≡ true → FitsSpot (spines i)) where
    next_fragment : (k x : ℕ) → IsNext (fragments i) fragment_is_small k x → IsFragmentOf (fragments i) x
    next_fragment k x next = record { position = k + 1; within = next.0; is = next.1 }

    -- where a word leads
    word_refers : (k part x : ℕ) → k < length (fragments i) → part < 4 → pointer_in part (at heap words (Word (fragment_at (fragments i) k) part)) ≡ Some x
        → IsFragmentOf (fragments i) x ⊎ CellRefers g made owner fragments i x
    word_refers k part x within first =
        found_cases (λ w. pointer_in part w ≡ Some x → IsFragmentOf (fragments i) x ⊎ CellRefers g made owner fragments i x) k part within first
        (λ kind is to. inr (cell_leads (3 * k + part - 2) part (slice_get object.cells (3 * k + part - 2)) refl x to))
        (λ kind is to. inl (next_fragment k x (newborn_leads_to_next (fragments i) fragment_is_small (name_of (id_at made i)) (length object.cells) k part x fits_name.0 fits_name.1 (omega (arith, few)) to)))
        (λ kind is to. absurd (let nowhere = sentinel_leads_nowhere (name_of (id_at made i)) (length object.cells) (spines i) part fits_name.0 fits_name.1 (omega (arith, few)) (fits kind) in cc (nowhere, to)))
        (λ kind later to. inr (cell_leads (4 * (k - 1) + part) part (slice_get object.cells (4 * (k - 1) + part)) refl x to))

    -- and a word of an array's spine
    spine_refers : object.array ≡ true → (j x : ℕ) → spine_pointer heap words (fragment_at (fragments i) 0) j ≡ Some x → IsFragmentOf (fragments i) x
    spine_refers kind j x to =
        let its = spine_lead_is_payload heap words (fragment_at (fragments i) 0) j x to in
        let within : j < spine_words_of object = subst (λ n. j < n) (meta_tells_spine_words heap words g made owner fragments limits bits ids objects i below kept kind) its.0 in
        let payload = spine_word_tells_payload heap words g made owner fragments limits bits ids objects i below kept j within in
        record {
          position = j + 1;
          within = payload.0;
          is = its.1 ∙ ap (λ s. payload_in (at heap words (spine_place s j))) (word_tells_spine_spot heap words g made owner fragments limits bits ids objects i below kept kind (fits kind)) ∙ payload.1;
        }

    -- and where each source does: to a fragment of the object, or to what a cell refers to
    pub object_refers : (k source x : ℕ) → k < length (fragments i) → WordPointsTo heap words (fragment_at (fragments i) k) source x
        → IsFragmentOf (fragments i) x ⊎ CellRefers g made owner fragments i x
    object_refers k source x within = lead_cases heap words (fragment_at (fragments i) k) (IsFragmentOf (fragments i) x ⊎ CellRefers g made owner fragments i x) source x
        (λ first to. word_refers k source x within first to)
        (λ behind to. array_or_record_cases heap words g made owner fragments limits bits ids objects i below kept (IsFragmentOf (fragments i) x ⊎ CellRefers g made owner fragments i x)
        (λ kind. by_row kind k within to)
        (λ kind. absurd (no_spine_word_leads heap words (fragment_at (fragments i) k) (object_no_spine k within (λ array. absurd (cc (kind, array)))) (source - 4) x to)))
      where
        by_row : object.array ≡ true → (n : ℕ) → n < length (fragments i) → spine_pointer heap words (fragment_at (fragments i) n) (source - 4) ≡ Some x
            → IsFragmentOf (fragments i) x ⊎ CellRefers g made owner fragments i x
        by_row kind zero inside to = inl (spine_refers kind (source - 4) x to)
        by_row kind (suc n) inside to = absurd (no_spine_word_leads heap words (fragment_at (fragments i) (suc n)) (object_no_spine (suc n) inside (λ array. omega arith)) (source - 4) x to)

module _ (heap : Heap) (state : State) (book : Book) (rule : Rule heap state book) (f i k : ℕ) (owned : book.owner f ≡ Kept i k) where
  there : (i < length book.made) × IsKept book.owner book.fragments i × (k < length (book.fragments i)) × (f ≡ fragment_at (book.fragments i) k)
  there = rule.heap_stands.objects.back f i k owned

  abbrev its_object : Node
  its_object = node_at (graph_of heap book.history) book.made i

  -- by the rule, no fragment of a kept object has a spine but an array's first one
  pub kept_tells_no_spine : ((node_at (graph_of heap book.history) book.made i).array ≡ true → 1 ≤ k) → TellsNoSpine heap state.words f
  kept_tells_no_spine behind = subst (TellsNoSpine heap state.words) (sym there.3)
      (object_no_spine heap state.words (graph_of heap book.history) book.made book.owner book.fragments rule.machine.limits rule.heap_stands.control_words rule.heap_stands.ids
      rule.heap_stands.objects i there.0 there.1 k there.2 behind)

  -- and an array's first one tells how many words it has
  pub kept_tells_spine_words : (i < length book.made) × TellsWords its_object k (at heap state.words (Word f 0))
  kept_tells_spine_words = (there.0, record { sized = (rule.heap_stands.objects.kept i there.0 there.1).sized; told = by k refl its_object.array refl })
    where
      by : (n : ℕ) → k ≡ n → (array : Bool) → its_object.array ≡ array → spine_words_in (at heap state.words (Word f 0)) ≡ (if n == 0 then spine_words_of its_object else 0)
      by zero first true kind =
          ap (λ x. spine_words_in (at heap state.words (Word x 0))) (there.3 ∙ ap (fragment_at (book.fragments i)) first)
          ∙ meta_tells_spine_words heap state.words (graph_of heap book.history) book.made book.owner book.fragments rule.machine.limits rule.heap_stands.control_words rule.heap_stands.ids
          rule.heap_stands.objects i there.0 there.1 kind
      by zero first false kind = kept_tells_no_spine (λ array. absurd (cc (kind, array))) ∙ rw kind refl
      by (suc n) later array kind = kept_tells_no_spine (λ _. omega (arith, later)) ∙ sym (no_words_behind_first (suc n) (spine_words_of its_object) (omega arith))

  -- and each of its sources leads to a fragment of its object, or to what a cell of that refers to
  pub kept_leads_to_fragment_or_cell : (source x : ℕ) → WordPointsTo heap state.words f source x
      → IsFragmentOf (book.fragments i) x ⊎ CellRefers (graph_of heap book.history) book.made book.owner book.fragments i x
  kept_leads_to_fragment_or_cell source x leads =
      object_refers heap state.words (graph_of heap book.history) book.made book.owner book.fragments rule.machine.limits rule.heap_stands.control_words rule.heap_stands.ids
      rule.heap_stands.objects i there.0 there.1 (array_spine_fits_spot rule i there.0 there.1) k source x there.2 (subst (λ y. WordPointsTo heap state.words y source x) there.3 leads)

  pub kept_leads_to_kept : (source x : ℕ) → WordPointsTo heap state.words f source x → IsFragmentOf (book.fragments i) x ⊎ KeptHead book.made book.owner book.fragments x
  kept_leads_to_kept source x leads = elim (kept_leads_to_fragment_or_cell source x leads) [
    | inl fragment ↦ inl fragment
    | inr cell ↦ inr (referred_is_kept_head book.made book.owner book.fragments cell.cell.value x cell.refers)
  ]

  -- whose fragment that is
  pub fragment_is_kept : (x : ℕ) (fragment : IsFragmentOf (book.fragments i) x) → book.owner x ≡ Kept i fragment.position
  fragment_is_kept x fragment = ap book.owner fragment.is ∙ (rule.heap_stands.objects.kept i there.0 there.1).owned fragment.position fragment.within
