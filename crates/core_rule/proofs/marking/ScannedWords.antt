-- What the words of a grey fragment tell a scan: what they lead to may be marked, and which word comes next.
use Rattle.std.specs.Prelude.{if◌then◌else◌}
use Rattle.std.proofs.lemmas.Bool.{false≢true}
use Rattle.std.proofs.lemmas.Bool.Decides.{nat_tests, eqb_tells, leb_tells}
use Rattle.std.proofs.Common.{get_or, ◌≡◌, ◌≢◌, ℕ, zero, suc, ◌+◌, ◌-◌, ◌*◌, ◌<◌, ◌≤◌, ◌^◌, eqb, Bool, true, false, List, length, slice_get, Some, None, inl, inr, refl, sym, ap, ◌∙◌, subst, arith}
use Rattle.heap_words.specs.declared.cell.Cell.{Cell}
use Rattle.heap_words.specs.declared.kind.Kind.{Kind}
use Rattle.heap_words.specs.declared.kind.Kind.TheVariants as kinds
use Rattle.heap_words.specs.declared.name.Name.{Name}
use Rattle.heap_words.specs.Cell.{cell_of}
use Rattle.core_rule.proofs.Terms.{Heap, graph_of, phase, Graph, Node, Word, State, pointer_in, is_meta, is_fixed, array_length_in, array_length_of, at, link_after, Book, Colour}
use Rattle.core_rule.proofs.Terms.{Grey, fragment_at, id_at, object_head, IsMarked, WordPointsTo, IsBetween, IsKeptFragment, MayMark, IsSeen, ComesAfter, IsKept, KeptObject, name_of}
use Rattle.core_rule.proofs.Terms.{is_cell, node_at, Kept, Rule}
use Rattle.core_machine.specs.collector.Marking.{part_after}
use Rattle.core_rule.proofs.colours.NewbornLeads.{newborn_word_is_link}
use Rattle.core_rule.proofs.colours.SourceCases.{word_pointer_of_lead}
use Rattle.core_rule.proofs.marking.ObjectEdges.{name_numbers_are_small, fragment_is_small, found_cases, cell_is_no_meta, kept_leads_to_kept, fragment_is_kept}
use Rattle.core_rule.proofs.objects.ObjectWords.{object_word_is_name}
use Rattle.core_rule.proofs.objects.SpinePlaces.{array_spine_fits_spot}
use Rattle.core_rule.proofs.ways.ArrayWords.{fixed_word_has_no_head, sentinel_leads_nowhere}
use Rattle.core_rule.proofs.ways.KeptWords.{sized_cells_are_few, meta_tells_array_length}
use Rattle.core_machine.proofs.table_lemmas.CellWords.{cell_of-cell_word}

-- a first word is no cell
no_cell : (n : ℕ) → is_cell (suc n) 0 ≢ true
no_cell n is = grind (arith, nat_tests, is)

-- a link is no meta
link_no_meta : (fragments : List ℕ) (n : ℕ) → ((m : ℕ) → m < length fragments → get_or fragments m 0 < 2 ^ 30) → is_meta (link_after fragments n) ≡ false
link_no_meta fragments n small = elim (leb_tells (suc (n + 1)) (length fragments)) as (λ _. is_meta (link_after fragments n) ≡ false) [
  | inl more ↦ rw more.0 (ap (λ (c : Cell). is_fixed c.kind) (cell_of-cell_word kinds.Reference (get_or fragments (n + 1) 0) 0 (small (n + 1) (omega (arith, more.1))) (omega arith)))
  | inr last ↦ rw last.0 refl
]

-- a word that tells an array's length is a meta
told_meta : (kind : Kind) (cell : Cell) (cells : ℕ) → array_length_in kind cell ≡ Some cells → is_fixed kind ≡ true
told_meta kinds.Fixed cell cells told = refl
told_meta kinds.Nil cell cells told = absurd (cc told)
told_meta kinds.Number cell cells told = absurd (cc told)
told_meta kinds.Reference cell cells told = absurd (cc told)

module _ (heap : Heap) (state : State) (book : Book) (rule : Rule heap state book) (f : ℕ) (source_fragment : IsKeptFragment book.owner f) where
  abbrev i : ℕ
  i = source_fragment.index

  abbrev k : ℕ
  k = source_fragment.position

  there : (i < length book.made) × IsKept book.owner book.fragments i × (k < length (book.fragments i)) × (f ≡ fragment_at (book.fragments i) k)
  there = rule.heap_stands.objects.back f i k source_fragment.kept

  abbrev object : Node
  object = node_at (graph_of heap book.history) book.made i

  the_object : KeptObject heap state.words book.owner (object_head book.made book.fragments) i (id_at book.made i) object (book.fragments i) (book.spines i)
  the_object = rule.heap_stands.objects.kept i there.0 there.1

  -- where a fragment of a kept object is grey, what it leads to may be marked
  pub grey_target_may_be_marked : IsBetween 1 5 (phase book.history) → book.colour f ≡ Grey → (source m : ℕ) → WordPointsTo heap state.words f source m → MayMark book.owner book.colour book.fragments m
  grey_target_may_be_marked cycle grey source m leads = elim (kept_leads_to_kept heap state book rule f i k source_fragment.kept source m leads) as (λ _. MayMark book.owner book.colour book.fragments m) [
    | inl fragment ↦ record {
      kept_fragment = record { index = i; position = fragment.position; kept = fragment_is_kept heap state book rule f i k source_fragment.kept m fragment };
      first = inr (rule.heap_stands.cycle.coloured.first cycle f i k source_fragment.kept (λ white. absurd (cc (grey, white))));
    }
    | inr head ↦ record { kept_fragment = record { index = head.index; position = 0; kept = ap book.owner head.is ∙ head.kept }; first = inl refl }
  ]

  -- an object's name leads nowhere
  name_nowhere : k ≡ 0 → (g : ℕ) → ¬ WordPointsTo heap state.words f 1 g
  name_nowhere first g leads =
      let head : f ≡ fragment_at (book.fragments i) 0 = there.3 ∙ ap (fragment_at (book.fragments i)) first in
      let stored = the_object.stored 0 1 (subst (λ x. x < length (book.fragments i)) first there.2) (omega arith) in
      let name : Name = name_of (id_at book.made i) in
      let fits = name_numbers_are_small (id_at book.made i) (rule.heap_stands.ids.fit i there.0) in
      let none : pointer_in 1 (at heap state.words (Word f 1)) ≡ None = ap (λ x. pointer_in 1 (at heap state.words (Word x 1))) head
      ∙ ap (pointer_in 1) (stored ∙ object_word_is_name (object_head book.made book.fragments) name (book.spines i) (book.fragments i) object) ∙ fixed_word_has_no_head name.owner name.count fits.0 fits.1 in
      absurd (cc (none, leads.to))

  -- a meta stands in an object's first fragment alone
  meta_first : (n : ℕ) → k ≡ n → is_meta (at heap state.words (Word f 0)) ≡ true → k ≡ 0
  meta_first zero is meta = is
  meta_first (suc n) is meta =
      let later : f ≡ fragment_at (book.fragments i) (suc n) = there.3 ∙ ap (fragment_at (book.fragments i)) is in
      let g : Graph = graph_of heap book.history in
      let smalls = fragment_is_small heap state.words g book.made book.owner book.fragments rule.machine.limits rule.heap_stands.control_words
      rule.heap_stands.ids rule.heap_stands.objects i there.0 there.1 in
      let within : suc n < length (book.fragments i) = subst (λ x. x < length (book.fragments i)) is there.2 in
      let no_meta : is_meta (at heap state.words (Word f 0)) ≡ false = ap (λ x. is_meta (at heap state.words (Word x 0))) later
      ∙ found_cases heap state.words g book.made book.owner book.fragments rule.machine.limits rule.heap_stands.control_words rule.heap_stands.ids rule.heap_stands.objects i there.0 there.1
      (λ w. is_meta w ≡ false) (suc n) 0 within (omega arith)
      (λ kind cell. absurd (no_cell n cell)) (λ kind frame. ap is_meta (newborn_word_is_link (book.fragments i) smalls (name_of (id_at book.made i)) (length object.cells) n) ∙ link_no_meta (book.fragments i) (suc n) smalls)
      (λ kind first. absurd (omega (arith, first)))
      (λ kind behind. cell_is_no_meta heap state.words g book.made book.owner book.fragments rule.machine.limits rule.heap_stands.control_words rule.heap_stands.ids rule.heap_stands.objects i there.0 there.1
      (4 * (suc n - 1) + 0) (slice_get object.cells (4 * (suc n - 1) + 0)) refl) in
      absurd (false≢true (sym no_meta ∙ meta))

  -- where it tells an array's length, that is its object's, which is an array
  pub array_length_is_objects : (cells : ℕ) → array_length_of (at heap state.words (Word f 0)) ≡ Some cells → (k ≡ 0) × (object.array ≡ true) × (length object.cells ≡ cells)
  array_length_is_objects cells told =
      let g : Graph = graph_of heap book.history in
      let first = meta_first k refl (told_meta (cell_of (at heap state.words (Word f 0))).kind (cell_of (at heap state.words (Word f 0))) cells told) in
      let head : f ≡ fragment_at (book.fragments i) 0 = there.3 ∙ ap (fragment_at (book.fragments i)) first in
      let found = meta_tells_array_length heap state.words g book.made book.owner book.fragments rule.machine.limits rule.heap_stands.control_words rule.heap_stands.ids rule.heap_stands.objects i there.0 there.1 in
      let both : (if object.array then Some (length object.cells) else None) ≡ Some cells = sym found ∙ ap (λ x. array_length_of (at heap state.words (Word x 0))) (sym head) ∙ told in
      let its = by object.array both in
      (first, its.0, its.1)
    where
      by : (array : Bool) → (if array then Some (length object.cells) else None) ≡ Some cells → (array ≡ true) × (length object.cells ≡ cells)
      by true same = (refl, cc same)
      by false same = absurd (cc same)

  -- which has few cells
  pub array_has_few_cells : object.array ≡ true → length object.cells ≤ 4096
  array_has_few_cells kind = (sized_cells_are_few object.array (length object.cells) the_object.sized).1

  -- none of its four words leads anywhere, so all of them are seen to
  pub sentinel_words_are_seen : book.colour f ≡ Grey → k ≡ 0 → object.array ≡ true → IsSeen heap state.words book.colour f 4
  sentinel_words_are_seen grey first kind = record { grey = grey; seen = λ p g below leads. absurd (nowhere p g below leads) }
    where
      nowhere : (p g : ℕ) → p < 4 → ¬ WordPointsTo heap state.words f p g
      nowhere p g below leads =
          let made : Graph = graph_of heap book.history in
          let name : Name = name_of (id_at book.made i) in
          let fits = name_numbers_are_small (id_at book.made i) (rule.heap_stands.ids.fit i there.0) in
          let few = sized_cells_are_few object.array (length object.cells) the_object.sized in
          let none : pointer_in p (at heap state.words (Word f p)) ≡ None = ap (λ x. pointer_in p (at heap state.words (Word x p))) there.3
          ∙ found_cases heap state.words made book.made book.owner book.fragments rule.machine.limits rule.heap_stands.control_words rule.heap_stands.ids rule.heap_stands.objects i there.0 there.1
          (λ w. pointer_in p w ≡ None) k p there.2 below
          (λ record_kind cell. absurd (cc (kind, record_kind)))
          (λ record_kind frame. absurd (cc (kind, record_kind)))
          (λ array head. sentinel_leads_nowhere name (length object.cells) (book.spines i) p fits.0 fits.1 (omega (arith, few.1)) (array_spine_fits_spot rule i there.0 there.1 kind))
          (λ array behind. absurd (omega (arith, behind, first))) in
          absurd (let to = word_pointer_of_lead heap state.words f p g below leads in cc (none, to))

  -- which word comes next
  pub next_part_comes_after : (part : ℕ) → ComesAfter book.owner f part (part_after part (at heap state.words (Word f part)))
  next_part_comes_after zero = by (is_meta (at heap state.words (Word f 0))) refl
    where
      by : (meta : Bool) → is_meta (at heap state.words (Word f 0)) ≡ meta → ComesAfter book.owner f 0 (if meta then 2 else 1)
      by true is = inr (refl, refl, (i, source_fragment.kept ∙ ap (Kept i) (meta_first k refl is)))
      by false is = inl refl
  next_part_comes_after (suc part) = let later : eqb (suc part) 0 ≡ false = grind arith in inl (rw later refl)

  -- what was seen up to a word, and at it, is seen up to the next
  pub seen_up_to_next : (words : List ℕ) (colour : ℕ → Colour) (part next : ℕ) → ((p g : ℕ) → WordPointsTo heap words f p g → WordPointsTo heap state.words f p g)
      → IsSeen heap words colour f part → ((g : ℕ) → WordPointsTo heap words f part g → IsMarked colour g) → ComesAfter book.owner f part next → IsSeen heap words colour f next
  seen_up_to_next words colour part next back seen here comes = record { grey = seen.grey; seen = λ p g below leads. each p g below leads comes }
    where
      first : (j : ℕ) → book.owner f ≡ Kept j 0 → k ≡ 0
      first j is = let both : Kept i k ≡ Kept j 0 = sym source_fragment.kept ∙ is in cc

      each : (p g : ℕ) → p < next → WordPointsTo heap words f p g → ComesAfter book.owner f part next → IsMarked colour g
      each p g below leads comes = elim (eqb_tells p part) as (λ _. IsMarked colour g) [
        | inl same ↦ here g (subst (λ x. WordPointsTo heap words f x g) same.1 leads)
        | inr other ↦ elim comes as (λ _. IsMarked colour g) [
          | inl on ↦ seen.seen p g (omega (arith, below, on, other.1)) leads
          | inr past ↦ absurd (name_nowhere (first past.2.0 past.2.1) g (back 1 g (subst (λ x. WordPointsTo heap words f x g) (omega (arith, below, past.0, past.1, other.1)) leads)))
        ]
      ]
