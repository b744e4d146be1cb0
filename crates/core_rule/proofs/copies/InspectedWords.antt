-- The first words of marked fragments: an array's first one alone begins with an array's meta.
use Rattle.std.proofs.Common.{◌≡◌, ◌≢◌, ℕ, zero, suc, ◌+◌, ◌-◌, ◌*◌, ◌<◌, ◌≤◌, ◌^◌, Bool, true, false, eqb, inl, inr, List, [], ◌∷◌, ◌++◌, length, get_or, slice_get, Some, None, refl, sym, ap, ◌∙◌, arith}
use Rattle.std.proofs.lemmas.Bool.{cases_lt}
use Rattle.std.proofs.lemmas.Bool.Decides.{leb_tells}
use Rattle.std.proofs.lemmas.List.{get_or_past}
use Rattle.heap_words.specs.declared.cell.Cell.{Cell}
use Rattle.heap_words.specs.declared.kind.Kind.{Kind}
use Rattle.heap_words.specs.declared.kind.Kind.TheVariants as kinds
use Rattle.heap_words.specs.declared.name.Name.{Name}
use Rattle.heap_words.specs.declared.spot.Spot.{Spot}
use Rattle.heap_words.specs.Cell.{cell_of}
use Rattle.core_rule.proofs.Terms.{Command, Heap, array_words, graph_of, Graph, Node, Word, State, seat_at, Listing, Bearing, Point, MakesObject, IsArrayCall, Fits, FitsPoint}
use Rattle.core_rule.proofs.Terms.{HasBody, SpineIsListed, newborn_word, newborn_word_of, next_name, Seat, array_length_in, array_length_of, is_fixed, is_meta, tally, at}
use Rattle.core_rule.proofs.Terms.{link_after, record_word_of, Book, fragment_at, id_at, object_head, IsMarked, AfterMarking, name_of, node_at, field_word, IsKept, Holding, Owner}
use Rattle.core_rule.proofs.Terms.{Free, Taken, Borne, Kept, Dead, holds_bit, born_bit, HasPlace, BeginsArray, Rule}
use Rattle.heap_model.specs.declared.command.Command.TheVariants as commands
use Rattle.heap_model.specs.Command.{IsCommand}
use Rattle.core_machine.specs.declared.point.Making.TheVariants.{Storing}
use Rattle.core_machine.specs.declared.point.Point.TheVariants as points
use Rattle.core_machine.proofs.table_lemmas.CellWords.{cell_of-cell_word}
use Rattle.core_rule.proofs.entries.AtRest.{seat_fits}
use Rattle.core_rule.proofs.held.BodyWords.{bearing_has_stored_all}
use Rattle.core_rule.proofs.lists.Members.{position_of, element_stands_at_position}
use Rattle.core_rule.proofs.lists.Tallies.{one_at_same_is_one}
use Rattle.core_rule.proofs.marking.ObjectEdges.{found_cases, cell_is_no_meta, fragment_is_small}
use Rattle.core_rule.proofs.objects.LastBirth.{all_words_are_stored}
use Rattle.core_rule.proofs.owners.Seated.{borne_is_in_seat_body}
use Rattle.core_rule.proofs.ways.KeptWords.{meta_tells_array_length, sized_cells_are_few}
use Rattle.core_rule.proofs.ways.Told.{array_length_in-record}

-- a word that isn't fixed tells no array's length
plain_length : (kind : Kind) (cell : Cell) → is_fixed kind ≡ false → array_length_in kind cell ≡ None
plain_length kinds.Nil cell plain = refl
plain_length kinds.Number cell plain = refl
plain_length kinds.Reference cell plain = refl
plain_length kinds.Fixed cell plain = absurd (cc plain)

no_length : (word : ℕ) → is_meta word ≡ false → array_length_of word ≡ None
no_length word plain = plain_length (cell_of word).kind (cell_of word) plain

-- nor does a link, or the 0 in the last fragment
module _ (fragments : List ℕ) (small_ : (i : ℕ) → i < length fragments → get_or fragments i 0 < 2 ^ 30) where
  link_no_length : (k : ℕ) → array_length_of (link_after fragments k) ≡ None
  link_no_length k = elim (leb_tells (suc (k + 1)) (length fragments)) as (λ _. array_length_of (link_after fragments k) ≡ None) [
    | inl more ↦ rw more.0 (ap (λ (c : Cell). array_length_in c.kind c) (cell_of-cell_word kinds.Reference (get_or fragments (k + 1) 0) 0 (small_ (k + 1) (omega (arith, more.1))) (omega arith)))
    | inr last ↦ rw last.0 refl
  ]

  -- or a record's meta
  second_small : get_or fragments 1 0 < 2 ^ 32
  second_small = elim (cases_lt 1 (length fragments)) [
    | inl within ↦ omega (arith, small_ 1 within)
    | inr past ↦ let none : get_or fragments 1 0 ≡ 0 = get_or_past fragments 1 0 past in omega (arith, none)
  ]

  record_no_length : (name : Name) (fields k : ℕ) → fields < 2 ^ 13 → array_length_of (record_word_of name fields fragments k 0) ≡ None
  record_no_length name fields zero few = array_length_in-record fields fragments few second_small
  record_no_length name fields (suc k) few = let later : eqb (suc k) 0 ≡ false = grind arith in rw later (link_no_length (suc k))

  -- so no fragment of a newborn object tells one but an array's first
  newborn_no_length : (command : Command) (name : Name) (spine : Spot) (k : ℕ) → MakesObject command → IsCommand command → (IsArrayCall command → k ≢ 0)
      → array_length_of (newborn_word command name spine fragments k 0) ≡ None
  newborn_no_length (commands.New d fields) name spine k made range behind = record_no_length name fields k (omega (arith, range.1.1))
  newborn_no_length (commands.Array d cells) name spine zero made range behind = absurd (behind tt refl)
  newborn_no_length (commands.Array d cells) name spine (suc k) made range behind = let later : eqb (suc k) 0 ≡ false = grind arith in rw later refl
  newborn_no_length _ name spine k made range behind = absurd made

-- the first of a list that begins with what a seat has unborn
front_held : (owner : ℕ → Owner) (number : ℕ) (reserve hand body born : List ℕ) → Holding owner number reserve hand body → 0 < length hand → owner (get_or (hand ++ born) 0 0) ≢ Borne number
front_held owner number reserve [] body born holding some bears = absurd (omega (arith, some))
front_held owner number reserve (x ∷ hand) body born holding some bears =
    let none : holds_bit number (owner x) ≡ 0 = ap (holds_bit number) bears in
    omega (arith, holding.held x, none, one_at_same_is_one x x refl)

module _ (heap : Heap) (state : State) (book : Book) (rule : Rule heap state book) (f : ℕ) where
  abbrev word : ℕ
  word = at heap state.words (Word f 0)

  module _ (number : ℕ) (bears : book.owner f ≡ Borne number) where
    abbrev seat : Seat
    seat = seat_at state number

    there : (number < heap.seats) × (1 ≤ tally f seat.body)
    there = borne_is_in_seat_body heap state book rule number f bears

    fits : Fits heap seat
    fits = seat_fits rule number there.0

    born : HasBody seat × (seat.stored ≡ 4 * length seat.body) × SpineIsListed seat.command seat.spine seat.listed × (IsArrayCall seat.command → HasPlace seat seat.point)
    born = bearing_has_stored_all heap state book rule number f bears seat.point fits.at_point

    -- while an array has a borne fragment something of it is in the hand
    hand_some : (point : Point) → FitsPoint heap seat point → HasPlace seat point → 0 < length seat.hand
    hand_some (points.Making Listing) fits has = absurd (omega (arith, fits.0.2.none_stored, born.1, (element_stands_at_position f seat.body there.1).0))
    hand_some (points.Making Storing) fits has = absurd (omega (arith, fits.2, born.1))
    hand_some (points.Making Bearing) fits has = fits.1
    hand_some _ fits has = absurd has

    -- so that its first fragment isn't borne
    behind_first : IsArrayCall seat.command → position_of f seat.body ≢ 0
    behind_first array first =
        let own = (rule.seats_stand number there.0).own in
        let order = own.together.chosen (λ none. absurd (let all : tally f seat.body ≡ 0 = rw none refl in omega (arith, all, there.1))) in
        let at_first : get_or (seat.hand ++ order.born) 0 0 ≡ f = ap (λ fs. get_or fs 0 0) (sym order.front) ∙ ap (get_or' seat.body) (sym first) ∙ (element_stands_at_position f seat.body there.1).1 in
        front_held book.owner number seat.reserve seat.hand seat.body order.born own.holding (hand_some seat.point fits.at_point (born.3 array)) (ap book.owner at_first ∙ bears)
      where
        get_or' : List ℕ → ℕ → ℕ
        get_or' fs k = get_or fs k 0

    -- and no borne fragment begins with an array's meta
    pub borne_tells_no_array_length : array_length_of word ≡ None
    borne_tells_no_array_length =
        let its = element_stands_at_position f seat.body there.1 in
        let found : at heap state.words (Word (fragment_at seat.body (position_of f seat.body)) 0) ≡ newborn_word_of number seat (position_of f seat.body) 0
        = all_words_are_stored heap state.words seat.body (newborn_word_of number seat) seat.stored born.1 (rule.seats_stand number there.0).own.stored (position_of f seat.body) 0 its.0 (omega arith) in
        ap (λ x. array_length_of (at heap state.words (Word x 0))) (sym its.1) ∙ ap array_length_of found
        ∙ newborn_no_length seat.body (λ i below. let inside : get_or seat.body i 0 < 16 * heap.groups = fits.hand.body_within i 0 below in omega (arith, inside, rule.machine.limits.groups_fit))
        seat.command (next_name number seat) seat.spine (position_of f seat.body) born.0.makes.an_object born.0.makes.in_range behind_first

  module _ (i k : ℕ) (kept : book.owner f ≡ Kept i k) where
    abbrev g : Graph
    g = graph_of heap book.history

    abbrev object : Node
    object = node_at g book.made i

    its : (i < length book.made) × IsKept book.owner book.fragments i × (k < length (book.fragments i)) × (f ≡ fragment_at (book.fragments i) k)
    its = rule.heap_stands.objects.back f i k kept

    the_small : (j : ℕ) → j < length (book.fragments i) → get_or (book.fragments i) j 0 < 2 ^ 30
    the_small = fragment_is_small heap state.words g book.made book.owner book.fragments rule.machine.limits rule.heap_stands.control_words rule.heap_stands.ids rule.heap_stands.objects i its.0 its.1

    few_cells : length object.cells ≤ 4096
    few_cells = (sized_cells_are_few object.array (length object.cells) (rule.heap_stands.objects.kept i its.0 its.1).sized).1

    cell_none : (j : ℕ) → array_length_of (field_word (object_head book.made book.fragments) (slice_get object.cells j)) ≡ None
    cell_none j = no_length (field_word (object_head book.made book.fragments) (slice_get object.cells j))
        (cell_is_no_meta heap state.words g book.made book.owner book.fragments rule.machine.limits rule.heap_stands.control_words rule.heap_stands.ids rule.heap_stands.objects i its.0 its.1
        j (slice_get object.cells j) refl)

    -- nor does a fragment of a kept object but an array's first
    pub kept_no_length : (object.array ≡ true → 1 ≤ k) → array_length_of word ≡ None
    kept_no_length behind = ap (λ x. array_length_of (at heap state.words (Word x 0))) its.3
        ∙ found_cases heap state.words g book.made book.owner book.fragments rule.machine.limits rule.heap_stands.control_words rule.heap_stands.ids rule.heap_stands.objects i its.0 its.1
        (λ w. array_length_of w ≡ None) k 0 its.2 (omega arith) (λ kind is. cell_none (3 * k + 0 - 2))
        (λ kind is. record_no_length (book.fragments i) the_small (name_of (id_at book.made i)) (length object.cells) k (omega (arith, few_cells)))
        (λ kind first. absurd (omega (arith, behind kind, first))) (λ kind later. cell_none (4 * (k - 1) + 0))

    -- which tells how many cells it has
    pub first_word_tells_length : k ≡ 0 → object.array ≡ true → array_length_of word ≡ Some (length object.cells)
    first_word_tells_length first kind = ap (λ x. array_length_of (at heap state.words (Word x 0))) (its.3 ∙ ap (fragment_at (book.fragments i)) first)
        ∙ meta_tells_array_length heap state.words g book.made book.owner book.fragments rule.machine.limits rule.heap_stands.control_words rule.heap_stands.ids rule.heap_stands.objects i its.0 its.1
        ∙ rw kind refl

    -- so where a length is told a kept array begins
    pub begins : (cells : ℕ) → array_length_of word ≡ Some cells → BeginsArray (node_at g book.made) book.owner f (array_words cells) × (array_words cells ≤ 1024)
    begins cells told = by k refl object.array refl
      where
        by : (n : ℕ) → k ≡ n → (array : Bool) → object.array ≡ array → BeginsArray (node_at g book.made) book.owner f (array_words cells) × (array_words cells ≤ 1024)
        by zero first true kind =
            let same : cells ≡ length object.cells = cc (told, first_word_tells_length first kind) in
            (record { index = i; kept = kept ∙ ap (Kept i) first; is_array = kind; as_many = ap array_words same ∙ rw kind refl }, omega (arith, same, few_cells))
        by zero first false kind = absurd (cc (told, kept_no_length (λ array. absurd (cc (kind, array)))))
        by (suc n) later array kind = absurd (cc (told, kept_no_length (λ _. omega (arith, later))))

  -- of a marked fragment, once marking has ended
  pub marked_meta_begins_array : AfterMarking book.owner book.colour → IsMarked book.colour f → (cells : ℕ) → array_length_of word ≡ Some cells
      → BeginsArray (node_at (graph_of heap book.history) book.made) book.owner f (array_words cells) × (array_words cells ≤ 1024)
  marked_meta_begins_array after marked cells told = by (book.owner f) refl (rule.heap_stands.cycle.coloured.born f marked)
    where
      by : (o : Owner) → book.owner f ≡ o → born_bit (book.owner f) ≡ 1 → BeginsArray (node_at (graph_of heap book.history) book.made) book.owner f (array_words cells) × (array_words cells ≤ 1024)
      by Free is born = absurd (let none : born_bit (book.owner f) ≡ 0 = ap born_bit is in omega (arith, none, born))
      by (Taken number) is born = absurd (let none : born_bit (book.owner f) ≡ 0 = ap born_bit is in omega (arith, none, born))
      by (Borne number) is born = absurd (cc (told, borne_tells_no_array_length number is))
      by (Kept i k) is born = begins i k is cells told
      by (Dead i k) is born = absurd (marked (after.dead_white f i k is))
