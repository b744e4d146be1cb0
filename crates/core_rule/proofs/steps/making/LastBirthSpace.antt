-- What becomes of the spine space at the last birth of an object: an array's spine is the one that its maker had.
use Rattle.std.proofs.Common.{◌≡◌, ◌≢◌, ℕ, ◌+◌, ◌*◌, ◌<◌, ◌≤◌, ◌==◌, Bool, true, false, ◌∷◌, [], length, refl, sym, ap, ◌∙◌, subst, arith, length-append}
use Rattle.std.specs.Prelude.{if◌then◌else◌}
use Rattle.std.proofs.lemmas.List.{length-replicate}
use Rattle.heap_words.specs.declared.spot.Spot.{Spot}
use Rattle.core_rule.proofs.Terms.{Command, Entry, Heap, Id, array_words, graph_of, add, Graph, Node, fresh, unset, graph_seat, spine_words_of, Bearing, State, seat_at, made_entry}
use Rattle.core_rule.proofs.Terms.{IsArrayCall, target_of, HasBody, SpineIsListed, next_object_id, next_name, newborn_word_of, last_group_of, Seat, spine_need, tally, Book}
use Rattle.core_rule.proofs.Terms.{fragment_at, granted_at, placed_at, refused_at, nodes_in, words_of_object, words_in_half, Kept, Dead, IsNear, Rule, SeatStands, SpaceStands}
use Rattle.core_rule.proofs.Terms.{HasPlace, next_spine}
use Rattle.heap_model.specs.declared.command.Command.TheVariants as commands
use Rattle.heap_model.specs.account.Sweep.{HasSwung}
use Rattle.heap_model.proofs.Histories.{total-more}
use Rattle.core_machine.specs.declared.point.Point.TheVariants as points
use Rattle.core_rule.proofs.cycle.BirthCycle.{words_born, born_group_within_heap, born_body_is_some, marked_stays_when_born, spine_words_name_payload}
use Rattle.core_rule.proofs.entries.AtRest.{seat_fits}
use Rattle.core_rule.proofs.entries.MadeEntry.{graph_after_made_entry}
use Rattle.core_rule.proofs.entries.MakingCommands.{makes_array, size_made, spine_need_is_fresh_words}
use Rattle.core_rule.proofs.entries.Swung.{swung_is_made}
use Rattle.core_rule.proofs.entries.ToldSpines.{has_swung_before_entry, returned_in_cycle_stays}
use Rattle.core_rule.proofs.graph.IdsGrowth.{OneMore, without_node_is_not_made}
use Rattle.core_rule.proofs.graph.Numbering.{id_stays_by_append, new_id_stands_last}
use Rattle.heap_model.proofs.graph_changes.Shapes.{SameShape, same_shape_of_equal, same_shape_same_words}
use Rattle.core_rule.proofs.hand.Bodies.{body_has_each_once, body_is_own}
use Rattle.core_rule.proofs.hand.MakingSeats.{made_object_is_sized, made_body_is_whole, newborn_word_is_fresh}
use Rattle.core_rule.proofs.lists.Members.{position_of, element_stands_at_position}
use Rattle.core_rule.proofs.marking.LastBirthMarks.{book_born}
use Rattle.core_rule.proofs.marking.Marks.{each_seat_answered_phase}
use Rattle.core_rule.proofs.objects.LastBirth.{one_more_by_add, all_words_are_stored}
use Rattle.core_rule.proofs.objects.ObjectsGrowth.{NewBody, old_nodes_stay, new_node_is_fresh, fresh_words, new_spine_is_spine, old_spine_stays}
use Rattle.core_rule.proofs.owners.Keeping.{kept_by_others_was, kept_by_others_stays, old_object_keeps_fragments}
use Rattle.core_rule.proofs.owners.OwnerLemmas.{IsOwn, own_is_not_kept, own_is_not_dead}
use Rattle.core_rule.proofs.spines.ArrayBirths.{kept_sum_after_birth, dead_sum_after_birth, sweep_counts_after_birth}
use Rattle.core_rule.proofs.budgets.BudgetFrames.{stepped, returned_words_stay}
use Rattle.core_rule.proofs.budgets.BudgetSteps.{KeepsBorn, budgets_stand_after_birth}
use Rattle.core_rule.proofs.halves.CopiesGo.{HeadStays}
use Rattle.core_rule.proofs.halves.HalvesBirths.{OneBorn, early_claim_awaits_copy, halves_stand_after_birth}
use Rattle.core_rule.proofs.spines.OtherWords.{leaves_places_of_spines, leaves_spines_after_control}
use Rattle.core_rule.proofs.steps.Assemble.{making_seat_has_not_left}

-- an object of so many cells has as many spine words
fresh_has_words : (array : Bool) (cells : ℕ) → spine_words_of (fresh array cells) ≡ fresh_words array cells
fresh_has_words true cells = ap array_words (length-replicate cells unset)
fresh_has_words false cells = refl

array_made : (command : Command) → makes_array command ≡ true → IsArrayCall command
array_made (commands.Array d cells) is = tt
array_made _ is = absurd (cc)

module _ (heap : Heap) (state : State) (book : Book) (number : ℕ) (rule : Rule heap state book) (here : number < heap.seats) (point : (seat_at state number).point ≡ points.Making Bearing) where
  abbrev seat : Seat
  seat = seat_at state number

  abbrev entry : Entry
  entry = made_entry number seat

  abbrev id : Id
  id = next_object_id number seat

  abbrev now : Book
  now = book_born book number seat

  abbrev count : ℕ
  count = length book.made

  abbrev array : Bool
  array = makes_array seat.command

  abbrev cells : ℕ
  cells = size_made seat.command

  abbrev g : Graph
  g = graph_of heap book.history

  abbrev pub grown : Graph
  grown = add g number (target_of seat.command) (fresh array cells)

  stands : SeatStands heap state.words book number seat
  stands = rule.seats_stand number here

  at_point : HasBody seat × (0 < length seat.hand) × (length seat.hand ≤ length seat.body) × (seat.stored ≡ 4 * length seat.body) × SpineIsListed seat.command seat.spine seat.listed
  at_point = rw point at (seat_fits rule number here).at_point

  some : 1 ≤ length seat.body
  some = born_body_is_some heap state book number rule here point

  present : (graph_seat g number).left ≡ false
  present = making_seat_has_not_left heap state book number Bearing rule here point

  -- the graph has one object more
  pub graph_is_grown : graph_of heap now.history ≡ grown
  graph_is_grown = graph_after_made_entry heap book.history number seat at_point.0.makes.an_object

  pub one_more_object_born : OneMore g grown id (fresh array cells)
  one_more_object_born = one_more_by_add g number (target_of seat.command) (fresh array cells) seat.made present stands.told.counts.numbered

  -- its body was the seat's, and is stored
  pub body_was_own : (f : ℕ) → 1 ≤ tally f seat.body → IsOwn number (book.owner f)
  body_was_own = body_is_own book.owner number seat.reserve seat.hand seat.body stands.own.holding

  pub born_body_each_once : (f : ℕ) → tally f seat.body ≤ 1
  born_body_each_once = body_has_each_once book.owner number seat.reserve seat.hand seat.body stands.own.holding some

  pub body_was_not_kept : (f i k : ℕ) → 1 ≤ tally f seat.body → book.owner f ≢ Kept i k
  body_was_not_kept f i k there = own_is_not_kept number i k (book.owner f) (body_was_own f there)

  body_was_not_dead : (f i k : ℕ) → 1 ≤ tally f seat.body → book.owner f ≢ Dead i k
  body_was_not_dead f i k there = own_is_not_dead number i k (book.owner f) (body_was_own f there)

  inside : (f : ℕ) → 1 ≤ tally f seat.body → f < 16 * heap.groups
  inside f there =
      let at_body = element_stands_at_position f seat.body there in
      subst (λ x. x < 16 * heap.groups) at_body.1 ((seat_fits rule number here).hand.body_within (position_of f seat.body) 0 at_body.0)

  pub born_body_is_new : NewBody heap state.words book.owner id array cells seat.body seat.spine
  born_body_is_new =
      let makes = at_point.0.makes.an_object in
      let stored = all_words_are_stored heap state.words seat.body (newborn_word_of number seat) seat.stored at_point.3 stands.own.stored in
      record {
        sized = made_object_is_sized seat at_point.0;
        whole = made_body_is_whole seat at_point.0;
        once = born_body_each_once;
        unkept = body_was_not_kept;
        newborn = λ k part less within. stored k part less within ∙ newborn_word_is_fresh seat.command makes (next_name number seat) seat.spine seat.body k part;
        listed = λ j within. spine_words_name_payload heap state book number rule here point j (subst (λ n. j < n) (sym (spine_need_is_fresh_words seat.command makes)) within);
      }

  pub made_is_one_longer : length now.made ≡ count + 1
  made_is_one_longer = length-append book.made (id ∷ [])

  -- the new object is fresh, and the others have their shapes
  fresh_now : nodes_in heap now count ≡ fresh array cells
  fresh_now = rw graph_is_grown (new_node_is_fresh heap state.words g grown book.made id book.owner book.fragments book.spines array cells seat.body seat.spine rule.heap_stands.ids one_more_object_born born_body_is_new rule.heap_stands.objects)

  pub same_shapes_after_birth : (i : ℕ) → i < count → SameShape (nodes_in heap now i) (nodes_in heap book i)
  same_shapes_after_birth i less = same_shape_of_equal (nodes_in heap now i) (nodes_in heap book i)
      (rw graph_is_grown (old_nodes_stay heap state.words g grown book.made id book.owner book.fragments book.spines array cells seat.body seat.spine rule.heap_stands.ids one_more_object_born born_body_is_new rule.heap_stands.objects i less))

  -- it has the spine words that its maker asked for
  pub new_spine_words_are_needed : spine_words_of (nodes_in heap now count) ≡ spine_need seat
  new_spine_words_are_needed = ap spine_words_of fresh_now ∙ fresh_has_words array cells ∙ sym (spine_need_is_fresh_words seat.command at_point.0.makes.an_object)

  has_place : (nodes_in heap now count).array ≡ true → HasPlace seat seat.point
  has_place is = subst (HasPlace seat) (sym point) (array_made seat.command (sym (ap (λ (o : Node). o.array) fresh_now) ∙ is))

  -- what was kept is, as it was
  below_count : (f i k : ℕ) → book.owner f ≡ Kept i k → i < count
  below_count f i k keeps = (rule.heap_stands.objects.back f i k keeps).0

  apart : (i : ℕ) → i < count → i ≢ count
  apart i below e = omega (arith, e, below)

  heads_stay : (f i : ℕ) → book.owner f ≡ Kept i 0 → HeadStays (nodes_in heap book) (nodes_in heap now) book.made now.made now.owner book.fragments now.fragments book.spines now.spines f i
  heads_stay f i is =
      let below = below_count f i 0 is in
      record {
        kept = kept_by_others_stays count seat.body book.owner body_was_not_kept f i 0 is;
        id = id_stays_by_append book.made id i below;
        fragments_stay = old_object_keeps_fragments book.fragments count seat.body i (apart i below);
        spine = old_spine_stays book.spines count seat.spine i (apart i below);
        shape = same_shapes_after_birth i below;
      }

  one_born : OneBorn heap book now number seat
  one_born = record {
    longer = made_is_one_longer;
    owners = λ half offset. refl;
    older = λ i other is. kept_by_others_was count seat.body book.owner (fragment_at (book.fragments i) 0) i 0 other (ap (λ fs. now.owner (fragment_at fs 0)) (sym (old_object_keeps_fragments book.fragments count seat.body i other)) ∙ is);
    heads = heads_stay;
    spine = new_spine_is_spine book.spines count seat.spine;
    has = has_place;
    swung = has_swung_before_entry book.history entry (λ x e. absurd (cc));
    unswung = λ swung. without_node_is_not_made g id one_more_object_born.none (swung_is_made heap id book.history rule.heap_stands.legal (subst (λ x. HasSwung x book.history) (new_id_stands_last book.made id) swung));
    marked = marked_stays_when_born heap state book number rule here point;
  }

  abbrev half : ℕ
  half = (next_spine heap state.words).half

  abbrev in_half : ℕ
  in_half = if seat.spine.half == half then spine_need seat else 0

  -- so it is with the words that are kept, and those in the half of the next spine
  words_as : (i : ℕ) → i < count → words_of_object (nodes_in heap now) i ≡ words_of_object (nodes_in heap book) i
  words_as i less = same_shape_same_words (nodes_in heap now i) (nodes_in heap book i) (same_shapes_after_birth i less)

  halves_as : (i : ℕ) → i < count → words_in_half half (nodes_in heap now) now.spines i ≡ words_in_half half (nodes_in heap book) book.spines i
  halves_as i less = ap (λ (s : Spot). if s.half == half then words_of_object (nodes_in heap now) i else 0) (old_spine_stays book.spines count seat.spine i (apart i less))
      ∙ ap (λ n. if (book.spines i).half == half then n else 0) (words_as i less)

  new_in_half : words_in_half half (nodes_in heap now) now.spines count ≡ in_half
  new_in_half = ap (λ (s : Spot). if s.half == half then words_of_object (nodes_in heap now) count else 0) (new_spine_is_spine book.spines count seat.spine) ∙ ap (λ n. if seat.spine.half == half then n else 0) new_spine_words_are_needed

  dead_below : (f i k : ℕ) → book.owner f ≡ Dead i k → i < count
  dead_below f i k is = (rule.heap_stands.spines.tells f i k is).0

  keeps_born : KeepsBorn heap book now state.collector.stage half (spine_need seat) in_half
  keeps_born =
      let all = kept_sum_after_birth count book.owner seat.body (words_of_object (nodes_in heap book)) (words_of_object (nodes_in heap now)) words_as heap some born_body_each_once inside body_was_not_kept below_count in
      let here_more = kept_sum_after_birth count book.owner seat.body (words_in_half half (nodes_in heap book) book.spines) (words_in_half half (nodes_in heap now) now.spines) halves_as heap some born_body_each_once inside
      body_was_not_kept below_count in
      record {
        kept = omega (arith, all, new_spine_words_are_needed);
        in_half = omega (arith, here_more, new_in_half);
        dead = dead_sum_after_birth count book.owner seat.body (words_of_object (nodes_in heap book)) (words_of_object (nodes_in heap now)) words_as body_was_not_dead dead_below heap;
        counts = sweep_counts_after_birth count book.owner seat.body (words_of_object (nodes_in heap book)) (words_of_object (nodes_in heap now)) words_as body_was_not_dead dead_below state.collector.stage;
      }

  near : IsNear state.collector.phase seat.answered
  near = subst (λ p. IsNear p seat.answered) (sym rule.collector_stands.phase_told) (stands.cycle.answers_told.near (sym stands.told.counts.leaves ∙ present))

  -- the spine space stands then
  pub space_stands_after_birth : (after : Seat) → ¬ HasPlace after after.point → granted_at after after.point ≡ 0 → placed_at half after after.point ≡ 0 → refused_at after after.point ≡ 0
      → SpaceStands heap (stepped state number (words_born heap state book number rule here point) after) now
  space_stands_after_birth after none given placed refused =
      let words = words_born heap state book number rule here point in
      let leaves = leaves_spines_after_control heap state.words _ (last_group_of seat.hand) (born_group_within_heap heap state book number rule here point) in
      record {
        budgets = budgets_stand_after_birth heap state book number here rule.machine.seated words after (spine_need seat) in_half 0
            record { given_is = rw point refl; placed_is = rw point refl; refused_is = rw point refl } 0 0 0 record { given_is = given; placed_is = placed; refused_is = refused } now refl refl refl
            record { granted = total-more (λ e. e.words) book.history entry; returned = returned_words_stay book.history entry refl; in_cycle = returned_in_cycle_stays book.history entry refl refl }
            keeps_born leaves rule.space.budgets;
        halves = halves_stand_after_birth heap state book now number words after here rule.machine.seated (leaves_places_of_spines heap state.words words leaves) one_born none
            (early_claim_awaits_copy heap state.collector.phase state.collector.looked seat.answered state.collector.stage rule.machine.collector_fit.at_stage near
            (λ all. each_seat_answered_phase heap state book rule all number here (sym stands.told.counts.leaves ∙ present))) rule.space.halves;
      }
