-- The arrays of which marked fragments tell have their fragments for themselves, so together no more than the heap has.
use Rattle.std.specs.Int.{bit_at}
use Rattle.std.specs.Prelude.{if◌then◌else◌}
use Rattle.std.proofs.Common.{◌≡◌, ℕ, zero, suc, ◌+◌, ◌*◌, ◌^◌, ◌<◌, ◌≤◌, ◌==◌, Bool, true, false, length, get_or, inl, inr, refl, sym, ap, ◌∙◌, subst, arith}
use Rattle.std.proofs.lemmas.Bool.{cases_lt}
use Rattle.std.proofs.lemmas.Bool.Decides.{eqb_tells}
use Rattle.core_rule.proofs.Terms.{control_of, scanned_at, array_word_of, array_fragments, array_words, record_fragments, Command, Heap, graph_of, fragments_of, spine_words_of, Node, Word, spine_words_in, newborn_word, newborn_word_of, next_name, need_of, MakesObject}
use Rattle.core_rule.proofs.Terms.{Seat, tally, sum_upto, at, State, seat_at, Book, fragment_at, node_at, Owner, Free, Taken, Borne, Kept, Dead, born_bit, one_at, Rule, array_meta}
use Rattle.heap_words.specs.declared.name.Name.{Name}
use Rattle.heap_words.specs.declared.spot.Spot.{Spot}
use Rattle.heap_model.specs.Command.{IsCommand}
use Rattle.heap_model.specs.declared.command.Command.TheVariants as commands
use Rattle.core_machine.proofs.table_lemmas.Free.{sum_of_nothing_is_zero, sum_upto-none}
use Rattle.core_rule.proofs.dying.DeadWords.{no_words_behind_first}
use Rattle.core_rule.proofs.entries.AtRest.{seat_fits}
use Rattle.core_rule.proofs.hand.Bodies.{body_has_each_once, body_is_own}
use Rattle.core_rule.proofs.held.BodyWords.{fragment_is_in_body, bearing_has_stored_all}
use Rattle.core_rule.proofs.graph.SameNodes.{made_node_has_size}
use Rattle.core_rule.proofs.kept.KeptFragments.{object_bit, fragment_count_is_size}
use Rattle.core_rule.proofs.lists.Members.{position_of, element_stands_at_position}
use Rattle.core_rule.proofs.lists.SumLemmas.{sum-suc, sum_le, sum_plus}
use Rattle.core_rule.proofs.lists.Tallies.{one_at_same_is_one, one_at_other_is_none, one_at_some_is_same, one_at_within_one, sum_of_inside_is_one, sum_of_outside_is_none, sum_of_tallies_is_length}
use Rattle.core_rule.proofs.marking.ObjectEdges.{kept_tells_spine_words}
use Rattle.core_rule.proofs.objects.LastBirth.{all_words_are_stored}
use Rattle.core_rule.proofs.colours.NoSpines.{newborn_tells_no_spine}
use Rattle.core_rule.proofs.owners.Handed.{none_or_some}
use Rattle.core_rule.proofs.owners.OwnerLemmas.{IsOwn}
use Rattle.core_rule.proofs.owners.Seated.{borne_is_in_seat_body}
use Rattle.core_rule.proofs.ways.ArrayWords.{spine_words_in-meta}
use Rattle.space_plan.specs.cycle_turns.ToldWords.{told_words, fragments_told, fragments_before, scanned_words, where_set}
use Rattle.space_plan.proofs.cycle_turns.SeatEvents.{told_is_marked}
use Rattle.space_plan.proofs.cycle_turns.Sums.{where_set_within, where_unset_is_none, fragments_told_grow, fragments_told_within, told_within_fragments, sum_grows_at, sum_of_more}

-- each number below m stands for one number at most, so no more are counted than there are
each_counts_once : (n m : ℕ) (place : ℕ → ℕ) → sum_upto n (λ f. sum_upto m (λ g. one_at (place g) f)) ≤ m
each_counts_once n zero place = omega (arith, sum_of_nothing_is_zero n (λ f. sum_upto 0 (λ g. one_at (place g) f)) (λ f below. sum_upto-none (λ g. one_at (place g) f)))
each_counts_once n (suc m) place =
    let both = sum_plus n (λ f. sum_upto (suc m) (λ g. one_at (place g) f)) (λ f. sum_upto m (λ g. one_at (place g) f)) (λ f. one_at (place m) f) (λ f below. sum-suc m (λ g. one_at (place g) f)) in
    omega (arith, both, each_counts_once n m place, one_place (place m))
  where
    one_place : (x : ℕ) → sum_upto n (λ f. one_at x f) ≤ 1
    one_place x = elim (cases_lt x n) [
      | inl within ↦ omega (arith, sum_of_inside_is_one n x within)
      | inr past ↦ omega (arith, sum_of_outside_is_none n x past)
    ]

-- a newborn array's words behind its first fragment are 0
behind_first_is_zero : (name : Name) (cells : ℕ) (spine : Spot) (k part : ℕ) → array_word_of name cells spine (suc k) part ≡ 0
behind_first_is_zero name cells spine k part = let later : (suc k == 0) ≡ false = grind arith in rw later refl

module _ (heap : Heap) (state : State) (book : Book) (rule : Rule heap state book) where
  -- the first fragment of the object that the fragment is of, or is to be of
  abbrev first_of : Owner → ℕ
  first_of Free = 16 * heap.groups
  first_of (Taken number) = fragment_at (seat_at state number).body 0
  first_of (Borne number) = fragment_at (seat_at state number).body 0
  first_of (Kept i k) = fragment_at (book.fragments i) 0
  first_of (Dead i k) = fragment_at (book.fragments i) 0

  -- how many fragments have this one for their object's first
  abbrev followers : ℕ → ℕ
  followers f = sum_upto (16 * heap.groups) (λ g. one_at (first_of (book.owner g)) f)

  -- a kept object's first fragment has as many as the object has fragments
  kept_has_followers : (f i : ℕ) → book.owner f ≡ Kept i 0 → fragments_of (node_at (graph_of heap book.history) book.made i) ≤ followers f
  kept_has_followers f i owned =
      let there = rule.heap_stands.objects.back f i 0 owned in
      let size : sum_upto (16 * heap.groups) (λ g. object_bit i (book.owner g)) ≡ fragments_of (node_at (graph_of heap book.history) book.made i)
      = fragment_count_is_size heap state.words (graph_of heap book.history) book.made book.owner book.fragments rule.heap_stands.ids rule.heap_stands.objects i there.0 there.1 rule.heap_stands.control_words.outside
      ∙ sym (made_node_has_size _ (rule.heap_stands.ids.in_graph i there.0)) in
      omega (arith, size, sum_le (16 * heap.groups) (λ g. object_bit i (book.owner g)) (λ g. one_at (first_of (book.owner g)) f) (λ g below. by there.3 (book.owner g)))
    where
      by : f ≡ fragment_at (book.fragments i) 0 → (o : Owner) → object_bit i o ≤ one_at (first_of o) f
      by is (Kept j k) = elim (eqb_tells j i) as (λ _. object_bit i (Kept j k) ≤ one_at (first_of (Kept j k)) f) [
        | inl same ↦ omega (arith, one_at_within_one j i, one_at_same_is_one (first_of (Kept j k)) f (ap (λ n. fragment_at (book.fragments n) 0) same.1 ∙ sym is))
        | inr apart ↦ omega (arith, one_at_other_is_none j i apart.1)
      ]
      by is Free = omega arith
      by is (Taken number) = omega arith
      by is (Borne number) = omega arith
      by is (Dead j k) = omega arith

  -- what a seat has taken for its object follows the object's first fragment
  own_first : (number : ℕ) (o : Owner) → IsOwn number o → first_of o ≡ fragment_at (seat_at state number).body 0
  own_first number (Taken r) own = ap (λ n. fragment_at (seat_at state n).body 0) (one_at_some_is_same r number (omega (arith, own)))
  own_first number (Borne r) own = ap (λ n. fragment_at (seat_at state n).body 0) (one_at_some_is_same r number (omega (arith, own)))
  own_first number Free own = absurd (omega (arith, own))
  own_first number (Kept i k) own = absurd (omega (arith, own))
  own_first number (Dead i k) own = absurd (omega (arith, own))

  body_has_followers : (number f : ℕ) → number < heap.seats → 1 ≤ length (seat_at state number).body → f ≡ fragment_at (seat_at state number).body 0 → length (seat_at state number).body ≤ followers f
  body_has_followers number f here some first =
      let seat : Seat = seat_at state number in
      let holding = (rule.seats_stand number here).own.holding in
      let all : sum_upto (16 * heap.groups) (λ g. tally g seat.body) ≡ length seat.body = sum_of_tallies_is_length (16 * heap.groups) seat.body (λ g there.
      let position = element_stands_at_position g seat.body there in
      subst (λ x. x < 16 * heap.groups) position.1 ((seat_fits rule number here).hand.body_within (position_of g seat.body) 0 position.0)) in
      let each : sum_upto (16 * heap.groups) (λ g. tally g seat.body) ≤ followers f = sum_le (16 * heap.groups) (λ g. tally g seat.body) (λ g. one_at (first_of (book.owner g)) f) (λ g below.
      elim (none_or_some (tally g seat.body)) as (λ _. tally g seat.body ≤ one_at (first_of (book.owner g)) f) [
        | inl none ↦ omega (arith, none)
        | inr there ↦ omega (
          arith,
          body_has_each_once book.owner number seat.reserve seat.hand seat.body holding some g,
          one_at_same_is_one (first_of (book.owner g)) f (own_first number (book.owner g) (body_is_own book.owner number seat.reserve seat.hand seat.body holding g there) ∙ sym first),
        )
      ]) in
      omega (arith, all, each)

  -- an object has as many fragments as its spine words tell
  object_has_told : (object : Node) → fragments_told (spine_words_of object) ≤ fragments_of object
  object_has_told object = by object.array
    where
      by : (array : Bool) → fragments_told (if array then array_words (length object.cells) else 0) ≤ (if array then array_fragments (length object.cells) else record_fragments (length object.cells))
      by true = omega (arith, fragments_told_within (array_words (length object.cells)))
      by false = omega arith

  module _ (f : ℕ) (some : 1 ≤ told_words heap state.words f) where
    abbrev first_word : ℕ
    first_word = at heap state.words (Word f 0)

    told_is_few : told_words heap state.words f ≤ spine_words_in first_word
    told_is_few = where_set_within _ _

    kept_counts : (i k : ℕ) → book.owner f ≡ Kept i k → fragments_told (told_words heap state.words f) ≤ followers f
    kept_counts i zero owned =
        let tells = (kept_tells_spine_words heap state book rule f i 0 owned).1.told in
        let more = fragments_told_grow (told_words heap state.words f) (spine_words_of (node_at (graph_of heap book.history) book.made i)) (omega (arith, told_is_few, tells)) in
        omega (arith, more, object_has_told (node_at (graph_of heap book.history) book.made i), kept_has_followers f i owned)
    kept_counts i (suc k) owned =
        let tells = (kept_tells_spine_words heap state book rule f i (suc k) owned).1.told in
        absurd (omega (arith, some, told_is_few, tells, no_words_behind_first (suc k) (spine_words_of (node_at (graph_of heap book.history) book.made i)) (omega arith)))

    module _ (number : ℕ) (bears : book.owner f ≡ Borne number) where
      abbrev maker : Seat
      maker = seat_at state number

      abbrev position : ℕ
      position = position_of f maker.body

      here : number < heap.seats
      here = (borne_is_in_seat_body heap state book rule number f bears).0

      by_command : (command : Command) → maker.command ≡ command → MakesObject command → IsCommand command → length maker.body ≡ need_of command → position < length maker.body → get_or maker.body position 0 ≡ f
          → first_word ≡ newborn_word command (next_name number maker) maker.spine maker.body position 0 → fragments_told (told_words heap state.words f) ≤ followers f
      by_command (commands.New d fields) is made range whole within stands stored =
          let small : (i : ℕ) → i < length maker.body → get_or maker.body i 0 < 2 ^ 30 = λ i less.
          let inside : get_or maker.body i 0 < 16 * heap.groups = (seat_fits rule number here).hand.body_within i 0 less in
          omega (arith, inside, rule.machine.limits.groups_fit)
          in
          let none : spine_words_in first_word ≡ 0 = ap spine_words_in stored ∙ newborn_tells_no_spine maker.body small (next_name number maker) fields position (omega (arith, range.1.1)) in
          absurd (omega (arith, some, told_is_few, none))
      by_command (commands.Array d cells) is made range whole within stands stored = at_row position refl
        where
          at_row : (n : ℕ) → position ≡ n → fragments_told (told_words heap state.words f) ≤ followers f
          at_row (suc n) later =
              let word : first_word ≡ 0 = stored ∙ rw later (behind_first_is_zero (next_name number maker) cells maker.spine n 0) in
              let none : spine_words_in first_word ≡ 0 = ap spine_words_in word in
              absurd (omega (arith, some, told_is_few, none))
          at_row zero first =
              let meta : first_word ≡ array_meta cells = stored ∙ rw first refl in
              let many : spine_words_in first_word ≡ array_words cells = ap spine_words_in meta ∙ spine_words_in-meta cells (omega (arith, range.1.1)) in
              let its : f ≡ fragment_at maker.body 0 = sym stands ∙ ap (λ j. get_or maker.body j 0) first in
              omega (arith, told_is_few, many, whole, fragments_told_within (told_words heap state.words f), body_has_followers number f here (omega (arith, within)) its)
      by_command _ is made range whole within stands stored = absurd made

      borne_counts : fragments_told (told_words heap state.words f) ≤ followers f
      borne_counts =
          let has = bearing_has_stored_all heap state book rule number f bears maker.point (seat_fits rule number here).at_point in
          let element = element_stands_at_position f maker.body (fragment_is_in_body heap state book rule number f bears) in
          by_command maker.command refl has.0.makes.an_object has.0.makes.in_range has.0.whole element.0 element.1
          (subst (λ x. at heap state.words (Word x 0) ≡ newborn_word_of number maker position 0) element.1
          (all_words_are_stored heap state.words maker.body (newborn_word_of number maker) maker.stored has.1 (rule.seats_stand number here).own.stored position 0 element.0 (omega arith)))

    counts_by : f < 16 * heap.groups → (o : Owner) → book.owner f ≡ o → fragments_told (told_words heap state.words f) ≤ followers f
    counts_by below (Kept i k) is = kept_counts i k is
    counts_by below (Borne number) is = borne_counts number is
    counts_by below (Dead i k) is =
        absurd (rule.marks_stand.heap_marks.alive (λ settled. told_is_marked heap state book rule f below some ((rule.marks_stand.heap_marks.after settled).dead_white f i k is)) f i k is)
    counts_by below Free is = absurd (omega (arith, ap born_bit is, rule.heap_stands.cycle.coloured.born f (told_is_marked heap state book rule f below some)))
    counts_by below (Taken number) is = absurd (omega (arith, ap born_bit is, rule.heap_stands.cycle.coloured.born f (told_is_marked heap state book rule f below some)))

  -- so a fragment tells of no more than follow it
  told_follow : (f : ℕ) → f < 16 * heap.groups → fragments_told (told_words heap state.words f) ≤ followers f
  told_follow f below = elim (none_or_some (told_words heap state.words f)) as (λ _. fragments_told (told_words heap state.words f) ≤ followers f) [
    | inl none ↦ omega (arith, ap fragments_told none)
    | inr some ↦ counts_by f some below (book.owner f) refl
  ]

  -- together all tell of no more fragments than there are
  pub told_fragments_fit : fragments_before heap state.words (16 * heap.groups) ≤ 16 * heap.groups
  told_fragments_fit =
      omega (arith, sum_le (16 * heap.groups) (λ f. fragments_told (told_words heap state.words f)) followers told_follow, each_counts_once (16 * heap.groups) (16 * heap.groups) (λ g. first_of (book.owner g)))

  -- so do those before each fragment
  pub told_before_fit : (f : ℕ) → f ≤ 16 * heap.groups → fragments_before heap state.words f ≤ 16 * heap.groups
  told_before_fit f within = omega (arith, sum_of_more f (16 * heap.groups) (λ g. fragments_told (told_words heap state.words g)) within, told_fragments_fit)

  -- and the spine words of a fragment that isn't scanned come to those of the scanned ones
  pub scanned_words_fit : (f : ℕ) → f < 16 * heap.groups → bit_at (control_of heap state.words f) (scanned_at f) ≡ 0 → scanned_words heap state.words + told_words heap state.words f ≤ 16 * heap.groups
  scanned_words_fit f below unscanned =
      let none : where_set (bit_at (control_of heap state.words f) (scanned_at f)) (told_words heap state.words f) ≡ 0 = where_unset_is_none (bit_at (control_of heap state.words f) (scanned_at f)) (told_words heap state.words f) unscanned in
      let more = sum_grows_at (16 * heap.groups) (told_words heap state.words f) f (λ g. where_set (bit_at (control_of heap state.words g) (scanned_at g)) (told_words heap state.words g)) (λ g. fragments_told (told_words heap state.words g)) below
      (λ g less. fewer g) (omega (arith, none, told_within_fragments (told_words heap state.words f))) in
      omega (arith, more, told_fragments_fit)
    where
      fewer : (g : ℕ) → where_set (bit_at (control_of heap state.words g) (scanned_at g)) (told_words heap state.words g) ≤ fragments_told (told_words heap state.words g)
      fewer g = omega (arith, where_set_within (bit_at (control_of heap state.words g) (scanned_at g)) (told_words heap state.words g), told_within_fragments (told_words heap state.words g))
