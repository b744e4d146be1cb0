-- Whose each held spine word is: an array's, a seat's, the collector's, or that of an array which has left it.
use Rattle.std.proofs.Common.{◌≡◌, ◌≢◌, ℕ, zero, suc, ◌+◌, ◌*◌, ◌^◌, ◌==◌, eqb, ◌<◌, ◌⊎◌, Bool, true, false, length, get_or, IfSome, inl, inr, refl, sym, ap, ◌∙◌, subst, arith}
use Rattle.std.specs.Prelude.{if◌then◌else◌}
use Rattle.heap_words.specs.declared.name.Name.{Name}
use Rattle.heap_words.specs.declared.spot.Spot.{Spot}
use Rattle.core_rule.proofs.Terms.{spot_in, spot_word, spine_need_of, graph_of, Command, Heap, Graph, Node, spine_words_of, Word, State, seat_at, IsArrayCall, MakesObject}
use Rattle.core_rule.proofs.Terms.{newborn_word, newborn_word_of, next_name, Seat, spine_need, spine_words_in, at, array_meta, array_word_of, Book, fragment_at, IsKept, node_at}
use Rattle.core_rule.proofs.Terms.{Owner, Free, Taken, Borne, Kept, Dead, SpineOwner, Open, Placed, Spined, Gone, born_bit, ReadsSpine, Rule, IsWordOf, HasPlace}
use Rattle.heap_model.specs.Command.{IsCommand}
use Rattle.heap_model.specs.declared.command.Command.TheVariants as commands
use Rattle.core_machine.specs.declared.collector.stage.SpineCopy.{SpineCopy}
use Rattle.core_rule.specs.held.HeldWords.{IsAmong, IsInHandOf, IsLoadedBy, IsInCopy, IsOfHeld, IsHeldWord}
use Rattle.core_rule.proofs.colours.NoSpines.{newborn_tells_no_spine}
use Rattle.core_rule.proofs.entries.AtRest.{seat_fits}
use Rattle.core_rule.proofs.held.Alive.{IsAlive}
use Rattle.core_rule.proofs.held.BodyWords.{bearing_has_stored_all, fragment_is_in_body}
use Rattle.core_rule.proofs.held.HeldFragments.{held_is_alive, held_within_heap, born_fragment_has_bit}
use Rattle.core_rule.proofs.lists.Members.{position_of, element_stands_at_position}
use Rattle.core_rule.proofs.marking.ObjectEdges.{kept_tells_spine_words}
use Rattle.core_rule.proofs.objects.LastBirth.{all_words_are_stored}
use Rattle.core_rule.proofs.objects.SpinePlaces.{array_spine_fits_spot}
use Rattle.core_rule.proofs.owners.Seated.{borne_is_in_seat_body}
use Rattle.core_rule.proofs.dying.DeadWords.{no_words_behind_first}
use Rattle.core_rule.proofs.ways.ArrayWords.{spine_words_in-meta, spot_in-word}
use Rattle.core_rule.proofs.ways.KeptWords.{word_tells_spine_spot, record_has_no_words}
use Rattle.core_rule.proofs.ways.LoadedPlaces.{while_loaded_holds, loaded_is_on_way, called_register_is_first}

-- what is so of a spine's word is so of the word that is meant
word_of : (spine_owner : ℕ → ℕ → SpineOwner) (spine : Spot) (half offset k : ℕ) (o : SpineOwner) → IsWordOf spine half offset k → spine_owner spine.half (spine.offset + k) ≡ o → spine_owner half offset ≡ o
word_of spine_owner spine half offset k o is has = ap (λ h. spine_owner h offset) is.half_is ∙ ap (spine_owner spine.half) is.offset_is ∙ has

-- the words behind an array's first fragment are 0
behind_zero : (name : Name) (cells : ℕ) (spine : Spot) (k part : ℕ) → array_word_of name cells spine (suc k) part ≡ 0
behind_zero name cells spine k part = let later : eqb (suc k) 0 ≡ false = grind arith in rw later refl

-- what has spine words is an array
has_spine : (object : Node) (k : ℕ) → k < spine_words_of object → object.array ≡ true
has_spine object k within = by object.array refl where
  by : (b : Bool) → object.array ≡ b → object.array ≡ true
  by true is = is
  by false is = absurd (omega (arith, record_has_no_words object is, within))

-- a word among those of one spine is among those of another that is the same
among_same : (spine other : Spot) (words more half offset : ℕ) → spine ≡ other → words ≡ more → IsAmong spine words half offset → IsAmong other more half offset
among_same spine other words more half offset same many among = subst (λ s. IsAmong s more half offset) same (subst (λ n. IsAmong spine n half offset) many among)

module _ (heap : Heap) (state : State) (book : Book) (rule : Rule heap state book) (half offset : ℕ) where
  abbrev g : Graph
  g = graph_of heap book.history

  abbrev nodes : ℕ → Node
  nodes = node_at g book.made

  abbrev the_owner : SpineOwner
  the_owner = book.spine_owner half offset

  -- the word is an array's
  abbrev pub IsSpined : Type 0
  IsSpined = (i : ℕ) × (k : ℕ) × (the_owner ≡ Spined i k)

  -- of a kept array's spine each word is its
  spined : (i : ℕ) → i < length book.made → IsKept book.owner book.fragments i → IsAmong (book.spines i) (spine_words_of (nodes i)) half offset → IsSpined
  spined i below kept among =
      (i, among.index, word_of book.spine_owner (book.spines i) half offset among.index (Spined i among.index) among.is (rule.heap_stands.spines.kept i among.index below kept among.within))

  -- a fragment of a kept object whose first word tells spine words is an array's first, and its words tell where they stand
  pub kept_word_is_spined : (f i k : ℕ) → book.owner f ≡ Kept i k → IsAmong (spot_in (at heap state.words (Word f 2))) (spine_words_in (at heap state.words (Word f 0))) half offset → IsSpined
  kept_word_is_spined f i k owned among =
      let back = rule.heap_stands.objects.back f i k owned in
      by k refl (nodes i).array refl back.0 back.1 back.3 (kept_tells_spine_words heap state book rule f i k owned).1.told
    where
      by : (n : ℕ) → k ≡ n → (array : Bool) → (nodes i).array ≡ array → i < length book.made → IsKept book.owner book.fragments i → f ≡ fragment_at (book.fragments i) k
          → spine_words_in (at heap state.words (Word f 0)) ≡ (if k == 0 then spine_words_of (nodes i) else 0) → IsSpined
      by (suc n) later array kind below kept here told =
          let none : spine_words_in (at heap state.words (Word f 0)) ≡ 0 = told ∙ no_words_behind_first k (spine_words_of (nodes i)) (omega (arith, later)) in
          absurd (omega (arith, none, among.within))
      by zero first false kind below kept here told =
          let many : spine_words_in (at heap state.words (Word f 0)) ≡ spine_words_of (nodes i) = told ∙ rw first refl in
          absurd (omega (arith, many, record_has_no_words (nodes i) kind, among.within))
      by zero first true kind below kept here told =
          let many : spine_words_in (at heap state.words (Word f 0)) ≡ spine_words_of (nodes i) = told ∙ rw first refl in
          let head : f ≡ fragment_at (book.fragments i) 0 = here ∙ ap (fragment_at (book.fragments i)) first in
          let there : spot_in (at heap state.words (Word f 2)) ≡ book.spines i
          = ap (λ x. spot_in (at heap state.words (Word x 2))) head
          ∙ word_tells_spine_spot heap state.words g book.made book.owner book.fragments rule.machine.limits rule.heap_stands.control_words rule.heap_stands.ids rule.heap_stands.objects i below kept kind
          (array_spine_fits_spot rule i below kept kind) in
          spined i below kept (among_same (spot_in (at heap state.words (Word f 2))) (book.spines i) (spine_words_in (at heap state.words (Word f 0))) (spine_words_of (nodes i)) half offset there many among)

  -- a seat has the words of the spine in its hand
  pub hand_word_is_placed : (number : ℕ) → number < heap.seats → IsInHandOf state number half offset → (k : ℕ) × (the_owner ≡ Placed number k)
  hand_word_is_placed number here hand =
      let among = hand.among in
      let spine : Spot = (seat_at state number).spine in
      (among.index, word_of book.spine_owner spine half offset among.index (Placed number among.index) among.is ((rule.seats_stand number here).own.spine.placed hand.has among.index among.within))

  -- a fragment that a seat has borne tells spine words where it is the first of the array that the seat makes
  module _ (number f : ℕ) (bears : book.owner f ≡ Borne number) (among : IsAmong (spot_in (at heap state.words (Word f 2))) (spine_words_in (at heap state.words (Word f 0))) half offset) where
    abbrev seat : Seat
    seat = seat_at state number

    abbrev k : ℕ
    k = position_of f seat.body

    here : number < heap.seats
    here = (borne_is_in_seat_body heap state book rule number f bears).0

    by_command : (command : Command) → seat.command ≡ command → MakesObject command → IsCommand command → (IsArrayCall command → HasPlace seat seat.point) → k < length seat.body
        → ((part : ℕ) → part < 4 → at heap state.words (Word f part) ≡ newborn_word command (next_name number seat) seat.spine seat.body k part) → IsInHandOf state number half offset
    by_command (commands.New d fields) is made range placed within stored =
        let small : (i : ℕ) → i < length seat.body → get_or seat.body i 0 < 2 ^ 30 = λ i less.
        let inside : get_or seat.body i 0 < 16 * heap.groups = (seat_fits rule number here).hand.body_within i 0 less in
        omega (arith, inside, rule.machine.limits.groups_fit)
        in
        let none : spine_words_in (at heap state.words (Word f 0)) ≡ 0
        = ap spine_words_in (stored 0 (omega arith)) ∙ newborn_tells_no_spine seat.body small (next_name number seat) fields k (omega (arith, range.1.1)) in
        absurd (omega (arith, none, among.within))
    by_command (commands.Array d cells) is made range placed within stored = at_row k refl
      where
        at_row : (n : ℕ) → k ≡ n → IsInHandOf state number half offset
        at_row (suc n) later =
            let word : at heap state.words (Word f 0) ≡ 0 = stored 0 (omega arith) ∙ rw later (behind_zero (next_name number seat) cells seat.spine n 0) in
            let none : spine_words_in (at heap state.words (Word f 0)) ≡ 0 = ap spine_words_in word in
            absurd (omega (arith, none, among.within))
        at_row zero first =
            let meta : at heap state.words (Word f 0) ≡ array_meta cells = stored 0 (omega arith) ∙ rw first refl in
            let place : at heap state.words (Word f 2) ≡ spot_word seat.spine = stored 2 (omega arith) ∙ rw first refl in
            let many : spine_words_in (at heap state.words (Word f 0)) ≡ spine_need seat = ap spine_words_in meta ∙ spine_words_in-meta cells (omega (arith, range.1.1)) ∙ ap spine_need_of (sym is) in
            let there : spot_in (at heap state.words (Word f 2)) ≡ seat.spine = ap spot_in place ∙ spot_in-word seat.spine (seat_fits rule number here).hand.spine_within in
            record {
              has = placed tt;
              among = among_same (spot_in (at heap state.words (Word f 2))) seat.spine (spine_words_in (at heap state.words (Word f 0))) (spine_need seat) half offset there many among;
            }
    by_command _ is made range placed within stored = absurd made

    pub borne_word : IsInHandOf state number half offset
    borne_word =
        let has = bearing_has_stored_all heap state book rule number f bears seat.point (seat_fits rule number here).at_point in
        let position = element_stands_at_position f seat.body (fragment_is_in_body heap state book rule number f bears) in
        by_command seat.command refl has.0.makes.an_object has.0.makes.in_range has.3 position.0
        (λ part within. subst (λ x. at heap state.words (Word x part) ≡ newborn_word_of number seat k part) position.1
        (all_words_are_stored heap state.words seat.body (newborn_word_of number seat) seat.stored has.1 (rule.seats_stand number here).own.stored k part position.0 within))

  -- so the spine of what is held is an array's, or that of a seat which has borne it
  pub held_word_is_spined_or_borne : IsOfHeld heap state half offset → IsSpined ⊎ ((number : ℕ) × (f : ℕ) × (book.owner f ≡ Borne number) × IsInHandOf state number half offset)
  held_word_is_spined_or_borne of_held =
      let f : ℕ = of_held.sentinel in
      by f (book.owner f) refl (held_is_alive heap state book rule f of_held.held) (born_fragment_has_bit heap state book rule f (held_within_heap heap state book rule f of_held.held) of_held.born) of_held.among
    where
      by : (f : ℕ) (o : Owner) → book.owner f ≡ o → IsAlive (book.owner f) → born_bit (book.owner f) ≡ 1
          → IsAmong (spot_in (at heap state.words (Word f 2))) (spine_words_in (at heap state.words (Word f 0))) half offset
          → IsSpined ⊎ ((number : ℕ) × (x : ℕ) × (book.owner x ≡ Borne number) × IsInHandOf state number half offset)
      by f (Kept i k) is alive born among = inl (kept_word_is_spined f i k is among)
      by f (Borne number) is alive born among = inr (number, f, is, borne_word number f is among)
      by f (Taken number) is alive born among = absurd (omega (arith, born, ap born_bit is))
      by f Free is alive born among = absurd (subst IsAlive is alive)
      by f (Dead i k) is alive born among = absurd (subst IsAlive is alive)

  -- a word of a spine whose place a call has loaded is the array's, or one that the array has left
  pub loaded_word_is_spined_or_gone : (number : ℕ) → number < heap.seats → IsLoadedBy heap state number half offset → IsSpined ⊎ (the_owner ≡ Gone)
  loaded_word_is_spined_or_gone number here loads =
      let seat : Seat = seat_at state number in
      let stands = rule.seats_stand number here in
      let on = loaded_is_on_way nodes book.made book.owner book.fragments seat seat.point loads.loaded stands.names.way in
      let reads : ReadsSpine heap state.words nodes book.owner book.fragments book.spines book.spine_owner seat = while_loaded_holds seat.point loads.loaded stands.names.address in
      let i : ℕ = on.index in
      let f : ℕ = loads.sentinel in
      let owned : book.owner f ≡ Kept i 0 = ap book.owner (called_register_is_first book.made book.owner book.fragments seat i on.row f on.way loads.calls) ∙ on.way.kept in
      let many : spine_words_in (at heap state.words (Word f 0)) ≡ spine_words_of (nodes i) = (kept_tells_spine_words heap state book rule f i 0 owned).1.told in
      let among : IsAmong seat.address (spine_words_of (nodes i)) half offset = subst (λ n. IsAmong seat.address n half offset) many loads.among in
      let back = rule.heap_stands.objects.back f i 0 owned in
      elim (reads i f loads.calls owned (has_spine (nodes i) among.index among.within)) [
        | inl own ↦ inl (spined i back.0 back.1 (subst (λ s. IsAmong s (spine_words_of (nodes i)) half offset) own among))
        | inr left ↦ inr (word_of book.spine_owner seat.address half offset among.index Gone among.is (left.left among.index among.within))
      ]

  -- and a word of a copy is the collector's
  pub copy_word_is_collectors : IsInCopy state half offset → (k : ℕ) × (the_owner ≡ Placed heap.seats k)
  copy_word_is_collectors copies =
      let copy : SpineCopy = copies.copy in
      let among = copies.among in
      let placed : (j : ℕ) → j < copy.array.words → book.spine_owner copy.to.half (copy.to.offset + j) ≡ Placed heap.seats j
      = subst (λ o. IfSome o (λ (c : SpineCopy). (j : ℕ) → j < c.array.words → book.spine_owner c.to.half (c.to.offset + j) ≡ Placed heap.seats j)) copies.progress rule.space.halves.copy.placed in
      (among.index, word_of book.spine_owner copy.to half offset among.index (Placed heap.seats among.index) among.is (placed among.index among.within))

  -- so none that is held is nobody's
  pub held_word_is_owned : IsHeldWord heap state half offset → the_owner ≢ Open
  held_word_is_owned (inl of_held) none = elim (held_word_is_spined_or_borne of_held) [
    | inl its ↦ cc (its.2, none)
    | inr borne ↦ let hand = hand_word_is_placed borne.0 (borne_is_in_seat_body heap state book rule borne.0 borne.1 borne.2).0 borne.3 in cc (hand.1, none)
  ]
  held_word_is_owned (inr (inl (number, here, inl hand))) none = let its = hand_word_is_placed number here hand in cc (its.1, none)
  held_word_is_owned (inr (inl (number, here, inr loads))) none = elim (loaded_word_is_spined_or_gone number here loads) [ inl its ↦ cc (its.2, none) | inr gone ↦ cc (gone, none) ]
  held_word_is_owned (inr (inr copies)) none = let its = copy_word_is_collectors copies in cc (its.1, none)
