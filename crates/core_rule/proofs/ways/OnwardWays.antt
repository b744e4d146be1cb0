-- The way after a fragment's first word was found.
use Rattle.std.proofs.Common.{◌≡◌, ℕ, ◌+◌, ◌-◌, ◌/◌, ◌<◌, false, eqb, inl, inr, List, None, IsSome, refl, sym, ap, ◌∙◌, subst, arith, true}
use Rattle.std.proofs.lemmas.Bool.{false≢true, cond_both, eqb-true, eqb-false}
use Rattle.std.proofs.lemmas.Bool.Decides.{eqb_tells}
use Rattle.heap_words.specs.declared.spot.Spot.{Spot}
use Rattle.core_rule.proofs.Terms.{Entry, Heap, Id, Graph, Node, spine_words_of, Word, Walking, Getting, Indexing, Swapping, LoadingOld, ShadingSide, Replacing, register_head, side_register_of, at, spine_place, head_of, link_of}
use Rattle.core_rule.proofs.Terms.{payload_in, spine_word, has_barrier_of, way_point_of, after_link, after_walk, at_access, field_of, Seat, fragment_at, Bits, AreMade, Objects}
use Rattle.core_rule.proofs.Terms.{node_at, Owner, SpineOwner, AddressStands, Finds, Locates, LoadedKept, OldKept, AccessStands}
use Rattle.heap_model.specs.Heap.{IsHeap}
use Rattle.core_machine.specs.declared.point.Point.TheVariants as points
use Rattle.core_machine.specs.declared.point.Access.{Access}
use Rattle.core_machine.specs.declared.point.Side.TheVariants.{Expected, New}
use Rattle.core_machine.proofs.seat_lemmas.FieldPoints.{field_point_cases}
use Rattle.core_rule.proofs.ways.KeptWords.{link_tells_next_row, spine_word_tells_payload}
use Rattle.core_rule.proofs.ways.Rows.{cell_word_within_spine}
use Rattle.core_rule.proofs.ways.LoadedPlaces.{calls_object_of_first}

-- so the way leads to a link, or to one of the points at a field
pub way_point_cases : (P : Access → Type 0) (seat : Seat) → P Walking → P Getting → (has_barrier_of seat ≡ true → P LoadingOld) → (has_barrier_of seat ≡ false → P Swapping)
    → (has_barrier_of seat ≡ true → IsSome (register_head (side_register_of seat Expected)) → P (ShadingSide Expected))
    → (has_barrier_of seat ≡ true → register_head (side_register_of seat Expected) ≡ None → IsSome (register_head (side_register_of seat New)) → P (ShadingSide New))
    → ((has_barrier_of seat ≡ true → (register_head (side_register_of seat Expected) ≡ None) × (register_head (side_register_of seat New) ≡ None)) → P Replacing)
    → P (way_point_of seat)
way_point_cases P seat walks gets loads swaps expects offers compares = elim (eqb_tells seat.links 0) as (λ _. P (way_point_of seat)) [
  | inl e ↦ rw e.0 (field_point_cases P seat seat.command gets loads swaps expects offers compares)
  | inr e ↦ rw e.0 walks
]

-- what holds of a seat that stands at its field's fragment, and of one that follows a link, holds of the seat that goes on
pub after_walk_cases : (P : Seat → Type 0) (seat : Seat) (found : ℕ) → (seat.links ≡ 0 → P (at_access seat (way_point_of seat)))
    → (0 < seat.links → P (at_access (after_link seat found) (way_point_of (after_link seat found)))) → P (after_walk seat found)
after_walk_cases P seat found arrived more =
    cond_both (eqb seat.links 0) _ _ P
    (λ e. arrived (eqb-true seat.links 0 e))
    (λ e. let some = eqb-false seat.links 0 e in more (omega (arith, some)))

module _ (made : List Id) (owner : ℕ → Owner) (fragments : ℕ → List ℕ) (seat : Seat) where
  -- where nothing is loaded that refers to an object, there is no old value
  pub old_kept_where_none : head_of seat.loaded ≡ None → OldKept made owner fragments seat
  old_kept_where_none none some = absurd (false≢true (subst IsSome none some))

  -- what is loaded is so wherever the call stands
  pub loaded_kept_at_point : (point : Access) (mine : List Entry) → LoadedKept made owner fragments seat
      → LoadedKept made owner fragments (record seat { point = points.Access point; mine = mine })
  loaded_kept_at_point point mine loaded = record { index = loaded.index; below = loaded.below; kept = loaded.kept; loads = loaded.loads }

module _ (nodes : ℕ → Node) (made : List Id) (owner : ℕ → Owner) (fragments : ℕ → List ℕ) where
  -- a field that is found is found at the point that comes next
  pub access_stands_at_next : (seat reached : Seat) → seat.loaded ≡ 0 → Finds nodes made owner fragments seat → AccessStands nodes made owner fragments seat (way_point_of reached)
  access_stands_at_next seat reached unloaded finds =
      way_point_cases (λ point. AccessStands nodes made owner fragments seat point) reached finds finds (λ on. finds) (λ off. (finds, old_kept_where_none made owner fragments seat (ap head_of unloaded)))
      (λ on some. finds) (λ on none some. finds) (λ none. finds)

  -- it is found wherever the call stands
  pub finds_at_point : (seat : Seat) (loaded : ℕ) (point : Access) (mine : List Entry) → Finds nodes made owner fragments seat
      → Finds nodes made owner fragments (record seat { loaded = loaded; point = points.Access point; mine = mine })
  finds_at_point seat loaded point mine finds = record {
    index = finds.index;
    row = finds.row;
    way = record { below = finds.way.below; kept = finds.way.kept; holds = finds.way.holds; here = finds.way.here };
    field = finds.field;
  }

  -- so is the way to an array's cell while it stands at the array's first fragment
  pub locates_at_point : (seat : Seat) (address : Spot) (point : Access) (mine : List Entry) → Locates nodes made owner fragments seat
      → Locates nodes made owner fragments (record seat { address = address; point = points.Access point; mine = mine })
  locates_at_point seat address point mine locates = record {
    index = locates.index;
    way = record { below = locates.way.below; kept = locates.way.kept; holds = locates.way.holds; here = locates.way.here };
    an_array = locates.an_array;
    within = locates.within;
    there = locates.there;
  }

module _ (heap : Heap) (words : List ℕ) (g : Graph) (made : List Id) (owner : ℕ → Owner) (fragments : ℕ → List ℕ) {spines : ℕ → Spot}
    (limits : IsHeap heap) (bits : Bits heap words owner) (ids : AreMade g made) (objects : Objects heap words g made owner fragments spines) where
  -- and after one link more
  pub finds_after_link : (seat : Seat) (loaded : ℕ) (point : Access) (mine : List Entry) → 0 < seat.links → Finds (node_at g made) made owner fragments seat
      → Finds (node_at g made) made owner fragments
      (record seat { reached = link_of (at heap words (Word seat.reached 0)); links = seat.links - 1; loaded = loaded; point = points.Access point; mine = mine })
  finds_after_link seat loaded point mine more finds = record {
    index = finds.index;
    row = finds.row + 1;
    way = record {
      below = finds.way.below;
      kept = finds.way.kept;
      holds = finds.way.holds;
      here = link_tells_next_row heap words g made owner fragments limits bits ids objects seat finds more;
    };
    field = record {
      within = finds.field.within;
      leads = omega (arith, more) ∙ finds.field.leads;
      linked = λ an_array. omega (arith, finds.field.linked an_array);
      there = finds.field.there;
    };
  }

  -- the array has the spine word that names its cell's fragment
  pub field_word_within_spine : (seat : Seat) (locates : Locates (node_at g made) made owner fragments seat) → field_of seat.command / 4 < spine_words_of (node_at g made locates.index)
  field_word_within_spine seat locates = cell_word_within_spine (node_at g made locates.index) (field_of seat.command) locates.an_array locates.within

  -- the word that a call is about to load names its cell's fragment
  abbrev pub NamesCell : (seat : Seat) → Locates (node_at g made) made owner fragments seat → Type 0
  NamesCell seat locates = at heap words (spine_place seat.address (field_of seat.command / 4)) ≡ spine_word (fragment_at (fragments locates.index) (field_of seat.command / 4 + 1))

  -- so it is where the place that it loaded is the array's, or one that this has left
  pub names_cell : (spine_owner : ℕ → ℕ → SpineOwner) (seat : Seat) (locates : Locates (node_at g made) made owner fragments seat)
      → AddressStands heap words (node_at g made) owner fragments spines spine_owner seat (points.Access Indexing) → NamesCell seat locates
  names_cell spine_owner seat locates reads = elim (reads locates.index (fragment_at (fragments locates.index) 0) (calls_object_of_first made owner fragments seat locates.index 0 locates.way) locates.way.kept locates.an_array) as (λ _. NamesCell seat locates) [
    | inl own ↦ ap (λ (s : Spot). at heap words (spine_place s (field_of seat.command / 4))) own
        ∙ (objects.kept locates.index locates.way.below locates.way.kept).listed (field_of seat.command / 4) (field_word_within_spine seat locates)
    | inr left ↦ left.listed (field_of seat.command / 4) (field_word_within_spine seat locates)
  ]

  -- by that word its fragment is found
  pub located_word_is_payload : (seat : Seat) (locates : Locates (node_at g made) made owner fragments seat) → NamesCell seat locates
      → payload_in (at heap words (spine_place seat.address (field_of seat.command / 4))) ≡ fragment_at (fragments locates.index) (field_of seat.command / 4 + 1)
  located_word_is_payload seat locates its =
      ap payload_in (its ∙ sym ((objects.kept locates.index locates.way.below locates.way.kept).listed (field_of seat.command / 4) (field_word_within_spine seat locates)))
      ∙ (spine_word_tells_payload heap words g made owner fragments limits bits ids objects locates.index locates.way.below locates.way.kept (field_of seat.command / 4) (field_word_within_spine seat locates)).1

  pub finds_after_payload : (seat : Seat) (loaded : ℕ) (point : Access) (mine : List Entry) → seat.links ≡ 0 → (locates : Locates (node_at g made) made owner fragments seat) → NamesCell seat locates
      → Finds (node_at g made) made owner fragments
      (record seat { reached = payload_in (at heap words (spine_place seat.address (field_of seat.command / 4))); loaded = loaded; point = points.Access point; mine = mine })
  finds_after_payload seat loaded point mine arrived locates its = record {
    index = locates.index;
    row = field_of seat.command / 4 + 1;
    way = record {
      below = locates.way.below;
      kept = locates.way.kept;
      holds = locates.way.holds;
      here = located_word_is_payload seat locates its;
    };
    field = record {
      within = locates.within;
      leads = let none : field_of seat.command / 4 + 1 + seat.links ≡ field_of seat.command / 4 + 1 = omega (arith, arrived) in none ∙ rw locates.an_array refl;
      linked = λ an_array. arrived;
      there = locates.there ∙ rw locates.an_array refl;
    };
  }
