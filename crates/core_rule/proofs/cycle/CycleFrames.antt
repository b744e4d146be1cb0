-- What stays of a seat's standing in a cycle, and of the colours.
use Rattle.std.proofs.Common.{◌⊎◌, ◌≡◌, ℕ, List, Bool, Option, inl, inr, refl, ◌∙◌, ◌≢◌, sym}
use Rattle.core_rule.proofs.Terms.{ShadingSide, Replacing, Heap, Point, ShadingOld, ShadingNew, Swapping, at, Seat, Colour, White, Black, IsMarked, WordPointsTo, IsBetween, Coloured, BornColours}
use Rattle.core_rule.proofs.Terms.{SeatInCycle, Flight, DeletionBarrier, FieldStands, ShadedStands, RootsStand, WhileAccess, WhilePolling, Owner, Borne, Kept, born_bit}
use Rattle.core_rule.proofs.Terms.{AnswersAgree, AnswerStands}
use Rattle.core_machine.specs.declared.table.address.Address.TheVariants.{Answer}
use Rattle.core_machine.specs.declared.point.Point.TheVariants as points
use Rattle.core_machine.specs.declared.point.Side.TheVariants.{New}
use Rattle.core_machine.specs.declared.point.Polling.{Polling}
use Rattle.core_machine.specs.declared.point.Polling.TheVariants.{Asking, Shading, Answering}
use Rattle.core_machine.specs.declared.point.Access.{Access}
use Rattle.core_rule.proofs.colours.Births.{born_colours_stay}
use Rattle.core_rule.proofs.lists.Options.{if_some_goes_on}

-- what holds on the way goes on to hold
pub while_access_goes_on : (P Q : Access → Type 0) → ((point : Access) → P point → Q point) → (point : Point) → WhileAccess P point → WhileAccess Q point
while_access_goes_on P Q more (points.Access point) holds = more point holds
while_access_goes_on P Q more _ holds = tt

-- so does what holds while the phase is answered
pub while_polling : (P Q : Polling → Type 0) → ((point : Polling) → P point → Q point) → (point : Point) → WhilePolling P point → WhilePolling Q point
while_polling P Q more (points.Polling point) holds = more point holds
while_polling P Q more _ holds = tt

-- the roots stay marked
pub roots_stay : (colour coloured : ℕ → Colour) (seat : Seat) → ((f : ℕ) → IsMarked colour f → IsMarked coloured f)
    → (point : Polling) → RootsStand colour seat point → RootsStand coloured seat point
roots_stay colour coloured seat marks Asking roots = tt
roots_stay colour coloured seat marks Shading roots = λ r before. if_some_goes_on (IsMarked colour) (IsMarked coloured) marks _ (roots r before)
roots_stay colour coloured seat marks Answering roots = λ r. if_some_goes_on (IsMarked colour) (IsMarked coloured) marks _ (roots r)

-- a set has loaded its field's old value
abbrev pub IsWatching : Access → Type 0
IsWatching ShadingOld = Unit {0}
IsWatching ShadingNew = Unit {0}
IsWatching Swapping = Unit {0}
IsWatching _ = ⊥

-- what holds on the way goes on to hold at its point
access_at : (P Q : Access → Type 0) (point : Point) → ((reaching : Access) → point ≡ points.Access reaching → P reaching → Q reaching)
    → WhileAccess P point → WhileAccess Q point
access_at P Q (points.Access reaching) more holds = more reaching refl holds
access_at P Q _ more holds = tt

-- while black fragments are made, the sources of born ones lead where they led, or to what is marked
abbrev pub LeadsStay : Heap → List ℕ → List ℕ → (ℕ → Owner) → (ℕ → Colour) → ℕ → Type 0
LeadsStay heap words now owner coloured phase =
    IsBetween 2 5 phase → (f source g : ℕ) → born_bit (owner f) ≡ 1 → WordPointsTo heap now f source g → WordPointsTo heap words f source g ⊎ IsMarked coloured g

-- more is marked, and what is watched leads to no more than it did but for what is marked
pub deletion_barrier_stays : (heap : Heap) (words now : List ℕ) (colour coloured : ℕ → Colour) → ((f : ℕ) → IsMarked colour f → IsMarked coloured f)
    → (f part : ℕ) → ((g : ℕ) → WordPointsTo heap now f part g → WordPointsTo heap words f part g ⊎ IsMarked coloured g)
    → (old : Option ℕ) → DeletionBarrier heap words colour f part old → DeletionBarrier heap now coloured f part old
deletion_barrier_stays heap words now colour coloured marks f part leads old watches g later = elim (leads g later) [
  | inl before ↦ elim (watches g before) [
    | inl same ↦ inl same
    | inr marked ↦ inr (marks g marked)
  ]
  | inr marked ↦ inr marked
]

module _ (heap : Heap) (words now : List ℕ) (colour coloured : ℕ → Colour) (seat : Seat) (marks : (f : ℕ) → IsMarked colour f → IsMarked coloured f) where
  pub field_stands_still : (point : Access)
      → (IsWatching point → (g : ℕ) → WordPointsTo heap now seat.reached seat.part g → WordPointsTo heap words seat.reached seat.part g ⊎ IsMarked coloured g)
      → FieldStands heap words colour seat point → FieldStands heap now coloured seat point
  field_stands_still ShadingOld leads field = deletion_barrier_stays heap words now colour coloured marks _ _ (leads tt) _ field
  field_stands_still ShadingNew leads field = deletion_barrier_stays heap words now colour coloured marks _ _ (leads tt) _ field
  field_stands_still Swapping leads field = deletion_barrier_stays heap words now colour coloured marks _ _ (leads tt) _ field
  field_stands_still _ leads field = tt

  shaded_stays : (point : Access) → ShadedStands colour seat point → ShadedStands coloured seat point
  shaded_stays ShadingNew shaded = if_some_goes_on (IsMarked colour) (IsMarked coloured) marks _ shaded
  shaded_stays Swapping shaded = λ on. (if_some_goes_on (IsMarked colour) (IsMarked coloured) marks _ (shaded on).0, if_some_goes_on (IsMarked colour) (IsMarked coloured) marks _ (shaded on).1)
  shaded_stays (ShadingSide New) shaded = if_some_goes_on (IsMarked colour) (IsMarked coloured) marks _ shaded
  shaded_stays Replacing shaded = λ on. (if_some_goes_on (IsMarked colour) (IsMarked coloured) marks _ (shaded on).0, if_some_goes_on (IsMarked colour) (IsMarked coloured) marks _ (shaded on).1)
  shaded_stays _ shaded = tt

-- what a step of another party leaves of what a seat needs: its answer, where the heap's fragments lead, what is marked, and what it bears
pub record LeavesCycle (heap : Heap) (words now : List ℕ) (owner later : ℕ → Owner) (colour coloured : ℕ → Colour) (phase number : ℕ) : Type 0 where
  pub answer : at heap now (Answer number) ≡ at heap words (Answer number)
  pub leads : LeadsStay heap words now owner coloured phase
  pub marks : (f : ℕ) → IsMarked colour f → IsMarked coloured f
  pub births : (f : ℕ) → later f ≡ Borne number → (owner f ≡ Borne number) × (coloured f ≡ colour f)

-- a step that changes nothing leaves all of it
pub leaves_cycle_unchanged : (heap : Heap) (words : List ℕ) (owner : ℕ → Owner) (colour : ℕ → Colour) (phase number : ℕ)
    → LeavesCycle heap words words owner owner colour colour phase number
leaves_cycle_unchanged heap words owner colour phase number = record {
  answer = refl;
  leads = λ marking f source g born leads. inl leads;
  marks = λ f marked. marked;
  births = λ f borne. (borne, refl);
}

-- what a set has loaded its field's old value of is born
abbrev pub WatchesBorn : (ℕ → Owner) → Seat → Type 0
WatchesBorn owner seat = (reaching : Access) → seat.point ≡ points.Access reaching → IsWatching reaching → born_bit (owner seat.reached) ≡ 1

-- it has its standing where its answer stays, what is marked and what it bears, and where its field leads whose old value a set has loaded
pub seat_in_cycle_where_watched : (heap : Heap) (words now : List ℕ) (owner later : ℕ → Owner) (colour coloured : ℕ → Colour) (phase answers : ℕ) (gone : Bool) (number : ℕ) (seat : Seat)
    → at heap now (Answer number) ≡ at heap words (Answer number) → ((f : ℕ) → IsMarked colour f → IsMarked coloured f)
    → ((f : ℕ) → later f ≡ Borne number → (owner f ≡ Borne number) × (coloured f ≡ colour f))
    → (IsBetween 2 5 phase → (reaching : Access) → seat.point ≡ points.Access reaching → IsWatching reaching → (g : ℕ) → WordPointsTo heap now seat.reached seat.part g
    → WordPointsTo heap words seat.reached seat.part g ⊎ IsMarked coloured g)
    → SeatInCycle heap words phase answers gone owner colour number seat → SeatInCycle heap now phase answers gone later coloured number seat
seat_in_cycle_where_watched heap words now owner later colour coloured phase answers gone number seat answer marks births watches cycle = record {
  answers_told = record {
    told = cycle.answers_told.told;
    leaves = cycle.answers_told.leaves;
    word = answer ∙ cycle.answers_told.word;
    near = cycle.answers_told.near;
    loaded = cycle.answers_told.loaded;
  };
  answer = cycle.answer;
  flight = record {
    set = λ marking snapped. access_at (FieldStands heap words colour seat) (FieldStands heap now coloured seat) seat.point
        (λ reaching is. field_stands_still heap words now colour coloured seat marks reaching (watches marking reaching is)) (cycle.flight.set marking snapped);
    shaded = λ marking. while_access_goes_on (ShadedStands colour seat) (ShadedStands coloured seat) (shaded_stays heap words now colour coloured seat marks) seat.point (cycle.flight.shaded marking);
    roots = λ begins. while_polling (RootsStand colour seat) (RootsStand coloured seat) (roots_stay colour coloured seat marks) seat.point (cycle.flight.roots begins);
  };
  births = born_colours_stay owner later colour coloured number seat.answered births cycle.births;
}

-- so it does where a step leaves all of it
pub seat_in_cycle_stays : (heap : Heap) (words now : List ℕ) (owner later : ℕ → Owner) (colour coloured : ℕ → Colour) (phase answers : ℕ) (gone : Bool) (number : ℕ) (seat : Seat)
    → LeavesCycle heap words now owner later colour coloured phase number → WatchesBorn owner seat
    → SeatInCycle heap words phase answers gone owner colour number seat → SeatInCycle heap now phase answers gone later coloured number seat
seat_in_cycle_stays heap words now owner later colour coloured phase answers gone number seat leaves watched =
    seat_in_cycle_where_watched heap words now owner later colour coloured phase answers gone number seat leaves.answer leaves.marks leaves.births
    (λ marking reaching is watching g lead. leaves.leads marking _ _ g (watched reaching is watching) lead)

-- what it has answered, and whether it has left, is as before
pub record SameAnswer (seat next : Seat) : Type 0 where
  pub answered : next.answered ≡ seat.answered
  pub left : next.left ≡ seat.left
  pub asked : next.asked ≡ seat.asked

pub answers_agree_still : (heap : Heap) (words now : List ℕ) (phase answers : ℕ) (gone : Bool) (number : ℕ) (seat next : Seat) → SameAnswer seat next
    → at heap now (Answer number) ≡ at heap words (Answer number)
    → AnswersAgree heap words phase answers gone number seat.left seat.answered seat.asked → AnswersAgree heap now phase answers gone number next.left next.answered next.asked
answers_agree_still heap words now phase answers gone number seat next same word told = rw (same.answered, same.left, same.asked) record {
  told = told.told;
  leaves = told.leaves;
  word = word ∙ told.word;
  near = told.near;
  loaded = told.loaded;
}

-- a seat that goes on, by what it has in flight then
pub seat_in_cycle_by_flight : (heap : Heap) (words now : List ℕ) (owner later : ℕ → Owner) (colour coloured : ℕ → Colour) (phase answers : ℕ) (gone : Bool) (number : ℕ) (seat next : Seat)
    → SameAnswer seat next → at heap now (Answer number) ≡ at heap words (Answer number) → AnswerStands phase next.answered next.asked next.point
    → Flight heap now coloured phase next → BornColours later coloured number next.answered
    → SeatInCycle heap words phase answers gone owner colour number seat → SeatInCycle heap now phase answers gone later coloured number next
seat_in_cycle_by_flight heap words now owner later colour coloured phase answers gone number seat next same word answer flight births cycle = record {
  answers_told = answers_agree_still heap words now phase answers gone number seat next same word cycle.answers_told;
  answer = answer;
  flight = flight;
  births = births;
}

-- the history tells the same
pub seat_in_cycle_as_told : (heap : Heap) (words : List ℕ) (phase later_phase answers later_answers : ℕ) (gone later_gone : Bool) (owner : ℕ → Owner) (colour : ℕ → Colour) (number : ℕ) (seat : Seat)
    → later_phase ≡ phase → later_answers ≡ answers → later_gone ≡ gone
    → SeatInCycle heap words phase answers gone owner colour number seat → SeatInCycle heap words later_phase later_answers later_gone owner colour number seat
seat_in_cycle_as_told heap words phase later_phase answers later_answers gone later_gone owner colour number seat a b c cycle = rw (a, b, c) cycle

-- the colours stay right where so the heap's fragments lead, what is marked stays born, and what is kept was kept
pub coloured_stays : (heap : Heap) (words now : List ℕ) (owner later : ℕ → Owner) (colour : ℕ → Colour) (fragments : ℕ → List ℕ) (phase : ℕ)
    → LeadsStay heap words now owner colour phase
    → ((f : ℕ) → IsMarked colour f → born_bit (owner f) ≡ 1 → born_bit (later f) ≡ 1)
    → ((f i k : ℕ) → later f ≡ Kept i k → owner f ≡ Kept i k)
    → Coloured heap words owner colour fragments phase → Coloured heap now later colour fragments phase
coloured_stays heap words now owner later colour fragments phase leads born kept stands = record {
  rest = stands.rest;
  early = stands.early;
  born = λ f marked. born f marked (stands.born f marked);
  black = λ marking f source g black later_leads. elim (leads marking f source g (stands.born f (λ white. dark (sym black ∙ white))) later_leads) [
    | inl before ↦ stands.black marking f source g black before
    | inr marked ↦ marked
  ];
  first = λ marking f i k keeps marked. stands.first marking f i k (kept f i k keeps) marked;
}
  where
    dark : Black ≢ White
    dark e = cc
