-- What each step of a call leads to by the seat's own view, whatever word it has found, and that a call begins so.
pub mod Answer
pub mod Begin
pub mod Birth
pub mod Claiming
pub mod Compare
pub mod End
pub mod Field
pub mod Gather
pub mod Inner
pub mod InnerAnswer
pub mod InnerLooks
pub mod Leading
pub mod Objects
pub mod Sums
pub mod Turns
pub mod Way
use Rattle.std.proofs.Common.{◌≡◌, ℕ, ◌^◌, ◌<◌, List, [], ◌∷◌, ◌++◌, length, Option, Some, None, refl, sym, ap, subst, ◌∙◌, append_assoc}
use Rattle.std.specs.Prelude.{IfSome}
use Rattle.core_machine.proofs.Terms.{IsHeap, Command, Entry, Heap, Move, next_move, due_step, seat_after, seat_after_due, Nears, owes, steps_left, FoundPointsWithin, address_of}
use Rattle.core_machine.proofs.Terms.{Kept, kept_of, StageAt, OwnStage, LoadingMeta, Walking, LoadingSpot, Indexing, Getting, Naming, LoadingOld, ShadingOld, ShadingNew, Swapping}
use Rattle.core_machine.proofs.Terms.{Granting, Withdrawing, Gathering, GivingBack, Refusing, Placing, Listing, Storing, Bearing, Point, Step, MayBegin, after_begin, Fits, Seat}
use Rattle.core_machine.proofs.kinds.{point_kind}
use Rattle.core_machine.proofs.moves.{due_step_is_moves, due_fits, due_nears}
use Rattle.core_machine.proofs.own_stages.Leading.{Leads, LeadsOn, PointLeads}

module _ (tells : Step → ℕ → Type 0) where
  -- a call that stands so goes on to stand so, whatever word its next step finds of which so much is told
  pub own_leads : (heap : Heap) (number : ℕ) (command : Command) (old seat : Seat) (told : List Entry) (move : Move) (found : ℕ) → IsHeap heap → number < 16 → Fits heap seat
      → next_move heap number seat ≡ Some move → tells move.step found → OwnStage tells heap number command old seat told
      → OwnStage tells heap number command old (seat_after move found) (told ++ move.adds found)
  own_leads heap number command old seat told move found limits few fits next tell is =
      let leads : Leads tells heap number (kept_of old) seat told move found =
      subst (λ (m : Option Move). IfSome m (LeadsOn tells heap number (kept_of old) seat told)) next
      ((point_kind seat.point).leads tells heap number (kept_of old) seat told
      (record { limits = limits; few = few; fits = fits; point_is = refl; hand = fits.at_point; way = fits.way_at_point; answer = fits.answer_at_point }) is.stage) found tell in
      record {
        same = leads.same ∙ is.same;
        mine = ap (λ (l : List Entry). l ++ move.adds found) (leads.kept ∙ is.mine) ∙ append_assoc old.mine told (move.adds found);
        stage = leads.stage;
      }

  -- a call that has begun stands so, and has told nothing
  pub own_begins : (heap : Heap) (number : ℕ) (old : Seat) (command : Command) → IsHeap heap → Fits heap old → MayBegin old command → OwnStage tells heap number command old (after_begin heap old command) []
  own_begins heap number old command limits fits may = Begin.own_stage_stands_at_begin tells heap number old command limits fits may

-- a seat of a call has learned the word that its due step found: it has told no more than it owed, and nears its end
pub record HasLearned (tells : Step → ℕ → Type 0) (heap : Heap) (number : ℕ) (command : Command) (old seat next : Seat) (told : List Entry) : Type 0 where
  pub more : List Entry
  pub own : OwnStage tells heap number command old next (told ++ more)
  pub fits : Fits heap next
  pub nears : Nears heap next (owes seat) (steps_left heap seat) (length more)

pub own_learns : (tells : Step → ℕ → Type 0) (heap : Heap) (number : ℕ) (command : Command) (old seat next : Seat) (told : List Entry) (step : Step) (found : ℕ) → IsHeap heap → number < 16 → Fits heap seat
    → due_step heap number seat ≡ Some step → next ≡ seat_after_due seat (next_move heap number seat) found → found < 2 ^ 64 → FoundPointsWithin heap (address_of step) found → tells step found
    → OwnStage tells heap number command old seat told → HasLearned tells heap number command old seat next told
own_learns tells heap number command old seat next told step found limits few fits due is small led tell own =
    let move = due_step_is_moves heap number seat step due in
    let here : seat_after move.0 found ≡ next = sym (is ∙ ap (λ m. seat_after_due seat m found) move.1) in
    subst (λ (s : Seat). HasLearned tells heap number command old seat s told) here (record {
      more = move.0.adds found;
      own = own_leads tells heap number command old seat told move.0 found limits few fits move.1 (subst (λ (s : Step). tells s found) (sym move.2) tell) own;
      fits = due_fits heap number seat move.0 found limits few fits move.1 small (subst (λ (s : Step). FoundPointsWithin heap (address_of s) found) (sym move.2) led);
      nears = due_nears heap number seat move.0 found limits few fits move.1;
    })
