-- What stands of a seat with nothing at hand.
use Rattle.std.proofs.Common.{◌≡◌, ℕ, ◌<◌, List, [], refl, arith, ◌+◌, length}
use Rattle.std.proofs.lemmas.List.Elements.{All-nil}
use Rattle.core_rule.proofs.Terms.{Entry, Heap, Seat, GathersRight, Holding, IsStored, fragments_in_hand, Owner}
use Rattle.core_rule.specs.hand.Together.{AreTogether, claim_rank}
use Rattle.core_rule.proofs.gather.GatherMoves.{gathers_right_untried}

-- all that is gathered stands together
pub together_where_empty : (heap : Heap) (cursor tried : ℕ) (hand body : List ℕ) → hand ≡ [] → body ≡ [] → AreTogether heap cursor tried hand body
together_where_empty heap cursor tried hand body none bare = rw (none, bare) record {
  gathered = λ empty. (λ i j d before within. absurd (omega (arith, within)), All-nil (λ f. claim_rank heap cursor f < tried));
  chosen = λ some. absurd (some refl);
}

-- another hand and body that are the same
pub holding_of_equal_hand : (owner : ℕ → Owner) (number : ℕ) (reserve hand body reserve' hand' body' : List ℕ) → reserve' ≡ reserve → hand' ≡ hand → body' ≡ body
    → Holding owner number reserve hand body → Holding owner number reserve' hand' body'
holding_of_equal_hand owner number reserve hand body reserve' hand' body' a b c holding = rw (a, b, c) holding

-- nothing is stored
pub is_stored_where_none : (heap : Heap) (words : List ℕ) (number : ℕ) (seat : Seat) → seat.stored ≡ 0 → IsStored heap words number seat
is_stored_where_none heap words number seat none = λ u less. absurd (omega (arith, none, less))

-- a gather that hasn't begun knows what it must
pub gathers_right_unbegun : (heap : Heap) (owner : ℕ → Owner) (number : ℕ) (since : List Entry) (cursor tried given : ℕ) → tried ≡ 0 → given ≡ 0 → GathersRight heap owner number since cursor tried given
gathers_right_unbegun heap owner number since cursor tried given a b = rw (a, b) (gathers_right_untried heap owner number since cursor)

-- with nothing at hand a seat has its reserve
pub bare_unborn_holds_reserve : (reserve reserve' hand body : List ℕ) (spent taken : ℕ) → reserve' ≡ reserve → hand ≡ [] → body ≡ [] → length reserve + spent ≡ taken → length reserve' + length (fragments_in_hand hand body) + spent ≡ taken
bare_unborn_holds_reserve reserve reserve' hand body spent taken a b c own = rw (a, c, b) (omega (arith, own))
