-- The parties of a berth after one of them has another view, or one more has come.
use Rattle.std.proofs.Common.{◌≡◌, ℕ, zero, suc, ◌<◌, ◌≢◌, List, [], ◌∷◌, ◌++◌, ◌⊎◌, length, set, Option, Some, None, inl, inr, refl, sym, ap, subst, ◌∙◌, ⊎_elim, arith}
use mathlib.Core.Option.{Option as Found, some, none, some-ne-none}
use lib.ListN.{get_elem?}
use Rattle.atomic_table.proofs.Lists.{at_set, at_snoc, at_longer}
use Rattle.heap_table.specs.SeatHeld.{SeatHeld}
use Rattle.seat_berth.specs.Known.{OwnerKnown, HelperKnown, Taken, opening_helper}
use Rattle.seat_berth.specs.Resting.{EachHelper, NoneHas, HasAlone}
use Rattle.seat_berth.specs.Views.{owner_view, helper_view, helper_by}
use Rattle.seat_berth.specs.declared.view.View.{View}

-- what is put where something was
pub replaced : {A : Type 0} (l : List A) (i : ℕ) (a b : A) → get_elem? l i ≡ some a → get_elem? (set l i b) i ≡ some b
replaced [] i a b e = absurd (some-ne-none a (sym e))
replaced (x ∷ xs) zero a b e = refl
replaced (x ∷ xs) (suc i) a b e = replaced xs i a b e

-- two views of helpers are one where what these know is
known_same : (a b : HelperKnown) → helper_view a ≡ helper_view b → a ≡ b
known_same a b e = ap helper_by e

module _ (views : List View) (Is : ℕ → Option Taken → Type 0) (each : EachHelper views Is) where
  -- the owner has another view
  pub each_by_owner : (known : OwnerKnown) → EachHelper (set views 0 (owner_view known)) Is
  each_by_owner known party other e = ⊎_elim (λ here. absurd cc) (λ else. each party other else.1) (at_set views 0 party (owner_view known) (helper_view other) e)

  -- a helper has another view, with nothing of the berth
  pub each_by_free : (id : ℕ) (known : HelperKnown) → Is id known.has → EachHelper (set views id (helper_view known)) Is
  each_by_free id known is party other e = ⊎_elim
      (λ here. subst (λ (n : ℕ). Is n other.has) (sym here.0) (subst (λ (k : HelperKnown). Is id k.has) (known_same known other here.1) is))
      (λ else. each party other else.1) (at_set views id party (helper_view known) (helper_view other) e)

  -- a helper has come
  pub each_by_coming : ((party : ℕ) → Is party None) → EachHelper (views ++ helper_view opening_helper ∷ []) Is
  each_by_coming nothing party other e = ⊎_elim (λ there. each party other there)
      (λ new. subst (λ (k : HelperKnown). Is party k.has) (known_same opening_helper other new) (nothing party)) (at_snoc views (helper_view opening_helper) (helper_view other) party e)

-- who hasn't the seat may be anybody
alone_by_none : (one : ℕ) (parked : SeatHeld) (party : ℕ) (has : Option Taken) → has ≡ None → HasAlone one parked party has
alone_by_none one parked party None is = tt
alone_by_none one parked party (Some taken) is = absurd cc

-- who isn't the one hasn't the seat
none_by_alone : (one : ℕ) (parked : SeatHeld) (party : ℕ) (has : Option Taken) → party ≢ one → HasAlone one parked party has → has ≡ None
none_by_alone one parked party None other alone = refl
none_by_alone one parked party (Some taken) other alone = absurd (other alone.0)

-- where none has the seat, one takes it alone
pub alone_by_taking : (views : List View) (id : ℕ) (known : HelperKnown) (taken : Taken) → NoneHas views → known.has ≡ Some taken
    → EachHelper (set views id (helper_view known)) (HasAlone id taken.parked)
alone_by_taking views id known taken free has party other e = ⊎_elim
    (λ here. subst (λ (k : Option Taken). HasAlone id taken.parked party k) (sym has ∙ ap (λ (k : HelperKnown). k.has) (known_same known other here.1)) (here.0, refl))
    (λ else. alone_by_none id taken.parked party other.has (free party other else.1)) (at_set views id party (helper_view known) (helper_view other) e)

-- where one has the seat alone, none has it once that one gives it back
pub none_by_giving : (views : List View) (one : ℕ) (parked : SeatHeld) (known : HelperKnown) → EachHelper views (HasAlone one parked) → known.has ≡ None
    → NoneHas (set views one (helper_view known))
none_by_giving views one parked known alone free party other e = ⊎_elim
    (λ here. ap (λ (k : HelperKnown). k.has) (sym (known_same known other here.1)) ∙ free)
    (λ else. none_by_alone one parked party other.has else.0 (alone party other else.1)) (at_set views one party (helper_view known) (helper_view other) e)
