-- Paths of white fragments stay at each step that takes no white one's last way to it.
use Rattle.std.proofs.Common.{◌⊎◌, ◌≡◌, ◌≢◌, ℕ, List, inl, inr, refl, sym, ◌∙◌, subst}
use Rattle.std.proofs.lemmas.Bool.Decides.{eqb_tells}
use Rattle.core_rule.proofs.Terms.{Heap, Colour, White, Grey, Black, IsMarked, WordPointsTo, Owner, born_bit, IsWhite, Edge, Guarded, from_grey, from_white, IsGuarded, IsReached}
use Rattle.core_rule.proofs.colours.ShadeColours.{with_mark, marked, mark_marks_colour, mark_keeps_other_colour, mark_keeps_marked, mark_marks_fragment}

-- the end of a path is white
pub path_white : (edge : ℕ → ℕ → Type 0) (white grey : ℕ → Type 0) (x : ℕ) → Guarded edge white grey x → white x
path_white edge white grey x (from_grey f _ greys leads whites) = whites
path_white edge white grey x (from_white f _ path leads whites) = whites

module _ (edge now : ℕ → ℕ → Type 0) (white later grey greys : ℕ → Type 0)
    (stays : (f : ℕ) → white f → later f) (greys_on : (f g : ℕ) → grey f → edge f g → white g → greys f)
    (leads_on : (f g : ℕ) → white f ⊎ grey f → edge f g → white g → now f g) where
  -- a path stays where its fragments stay white, and its first one grey, and each of its edges is there
  pub path_stays_guarded : (x : ℕ) → Guarded edge white grey x → Guarded now later greys x
  path_stays_guarded x (from_grey f _ is leads whites) = from_grey f x (greys_on f x is leads whites) (leads_on f x (inr is) leads whites) (stays x whites)
  path_stays_guarded x (from_white f _ path leads whites) =
      from_white f x (path_stays_guarded f path) (leads_on f x (inl (path_white edge white grey f path)) leads whites) (stays x whites)

-- a fragment is white or marked
pub white_or_marked : (colour : ℕ → Colour) (f : ℕ) → (colour f ≡ White) ⊎ IsMarked colour f
white_or_marked colour f = by (colour f) refl
  where
    by : (c : Colour) → colour f ≡ c → (colour f ≡ White) ⊎ IsMarked colour f
    by White is = inl is
    by Grey is = inr (λ white. absurd (cc (is, white)))
    by Black is = inr (λ white. absurd (cc (is, white)))

-- a marked fragment is grey or black
pub grey_or_black : (colour : ℕ → Colour) (f : ℕ) → IsMarked colour f → (colour f ≡ Grey) ⊎ (colour f ≡ Black)
grey_or_black colour f marked = by (colour f) refl
  where
    by : (c : Colour) → colour f ≡ c → (colour f ≡ Grey) ⊎ (colour f ≡ Black)
    by White is = absurd (marked is)
    by Grey is = inl is
    by Black is = inr is

module _ (heap : Heap) (words : List ℕ) (owner : ℕ → Owner) (colour : ℕ → Colour)
    (black : (f source g : ℕ) → colour f ≡ Black → WordPointsTo heap words f source g → IsMarked colour g) where
  -- marking comes to what a fragment leads to that it comes to
  pub reached_follows_lead : (f source g : ℕ) → born_bit (owner g) ≡ 1 → IsReached heap words owner colour f → WordPointsTo heap words f source g → IsReached heap words owner colour g
  reached_follows_lead f source g born reached leads = elim (white_or_marked colour g) as (λ _. IsReached heap words owner colour g) [
    | inr marked ↦ inl marked
    | inl white ↦ on record { unmarked = white; born = born } reached
  ]
    where
      on : IsWhite owner colour g → IsReached heap words owner colour f → IsReached heap words owner colour g
      on whites (inr path) = inr (from_white f g path (record { source = source; points = leads }) whites)
      on whites (inl marked) = elim (grey_or_black colour f marked) as (λ _. IsReached heap words owner colour g) [
        | inl grey ↦ inr (from_grey f g grey (record { source = source; points = leads }) whites)
        | inr dark ↦ inl (black f source g dark leads)
      ]

module _ (colour : ℕ → Colour) (m : ℕ) where
  -- a marked fragment has the colour that it had
  pub marked_colour_stays : (f : ℕ) → IsMarked colour f → with_mark colour m f ≡ colour f
  marked_colour_stays f is_marked = elim (eqb_tells f m) as (λ _. with_mark colour m f ≡ colour f) [
    | inl same ↦ subst (λ x. with_mark colour m x ≡ colour x) (sym same.1) (mark_marks_colour colour m ∙ as_it_was (colour m) (subst (IsMarked colour) same.1 is_marked))
    | inr other ↦ mark_keeps_other_colour colour m f other.1
  ]
    where
      as_it_was : (c : Colour) → c ≢ White → marked c ≡ c
      as_it_was White some = absurd (some refl)
      as_it_was Grey some = refl
      as_it_was Black some = refl

  -- so a grey one stays grey
  pub grey_stays_grey : (f : ℕ) → colour f ≡ Grey → with_mark colour m f ≡ Grey
  grey_stays_grey f grey = marked_colour_stays f (λ white. absurd (cc (grey, white))) ∙ grey

module _ (heap : Heap) (words now : List ℕ) (owner : ℕ → Owner) (colour : ℕ → Colour) (m : ℕ)
    (leads_on : (f source g : ℕ) → WordPointsTo heap words f source g → WordPointsTo heap now f source g) where
  abbrev shaded : ℕ → Colour
  shaded = with_mark colour m

  edge_on : (f g : ℕ) → Edge heap words f g → Edge heap now f g
  edge_on f g leads = record { source = leads.source; points = leads_on f leads.source g leads.points }

  -- what gets marked is the fragment, which is grey then
  newly_grey : (f : ℕ) → colour f ≡ White → (f ≡ m) → shaded m ≡ Grey
  newly_grey f white same = mark_marks_colour colour m ∙ subst (λ x. marked (colour x) ≡ Grey) same (rw white refl)

  -- a white one but that stays white
  white_on : (f : ℕ) → f ≢ m → IsWhite owner colour f → IsWhite owner shaded f
  white_on f other white = record { unmarked = mark_keeps_other_colour colour m f other ∙ white.unmarked; born = white.born }

  -- once a fragment is marked, the paths through it begin there
  path_shades : (f : ℕ) → IsGuarded heap words owner colour f → (f ≡ m) ⊎ IsGuarded heap now owner shaded f
  path_shades f (from_grey e _ grey leads white) = elim (eqb_tells f m) as (λ _. (f ≡ m) ⊎ IsGuarded heap now owner shaded f) [
    | inl same ↦ inl same.1
    | inr other ↦ inr (from_grey e f (grey_stays_grey colour m e grey) (edge_on e f leads) (white_on f other.1 white))
  ]
  path_shades f (from_white e _ path leads white) = elim (eqb_tells f m) as (λ _. (f ≡ m) ⊎ IsGuarded heap now owner shaded f) [
    | inl same ↦ inl same.1
    | inr other ↦ elim (path_shades e path) as (λ _. (f ≡ m) ⊎ IsGuarded heap now owner shaded f) [
      | inl first ↦ inr (from_grey e f
          (subst (λ x. shaded x ≡ Grey) (sym first) (newly_grey e (path_white (Edge heap words) (IsWhite owner colour) (λ x. colour x ≡ Grey) e path).unmarked first))
          (edge_on e f leads) (white_on f other.1 white))
      | inr further ↦ inr (from_white e f further (edge_on e f leads) (white_on f other.1 white))
    ]
  ]

  -- so marking comes to all that it came to
  pub reached_stays_after_shade : (f : ℕ) → IsReached heap words owner colour f → IsReached heap now owner shaded f
  reached_stays_after_shade f (inl marked) = inl (mark_keeps_marked colour m f marked)
  reached_stays_after_shade f (inr path) = elim (path_shades f path) as (λ _. IsReached heap now owner shaded f) [
    | inl same ↦ inl (subst (IsMarked shaded) (sym same) (mark_marks_fragment colour m))
    | inr further ↦ inr further
  ]
