-- What a seat has borne has one colour, by the machine's test of the seat's answer as by the rule's window.
use Rattle.std.proofs.Common.{◌≡◌, ℕ, Bool, true, false, refl, ap, ◌∙◌, if◌then◌else◌}
use Rattle.core_rule.proofs.Terms.{black_births, sweep, Seat, Colour, White, Black, BornColours, IsBetween, Owner, Borne}
use Rattle.core_machine.specs.seat.MakingMoves.{bears_black_of}
use Rattle.core_rule.proofs.cycle.Barriers.{black_births_are_between, between_bears_black}

-- the colour of a birth
abbrev pub birth_colour : Bool → Colour
birth_colour black = if black then Black else White

-- what a seat has borne of the object that it makes is black, or white
abbrev pub AreBorne : (ℕ → Owner) → (ℕ → Colour) → ℕ → Bool → Type 0
AreBorne owner colour number black = (f : ℕ) → owner f ≡ Borne number → colour f ≡ birth_colour black

module _ (owner : ℕ → Owner) (colour : ℕ → Colour) (number : ℕ) (seat : Seat) where
  pub are_borne_as_seat_bears : BornColours owner colour number seat.answered → AreBorne owner colour number (bears_black_of seat)
  are_borne_as_seat_bears births = by (bears_black_of seat) refl
    where
      by : (black : Bool) → bears_black_of seat ≡ black → AreBorne owner colour number black
      by true on = births.dark (black_births_are_between seat on)
      by false off = births.light (λ between. absurd (cc (off, between_bears_black seat between)))

  pub born_colours_from_are_borne : AreBorne owner colour number (bears_black_of seat) → BornColours owner colour number seat.answered
  born_colours_from_are_borne borne = record {
    dark = λ between f is. borne f is ∙ ap birth_colour (between_bears_black seat between);
    light = λ apart f is. by apart (bears_black_of seat) refl f is;
  }
    where
      by : ¬ IsBetween black_births sweep seat.answered → (black : Bool) → bears_black_of seat ≡ black → (f : ℕ) → owner f ≡ Borne number → colour f ≡ White
      by apart true on f is = absurd (apart (black_births_are_between seat on))
      by apart false off f is = borne f is ∙ ap birth_colour off

-- it keeps the colour where the seat bears no more
pub born_colours_stay : (owner later : ℕ → Owner) (colour coloured : ℕ → Colour) (number answer : ℕ) → ((f : ℕ) → later f ≡ Borne number → (owner f ≡ Borne number) × (coloured f ≡ colour f))
    → BornColours owner colour number answer → BornColours later coloured number answer
born_colours_stay owner later colour coloured number answer before births = record {
  dark = λ between f borne. (before f borne).1 ∙ births.dark between f (before f borne).0;
  light = λ apart f borne. (before f borne).1 ∙ births.light apart f (before f borne).0;
}
