-- The load of an object's name is due, and what it finds is the name.
use Rattle.std.proofs.Common.{◌≡◌, ℕ, Option, Some, ap, subst, ◌∙◌}
use Rattle.std.specs.Prelude.{option_map, unwrap_or}
use Rattle.core_machine.specs.Moves.{Move, move_at, due_step}
use Rattle.core_machine.specs.declared.point.Access.TheVariants.{Naming}
use Rattle.core_machine.specs.declared.point.Point.{Point}
use Rattle.core_machine.specs.declared.step.AccessStep.TheVariants.{NameLoad}
use Rattle.core_machine.specs.declared.step.Step.TheVariants.{Access}
use Rattle.core_machine.specs.table.Decode.{id_of_owner}
use Rattle.core_rule.specs.cycle.Flight.{WhileAccess}
use Rattle.core_rule.specs.told.Reached.{ReachesInBook}
use Rattle.heap_words.specs.Name.{name_in}
use Rattle.heap_words.specs.declared.name.Name.{Name}
use Rattle.heap_table.specs.Made.{Made}
use Rattle.heap_table.specs.SeatHeld.{SeatHeld}
use Rattle.heap_table.specs.Told.{ToldAtStep}
use Rattle.object_chain.specs.Naming.{BeginsNaming, IsHeldsName}

abbrev pub name_load : ℕ → ℕ → Made
name_load head word = record { step = Access (NameLoad head); found = word }

pub name_load_is_due : (held : SeatHeld) (head : ℕ) → BeginsNaming held head → due_step held.heap held.number held.seat ≡ Some (Access (NameLoad head))
name_load_is_due held head begins =
    ap (λ (p : Point). option_map (λ (m : Move). m.step) (move_at held.heap held.number held.seat p)) begins.point_is
    ∙ ap (λ (o : Option ℕ). Some (Access (NameLoad (unwrap_or o 0)))) begins.head_is

-- what it finds is the name of the object that the get's register holds
pub loaded_name_is_held : (held : SeatHeld) (head word : ℕ) (name : Name) → BeginsNaming held head → ToldAtStep held.heap held.number held.seat word → name ≡ name_in word → IsHeldsName held head name
loaded_name_is_held held head word name begins told is =
    let reached : ReachesInBook held.heap held.number held.seat word Naming = subst (WhileAccess (ReachesInBook held.heap held.number held.seat word)) begins.point_is told.tells.reached in
    let there = reached.there in
    record {
      state = there.state;
      book = there.book;
      stands = there.stands;
      here = there.here;
      awaits = there.reaches;
      begins = cc (there.reaches.loads, begins.head_is);
      name_is = ap (λ (n : Name). id_of_owner n.owner n.count) is ∙ reached.names;
    }
