-- Lists that are the scripts that were given have room for their seats' numbers and for their commands'.
use Rattle.std.proofs.Common.{◌≡◌, ◌<◌, ◌^◌, List, Vec, Global, length, map, sym, ap, ◌∙◌, subst, arith}
use Rattle.std.specs.Prelude.{All, slice_index_or}
use Rattle.std.proofs.lemmas.List.{length-map}
use Rattle.std.proofs.Math.ListN.{get_or-map}
use Rattle.heap_model.specs.declared.command.Command.{Command}
use Rattle.locked_heap.specs.Given.{AreScripts, Given, IsGiven, IsSeatScript}

-- no script has more commands than thirty-two bits count
few_each : (scripts : List (Vec Command Global)) → All IsSeatScript (map (λ (script : Vec Command Global). script.items) scripts) → All (λ (script : Vec Command Global). length script.items < 2 ^ 32) scripts
few_each scripts all k d below =
    let items = λ (script : Vec Command Global). script.items in
    let one : IsSeatScript (slice_index_or scripts k d).items = subst IsSeatScript (get_or-map items scripts k d) (all k d.items (omega (arith, below, length-map scripts items))) in
    omega (arith, one.few)

pub given_are_scripts : (given : Given) (scripts : List (Vec Command Global)) → IsGiven given → map (λ (script : Vec Command Global). script.items) scripts ≡ given.scripts → AreScripts given scripts
given_are_scripts given scripts is same = record {
  same = same;
  seated = sym (length-map scripts (λ (script : Vec Command Global). script.items)) ∙ ap length same ∙ is.seated;
  seats = omega (arith, is.limits.seats_fit);
  few = few_each scripts (subst (All IsSeatScript) (sym same) is.scripts);
}
