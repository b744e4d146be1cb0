-- The reached ids of a graph stand in a list, and so do those that are reached in two.
use Rattle.std.proofs.Common.{ℕ, ◌≤◌, List}
use Rattle.core_rule.proofs.Terms.{Id, graph_of, IsReachOfBoth, up_to_cycle, Graph, IsMade, Reaches, from_register, from_cell, IsReach}
use Rattle.core_rule.specs.sweep_exact.SweepLaws.{EachReachIsListed}
use Rattle.core_rule.proofs.reach.IdLists.{all_are_listed}
use Rattle.core_rule.proofs.reach.ReachRounds.{reach_decided}
use Rattle.core_rule.proofs.lists.Decided.{both_decided}

-- what is reached was made
pub reached_is_made : (g : Graph) (id : Id) → Reaches g id → IsMade g id
reached_is_made g _ (from_register id made root) = made
reached_is_made g _ (from_cell id made holder reached points) = made

-- the list of what is reached
pub reach_listed : (g : Graph) → (ids : List Id) × IsReach g ids
reach_listed g =
    let list = all_are_listed g (Reaches g) (reach_decided g) (reached_is_made g) in
    (list.0, record { ordered = list.1.ordered; reached = list.1.all })

-- so an order of numbers that follows from any such list is so
pub ordered_by_reach_lists : (g : Graph) (a b : ℕ) → ((begun : List Id) → IsReach g begun → a ≤ b) → a ≤ b
ordered_by_reach_lists g a b each = let list = reach_listed g in each list.0 list.1

-- and of what is reached in both
both_listed : (g h : Graph) → (ids : List Id) × IsReachOfBoth g h ids
both_listed g h =
    let list = all_are_listed g (λ id. Reaches g id × Reaches h id) (λ id. both_decided (reach_decided g id) (reach_decided h id)) (λ id both. reached_is_made g id both.0) in
    (list.0, record { ordered = list.1.ordered; reached = list.1.all })

pub each_reach_is_listed : EachReachIsListed
each_reach_is_listed heap history =
    let one = reach_listed (graph_of heap (up_to_cycle history)) in
    let two = both_listed (graph_of heap (up_to_cycle history)) (graph_of heap history) in
    record { begun = one.0; begun_is = one.1; both = two.0; both_is = two.1 }
