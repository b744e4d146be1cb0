use Rattle.std.proofs.Common.{Some}
use Rattle.core_machine.proofs.seat_lemmas.StepNeeds.{target_is_register, source_is_register, field_is_index, within_heap_is_small, adds_nothing}
use Rattle.core_machine.proofs.seat.SeatParty.learn_access.Goals as goal

pub learn_meta-requires-clause-command : goal.learn_meta-requires-clause-command
learn_meta-requires-clause-command g c =
    let at = rw c.in-LoadingMeta.is at c.requires.at_point in
    at.works.in_range

pub learn_meta-requires-clause-field : goal.learn_meta-requires-clause-field
learn_meta-requires-clause-field g c =
    let at = rw c.in-LoadingMeta.is at c.requires.at_point in
    field_is_index c.args.self.now.seat.command at.works.in_range

pub learn_meta-requires-clause-leads : goal.learn_meta-requires-clause-leads
learn_meta-requires-clause-leads g c = within_heap_is_small c.args.heap.now _ c.requires.limits (rw c.in-LoadingMeta.is at c.requires.found)

pub learn_meta-requires-clause-spare : goal.learn_meta-requires-clause-spare
learn_meta-requires-clause-spare g c = c.requires.spare

pub learn_link-requires-clause-command : goal.learn_link-requires-clause-command
learn_link-requires-clause-command g c =
    let at = rw c.in-Walking.is at c.requires.at_point in
    at.works.in_range

pub learn_link-requires-clause-leads : goal.learn_link-requires-clause-leads
learn_link-requires-clause-leads g c = within_heap_is_small c.args.heap.now _ c.requires.limits (rw c.in-Walking.is at c.requires.found)

pub learn_index-requires-clause-command : goal.learn_index-requires-clause-command
learn_index-requires-clause-command g c =
    let at = rw c.in-Indexing.is at c.requires.at_point in
    at.works.in_range

pub learn_index-requires-clause-leads : goal.learn_index-requires-clause-leads
learn_index-requires-clause-leads g c = within_heap_is_small c.args.heap.now (Some _) c.requires.limits (rw c.in-Indexing.is at c.requires.found)

pub learn_get-requires-clause-target : goal.learn_get-requires-clause-target
learn_get-requires-clause-target g c =
    let at = rw c.in-Getting.is at c.requires.at_point in
    target_is_register c.args.self.now.seat.command at.0.0.in_range

pub learn_get-requires-clause-spare : goal.learn_get-requires-clause-spare
learn_get-requires-clause-spare g c = c.requires.spare

pub learn_name-requires-clause-target : goal.learn_name-requires-clause-target
learn_name-requires-clause-target g c =
    let at = rw c.in-Naming.is at c.requires.at_point in
    target_is_register c.args.self.now.seat.command at.0.0.in_range

pub learn_name-requires-clause-head : goal.learn_name-requires-clause-head
learn_name-requires-clause-head g c = within_heap_is_small c.args.heap.now _ c.requires.limits c.requires.fits.way.loaded_within

pub learn_name-requires-clause-spare : goal.learn_name-requires-clause-spare
learn_name-requires-clause-spare g c = c.requires.spare

pub learn_old-requires : goal.learn_old-requires
learn_old-requires g c =
    let at = rw c.in-LoadingOld.is at c.requires.at_point in
    source_is_register c.args.self.now.seat.command at.0.0.in_range

pub finish_old-requires : goal.finish_old-requires
finish_old-requires g c =
    let at = rw c.in-ShadingOld.is at c.requires.at_point in
    source_is_register c.args.self.now.seat.command at.0.0.in_range

pub learn_swap-requires-clause-spare : goal.learn_swap-requires-clause-spare
learn_swap-requires-clause-spare g c = c.requires.spare

pub learn_side-requires : goal.learn_side-requires
learn_side-requires g c =
    let at = rw c.in-ShadingSide.is at c.requires.at_point in
    at.0.0.in_range

pub learn_replace-requires-clause-command : goal.learn_replace-requires-clause-command
learn_replace-requires-clause-command g c =
    let at = rw c.in-Replacing.is at c.requires.at_point in
    at.0.in_range

pub learn_replace-requires-clause-spare : goal.learn_replace-requires-clause-spare
learn_replace-requires-clause-spare g c = c.requires.spare

pub returns-in-LoadingMeta-clause-seat : goal.returns-in-LoadingMeta-clause-seat
returns-in-LoadingMeta-clause-seat g c = rw c.in-LoadingMeta.is c.learn_meta.ensures.seat

pub returns-in-LoadingMeta-clause-spare : goal.returns-in-LoadingMeta-clause-spare
returns-in-LoadingMeta-clause-spare g c = c.learn_meta.ensures.spare

pub returns-in-LoadingMeta-clause-forgotten : goal.returns-in-LoadingMeta-clause-forgotten
returns-in-LoadingMeta-clause-forgotten g c = c.learn_meta.ensures.forgotten

pub returns-in-Walking-clause-seat : goal.returns-in-Walking-clause-seat
returns-in-Walking-clause-seat g c = rw c.in-Walking.is (adds_nothing _ _ c.learn_link.ensures.seat)

pub returns-in-Walking-clause-forgotten : goal.returns-in-Walking-clause-forgotten
returns-in-Walking-clause-forgotten g c = c.learn_link.ensures.forgotten

pub returns-in-LoadingSpot-clause-seat : goal.returns-in-LoadingSpot-clause-seat
returns-in-LoadingSpot-clause-seat g c = rw c.in-LoadingSpot.is (adds_nothing _ _ c.learn_address.ensures.seat)

pub returns-in-LoadingSpot-clause-forgotten : goal.returns-in-LoadingSpot-clause-forgotten
returns-in-LoadingSpot-clause-forgotten g c = c.learn_address.ensures.forgotten

pub returns-in-Indexing-clause-seat : goal.returns-in-Indexing-clause-seat
returns-in-Indexing-clause-seat g c = rw c.in-Indexing.is (adds_nothing _ _ c.learn_index.ensures.seat)

pub returns-in-Indexing-clause-forgotten : goal.returns-in-Indexing-clause-forgotten
returns-in-Indexing-clause-forgotten g c = c.learn_index.ensures.forgotten

pub returns-in-Getting-clause-seat : goal.returns-in-Getting-clause-seat
returns-in-Getting-clause-seat g c = rw c.in-Getting.is c.learn_get.ensures.seat

pub returns-in-Getting-clause-spare : goal.returns-in-Getting-clause-spare
returns-in-Getting-clause-spare g c = c.learn_get.ensures.spare

pub returns-in-Getting-clause-forgotten : goal.returns-in-Getting-clause-forgotten
returns-in-Getting-clause-forgotten g c = c.learn_get.ensures.forgotten

pub returns-in-Naming-clause-seat : goal.returns-in-Naming-clause-seat
returns-in-Naming-clause-seat g c = rw c.in-Naming.is c.learn_name.ensures.seat

pub returns-in-Naming-clause-spare : goal.returns-in-Naming-clause-spare
returns-in-Naming-clause-spare g c = c.learn_name.ensures.spare

pub returns-in-Naming-clause-forgotten : goal.returns-in-Naming-clause-forgotten
returns-in-Naming-clause-forgotten g c = c.learn_name.ensures.forgotten

pub returns-in-LoadingOld-clause-seat : goal.returns-in-LoadingOld-clause-seat
returns-in-LoadingOld-clause-seat g c = rw c.in-LoadingOld.is c.learn_old.ensures.seat

pub returns-in-LoadingOld-clause-forgotten : goal.returns-in-LoadingOld-clause-forgotten
returns-in-LoadingOld-clause-forgotten g c = c.learn_old.ensures.forgotten

pub returns-in-ShadingOld-clause-seat : goal.returns-in-ShadingOld-clause-seat
returns-in-ShadingOld-clause-seat g c = rw c.in-ShadingOld.is (adds_nothing _ _ c.finish_old.ensures.seat)

pub returns-in-ShadingOld-clause-forgotten : goal.returns-in-ShadingOld-clause-forgotten
returns-in-ShadingOld-clause-forgotten g c = c.finish_old.ensures.forgotten

pub returns-in-Swapping-clause-seat : goal.returns-in-Swapping-clause-seat
returns-in-Swapping-clause-seat g c = rw c.in-Swapping.is c.learn_swap.ensures.seat

pub returns-in-Swapping-clause-spare : goal.returns-in-Swapping-clause-spare
returns-in-Swapping-clause-spare g c = c.learn_swap.ensures.spare

pub returns-in-Swapping-clause-forgotten : goal.returns-in-Swapping-clause-forgotten
returns-in-Swapping-clause-forgotten g c = c.learn_swap.ensures.forgotten

pub returns-in-ShadingSide-clause-seat : goal.returns-in-ShadingSide-clause-seat
returns-in-ShadingSide-clause-seat g c = rw c.in-ShadingSide.is (adds_nothing _ _ c.learn_side.ensures.seat)

pub returns-in-ShadingSide-clause-forgotten : goal.returns-in-ShadingSide-clause-forgotten
returns-in-ShadingSide-clause-forgotten g c = c.learn_side.ensures.forgotten

pub returns-in-Replacing-clause-seat : goal.returns-in-Replacing-clause-seat
returns-in-Replacing-clause-seat g c = rw c.in-Replacing.is c.learn_replace.ensures.seat

pub returns-in-Replacing-clause-spare : goal.returns-in-Replacing-clause-spare
returns-in-Replacing-clause-spare g c = c.learn_replace.ensures.spare

pub returns-in-Replacing-clause-forgotten : goal.returns-in-Replacing-clause-forgotten
returns-in-Replacing-clause-forgotten g c = c.learn_replace.ensures.forgotten
