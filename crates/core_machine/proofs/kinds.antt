-- Kinds of step of a seat: what is asked of each stands in one record for its point, and here is the one table of them. A kind that comes anew hands over its record in a file of its own.
pub mod SeatKind
use Rattle.core_machine.specs.declared.point.Access.{Access}
use Rattle.core_machine.specs.declared.point.Access.TheVariants as access
use Rattle.core_machine.specs.declared.point.Collecting.{Collecting}
use Rattle.core_machine.specs.declared.point.Collecting.TheVariants as collecting
use Rattle.core_machine.specs.declared.point.Leaving.{Leaving}
use Rattle.core_machine.specs.declared.point.Leaving.TheVariants as leaving
use Rattle.core_machine.specs.declared.point.Making.{Making}
use Rattle.core_machine.specs.declared.point.Making.TheVariants as making
use Rattle.core_machine.specs.declared.point.Polling.{Polling}
use Rattle.core_machine.specs.declared.point.Polling.TheVariants as polling
use Rattle.core_machine.specs.declared.point.Point.TheVariants as points
use Rattle.core_machine.proofs.Terms.{Point}
use Rattle.core_machine.proofs.kinds.SeatKind.{PointKind}
use Rattle.core_machine.proofs.moves.Standing.{PointStands}
use Rattle.core_machine.proofs.call_lemmas.Playing.{grants_alone, withdraws_alone, claims_alone, gives_back_alone, refuses_alone, places_alone, lists_alone, stores_alone, bears_alone}
use Rattle.core_machine.proofs.call_lemmas.PlayingAccess.{opens_alone, walks_alone, locates_alone, indexes_alone, gets_alone, names_alone, loads_old_alone, shades_old_alone, shades_new_alone, swaps_alone, shades_side_alone, replaces_alone}
use Rattle.core_machine.proofs.call_lemmas.PlayingEnds.{tells_alone}
use Rattle.core_machine.proofs.call_lemmas.PlayingLeaves.{empties_alone, parting_alone}
use Rattle.core_machine.proofs.call_lemmas.PlayingPolls.{asks_alone, roots_alone, answers_alone}
use Rattle.core_machine.proofs.moves.Array.{point_stands_at_granting, point_stands_at_withdrawing, point_stands_at_placing, point_stands_at_listing}
use Rattle.core_machine.proofs.moves.Birth.{point_stands_at_storing, point_stands_at_bearing}
use Rattle.core_machine.proofs.moves.Collect.{point_stands_at_looking, point_stands_at_look_asking, point_stands_at_comparing, point_stands_at_noting}
use Rattle.core_machine.proofs.moves.Compare.{point_stands_at_shading_side, point_stands_at_replacing}
use Rattle.core_machine.proofs.moves.Gather.{point_stands_at_gathering, point_stands_at_returning, point_stands_at_refusing}
use Rattle.core_machine.proofs.moves.Get.{point_stands_at_getting, point_stands_at_naming}
use Rattle.core_machine.proofs.moves.Leave.{point_stands_at_emptying, point_stands_at_parting}
use Rattle.core_machine.proofs.moves.Local.{point_stands_at_local}
use Rattle.core_machine.proofs.moves.Open.{point_stands_at_loading_meta}
use Rattle.core_machine.proofs.moves.Poll.{point_stands_at_poll_asking, point_stands_at_shading, point_stands_at_answering}
use Rattle.core_machine.proofs.moves.Set.{point_stands_at_loading_old, point_stands_at_shading_old, point_stands_at_shading_new, point_stands_at_swapping}
use Rattle.core_machine.proofs.moves.Spine.{point_stands_at_locating, point_stands_at_indexing}
use Rattle.core_machine.proofs.moves.Walk.{point_stands_at_walking}
use Rattle.core_machine.proofs.own_stages.Answer.{point_leads_at_poll_asking, point_leads_at_shading, point_leads_at_answering, point_leads_at_emptying, point_leads_at_parting, point_leads_at_local}
use Rattle.core_machine.proofs.own_stages.Birth.{point_leads_at_placing, point_leads_at_listing, point_leads_at_storing, point_leads_at_bearing}
use Rattle.core_machine.proofs.own_stages.Compare.{point_leads_at_shading_side, point_leads_at_replacing}
use Rattle.core_machine.proofs.own_stages.Field.{point_leads_at_getting, point_leads_at_naming, point_leads_at_loading_old, point_leads_at_shading_old, point_leads_at_shading_new, point_leads_at_swapping}
use Rattle.core_machine.proofs.own_stages.Gather.{point_leads_at_granting, point_leads_at_withdrawing, point_leads_at_gathering, point_leads_at_returning, point_leads_at_refusing}
use Rattle.core_machine.proofs.own_stages.Way.{point_leads_at_loading_meta, point_leads_at_walking, point_leads_at_locating, point_leads_at_indexing}

-- an inner call of a collect is no call that is made by itself to a reply
inner_kind : (point : Collecting) → PointStands (points.Collecting point) → PointKind (points.Collecting point)
inner_kind point stands = record {
  stands = stands;
  leads = λ tells heap number before seat told here stage. absurd stage;
  alone = λ heap old number command now told here. absurd here.own;
}

-- the kinds of step of the making of an object
making_kind : (point : Making) → PointKind (points.Making point)
making_kind making.Granting = record { stands = point_stands_at_granting; leads = point_leads_at_granting; alone = grants_alone }
making_kind making.Withdrawing = record { stands = point_stands_at_withdrawing; leads = point_leads_at_withdrawing; alone = withdraws_alone }
making_kind making.Gathering = record { stands = point_stands_at_gathering; leads = point_leads_at_gathering; alone = claims_alone }
making_kind making.GivingBack = record { stands = point_stands_at_returning; leads = point_leads_at_returning; alone = gives_back_alone }
making_kind making.Refusing = record { stands = point_stands_at_refusing; leads = point_leads_at_refusing; alone = refuses_alone }
making_kind making.Placing = record { stands = point_stands_at_placing; leads = point_leads_at_placing; alone = places_alone }
making_kind making.Listing = record { stands = point_stands_at_listing; leads = point_leads_at_listing; alone = lists_alone }
making_kind making.Storing = record { stands = point_stands_at_storing; leads = point_leads_at_storing; alone = stores_alone }
making_kind making.Bearing = record { stands = point_stands_at_bearing; leads = point_leads_at_bearing; alone = bears_alone }

-- the kinds of step of access
access_kind : (point : Access) → PointKind (points.Access point)
access_kind access.LoadingMeta = record { stands = point_stands_at_loading_meta; leads = point_leads_at_loading_meta; alone = opens_alone }
access_kind access.Walking = record { stands = point_stands_at_walking; leads = point_leads_at_walking; alone = walks_alone }
access_kind access.LoadingSpot = record { stands = point_stands_at_locating; leads = point_leads_at_locating; alone = locates_alone }
access_kind access.Indexing = record { stands = point_stands_at_indexing; leads = point_leads_at_indexing; alone = indexes_alone }
access_kind access.Getting = record { stands = point_stands_at_getting; leads = point_leads_at_getting; alone = gets_alone }
access_kind access.Naming = record { stands = point_stands_at_naming; leads = point_leads_at_naming; alone = names_alone }
access_kind access.LoadingOld = record { stands = point_stands_at_loading_old; leads = point_leads_at_loading_old; alone = loads_old_alone }
access_kind (access.ShadingSide side) = record { stands = point_stands_at_shading_side side; leads = λ tells. point_leads_at_shading_side tells side; alone = shades_side_alone side }
access_kind access.ShadingOld = record { stands = point_stands_at_shading_old; leads = point_leads_at_shading_old; alone = shades_old_alone }
access_kind access.ShadingNew = record { stands = point_stands_at_shading_new; leads = point_leads_at_shading_new; alone = shades_new_alone }
access_kind access.Swapping = record { stands = point_stands_at_swapping; leads = point_leads_at_swapping; alone = swaps_alone }
access_kind access.Replacing = record { stands = point_stands_at_replacing; leads = point_leads_at_replacing; alone = replaces_alone }

-- the kinds of step of a poll
polling_kind : (point : Polling) → PointKind (points.Polling point)
polling_kind polling.Asking = record { stands = point_stands_at_poll_asking; leads = point_leads_at_poll_asking; alone = asks_alone }
polling_kind polling.Shading = record { stands = point_stands_at_shading; leads = point_leads_at_shading; alone = roots_alone }
polling_kind polling.Answering = record { stands = point_stands_at_answering; leads = point_leads_at_answering; alone = answers_alone }

-- the kinds of step of an inner call of a collect
collecting_kind : (point : Collecting) → PointKind (points.Collecting point)
collecting_kind collecting.Looking = inner_kind (collecting.Looking) point_stands_at_looking
collecting_kind (collecting.Asking other) = inner_kind (collecting.Asking other) (point_stands_at_look_asking other)
collecting_kind (collecting.Comparing other phase) = inner_kind (collecting.Comparing other phase) (point_stands_at_comparing other phase)
collecting_kind (collecting.Noting reply) = inner_kind (collecting.Noting reply) (point_stands_at_noting reply)

-- the kinds of step of a leave
leaving_kind : (point : Leaving) → PointKind (points.Leaving point)
leaving_kind leaving.Emptying = record { stands = point_stands_at_emptying; leads = point_leads_at_emptying; alone = empties_alone }
leaving_kind leaving.Parting = record { stands = point_stands_at_parting; leads = point_leads_at_parting; alone = parting_alone }

-- the kind of step at each point; where no call is in flight none is due
pub point_kind : (point : Point) → PointKind point
point_kind points.Idle = record { stands = λ heap number seat here. tt; leads = λ tells heap number before seat told here stage. tt; alone = λ heap old number command now told here. tt }
point_kind (points.Making point) = making_kind point
point_kind points.Local = record { stands = point_stands_at_local; leads = point_leads_at_local; alone = tells_alone }
point_kind (points.Access point) = access_kind point
point_kind (points.Polling point) = polling_kind point
point_kind (points.Collecting point) = collecting_kind point
point_kind (points.Leaving point) = leaving_kind point
