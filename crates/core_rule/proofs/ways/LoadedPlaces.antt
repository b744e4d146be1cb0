-- What a call has in hand once it has loaded the place of a spine, from there on until it is over.
use Rattle.std.proofs.Common.{◌≡◌, ℕ, false, List, Some, sym, ap, ◌∙◌}
use Rattle.heap_words.specs.declared.spot.Spot.{Spot}
use Rattle.core_rule.proofs.Terms.{ShadingSide, Replacing, Heap, Id, Node, Indexing, Getting, LoadingOld, ShadingOld, ShadingNew, Swapping, Point, register_head, Seat, fragment_at, Owner, Kept}
use Rattle.core_rule.proofs.Terms.{SpineOwner, CallsObject, HasLoaded, ReadsSpine, WhileLoaded, OnWay, WayStands}
use Rattle.core_machine.specs.declared.point.Point.TheVariants as points

-- what is so of a call stays so at each of these points
pub while_loaded_goes_on : {P Q : Type 0} (point : Point) → (HasLoaded point → P → Q) → WhileLoaded P point → WhileLoaded Q point
while_loaded_goes_on (points.Access Indexing) goes was = goes tt was
while_loaded_goes_on (points.Access Getting) goes was = goes tt was
while_loaded_goes_on (points.Access LoadingOld) goes was = goes tt was
while_loaded_goes_on (points.Access ShadingOld) goes was = goes tt was
while_loaded_goes_on (points.Access ShadingNew) goes was = goes tt was
while_loaded_goes_on (points.Access Swapping) goes was = goes tt was
while_loaded_goes_on (points.Access (ShadingSide side)) goes was = goes tt was
while_loaded_goes_on (points.Access Replacing) goes was = goes tt was
while_loaded_goes_on _ goes was = tt

-- and it is so there
pub while_loaded_holds : {P : Type 0} (point : Point) → HasLoaded point → WhileLoaded P point → P
while_loaded_holds (points.Access Indexing) has was = was
while_loaded_holds (points.Access Getting) has was = was
while_loaded_holds (points.Access LoadingOld) has was = was
while_loaded_holds (points.Access ShadingOld) has was = was
while_loaded_holds (points.Access ShadingNew) has was = was
while_loaded_holds (points.Access Swapping) has was = was
while_loaded_holds (points.Access (ShadingSide side)) has was = was
while_loaded_holds (points.Access Replacing) has was = was
while_loaded_holds _ has was = absurd has

-- the call is on its way then, at some row of the object
pub record IsOnItsWay (made : List Id) (owner : ℕ → Owner) (fragments : ℕ → List ℕ) (seat : Seat) : Type 0 where
  pub index : ℕ
  pub row : ℕ
  pub way : OnWay made owner fragments seat index row

pub loaded_is_on_way : (nodes : ℕ → Node) (made : List Id) (owner : ℕ → Owner) (fragments : ℕ → List ℕ) (seat : Seat) (point : Point) → HasLoaded point
    → WayStands nodes made owner fragments seat point → IsOnItsWay made owner fragments seat
loaded_is_on_way nodes made owner fragments seat (points.Access Indexing) has way = record { index = way.index; row = 0; way = way.way }
loaded_is_on_way nodes made owner fragments seat (points.Access Getting) has way = record { index = way.index; row = way.row; way = way.way }
loaded_is_on_way nodes made owner fragments seat (points.Access LoadingOld) has way = record { index = way.index; row = way.row; way = way.way }
loaded_is_on_way nodes made owner fragments seat (points.Access ShadingOld) has way = record { index = way.0.index; row = way.0.row; way = way.0.way }
loaded_is_on_way nodes made owner fragments seat (points.Access ShadingNew) has way = record { index = way.0.index; row = way.0.row; way = way.0.way }
loaded_is_on_way nodes made owner fragments seat (points.Access Swapping) has way = record { index = way.0.index; row = way.0.row; way = way.0.way }
loaded_is_on_way nodes made owner fragments seat (points.Access (ShadingSide side)) has way = record { index = way.index; row = way.row; way = way.way }
loaded_is_on_way nodes made owner fragments seat (points.Access Replacing) has way = record { index = way.index; row = way.row; way = way.way }
loaded_is_on_way nodes made owner fragments seat _ has way = absurd has

-- the object in the call's register is the one on whose way it is
pub called_register_is_first : (made : List Id) (owner : ℕ → Owner) (fragments : ℕ → List ℕ) (seat : Seat) (index row f : ℕ) → OnWay made owner fragments seat index row → CallsObject seat f → f ≡ fragment_at (fragments index) 0
called_register_is_first made owner fragments seat index row f way calls =
    let head : Some f ≡ Some (fragment_at (fragments index) 0) = sym calls ∙ ap register_head way.holds in cc

pub calls_object_of_first : (made : List Id) (owner : ℕ → Owner) (fragments : ℕ → List ℕ) (seat : Seat) (index row : ℕ) → OnWay made owner fragments seat index row → CallsObject seat (fragment_at (fragments index) 0)
calls_object_of_first made owner fragments seat index row way = ap register_head way.holds

-- a call on a record has no spine to read
pub record_reads_no_spine : (heap : Heap) (words : List ℕ) (nodes : ℕ → Node) (made : List Id) (owner : ℕ → Owner) (fragments : ℕ → List ℕ) (spines : ℕ → Spot) (spine_owner : ℕ → ℕ → SpineOwner)
    (seat : Seat) (index row : ℕ) → OnWay made owner fragments seat index row → (nodes index).array ≡ false → ReadsSpine heap words nodes owner fragments spines spine_owner seat
record_reads_no_spine heap words nodes made owner fragments spines spine_owner seat index row way kind i f calls owned an_array =
    let both : Kept i 0 ≡ Kept index 0 = sym owned ∙ ap owner (called_register_is_first made owner fragments seat index row f way calls) ∙ way.kept in
    let same : i ≡ index = cc in
    absurd (let none : (nodes i).array ≡ false = ap (λ n. (nodes n).array) same ∙ kind in cc)
