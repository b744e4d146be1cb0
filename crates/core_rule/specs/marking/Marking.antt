-- What is true while the collector marks, and after that.
use Rattle.std.specs.Prelude.{◌≡◌, ◌≢◌, ℕ, ◌+◌, ◌*◌, ◌/◌, ◌<◌, ◌≤◌, ◌⊎◌, false, List, Some}
use Rattle.heap_words.specs.Spot.{spot_in}
use Rattle.heap_model.specs.declared.heap.Heap.{Heap}
use Rattle.heap_model.specs.Limits.{group_fragments, most_cells}
use Rattle.heap_model.specs.Needs.{array_words}
use Rattle.core_machine.specs.declared.collector.stage.Copying.{Copying}
use Rattle.core_machine.specs.declared.collector.stage.Copying.TheVariants as copying
use Rattle.core_machine.specs.declared.collector.stage.SpineScan.{SpineScan}
use Rattle.core_machine.specs.declared.collector.stage.Stage.{Stage}
use Rattle.core_machine.specs.declared.collector.stage.Stage.TheVariants as stages
use Rattle.core_machine.specs.declared.table.address.Address.TheVariants.{Word}
use Rattle.core_machine.specs.table.Decode.{spine_words_in}
use Rattle.core_machine.specs.table.Layout.{at}
use Rattle.core_rule.specs.Book.{Colour, White, Grey, fragment_at}
use Rattle.core_rule.specs.colours.Colours.{IsMarked, WordPointsTo}
use Rattle.core_rule.specs.cycle.Flight.{DeletionBarrier}
use Rattle.core_rule.specs.owners.Owners.{Owner, Kept, Dead}
use Rattle.core_rule.specs.marking.Paths.{IsWhite}
use Rattle.core_rule.specs.marking.Sources.{TellsNoSpine}
use Rattle.core_rule.specs.marking.Sweep.{IsSettled, SweepStands}

-- the fragment is one of a kept object
pub record IsKeptFragment (owner : ℕ → Owner) (f : ℕ) : Type 0 where
  pub index : ℕ
  pub position : ℕ
  pub kept : owner f ≡ Kept index position

-- a fragment that may be marked: a kept object's first one, or one whose object's first is marked
pub record MayMark (owner : ℕ → Owner) (colour : ℕ → Colour) (fragments : ℕ → List ℕ) (f : ℕ) : Type 0 where
  pub kept_fragment : IsKeptFragment owner f
  pub first : (kept_fragment.position ≡ 0) ⊎ IsMarked colour (fragment_at (fragments kept_fragment.index) 0)

-- the fragment is grey, and its sources before this one lead to marked ones alone
pub record IsSeen (heap : Heap) (words : List ℕ) (colour : ℕ → Colour) (f source : ℕ) : Type 0 where
  pub grey : colour f ≡ Grey
  pub seen : (s g : ℕ) → s < source → WordPointsTo heap words f s g → IsMarked colour g

-- the fragment is grey, and all its sources lead to marked ones
pub record IsSeenWhole (heap : Heap) (words : List ℕ) (colour : ℕ → Colour) (f : ℕ) : Type 0 where
  pub grey : colour f ≡ Grey
  pub seen : (source g : ℕ) → WordPointsTo heap words f source g → IsMarked colour g

-- this word comes after that one; or between them stands an object's name, which leads nowhere
abbrev pub ComesAfter : (ℕ → Owner) → ℕ → ℕ → ℕ → Type 0
ComesAfter owner f part next = (next ≡ part + 1) ⊎ ((part ≡ 0) × (next ≡ 2) × ((i : ℕ) × (owner f ≡ Kept i 0)))

-- the spine that the scan is in is that of its fragment, an array's first one
pub record IsSpineOf (heap : Heap) (words : List ℕ) (s : SpineScan) : Type 0 where
  pub as_many : s.words ≡ spine_words_in (at heap words (Word s.scan.fragment 0))
  pub there : s.spine ≡ spot_in (at heap words (Word s.scan.fragment 2))

-- what a scan has seen and loaded at each stage; behind a first word it goes on word by word only where that tells of no spine
abbrev pub ScanStands : Heap → List ℕ → (ℕ → Owner) → (ℕ → Colour) → (ℕ → List ℕ) → Stage → Type 0
ScanStands heap words owner colour fragments (stages.Scanning scan) =
    IsSeen heap words colour scan.fragment scan.part × (0 < scan.part → TellsNoSpine heap words scan.fragment)
ScanStands heap words owner colour fragments (stages.Shading scan target next) =
    IsSeen heap words colour scan.fragment scan.part × DeletionBarrier heap words colour scan.fragment scan.part (Some target)
    × MayMark owner colour fragments target × ComesAfter owner scan.fragment scan.part next × TellsNoSpine heap words scan.fragment
ScanStands heap words owner colour fragments (stages.Addressing scan count) =
    IsSeen heap words colour scan.fragment 4 × (count ≡ spine_words_in (at heap words (Word scan.fragment 0)))
ScanStands heap words owner colour fragments (stages.Indexing s) = IsSeen heap words colour s.scan.fragment (4 + s.index) × IsSpineOf heap words s
ScanStands heap words owner colour fragments (stages.Spreading s target) =
    IsSeen heap words colour s.scan.fragment (4 + s.index) × IsSpineOf heap words s × WordPointsTo heap words s.scan.fragment (4 + s.index) target
    × MayMark owner colour fragments target
ScanStands heap words owner colour fragments (stages.Blackening scan) = IsSeenWhole heap words colour scan.fragment
ScanStands heap words owner colour fragments _ = Unit {0}

-- the array that is copied has no more spine words than one of the most cells has
abbrev pub IsFewCopied : Copying → Type 0
IsFewCopied (copying.Visiting group) = Unit {0}
IsFewCopied (copying.Inspecting visit) = Unit {0}
IsFewCopied (copying.Naming visit words) = words ≤ array_words most_cells
IsFewCopied (copying.Locating array) = array.words ≤ array_words most_cells
IsFewCopied (copying.Claiming array from) = array.words ≤ array_words most_cells
IsFewCopied (copying.Loading copy) = copy.array.words ≤ array_words most_cells
IsFewCopied (copying.Storing copy word) = copy.array.words ≤ array_words most_cells
IsFewCopied (copying.Swinging copy) = copy.array.words ≤ array_words most_cells

-- no more spine words are scanned or copied than the largest array has, and a scan that is through took no more steps than that
abbrev pub IsFewWords : Stage → Type 0
IsFewWords (stages.Addressing scan spine_words) = spine_words ≤ array_words most_cells
IsFewWords (stages.Indexing s) = s.words ≤ array_words most_cells
IsFewWords (stages.Spreading s target) = s.words ≤ array_words most_cells
IsFewWords (stages.Blackening scan) = scan.steps ≤ 2 + 2 * array_words most_cells
IsFewWords (stages.Copying stage) = IsFewCopied stage
IsFewWords _ = Unit {0}

-- while a pass has found nothing, some grey fragment stands in its group or behind it, if there is one at all
abbrev pub PassStands : (ℕ → Colour) → Stage → Type 0
PassStands colour (stages.Passing group false) = (f : ℕ) → colour f ≡ Grey → (x : ℕ) × (colour x ≡ Grey) × (group ≤ x / group_fragments)
PassStands colour _ = Unit {0}

-- once marking has ended nothing is grey, and the white fragments are exactly those that are to be freed
pub record AfterMarking (owner : ℕ → Owner) (colour : ℕ → Colour) : Type 0 where
  pub no_grey : (f : ℕ) → colour f ≢ Grey
  pub white_dead : (f : ℕ) → IsWhite owner colour f → (i : ℕ) × (k : ℕ) × (owner f ≡ Dead i k)
  pub dead_white : (f i k : ℕ) → owner f ≡ Dead i k → colour f ≡ White

-- what is true of marking, of the sweep and of the clearing at this stage
pub record MarkingStands (heap : Heap) (words : List ℕ) (owner : ℕ → Owner) (colour : ℕ → Colour) (fragments : ℕ → List ℕ) (phase : ℕ) (stage : Stage) : Type 0 where
  -- what is grey is a fragment of a kept object
  pub grey : (f : ℕ) → colour f ≡ Grey → IsKeptFragment owner f
  pub scan : ScanStands heap words owner colour fragments stage
  pub few : IsFewWords stage
  pub pass : PassStands colour stage
  pub sweep_stands : SweepStands heap owner colour phase stage
  -- nothing is to be freed but from the end of marking to the end of the sweep
  pub alive : ¬ IsSettled phase stage → (f i k : ℕ) → owner f ≢ Dead i k
  pub after : IsSettled phase stage → AfterMarking owner colour
