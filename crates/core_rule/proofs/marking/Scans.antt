-- A scan goes on from word to word.
use Rattle.std.proofs.Common.{◌≡◌, ℕ, suc, ◌+◌, ◌-◌, ◌*◌, ◌<◌, ◌≤◌, List, Some, inl, inr, sym, ap, ◌∙◌, subst, arith}
use Rattle.std.proofs.lemmas.Bool.Decides.{eqb_tells, leb_tells}
use Rattle.heap_words.specs.declared.spot.Spot.{Spot}
use Rattle.core_rule.proofs.Terms.{Heap, phase, Stage, payload_in, at, spine_place, Colour, IsMarked, WordPointsTo, IsSeen, IsSeenWhole, IsSpineOf, ScanStands, PassStands}
use Rattle.core_rule.proofs.Terms.{SweepStands, Owner}
use Rattle.core_machine.specs.collector.Marking.{scan_at, spine_scan_at}
use Rattle.core_machine.specs.declared.collector.stage.Scan.{Scan}
use Rattle.core_machine.specs.declared.collector.stage.SpineScan.{SpineScan}
use Rattle.core_machine.specs.declared.collector.stage.Stage.TheVariants as stages
use Rattle.core_rule.specs.marking.Sources.{source_pointer}
use Rattle.core_rule.proofs.colours.SourceCases.{TellsNoSpine, source_is_of_word, lead_cases, source_is_spine_pointer, spine_pointer_is_payload, spine_lead_is_payload}
use Rattle.core_rule.proofs.marking.MarkingStages.{OfMarking}
use Rattle.core_machine.proofs.collector_lemmas.SpineTurns.{spine_scan_cases as spine_places}

-- a scan that comes to a word stands before it, or has seen to all four
pub scan_cases : (P : Stage → Type 0) (scan : Scan) (part : ℕ) → P (stages.Scanning (record scan { part = part })) → (4 ≤ part → P (stages.Blackening (record scan { part = part }))) → P (scan_at scan part)
scan_cases P scan part before behind = elim (leb_tells (suc part) 4) as (λ _. P (scan_at scan part)) [
  | inl more ↦ rw more.0 before
  | inr done ↦ rw done.0 (behind (omega (arith, done.1)))
]

-- a fragment without a spine is seen whole behind its four words
seen_whole : (heap : Heap) (words : List ℕ) (colour : ℕ → Colour) (f part : ℕ) → TellsNoSpine heap words f → 4 ≤ part → IsSeen heap words colour f part → IsSeenWhole heap words colour f
seen_whole heap words colour f part none behind seen = record {
  grey = seen.grey;
  seen = λ source g leads. seen.seen source g (omega (arith, behind, source_is_of_word heap words f none source g leads)) leads;
}

-- so what it has seen is right, of a pass nothing is asked, and marking hasn't ended
pub scan_stands_at_word : (heap : Heap) (words : List ℕ) (owner : ℕ → Owner) (colour : ℕ → Colour) (fragments : ℕ → List ℕ) (scan : Scan) (part : ℕ) → TellsNoSpine heap words scan.fragment
    → IsSeen heap words colour scan.fragment part → ScanStands heap words owner colour fragments (scan_at scan part)
scan_stands_at_word heap words owner colour fragments scan part none seen = scan_cases (ScanStands heap words owner colour fragments) scan part (seen, λ later. none)
    (λ behind. seen_whole heap words colour scan.fragment part none behind seen)

pub pass_stands_while_scanning : (colour : ℕ → Colour) (scan : Scan) (part : ℕ) → PassStands colour (scan_at scan part)
pass_stands_while_scanning colour scan part = scan_cases (PassStands colour) scan part tt (λ behind. tt)

pub sweep_stands_while_scanning : (heap : Heap) (owner : ℕ → Owner) (colour : ℕ → Colour) (phase : ℕ) (scan : Scan) (part : ℕ) → SweepStands heap owner colour phase (scan_at scan part)
sweep_stands_while_scanning heap owner colour phase scan part = scan_cases (SweepStands heap owner colour phase) scan part tt (λ behind. tt)

pub scan_is_of_marking : (scan : Scan) (part : ℕ) → OfMarking (scan_at scan part)
scan_is_of_marking scan part = scan_cases OfMarking scan part tt (λ behind. tt)

-- behind the last word of its spine an array's first fragment is seen whole
seen_to_end : (heap : Heap) (words : List ℕ) (colour : ℕ → Colour) (s : SpineScan) → IsSpineOf heap words s → s.words ≤ s.index → IsSeen heap words colour s.scan.fragment (4 + s.index)
    → IsSeenWhole heap words colour s.scan.fragment
seen_to_end heap words colour s is done seen = record {
  grey = seen.grey;
  seen = λ source g leads. seen.seen source g (before source g leads) leads;
}
  where
    before : (source g : ℕ) → WordPointsTo heap words s.scan.fragment source g → source < 4 + s.index
    before source g = lead_cases heap words s.scan.fragment (source < 4 + s.index) source g
        (λ first to. omega (arith, first))
        (λ behind to. let within = (spine_lead_is_payload heap words s.scan.fragment (source - 4) g to).0 in omega (arith, within, behind, is.as_many, done))

-- so a scan of a spine is right wherever it comes to, of a pass nothing is asked, and marking hasn't ended
pub scan_stands_at_spine : (heap : Heap) (words : List ℕ) (owner : ℕ → Owner) (colour : ℕ → Colour) (fragments : ℕ → List ℕ) (s : SpineScan) → IsSpineOf heap words s
    → IsSeen heap words colour s.scan.fragment (4 + s.index) → ScanStands heap words owner colour fragments (spine_scan_at s)
scan_stands_at_spine heap words owner colour fragments s is seen = spine_places (ScanStands heap words owner colour fragments) s (λ more. (seen, is)) (λ done. seen_to_end heap words colour s is done seen)

pub pass_stands_at_spine : (colour : ℕ → Colour) (s : SpineScan) → PassStands colour (spine_scan_at s)
pass_stands_at_spine colour s = spine_places (PassStands colour) s (λ more. tt) (λ done. tt)

pub sweep_stands_at_spine : (heap : Heap) (owner : ℕ → Owner) (colour : ℕ → Colour) (phase : ℕ) (s : SpineScan) → SweepStands heap owner colour phase (spine_scan_at s)
sweep_stands_at_spine heap owner colour phase s = spine_places (SweepStands heap owner colour phase) s (λ more. tt) (λ done. tt)

pub spine_scan_is_of_marking : (s : SpineScan) → OfMarking (spine_scan_at s)
spine_scan_is_of_marking s = spine_places OfMarking s (λ more. tt) (λ done. tt)

-- the word of the spine that the scan is at leads to the fragment that it names
pub spine_word_leads_to_payload : (heap : Heap) (words : List ℕ) (s : SpineScan) → IsSpineOf heap words s → s.scan.fragment < 16 * heap.groups → s.index < s.words
    → WordPointsTo heap words s.scan.fragment (4 + s.index) (payload_in (at heap words (spine_place s.spine s.index)))
spine_word_leads_to_payload heap words s is inside more = record {
  within = inside;
  to = source_is_spine_pointer heap words s.scan.fragment s.index ∙ spine_pointer_is_payload heap words s.scan.fragment s.index (omega (arith, more, is.as_many))
      ∙ ap (λ (spot : Spot). Some (payload_in (at heap words (spine_place spot s.index)))) (sym is.there);
}

-- once that is marked one more word is seen to
pub spread_word_is_seen : (heap : Heap) (words : List ℕ) (colour : ℕ → Colour) (f index target : ℕ) → IsSeen heap words colour f (4 + index) → WordPointsTo heap words f (4 + index) target
    → IsMarked colour target → IsSeen heap words colour f (4 + (index + 1))
spread_word_is_seen heap words colour f index target seen points marked = record { grey = seen.grey; seen = each }
  where
    each : (p g : ℕ) → p < 4 + (index + 1) → WordPointsTo heap words f p g → IsMarked colour g
    each p g below leads = elim (eqb_tells p (4 + index)) as (λ _. IsMarked colour g) [
      | inl same ↦
          let both : Some target ≡ Some g = sym points.to ∙ subst (λ x. source_pointer heap words f x ≡ Some g) same.1 leads.to in
          let it : target ≡ g = cc in
          subst (IsMarked colour) it marked
      | inr other ↦ seen.seen p g (omega (arith, below, other.1)) leads
    ]
