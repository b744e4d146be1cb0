-- A text of a grammar has no fault, and tells one preamble and one list of lines.
use Rattle.std.proofs.Common.{◌≡◌, ℕ, ◌+◌, ◌≤◌, List, [], ◌∷◌, false, Option, Some, None, Result, Ok, Err, IfOk, IfErr, nat_lt, codes, map, length, refl, sym, ◌∙◌, ap, arith, rules}
use Rattle.std.specs.List.{AllByRecursion}
use Rattle.heap_model.specs.declared.heap.Heap.{Heap}
use Rattle.script_text.specs.declared.cause.LineFault.{LineFault}
use Rattle.script_text.specs.declared.cause.ScriptFault.{ScriptFault}
use Rattle.script_text.specs.declared.cause.ScriptFault.TheVariants as faults
use Rattle.script_text.specs.declared.preamble.Preamble.{Preamble}
use Rattle.script_text.specs.Faults.{lines_fault, text_fault}
use Rattle.script_text.specs.Grammar.{IsText, IsTold, most_lines}
use Rattle.script_text.specs.HeapLine.{heap_of}
use Rattle.script_text.specs.Judge.{Judge}
use Rattle.script_text.specs.Preamble.{IsPreamble}
use Rattle.script_text.specs.Reading.{FailsBy, GivesOnly}
use Rattle.script_text.specs.Text.{sentence, text_of, words_of}
use Rattle.script_text.specs.Words.{heap_line, heap_words, text_lines}
use Rattle.script_text.proofs.NoFault.{heap_of-words}
use Rattle.script_text.proofs.TextLemmas.{lines_of-text_of}
use Rattle.script_text.proofs.Tokens.{IsAbove, IsAbove-sentence, words_of-sentence}
use Rattle.script_text.proofs.WordBytes.{heap_words-above}

-- the text of a heap line asks for the heap
pub heap_of-heap_line : (preamble : Preamble) → IsPreamble preamble → heap_of preamble.version (words_of (heap_line preamble)) ≡ Some preamble.heap
heap_of-heap_line preamble is = rw (words_of-sentence (codes "heap") (heap_words preamble) (heap_words-above preamble is)) (heap_of-words preamble is)

-- so equal heap lines of one version ask for one heap
pub equal_texts_same_preamble : (one other : Preamble) → IsPreamble one → IsPreamble other → one.version ≡ other.version → heap_line one ≡ heap_line other → one ≡ other
equal_texts_same_preamble one other f g v e =
    let asked : ◌≡◌ {A = Option Heap} (Some one.heap) (Some other.heap) =
    sym (heap_of-heap_line one f) ∙ ap (λ line. heap_of one.version (words_of line)) e ∙ ap (λ version. heap_of version (words_of (heap_line other))) v ∙ heap_of-heap_line other g in
    let heap : one.heap ≡ other.heap = cc in
    λ i. record { version = v i; heap = heap i }

-- what was read is the one value that the text spells, where it spells one at most and a fault excludes all
pub GivesOnly-from_read : {A : Type 0} (Spells : A → Type 0) (fault : Option LineFault) (result : Result A ScriptFault) →
    ((one other : A) → Spells one → Spells other → one ≡ other) → ((value : A) → Spells value → fault ≡ None) →
    IfOk result Spells → IfErr result (FailsBy fault) → GivesOnly Spells result
GivesOnly-from_read Spells fault (Ok read) one none found failed = λ other h. one other read h found
GivesOnly-from_read Spells fault (Err faults.Memory) one none found failed = tt
GivesOnly-from_read Spells fault (Err (faults.Line line)) one none found failed = λ other h. let no = none other h in cc

-- what is to be known of a kind of text: its first line tells the version, which is one that it has, and each line behind is of words that have no fault and tell it
pub record IsReadable {L : Type 0} (judge : Judge) (header : ℕ → List ℕ) (words : L → List (List ℕ)) (MayFollow : Preamble → L → Type 0) (Has : ℕ → Type 0) : Type 0 where
  pub header_above : (version : ℕ) → Has version → IsAbove 31 (header version)
  pub header_told : (version : ℕ) → Has version → judge.version_of (header version) ≡ Some version
  pub above : (front : Preamble) (line : L) → IsPreamble front → MayFollow front line → AllByRecursion (IsAbove 32) (words line)
  pub again : (front : Preamble) (line : L) → IsPreamble front → MayFollow front line → words_of (sentence (words line)) ≡ words line
  pub faultless : (front : Preamble) (line : L) → IsPreamble front → MayFollow front line → judge.words_fault front (words line) ≡ None
  pub tell : List (List ℕ) → L
  pub told : (front : Preamble) (line : L) → IsPreamble front → MayFollow front line → tell (words line) ≡ line

module _ (L : Type 0) (judge : Judge) (header : ℕ → List ℕ) (words : L → List (List ℕ)) (MayFollow : Preamble → L → Type 0) (Has : ℕ → Type 0) (readable : IsReadable judge header words MayFollow Has) where
  -- no fault is found in the lines of a text
  lines_fault-none : (front : Preamble) (number : ℕ) (lines : List L) → IsPreamble front → AllByRecursion (MayFollow front) lines →
      number + length lines ≤ most_lines + 1 → lines_fault judge front number (map (λ line. sentence (words line)) lines) ≡ None
  lines_fault-none front number [] is h short = refl
  lines_fault-none front number (line ∷ lines) is h short =
      let early : nat_lt most_lines number ≡ false = search rules in
      rw (early, readable.again front line is h.0, readable.faultless front line is h.0) (lines_fault-none front (number + 1) lines is h.1 (omega arith))

  -- nor in the text
  pub text_fault-none : (text : List ℕ) (front : Preamble) (behind : List L) → Has front.version → IsText judge.takes header words MayFollow text front behind → text_fault judge text ≡ None
  unfolding text_fault
  text_fault-none text front behind has h =
      let is = h.told in
      rw (h.spelled, readable.header_told front.version has, heap_of-heap_line front is.preamble, is.taken)
      (lines_fault-none front 3 behind is.preamble is.lines (omega (arith, is.short)))

  -- the texts of lines tell the lines
  lines-from_texts : (front : Preamble) (lines : List L) → IsPreamble front → AllByRecursion (MayFollow front) lines →
      map (λ text. readable.tell (words_of text)) (map (λ line. sentence (words line)) lines) ≡ lines
  lines-from_texts front [] is h = refl
  lines-from_texts front (line ∷ lines) is h =
      rw (readable.again front line is h.0, readable.told front line is h.0, lines-from_texts front lines is h.1) refl

  -- two preambles that one text tells are one
  pub equal_texts_tell_one_preamble : (text : List ℕ) (one other : Preamble) (lines more : List L) → Has one.version → Has other.version → IsText judge.takes header words MayFollow text one lines → IsText judge.takes header words MayFollow text other more → one ≡ other
  equal_texts_tell_one_preamble text one other lines more has also f g =
      let spelled : text_lines (header one.version) words one lines ≡ text_lines (header other.version) words other more = sym f.spelled ∙ g.spelled in
      let headers : header one.version ≡ header other.version = cc in
      let heap_lines : heap_line one ≡ heap_line other = cc in
      let versions : ◌≡◌ {A = Option ℕ} (Some one.version) (Some other.version) =
      sym (readable.header_told one.version has) ∙ ap judge.version_of headers ∙ readable.header_told other.version also in
      equal_texts_same_preamble one other f.told.preamble g.told.preamble (cc) heap_lines

  -- and so are two lists of lines
  pub equal_texts_tell_one_list : (text : List ℕ) (one other : Preamble) (lines more : List L) → IsText judge.takes header words MayFollow text one lines → IsText judge.takes header words MayFollow text other more → lines ≡ more
  equal_texts_tell_one_list text one other lines more f g =
      let spelled : text_lines (header one.version) words one lines ≡ text_lines (header other.version) words other more = sym f.spelled ∙ g.spelled in
      let texts : map (λ line. sentence (words line)) lines ≡ map (λ line. sentence (words line)) more = cc in
      sym (lines-from_texts one lines f.told.preamble f.told.lines)
      ∙ ap (map (λ text. readable.tell (words_of text))) texts
      ∙ lines-from_texts other more g.told.preamble g.told.lines

  -- the lines of a text have no line feed in them
  lines-above : (front : Preamble) (lines : List L) → IsPreamble front → AllByRecursion (MayFollow front) lines → AllByRecursion (IsAbove 31) (map (λ line. sentence (words line)) lines)
  lines-above front [] is h = tt
  lines-above front (line ∷ lines) is h = (IsAbove-sentence (words line) (readable.above front line is h.0), lines-above front lines is h.1)

  -- what was written of a preamble and lines spells them
  pub IsText-written : (text : List ℕ) (front : Preamble) (behind : List L) → Has front.version → text ≡ text_of (text_lines (header front.version) words front behind) → IsTold judge.takes MayFollow front behind →
      IsText judge.takes header words MayFollow text front behind
  IsText-written text front behind has e is =
      let heap : IsAbove 31 (heap_line front) = IsAbove-sentence (codes "heap" ∷ heap_words front) (heap_words-above front is.preamble) in
      let above : AllByRecursion (IsAbove 31) (text_lines (header front.version) words front behind) = (readable.header_above front.version has, (heap, lines-above front behind is.preamble is.lines)) in
      record { spelled = rw e (lines_of-text_of (text_lines (header front.version) words front behind) above); told = is }
