-- A fragment's spine stands as before, and its words lead where they led.
use Rattle.std.proofs.Common.{◌≡◌, ℕ, ◌+◌, ◌<◌, List, refl, ap, ◌∙◌, sym, arith}
use Rattle.core_rule.proofs.Terms.{Heap, Word, spine_words_in, at, WordPointsTo}
use Rattle.core_rule.proofs.colours.LeadsFrames.{SameSources, leads_now_where_same}
use Rattle.core_rule.proofs.colours.SourceCases.{TellsNoSpine, source_is_of_word}

-- the fragment has as many spine words; where it has some its spine has the place that it had, and they lead where they led
pub record SpineStays (heap : Heap) (words now : List ℕ) (f : ℕ) : Type 0 where
  pub as_many : spine_words_in (at heap now (Word f 0)) ≡ spine_words_in (at heap words (Word f 0))
  pub there : 0 < spine_words_in (at heap words (Word f 0)) → at heap now (Word f 2) ≡ at heap words (Word f 2)
  pub leads : (k g : ℕ) → WordPointsTo heap words f (4 + k) g → WordPointsTo heap now f (4 + k) g

-- all its sources are the same
pub spine_stays_where_same : (heap : Heap) (words now : List ℕ) (f : ℕ) → SameSources heap words now f → SpineStays heap words now f
spine_stays_where_same heap words now f same = record {
  as_many = ap spine_words_in (same.parts 0 (omega arith));
  there = λ some. same.parts 2 (omega arith);
  leads = λ k g leads. leads_now_where_same heap words now f same (4 + k) g leads;
}

-- or it has no spine before and after
pub spine_stays_where_none : (heap : Heap) (words now : List ℕ) (f : ℕ) → TellsNoSpine heap words f → TellsNoSpine heap now f → SpineStays heap words now f
spine_stays_where_none heap words now f before after = record {
  as_many = after ∙ sym before;
  there = λ some. absurd (omega (arith, some, before));
  leads = λ k g leads. absurd (let first = source_is_of_word heap words f before (4 + k) g leads in omega (arith, first));
}

-- nothing changes
pub same_sources_of_itself : (heap : Heap) (words : List ℕ) (f : ℕ) → SameSources heap words words f
same_sources_of_itself heap words f = record { parts = λ part below. refl; spine = λ k within. refl }
