use Rattle.std.proofs.Common.{◌≡◌, [], take, is_some}
use Rattle.heap_runs.specs.Play.{StandForEach}
use Rattle.heap_runs.specs.Playing.{IsPlaying, NotesLines}
use Rattle.heap_runs.specs.Pressed.{StandsByWay}
use Rattle.heap_runs.proofs.playing.answer_lines.Given as goal

-- the lines so far are answered
abbrev pub invariant-loop-line : goal.invariant-loop-line
invariant-loop-line g l = record {
  plays : IsPlaying l.script.heap (g.H.PlayHeap.state l.whole) l.line-index;
  notes : NotesLines l.fn.way (is_some l.fn.pace) (take l.line-index l.line-items) (g.H.PlayHeap.state l.fn.whole) (g.H.PlayHeap.state l.whole);
  answered : StandForEach (StandsByWay l.fn.way l.script.heap (is_some l.fn.pace)) [] (take l.line-index l.line-items) (g.H.PlayHeap.state l.whole).entries;
  pace : is_some l.pace ≡ is_some l.fn.pace;
}
