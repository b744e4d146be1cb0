use Rattle.std.proofs.Common.{◌<◌, ◌∙◌, length, take, is_some, refl, arith}
use Rattle.script_text.specs.declared.script.Line.TheVariants as lines
use Rattle.heap_runs.specs.PlayHeap.{PlayState}
use Rattle.heap_runs.specs.Pressed.{StandsByWay}
use Rattle.heap_runs.proofs.Answering.{is_playing_at_first, is_playing_after_turns}
use Rattle.heap_runs.proofs.Lines.{command_adds_its_line, stand_for_one_more_line, notes_one_more_line, turns_add_their_line}
use Rattle.heap_runs.proofs.PressPlaying.{is_playing_after_line}
use Rattle.heap_runs.proofs.Slacking.{mapped_some_is_some}
use Rattle.heap_runs.proofs.NextLine.{is_next_call, taken_lines_with_next}
use Rattle.heap_runs.proofs.playing.answer_lines.Goals as goal
use Rattle.heap_runs.proofs.playing.answer_lines.Goals.{in-Seat+in_ok-whole-in-Seat, in-Turns+in_ok-note_turns-in-Turns}

pub loop-line-init : goal.loop-line-init
loop-line-init g c = record {
  plays = is_playing_at_first c.args.script.now.heap (g.H.PlayHeap.state c.args.whole) c.requires.heap c.requires.fresh;
  notes = refl;
  answered = c.requires.fresh;
  pace = refl;
}

pub answer_seat_line-requires : goal.answer_seat_line-requires
answer_seat_line-requires g c =
    let now = c.loop-line in
    (is_next_call c.args.script.now c.as_slice-line-items.result.now now.line-index _ c.in-Seat.seat c.in-Seat.command (g.H.PlayHeap.state now.whole) c.as_slice-line-items.ensures c.requires.form
    (omega (arith, c.loop-line-test.true)) c.in-Seat.is now.invariant.plays).may

pub loop-line-preserved : goal.loop-line-preserved
loop-line-preserved g c =
    let now = c.loop-line in
    let old : PlayState = g.H.PlayHeap.state now.whole in
    let script = c.args.script.now in
    let items = c.as_slice-line-items.result.now in
    let all = c.as_slice-line-items.ensures in
    let below : now.line-index < length items = omega (arith, c.loop-line-test.true) in
    let laws = c.seat_laws.ensures in
    let way = c.args.way in
    let paced = is_some c.args.pace in
    let stands = StandsByWay way script.heap paced in
    let first : PlayState = g.H.PlayHeap.state c.args.whole in
    elim c.match-line.branch [
      | in-Seat+in_ok-whole-in-Seat w ↦
          let line = w.in-Seat in
          let new : PlayState = g.H.PlayHeap.state w.in_ok-whole-in-Seat.whole in
          let notes = w.in_ok-whole-in-Seat.ensures.notes in
          let is = mapped_some_is_some _ now.pace ∙ now.invariant.pace in
          let next = is_next_call script items now.line-index _ line.seat line.command old all c.requires.form below line.is now.invariant.plays in
          rw (w.whole-is, w.pace-is, taken_lines_with_next script items now.line-index _ (lines.Seat line.seat line.command) all c.requires.form below line.is)
          (record {
            plays = is_playing_after_line laws.counts laws.others way _ script.heap old new line.seat line.command notes now.line-index next.stays now.invariant.plays;
            notes = notes_one_more_line way paced (take now.line-index items) (lines.Seat line.seat line.command) first old new now.invariant.notes (_, is, notes);
            answered = stand_for_one_more_line stands (take now.line-index items) (lines.Seat line.seat line.command) old new now.invariant.answered (command_adds_its_line way _ script.heap paced old new line.seat line.command is now.invariant.plays.of_heap notes);
            pace = w.in_ok-whole-in-Seat.ensures.pace ∙ now.invariant.pace;
          })
      | in-Turns+in_ok-note_turns-in-Turns w ↦
          let line = w.in-Turns in
          let new : PlayState = g.H.PlayHeap.state w.note_turns.new.whole in
          let notes = w.in_ok-note_turns-in-Turns.ensures.notes in
          rw (w.whole-is, w.pace-is, taken_lines_with_next script items now.line-index _ (lines.Turns line.command) all c.requires.form below line.is)
          (record {
            plays = is_playing_after_turns script.heap old new line.command notes now.line-index now.invariant.plays;
            notes = notes_one_more_line way paced (take now.line-index items) (lines.Turns line.command) first old new now.invariant.notes notes;
            answered = stand_for_one_more_line stands (take now.line-index items) (lines.Turns line.command) old new now.invariant.answered (turns_add_their_line way script.heap paced old new line.command notes);
            pace = now.invariant.pace;
          })
    ]
