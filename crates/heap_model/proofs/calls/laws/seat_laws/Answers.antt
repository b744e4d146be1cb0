-- The laws of a seat's calls.
use Rattle.heap_model.proofs.call_lemmas.BoardLemmas.{board_stays}
use Rattle.heap_model.proofs.call_lemmas.SeatCallLemmas.{each_call_is_short, each_call_leaves_room}
use Rattle.heap_model.proofs.call_lemmas.SeatGrowth.{each_call_counts, each_call_grows, each_call_spares_others}
use Rattle.heap_model.proofs.calls.laws.seat_laws.Goals as goal

pub returns-clause-short : goal.returns-clause-short
returns-clause-short c = each_call_is_short

pub returns-clause-room : goal.returns-clause-room
returns-clause-room c = each_call_leaves_room

pub returns-clause-board : goal.returns-clause-board
returns-clause-board c = board_stays

pub returns-clause-grows : goal.returns-clause-grows
returns-clause-grows c = each_call_grows

pub returns-clause-counts : goal.returns-clause-counts
returns-clause-counts c = each_call_counts

pub returns-clause-others : goal.returns-clause-others
returns-clause-others c = each_call_spares_others
