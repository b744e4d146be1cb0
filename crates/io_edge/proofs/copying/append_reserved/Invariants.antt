use Rattle.std.proofs.Common.{◌≡◌, ◌++◌, take, vec_capacity}
use Rattle.io_edge.proofs.copying.append_reserved.Given as goal

abbrev pub invariant-loop-byte : goal.invariant-loop-byte
invariant-loop-byte l = record {
  items : l.bytes.items ≡ l.fn.bytes.items ++ take l.byte-index l.piece;
  capacity : vec_capacity l.bytes ≡ vec_capacity l.fn.bytes;
}
