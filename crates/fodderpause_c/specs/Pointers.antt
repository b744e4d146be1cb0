-- What the pointer of a party's box owns.
use Rattle.std.specs.Prelude.{Option, Some, None}
use base.Fml.{Fml, ftrue}
use denote.RawPtr.{Ptr}
use Rattle.std.specs.Box.Ownership.{box_owns}
use Rattle.std.specs.declared.alloc.Global.{Global}
use Rattle.std.specs.contracts.impls.GlobalAllocator.TheImpl.{ghosts}
use Rattle.fodderpause_c.specs.declared.party.Party.{Party}
use Rattle.fodderpause_c.specs.contracts.party.Party.{the_row}

-- the box at the pointer, where there is one
abbrev pub owns_party : Global → Ptr → Option Party → Fml
owns_party alloc p None = ftrue
owns_party alloc p (Some party) = box_owns (ghosts.dealloc_token alloc) the_row p party
