-- What a pointer owns may go to another thread, since its party may.
use Rattle.std.proofs.Common.{Option, Some, None}
use mir.Raw.{raw}
use base.Fraction.{full_share}
use base.Shift.{Keyless}
use denote.Memory.{lone}
use denote.RawPtr.{Ptr, block_ptr, null_ptr, lies_at}
use denote.Struct.Owning.{fields}
use denote.Param.Send.{IsSend, AllSend, part_keyless, owning_send, sendable}
use Rattle.std.proofs.Crossing as heap
use Rattle.std.proofs.alloc.Global.TheSendSync as allocator
use Rattle.std.specs.declared.alloc.Global.{Global}
use Rattle.fodderpause_c.specs.Pointers.{owns_party}
use Rattle.fodderpause_c.specs.contracts.party.Party as party
use Rattle.fodderpause_c.specs.contracts.pointer.PartyPointer.{the_row, the_type}
use Rattle.fodderpause_c.specs.declared.party.Party.{Party}
use Rattle.fodderpause_c.proofs.party.Party.TheSendSync.{the_send}

-- a party that lies somewhere
lies : (p : Ptr) (x : Party) → Keyless (lies_at party.the_row full_share p x)
lies (block_ptr b o) x = part_keyless party.the_row the_send full_share x b o
lies null_ptr x = tt

-- and the right to free its block
owned : (a : Global) (p : Ptr) (held : Option Party) → Keyless (owns_party a p held)
owned a p None = tt
owned a p (Some x) = (lies p x, heap.frees.frees a (raw (lone party.the_row.mir)) p)

pub send : IsSend the_row
send =
    let all : AllSend (fields the_type) = (search sendable, (allocator.the_field_send, tt)) in
    owning_send the_type all (λ d. owned d.alloc d.at d.party) (λ k x w. tt)
