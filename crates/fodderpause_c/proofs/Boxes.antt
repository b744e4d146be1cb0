-- The pointer of a party owns what a box with that party owns.
use Rattle.std.proofs.Common.{◌≡◌, [], Option, Some, None, IsSome, refl}
use mir.Syntax.{impl, tnil, dnil}
use denote.RattleType.{RattleType}
use denote.Signature.{Slot, plain}
use Rattle.std.proofs.BoxSteps.Form.{Bx}
use Rattle.std.specs.contracts.alloc.Global as allocator
use Rattle.std.specs.contracts.impls.GlobalAllocator.TheImpl.{ghosts, dict}
use Rattle.std.proofs.alloc.Global.TheLaws as allocator_laws
use Rattle.handle_box.specs.contracts.raw_box.RawBox as raw_box
use Rattle.fodderpause_c.specs.contracts.party.Party as party
use Rattle.fodderpause_c.proofs.party.Party.TheLaws as party_laws
use Rattle.fodderpause_c.specs.contracts.pointer.PartyPointer as pointer

-- a box with a party
abbrev pub boxed : Bx
boxed = record { row = party.the_row; laws = party_laws.the_row_laws; al = record { row = allocator.the_row; laws = allocator_laws.the_row_laws; g = ghosts; d = dict; drops = impl [] tnil dnil } }

-- such a box, taken apart
abbrev pub of_raw_box : Slot 0
of_raw_box = plain (λ _. raw_box.the_row party.the_row allocator.the_row ghosts)

-- the pointer of one, or of none
abbrev pub of_pointer : Slot 0
of_pointer = plain (λ _. pointer.the_row)

-- what is there
pub found_in : {A : Type 0} → (held : Option A) → IsSome held → (a : A) × (held ≡ Some a)
found_in (Some a) there = (a, refl)
found_in None there = cc
