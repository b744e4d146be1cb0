-- Which word each step touches, and what it does with it.
use Rattle.std.specs.Prelude.{ℕ, ◌+◌, ◌-◌, ◌/◌, ◌%◌, ◌^◌, ◌==◌, if◌then◌else◌, bit_and, bit_or}
use Rattle.heap_words.specs.declared.phase.TheConstants.{LEFT}
use Rattle.heap_words.specs.Spot.{spot_word}
pub use Rattle.heap_words.specs.Control.{all_taken, all_but_of, word_without_taken, birth_bits_of, shade_bit_of, blacken_bit_of, free_mask_of, marks_cleared}
use Rattle.heap_model.specs.Limits.{group_fragments}
use Rattle.core_machine.specs.declared.table.address.Address.{Address}
use Rattle.core_machine.specs.declared.table.address.Address.TheVariants as addresses
use Rattle.core_machine.specs.declared.step.operation.Operation.{Operation}
use Rattle.core_machine.specs.declared.step.operation.Operation.TheVariants.{Load, Store, Exchange, CompareExchange, Or, And, Add, Subtract}
use Rattle.core_machine.specs.declared.step.Step.{Step}
use Rattle.core_machine.specs.declared.step.Step.TheVariants.{Making, PollLoad, Access, Spine, Handshake, Copying, Turning}
use Rattle.core_machine.specs.declared.step.MakingStep.{MakingStep}
use Rattle.core_machine.specs.declared.step.MakingStep.TheVariants.{Claim, GiveBack, NewbornStore, Birth, LastBirth}
use Rattle.core_machine.specs.declared.step.AccessStep.{AccessStep}
use Rattle.core_machine.specs.declared.step.AccessStep.TheVariants.{WalkLoad, NameLoad, GetLoad, OldLoad, Shade, Swap, CompareSwap}
use Rattle.core_machine.specs.declared.step.SpineStep.{SpineStep}
use Rattle.core_machine.specs.declared.step.SpineStep.TheVariants.{BudgetAdd, BudgetTakeBack, SpotClaim, SpineStore, AddressLoad, WordLoad}
use Rattle.core_machine.specs.declared.step.HandshakeStep.{HandshakeStep}
use Rattle.core_machine.specs.declared.step.HandshakeStep.TheVariants.{AnswerStore, LeaveStore}
use Rattle.core_machine.specs.declared.step.CopyingStep.{CopyingStep}
use Rattle.core_machine.specs.declared.step.CopyingStep.TheVariants.{FlipStore, CopyClaim, CopyLoad, CopyStore, SwingStore, BudgetReturn}
use Rattle.core_machine.specs.declared.step.TurningStep.{TurningStep}
use Rattle.core_machine.specs.declared.step.TurningStep.TheVariants as turning
use Rattle.heap_words.specs.Newborn.{spine_word}

-- the word that a step of making touches
abbrev pub making_address : MakingStep → Address
making_address (Claim group) = addresses.Control group
making_address (GiveBack group bits) = addresses.Control group
making_address (NewbornStore fragment part word) = addresses.Word fragment part
making_address (Birth group bits black) = addresses.Control group
making_address (LastBirth group bits black) = addresses.Control group

-- the word that a step of access touches
abbrev pub access_address : AccessStep → Address
access_address (WalkLoad fragment) = addresses.Word fragment 0
access_address (NameLoad head) = addresses.Word head 1
access_address (GetLoad fragment part) = addresses.Word fragment part
access_address (OldLoad fragment part) = addresses.Word fragment part
access_address (Shade fragment) = addresses.Control (fragment / group_fragments)
access_address (Swap fragment part word) = addresses.Word fragment part
access_address (CompareSwap fragment part old new) = addresses.Word fragment part

-- the word that a step on spines touches
abbrev pub spine_address : SpineStep → Address
spine_address (BudgetAdd words) = addresses.Budget
spine_address (BudgetTakeBack words) = addresses.Budget
spine_address (SpotClaim words) = addresses.Spot
spine_address (SpineStore half offset fragment) = addresses.Spine half offset
spine_address (AddressLoad sentinel) = addresses.Word sentinel 2
spine_address (WordLoad half offset) = addresses.Spine half offset

-- the word that an answer or a leave touches: the seat's own
abbrev pub handshake_address : HandshakeStep → Address
handshake_address (AnswerStore seat phase) = addresses.Answer seat
handshake_address (LeaveStore seat) = addresses.Answer seat

-- the word that a step of copying touches
abbrev pub copying_address : CopyingStep → Address
copying_address (FlipStore half) = addresses.Spot
copying_address (CopyClaim words) = addresses.Spot
copying_address (CopyLoad half offset) = addresses.Spine half offset
copying_address (CopyStore half offset word) = addresses.Spine half offset
copying_address (SwingStore sentinel spot) = addresses.Word sentinel 2
copying_address (BudgetReturn words) = addresses.Budget

-- the word that a step of the collector touches
abbrev pub turning_address : TurningStep → Address
turning_address (turning.LookLoad seat) = addresses.Answer seat
turning_address (turning.AdvanceStore phase) = addresses.Phase
turning_address (turning.GroupLoad group) = addresses.Control group
turning_address (turning.ScanLoad fragment part) = addresses.Word fragment part
turning_address (turning.MarkShade fragment) = addresses.Control (fragment / group_fragments)
turning_address (turning.Blacken fragment) = addresses.Control (fragment / group_fragments)
turning_address (turning.MetaLoad fragment) = addresses.Word fragment 0
turning_address (turning.Free group bits) = addresses.Control group
turning_address (turning.Clear group) = addresses.Control group
turning_address (turning.EndAdvance phase kept) = addresses.Phase

-- the word that a step touches
abbrev pub address_of : Step → Address
address_of (Making step) = making_address step
address_of PollLoad = addresses.Phase
address_of (Access step) = access_address step
address_of (Spine step) = spine_address step
address_of (Handshake step) = handshake_address step
address_of (Copying step) = copying_address step
address_of (Turning step) = turning_address step

-- what a step of making does with its word
abbrev pub making_operation : MakingStep → Operation
making_operation (Claim group) = Or all_taken
making_operation (GiveBack group bits) = And (all_but_of bits)
making_operation (NewbornStore fragment part word) = Store word
making_operation (Birth group bits black) = Or (birth_bits_of black bits)
making_operation (LastBirth group bits black) = Or (birth_bits_of black bits)

-- what a step of access does with its word
abbrev pub access_operation : AccessStep → Operation
access_operation (WalkLoad fragment) = Load
access_operation (NameLoad head) = Load
access_operation (GetLoad fragment part) = Load
access_operation (OldLoad fragment part) = Load
access_operation (Shade fragment) = Or (shade_bit_of fragment)
access_operation (Swap fragment part word) = Exchange word
access_operation (CompareSwap fragment part old new) = CompareExchange old new

-- what a step on spines does with its word
abbrev pub spine_operation : SpineStep → Operation
spine_operation (BudgetAdd words) = Add words
spine_operation (BudgetTakeBack words) = Subtract words
spine_operation (SpotClaim words) = Add words
spine_operation (SpineStore half offset fragment) = Store (spine_word fragment)
spine_operation (AddressLoad sentinel) = Load
spine_operation (WordLoad half offset) = Load

-- what an answer or a leave does with its word
abbrev pub handshake_operation : HandshakeStep → Operation
handshake_operation (AnswerStore seat phase) = Store phase
handshake_operation (LeaveStore seat) = Store LEFT

-- what a step of copying does with its word
abbrev pub copying_operation : CopyingStep → Operation
copying_operation (FlipStore half) = Store (spot_word (record { half = half; offset = 0 }))
copying_operation (CopyClaim words) = Add words
copying_operation (CopyLoad half offset) = Load
copying_operation (CopyStore half offset word) = Store word
copying_operation (SwingStore sentinel spot) = Store spot
copying_operation (BudgetReturn words) = Subtract words

-- what a step of the collector does with its word
abbrev pub turning_operation : TurningStep → Operation
turning_operation (turning.LookLoad seat) = Load
turning_operation (turning.AdvanceStore phase) = Store phase
turning_operation (turning.GroupLoad group) = Load
turning_operation (turning.ScanLoad fragment part) = Load
turning_operation (turning.MarkShade fragment) = Or (shade_bit_of fragment)
turning_operation (turning.Blacken fragment) = Or (blacken_bit_of fragment)
turning_operation (turning.MetaLoad fragment) = Load
turning_operation (turning.Free group bits) = And (free_mask_of bits)
turning_operation (turning.Clear group) = And marks_cleared
turning_operation (turning.EndAdvance phase kept) = Store phase

-- what a step does with its word
abbrev pub operation_of : Step → Operation
operation_of (Making step) = making_operation step
operation_of PollLoad = Load
operation_of (Access step) = access_operation step
operation_of (Spine step) = spine_operation step
operation_of (Handshake step) = handshake_operation step
operation_of (Copying step) = copying_operation step
operation_of (Turning step) = turning_operation step

-- the word that an operation leaves where it found this one; a load leaves it as it is
abbrev pub operation_result : Operation → ℕ → ℕ
operation_result Load found = found
operation_result (Store word) found = word
operation_result (Exchange word) found = word
operation_result (CompareExchange old new) found = if found == old then new else found
operation_result (Or bits) found = bit_or found bits
operation_result (And bits) found = bit_and found bits
operation_result (Add number) found = (found + number) % 2 ^ 64
operation_result (Subtract number) found = (found + 2 ^ 64 - number) % 2 ^ 64

-- the word that a step leaves where it found this one
abbrev pub word_after : Step → ℕ → ℕ
word_after step found = operation_result (operation_of step) found
