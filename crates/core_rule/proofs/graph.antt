-- The graph after a reply, a register put, a cell set, an object made.
pub mod Numbering
pub mod IdsGrowth
pub mod SameNodes
pub mod PutRegister
pub mod SeenStamps
pub mod SameValues
pub mod ObjectReplies
pub mod FoundCells
pub mod CompareReplies
pub mod LocalReplies
pub mod ToldGraph
