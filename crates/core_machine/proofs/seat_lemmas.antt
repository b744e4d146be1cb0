-- A seat's own data fit together, whatever move it makes.
pub mod Aside
pub mod FieldPoints
pub mod Fitting
pub mod FittingEntries
pub mod FittingAccess
pub mod Held
pub mod LastRun
pub mod PollingOver
pub mod Resting
pub mod StepNeeds
