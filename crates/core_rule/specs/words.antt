-- What bits of control words say of their fragments.
pub mod ControlWords
