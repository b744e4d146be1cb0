pub mod SameSeat
