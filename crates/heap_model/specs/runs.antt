-- What a history tells of a run of scripts, whatever the run is made on.
pub mod Endings
pub mod Told
