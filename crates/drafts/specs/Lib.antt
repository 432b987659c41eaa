pub mod Faults
pub mod Numbers
pub mod Entries
pub mod Stages
pub mod Checks
pub mod Offered
