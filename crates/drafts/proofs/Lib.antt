pub mod Firsts
pub mod Ranging
pub mod Offering
