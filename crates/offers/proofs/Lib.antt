pub mod Offering
pub mod Judging
pub mod Laying
