pub mod Supply
pub mod Gcd
pub mod Law
pub mod Once
