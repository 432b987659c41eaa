pub mod Settling
pub mod Answering
pub mod Loading
pub mod Showing
pub mod TextLoading
