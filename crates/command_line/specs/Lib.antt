pub mod OptionTable
pub mod Asking
