pub mod Histories
mod Premises
