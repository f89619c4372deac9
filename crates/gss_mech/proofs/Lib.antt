pub mod Masks
pub mod ListedKeys
